-- Walks over a file: tables of the places at which its items start.
use Rattle.std.specs.Prelude.{ℕ, zero, suc, ◌+◌, ◌*◌, cond, Result, Ok, Err, List, [], ◌∷◌, ltb, eqb, length, get_or}
use Rattle.ol_spec.specs.Syntax.{Node, File}
use Rattle.ol_spec.specs.Limits.{base}
use Rattle.ol_spec.specs.Read.{Read, got, fault, Reader, then_read, count_r, section_r, enum_r, constant_r, node_r, at_end}
use Rattle.ol_spec.specs.Answers.{fault_at}
use Rattle.ol_spec.specs.declared.Fault.{Fault}
use Rattle.ol_spec.specs.declared.Limits.{Limits}
use Rattle.ol_tables.specs.Walks.{skip_at}
use Rattle.ol_ir.specs.Nodes.{equations_r}
use Rattle.ol_ir.specs.declared.Loaded.{Loaded}

-- the place of a placed item
abbrev pub place_of : {A : Type 0} → ℕ × A → ℕ
place_of p = p.0

-- how many enums and nodes a file has, or a fault
abbrev pub Loading : Type 0
Loading = Result Loaded Fault

abbrev pub loaded_with : ℕ → ℕ → Loaded
loaded_with e n = record { enums = e; nodes = n }

-- how many enums and nodes a file has that was read
unfoldable pub loaded_of : Read File → Loading
loaded_of (got f at) = Ok (loaded_with (length f.enums) (length f.nodes))
loaded_of (fault n p) = Err (fault_at n p)

-- how many nodes were read, behind so many enums
unfoldable pub nodes_of : ℕ → Read (List Node) → Loading
nodes_of enums (got ns at) = Ok (loaded_with enums (length ns))
nodes_of enums (fault n p) = Err (fault_at n p)

-- the nodes, to the end of the bytes s
unfoldable pub last_nodes : List ℕ → Limits → ℕ → Reader (List Node)
last_nodes s l enums at = then_read (section_r s 1 l.nodes (node_r s l enums) at) (at_end s)

module _ {A : Type 0} where
  unfoldable pub on_places : Read A → (ℕ → List ℕ) → List ℕ
  on_places (got a at) k = k at
  on_places (fault n p) k = []

  -- the places at which so many items start, up to the first that is a fault
  unfoldable pub places_of : ℕ → Reader A → ℕ → List ℕ
  places_of zero r at = []
  places_of (suc n) r at = at ∷ on_places (r at) (places_of n r)

-- the places that follow a reading; none behind a fault
unfoldable pub after_read : {A : Type 0} → Read A → (A → ℕ → List ℕ) → List ℕ
after_read (got a at) k = k a at
after_read (fault n p) k = []

-- ---- for any bytes

-- where the equation at `at` ends, passed over: its names, then one expression. Where the file ends, no byte
unfoldable pub skip_equation_at : List ℕ → ℕ → ℕ
skip_equation_at s at = cond (ltb at (length s)) (skip_at s 1 (at + 1 + 2 * get_or s at 0)) at

-- the places at which so many equations start, each passed over
unfoldable pub equation_places : ℕ → List ℕ → ℕ → List ℕ
equation_places zero s at = []
equation_places (suc n) s at = at ∷ equation_places n s (skip_equation_at s at)

-- the places of the equations of the node at `at`; none, where a fault stands before them
unfoldable pub start_places : List ℕ → Limits → ℕ → ℕ → List ℕ
start_places s l enums at = after_read (equations_r s l enums at) (λ n p. equation_places n s p)

-- the places of the nodes whose count stands at `at`, up to the first that is a fault
unfoldable pub node_places : List ℕ → Limits → ℕ → ℕ → List ℕ
node_places s l enums at = after_read (count_r s 1 l.nodes at) (λ n p. places_of n (node_r s l enums) p)

-- those of a file, behind its format byte
unfoldable pub file_places : List ℕ → Limits → List ℕ
file_places s l = after_read (section_r s 0 l.enums (enum_r s l) 1) (λ es p. after_read (section_r s 0 l.constants (constant_r s l (length es)) p) (λ cs q. node_places s l (length es) q))

-- those of a file, by the relay's own loader
unfoldable pub load_places : List ℕ → List ℕ
load_places s = cond (ltb 32768 (length s)) [] (cond (eqb (length s) 0) [] (cond (eqb (get_or s 0 0) 1) (file_places s base) []))
