-- What the builders of rows, places and types store, as the bytes tell it, and what the tables are for a file that reads without fault.
use Rattle.std.specs.Prelude.{ℕ, zero, suc, ◌+◌, ◌*◌, ◌%◌, ◌≤◌, ◌<◌, Bool, false, cond, List, [], ◌∷◌, map, ◌≡◌, eqb, length, get_or, set}
use Rattle.std.proofs.lemmas.List.Edits.{sets}
use Rattle.ol_spec.specs.Lists.{sum}
use Rattle.ol_spec.specs.Syntax.{bool, scalar, bool_lit, Variable, Constant, Node, File, variables}
use Rattle.ol_spec.specs.Places.{enum_size, variable_size, equations_start, placed_nodes, constants_start, nodes_start}
use Rattle.ol_spec.specs.Encode.{kind_code, name_bytes, section_bytes}
use Rattle.ol_spec.specs.Limits.{base}
use Rattle.ol_spec.specs.Within.{enum_fits}
use Rattle.ol_spec.specs.Step.{cell_count, input_count, output_count}
use Rattle.ol_tables.specs.Tables.{row_at, first_at, place_of, node_of, two_at, two_put, Told}
use Rattle.ol_tables.specs.Heads.{name_at, element_at, ty_length_at}
use Rattle.ol_tables.specs.Stands.{Listed}
use Rattle.ol_check.specs.Spans.{end_from, behind_variable, behind_enum}
use Rattle.ol_check.specs.declared.rows.Sections.{Sections}

-- ---- enums

abbrev pub Enums : List ℕ → ℕ → List (List ℕ) → Type 0
Enums s at es = Listed (section_bytes name_bytes) (enum_fits base) s at es

pub record EnumsAre (es : List (List ℕ)) (rows : List ℕ) (at r : ℕ) : Type 0 where
  pub ends : r ≡ at + sum (map enum_size es)
  pub firsts : (e : ℕ) → e < length es → first_at rows e ≡ get_or (get_or es e []) 0 0

-- the rows after the first variants of so many enums from `at` on are stored, the first being number e
unfoldable pub firsts_from : List ℕ → ℕ → ℕ → ℕ → List ℕ → List ℕ
firsts_from s e zero at rows = rows
firsts_from s e (suc n) at rows = firsts_from s (e + 1) n (behind_enum s at) (set rows (256 + e) (name_at s (at + 1)))

pub record EnumsStored (s rows rows' : List ℕ) (count at r : ℕ) : Type 0 where
  pub ends : r ≡ end_from (behind_enum s) count at
  pub stored : rows' ≡ firsts_from s 0 count at rows

-- ---- types

-- the scalar type at p in one byte: its code, and 16 times an enum's number, which is below 16
abbrev pub packed_at : List ℕ → ℕ → ℕ
packed_at s p = cond (eqb (get_or s p 0) 12) (12 + 16 * (get_or s (p + 1) 0 % 16)) (get_or s p 0)

-- the bytes after the type at `at` is stored in two of them from p on: its scalar type, or that of an array's elements, and an array's length
abbrev pub type_set : List ℕ → ℕ → List ℕ → ℕ → List ℕ
type_set types p s at = set (set types p (packed_at s (element_at s at))) (p + 1) (ty_length_at s at)

abbrev pub no_variable : Variable
no_variable = record { name = 0; ty = scalar bool }

abbrev pub no_constant : Constant
no_constant = record { name = 0; ty = scalar bool; value = bool_lit false }

pub record VariablesAre (vs : List Variable) (types : List ℕ) (first at r : ℕ) : Type 0 where
  pub ends : r ≡ at + sum (map variable_size vs)
  pub typed : (i : ℕ) → i < length vs → Told types (first + 2 * i) (get_or vs i no_variable).ty

-- the bytes after the types of so many variables from `at` on are stored, the first at p
unfoldable pub types_from : List ℕ → ℕ → ℕ → ℕ → List ℕ → List ℕ
types_from s p zero at types = types
types_from s p (suc n) at types = types_from s (p + 2) n (behind_variable s at) (type_set types p s (at + 2))

pub record TypesStored (s types types' : List ℕ) (first count at r : ℕ) : Type 0 where
  pub ends : r ≡ end_from (behind_variable s) count at
  pub stored : types' ≡ types_from s first count at types

-- ---- cells

-- how many cells a variable has whose array has this length; 0 is a scalar's
abbrev pub cells_for : ℕ → ℕ
cells_for n = cond (eqb n 0) 1 n

-- how many cells so many variables have whose types stand from p on
unfoldable pub cells_from : List ℕ → ℕ → ℕ → ℕ
cells_from types p zero = 0
cells_from types p (suc n) = cells_for (get_or types (p + 1) 0) + cells_from types (p + 2) n

-- the same, given whether arrays are declared
abbrev pub cells_by : Bool → List ℕ → ℕ → ℕ → ℕ
cells_by arrays types p n = cond arrays (cells_from types p n) n

-- ---- nodes

-- where the counts of the outputs, of the locals and of the equations of the node at `at` stand
abbrev pub outputs_at : List ℕ → ℕ → ℕ
outputs_at s at = end_from (behind_variable s) (get_or s (at + 1) 0) (at + 2)

abbrev pub locals_at : List ℕ → ℕ → ℕ
locals_at s at = end_from (behind_variable s) (get_or s (outputs_at s at) 0) (outputs_at s at + 1)

abbrev pub equations_at : List ℕ → ℕ → ℕ
equations_at s at = end_from (behind_variable s) (get_or s (locals_at s at) 0) (locals_at s at + 1)

-- the row of the node at `at`, with the size 0
abbrev pub row_from : List ℕ → ℕ → List ℕ
row_from s at =
    get_or s at 0 ∷ (equations_at s at + 1) ∷ get_or s (at + 1) 0 ∷ get_or s (outputs_at s at) 0 ∷ (get_or s (at + 1) 0 + get_or s (outputs_at s at) 0 + get_or s (locals_at s at) 0) ∷ get_or s (equations_at s at) 0 ∷ 0 ∷ at ∷ []

-- the bytes after the types of the node at `at` are stored from p on
abbrev pub node_types : List ℕ → ℕ → ℕ → List ℕ → List ℕ
node_types s p at types =
    types_from s (p + 2 * get_or s (at + 1) 0 + 2 * get_or s (outputs_at s at) 0) (get_or s (locals_at s at) 0) (locals_at s at + 1)
    (types_from s (p + 2 * get_or s (at + 1) 0) (get_or s (outputs_at s at) 0) (outputs_at s at + 1) (types_from s p (get_or s (at + 1) 0) (at + 2) types))

-- four numbers of two bytes each from p on
unfoldable pub counts_put : List ℕ → ℕ → ℕ → ℕ → ℕ → ℕ → List ℕ
counts_put tab p at a b c = two_put (two_put (two_put (two_put tab p at) (p + 2) a) (p + 4) b) (p + 6) c

-- and its numbers, as node k's: its place, and how many inputs, inputs and outputs, and variables it has
abbrev pub node_stored : List ℕ → ℕ → ℕ → ℕ → List ℕ → List ℕ
node_stored s plans k at tab =
    counts_put (node_types s (plans + at) at tab) (8 * k) at (get_or s (at + 1) 0) (get_or s (at + 1) 0 + get_or s (outputs_at s at) 0) (get_or s (at + 1) 0 + get_or s (outputs_at s at) 0 + get_or s (locals_at s at) 0)

pub record NodeStored (s rows rows' tab tab' : List ℕ) (plans k at : ℕ) : Type 0 where
  pub row : rows' ≡ sets rows (k * 8) (row_from s at)
  pub typed : tab' ≡ node_stored s plans k at tab

-- the rows and the bytes after those of so many nodes, each at its place, the first being number k
unfoldable pub rows_from : List ℕ → List ℕ → ℕ → ℕ → List ℕ → List ℕ
rows_from s places k zero rows = rows
rows_from s places k (suc n) rows = rows_from s places (k + 1) n (sets rows (k * 8) (row_from s (get_or places k 0)))

unfoldable pub nodes_stored : List ℕ → List ℕ → ℕ → ℕ → ℕ → List ℕ → List ℕ
nodes_stored s places plans k zero tab = tab
nodes_stored s places plans k (suc n) tab = nodes_stored s places plans (k + 1) n (node_stored s plans k (get_or places k 0) tab)

pub record NodesStored (s places rows rows' tab tab' : List ℕ) (plans count : ℕ) : Type 0 where
  pub stored : rows' ≡ rows_from s places 0 count rows
  pub typed : tab' ≡ nodes_stored s places plans 0 count tab

-- node k is n and stands at `at`: its row, the size apart
pub record NodeRow (n : Node) (at k : ℕ) (rows : List ℕ) : Type 0 where
  pub kind : row_at rows k 0 ≡ kind_code n.kind
  pub equations : row_at rows k 1 ≡ equations_start at n + 1
  pub inputs : row_at rows k 2 ≡ length n.inputs
  pub outputs : row_at rows k 3 ≡ length n.outputs
  pub variables : row_at rows k 4 ≡ length (variables n)
  pub count : row_at rows k 5 ≡ length n.equations
  pub place : row_at rows k 7 ≡ at

-- node k's place, and the types of its variables, at its place among the plans
pub record NodeTypes (n : Node) (at k : ℕ) (plans : ℕ) (tab : List ℕ) : Type 0 where
  pub place : two_at tab (8 * k) ≡ at
  pub are : (i : ℕ) → i < length (variables n) → Told tab (plans + at + 2 * i) (get_or (variables n) i no_variable).ty

-- the three numbers behind node k's place
pub record CountsAre (tab : List ℕ) (k a b c : ℕ) : Type 0 where
  pub first : two_at tab (8 * k + 2) ≡ a
  pub second : two_at tab (8 * k + 4) ≡ b
  pub third : two_at tab (8 * k + 6) ≡ c

-- how many inputs, inputs and outputs, and variables node k has, which is n; and how many cells these have
abbrev pub CountedBy : Node → ℕ → List ℕ → Type 0
CountedBy n k tab = CountsAre tab k (length n.inputs) (length n.inputs + length n.outputs) (length (variables n))

abbrev pub CellsCounted : Node → ℕ → List ℕ → Type 0
CellsCounted n k tab = CountsAre tab k (input_count n) (input_count n + output_count n) (cell_count n)

pub record NodeIs (n : Node) (at k : ℕ) (rows : List ℕ) (plans : ℕ) (tab : List ℕ) : Type 0 where
  pub row : NodeRow n at k rows
  pub typed : NodeTypes n at k plans tab
  pub counted : CountedBy n k tab

-- ---- the whole file

-- entry k is the place of node k
pub record PlacesAre (f : File) (places : List ℕ) : Type 0 where
  pub at : (k : ℕ) → k < length f.nodes → get_or places k 0 ≡ place_of (placed_nodes f) k

-- the places and the types of all nodes
abbrev pub Typed : File → ℕ → List ℕ → Type 0
Typed f plans tab = (k : ℕ) → k < length f.nodes → NodeTypes (node_of f k) (place_of (placed_nodes f) k) k plans tab

-- the row, the numbers and the types of each node
pub record NodesAre (f : File) (rows : List ℕ) (plans : ℕ) (tab : List ℕ) : Type 0 where
  pub row : (k : ℕ) → k < length f.nodes → NodeRow (node_of f k) (place_of (placed_nodes f) k) k rows
  pub typed : Typed f plans tab
  pub counted : (k : ℕ) → k < length f.nodes → CountedBy (node_of f k) k tab

-- the rows, but for the sizes, the first variants, the numbers and the types
pub record RowsAre (f : File) (rows : List ℕ) (plans : ℕ) (tab : List ℕ) : Type 0 where
  pub row : (k : ℕ) → k < length f.nodes → NodeRow (node_of f k) (place_of (placed_nodes f) k) k rows
  pub firsts : (e : ℕ) → e < length f.enums → first_at rows e ≡ get_or (get_or f.enums e []) 0 0
  pub typed : Typed f plans tab
  pub counted : (k : ℕ) → k < length f.nodes → CountedBy (node_of f k) k tab

-- where the counts of the constants and of the nodes stand
pub record SectionsAre (f : File) (r : Sections) : Type 0 where
  pub constants : r.constants + 1 ≡ constants_start f
  pub nodes : r.nodes + 1 ≡ nodes_start f

-- Between the nodes' numbers and the plans nothing is written. Entries that belong to no node, enum or variable of the file are free.
pub record TablesDone (f : File) (rows tab tab' : List ℕ) (plans : ℕ) (r : Sections) : Type 0 where
  pub sections : SectionsAre f r
  pub are : RowsAre f rows plans tab'
  pub kept : (x : ℕ) → 256 ≤ x → x < plans → get_or tab' x 0 ≡ get_or tab x 0

-- ---- the counts of cells, where arrays are declared

-- node k's numbers are stored, by the types of its variables
abbrev pub node_counted : List ℕ → ℕ → ℕ → List ℕ → List ℕ
node_counted rows plans k tab =
    counts_put tab (8 * k) (row_at rows k 7) (cells_from tab (plans + row_at rows k 7) (row_at rows k 2)) (cells_from tab (plans + row_at rows k 7) (row_at rows k 2 + row_at rows k 3))
    (cells_from tab (plans + row_at rows k 7) (row_at rows k 4))

-- and those of so many nodes, the first being number k
unfoldable pub counted_from : List ℕ → ℕ → ℕ → ℕ → List ℕ → List ℕ
counted_from rows plans k zero tab = tab
counted_from rows plans k (suc n) tab = counted_from rows plans (k + 1) n (node_counted rows plans k tab)

-- the rows' places and counts of so many nodes are small
abbrev pub SmallRows : List ℕ → ℕ → Type 0
SmallRows rows count = (k : ℕ) → k < count → (row_at rows k 2 < 256) × (row_at rows k 3 < 256) × (row_at rows k 4 < 256) × (row_at rows k 7 < 65536)

-- the numbers of all nodes are those of their cells; the types and all bytes behind the numbers are as before
pub record AllCounted (f : File) (plans : ℕ) (tab tab' : List ℕ) : Type 0 where
  pub counted : (k : ℕ) → k < length f.nodes → CellsCounted (node_of f k) k tab'
  pub typed : Typed f plans tab'
  pub kept : (x : ℕ) → 256 ≤ x → get_or tab' x 0 ≡ get_or tab x 0
