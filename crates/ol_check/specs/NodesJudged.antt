-- Faults 7 to 10 of a node's equations, and their slots.
use Rattle.std.specs.Prelude.{ℕ, ◌+◌, ◌*◌, ◌<◌, ◌≤◌, min, Bool, false, List, [], ◌∷◌, map, ◌≡◌, length, get_or, replicate}
use Rattle.std.proofs.Math.Option.{none}
use Rattle.ol_spec.specs.Syntax.{Node, File, variables}
use Rattle.ol_spec.specs.Places.{placed_nodes, placed_equations, equations_start, constants_start}
use Rattle.ol_spec.specs.Lists.{concat}
use Rattle.ol_spec.specs.Step.{own_size}
use Rattle.ol_spec.specs.Admission.{Item, defined_by, node_uses, node_calls, node_shape, numbered, fault9}
use Rattle.ol_tables.specs.At.{file_at}
use Rattle.ol_tables.specs.Tables.{node_of, row_at, Each, plan_in, PlanOf, array_length}
use Rattle.ol_check.specs.Spans.{starts_from, end_from, behind_variable, Visits}
use Rattle.ol_tables.specs.Tables as Tables
use Rattle.ol_tables.specs.Stands.{FileReads}
use Rattle.ol_check.specs.Arrays.{or_all, node_forms}
use Rattle.ol_check.specs.RowsDone.{NodeRow, no_variable, no_constant}
use Rattle.ol_check.specs.Records.{instance_b}
use Rattle.ol_check.specs.Entries.{declare_all, variable_entries, Global}
use Rattle.ol_check.specs.Judging.{Findings, found_in, slot_equations, again_b, Knows, global_names, Planned, Undeclared}

-- where node k stands
abbrev pub place_in : File → ℕ → ℕ
place_in f k = Tables.place_of (placed_nodes f) k

-- the file reads without fault, the rows are its nodes', and k is one of them
pub record NodeReady (s rows : List ℕ) (nodes k : ℕ) : Type 0 where
  pub reads : FileReads s
  pub row : (j : ℕ) → j < length (file_at s).nodes → NodeRow (node_of (file_at s) j) (place_in (file_at s) j) j rows
  pub many : nodes ≡ length (file_at s).nodes
  pub low : k < nodes
  pub few : nodes ≤ 32

-- a table is changed at the variables of node k, in the order in which they stand
pub record NodeVisited (R : List ℕ → ℕ → ℕ → List ℕ → Type 0) (s rows : List ℕ) (k : ℕ) (t u : List ℕ) : Type 0 where
  pub at : ℕ
  pub ins : ℕ
  pub outs : ℕ
  pub locs : ℕ
  pub o : ℕ
  pub l : ℕ
  pub t₁ : List ℕ
  pub t₂ : List ℕ
  pub place : at ≡ row_at rows k 7
  pub inputs : ins ≡ row_at rows k 2
  pub outputs : outs ≡ row_at rows k 3
  pub second : o ≡ end_from (behind_variable s) ins (at + 2)
  pub third : l ≡ end_from (behind_variable s) outs (o + 1)
  pub locals : locs ≡ get_or s l 0
  pub first_visits : Visits R 0 (starts_from (behind_variable s) ins (at + 2)) t t₁
  pub second_visits : Visits R ins (starts_from (behind_variable s) outs (o + 1)) t₁ t₂
  pub third_visits : Visits R (ins + outs) (starts_from (behind_variable s) locs (l + 1)) t₂ u

-- the table by name inside node n
abbrev pub node_table : List ℕ → Node → List ℕ
node_table names n = declare_all names (variable_entries 0 (variables n))

-- the node's names are within the table
abbrev pub Covered : ℕ → Node → Type 0
Covered room n = Each (λ v. v.name < room) (variables n)

-- the names that a node's equations define, and whether each may not be, by the table outside the node
abbrev pub node_again : List ℕ → ℕ × Node → List Item
node_again names n = again_b (node_table names n.1) (length n.1.inputs) (replicate 256 false) (concat (map defined_by (placed_equations n.0 n.1)))

pub record NodeJudged (s names rows : List ℕ) (nodes : ℕ) (f : File) (k : ℕ) (slots slots' : List ℕ) (g r : Findings) : Type 0 where
  pub unseen : r.unseen ≡ found_in g.unseen (node_uses (global_names f) (place_in f k, node_of f k))
  pub again : r.again ≡ found_in g.again (node_again names (place_in f k, node_of f k))
  pub called : r.called ≡ found_in g.called (node_calls f (k, (place_in f k, node_of f k)))
  pub shaped : r.shaped ≡ found_in g.shaped (node_shape f (place_in f k, node_of f k))
  pub arrays : r.arrays ≡ or_all g.arrays (node_forms (place_in f k, node_of f k))
  pub slotted : slots' ≡ slot_equations s (node_table names (node_of f k)) k slots (placed_equations (place_in f k) (node_of f k))
  pub sized : r.size ≡ min (instance_b rows nodes (node_of f k)) 65536

-- node k's plan is stored, as the rows tell it
abbrev pub NodePlanned : List ℕ → ℕ → File → ℕ → List ℕ → List ℕ → Type 0
NodePlanned rows nodes f k plans plans' =
    Planned rows nodes (own_size (node_of f k)) (equations_start (place_in f k) (node_of f k) + 1) (node_of f k).equations (plan_in f k) (length (node_of f k).equations) plans plans'

-- ---- all nodes

-- the file reads without fault, and the rows are its nodes'
pub record RowsReady (s rows : List ℕ) (nodes : ℕ) : Type 0 where
  pub reads : FileReads s
  pub row : (j : ℕ) → j < length (file_at s).nodes → NodeRow (node_of (file_at s) j) (place_in (file_at s) j) j rows
  pub many : nodes ≡ length (file_at s).nodes
  pub few : nodes ≤ 32

-- every node's names are within the table
abbrev pub AllCovered : ℕ → File → Type 0
AllCovered room f = (k : ℕ) → k < length f.nodes → Covered room (node_of f k)

-- the table by name outside the nodes: constants and variants have entries, an entry between a variable's and a variant's is that of a constant, and there is room for every variable
pub record NamesReady (names : List ℕ) (f : File) : Type 0 where
  pub global : Global names
  pub knows : Knows names (global_names f)
  pub constants : (x : ℕ) → 113 ≤ get_or names x 0 → get_or names x 0 < 255 → get_or names x 0 < 113 + length f.constants
  pub covered : AllCovered (length names) f

-- the array's length of each variable of each node stands among the plans, and of each constant
abbrev pub VariableLengths : File → List ℕ → Type 0
VariableLengths f plans =
    (k : ℕ) → k < length f.nodes → (i : ℕ) → i < length (variables (node_of f k)) → get_or plans (place_in f k + 2 * i + 1) 0 ≡ array_length (get_or (variables (node_of f k)) i no_variable).ty

abbrev pub ConstantLengths : File → List ℕ → Type 0
ConstantLengths f plans = (i : ℕ) → i < length f.constants → get_or plans (constants_start f + 2 * i + 1) 0 ≡ array_length (get_or f.constants i no_constant).ty

-- there is room for the plans, and the types of the variables stand there
pub record PlansTyped (s plans : List ℕ) : Type 0 where
  pub room : length s ≤ length plans
  pub lengths : VariableLengths (file_at s) plans

-- and those of the constants, from `constants` on; where `arrays` is false, no array is declared
pub record PlansReady (s : List ℕ) (constants : ℕ) (arrays : Bool) (plans : List ℕ) : Type 0 where
  pub typed : PlansTyped s plans
  pub place : constants ≡ constants_start (file_at s)
  pub lengths : ConstantLengths (file_at s) plans
  pub scalars : Undeclared arrays (file_at s)

-- the slots after the equations of these nodes, the first being number k
unfoldable pub slot_nodes : List ℕ → List ℕ → List ℕ → ℕ → List (ℕ × Node) → List ℕ
slot_nodes s names slots k [] = slots
slot_nodes s names slots k (n ∷ ns) = slot_nodes s names (slot_equations s (node_table names n.1) k slots (placed_equations n.0 n.1)) (k + 1) ns

pub record NodesJudged (s names : List ℕ) (f : File) (slots slots' : List ℕ) (g r : Findings) : Type 0 where
  pub unseen : r.unseen ≡ found_in g.unseen (concat (map (node_uses (global_names f)) (placed_nodes f)))
  pub again : r.again ≡ found_in g.again (concat (map (node_again names) (placed_nodes f)))
  pub called : r.called ≡ found_in g.called (concat (map (node_calls f) (numbered 0 (placed_nodes f))))
  pub shaped : r.shaped ≡ found_in g.shaped (concat (map (node_shape f) (placed_nodes f)))
  pub arrays : r.arrays ≡ or_all g.arrays (concat (map node_forms (placed_nodes f)))
  pub slotted : slots' ≡ slot_nodes s names slots 0 (placed_nodes f)

-- the types of the nodes' variables, which stand before what their equations need, are left
pub record TypesLeft (f : File) (plans plans' : List ℕ) : Type 0 where
  pub left : (k : ℕ) → k < length f.nodes → (x : ℕ) → place_in f k ≤ x → x < plan_in f k → get_or plans' x 0 ≡ get_or plans x 0

-- and those of the constants, which stand before the first node's
pub record ConstantsLeft (f : File) (plans plans' : List ℕ) : Type 0 where
  pub left : (x : ℕ) → constants_start f ≤ x → x < constants_start f + 2 * length f.constants → get_or plans' x 0 ≡ get_or plans x 0

-- the plans of the nodes below k are those of the file, where 9 does not hold
abbrev pub PlansBelow : File → List ℕ → ℕ → Type 0
PlansBelow f plans k = fault9 f ≡ none → (j : ℕ) → j < k → PlanOf f plans j
