-- What running a node asks: its equations where they stand in the file, their order, and the tables.
use Rattle.std.specs.Prelude.{ℕ, ◌+◌, ◌<◌, ◌≤◌, List, map, ◌≡◌, T, length, get_or}
use Rattle.ol_theory.specs.Member.{◌∈◌, Distinct}
use Rattle.ol_spec.specs.Places.{placed_names}
use Rattle.ol_spec.specs.Order.{order}
use Rattle.ol_spec.specs.Syntax.{variables, variable_names, rhs_of}
use Rattle.ol_spec.specs.Shapes.{arrays_in}
use Rattle.ol_spec.specs.Admission.{constant_names, constant_cell_names, arity, under_name}
use Rattle.ol_tables.specs.At.{file_at, node_in, expr_at}
use Rattle.ol_tables.specs.Tables.{Each, HasSlot}
use Rattle.ol_state.specs.Known.{Known}
use Rattle.ol_frame.specs.Walk.{nodes_in, Below}
use Rattle.ol_frame.specs.Equations.{count_in, place_in, equation_in, rhs_in}
use Rattle.ol_frame.specs.Plans.{known_in, Program, Plan}
use Rattle.ol_frame.specs.Shapes.{suited_rhs}

-- Equation i of node k can be evaluated. The names that it defines are variables of the node and have their slots; its right side has as many values as there are names, each of its name's shape
pub record EquationPlan (file tab rows consts : List ℕ) (k i : ℕ) : Type 0 where
  pub plan : Plan file tab rows consts k 24 1 (rhs_in file k i)
  pub tree : expr_at file 24 (rhs_in file k i) ≡ (equation_in file k i).rhs
  pub count : get_or file (place_in file k i) 0 ≡ length (equation_in file k i).names
  pub defined : Each (HasSlot tab (variable_names (node_in file k)) (constant_names (file_at file))) (placed_names (place_in file k i + 1) (equation_in file k i).names)
  pub declared : Each (λ x. x ∈ variable_names (node_in file k)) (equation_in file k i).names
  pub arity_is : arity (file_at file) (rhs_of (equation_in file k i).rhs) ≡ length (equation_in file k i).names
  pub suits : T (suited_rhs (file_at file) (arrays_in (variables (node_in file k))) (map (under_name (file_at file) (arrays_in (variables (node_in file k)))) (equation_in file k i).names) (rhs_of (equation_in file k i).rhs))

-- node k can be run: its order has each equation once
pub record NodePlan (file tab rows consts : List ℕ) (k : ℕ) : Type 0 where
  pub few : count_in file k ≤ 80
  pub equations : (i : ℕ) → i < count_in file k → EquationPlan file tab rows consts k i
  pub all : length (order (node_in file k).equations) ≡ count_in file k
  pub inside : Each (Below (count_in file k)) (order (node_in file k).equations)
  pub once : Distinct (order (node_in file k).equations)

-- the nodes of a file can be run: all cells of the constants are there
pub record Running (file tab rows consts : List ℕ) : Type 0 where
  pub known : Known (file_at file) file tab rows
  pub program : Program file tab rows
  pub constants : known_in consts ≡ length (constant_cell_names (file_at file))
  pub nodes : (k : ℕ) → k < nodes_in file → NodePlan file tab rows consts k

-- a call of node c in node's scope
pub record Enters (file tab rows consts : List ℕ) (node c : ℕ) : Type 0 where
  pub lower : c < node
  pub running : Running file tab rows consts
