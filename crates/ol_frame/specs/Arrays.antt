-- Arrays as cells: those of a name, elements, and comparison.
use Rattle.std.specs.Prelude.{ℕ, ◌+◌, ◌-◌, ◌*◌, ◌<◌, ◌≤◌, Bool, not, ◌&&◌, cond, List, ltb, eqb, length, drop}
use Rattle.ol_spec.specs.Cell.{tag, values_of}
use Rattle.ol_spec.specs.Eval.{then_out, index_of}
use Rattle.ol_spec.specs.Operators.{pair, equal, bool_out}
use Rattle.ol_spec.specs.declared.Value.{Value}
use Rattle.ol_spec.specs.declared.Outcome.{Outcome}
use Rattle.ol_tables.specs.Tables.{slots_from, name_cell_at, name_length_at}

-- the bytes from the cell c of a name on: among those of a node's cells, or of the constants'
abbrev pub named_from : List ℕ → List ℕ → ℕ → List ℕ
named_from cells consts c = cond (ltb c 3584) (drop (9 * c) cells) (drop (9 * (c - 3584)) consts)

-- the length of the array whose Var stands at `at`, 0 for a scalar, and its bytes
abbrev pub var_length : List ℕ → ℕ → ℕ
var_length tab at = name_length_at tab (at + 1)

abbrev pub var_bytes : List ℕ → List ℕ → List ℕ → ℕ → List ℕ
var_bytes tab consts cells at = named_from cells consts (name_cell_at tab (at + 1))

-- the values of its cells
abbrev pub var_values : List ℕ → List ℕ → List ℕ → ℕ → List Value
var_values tab consts cells at = values_of (var_length tab at) (var_bytes tab consts cells at)

-- it is a variable or a constant, if it is an array, and all of its cells are there
pub record Array (tab consts cells : List ℕ) (at : ℕ) : Type 0 where
  pub inside : slots_from + at + 3 ≤ length tab
  pub named : 1 ≤ var_length tab at → name_cell_at tab (at + 1) < 65535
  pub room : 9 * var_length tab at ≤ length (var_bytes tab consts cells at)

-- the element that an index asks for of n values; 0 is a scalar's
abbrev pub element_out : ℕ → List Value → Outcome → Outcome
element_out n vs index = then_out (index_of (ltb 0 n) vs) index

-- two values are of one kind, and equal
abbrev pub equal_cell : Value → Value → Bool
equal_cell v w = eqb (tag v) (tag w) && equal (pair v w)

-- what Eq, or else Neq, comes to between two arrays that are equal or not
abbrev pub compared_by : ℕ → Bool → Outcome
compared_by op same = bool_out (cond (eqb op 4) same (not same))
