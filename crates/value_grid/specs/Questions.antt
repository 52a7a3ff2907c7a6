-- The questions of the list, and whether each is answered as it says. The grid has 42 cells; an enum has the names 100 and 200.
use Rattle.std.specs.Prelude.{ℕ, ◌+◌, ◌*◌, ◌/◌, ◌%◌, Bool, false, cond, not, ◌&&◌, ◌||◌, List, [], ◌∷◌, ◌≡◌, ltb, eqb, length, take, drop}
use Rattle.ol_spec.specs.Answers.{outcome_number}
use Rattle.ol_spec.specs.Cell.{tag, cell, value_of}
use Rattle.ol_spec.specs.Lists.{same}
use Rattle.ol_spec.specs.Types.{fit, cast_to, default}
use Rattle.ol_spec.specs.declared.Value.{Value}
use Rattle.ol_spec.specs.declared.Value.TheVariants as Val
use Rattle.ol_spec.specs.declared.Outcome.{Outcome}
use Rattle.ol_spec.specs.declared.Outcome.TheVariants as Out
use Rattle.ol_value.specs.Codes.{ty_of, name_in, in_kind, unary_by, binary_by}
use Rattle.rows.specs.Rows.{one}
use Rattle.value_grid.specs.declared.Section.{Section}
use Rattle.value_grid.specs.declared.Section.TheVariants as Sec

-- ---- an answer

-- an answer's first byte, and the nine bytes of its cell
pub record Answer : Type 0 where
  pub head : ℕ
  pub nine : List ℕ

-- an answer is this value: 0 or 1, or 4 and the value's cell
abbrev pub value_agrees : ℕ → List ℕ → Value → Bool
value_agrees head nine (Val.Bool b) = eqb head (one b)
value_agrees head nine (Val.Int i) = eqb head 4 && same (cell (Val.Int i)) nine
value_agrees head nine (Val.Float x) = eqb head 4 && same (cell (Val.Float x)) nine
value_agrees head nine (Val.Float32 x) = eqb head 4 && same (cell (Val.Float32 x)) nine
value_agrees head nine (Val.Enum n) = eqb head 4 && same (cell (Val.Enum n)) nine

-- an answer is this outcome: a failure and an overflow are their numbers, 18 to 21
abbrev pub outcome_agrees : ℕ → List ℕ → Outcome → Bool
outcome_agrees head nine (Out.Value v) = value_agrees head nine v
outcome_agrees head nine (Out.Failure c) = eqb head (outcome_number (Out.Failure c))
outcome_agrees head nine Out.Overflow = eqb head (outcome_number Out.Overflow)

unfoldable pub outcome_is : Outcome → Answer → Bool
outcome_is o a = outcome_agrees a.head a.nine o

-- a name that a value has is one of the enum's
abbrev pub known_of : Value → Bool
known_of v = (not (eqb (tag v) 4) || eqb (name_in v) 100) || eqb (name_in v) 200

-- a byte says that it is so: 1 where it is, else another
abbrev pub says_of : Bool → ℕ → Bool
says_of mine head = cond mine (eqb head 1) (not (eqb head 1))

-- the list takes an input where it is in its type
unfoldable pub input_is : ℕ → Value → Answer → Bool
input_is code v a = says_of (in_kind (ty_of code 0) v && known_of v) a.head

-- the answer is a type's default
unfoldable pub default_is : ℕ → Answer → Bool
default_is code a = same (cell (default ((100 ∷ []) ∷ []) (ty_of code 0))) a.nine

-- the list takes a cell where it is a value's
unfoldable pub cell_is : Answer → Bool
cell_is a = says_of (same (cell (value_of (take 9 a.nine))) (take 9 a.nine) && known_of (value_of (take 9 a.nine))) a.head

-- ---- a question

-- the k-th cell of the grid; false where there is none
abbrev pub grid_cell : List ℕ → ℕ → Value
grid_cell grid a = cond (ltb (length grid) (a + 9)) (Val.Bool false) (value_of (take 9 (drop a grid)))

unfoldable pub grid_value : List ℕ → ℕ → Value
grid_value grid k = grid_cell grid (k % 256 * 9)

-- the answer to the t-th question of a section agrees
unfoldable pub answered_at : Section → List ℕ → ℕ → Answer → Bool
answered_at Sec.Binary grid t = outcome_is (binary_by (t / 42 / 42 % 256) (grid_value grid (t / 42 % 42)) (grid_value grid (t % 42)))
answered_at Sec.Unary grid t = outcome_is (unary_by (t / 42 % 256) (grid_value grid (t % 42)))
answered_at Sec.Cast grid t = outcome_is (cast_to (ty_of (t / 42 % 256) 0) (grid_value grid (t % 42)))
answered_at Sec.Store grid t = outcome_is (Out.Value (fit (ty_of (t / 42 % 256) 0) (grid_value grid (t % 42))))
answered_at Sec.Input grid t = input_is (t / 42 % 256) (grid_value grid (t % 42))
answered_at Sec.Default grid t = default_is (t % 256)
answered_at Sec.Cell grid t = cell_is

-- what was read is free: r says of some answer whether it is the wanted one
pub record Asked (wanted : Answer → Bool) (r : Bool) : Type 0 where
  pub answer : Answer
  pub answered : r ≡ wanted answer

-- ---- the counts

-- how many answers agree, where the last stands first
unfoldable pub good_in : Section → List ℕ → List Answer → ℕ
good_in section grid [] = 0
good_in section grid (a ∷ before) = good_in section grid before + one (answered_at section grid (length before) a)

-- so many of a section's answers agree: there is one for each question
pub record Agreed (section : Section) (grid : List ℕ) (sum count : ℕ) : Type 0 where
  pub answers : List Answer
  pub good : sum ≡ good_in section grid answers
  pub all : count ≡ length answers
