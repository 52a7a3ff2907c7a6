-- The cases of outcomes, as functions that evaluation uses decide them.
use Rattle.std.specs.Prelude.{ℕ, Bool, true, false, Option, Some, None, ◌≡◌}
use Rattle.ol_spec.specs.Eval.{RealKind, not_real, is_single, is_double_kind, kind_of_value, common_real, then_out, Outcomes, values, failure, overflow}
use Rattle.ol_spec.specs.Answers.{outcome_number}
use Rattle.ol_value.specs.Codes.{binary_by}
use Rattle.ol_spec.specs.declared.Value.{Value}
use Rattle.ol_spec.specs.declared.Value.TheVariants as Val
use Rattle.ol_spec.specs.declared.Outcome.{Outcome}
use Rattle.ol_spec.specs.declared.Outcome.TheVariants as Out
use Rattle.ol_spec.specs.declared.Cause.TheVariants as Why
use Rattle.ol_frame.specs.declared.outcomes.Ending.{Ending}
use Rattle.ol_frame.specs.declared.outcomes.Ending.TheVariants as End
use Rattle.ol_frame.specs.declared.outcomes.RealKind.{RealKind as Kind}
use Rattle.ol_frame.specs.declared.outcomes.RealKind.TheVariants as Knd

-- how several values end
abbrev pub ending_of : Outcomes → Ending
ending_of (values vs) = End.Values
ending_of (failure c) = End.Failed c
ending_of overflow = End.Overflowed

-- an ending's number is its outcome's
abbrev pub ending_number : Ending → ℕ
ending_number End.Values = 0
ending_number (End.Failed c) = outcome_number (Out.Failure c)
ending_number End.Overflowed = outcome_number Out.Overflow

-- it is a value
abbrev pub done_of : Outcome → Bool
done_of (Out.Value v) = true
done_of (Out.Failure c) = false
done_of Out.Overflow = false

-- an outcome after a step on its value, if it has one, of which P tells what it may yield
abbrev pub ThenBy : (Value → Outcome → Type 0) → Outcome → Outcome → Type 0
ThenBy P (Out.Value v) r = P v r
ThenBy P (Out.Failure c) r = r ≡ Out.Failure c
ThenBy P Out.Overflow r = r ≡ Out.Overflow

-- what comes of cells that ended so: an outcome where there are values, or else how they ended
abbrev pub ended_out : Ending → Outcome → Outcome
ended_out End.Values o = o
ended_out (End.Failed c) o = Out.Failure c
ended_out End.Overflowed o = Out.Overflow

-- two operands, of which the second counts where the first has a value
abbrev pub binary_out : ℕ → Outcome → Outcome → Outcome
binary_out op (Out.Value v) r = then_out (binary_by op v) r
binary_out op (Out.Failure c) r = Out.Failure c
binary_out op Out.Overflow r = Out.Overflow

-- the Bool that a condition is, if it is one
abbrev pub test_value : Value → Option Bool
test_value (Val.Bool b) = Some b
test_value (Val.Int i) = None
test_value (Val.Float x) = None
test_value (Val.Float32 x) = None
test_value (Val.Enum w) = None

abbrev pub test_of : Outcome → Option Bool
test_of (Out.Value v) = test_value v
test_of (Out.Failure c) = None
test_of Out.Overflow = None

-- a condition that is no Bool: a value there fails, and a failure has its own cause
abbrev pub untested_of : Outcome → Outcome
untested_of (Out.Value v) = Out.Failure Why.Other
untested_of (Out.Failure c) = Out.Failure c
untested_of Out.Overflow = Out.Overflow

-- the branch not taken is evaluated
abbrev pub runs_of : Outcome → Bool → Bool
runs_of (Out.Value v) has = has
runs_of (Out.Failure c) has = false
runs_of Out.Overflow has = false

-- it is an overflow
abbrev pub overflow_of : Outcome → Bool
overflow_of (Out.Value v) = false
overflow_of (Out.Failure c) = false
overflow_of Out.Overflow = true

-- its failure is dropped
abbrev pub drop_out : Outcome → Outcome → Outcome
drop_out taken (Out.Value w) = taken
drop_out taken (Out.Failure c) = taken
drop_out taken Out.Overflow = Out.Overflow

abbrev pub single_value : Value → Bool
single_value (Val.Bool b) = false
single_value (Val.Int i) = false
single_value (Val.Float x) = false
single_value (Val.Float32 x) = true
single_value (Val.Enum w) = false

abbrev pub single_of : Outcome → Bool
single_of (Out.Value v) = single_value v
single_of (Out.Failure c) = false
single_of Out.Overflow = false

-- a chosen single widens where the other branch counts as double
abbrev pub common_out : Bool → Outcome → Outcome
common_out wide o = then_out (λ v. Out.Value (common_real wide v)) o

-- the real kind that the code's stands for
abbrev pub kind_of : Kind → RealKind
kind_of Knd.NotReal = not_real
kind_of Knd.Single = is_single
kind_of Knd.Double = is_double_kind

abbrev pub outcome_kind : Outcome → RealKind
outcome_kind (Out.Value v) = kind_of_value v
outcome_kind (Out.Failure c) = not_real
outcome_kind Out.Overflow = not_real
