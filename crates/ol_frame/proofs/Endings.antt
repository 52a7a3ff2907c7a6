-- Endings, told apart.
use Prim.Native.Nat.{ℕ}
use mathlib.Core.Bool.{true, false}
use mathlib.Core.Option.{Option, none, some}
use mathlib.Core.Path.{◌≡◌, refl, sym}
use native.Mathlib.Omega.{arith}
use Rattle.ol_spec.specs.Answers.{outcome_number}
use Rattle.ol_spec.specs.Eval.{or_failure, then_out, several}
use Rattle.ol_spec.specs.declared.Outcome.{Outcome}
use Rattle.ol_spec.specs.declared.Outcome.TheVariants as Out
use Rattle.ol_spec.specs.declared.Cause.{Cause}
use Rattle.ol_spec.specs.declared.Cause.TheVariants as Why
use Rattle.ol_spec.specs.declared.Value.{Value}
use Rattle.ol_frame.specs.Outcomes.{ThenBy, ending_of, ending_number, binary_out, overflow_of, drop_out}
use Rattle.ol_frame.specs.declared.outcomes.Ending.{Ending}
use Rattle.ol_frame.specs.declared.outcomes.Ending.TheVariants as End

pub failed_values : {A : Type 0} {e : Ending} {c : Cause} → e ≡ End.Failed c → e ≡ End.Values → A
failed_values f v = let z : ◌≡◌ {A = ℕ} 0 1 = cc in absurd (omega arith)

pub over_values : {A : Type 0} {e : Ending} → e ≡ End.Overflowed → e ≡ End.Values → A
over_values o v = let z : ◌≡◌ {A = ℕ} 0 1 = cc in absurd (omega arith)

pub over_failed : {A : Type 0} {e : Ending} {c : Cause} → e ≡ End.Overflowed → e ≡ End.Failed c → A
over_failed o f = let z : ◌≡◌ {A = ℕ} 0 1 = cc in absurd (omega arith)

-- an ending fails by one cause
pub one_cause : {e : Ending} {c d : Cause} → e ≡ End.Failed c → e ≡ End.Failed d → c ≡ d
one_cause f h = cc

-- an outcome has the number of how it ends
pub ending_number_lem : (o : Outcome) → ending_number (ending_of (several o)) ≡ outcome_number o
ending_number_lem (Out.Value v) = refl
ending_number_lem (Out.Failure c) = refl
ending_number_lem Out.Overflow = refl

-- a name's outcome is a value, or the failure of a name that nobody declared
pub named_other : (m : Option Value) (o : Outcome) → ((v : Value) → o ≡ Out.Value v → ⊥) → o ≡ or_failure m → Out.Failure Why.Other ≡ o
named_other none o h e = sym e
named_other (some v) o h e = absurd (h v e)

-- an outcome after a step on its value
pub then_is : (P : Value → Outcome → Type 0) (g : Value → Outcome) (o r : Outcome) → ((v : Value) (x : Outcome) → P v x → x ≡ g v) → ThenBy P o r → r ≡ then_out g o
then_is P g (Out.Value v) r h p = h v r p
then_is P g (Out.Failure c) r h e = e
then_is P g Out.Overflow r h e = e

pub binary_other : (op : ℕ) (l r : Outcome) → ((v : Value) → l ≡ Out.Value v → ⊥) → l ≡ binary_out op l r
binary_other op (Out.Value v) r h = absurd (h v refl)
binary_other op (Out.Failure c) r h = refl
binary_other op Out.Overflow r h = refl

-- the branch that is not taken overflowed, or it did not
pub dropped : (taken other : Outcome) → overflow_of other ≡ true → Out.Overflow ≡ drop_out taken other
dropped taken (Out.Value w) e = let z : ◌≡◌ {A = ℕ} 0 1 = cc in absurd (omega arith)
dropped taken (Out.Failure c) e = let z : ◌≡◌ {A = ℕ} 0 1 = cc in absurd (omega arith)
dropped taken Out.Overflow e = refl

pub undropped : (taken other : Outcome) → overflow_of other ≡ false → taken ≡ drop_out taken other
undropped taken (Out.Value w) e = refl
undropped taken (Out.Failure c) e = refl
undropped taken Out.Overflow e = let z : ◌≡◌ {A = ℕ} 0 1 = cc in absurd (omega arith)
