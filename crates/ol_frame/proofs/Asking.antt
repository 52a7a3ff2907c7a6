-- What an index asks for.
use Prim.Native.Nat.{ℕ, suc, zero, ◌*◌, ◌<◌, ◌≤◌}
use mathlib.Core.Bool.{cond}
use mathlib.Core.List.{List, [], ◌∷◌}
use mathlib.Core.Option.{none}
use mathlib.Core.Path.{◌≡◌, refl, sym, ap, ◌∙◌}
use native.Mathlib.Omega.{arith}
use lib.IntN.{ℤ, pos, negsuc, nat_abs}
use lib.ListN.{length, take, drop, get_elem?}
use lib.Signed.{◌≤ℤ◌}
use borrow.Author.Tests.{lt-ltb}
use Rattle.std.proofs.lemmas.Int.{ints}
use Rattle.ol_spec.specs.Lists.{maybe}
use Rattle.ol_spec.specs.Cell.{value_of, values_of}
use Rattle.ol_spec.specs.Eval.{element_at}
use Rattle.ol_spec.specs.Operators.{pair, equal, bool_out, on_pair}
use Rattle.ol_value.specs.Codes.{binary_by}
use Rattle.ol_spec.specs.declared.Value.{Value}
use Rattle.ol_spec.specs.declared.Value.TheVariants as Val
use Rattle.ol_spec.specs.declared.Outcome.{Outcome}
use Rattle.ol_spec.specs.declared.Outcome.TheVariants as Out
use Rattle.ol_spec.specs.declared.Cause.TheVariants as Why
use Rattle.ol_spec.proofs.CellLengths.{length_values}
use Rattle.ol_frame.specs.Arrays.{element_out}
use Rattle.ol_frame.proofs.Naming.{get_value}

-- an Int, of an array
pub asked : (n : ℕ) (vs : List Value) (i : ℤ) (o : Outcome) → ¬ (n ≡ 0) → o ≡ Out.Value (Val.Int i) → element_at vs i ≡ element_out n vs o
asked n vs i o h e =
    sym (ap (element_out n vs) e ∙ ap (λ b. cond b (element_at vs i) (Out.Failure Why.Other)) (lt-ltb 0 n (omega (arith, h))))

get_out : (vs : List Value) (k : ℕ) → length vs ≤ k → get_elem? vs k ≡ none
get_out [] zero h = refl
get_out [] (suc k) h = refl
get_out (v ∷ vs) zero h = absurd (omega arith)
get_out (v ∷ vs) (suc k) h = get_out vs k (omega arith)

-- a number from 0 on
pub natural : (i : ℤ) → pos 0 ≤ℤ i → i ≡ pos (nat_abs i)
natural (pos k) h = refl
natural (negsuc k) h = absurd (omega (arith, ints))

-- a number inside an array of n cells, and one outside
pub inside : (n : ℕ) (s : List ℕ) (i : ℤ) (k : ℕ) → i ≡ pos k → k < n → Out.Value (value_of (take 9 (drop (9 * k) s))) ≡ element_at (values_of n s) i
inside n s i k e l = sym (ap (element_at (values_of n s)) e ∙ ap (maybe (Out.Failure Why.Range) Out.Value) (get_value n k s l))

pub outside : (n : ℕ) (s : List ℕ) (i : ℤ) → (pos 0 ≤ℤ i → pos n ≤ℤ i) → Out.Failure Why.Range ≡ element_at (values_of n s) i
outside n s (pos k) h = sym (ap (maybe (Out.Failure Why.Range) Out.Value) (get_out (values_of n s) k (omega (arith, ints, length_values n s, h (omega (arith, ints))))))
outside n s (negsuc k) h = refl

-- Eq, by its code
pub equal_told : (v w : Value) {o : Outcome} → o ≡ binary_by 4 v w → o ≡ bool_out (equal (pair v w))
unfolding on_pair
equal_told v w e = e
