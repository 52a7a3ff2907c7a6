-- The operators, casts and stores of evaluation give IEEE 754's results: `operators_hold`.
use Rattle.std.proofs.Common.{◌≡◌, ℕ, Bool, not, T, ◌⊎◌, ◌↔◌, sym, refl, ap, ◌∙◌, subst, ⊎_elim, T_not}
use lib.Dec.{not_T}
use lib.Ieee.{nan, inf, fin, binary32}
use lib.Ieee.Fits.{two}
use Rattle.ol_spec.specs.Real as R
use Rattle.ol_spec.specs.Real.{Real, Precision, by_precision, zero_r, add_r, sub_r, mul_r, div_r, neg_r, of_int, round_single, widen, truncate, eq_r, lt_r, le_r}
use Rattle.ol_spec.specs.Syntax.{Eq, Neq, Lt, Le, Gt, Ge, Add, Sub, Mul, Div}
use Rattle.ol_spec.specs.Types.{fit, cast_to}
use Rattle.ol_spec.specs.Operators.{unary_of, reals, pair, on_pair, real_out}
use Rattle.ol_spec.specs.declared.Value.{Value}
use Rattle.ol_spec.specs.declared.Value.TheVariants as Val
use Rattle.ol_spec.specs.declared.Outcome.TheVariants as Out
use Rattle.ol_spec.specs.declared.Cause.TheVariants as Why
use Rattle.ol_real.specs.Ieee754.{Format, single, double, IsValue, Converted, Equal, Less, LessEq}
use Rattle.ol_real.specs.Holds.{AtFormat}
use Rattle.ol_real.specs.Operators.{Computes, OperatorsHold}
use Rattle.ol_real.proofs.Values.{reaches, value_rounds}
use Rattle.ol_real.proofs.Reals.{ieee754_holds}
use Rattle.ol_spec.proofs.Cells.{cond_true, cond_false}

-- ---- comparisons

not_exactly : (b : Bool) (P : Type 0) → T b ↔ P → T (not b) ↔ (¬ P)
not_exactly b P e = (λ t p. T_not b t (e.1 p), λ h. not_T b (λ t. h (e.0 t)))

equal_right : (x : Real) → ¬ Equal x nan
unfolding Equal
equal_right nan h = h
equal_right (inf s) h = h
equal_right (fin s m e) h = h

equal_left : (y : Real) → ¬ Equal nan y
unfolding Equal
equal_left y h = h

less_right : (x : Real) → ¬ Less x nan
unfolding Less
less_right nan h = h
less_right (inf s) h = h
less_right (fin s m e) h = h

less_left : (y : Real) → ¬ Less nan y
unfolding Less
less_left y h = h

abbrev Apart : Real → Real → Type 0
Apart x y = (¬ Equal x y) × (¬ Less x y) × (¬ LessEq x y) × (¬ Less y x) × (¬ LessEq y x)

apart : (x y : Real) → (x ≡ nan) ⊎ (y ≡ nan) → Apart x y
unfolding LessEq
apart x y h =
    ⊎_elim
    (λ e. subst (λ z. Apart z y) (sym e) (equal_left y, less_left y, λ o. ⊎_elim (less_left y) (equal_left y) o, less_right y, λ o. ⊎_elim (less_right y) (equal_right y) o))
    (λ e. subst (λ z. Apart x z) (sym e) (equal_right x, less_right x, λ o. ⊎_elim (less_right x) (equal_right x) o, less_left x, λ o. ⊎_elim (less_left x) (equal_left x) o))
    h

-- ---- two reals that compute at a precision

module _ (v w : Value) (g : Format) (q : Precision) (k : ℕ) (put : Real → Value) (x y : Real)
    (at : AtFormat g q k) (paired : pair v w ≡ reals q x y) (made : (r : Real) → by_precision q (Val.Float32 r) (Val.Float r) ≡ put r) where
  computes : Computes v w g put x y
  unfolding on_pair
  computes =
      record {
        sum = record { result = add_r q x y; one = at.sum x y; is = ap (on_pair Add) paired ∙ ap Out.Value (made (add_r q x y)) };
        difference = record { result = sub_r q x y; one = at.difference x y; is = ap (on_pair Sub) paired ∙ ap Out.Value (made (sub_r q x y)) };
        product = record { result = mul_r q x y; one = at.product x y; is = ap (on_pair Mul) paired ∙ ap Out.Value (made (mul_r q x y)) };
        quotient = λ n. record {
          result = div_r q x y;
          one = at.quotient x y;
          is = ap (on_pair Div) paired ∙ cond_false (eq_r y zero_r) (Out.Failure Why.Range) (real_out q (div_r q x y)) (λ t. n ((ieee754_holds.equal y zero_r).0 t)) ∙ ap Out.Value (made (div_r q x y));
        };
        zero_divisor = λ z. ap (on_pair Div) paired ∙ cond_true (eq_r y zero_r) (Out.Failure Why.Range) (real_out q (div_r q x y)) ((ieee754_holds.equal y zero_r).1 z);
        equal = record { answer = eq_r x y; is = ap (on_pair Eq) paired; exactly = ieee754_holds.equal x y };
        unequal = record { answer = not (eq_r x y); is = ap (on_pair Neq) paired; exactly = not_exactly (eq_r x y) (Equal x y) (ieee754_holds.equal x y) };
        less = record { answer = lt_r x y; is = ap (on_pair Lt) paired; exactly = ieee754_holds.less x y };
        less_equal = record { answer = le_r x y; is = ap (on_pair Le) paired; exactly = ieee754_holds.less_eq x y };
        greater = record { answer = lt_r y x; is = ap (on_pair Gt) paired; exactly = ieee754_holds.less y x };
        greater_equal = record { answer = le_r y x; is = ap (on_pair Ge) paired; exactly = ieee754_holds.less_eq y x };
        unordered = apart x y;
      }

-- a single is a single's own conversion
own : (x : Real) → IsValue single x → Converted single x x
unfolding Converted
own nan v = refl
own (inf s) v = refl
own (fin s m e) v = value_rounds single s m e (two binary32) (reaches binary32) v

pub operators_hold : OperatorsHold
unfolding unary_of cast_to fit
operators_hold =
    record {
      singles = λ x y. computes (Val.Float32 x) (Val.Float32 y) single R.single 32 Val.Float32 x y ieee754_holds.at_single refl (λ r. refl);
      doubles = λ x y. computes (Val.Float x) (Val.Float y) double R.double 64 Val.Float x y ieee754_holds.at_double refl (λ r. refl);
      single_double = λ x y x' v c.
          computes (Val.Float32 x) (Val.Float y) double R.double 64 Val.Float x' y ieee754_holds.at_double (ap (λ z. reals R.double z y) (sym ((ieee754_holds.widened x v).only x' c))) (λ r. refl);
      double_single = λ x y y' v c.
          computes (Val.Float x) (Val.Float32 y) double R.double 64 Val.Float x y' ieee754_holds.at_double (ap (λ z. reals R.double x z) (sym ((ieee754_holds.widened y v).only y' c))) (λ r. refl);
      negated_single = λ x. record { result = neg_r x; one = ieee754_holds.negation x; is = refl };
      negated_double = λ x. record { result = neg_r x; one = ieee754_holds.negation x; is = refl };
      int_to_single = λ i. record { result = of_int R.single i; one = ieee754_holds.at_single.from_int i; is = refl };
      int_to_double = λ i. record { result = of_int R.double i; one = ieee754_holds.at_double.from_int i; is = refl };
      double_to_single = λ x. record { result = round_single x; one = ieee754_holds.rounded x; is = refl };
      single_to_double = λ x v. record { result = widen x; one = ieee754_holds.widened x v; is = refl };
      single_to_single = λ x. refl;
      double_to_double = λ x. refl;
      single_to_int = λ c x. (truncate x, ieee754_holds.truncated x, refl);
      double_to_int = λ c x. (truncate x, ieee754_holds.truncated x, refl);
      int_in_single = λ i. record { result = of_int R.single i; one = ieee754_holds.at_single.from_int i; is = refl };
      int_in_double = λ i. record { result = of_int R.double i; one = ieee754_holds.at_double.from_int i; is = refl };
      double_in_single = λ x. record { result = round_single x; one = ieee754_holds.rounded x; is = refl };
      single_in_double = λ x v. record { result = widen x; one = ieee754_holds.widened x v; is = refl };
      single_in_single = λ x. refl;
      double_in_double = λ x. refl;
      chosen = λ x v. record { result = widen x; one = ieee754_holds.widened x v; is = refl };
      there_and_back = λ x v. sym ((ieee754_holds.rounded x).only x (own x v));
    }
