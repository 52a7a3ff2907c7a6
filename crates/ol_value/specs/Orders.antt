-- What the operators of the language give of two reals is what the definitions give.
use Rattle.std.specs.Prelude.{◌≡◌, Bool, true, false, cond, ◌||◌, Option, Some, None, refl}
use Rattle.std.proofs.Common.{ap, ◌∙◌}
use Rattle.std.specs.Option.{option_map}
use Rattle.std.specs.Float.{Format}
use Rattle.std.specs.Float.Ieee as Ieee
use Rattle.std.specs.Ordering.{ordering_reverse, is_lt, is_le, is_gt, is_ge, is_some_and, float_partial_cmp, partial_lt, partial_le, partial_gt, partial_ge}
use Rattle.std.specs.declared.cmp.Ordering.{Ordering}
use Rattle.std.specs.declared.cmp.Ordering.TheVariants.{Less, Equal, Greater}
use Rattle.std.proofs.lemmas.Float.{floats_po}
use Rattle.ol_spec.specs.Real.{Real, eq_r, lt_r, le_r, add_r, sub_r, mul_r, div_r}

pub eq_float : (x y : Real) → Ieee.eq x y ≡ eq_r x y
unfolding eq_r
eq_float x y = refl

module _ (a b c : Bool) where
  answer : Option Ordering
  answer = cond a (Some Less) (cond b (Some Equal) (cond c (Some Greater) None))

lt_is : (a b c : Bool) → is_some_and is_lt (answer a b c) ≡ a
unfolding answer
lt_is true b c = refl
lt_is false true c = refl
lt_is false false true = refl
lt_is false false false = refl

le_is : (a b c : Bool) → is_some_and is_le (answer a b c) ≡ a || b
unfolding answer
le_is true b c = refl
le_is false true c = refl
le_is false false true = refl
le_is false false false = refl

turned_lt : (o : Option Ordering) → is_some_and is_gt (option_map ordering_reverse o) ≡ is_some_and is_lt o
turned_lt None = refl
turned_lt (Some Less) = refl
turned_lt (Some Equal) = refl
turned_lt (Some Greater) = refl

turned_le : (o : Option Ordering) → is_some_and is_ge (option_map ordering_reverse o) ≡ is_some_and is_le o
turned_le None = refl
turned_le (Some Less) = refl
turned_le (Some Equal) = refl
turned_le (Some Greater) = refl

pub lt_float : (x y : Real) → partial_lt float_partial_cmp x y ≡ lt_r x y
unfolding lt_r answer
lt_float x y = lt_is (Ieee.lt x y) (Ieee.eq x y) (Ieee.lt y x)

pub le_float : (x y : Real) → partial_le float_partial_cmp x y ≡ le_r x y
unfolding le_r Ieee.le answer
le_float x y = le_is (Ieee.lt x y) (Ieee.eq x y) (Ieee.lt y x)

pub gt_float : (x y : Real) → partial_gt float_partial_cmp x y ≡ lt_r y x
gt_float x y = ap (is_some_and is_gt) (floats_po.antisymm x y) ∙ turned_lt (float_partial_cmp y x) ∙ lt_float y x

pub ge_float : (x y : Real) → partial_ge float_partial_cmp x y ≡ le_r y x
ge_float x y = ap (is_some_and is_ge) (floats_po.antisymm x y) ∙ turned_le (float_partial_cmp y x) ∙ le_float y x

pub add_float : (f : Format) (x y z : Real) → z ≡ Ieee.add f x y → z ≡ add_r f x y
unfolding add_r
add_float f x y z e = e

pub sub_float : (f : Format) (x y z : Real) → z ≡ Ieee.sub f x y → z ≡ sub_r f x y
unfolding sub_r
sub_float f x y z e = e

pub mul_float : (f : Format) (x y z : Real) → z ≡ Ieee.mul f x y → z ≡ mul_r f x y
unfolding mul_r
mul_float f x y z e = e

pub div_float : (f : Format) (x y z : Real) → z ≡ Ieee.div f x y → z ≡ div_r f x y
unfolding div_r
div_float f x y z e = e
