-- Evaluation only meets data of their formats: `formats_kept`.
use Rattle.std.proofs.Common.{◌≡◌, ℕ, zero, suc, ◌%◌, ◌^◌, Bool, true, false, cond, ltb, List, [], ◌∷◌, ◌++◌, length, get_or, take, drop, set, ℤ, pos, negsuc, ◌+ℤ◌, ◌-ℤ◌, ◌*ℤ◌, neg_ℤ, subst, arith}
use mathlib.Core.Option.{Option, none, some}
use lib.ListN.{get_elem?}
use lib.Signed.{mag, quot_z, rem_z}
use lib.Ieee.{binary32, binary64}
use Rattle.ol_spec.specs.Lists.{maybe, or_else, concat, member, lookup, position, positions}
use Rattle.ol_spec.specs.Real as R
use Rattle.ol_spec.specs.Real.{Real, Precision, zero_r, eq_r, div_r}
use Rattle.ol_spec.specs.Syntax.{Ty, bool, int, float32, float64, char, enum, UnaryOp, Not, Neg, BinOp, And, Or, Xor, Implies, Eq, Neq, Lt, Le, Gt, Ge, Add, Sub, Mul, Div, Mod, BitAnd, BitOr, BitXor, Shl, Shr}
use Rattle.ol_spec.specs.Syntax.{Expr, bool_lit, int_lit, float_lit, char_lit, var, unary, binary, if_then_else, pre, arrow, cast, call, tuple, index, literal, map_over, fold_over, Exprs, nil, cons, name_in, Rhs, items, outputs_of, one, rhs_of}
use Rattle.ol_spec.specs.Syntax.{NodeKind, Function, Operator, Imported, Constant, Node, File, variables, cell_types, constant_cells, constant_slots, main}
use Rattle.ol_spec.specs.Cell.{value_by, values_of}
use Rattle.ol_spec.specs.Types.{IntTy, default, fit_int, fit_single, fit_double, fit, cast_int, cast_real, cast_to, int_ty}
use Rattle.ol_spec.specs.Operators.{exact, unary_of, Pair, bools, ints, reals, names, unlike, pair, on_bools, on_numbers, bool_out, real_out, eq_z, div_int, mod_int, div_real, shift_by, on_pair, binary_of}
use Rattle.ol_spec.specs.Eval.{Globals, Scope, Calls, Eval, Evals, Evaluated, Results, Outcomes, values, failure, overflow, Branch, common_real, drop_failure, untaken, branches_on, choose, condition, next, next_on, next_all, next_all_on, next_cells, next_cells_on, cells_by, arrays_or, enter, enter_on, single, several, several_eval, map_eval, cons_out, or_failure, or_failures, then_out, then_cells, then_results, flatten, flat, constant_of, variant_of, present_of, before_of, pre_of, pre_cells, no_value_of, picked, picked_some, cells_named, cells_of, element_at, index_of, elements_at, equality, equal_cells, compare_cells, map_next, map_from, fold_from, applied, map_all, fold_all, is_array, seg_size, record_size, eval, eval_array, eval_each, eval_cells, eval_rhs, node_at}
use Rattle.ol_spec.specs.Step.{globals, cell_count, input_count, output_count, old_cells, fit_all, slots_of, put_all, assign, Ended, finished, failed_at, overflowed_at, equation_at, store_on, store, scope, eval_equation, run_all, run, fresh_record, leave_on, leave, instance, call_by, calls_at, calls}
use Rattle.ol_spec.specs.Admission.{all, no_calls, no_variables, after_constant, constants_from, constants}
use Rattle.ol_spec.specs.Places.{placed_constants}
use Rattle.ol_spec.specs.State.{globals_of}
use Rattle.ol_spec.specs.Cycle.{main_run}
use Rattle.ol_spec.specs.declared.Value.{Value}
use Rattle.ol_spec.specs.declared.Value.TheVariants as Val
use Rattle.ol_spec.specs.declared.Outcome.{Outcome}
use Rattle.ol_spec.specs.declared.Outcome.TheVariants as Out
use Rattle.ol_spec.specs.declared.Cause.TheVariants as Why
use Rattle.ol_real.specs.Ieee754 as I
use Rattle.ol_real.specs.Operators.{InFormat, InFormats, OutInFormat, OutsInFormat, FormatsKept}
use Rattle.ol_real.proofs.Reals.{ieee754_holds}

-- ---- choices and lists

abbrev OptIn : Option Value → Type 0
OptIn none = Unit {0}
OptIn (some v) = InFormat v

cond_in : (b : Bool) (o p : Outcome) → OutInFormat o → OutInFormat p → OutInFormat (cond b o p)
cond_in true o p h k = h
cond_in false o p h k = k

join_in : (a b : List Value) → InFormats a → InFormats b → InFormats (a ++ b)
join_in [] b h k = k
join_in (v ∷ a) b h k = (h.0, join_in a b h.1 k)

drop_in : (n : ℕ) (a : List Value) → InFormats a → InFormats (drop n a)
drop_in zero [] h = tt
drop_in (suc n) [] h = tt
drop_in zero (v ∷ a) h = h
drop_in (suc n) (v ∷ a) h = drop_in n a h.1

take_in : (n : ℕ) (a : List Value) → InFormats a → InFormats (take n a)
take_in zero [] h = tt
take_in (suc n) [] h = tt
take_in zero (v ∷ a) h = tt
take_in (suc n) (v ∷ a) h = (h.0, take_in n a h.1)

set_in : (a : List Value) (i : ℕ) (v : Value) → InFormats a → InFormat v → InFormats (set a i v)
set_in [] zero v h k = tt
set_in [] (suc i) v h k = tt
set_in (w ∷ a) zero v h k = (k, h.1)
set_in (w ∷ a) (suc i) v h k = (h.0, set_in a i v h.1 k)

get_in : (a : List Value) (i : ℕ) → InFormats a → OptIn (get_elem? a i)
get_in [] zero h = tt
get_in [] (suc i) h = tt
get_in (v ∷ a) zero h = h.0
get_in (v ∷ a) (suc i) h = get_in a i h.1

lookup_in : (x : ℕ) (ns : List ℕ) (a : List Value) → InFormats a → OptIn (lookup x ns a)
lookup_in x ns a h = go (position x ns)
  where
    go : (o : Option ℕ) → OptIn (maybe none (get_elem? a) o)
    go none = tt
    go (some i) = get_in a i h

or_in : (a b : Option Value) → OptIn a → OptIn b → OptIn (or_else a b)
or_in none b h k = k
or_in (some v) b h k = h

-- the cells of a name, and the values of several expressions
abbrev OptsIn : Option (List Value) → Type 0
OptsIn none = Unit {0}
OptsIn (some vs) = InFormats vs

abbrev EachIn : List (List Value) → Type 0
EachIn [] = Unit {0}
EachIn (vs ∷ vss) = InFormats vs × EachIn vss

abbrev EachOut : Results (List (List Value)) → Type 0
EachOut (values vss) = EachIn vss
EachOut (failure c) = Unit {0}
EachOut overflow = Unit {0}

get_d_in : (a : List Value) (i : ℕ) → InFormats a → InFormat (get_or a i no_value_of)
get_d_in [] zero h = tt
get_d_in [] (suc i) h = tt
get_d_in (v ∷ a) zero h = h.0
get_d_in (v ∷ a) (suc i) h = get_d_in a i h.1

picked_in : (a : List Value) (is : List ℕ) → InFormats a → InFormats (picked a is)
picked_in a [] h = tt
picked_in a (i ∷ is) h = (get_d_in a i h, picked_in a is h)

named_in : (x : ℕ) (ns : List ℕ) (a : List Value) → InFormats a → OptsIn (cells_named x ns a)
named_in x ns a h = go (positions x ns)
  where
    go : (is : List ℕ) → OptsIn (picked_some a is)
    go [] = tt
    go (i ∷ is) = picked_in a (i ∷ is) h

ors_in : (a b : Option (List Value)) → OptsIn a → OptsIn b → OptsIn (or_else a b)
ors_in none b h k = k
ors_in (some vs) b h k = h

failures_in : (o : Option (List Value)) → OptsIn o → OutsInFormat (or_failures o)
failures_in none h = tt
failures_in (some vs) h = h

concat_in : (vss : List (List Value)) → EachIn vss → InFormats (concat vss)
concat_in [] h = tt
concat_in (vs ∷ vss) h = join_in vs (concat vss) h.0 (concat_in vss h.1)

first_in : (vss : List (List Value)) → EachIn vss → InFormats (get_or vss 0 [])
first_in [] h = tt
first_in (vs ∷ vss) h = h.0

elements_in : (j : ℕ) (vss : List (List Value)) → EachIn vss → InFormats (elements_at j vss)
elements_in j [] h = tt
elements_in j (vs ∷ vss) h = (get_d_in vs j h.0, elements_in j vss h.1)

failure_in : (o : Option Value) → OptIn o → OutInFormat (or_failure o)
failure_in none h = tt
failure_in (some v) h = h

-- ---- cells

read_in : (t p : ℕ) → InFormat (value_by t p)
read_in zero p = tt
read_in (suc zero) p = tt
read_in (suc (suc zero)) p = ieee754_holds.at_double.decoded_value p
read_in (suc (suc (suc zero))) p = ieee754_holds.at_single.decoded_value (p % 2 ^ 32)
read_in (suc (suc (suc (suc t)))) p = tt

values_in_lem : (n : ℕ) (s : List ℕ) → InFormats (values_of n s)
values_in_lem zero s = tt
values_in_lem (suc n) s = (read_in (get_or (take 9 s) 0 0) _, values_in_lem n (drop 9 s))

-- ---- stores and casts

zero_single : I.IsValue I.single zero_r
zero_single = subst (I.IsValue I.single) ieee754_holds.at_single.zero_decoded (ieee754_holds.at_single.decoded_value 0)

zero_double : I.IsValue I.double zero_r
zero_double = subst (I.IsValue I.double) ieee754_holds.at_double.zero_decoded (ieee754_holds.at_double.decoded_value 0)

default_in : (enums : List (List ℕ)) (t : Ty) → InFormat (default enums t)
default_in enums bool = tt
default_in enums (int c) = tt
default_in enums float32 = zero_single
default_in enums float64 = zero_double
default_in enums char = tt
default_in enums (enum e) = tt

int_in_lem : (t : IntTy) (v : Value) → InFormat v → InFormat (fit_int t v)
int_in_lem t (Val.Bool b) h = tt
int_in_lem t (Val.Int i) h = tt
int_in_lem t (Val.Float x) h = h
int_in_lem t (Val.Float32 x) h = h
int_in_lem t (Val.Enum v) h = tt

single_in : (v : Value) → InFormat v → InFormat (fit_single v)
single_in (Val.Bool b) h = tt
single_in (Val.Int i) h = ieee754_holds.at_single.from_int_value i
single_in (Val.Float x) h = ieee754_holds.rounded_value x
single_in (Val.Float32 x) h = h
single_in (Val.Enum v) h = tt

double_in_lem : (v : Value) → InFormat v → InFormat (fit_double v)
double_in_lem (Val.Bool b) h = tt
double_in_lem (Val.Int i) h = ieee754_holds.at_double.from_int_value i
double_in_lem (Val.Float x) h = h
double_in_lem (Val.Float32 x) h = ieee754_holds.widened_value x h
double_in_lem (Val.Enum v) h = tt

fit_in : (t : Ty) (v : Value) → InFormat v → InFormat (fit t v)
unfolding fit
fit_in bool v h = h
fit_in (int c) v h = int_in_lem (int_ty c) v h
fit_in float32 v h = single_in v h
fit_in float64 v h = double_in_lem v h
fit_in char v h = h
fit_in (enum e) v h = h

fit_all_in : (ts : List Ty) (ws : List Value) → InFormats ws → InFormats (fit_all ts ws)
unfolding fit_all
fit_all_in [] ws h = tt
fit_all_in (t ∷ ts) [] h = tt
fit_all_in (t ∷ ts) (w ∷ ws) h = (fit_in t w h.0, fit_all_in ts ws h.1)

cast_int_in : (t : IntTy) (v : Value) → OutInFormat (cast_int t v)
cast_int_in t (Val.Bool b) = tt
cast_int_in t (Val.Int i) = tt
cast_int_in t (Val.Float x) = tt
cast_int_in t (Val.Float32 x) = tt
cast_int_in t (Val.Enum v) = tt

cast_real_in : (k : Value → Value) → ((v : Value) → InFormat v → InFormat (k v)) → (v : Value) → InFormat v → OutInFormat (cast_real k v)
cast_real_in k f (Val.Bool b) h = tt
cast_real_in k f (Val.Int i) h = f (Val.Int i) h
cast_real_in k f (Val.Float x) h = f (Val.Float x) h
cast_real_in k f (Val.Float32 x) h = f (Val.Float32 x) h
cast_real_in k f (Val.Enum v) h = tt

cast_in : (t : Ty) (v : Value) → InFormat v → OutInFormat (cast_to t v)
unfolding cast_to
cast_in bool v h = tt
cast_in (int c) v h = cast_int_in (int_ty c) v
cast_in float32 v h = cast_real_in fit_single single_in v h
cast_in float64 v h = cast_real_in fit_double double_in_lem v h
cast_in char v h = tt
cast_in (enum e) v h = tt

common_in : (w : Bool) (v : Value) → InFormat v → InFormat (common_real w v)
common_in w (Val.Bool b) h = tt
common_in w (Val.Int i) h = tt
common_in w (Val.Float x) h = h
common_in true (Val.Float32 x) h = ieee754_holds.widened_value x h
common_in false (Val.Float32 x) h = h
common_in w (Val.Enum v) h = tt

-- ---- operators

exact_in : (i : ℤ) → OutInFormat (exact i)
exact_in i = cond_in (ltb (mag i) (2 ^ 63)) (Out.Value (Val.Int i)) Out.Overflow tt tt

unary_in : (op : UnaryOp) (v : Value) → InFormat v → OutInFormat (unary_of op v)
unfolding unary_of
unary_in Not (Val.Bool b) h = tt
unary_in Not (Val.Int i) h = tt
unary_in Not (Val.Float x) h = tt
unary_in Not (Val.Float32 x) h = tt
unary_in Not (Val.Enum v) h = tt
unary_in Neg (Val.Bool b) h = tt
unary_in Neg (Val.Int i) h = exact_in (neg_ℤ i)
unary_in Neg (Val.Float x) h = ieee754_holds.at_double.negation_value x h
unary_in Neg (Val.Float32 x) h = ieee754_holds.at_single.negation_value x h
unary_in Neg (Val.Enum v) h = tt

bools_in : (k : Bool → Bool → Bool) (p : Pair) → OutInFormat (on_bools k p)
bools_in k (bools a b) = tt
bools_in k (ints i j) = tt
bools_in k (reals q x y) = tt
bools_in k (names v w) = tt
bools_in k unlike = tt

numbers_in : (k : ℤ → ℤ → Outcome) (m : Precision → Real → Real → Outcome) (p : Pair) → ((i j : ℤ) → OutInFormat (k i j))
    → ((q : Precision) (x y : Real) → OutInFormat (m q x y)) → OutInFormat (on_numbers k m p)
numbers_in k m (bools a b) f h = tt
numbers_in k m (ints i j) f h = f i j
numbers_in k m (reals q x y) f h = h q x y
numbers_in k m (names v w) f h = tt
numbers_in k m unlike f h = tt

shift_in : (k : ℕ → ℤ) (j : ℤ) → OutInFormat (shift_by k j)
shift_in k (pos n) = cond_in (ltb n 64) (Out.Value (Val.Int (k n))) (Out.Failure Why.Range) tt tt
shift_in k (negsuc n) = tt

sum_in : (q : Precision) (x y : Real) → OutInFormat (real_out q (R.add_r q x y))
sum_in binary32 x y = ieee754_holds.at_single.sum_value x y
sum_in binary64 x y = ieee754_holds.at_double.sum_value x y

difference_in : (q : Precision) (x y : Real) → OutInFormat (real_out q (R.sub_r q x y))
difference_in binary32 x y = ieee754_holds.at_single.difference_value x y
difference_in binary64 x y = ieee754_holds.at_double.difference_value x y

product_in : (q : Precision) (x y : Real) → OutInFormat (real_out q (R.mul_r q x y))
product_in binary32 x y = ieee754_holds.at_single.product_value x y
product_in binary64 x y = ieee754_holds.at_double.product_value x y

quotient_in : (q : Precision) (x y : Real) → OutInFormat (div_real q x y)
quotient_in binary32 x y = cond_in (eq_r y zero_r) (Out.Failure Why.Range) (real_out binary32 (div_r binary32 x y)) tt (ieee754_holds.at_single.quotient_value x y)
quotient_in binary64 x y = cond_in (eq_r y zero_r) (Out.Failure Why.Range) (real_out binary64 (div_r binary64 x y)) tt (ieee754_holds.at_double.quotient_value x y)

div_in : (i j : ℤ) → OutInFormat (div_int i j)
div_in i j = cond_in (eq_z j (pos 0)) (Out.Failure Why.Range) (exact (quot_z i j)) tt (exact_in (quot_z i j))

mod_in : (i j : ℤ) → OutInFormat (mod_int i j)
mod_in i j =
    let q = ltb (mag (quot_z i j)) (2 ^ 63) in
    cond_in (eq_z j (pos 0)) (Out.Failure Why.Range) (cond q (Out.Value (Val.Int (rem_z i j))) Out.Overflow) tt (cond_in q (Out.Value (Val.Int (rem_z i j))) Out.Overflow tt tt)

pair_in : (op : BinOp) (p : Pair) → OutInFormat (on_pair op p)
unfolding on_pair
pair_in And p = bools_in _ p
pair_in Or p = bools_in _ p
pair_in Xor p = bools_in _ p
pair_in Implies p = bools_in _ p
pair_in Eq p = tt
pair_in Neq p = tt
pair_in Lt p = numbers_in _ _ p (λ i j. tt) (λ q x y. tt)
pair_in Le p = numbers_in _ _ p (λ i j. tt) (λ q x y. tt)
pair_in Gt p = numbers_in _ _ p (λ i j. tt) (λ q x y. tt)
pair_in Ge p = numbers_in _ _ p (λ i j. tt) (λ q x y. tt)
pair_in Add p = numbers_in _ _ p (λ i j. exact_in (i +ℤ j)) sum_in
pair_in Sub p = numbers_in _ _ p (λ i j. exact_in (i -ℤ j)) difference_in
pair_in Mul p = numbers_in _ _ p (λ i j. exact_in (i *ℤ j)) product_in
pair_in Div p = numbers_in div_int div_real p div_in quotient_in
pair_in Mod p = numbers_in mod_int _ p mod_in (λ q x y. tt)
pair_in BitAnd p = numbers_in _ _ p (λ i j. tt) (λ q x y. tt)
pair_in BitOr p = numbers_in _ _ p (λ i j. tt) (λ q x y. tt)
pair_in BitXor p = numbers_in _ _ p (λ i j. tt) (λ q x y. tt)
pair_in Shl p = numbers_in _ _ p (λ i j. shift_in _ j) (λ q x y. tt)
pair_in Shr p = numbers_in _ _ p (λ i j. shift_in _ j) (λ q x y. tt)

-- ---- evaluation

then_in : (k : Value → Outcome) (o : Outcome) → OutInFormat o → ((v : Value) → InFormat v → OutInFormat (k v)) → OutInFormat (then_out k o)
then_in k (Out.Value v) h f = f v h
then_in k (Out.Failure c) h f = tt
then_in k Out.Overflow h f = tt

next_in : (r : Eval) (k : Value → List ℕ → Eval) (rest : List ℕ) → OutInFormat r.out → ((v : Value) → InFormat v → OutInFormat (k v rest).out) → OutInFormat (next r k rest).out
unfolding next
next_in r k rest h f = go r.out h
  where
    go : (o : Outcome) → OutInFormat o → OutInFormat (next_on o r.seg k rest).out
    go (Out.Value v) h = f v h
    go (Out.Failure c) h = tt
    go Out.Overflow h = tt

drop_failure_in : (v : Value) (o : Outcome) → InFormat v → OutInFormat (drop_failure v o)
drop_failure_in v (Out.Value w) h = h
drop_failure_in v (Out.Failure c) h = h
drop_failure_in v Out.Overflow h = tt

untaken_in : (c : Bool) (v : Value) (seg : List ℕ) (o : Branch) → InFormat v → OutInFormat (untaken c v seg o).out
untaken_in true v seg o h = drop_failure_in v (o.run o.seg).out h
untaken_in false v seg o h = h

branches_in : (w : Outcome) (seg : List ℕ) (o : Branch) → OutInFormat w → OutInFormat (branches_on w seg o).out
branches_in (Out.Value v) seg o h = untaken_in o.calls (common_real o.wide v) seg o (common_in o.wide v h)
branches_in (Out.Failure c) seg o h = tt
branches_in Out.Overflow seg o h = tt

choose_in_lem : (t : Bool) (a b : Branch) → OutInFormat (a.run a.seg).out → OutInFormat (b.run b.seg).out → OutInFormat (choose t a b).out
unfolding choose
choose_in_lem true a b h k = branches_in (a.run a.seg).out (a.run a.seg).seg b h
choose_in_lem false a b h k = branches_in (b.run b.seg).out (b.run b.seg).seg a k

condition_in : (k : Bool → List ℕ → Eval) (v : Value) (rest : List ℕ) → ((b : Bool) → OutInFormat (k b rest).out) → OutInFormat (condition k v rest).out
unfolding condition
condition_in k (Val.Bool b) rest f = f b
condition_in k (Val.Int i) rest f = tt
condition_in k (Val.Float x) rest f = tt
condition_in k (Val.Float32 x) rest f = tt
condition_in k (Val.Enum v) rest f = tt

single_out : (o : Outcomes) → OutsInFormat o → OutInFormat (single o)
single_out (values []) h = tt
single_out (values (v ∷ [])) h = h.0
single_out (values (v ∷ w ∷ vs)) h = tt
single_out (failure c) h = tt
single_out overflow h = tt

several_out : (o : Outcome) → OutInFormat o → OutsInFormat (several o)
several_out (Out.Value v) h = (h, tt)
several_out (Out.Failure c) h = tt
several_out Out.Overflow h = tt

enter_in : (k : List Value → List ℕ → Evals) (own : List ℕ) (r : Evals) → OutsInFormat r.out → ((ws : List Value) → InFormats ws → OutsInFormat (k ws own).out)
    → OutsInFormat (enter k own r).out
unfolding enter
enter_in k own r h f = go r.out h
  where
    go : (o : Outcomes) → OutsInFormat o → OutsInFormat (enter_on k own o r.seg).out
    go (values vs) h = f vs h
    go (failure c) h = tt
    go overflow h = tt

cons_in : (v : Value) (o : Outcomes) → InFormat v → OutsInFormat o → OutsInFormat (cons_out v o)
cons_in v (values vs) h k = (h, k)
cons_in v (failure c) h k = tt
cons_in v overflow h k = tt

cons_each : (vs : List Value) (o : Results (List (List Value))) → InFormats vs → EachOut o → EachOut (cons_out vs o)
cons_each vs (values vss) h k = (h, k)
cons_each vs (failure c) h k = tt
cons_each vs overflow h k = tt

next_all_in : (r : Evals) (k : List ℕ → Evaluated (List (List Value))) (rest : List ℕ) → OutsInFormat r.out → EachOut (k rest).out → EachOut (next_all r k rest).out
unfolding next_all
next_all_in r k rest h f = go r.out h
  where
    go : (o : Outcomes) → OutsInFormat o → EachOut (next_all_on o r.seg k rest).out
    go (values vs) h = cons_each vs (k rest).out h f
    go (failure c) h = tt
    go overflow h = tt

-- ---- arrays

next_cells_in : (r : Evals) (k : List Value → List ℕ → Eval) (rest : List ℕ) → OutsInFormat r.out → ((vs : List Value) → InFormats vs → OutInFormat (k vs rest).out) → OutInFormat (next_cells r k rest).out
unfolding next_cells
next_cells_in r k rest h f = go r.out h
  where
    go : (o : Outcomes) → OutsInFormat o → OutInFormat (next_cells_on o r.seg k rest).out
    go (values vs) h = f vs h
    go (failure c) h = tt
    go overflow h = tt

then_cells_in : (k : List Value → Outcome) (o : Outcomes) → ((vs : List Value) → OutInFormat (k vs)) → OutInFormat (then_cells k o)
then_cells_in k (values vs) f = f vs
then_cells_in k (failure c) f = tt
then_cells_in k overflow f = tt

each_then : (k : List (List Value) → Outcomes) (o : Results (List (List Value))) → EachOut o → ((vss : List (List Value)) → EachIn vss → OutsInFormat (k vss)) → OutsInFormat (then_results k o)
each_then k (values vss) h f = f vss h
each_then k (failure c) h f = tt
each_then k overflow h f = tt

enter_each : (k : List (List Value) → List ℕ → Evals) (own : List ℕ) (r : Evaluated (List (List Value))) → EachOut r.out
    → ((vss : List (List Value)) → EachIn vss → OutsInFormat (k vss own).out) → OutsInFormat (enter k own r).out
unfolding enter
enter_each k own r h f = go r.out h
  where
    go : (o : Results (List (List Value))) → EachOut o → OutsInFormat (enter_on k own o r.seg).out
    go (values vss) h = f vss h
    go (failure c) h = tt
    go overflow h = tt

cells_by_in : (b : Bool) (a : List ℕ → Evals) (e : List ℕ → Eval) (seg : List ℕ) → OutsInFormat (a seg).out → OutInFormat (e seg).out → OutsInFormat (cells_by b a e seg).out
unfolding cells_by
cells_by_in true a e seg h k = h
cells_by_in false a e seg h k = several_out (e seg).out k

arrays_or_in : (b : Bool) (a e : List ℕ → Eval) (seg : List ℕ) → OutInFormat (a seg).out → OutInFormat (e seg).out → OutInFormat (arrays_or b a e seg).out
unfolding arrays_or
arrays_or_in true a e seg h k = h
arrays_or_in false a e seg h k = k

compare_in : (op : BinOp) (vs ws : List Value) → OutInFormat (compare_cells op vs ws)
compare_in op vs ws = go (equality op)
  where
    go : (o : Option (Bool → Bool)) → OutInFormat (maybe (Out.Failure Why.Other) (λ f. bool_out (f (equal_cells vs ws))) o)
    go none = tt
    go (some f) = tt

element_in : (vs : List Value) (i : ℤ) → InFormats vs → OutInFormat (element_at vs i)
element_in vs (pos k) h = go (get_elem? vs k) (get_in vs k h)
  where
    go : (o : Option Value) → OptIn o → OutInFormat (maybe (Out.Failure Why.Range) Out.Value o)
    go none h = tt
    go (some v) h = h
element_in vs (negsuc k) h = tt

index_in : (b : Bool) (vs : List Value) (v : Value) → InFormats vs → OutInFormat (index_of b vs v)
index_in b vs (Val.Bool x) h = tt
index_in true vs (Val.Int i) h = element_in vs i h
index_in false vs (Val.Int i) h = tt
index_in b vs (Val.Float x) h = tt
index_in b vs (Val.Float32 x) h = tt
index_in b vs (Val.Enum x) h = tt

map_next_in : (o : Outcome) (r : Outcomes) → OutInFormat o → OutsInFormat r → OutsInFormat (map_next o (λ u. r))
unfolding map_next
map_next_in (Out.Value v) r h k = cons_in v r h k
map_next_in (Out.Failure c) r h k = tt
map_next_in Out.Overflow r h k = tt

module _ (f : List Value → Outcome) (keeps : (vs : List Value) → InFormats vs → OutInFormat (f vs)) where
  map_in : (vss : List (List Value)) → EachIn vss → (j n : ℕ) → OutsInFormat (map_from f vss j n)
  unfolding map_from
  map_in vss h j zero = tt
  map_in vss h j (suc n) = map_next_in (f (elements_at j vss)) (map_from f vss (suc j) n) (keeps (elements_at j vss) (elements_in j vss h)) (map_in vss h (suc j) n)

  fold_in : (r : Value) (vs : List Value) → InFormat r → InFormats vs → OutInFormat (fold_from f r vs)
  unfolding fold_from
  fold_in r [] h k = h
  fold_in r (v ∷ vs) h k = then_in (λ w. fold_from f w vs) (f (r ∷ v ∷ [])) (keeps (r ∷ v ∷ []) (h, (k.0, tt))) (λ w i. fold_in w vs i k.1)

-- calls that give such values, of such arguments
abbrev Keeps : Calls → Type 0
Keeps calls = (k : ℕ) (ws : List Value) (r : List ℕ) → InFormats ws → OutsInFormat (calls k ws r).out

module _ (g : Globals) (constant : InFormats g.constant_values) (calls : Calls) (keeps : Keeps calls) where
  module _ (s : Scope) (present : InFormats s.present) (before : InFormats s.before) where
    variant_in : (x : ℕ) → OptIn (variant_of g s x)
    variant_in x = go (member x (concat g.enums))
      where
        go : (b : Bool) → OptIn (cond b (some (Val.Enum x)) none)
        go true = tt
        go false = tt

    present_in : (x : ℕ) → OptIn (present_of g s x)
    present_in x =
        or_in (lookup x s.names s.present) _ (lookup_in x s.names s.present present)
        (or_in (constant_of g s x) (variant_of g s x) (lookup_in x g.constant_names g.constant_values constant) (variant_in x))

    pre_in : (b : Bool) (e : Expr) → OutInFormat (pre_of g s b e)
    pre_in true e = tt
    pre_in false e = failure_in (maybe none (before_of g s) (name_in e)) (go (name_in e))
      where
        go : (o : Option ℕ) → OptIn (maybe none (before_of g s) o)
        go none = tt
        go (some x) = or_in (lookup x s.names s.before) (constant_of g s x) (lookup_in x s.names s.before before) (lookup_in x g.constant_names g.constant_values constant)

    cells_in : (cs : List Value) → InFormats cs → (x : ℕ) → OutsInFormat (cells_of g s cs x)
    cells_in cs h x =
        failures_in (or_else (cells_named x s.names cs) (cells_named x g.constant_names g.constant_values))
        (ors_in (cells_named x s.names cs) _ (named_in x s.names cs h) (named_in x g.constant_names g.constant_values constant))

    pre_cells_in : (b : Bool) (e : Expr) → OutsInFormat (pre_cells g s b e)
    pre_cells_in true e = tt
    pre_cells_in false e = go (name_in e)
      where
        go : (o : Option ℕ) → OutsInFormat (maybe (failure Why.Other) (cells_of g s s.before) o)
        go none = tt
        go (some x) = cells_in s.before before x

    applied_in_lem : (k : ℕ) (vs : List Value) → InFormats vs → OutInFormat (applied g s calls k vs)
    applied_in_lem k vs h = single_out (calls k vs []).out (keeps k vs [] h)

    mutual
      unfolding eval

      pub eval_in_lem : (e : Expr) (seg : List ℕ) → OutInFormat (eval g s calls e seg).out
      eval_in_lem (bool_lit b) seg = tt
      eval_in_lem (int_lit i) seg = tt
      eval_in_lem (float_lit b) seg = ieee754_holds.at_double.decoded_value b
      eval_in_lem (char_lit c) seg = tt
      eval_in_lem (var x) seg = failure_in (present_of g s x) (present_in x)
      eval_in_lem (unary op e) seg = then_in (unary_of op) (eval g s calls e seg).out (eval_in_lem e seg) (unary_in op)
      eval_in_lem (binary op l r) seg =
          arrays_or_in (is_array g s l) _ _ seg
          (next_cells_in _ _ _ (array_in_lem l _) (λ vs h. then_cells_in (compare_cells op vs) (eval_array g s calls r (drop (seg_size g l) seg)).out (compare_in op vs)))
          (next_in _ _ _ (eval_in_lem l _) (λ v h. then_in (binary_of op v) (eval g s calls r (drop (seg_size g l) seg)).out (eval_in_lem r _) (λ w k. pair_in op (pair v w))))
      eval_in_lem (if_then_else c t e) seg = next_in _ _ _ (eval_in_lem c _) (λ v h. condition_in _ v _ (λ b. choose_in_lem b _ _ (eval_in_lem t _) (eval_in_lem e _)))
      eval_in_lem (pre e) seg = pre_in s.first e
      eval_in_lem (arrow a b) seg = choose_in_lem s.first _ _ (eval_in_lem a _) (eval_in_lem b _)
      eval_in_lem (cast t e) seg = then_in (cast_to t) (eval g s calls e seg).out (eval_in_lem e seg) (cast_in t)
      eval_in_lem (call k es) seg =
          let own = take (record_size g k) seg in
          let r = flat (eval_each g s calls es (drop (record_size g k) seg)) in
          single_out (enter (calls k) own r).out
          (enter_in (calls k) own r (each_then flatten (eval_each g s calls es (drop (record_size g k) seg)).out (each_in es (drop (record_size g k) seg)) concat_in) (λ ws h. keeps k ws own h))
      eval_in_lem (tuple es) seg = tt
      eval_in_lem (index a i) seg =
          next_cells_in _ _ _ (cells_by_in (is_array g s a) (λ q. eval_array g s calls a q) (λ q. eval g s calls a q) _ (array_in_lem a _) (eval_in_lem a _))
          (λ vs h. then_in (index_of (is_array g s a) vs) (eval g s calls i (drop (seg_size g a) seg)).out (eval_in_lem i _) (λ v k. index_in (is_array g s a) vs v h))
      eval_in_lem (literal es) seg = tt
      eval_in_lem (map_over k es) seg = tt
      eval_in_lem (fold_over k e es) seg =
          let own = take (seg_size g e) seg in
          let r = eval_each g s calls es (drop (seg_size g e) seg) in
          let seed : List (List Value) → List ℕ → Evals = λ vss q. several_eval (map_eval (fold_all g s calls k vss) (eval g s calls e q)) in
          single_out (enter seed own r).out
          (enter_each seed own r (each_in es (drop (seg_size g e) seg))
          (λ vss h. several_out (then_out (fold_all g s calls k vss) (eval g s calls e own).out)
          (then_in (fold_all g s calls k vss) (eval g s calls e own).out (eval_in_lem e own) (λ v i. fold_in (applied g s calls k) (applied_in_lem k) v (get_or vss 0 []) i (first_in vss h)))))

      array_in_lem : (e : Expr) (seg : List ℕ) → OutsInFormat (eval_array g s calls e seg).out
      array_in_lem (bool_lit b) seg = tt
      array_in_lem (int_lit i) seg = tt
      array_in_lem (float_lit b) seg = tt
      array_in_lem (char_lit c) seg = tt
      array_in_lem (var x) seg = cells_in s.present present x
      array_in_lem (unary op e) seg = tt
      array_in_lem (binary op l r) seg = tt
      array_in_lem (if_then_else c t e) seg = tt
      array_in_lem (pre e) seg = pre_cells_in s.first e
      array_in_lem (arrow a b) seg = tt
      array_in_lem (cast t e) seg = tt
      array_in_lem (call k es) seg =
          let own = take (record_size g k) seg in
          enter_in (calls k) own (flat (eval_each g s calls es (drop (record_size g k) seg)))
          (each_then flatten (eval_each g s calls es (drop (record_size g k) seg)).out (each_in es (drop (record_size g k) seg)) concat_in) (λ ws h. keeps k ws own h)
      array_in_lem (tuple es) seg = tt
      array_in_lem (index a i) seg = tt
      array_in_lem (literal es) seg = each_then flatten (eval_each g s calls es seg).out (each_in es seg) concat_in
      array_in_lem (map_over k es) seg =
          each_then (map_all g s calls k) (eval_each g s calls es seg).out (each_in es seg) (λ vss h. map_in (applied g s calls k) (applied_in_lem k) vss h 0 (length (get_or vss 0 [])))
      array_in_lem (fold_over k e es) seg = tt

      each_in : (es : Exprs) (seg : List ℕ) → EachOut (eval_each g s calls es seg).out
      each_in nil seg = tt
      each_in (cons e es) seg =
          next_all_in _ _ _ (cells_by_in (is_array g s e) (λ q. eval_array g s calls e q) (λ q. eval g s calls e q) _ (array_in_lem e _) (eval_in_lem e _)) (each_in es _)

    pub eval_cells_in : (e : Expr) (seg : List ℕ) → OutsInFormat (eval_cells g s calls e seg).out
    eval_cells_in e seg = cells_by_in (is_array g s e) (λ q. eval_array g s calls e q) (λ q. eval g s calls e q) seg (array_in_lem e seg) (eval_in_lem e seg)

    rhs_in_lem : (r : Rhs) (seg : List ℕ) → OutsInFormat (eval_rhs g s calls r seg).out
    rhs_in_lem (items es) seg = each_then flatten (eval_each g s calls es seg).out (each_in es seg) concat_in
    rhs_in_lem (outputs_of k es) seg =
        enter_in (calls k) _ _ (each_then flatten (eval_each g s calls es (drop (record_size g k) seg)).out (each_in es (drop (record_size g k) seg)) concat_in) (λ ws h. keeps k ws _ h)
    rhs_in_lem (one e) seg = eval_cells_in e seg

  -- ---- a run

  put_in : (n : Node) (is : List ℕ) (vs cs : List Value) → InFormats vs → InFormats cs → InFormats (put_all n is vs cs)
  unfolding put_all
  put_in n [] vs cs h k = k
  put_in n (i ∷ is) [] cs h k = k
  put_in n (i ∷ is) (v ∷ vs) cs h k = put_in n is vs _ h.1 (set_in cs i _ k (fit_in (get_or (cell_types (variables n)) i bool) v h.0))

  assign_in : (n : Node) (xs : List ℕ) (vs cs : List Value) → InFormats vs → InFormats cs → InFormats (assign n xs vs cs)
  assign_in n xs vs cs h k = put_in n (slots_of n xs) vs cs h k

  run_all_in : (n : Node) (first : Bool) (before : List Value) → InFormats before → (is : List ℕ) (cs : List Value) (ss : List (List ℕ)) → InFormats cs
      → InFormats (run_all g calls n first before is cs ss).cells
  unfolding run_all store
  run_all_in n first before b [] cs ss h = h
  run_all_in n first before b (i ∷ is) cs ss h =
      go (eval_equation g calls n first before cs i (get_or ss i [])).out (rhs_in_lem (scope n first before cs) h b (rhs_of (equation_at n i).rhs) _) (run_all_in n first before b is)
    where
      go : (o : Outcomes) → OutsInFormat o → ((cs : List Value) (ss : List (List ℕ)) → InFormats cs → InFormats (run_all g calls n first before is cs ss).cells)
          → InFormats (store_on n i o (eval_equation g calls n first before cs i (get_or ss i [])).seg (run_all g calls n first before is) cs ss).cells
      go (values vs) k f = f _ _ (assign_in n (equation_at n i).names vs cs k h)
      go (failure c) k f = h
      go overflow k f = h

  run_in_lem : (n : Node) (ins : List Value) (r : List ℕ) → InFormats ins → InFormats (run g calls n ins r).cells
  unfolding run
  run_in_lem n ins r h =
      let old = values_in_lem (cell_count n) (drop 1 r) in
      run_all_in n _ (old_cells n r) old _ _ _ (join_in ins _ h (drop_in (input_count n) (old_cells n r) old))

  instance_in : (n : Node) (ws : List Value) (r : List ℕ) → InFormats ws → OutsInFormat (instance g calls n ws r).out
  unfolding instance leave
  instance_in n ws r h = go (run g calls n (fit_all (cell_types n.inputs) ws) r).end
    where
      go : (e : Ended) → OutsInFormat (leave_on g n r e (run g calls n (fit_all (cell_types n.inputs) ws) r).cells (run g calls n (fit_all (cell_types n.inputs) ws) r).segs).out
      go finished = take_in (output_count n) _ (drop_in (input_count n) _ (run_in_lem n (fit_all (cell_types n.inputs) ws) r (fit_all_in (cell_types n.inputs) ws h)))
      go (failed_at c i) = tt
      go (overflowed_at i) = tt

calls_in_lem : (g : Globals) → InFormats g.constant_values → (d : ℕ) → Keeps (calls_at g d)
unfolding calls_at
calls_in_lem g c zero k ws r h = tt
calls_in_lem g c (suc d) k ws r h = go (node_at g k).kind (calls_in_lem g c d)
  where
    go : (t : NodeKind) → Keeps (calls_at g d) → OutsInFormat (call_by g t (calls_at g d) (node_at g k) ws r).out
    go Function i = instance_in g c (calls_at g d) i (node_at g k) ws (fresh_record g (node_at g k)) h
    go Operator i = instance_in g c (calls_at g d) i (node_at g k) ws r h
    go Imported i = tt

-- ---- constants

constants_in_lem : (f : File) (cs : List (ℕ × Constant)) (xs : List ℕ) (us vs : List Value) → InFormats us → constants_from f xs us cs ≡ all vs → InFormats vs
constants_in_lem f [] xs us vs h e = let z : us ≡ vs = cc in subst InFormats z h
constants_in_lem f (c ∷ cs) xs us vs h e =
    go (eval_cells (globals f xs us) no_variables no_calls c.1.value []).out (eval_cells_in (globals f xs us) h no_calls (λ k ws r i. tt) no_variables tt tt c.1.value []) e
    (λ ws i. constants_in_lem f cs (xs ++ constant_slots c.1) (us ++ fit_all (constant_cells c.1) ws) vs (join_in us _ h (fit_all_in (constant_cells c.1) ws i)))
  where
    go : (o : Outcomes) → OutsInFormat o → after_constant c.0 (λ ws. constants_from f (xs ++ constant_slots c.1) (us ++ fit_all (constant_cells c.1) ws) cs) o ≡ all vs
        → ((ws : List Value) → InFormats ws → constants_from f (xs ++ constant_slots c.1) (us ++ fit_all (constant_cells c.1) ws) cs ≡ all vs → InFormats vs) → InFormats vs
    go (values ws) i e k = k ws i e
    go (failure c) i e k = let z : ◌≡◌ {A = ℕ} 0 1 = cc in absurd (omega arith)
    go overflow i e k = let z : ◌≡◌ {A = ℕ} 0 1 = cc in absurd (omega arith)

all_constants : (f : File) (vs : List Value) → constants f ≡ all vs → InFormats vs
unfolding constants
all_constants f vs e = constants_in_lem f (placed_constants f) [] [] vs tt e

main_in : (f : File) (vs : List Value) (old ins : List ℕ) → InFormats vs → InFormats (main_run f vs old ins).cells
unfolding main_run
main_in f vs old ins h =
    let g = globals_of f vs in
    run_in_lem g h (calls g) (calls_in_lem g h (length g.nodes)) (main f) (values_of (input_count (main f)) ins) _ (values_in_lem (input_count (main f)) ins)

pub formats_kept : FormatsKept
formats_kept =
    record {
      read = values_in_lem;
      constants = all_constants;
      evaluated = λ f vs s d e seg h p b. eval_in_lem (globals_of f vs) h (calls_at (globals_of f vs) d) (calls_in_lem (globals_of f vs) h d) s p b e seg;
      evaluated_cells = λ f vs s d e seg h p b. eval_cells_in (globals_of f vs) h (calls_at (globals_of f vs) d) (calls_in_lem (globals_of f vs) h d) s p b e seg;
      called = λ f vs d k ws r h i. calls_in_lem (globals_of f vs) h d k ws r i;
      cycled = main_in;
    }
