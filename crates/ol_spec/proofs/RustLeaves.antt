-- The leaves that are written from the Rust are those of Operators, Types, Eval and Order.
use Prim.Native.Nat.{ℕ, ◌-◌, ◌^◌}
use mathlib.Core.Bool.{Bool, true, false, not, ◌&&◌, ◌||◌, cond}
use mathlib.Core.List.{List, [], ◌∷◌, ◌++◌, append_assoc, append-nil, map}
use mathlib.Core.Option.{Option, none, some}
use mathlib.Core.Path.{◌≡◌, refl, sym, ap, ap₂, subst, ◌∙◌}
use native.Mathlib.Omega.{arith}
use lib.ListN.{get_or, get_or-map, length, get_elem?}
use lib.Dec.{eqb, ltb, leb, ltb→lt, lt→ltb, leb→le, le→leb}
use lib.IntN.{ℤ, pos, negsuc, neg_ℤ, ◌+ℤ◌, ◌-ℤ◌, ◌*ℤ◌}
use lib.Signed.{mag, quot_z, rem_z}
use Rattle.ol_spec.specs.Lists.{maybe, is_empty}
use Rattle.ol_spec.specs.Real.{Real, single, double, zero_r, add_r, sub_r, mul_r, div_r, round_single, eq_r, truncate}
use Rattle.ol_spec.specs.Syntax.{Ty, bool, int, float32, float64, char, enum, UnaryOp, Not, Neg, BinOp, And, Or, Xor, Implies, Eq, Neq, Lt, Le, Gt, Ge, Add, Sub, Mul, Div, Mod, BitAnd, BitOr, BitXor, Shl, Shr}
use Rattle.ol_spec.specs.Syntax.{Expr, bool_lit, int_lit, float_lit, char_lit, var, unary, binary, if_then_else, pre, arrow, cast, call, tuple, index, literal, map_over, fold_over, Exprs, nil, cons, VarTy, scalar, array}
use Rattle.ol_spec.specs.Types.{int_tys, int_ty, whole, narrow, fit, cast_to, default}
use Rattle.ol_spec.specs.Operators.{exact, div_int, mod_int, eq_z, shift_by, unary_of, on_pair, bools, ints, reals, names, unlike, binary_of, pair, equal, bool_out}
use Rattle.ol_spec.specs.Cell.{tag}
use Rattle.ol_spec.specs.Order.{reads, reads_all}
use Rattle.ol_spec.specs.Eval.{callees, callees_all, has_call, RealKind, not_real, is_single, is_double_kind, join, kind_of_value, kind_of_type, arithmetic, is_double?, common_real, kind_of_var_ty, equality, equal_cells, compare_cells, index_of}
use Rattle.ol_spec.specs.RustLeaves.{SimError, uninitialized_pre, binary_not_supported, unary_not_supported, other_error, Result, Ok, Err, Panic, plain, plainly, AReal, both, rust_int_in, real_in, ok_int, in_i64, checked, shift_count, eq_arm, int_arm, eval_values, unary_value, narrow_int, cast_plain, default_named, join_kinds, is_double, of_type, is_arithmetic, widen_beside, rust_has_call, has_calls, same_cycle_reads, all_reads, Given, just, Array, same_value, same_values, eval_binary, index_value, out_of_bounds, fit_plain, default_plain, of_scalar, of_plain}
use Rattle.ol_spec.specs.AsRust.{matches, takes_both, error_number}
use Rattle.ol_spec.specs.Answers.{cause_number}
use Rattle.ol_spec.proofs.Data.{single_back}
use Rattle.ol_spec.proofs.Values.{Fine}
use Rattle.ol_spec.specs.declared.Value.{Value}
use Rattle.ol_spec.specs.declared.Value.TheVariants as Val
use Rattle.ol_spec.specs.declared.Cause.{Cause}
use Rattle.ol_spec.specs.declared.Cause.TheVariants as Why
use Rattle.ol_spec.specs.declared.Outcome.{Outcome}
use Rattle.ol_spec.specs.declared.Outcome.TheVariants as Out
use Rattle.ol_spec.proofs.Tests.{bool_same}

-- ---- i64

and_true : (a b : Bool) → a ≡ b → a && true ≡ b
and_true true b e = e
and_true false b e = e

i64_is : (i : ℤ) → in_i64 i ≡ ltb (mag i) (2 ^ 63)
i64_is (pos n) = refl
i64_is (negsuc n) =
    and_true (leb n (2 ^ 63 - 1)) (ltb n (2 ^ 63))
    (bool_same (leb n (2 ^ 63 - 1)) (ltb n (2 ^ 63)) (λ t. lt→ltb n (2 ^ 63) (omega (arith, leb→le n (2 ^ 63 - 1) t))) (λ t. le→leb n (2 ^ 63 - 1) (omega (arith, ltb→lt n (2 ^ 63) t))))

-- ---- why an error stops a cycle

abbrev pub cause_of : SimError → Cause
cause_of uninitialized_pre = Why.Cold
cause_of (binary_not_supported op l r) = cond (takes_both op l r) Why.Range Why.Other
cause_of (unary_not_supported op v) = Why.Other
cause_of (out_of_bounds i n) = Why.Range
cause_of other_error = Why.Other

pub number_is : (e : SimError) → cause_number (cause_of e) ≡ error_number e
number_is uninitialized_pre = refl
number_is (binary_not_supported op l r) = go (takes_both op l r)
  where
    go : (b : Bool) → cause_number (cond b Why.Range Why.Other) ≡ cond b 20 21
    go true = refl
    go false = refl
number_is (unary_not_supported op v) = refl
number_is (out_of_bounds i n) = refl
number_is other_error = refl

abbrev pub outcome_in : Result Value → Outcome
outcome_in (Ok v) = Out.Value v
outcome_in (Err e) = Out.Failure (cause_of e)
outcome_in Panic = Out.Overflow

-- an evaluation over bytes and the Rust's
pub data Tells : Outcome → Result Given → Type 0 where
  gives : (v : Value) → Tells (Out.Value v) (Ok (just (plain v)))
  errs : (e : SimError) → Tells (Out.Failure (cause_of e)) (Err e)
  panics : Tells Out.Overflow Panic

pub tells_in : (o : Outcome) (r : Result Value) → outcome_in r ≡ o → Tells o (plainly r)
tells_in o r e = subst (λ o. Tells o (plainly r)) e (go r)
  where
    go : (r : Result Value) → Tells (outcome_in r) (plainly r)
    go (Ok v) = gives v
    go (Err e) = errs e
    go Panic = panics

out_cond : (b : Bool) (x y : Result Value) → outcome_in (cond b x y) ≡ cond b (outcome_in x) (outcome_in y)
out_cond true x y = refl
out_cond false x y = refl

checked_is : (i : ℤ) → outcome_in (checked i) ≡ exact i
checked_is i = ap (λ b. outcome_in (cond b (ok_int i) Panic)) (i64_is i) ∙ out_cond (ltb (mag i) (2 ^ 63)) (ok_int i) Panic

-- an arm whose guard may not hold
guard_is : (b : Bool) (last x : Result Value) → outcome_in (maybe last (λ x. x) (cond b none (some x))) ≡ cond b (outcome_in last) (outcome_in x)
guard_is true last x = refl
guard_is false last x = refl

div_is : (i j : ℤ) (last : Result Value) → outcome_in last ≡ Out.Failure Why.Range → outcome_in (maybe last (λ x. x) (int_arm Div i j)) ≡ div_int i j
div_is i j last e = guard_is (eq_z j (pos 0)) last (checked (quot_z i j)) ∙ ap₂ (cond (eq_z j (pos 0))) e (checked_is (quot_z i j))

mod_is : (i j : ℤ) (last : Result Value) → outcome_in last ≡ Out.Failure Why.Range → outcome_in (maybe last (λ x. x) (int_arm Mod i j)) ≡ mod_int i j
mod_is i j last e =
    guard_is (eq_z j (pos 0)) last (cond (in_i64 (quot_z i j)) (ok_int (rem_z i j)) Panic)
    ∙ ap₂ (cond (eq_z j (pos 0))) e (ap (λ b. outcome_in (cond b (ok_int (rem_z i j)) Panic)) (i64_is (quot_z i j)) ∙ out_cond (ltb (mag (quot_z i j)) (2 ^ 63)) (ok_int (rem_z i j)) Panic)

shift_is : (h : ℕ → ℤ) (j : ℤ) (last : Result Value) → outcome_in last ≡ Out.Failure Why.Range → outcome_in (maybe last (λ x. x) (maybe none (λ k. some (ok_int (h k))) (shift_count j))) ≡ shift_by h j
shift_is h (pos k) last e = go (ltb k 64)
  where
    go : (b : Bool) → outcome_in (maybe last (λ x. x) (maybe none (λ k. some (ok_int (h k))) (cond b (some k) none))) ≡ cond b (Out.Value (Val.Int (h k))) (Out.Failure Why.Range)
    go true = refl
    go false = e
shift_is h (negsuc k) last e = e

-- ---- `eval_binary`

bools_is : (op : BinOp) (a b : Bool) → outcome_in (eval_values op (Val.Bool a) (Val.Bool b)) ≡ on_pair op (bools a b)
unfolding on_pair eval_values
bools_is And a b = refl
bools_is Or a b = refl
bools_is Xor a b = refl
bools_is Implies a b = refl
bools_is Eq a b = refl
bools_is Neq a b = refl
bools_is Lt a b = refl
bools_is Le a b = refl
bools_is Gt a b = refl
bools_is Ge a b = refl
bools_is Add a b = refl
bools_is Sub a b = refl
bools_is Mul a b = refl
bools_is Div a b = refl
bools_is Mod a b = refl
bools_is BitAnd a b = refl
bools_is BitOr a b = refl
bools_is BitXor a b = refl
bools_is Shl a b = refl
bools_is Shr a b = refl

ints_is : (op : BinOp) (a b : ℤ) → outcome_in (eval_values op (Val.Int a) (Val.Int b)) ≡ on_pair op (ints a b)
unfolding on_pair eval_values
ints_is And a b = refl
ints_is Or a b = refl
ints_is Xor a b = refl
ints_is Implies a b = refl
ints_is Eq a b = refl
ints_is Neq a b = refl
ints_is Lt a b = refl
ints_is Le a b = refl
ints_is Gt a b = refl
ints_is Ge a b = refl
ints_is Add a b = checked_is (a +ℤ b)
ints_is Sub a b = checked_is (a -ℤ b)
ints_is Mul a b = checked_is (a *ℤ b)
ints_is Div a b = div_is a b (Err (binary_not_supported Div (just (plain (Val.Int a))) (just (plain (Val.Int b))))) refl
ints_is Mod a b = mod_is a b (Err (binary_not_supported Mod (just (plain (Val.Int a))) (just (plain (Val.Int b))))) refl
ints_is BitAnd a b = refl
ints_is BitOr a b = refl
ints_is BitXor a b = refl
ints_is Shl a b = shift_is _ b (Err (binary_not_supported Shl (just (plain (Val.Int a))) (just (plain (Val.Int b))))) refl
ints_is Shr a b = shift_is _ b (Err (binary_not_supported Shr (just (plain (Val.Int a))) (just (plain (Val.Int b))))) refl

-- a single that `as f64` and back `as f32` leave as it is
abbrev pub Single : Value → Type 0
Single (Val.Bool b) = Unit {0}
Single (Val.Int i) = Unit {0}
Single (Val.Float x) = Unit {0}
Single (Val.Float32 x) = round_single x ≡ x
Single (Val.Enum v) = Unit {0}

singles_is : (op : BinOp) (a b : Real) → round_single a ≡ a → round_single b ≡ b → outcome_in (eval_values op (Val.Float32 a) (Val.Float32 b)) ≡ on_pair op (reals single a b)
unfolding on_pair eval_values
singles_is And a b p q = refl
singles_is Or a b p q = refl
singles_is Xor a b p q = refl
singles_is Implies a b p q = refl
singles_is Eq a b p q = refl
singles_is Neq a b p q = refl
singles_is Lt a b p q = refl
singles_is Le a b p q = refl
singles_is Gt a b p q = refl
singles_is Ge a b p q = refl
singles_is Add a b p q = ap₂ (λ x y. Out.Value (Val.Float32 (add_r single x y))) p q
singles_is Sub a b p q = ap₂ (λ x y. Out.Value (Val.Float32 (sub_r single x y))) p q
singles_is Mul a b p q = ap₂ (λ x y. Out.Value (Val.Float32 (mul_r single x y))) p q
singles_is Div a b p q =
    guard_is (eq_r b zero_r) (Err (binary_not_supported Div (just (plain (Val.Float32 a))) (just (plain (Val.Float32 b))))) (Ok (Val.Float32 (div_r single (round_single a) (round_single b))))
    ∙ ap₂ (λ x y. cond (eq_r b zero_r) (Out.Failure Why.Range) (Out.Value (Val.Float32 (div_r single x y)))) p q
singles_is Mod a b p q = refl
singles_is BitAnd a b p q = refl
singles_is BitOr a b p q = refl
singles_is BitXor a b p q = refl
singles_is Shl a b p q = refl
singles_is Shr a b p q = refl

doubles_is : (op : BinOp) (a b : Real) → outcome_in (eval_values op (Val.Float a) (Val.Float b)) ≡ on_pair op (reals double a b)
unfolding on_pair eval_values
doubles_is And a b = refl
doubles_is Or a b = refl
doubles_is Xor a b = refl
doubles_is Implies a b = refl
doubles_is Eq a b = refl
doubles_is Neq a b = refl
doubles_is Lt a b = refl
doubles_is Le a b = refl
doubles_is Gt a b = refl
doubles_is Ge a b = refl
doubles_is Add a b = refl
doubles_is Sub a b = refl
doubles_is Mul a b = refl
doubles_is Div a b = guard_is (eq_r b zero_r) (Err (binary_not_supported Div (just (plain (Val.Float a))) (just (plain (Val.Float b))))) (Ok (Val.Float (div_r double a b)))
doubles_is Mod a b = refl
doubles_is BitAnd a b = refl
doubles_is BitOr a b = refl
doubles_is BitXor a b = refl
doubles_is Shl a b = refl
doubles_is Shr a b = refl

double_single : (op : BinOp) (a b : Real) → outcome_in (eval_values op (Val.Float a) (Val.Float32 b)) ≡ on_pair op (reals double a b)
unfolding on_pair eval_values
double_single And a b = refl
double_single Or a b = refl
double_single Xor a b = refl
double_single Implies a b = refl
double_single Eq a b = refl
double_single Neq a b = refl
double_single Lt a b = refl
double_single Le a b = refl
double_single Gt a b = refl
double_single Ge a b = refl
double_single Add a b = refl
double_single Sub a b = refl
double_single Mul a b = refl
double_single Div a b = guard_is (eq_r b zero_r) (Err (binary_not_supported Div (just (plain (Val.Float a))) (just (plain (Val.Float32 b))))) (Ok (Val.Float (div_r double a b)))
double_single Mod a b = refl
double_single BitAnd a b = refl
double_single BitOr a b = refl
double_single BitXor a b = refl
double_single Shl a b = refl
double_single Shr a b = refl

single_double : (op : BinOp) (a b : Real) → outcome_in (eval_values op (Val.Float32 a) (Val.Float b)) ≡ on_pair op (reals double a b)
unfolding on_pair eval_values
single_double And a b = refl
single_double Or a b = refl
single_double Xor a b = refl
single_double Implies a b = refl
single_double Eq a b = refl
single_double Neq a b = refl
single_double Lt a b = refl
single_double Le a b = refl
single_double Gt a b = refl
single_double Ge a b = refl
single_double Add a b = refl
single_double Sub a b = refl
single_double Mul a b = refl
single_double Div a b = guard_is (eq_r b zero_r) (Err (binary_not_supported Div (just (plain (Val.Float32 a))) (just (plain (Val.Float b))))) (Ok (Val.Float (div_r double a b)))
single_double Mod a b = refl
single_double BitAnd a b = refl
single_double BitOr a b = refl
single_double BitXor a b = refl
single_double Shl a b = refl
single_double Shr a b = refl

names_is : (op : BinOp) (a b : ℕ) → outcome_in (eval_values op (Val.Enum a) (Val.Enum b)) ≡ on_pair op (names a b)
unfolding on_pair eval_values
names_is And a b = refl
names_is Or a b = refl
names_is Xor a b = refl
names_is Implies a b = refl
names_is Eq a b = refl
names_is Neq a b = refl
names_is Lt a b = refl
names_is Le a b = refl
names_is Gt a b = refl
names_is Ge a b = refl
names_is Add a b = refl
names_is Sub a b = refl
names_is Mul a b = refl
names_is Div a b = refl
names_is Mod a b = refl
names_is BitAnd a b = refl
names_is BitOr a b = refl
names_is BitXor a b = refl
names_is Shl a b = refl
names_is Shr a b = refl

-- two kinds that no operation takes
unlike_is : (op : BinOp) (last : Result Value) → outcome_in last ≡ Out.Failure Why.Other → outcome_in (maybe last (λ x. x) (eq_arm op false)) ≡ on_pair op unlike
unfolding on_pair
unlike_is And last e = e
unlike_is Or last e = e
unlike_is Xor last e = e
unlike_is Implies last e = e
unlike_is Eq last e = refl
unlike_is Neq last e = refl
unlike_is Lt last e = e
unlike_is Le last e = e
unlike_is Gt last e = e
unlike_is Ge last e = e
unlike_is Add last e = e
unlike_is Sub last e = e
unlike_is Mul last e = e
unlike_is Div last e = e
unlike_is Mod last e = e
unlike_is BitAnd last e = e
unlike_is BitOr last e = e
unlike_is BitXor last e = e
unlike_is Shl last e = e
unlike_is Shr last e = e

never : (op : BinOp) (v w : Value) → both (rust_int_in v) (rust_int_in w) ≡ none → both (real_in v) (real_in w) ≡ none → cause_of (binary_not_supported op (just (plain v)) (just (plain w))) ≡ Why.Other
never And v w a b = refl
never Or v w a b = refl
never Xor v w a b = refl
never Implies v w a b = refl
never Eq v w a b = refl
never Neq v w a b = refl
never Lt v w a b = refl
never Le v w a b = refl
never Gt v w a b = refl
never Ge v w a b = refl
never Add v w a b = refl
never Sub v w a b = refl
never Mul v w a b = refl
never Div v w a b = ap₂ (λ (o : Option (ℤ × ℤ)) (r : Option (AReal × AReal)). cond (matches o || matches r) Why.Range Why.Other) a b
never Mod v w a b = ap (λ (o : Option (ℤ × ℤ)). cond (matches o) Why.Range Why.Other) a
never BitAnd v w a b = refl
never BitOr v w a b = refl
never BitXor v w a b = refl
never Shl v w a b = ap (λ (o : Option (ℤ × ℤ)). cond (matches o) Why.Range Why.Other) a
never Shr v w a b = ap (λ (o : Option (ℤ × ℤ)). cond (matches o) Why.Range Why.Other) a

unlikely : (op : BinOp) (v w : Value) → both (rust_int_in v) (rust_int_in w) ≡ none → both (real_in v) (real_in w) ≡ none
    → outcome_in (maybe (Err (binary_not_supported op (just (plain v)) (just (plain w)))) (λ x. x) (eq_arm op false)) ≡ on_pair op unlike
unlikely op v w a b = unlike_is op _ (ap Out.Failure (never op v w a b))

-- a value of its format is one
pub fine_single : (ns : List ℕ) (v : Value) → Fine ns v → Single v
fine_single ns (Val.Bool b) h = tt
fine_single ns (Val.Int i) h = tt
fine_single ns (Val.Float x) h = tt
fine_single ns (Val.Float32 x) h = single_back x h
fine_single ns (Val.Enum v) h = tt

pub binary_is : (op : BinOp) (v w : Value) → Single v → Single w → outcome_in (eval_values op v w) ≡ binary_of op v w
unfolding eval_values
binary_is op (Val.Bool a) (Val.Bool b) h k = bools_is op a b
binary_is op (Val.Bool a) (Val.Int b) h k = unlikely op (Val.Bool a) (Val.Int b) refl refl
binary_is op (Val.Bool a) (Val.Float b) h k = unlikely op (Val.Bool a) (Val.Float b) refl refl
binary_is op (Val.Bool a) (Val.Float32 b) h k = unlikely op (Val.Bool a) (Val.Float32 b) refl refl
binary_is op (Val.Bool a) (Val.Enum b) h k = unlikely op (Val.Bool a) (Val.Enum b) refl refl
binary_is op (Val.Int a) (Val.Bool b) h k = unlikely op (Val.Int a) (Val.Bool b) refl refl
binary_is op (Val.Int a) (Val.Int b) h k = ints_is op a b
binary_is op (Val.Int a) (Val.Float b) h k = unlikely op (Val.Int a) (Val.Float b) refl refl
binary_is op (Val.Int a) (Val.Float32 b) h k = unlikely op (Val.Int a) (Val.Float32 b) refl refl
binary_is op (Val.Int a) (Val.Enum b) h k = unlikely op (Val.Int a) (Val.Enum b) refl refl
binary_is op (Val.Float a) (Val.Bool b) h k = unlikely op (Val.Float a) (Val.Bool b) refl refl
binary_is op (Val.Float a) (Val.Int b) h k = unlikely op (Val.Float a) (Val.Int b) refl refl
binary_is op (Val.Float a) (Val.Float b) h k = doubles_is op a b
binary_is op (Val.Float a) (Val.Float32 b) h k = double_single op a b
binary_is op (Val.Float a) (Val.Enum b) h k = unlikely op (Val.Float a) (Val.Enum b) refl refl
binary_is op (Val.Float32 a) (Val.Bool b) h k = unlikely op (Val.Float32 a) (Val.Bool b) refl refl
binary_is op (Val.Float32 a) (Val.Int b) h k = unlikely op (Val.Float32 a) (Val.Int b) refl refl
binary_is op (Val.Float32 a) (Val.Float b) h k = single_double op a b
binary_is op (Val.Float32 a) (Val.Float32 b) h k = singles_is op a b h k
binary_is op (Val.Float32 a) (Val.Enum b) h k = unlikely op (Val.Float32 a) (Val.Enum b) refl refl
binary_is op (Val.Enum a) (Val.Bool b) h k = unlikely op (Val.Enum a) (Val.Bool b) refl refl
binary_is op (Val.Enum a) (Val.Int b) h k = unlikely op (Val.Enum a) (Val.Int b) refl refl
binary_is op (Val.Enum a) (Val.Float b) h k = unlikely op (Val.Enum a) (Val.Float b) refl refl
binary_is op (Val.Enum a) (Val.Float32 b) h k = unlikely op (Val.Enum a) (Val.Float32 b) refl refl
binary_is op (Val.Enum a) (Val.Enum b) h k = names_is op a b

pub unary_is : (op : UnaryOp) (v : Value) → outcome_in (unary_value op v) ≡ unary_of op v
unfolding unary_of
unary_is Not (Val.Bool b) = refl
unary_is Not (Val.Int i) = refl
unary_is Not (Val.Float x) = refl
unary_is Not (Val.Float32 x) = refl
unary_is Not (Val.Enum v) = refl
unary_is Neg (Val.Bool b) = refl
unary_is Neg (Val.Int i) = checked_is (neg_ℤ i)
unary_is Neg (Val.Float x) = refl
unary_is Neg (Val.Float32 x) = refl
unary_is Neg (Val.Enum v) = refl

-- ---- types

narrow_is : (c : ℕ) (i : ℤ) → narrow_int c i ≡ narrow (int_ty c) i
narrow_is c i = ap (λ h. h i) (get_or-map narrow int_tys c whole)

pub fit_is : (t : Ty) (v : Value) → fit_plain t v ≡ fit t v
unfolding fit_plain fit
fit_is bool v = refl
fit_is (int c) (Val.Bool x) = refl
fit_is (int c) (Val.Int x) = ap Val.Int (narrow_is c x)
fit_is (int c) (Val.Float x) = refl
fit_is (int c) (Val.Float32 x) = refl
fit_is (int c) (Val.Enum x) = refl
fit_is float32 (Val.Bool x) = refl
fit_is float32 (Val.Int x) = refl
fit_is float32 (Val.Float x) = refl
fit_is float32 (Val.Float32 x) = refl
fit_is float32 (Val.Enum x) = refl
fit_is float64 (Val.Bool x) = refl
fit_is float64 (Val.Int x) = refl
fit_is float64 (Val.Float x) = refl
fit_is float64 (Val.Float32 x) = refl
fit_is float64 (Val.Enum x) = refl
fit_is char v = refl
fit_is (enum e) v = refl

pub cast_is : (t : Ty) (v : Value) → outcome_in (cast_plain t v) ≡ cast_to t v
unfolding cast_to
cast_is bool v = refl
cast_is (int c) (Val.Bool x) = refl
cast_is (int c) (Val.Int x) = ap (λ i. Out.Value (Val.Int i)) (narrow_is c x)
cast_is (int c) (Val.Float x) = ap (λ i. Out.Value (Val.Int i)) (narrow_is c (truncate x))
cast_is (int c) (Val.Float32 x) = ap (λ i. Out.Value (Val.Int i)) (narrow_is c (truncate x))
cast_is (int c) (Val.Enum x) = refl
cast_is float32 (Val.Bool x) = refl
cast_is float32 (Val.Int x) = refl
cast_is float32 (Val.Float x) = refl
cast_is float32 (Val.Float32 x) = refl
cast_is float32 (Val.Enum x) = refl
cast_is float64 (Val.Bool x) = refl
cast_is float64 (Val.Int x) = refl
cast_is float64 (Val.Float x) = refl
cast_is float64 (Val.Float32 x) = refl
cast_is float64 (Val.Enum x) = refl
cast_is char v = refl
cast_is (enum e) v = refl

pub default_is_lem : (enums : List (List ℕ)) (t : Ty) → default_plain enums t ≡ default enums t
unfolding default_plain
default_is_lem enums bool = refl
default_is_lem enums (int c) = refl
default_is_lem enums float32 = refl
default_is_lem enums float64 = refl
default_is_lem enums char = refl
default_is_lem enums (enum e) = go (get_or enums e [])
  where
    go : (l : List ℕ) → default_named l ≡ Val.Enum (get_or l 0 0)
    go [] = refl
    go (v ∷ l) = refl

-- ---- arrays

element_is : (v w : Value) → same_value v w ≡ eqb (tag v) (tag w) && equal (pair v w)
element_is (Val.Bool a) (Val.Bool b) = refl
element_is (Val.Bool a) (Val.Int b) = refl
element_is (Val.Bool a) (Val.Float b) = refl
element_is (Val.Bool a) (Val.Float32 b) = refl
element_is (Val.Bool a) (Val.Enum b) = refl
element_is (Val.Int a) (Val.Bool b) = refl
element_is (Val.Int a) (Val.Int b) = refl
element_is (Val.Int a) (Val.Float b) = refl
element_is (Val.Int a) (Val.Float32 b) = refl
element_is (Val.Int a) (Val.Enum b) = refl
element_is (Val.Float a) (Val.Bool b) = refl
element_is (Val.Float a) (Val.Int b) = refl
element_is (Val.Float a) (Val.Float b) = refl
element_is (Val.Float a) (Val.Float32 b) = refl
element_is (Val.Float a) (Val.Enum b) = refl
element_is (Val.Float32 a) (Val.Bool b) = refl
element_is (Val.Float32 a) (Val.Int b) = refl
element_is (Val.Float32 a) (Val.Float b) = refl
element_is (Val.Float32 a) (Val.Float32 b) = refl
element_is (Val.Float32 a) (Val.Enum b) = refl
element_is (Val.Enum a) (Val.Bool b) = refl
element_is (Val.Enum a) (Val.Int b) = refl
element_is (Val.Enum a) (Val.Float b) = refl
element_is (Val.Enum a) (Val.Float32 b) = refl
element_is (Val.Enum a) (Val.Enum b) = refl

and_assoc : (a b c : Bool) → (a && b) && c ≡ a && (b && c)
and_assoc true b c = refl
and_assoc false b c = refl

cells_are : (vs ws : List Value) → same_values vs ws ≡ equal_cells vs ws
cells_are [] [] = refl
cells_are [] (w ∷ ws) = refl
cells_are (v ∷ vs) [] = refl
cells_are (v ∷ vs) (w ∷ ws) = ap₂ ◌&&◌ (element_is v w) (cells_are vs ws) ∙ and_assoc (eqb (tag v) (tag w)) (equal (pair v w)) (equal_cells vs ws)

eq_is : (op : BinOp) (b : Bool) (last : Result Value) → outcome_in last ≡ Out.Failure Why.Other
    → outcome_in (maybe last (λ x. x) (eq_arm op b)) ≡ maybe (Out.Failure Why.Other) (λ f. bool_out (f b)) (equality op)
eq_is And b last e = e
eq_is Or b last e = e
eq_is Xor b last e = e
eq_is Implies b last e = e
eq_is Eq b last e = refl
eq_is Neq b last e = refl
eq_is Lt b last e = e
eq_is Le b last e = e
eq_is Gt b last e = e
eq_is Ge b last e = e
eq_is Add b last e = e
eq_is Sub b last e = e
eq_is Mul b last e = e
eq_is Div b last e = e
eq_is Mod b last e = e
eq_is BitAnd b last e = e
eq_is BitOr b last e = e
eq_is BitXor b last e = e
eq_is Shl b last e = e
eq_is Shr b last e = e

pub compare_is : (op : BinOp) (vs ws : List Value) → Tells (compare_cells op vs ws) (eval_binary op (just (Array vs)) (just (Array ws)))
compare_is op vs ws =
    let last = Err (binary_not_supported op (just (Array vs)) (just (Array ws))) in
    tells_in (compare_cells op vs ws) (maybe last (λ x. x) (eq_arm op (same_values vs ws)))
    (ap (λ b. outcome_in (maybe last (λ x. x) (eq_arm op b))) (cells_are vs ws) ∙ eq_is op (equal_cells vs ws) last refl)

-- an index of an array, and of a scalar
pub index_is : (vs : List Value) (v : Value) → Tells (index_of true vs v) (index_value (just (Array vs)) (just (plain v)))
index_is vs (Val.Bool b) = errs other_error
index_is vs (Val.Int (pos k)) = go (get_elem? vs k)
  where
    go : (o : Option Value) → Tells (maybe (Out.Failure Why.Range) Out.Value o) (maybe (Err (out_of_bounds (pos k) (length vs))) (λ v. Ok (just (plain v))) o)
    go none = errs (out_of_bounds (pos k) (length vs))
    go (some v) = gives v
index_is vs (Val.Int (negsuc k)) = errs (out_of_bounds (negsuc k) (length vs))
index_is vs (Val.Float x) = errs other_error
index_is vs (Val.Float32 x) = errs other_error
index_is vs (Val.Enum x) = errs other_error

pub scalar_index : (vs : List Value) (u v : Value) → Tells (index_of false vs v) (index_value (just (plain u)) (just (plain v)))
scalar_index vs u (Val.Bool b) = errs other_error
scalar_index vs u (Val.Int i) = errs other_error
scalar_index vs u (Val.Float x) = errs other_error
scalar_index vs u (Val.Float32 x) = errs other_error
scalar_index vs u (Val.Enum x) = errs other_error

pub fits_are : (t : Ty) (vs : List Value) → map (fit_plain t) vs ≡ map (fit t) vs
fits_are t [] = refl
fits_are t (v ∷ vs) = ap₂ {C = List Value} (λ a b. a ∷ b) (fit_is t v) (fits_are t vs)

-- ---- `real_kind`

pub join_is : (a b : RealKind) → join_kinds a b ≡ join a b
join_is not_real not_real = refl
join_is not_real is_single = refl
join_is not_real is_double_kind = refl
join_is is_single not_real = refl
join_is is_single is_single = refl
join_is is_single is_double_kind = refl
join_is is_double_kind not_real = refl
join_is is_double_kind is_single = refl
join_is is_double_kind is_double_kind = refl

pub scalar_is : (t : Ty) → of_scalar t ≡ kind_of_type t
scalar_is bool = refl
scalar_is (int c) = refl
scalar_is float32 = refl
scalar_is float64 = refl
scalar_is char = refl
scalar_is (enum e) = refl

pub type_is : (t : VarTy) → of_type t ≡ kind_of_var_ty t
type_is (scalar t) = scalar_is t
type_is (array n t) = refl

pub value_is : (v : Value) → of_plain v ≡ kind_of_value v
value_is (Val.Bool b) = refl
value_is (Val.Int i) = refl
value_is (Val.Float x) = refl
value_is (Val.Float32 x) = refl
value_is (Val.Enum v) = refl

pub double_is : (k : RealKind) → is_double k ≡ is_double? k
double_is not_real = refl
double_is is_single = refl
double_is is_double_kind = refl

pub arithmetic_is : (op : BinOp) (k : RealKind) → cond (is_arithmetic op) k not_real ≡ arithmetic op k
arithmetic_is And k = refl
arithmetic_is Or k = refl
arithmetic_is Xor k = refl
arithmetic_is Implies k = refl
arithmetic_is Eq k = refl
arithmetic_is Neq k = refl
arithmetic_is Lt k = refl
arithmetic_is Le k = refl
arithmetic_is Gt k = refl
arithmetic_is Ge k = refl
arithmetic_is Add k = refl
arithmetic_is Sub k = refl
arithmetic_is Mul k = refl
arithmetic_is Div k = refl
arithmetic_is Mod k = refl
arithmetic_is BitAnd k = refl
arithmetic_is BitOr k = refl
arithmetic_is BitXor k = refl
arithmetic_is Shl k = refl
arithmetic_is Shr k = refl

pub widen_is : (b : Bool) (v : Value) → widen_beside b v ≡ common_real b v
widen_is true (Val.Bool x) = refl
widen_is true (Val.Int x) = refl
widen_is true (Val.Float x) = refl
widen_is true (Val.Float32 x) = refl
widen_is true (Val.Enum x) = refl
widen_is false (Val.Bool x) = refl
widen_is false (Val.Int x) = refl
widen_is false (Val.Float x) = refl
widen_is false (Val.Float32 x) = refl
widen_is false (Val.Enum x) = refl

-- ---- calls and reads

empty_both : (a b : List ℕ) → not (is_empty a) || not (is_empty b) ≡ not (is_empty (a ++ b))
empty_both [] b = refl
empty_both (x ∷ a) b = refl

mutual
  pub call_is : (e : Expr) → rust_has_call e ≡ has_call e
  call_is (bool_lit b) = refl
  call_is (int_lit i) = refl
  call_is (float_lit b) = refl
  call_is (char_lit c) = refl
  call_is (var x) = refl
  call_is (unary op e) = call_is e
  call_is (binary op l r) = ap₂ ◌||◌ (call_is l) (call_is r) ∙ empty_both (callees l) (callees r)
  call_is (if_then_else c t e) =
      ap₂ ◌||◌ (call_is c) (ap₂ ◌||◌ (call_is t) (call_is e) ∙ empty_both (callees t) (callees e)) ∙ empty_both (callees c) (callees t ++ callees e)
  call_is (pre e) = call_is e
  call_is (arrow a b) = ap₂ ◌||◌ (call_is a) (call_is b) ∙ empty_both (callees a) (callees b)
  call_is (cast t e) = call_is e
  call_is (call k es) = refl
  call_is (tuple es) = calls_are es
  call_is (index a i) = ap₂ ◌||◌ (call_is a) (call_is i) ∙ empty_both (callees a) (callees i)
  call_is (literal es) = calls_are es
  call_is (map_over k es) = calls_are es
  call_is (fold_over k e es) = ap₂ ◌||◌ (call_is e) (calls_are es) ∙ empty_both (callees e) (callees_all es)

  calls_are : (es : Exprs) → has_calls es ≡ not (is_empty (callees_all es))
  calls_are nil = refl
  calls_are (cons e es) = ap₂ ◌||◌ (call_is e) (calls_are es) ∙ empty_both (callees e) (callees_all es)

mutual
  -- what is read is added behind what there is
  reads_after : (e : Expr) (out : List ℕ) → same_cycle_reads e out ≡ out ++ reads e
  reads_after (bool_lit b) out = sym (append-nil out)
  reads_after (int_lit i) out = sym (append-nil out)
  reads_after (float_lit b) out = sym (append-nil out)
  reads_after (char_lit c) out = sym (append-nil out)
  reads_after (var x) out = refl
  reads_after (unary op e) out = reads_after e out
  reads_after (binary op l r) out = reads_after r (same_cycle_reads l out) ∙ ap (λ o. o ++ reads r) (reads_after l out) ∙ append_assoc out (reads l) (reads r)
  reads_after (if_then_else c t e) out =
      reads_after e (same_cycle_reads t (same_cycle_reads c out))
      ∙ ap (λ o. o ++ reads e) (reads_after t (same_cycle_reads c out) ∙ ap (λ o. o ++ reads t) (reads_after c out) ∙ append_assoc out (reads c) (reads t))
      ∙ append_assoc out (reads c ++ reads t) (reads e) ∙ ap (λ o. out ++ o) (append_assoc (reads c) (reads t) (reads e))
  reads_after (pre e) out = sym (append-nil out)
  reads_after (arrow a b) out = reads_after b (same_cycle_reads a out) ∙ ap (λ o. o ++ reads b) (reads_after a out) ∙ append_assoc out (reads a) (reads b)
  reads_after (cast t e) out = reads_after e out
  reads_after (call k es) out = all_after es out
  reads_after (tuple es) out = all_after es out
  reads_after (index a i) out = reads_after i (same_cycle_reads a out) ∙ ap (λ l. l ++ reads i) (reads_after a out) ∙ append_assoc out (reads a) (reads i)
  reads_after (literal es) out = all_after es out
  reads_after (map_over k es) out = all_after es out
  reads_after (fold_over k e es) out = all_after es (same_cycle_reads e out) ∙ ap (λ l. l ++ reads_all es) (reads_after e out) ∙ append_assoc out (reads e) (reads_all es)

  all_after : (es : Exprs) (out : List ℕ) → all_reads es out ≡ out ++ reads_all es
  all_after nil out = sym (append-nil out)
  all_after (cons e es) out = all_after es (same_cycle_reads e out) ∙ ap (λ o. o ++ reads_all es) (reads_after e out) ∙ append_assoc out (reads e) (reads_all es)

pub reads_are : (e : Expr) → same_cycle_reads e [] ≡ reads e
reads_are e = reads_after e []
