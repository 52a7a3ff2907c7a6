-- The leaves of the Rust: the functions of docs/src/crates/ol_sim/src/lib.rs and ol_ir that evaluation ends in, match by match. proofs/RustLeaves proves each equal to the one that
-- the byte definitions use. A match is written arm after arm, in the source's sequence: an arm that does not match is none, and the next is tried.
-- A NaN is one value here; in the Rust it has the machine's bits. Document 01: the oracle's NaNs compare alike. This and `cycle` (RustSim) are the two differences on admitted files.
use Rattle.std.specs.Prelude.{ℕ, ◌-◌, ◌*◌, ◌^◌, Bool, true, false, not, ◌&&◌, ◌||◌, cond, List, [], ◌∷◌, ◌++◌, map, length, get_or, replicate, ltb, eqb, ℤ, pos, negsuc, neg_ℤ, ◌+ℤ◌, ◌-ℤ◌, ◌*ℤ◌}
use Rattle.std.specs.Bool.{beq}
use Rattle.std.proofs.Math.Option.{Option, none, some}
use Rattle.std.proofs.Math.ListN.{get_elem?}
use Rattle.std.specs.Int.Signed.{lt_z, le_z, quot_z, rem_z, shr_z}
use Rattle.std.specs.Int.Bits as Bits
use Rattle.ol_spec.specs.Lists.{maybe}
use Rattle.ol_spec.specs.Numbers.{residue, signed}
use Rattle.ol_spec.specs.Real.{Real, single, double, zero_r, add_r, sub_r, mul_r, div_r, neg_r, widen, round_single, of_int, truncate, eq_r, lt_r, le_r}
use Rattle.ol_spec.specs.Syntax.{Ty, bool, int, float32, float64, char, enum, UnaryOp, Not, Neg, BinOp, And, Or, Xor, Implies, Eq, Neq, Lt, Le, Gt, Ge, Add, Sub, Mul, Div, Mod, BitAnd, BitOr, BitXor, Shl, Shr}
use Rattle.ol_spec.specs.Syntax.{Expr, bool_lit, int_lit, float_lit, char_lit, var, unary, binary, if_then_else, pre, arrow, cast, call, tuple, index, literal, map_over, fold_over, Exprs, nil, cons, VarTy, scalar, array}
use Rattle.ol_spec.specs.Eval.{RealKind, not_real, is_single, is_double_kind}
use Rattle.ol_spec.specs.declared.Value.{Value}
use Rattle.ol_spec.specs.declared.Value.TheVariants as Val

-- The Rust's `Value`, where a variable, an argument or an item of a Tuple has it: one that a cell can have, or an Array of such. A Tuple in a variable, an Array in an Array and so on
-- would be more than this has, and is an error here; 10 and 22 let no file make one.
pub data RValue : Type 0 where
  plain : Value → RValue
  Array : List Value → RValue

-- the `Value` that an expression gives: such a one, or a Tuple of these
pub data Given : Type 0 where
  just : RValue → Given
  Tuple : List RValue → Given

-- `SimError`, as far as its text tells one from another: "uninitialized `pre` evaluated on its first tick", "binary OP not supported on L and R", "unary OP not supported on V",
-- "array index I out of bounds (len N)", and every other text
pub data SimError : Type 0 where
  uninitialized_pre : SimError
  binary_not_supported : BinOp → Given → Given → SimError
  unary_not_supported : UnaryOp → Given → SimError
  out_of_bounds : ℤ → ℕ → SimError
  other_error : SimError

-- `Result<A, SimError>`, and the panic of an overflow
pub data Result (A : Type 0) : Type 0 where
  Ok : A → Result A
  Err : SimError → Result A
  Panic : Result A

abbrev pub ok_bool : Bool → Result Value
ok_bool b = Ok (Val.Bool b)

abbrev pub ok_int : ℤ → Result Value
ok_int i = Ok (Val.Int i)

abbrev pub plainly : Result Value → Result Given
plainly (Ok v) = Ok (just (plain v))
plainly (Err e) = Err e
plainly Panic = Panic

-- ---- i64

-- `i as iN as i64` and `i as uN as i64`
abbrev pub as_i : ℕ → ℤ → ℤ
as_i n i = signed n (residue n i)

abbrev pub as_u : ℕ → ℤ → ℤ
as_u n i = pos (residue n i)

-- from -2^63 to 2^63 - 1; another result is a panic
abbrev pub in_i64 : ℤ → Bool
in_i64 i = le_z (negsuc (2 ^ 63 - 1)) i && lt_z i (pos (2 ^ 63))

abbrev pub checked : ℤ → Result Value
checked i = cond (in_i64 i) (ok_int i) Panic

abbrev pub same_int : ℤ → ℤ → Bool
same_int a b = le_z a b && le_z b a

-- `(0..64).contains(&b)`, and then `b as u32`
abbrev pub shift_count : ℤ → Option ℕ
shift_count (pos k) = cond (ltb k 64) (some k) none
shift_count (negsuc k) = none

-- ---- patterns: `Bool(b)`, `Int(i)`, `Enum(v)`, and the reals

abbrev pub bool_in : Value → Option Bool
bool_in (Val.Bool b) = some b
bool_in (Val.Int i) = none
bool_in (Val.Float x) = none
bool_in (Val.Float32 x) = none
bool_in (Val.Enum v) = none

abbrev pub rust_int_in : Value → Option ℤ
rust_int_in (Val.Bool b) = none
rust_int_in (Val.Int i) = some i
rust_int_in (Val.Float x) = none
rust_int_in (Val.Float32 x) = none
rust_int_in (Val.Enum v) = none

abbrev pub enum_in : Value → Option ℕ
enum_in (Val.Bool b) = none
enum_in (Val.Int i) = none
enum_in (Val.Float x) = none
enum_in (Val.Float32 x) = none
enum_in (Val.Enum v) = some v

pub data AReal : Type 0 where
  f32 f64 : Real → AReal

abbrev pub real_in : Value → Option AReal
real_in (Val.Bool b) = none
real_in (Val.Int i) = none
real_in (Val.Float x) = some (f64 x)
real_in (Val.Float32 x) = some (f32 x)
real_in (Val.Enum v) = none

-- what is no Array and no Tuple
abbrev pub plain_in : Given → Option Value
plain_in (just (plain v)) = some v
plain_in (just (Array vs)) = none
plain_in (Tuple rs) = none

abbrev pub array_in : Given → Option (List Value)
array_in (just (plain v)) = none
array_in (just (Array vs)) = some vs
array_in (Tuple rs) = none

-- a pattern for both operands
abbrev pub both : {A : Type 0} → Option A → Option A → Option (A × A)
both none y = none
both (some a) none = none
both (some a) (some b) = some (a, b)

-- ---- `eval_binary`

-- `real_pair`: as doubles, and whether the operation is `float`. `as f64` is `widen`, `as f32` is `round_single`.
pub record Reals : Type 0 where
  pub left : Real
  pub right : Real
  pub float : Bool

abbrev pub pair_of : AReal × AReal → Reals
pair_of (f32 a, f32 b) = record { left = widen a; right = widen b; float = true }
pair_of (f32 a, f64 b) = record { left = widen a; right = b; float = false }
pair_of (f64 a, f32 b) = record { left = a; right = widen b; float = false }
pair_of (f64 a, f64 b) = record { left = a; right = b; float = false }

-- `Float32(..)` if the operation is `float`, else `Float(..)`
abbrev pub ok_real : Bool → Real → Real → Result Value
ok_real true x y = Ok (Val.Float32 x)
ok_real false x y = Ok (Val.Float y)

-- `==` of two reals of one kind; unlike kinds are unequal
abbrev pub same_real : AReal → AReal → Bool
same_real (f32 a) (f32 b) = eq_r a b
same_real (f32 a) (f64 b) = false
same_real (f64 a) (f32 b) = false
same_real (f64 a) (f64 b) = eq_r a b

-- `==` of two values
abbrev pub same_value : Value → Value → Bool
same_value (Val.Bool a) w = maybe false (beq a) (bool_in w)
same_value (Val.Int a) w = maybe false (same_int a) (rust_int_in w)
same_value (Val.Float a) w = maybe false (λ r. same_real (f64 a) r) (real_in w)
same_value (Val.Float32 a) w = maybe false (λ r. same_real (f32 a) r) (real_in w)
same_value (Val.Enum a) w = maybe false (eqb a) (enum_in w)

abbrev pub same_values : List Value → List Value → Bool
same_values [] [] = true
same_values [] (w ∷ ws) = false
same_values (v ∷ vs) [] = false
same_values (v ∷ vs) (w ∷ ws) = same_value v w && same_values vs ws

-- `==` as it is derived, element by element
abbrev pub same_rvalue : RValue → RValue → Bool
same_rvalue (plain v) (plain w) = same_value v w
same_rvalue (plain v) (Array ws) = false
same_rvalue (Array vs) (plain w) = false
same_rvalue (Array vs) (Array ws) = same_values vs ws

abbrev pub same_rvalues : List RValue → List RValue → Bool
same_rvalues [] [] = true
same_rvalues [] (w ∷ ws) = false
same_rvalues (v ∷ vs) [] = false
same_rvalues (v ∷ vs) (w ∷ ws) = same_rvalue v w && same_rvalues vs ws

abbrev pub same_given : Given → Given → Bool
same_given (just v) (just w) = same_rvalue v w
same_given (just v) (Tuple ws) = false
same_given (Tuple vs) (just w) = false
same_given (Tuple vs) (Tuple ws) = same_rvalues vs ws

-- two Bools
abbrev pub bool_arm : BinOp → Bool × Bool → Option (Result Value)
bool_arm And (a, b) = some (ok_bool (a && b))
bool_arm Or (a, b) = some (ok_bool (a || b))
bool_arm Xor (a, b) = some (ok_bool (not (beq a b)))
bool_arm Implies (a, b) = some (ok_bool (not a || b))
bool_arm Eq (a, b) = none
bool_arm Neq (a, b) = none
bool_arm Lt (a, b) = none
bool_arm Le (a, b) = none
bool_arm Gt (a, b) = none
bool_arm Ge (a, b) = none
bool_arm Add (a, b) = none
bool_arm Sub (a, b) = none
bool_arm Mul (a, b) = none
bool_arm Div (a, b) = none
bool_arm Mod (a, b) = none
bool_arm BitAnd (a, b) = none
bool_arm BitOr (a, b) = none
bool_arm BitXor (a, b) = none
bool_arm Shl (a, b) = none
bool_arm Shr (a, b) = none

-- two reals: where there is none, the arm returns the error of the last arm
abbrev pub real_arm : BinOp → Real → Real → Bool → Option (Result Value)
real_arm And a b s = none
real_arm Or a b s = none
real_arm Xor a b s = none
real_arm Implies a b s = none
real_arm Eq a b s = some (ok_bool (eq_r a b))
real_arm Neq a b s = some (ok_bool (not (eq_r a b)))
real_arm Lt a b s = some (ok_bool (lt_r a b))
real_arm Le a b s = some (ok_bool (le_r a b))
real_arm Gt a b s = some (ok_bool (lt_r b a))
real_arm Ge a b s = some (ok_bool (le_r b a))
real_arm Add a b s = some (ok_real s (add_r single (round_single a) (round_single b)) (add_r double a b))
real_arm Sub a b s = some (ok_real s (sub_r single (round_single a) (round_single b)) (sub_r double a b))
real_arm Mul a b s = some (ok_real s (mul_r single (round_single a) (round_single b)) (mul_r double a b))
real_arm Div a b s = cond (eq_r b zero_r) none (some (ok_real s (div_r single (round_single a) (round_single b)) (div_r double a b)))
real_arm Mod a b s = none
real_arm BitAnd a b s = none
real_arm BitOr a b s = none
real_arm BitXor a b s = none
real_arm Shl a b s = none
real_arm Shr a b s = none

-- Eq and Neq of any two
abbrev pub eq_arm : BinOp → Bool → Option (Result Value)
eq_arm And b = none
eq_arm Or b = none
eq_arm Xor b = none
eq_arm Implies b = none
eq_arm Eq b = some (ok_bool b)
eq_arm Neq b = some (ok_bool (not b))
eq_arm Lt b = none
eq_arm Le b = none
eq_arm Gt b = none
eq_arm Ge b = none
eq_arm Add b = none
eq_arm Sub b = none
eq_arm Mul b = none
eq_arm Div b = none
eq_arm Mod b = none
eq_arm BitAnd b = none
eq_arm BitOr b = none
eq_arm BitXor b = none
eq_arm Shl b = none
eq_arm Shr b = none

-- two Ints; a guard that does not hold leaves the last arm
abbrev pub int_arm : BinOp → ℤ → ℤ → Option (Result Value)
int_arm And a b = none
int_arm Or a b = none
int_arm Xor a b = none
int_arm Implies a b = none
int_arm Eq a b = none
int_arm Neq a b = none
int_arm Lt a b = some (ok_bool (lt_z a b))
int_arm Le a b = some (ok_bool (le_z a b))
int_arm Gt a b = some (ok_bool (lt_z b a))
int_arm Ge a b = some (ok_bool (le_z b a))
int_arm Add a b = some (checked (a +ℤ b))
int_arm Sub a b = some (checked (a -ℤ b))
int_arm Mul a b = some (checked (a *ℤ b))
int_arm Div a b = cond (same_int b (pos 0)) none (some (checked (quot_z a b)))
int_arm Mod a b = cond (same_int b (pos 0)) none (some (cond (in_i64 (quot_z a b)) (ok_int (rem_z a b)) Panic))
int_arm BitAnd a b = some (ok_int (signed 64 (Bits.bit_and (residue 64 a) (residue 64 b))))
int_arm BitOr a b = some (ok_int (signed 64 (Bits.bit_or (residue 64 a) (residue 64 b))))
int_arm BitXor a b = some (ok_int (signed 64 (Bits.bit_xor (residue 64 a) (residue 64 b))))
int_arm Shl a b = maybe none (λ k. some (ok_int (as_i 64 (pos (residue 64 a * 2 ^ k))))) (shift_count b)
int_arm Shr a b = maybe none (λ k. some (ok_int (shr_z a (2 ^ k)))) (shift_count b)

-- the arms, in turn
unfoldable pub eval_values : BinOp → Value → Value → Result Value
eval_values op l r =
    let last = Err (binary_not_supported op (just (plain l)) (just (plain r))) in
    maybe (maybe (maybe (maybe last (λ x. x) (maybe none (λ p. int_arm op p.0 p.1) (both (rust_int_in l) (rust_int_in r)))) (λ x. x) (eq_arm op (same_value l r)))
    (λ p. let q = pair_of p in maybe last (λ x. x) (real_arm op q.left q.right q.float)) (both (real_in l) (real_in r)))
    (λ x. x) (maybe none (bool_arm op) (both (bool_in l) (bool_in r)))

-- an Array or a Tuple has the arms of Eq and Neq only
abbrev pub eval_binary : BinOp → Given → Given → Result Given
eval_binary op l r =
    maybe (plainly (maybe (Err (binary_not_supported op l r)) (λ x. x) (eq_arm op (same_given l r)))) (λ p. plainly (eval_values op p.0 p.1)) (both (plain_in l) (plain_in r))

-- ---- the arms of Unary

abbrev pub not_arm : Value → Result Value
not_arm v = maybe (Err (unary_not_supported Not (just (plain v)))) (λ b. ok_bool (not b)) (bool_in v)

abbrev pub neg_real : AReal → Result Value
neg_real (f32 x) = Ok (Val.Float32 (neg_r x))
neg_real (f64 x) = Ok (Val.Float (neg_r x))

abbrev pub neg_arm : Value → Result Value
neg_arm v = maybe (maybe (Err (unary_not_supported Neg (just (plain v)))) neg_real (real_in v)) (λ i. checked (neg_ℤ i)) (rust_int_in v)

abbrev pub unary_value : UnaryOp → Value → Result Value
unary_value Not v = not_arm v
unary_value Neg v = neg_arm v

abbrev pub eval_unary : UnaryOp → Given → Result Given
eval_unary op r = maybe (Err (unary_not_supported op r)) (λ v. plainly (unary_value op v)) (plain_in r)

-- ---- Index

-- `if i < 0 || (i as usize) >= xs.len()` it is out of bounds, else `xs[i as usize]`
abbrev pub element : List Value → ℤ → Result Given
element xs (pos k) = maybe (Err (out_of_bounds (pos k) (length xs))) (λ v. Ok (just (plain v))) (get_elem? xs k)
element xs (negsuc k) = Err (out_of_bounds (negsuc k) (length xs))

-- an index that is no Int, then a base that is no Array
abbrev pub index_value : Given → Given → Result Given
index_value bv iv = maybe (Err other_error) (λ i. maybe (Err other_error) (λ xs. element xs i) (array_in bv)) (maybe none rust_int_in (plain_in iv))

-- ---- `narrow_int`, `cast_value`, `fit_to`, `default_value`

abbrev pub keep : ℤ → ℤ
keep i = i

-- by type code: 1 to 4 are Int8 to Int64, 5 to 8 Uint8 to Uint64
abbrev pub narrow_int : ℕ → ℤ → ℤ
narrow_int c = get_or (keep ∷ as_i 8 ∷ as_i 16 ∷ as_i 32 ∷ keep ∷ as_u 8 ∷ as_u 16 ∷ as_u 32 ∷ keep ∷ []) c keep

abbrev pub to_f32 : AReal → Value
to_f32 (f32 x) = Val.Float32 x
to_f32 (f64 x) = Val.Float32 (round_single x)

abbrev pub to_f64 : AReal → Value
to_f64 (f32 x) = Val.Float (widen x)
to_f64 (f64 x) = Val.Float x

abbrev pub to_int : AReal → ℤ
to_int (f32 x) = truncate x
to_int (f64 x) = truncate x

-- `Value` of an Int, or of a real, or an error
abbrev pub of_number : (ℤ → Value) → (AReal → Value) → Value → Result Value
of_number h k v = maybe (maybe (Err other_error) (λ r. Ok (k r)) (real_in v)) (λ i. Ok (h i)) (rust_int_in v)

abbrev pub cast_plain : Ty → Value → Result Value
cast_plain bool v = Err other_error
cast_plain (int c) v = of_number (λ i. Val.Int (narrow_int c i)) (λ r. Val.Int (narrow_int c (to_int r))) v
cast_plain float32 v = of_number (λ i. Val.Float32 (of_int single i)) to_f32 v
cast_plain float64 v = of_number (λ i. Val.Float (of_int double i)) to_f64 v
cast_plain char v = Err other_error
cast_plain (enum e) v = Err other_error

unfoldable pub cast_value : Ty → Given → Result Given
cast_value t r = maybe (Err other_error) (λ v. plainly (cast_plain t v)) (plain_in r)

-- an Int or a real is converted, another value is kept
abbrev pub number_or : (ℤ → Value) → (AReal → Value) → Value → Value
number_or h k v = maybe (maybe v k (real_in v)) h (rust_int_in v)

-- to a scalar type
unfoldable pub fit_plain : Ty → Value → Value
fit_plain bool v = v
fit_plain (int c) v = maybe v (λ i. Val.Int (narrow_int c i)) (rust_int_in v)
fit_plain float32 v = number_or (λ i. Val.Float32 (of_int single i)) to_f32 v
fit_plain float64 v = number_or (λ i. Val.Float (of_int double i)) to_f64 v
fit_plain char v = v
fit_plain (enum e) v = v

-- an Array element by element
abbrev pub fit_to : VarTy → RValue → RValue
fit_to (scalar t) (plain v) = plain (fit_plain t v)
fit_to (scalar t) (Array vs) = Array vs
fit_to (array n t) (plain v) = plain v
fit_to (array n t) (Array vs) = Array (map (fit_plain t) vs)

-- an enum's first variant; the reader lets no other number of an enum through, nor an enum with none
abbrev pub default_named : List ℕ → Value
default_named [] = Val.Enum 0
default_named (v ∷ vs) = Val.Enum v

unfoldable pub default_plain : List (List ℕ) → Ty → Value
default_plain enums bool = Val.Bool false
default_plain enums (int c) = Val.Int (pos 0)
default_plain enums float32 = Val.Float32 zero_r
default_plain enums float64 = Val.Float zero_r
default_plain enums char = Val.Int (pos 0)
default_plain enums (enum e) = default_named (get_or enums e [])

abbrev pub rust_default_of : List (List ℕ) → VarTy → RValue
rust_default_of enums (scalar t) = plain (default_plain enums t)
rust_default_of enums (array n t) = Array (replicate n (default_plain enums t))

-- ---- `real_kind` and `common_real`

abbrev pub is_double : RealKind → Bool
is_double not_real = false
is_double is_single = false
is_double is_double_kind = true

abbrev pub rust_is_single : RealKind → Bool
rust_is_single not_real = false
rust_is_single is_single = true
rust_is_single is_double_kind = false

-- a Double on either side, else a Single on either side
abbrev pub join_kinds : RealKind → RealKind → RealKind
join_kinds a b = cond (is_double a || is_double b) is_double_kind (cond (rust_is_single a || rust_is_single b) is_single not_real)

abbrev pub of_scalar : Ty → RealKind
of_scalar bool = not_real
of_scalar (int c) = not_real
of_scalar float32 = is_single
of_scalar float64 = is_double_kind
of_scalar char = not_real
of_scalar (enum e) = not_real

abbrev pub of_type : VarTy → RealKind
of_type (scalar t) = of_scalar t
of_type (array n t) = not_real

abbrev pub rust_kind_in : AReal → RealKind
rust_kind_in (f32 x) = is_single
rust_kind_in (f64 x) = is_double_kind

abbrev pub of_plain : Value → RealKind
of_plain v = maybe not_real rust_kind_in (real_in v)

abbrev pub of_value : RValue → RealKind
of_value (plain v) = of_plain v
of_value (Array vs) = not_real

abbrev pub is_arithmetic : BinOp → Bool
is_arithmetic And = false
is_arithmetic Or = false
is_arithmetic Xor = false
is_arithmetic Implies = false
is_arithmetic Eq = false
is_arithmetic Neq = false
is_arithmetic Lt = false
is_arithmetic Le = false
is_arithmetic Gt = false
is_arithmetic Ge = false
is_arithmetic Add = true
is_arithmetic Sub = true
is_arithmetic Mul = true
is_arithmetic Div = true
is_arithmetic Mod = false
is_arithmetic BitAnd = false
is_arithmetic BitOr = false
is_arithmetic BitXor = false
is_arithmetic Shl = false
is_arithmetic Shr = false

-- the value of a taken branch, beside one that is Double
abbrev pub widen_beside : Bool → Value → Value
widen_beside double v = cond double (maybe v to_f64 (real_in v)) v

-- ---- `visit` with `has_call`, and `same_cycle_reads`

abbrev mutual
  pub rust_has_call : Expr → Bool
  rust_has_call (bool_lit b) = false
  rust_has_call (int_lit i) = false
  rust_has_call (float_lit b) = false
  rust_has_call (char_lit c) = false
  rust_has_call (var x) = false
  rust_has_call (unary op e) = rust_has_call e
  rust_has_call (binary op l r) = rust_has_call l || rust_has_call r
  rust_has_call (if_then_else c t e) = rust_has_call c || (rust_has_call t || rust_has_call e)
  rust_has_call (pre e) = rust_has_call e
  rust_has_call (arrow a b) = rust_has_call a || rust_has_call b
  rust_has_call (cast t e) = rust_has_call e
  rust_has_call (call k es) = true
  rust_has_call (tuple es) = has_calls es
  rust_has_call (index a i) = rust_has_call a || rust_has_call i
  rust_has_call (literal es) = has_calls es
  rust_has_call (map_over k es) = has_calls es
  rust_has_call (fold_over k s es) = rust_has_call s || has_calls es

  pub has_calls : Exprs → Bool
  has_calls nil = false
  has_calls (cons e es) = rust_has_call e || has_calls es

-- the set `out` is the list of what was inserted
abbrev mutual
  pub same_cycle_reads : Expr → List ℕ → List ℕ
  same_cycle_reads (bool_lit b) out = out
  same_cycle_reads (int_lit i) out = out
  same_cycle_reads (float_lit b) out = out
  same_cycle_reads (char_lit c) out = out
  same_cycle_reads (var x) out = out ++ x ∷ []
  same_cycle_reads (unary op e) out = same_cycle_reads e out
  same_cycle_reads (binary op l r) out = same_cycle_reads r (same_cycle_reads l out)
  same_cycle_reads (if_then_else c t e) out = same_cycle_reads e (same_cycle_reads t (same_cycle_reads c out))
  same_cycle_reads (pre e) out = out
  same_cycle_reads (arrow a b) out = same_cycle_reads b (same_cycle_reads a out)
  same_cycle_reads (cast t e) out = same_cycle_reads e out
  same_cycle_reads (call k es) out = all_reads es out
  same_cycle_reads (tuple es) out = all_reads es out
  same_cycle_reads (index a i) out = same_cycle_reads i (same_cycle_reads a out)
  same_cycle_reads (literal es) out = all_reads es out
  same_cycle_reads (map_over k es) out = all_reads es out
  same_cycle_reads (fold_over k s es) out = all_reads es (same_cycle_reads s out)

  pub all_reads : Exprs → List ℕ → List ℕ
  all_reads nil out = out
  all_reads (cons e es) out = all_reads es (same_cycle_reads e out)
