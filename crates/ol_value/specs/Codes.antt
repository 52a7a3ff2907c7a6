-- Types and operators by their codes.
use Rattle.std.specs.Prelude as Maybe
use Rattle.std.specs.Prelude.{◌≡◌, Some, None, Result, Ok, Err, ℕ, ◌-◌, ◌%◌, ◌/◌, ◌<◌, ◌≤◌, Bool, true, false, cond, [], eqb, get_or}
use Rattle.std.proofs.Math.Option.{none, some}
use Rattle.std.proofs.Math.ListN.{get_elem?}
use Rattle.ol_spec.specs.Lists.{maybe}
use Rattle.ol_spec.specs.Syntax.{Ty, bool, int, float32, float64, char, enum}
use Rattle.ol_spec.specs.Read.{TyCode, bool_t, float32_t, float64_t, char_t, enum_t, int_t, ty_codes, unary_ops, bin_ops}
use Rattle.ol_spec.specs.Types.{IntTy, signed_to, unsigned_to, whole, int_ty, int_in}
use Rattle.ol_spec.specs.Cell.{tag}
use Rattle.ol_spec.specs.Syntax.{UnaryOp, Not, Neg, BinOp, And, Or, Xor, Implies, Eq, Neq, Lt, Le, Gt, Ge, Add, Sub, Mul, Div, Mod, BitAnd, BitOr, BitXor, Shl, Shr}
use Rattle.ol_spec.specs.Real.{Real, widen}
use Rattle.ol_spec.specs.Operators.{unary_of, Pair, pair, on_pair}
use Rattle.ol_spec.specs.declared.Value.{Value}
use Rattle.ol_spec.specs.declared.Value.TheVariants as Val
use Rattle.ol_spec.specs.declared.Outcome.{Outcome}
use Rattle.ol_spec.specs.declared.Outcome.TheVariants as Out
use Rattle.ol_spec.specs.declared.Cause.{Cause}
use Rattle.ol_spec.specs.declared.Cause.TheVariants as Why
use Rattle.ol_value.specs.declared.codes.IntType.{IntType}
use Rattle.ol_value.specs.declared.codes.IntType.TheVariants as Num
use Rattle.ol_value.specs.declared.codes.DataType.{DataType}
use Rattle.ol_value.specs.declared.codes.DataType.TheVariants as Typ
use Rattle.ol_value.specs.declared.codes.Unary.{Unary}
use Rattle.ol_value.specs.declared.codes.Unary.TheVariants as One
use Rattle.ol_value.specs.declared.codes.Binary.{Binary}
use Rattle.ol_value.specs.declared.codes.Binary.TheVariants as Two

-- ---- what the types make of integers

-- an integer type, as the definitions have it
abbrev pub int_ty_of : IntType → IntTy
int_ty_of (Num.Signed b) = signed_to b
int_ty_of (Num.Unsigned b) = unsigned_to b
int_ty_of Num.Whole = whole

-- the widths that narrow: 1 to 32 bits
abbrev pub Narrow : IntTy → Type 0
Narrow (signed_to b) = (0 < b) × (b ≤ 32)
Narrow (unsigned_to b) = (0 < b) × (b ≤ 32)
Narrow whole = Unit {0}

-- ---- types

-- the type that a code starts, with the enum's number behind it. A code above 12 is read as 12: a file with one is turned back
abbrev pub ty_from : ℕ → TyCode → Ty
ty_from e bool_t = bool
ty_from e float32_t = float32
ty_from e float64_t = float64
ty_from e char_t = char
ty_from e enum_t = enum e
ty_from e (int_t c) = int c

abbrev pub ty_of : ℕ → ℕ → Ty
ty_of code e = ty_from e (get_or ty_codes code enum_t)

-- the type that a code starts is of this kind, and an integer type is the code's in the one table
abbrev pub TypeDecodes : ℕ → DataType → Type 0
TypeDecodes code Typ.Bool = get_or ty_codes code enum_t ≡ bool_t
TypeDecodes code (Typ.Int t) = (get_or ty_codes code enum_t ≡ int_t code) × (int_ty_of t ≡ int_ty code)
TypeDecodes code Typ.Float32 = get_or ty_codes code enum_t ≡ float32_t
TypeDecodes code Typ.Float64 = get_or ty_codes code enum_t ≡ float64_t
TypeDecodes code Typ.Char = get_or ty_codes code enum_t ≡ char_t
TypeDecodes code Typ.Enum = get_or ty_codes code enum_t ≡ enum_t

-- an Enum's name
abbrev pub name_in : Value → ℕ
name_in (Val.Bool b) = 0
name_in (Val.Int i) = 0
name_in (Val.Float x) = 0
name_in (Val.Float32 x) = 0
name_in (Val.Enum v) = v

-- an input's value is of its type's kind and range. Whether a name is one of the enum's is the rest of `in_type`
abbrev pub in_kind : Ty → Value → Bool
in_kind bool v = eqb (tag v) 0
in_kind (int c) v = int_in [] (int_ty c) v
in_kind float32 v = eqb (tag v) 3
in_kind float64 v = eqb (tag v) 2
in_kind char v = int_in [] (unsigned_to 8) v
in_kind (enum e) v = eqb (tag v) 4

-- ---- operators

-- a real as a double
abbrev pub as_double : Value → Maybe.Option Real
as_double (Val.Bool b) = None
as_double (Val.Int i) = None
as_double (Val.Float x) = Some x
as_double (Val.Float32 x) = Some (widen x)
as_double (Val.Enum v) = None

-- the operators, as the definitions have them
abbrev pub one_of : Unary → UnaryOp
one_of One.Not = Not
one_of One.Neg = Neg

abbrev pub op_of : Binary → BinOp
op_of Two.And = And
op_of Two.Or = Or
op_of Two.Xor = Xor
op_of Two.Implies = Implies
op_of Two.Eq = Eq
op_of Two.Neq = Neq
op_of Two.Lt = Lt
op_of Two.Le = Le
op_of Two.Gt = Gt
op_of Two.Ge = Ge
op_of Two.Add = Add
op_of Two.Sub = Sub
op_of Two.Mul = Mul
op_of Two.Div = Div
op_of Two.Mod = Mod
op_of Two.BitAnd = BitAnd
op_of Two.BitOr = BitOr
op_of Two.BitXor = BitXor
op_of Two.Shl = Shl
op_of Two.Shr = Shr

-- the operator that a code stands for, if there is one
abbrev pub UnaryDecodes : ℕ → Result Unary Cause → Type 0
UnaryDecodes code (Ok op) = get_elem? unary_ops code ≡ some (one_of op)
UnaryDecodes code (Err c) = (get_elem? unary_ops code ≡ none) × (c ≡ Why.Other)

abbrev pub BinaryDecodes : ℕ → Result Binary Cause → Type 0
BinaryDecodes code (Ok op) = get_elem? bin_ops code ≡ some (op_of op)
BinaryDecodes code (Err c) = (get_elem? bin_ops code ≡ none) × (c ≡ Why.Other)

-- by the operator's code; an unknown one fails, and a file with one is turned back
abbrev pub unary_by : ℕ → Value → Outcome
unary_by op v = maybe (Out.Failure Why.Other) (λ o. unary_of o v) (get_elem? unary_ops op)

abbrev pub pair_by : ℕ → Pair → Outcome
pair_by op p = maybe (Out.Failure Why.Other) (λ o. on_pair o p) (get_elem? bin_ops op)

abbrev pub binary_by : ℕ → Value → Value → Outcome
binary_by op v w = pair_by op (pair v w)
