-- IEEE 754 up to the operators: what evaluation's operators, casts and stores make of reals, in one record, `OperatorsHold`; and that evaluation only meets data of their formats,
-- `FormatsKept`. Types only: proofs/Operators and proofs/Formats prove them.
use Rattle.std.specs.Prelude.{◌≡◌, ℕ, Bool, true, T, ◌⊎◌, ◌↔◌, List, [], ◌∷◌, ℤ}
use Rattle.std.specs.Float.{nan}
use Rattle.ol_spec.specs.Real.{Real, zero_r, round_single, widen}
use Rattle.ol_spec.specs.Syntax.{File, Expr, int, float32, float64, Neg, Eq, Neq, Lt, Le, Gt, Ge, Add, Sub, Mul, Div}
use Rattle.ol_spec.specs.Types.{int_ty, narrow, fit, cast_to}
use Rattle.ol_spec.specs.Operators.{unary_of, binary_of}
use Rattle.ol_spec.specs.Cell.{values_of}
use Rattle.ol_spec.specs.Eval.{Scope, common_real, Outcomes, values, failure, overflow, eval, eval_cells}
use Rattle.ol_spec.specs.Step.{calls_at}
use Rattle.ol_spec.specs.Admission.{all, constants}
use Rattle.ol_spec.specs.State.{globals_of}
use Rattle.ol_spec.specs.Cycle.{main_run}
use Rattle.ol_spec.specs.declared.Value.{Value}
use Rattle.ol_spec.specs.declared.Value.TheVariants as Val
use Rattle.ol_spec.specs.declared.Outcome.{Outcome}
use Rattle.ol_spec.specs.declared.Outcome.TheVariants as Out
use Rattle.ol_spec.specs.declared.Cause.TheVariants as Why
use Rattle.ol_real.specs.Ieee754.{Format, single, double, IsValue, Sum, Difference, Product, Quotient, Negation, FromInt, Converted, Truncated, Equal, Less, LessEq}
use Rattle.ol_real.specs.Holds.{Only}

-- ---- what an operator gives

-- the value made of the one result that a definition admits
pub record Makes (put : Real → Value) (R : Real → Type 0) (v : Value) : Type 0 where
  pub result : Real
  pub one : Only R result
  pub is : v ≡ put result

-- and as an outcome
pub record Gives (put : Real → Value) (R : Real → Type 0) (o : Outcome) : Type 0 where
  pub result : Real
  pub one : Only R result
  pub is : o ≡ Out.Value (put result)

-- the Bool of a relation
pub record Says (P : Type 0) (o : Outcome) : Type 0 where
  pub answer : Bool
  pub is : o ≡ Out.Value (Val.Bool answer)
  pub exactly : T answer ↔ P

-- The operators on v and w compute in the format g, on x and y. A zero divisor fails, where IEEE would divide.
pub record Computes (v w : Value) (g : Format) (put : Real → Value) (x y : Real) : Type 0 where
  pub sum : Gives put (Sum g x y) (binary_of Add v w)
  pub difference : Gives put (Difference g x y) (binary_of Sub v w)
  pub product : Gives put (Product g x y) (binary_of Mul v w)
  pub quotient : ¬ Equal y zero_r → Gives put (Quotient g x y) (binary_of Div v w)
  pub zero_divisor : Equal y zero_r → binary_of Div v w ≡ Out.Failure Why.Range
  pub equal : Says (Equal x y) (binary_of Eq v w)
  pub unequal : Says (¬ Equal x y) (binary_of Neq v w)
  pub less : Says (Less x y) (binary_of Lt v w)
  pub less_equal : Says (LessEq x y) (binary_of Le v w)
  pub greater : Says (Less y x) (binary_of Gt v w)
  pub greater_equal : Says (LessEq y x) (binary_of Ge v w)
  -- beside a NaN only Neq holds
  pub unordered : (x ≡ nan) ⊎ (y ≡ nan) → (¬ Equal x y) × (¬ Less x y) × (¬ LessEq x y) × (¬ Less y x) × (¬ LessEq y x)

-- Two singles compute in single, other pairs of reals in double, a single converted to it.
pub record OperatorsHold : Type 0 where
  pub singles : (x y : Real) → Computes (Val.Float32 x) (Val.Float32 y) single Val.Float32 x y
  pub doubles : (x y : Real) → Computes (Val.Float x) (Val.Float y) double Val.Float x y
  pub single_double : (x y x' : Real) → IsValue single x → Converted double x x' → Computes (Val.Float32 x) (Val.Float y) double Val.Float x' y
  pub double_single : (x y y' : Real) → IsValue single y → Converted double y y' → Computes (Val.Float x) (Val.Float32 y) double Val.Float x y'
  pub negated_single : (x : Real) → Gives Val.Float32 (Negation x) (unary_of Neg (Val.Float32 x))
  pub negated_double : (x : Real) → Gives Val.Float (Negation x) (unary_of Neg (Val.Float x))
  -- casts
  pub int_to_single : (i : ℤ) → Gives Val.Float32 (FromInt single i) (cast_to float32 (Val.Int i))
  pub int_to_double : (i : ℤ) → Gives Val.Float (FromInt double i) (cast_to float64 (Val.Int i))
  pub double_to_single : (x : Real) → Gives Val.Float32 (Converted single x) (cast_to float32 (Val.Float x))
  pub single_to_double : (x : Real) → IsValue single x → Gives Val.Float (Converted double x) (cast_to float64 (Val.Float32 x))
  pub single_to_single : (x : Real) → cast_to float32 (Val.Float32 x) ≡ Out.Value (Val.Float32 x)
  pub double_to_double : (x : Real) → cast_to float64 (Val.Float x) ≡ Out.Value (Val.Float x)
  pub single_to_int : (c : ℕ) (x : Real) → (z : ℤ) × Only (Truncated x) z × (cast_to (int c) (Val.Float32 x) ≡ Out.Value (Val.Int (narrow (int_ty c) z)))
  pub double_to_int : (c : ℕ) (x : Real) → (z : ℤ) × Only (Truncated x) z × (cast_to (int c) (Val.Float x) ≡ Out.Value (Val.Int (narrow (int_ty c) z)))
  -- stores
  pub int_in_single : (i : ℤ) → Makes Val.Float32 (FromInt single i) (fit float32 (Val.Int i))
  pub int_in_double : (i : ℤ) → Makes Val.Float (FromInt double i) (fit float64 (Val.Int i))
  pub double_in_single : (x : Real) → Makes Val.Float32 (Converted single x) (fit float32 (Val.Float x))
  pub single_in_double : (x : Real) → IsValue single x → Makes Val.Float (Converted double x) (fit float64 (Val.Float32 x))
  pub single_in_single : (x : Real) → fit float32 (Val.Float32 x) ≡ Val.Float32 x
  pub double_in_double : (x : Real) → fit float64 (Val.Float x) ≡ Val.Float x
  -- the chosen one of two branches, beside a double
  pub chosen : (x : Real) → IsValue single x → Makes Val.Float (Converted double x) (common_real true (Val.Float32 x))
  -- `as f64` and back `as f32`, as the Rust's `real_pair` has them, change nothing
  pub there_and_back : (x : Real) → IsValue single x → round_single (widen x) ≡ x

-- ---- the reals that evaluation meets

-- a value's real is a datum of its format
abbrev pub InFormat : Value → Type 0
InFormat (Val.Bool b) = Unit {0}
InFormat (Val.Int i) = Unit {0}
InFormat (Val.Float x) = IsValue double x
InFormat (Val.Float32 x) = IsValue single x
InFormat (Val.Enum v) = Unit {0}

abbrev pub InFormats : List Value → Type 0
InFormats [] = Unit {0}
InFormats (v ∷ vs) = InFormat v × InFormats vs

abbrev pub OutInFormat : Outcome → Type 0
OutInFormat (Out.Value v) = InFormat v
OutInFormat (Out.Failure c) = Unit {0}
OutInFormat Out.Overflow = Unit {0}

abbrev pub OutsInFormat : Outcomes → Type 0
OutsInFormat (values vs) = InFormats vs
OutsInFormat (failure c) = Unit {0}
OutsInFormat overflow = Unit {0}

-- Every cell is read as a datum of its format, and constants are such. So are the outcomes of any expression on such cells, a scalar's and an array's, and of calls at every depth, on any bytes; and so are the
-- values of a cycle. So the condition of a conversion from single to double is met wherever evaluation makes one.
pub record FormatsKept : Type 0 where
  pub read : (n : ℕ) (s : List ℕ) → InFormats (values_of n s)
  pub constants : (f : File) (vs : List Value) → constants f ≡ all vs → InFormats vs
  pub evaluated : (f : File) (vs : List Value) (s : Scope) (d : ℕ) (e : Expr) (seg : List ℕ) → InFormats vs → InFormats s.present → InFormats s.before
      → OutInFormat (eval (globals_of f vs) s (calls_at (globals_of f vs) d) e seg).out
  pub evaluated_cells : (f : File) (vs : List Value) (s : Scope) (d : ℕ) (e : Expr) (seg : List ℕ) → InFormats vs → InFormats s.present → InFormats s.before
      → OutsInFormat (eval_cells (globals_of f vs) s (calls_at (globals_of f vs) d) e seg).out
  pub called : (f : File) (vs : List Value) (d k : ℕ) (ws : List Value) (r : List ℕ) → InFormats vs → InFormats ws → OutsInFormat (calls_at (globals_of f vs) d k ws r).out
  pub cycled : (f : File) (vs : List Value) (old ins : List ℕ) → InFormats vs → InFormats (main_run f vs old ins).cells
