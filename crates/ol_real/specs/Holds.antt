-- The whole claim on reals in one record, `Ieee754Holds`: each name that ol_spec's module Real has for an operation on reals gives the one result that IEEE 754 defines (`Ieee754`, `Encoding`).
-- proofs/Reals.antt proves it: `ieee754_holds`.
use Rattle.std.specs.Prelude.{◌≡◌, ℕ, ◌^◌, ◌<◌, ◌≤◌, T, ◌≢◌, ◌↔◌, ℤ}
use Rattle.std.specs.Float.{nan}
use Rattle.ol_spec.specs.Real as R
use Rattle.ol_spec.specs.Real.{Real, Precision, zero_r, from_bits, to_bits, add_r, sub_r, mul_r, div_r, neg_r, of_int, round_single, widen, truncate, eq_r, lt_r, le_r}
use Rattle.ol_real.specs.Ieee754.{Format, single, double, IsValue, Sum, Difference, Product, Quotient, Negation, FromInt, Converted, Truncated, Equal, Less, LessEq}
use Rattle.ol_real.specs.Encoding.{Encodes}

-- v is the one result that a definition admits
pub record Only {A : Type 0} (R : A → Type 0) (v : A) : Type 0 where
  pub holds : R v
  pub only : (r : A) → R r → r ≡ v

-- a definition admits exactly one result
abbrev pub One : {A : Type 0} → (A → Type 0) → Type 0
One {A} R = (v : A) × Only R v

-- in the format g each operation has exactly one result
pub record OneResult (g : Format) : Type 0 where
  pub sum : (x y : Real) → One (Sum g x y)
  pub difference : (x y : Real) → One (Difference g x y)
  pub product : (x y : Real) → One (Product g x y)
  pub quotient : (x y : Real) → One (Quotient g x y)
  pub from_int : (z : ℤ) → One (FromInt g z)
  pub converted : (x : Real) → One (Converted g x)

-- the names at the precision f are the operations of the format g, whose patterns have k bits
pub record AtFormat (g : Format) (f : Precision) (k : ℕ) : Type 0 where
  pub sum : (x y : Real) → Only (Sum g x y) (add_r f x y)
  pub difference : (x y : Real) → Only (Difference g x y) (sub_r f x y)
  pub product : (x y : Real) → Only (Product g x y) (mul_r f x y)
  pub quotient : (x y : Real) → Only (Quotient g x y) (div_r f x y)
  pub from_int : (z : ℤ) → Only (FromInt g z) (of_int f z)
  -- each result is a datum of the format
  pub sum_value : (x y : Real) → IsValue g (add_r f x y)
  pub difference_value : (x y : Real) → IsValue g (sub_r f x y)
  pub product_value : (x y : Real) → IsValue g (mul_r f x y)
  pub quotient_value : (x y : Real) → IsValue g (div_r f x y)
  pub from_int_value : (z : ℤ) → IsValue g (of_int f z)
  pub negation_value : (x : Real) → IsValue g x → IsValue g (neg_r x)
  -- 0.0 is the pattern of zeros
  pub zero_decoded : from_bits f 0 ≡ zero_r
  -- each pattern encodes one datum, a NaN's the one NaN; each datum has a pattern, and one only but for the NaN
  pub decoded : (b : ℕ) → b < 2 ^ k → Only (Encodes g b) (from_bits f b)
  pub decoded_value : (b : ℕ) → IsValue g (from_bits f b)
  pub encoded : (x : Real) → IsValue g x → Encodes g (to_bits f x) x
  pub encoded_bits : (x : Real) → IsValue g x → to_bits f x < 2 ^ k
  pub encoded_only : (x : Real) (b : ℕ) → x ≢ nan → b < 2 ^ k → Encodes g b x → b ≡ to_bits f x
  pub decoded_encoded : (x : Real) → IsValue g x → from_bits f (to_bits f x) ≡ x
  pub encoded_decoded : (b : ℕ) → b < 2 ^ k → from_bits f b ≢ nan → to_bits f (from_bits f b) ≡ b

-- every name of ol_spec's reals
pub record Ieee754Holds : Type 0 where
  pub one_result : (g : Format) → 2 ≤ g.p → 1 ≤ g.emax → OneResult g
  pub at_single : AtFormat single R.single 32
  pub at_double : AtFormat double R.double 64
  pub negation : (x : Real) → Only (Negation x) (neg_r x)
  -- a double to a single, rounded; a single to a double, the same number
  pub rounded : (x : Real) → Only (Converted single x) (round_single x)
  pub rounded_value : (x : Real) → IsValue single (round_single x)
  pub widened : (x : Real) → IsValue single x → Only (Converted double x) (widen x)
  pub widened_value : (x : Real) → IsValue single x → IsValue double (widen x)
  pub truncated : (x : Real) → Only (Truncated x) (truncate x)
  pub equal : (x y : Real) → T (eq_r x y) ↔ Equal x y
  pub less : (x y : Real) → T (lt_r x y) ↔ Less x y
  pub less_eq : (x y : Real) → T (le_r x y) ↔ LessEq x y
  -- the patterns that stand for the one NaN
  pub single_nan : to_bits R.single nan ≡ 0x7fc0_0000
  pub double_nan : to_bits R.double nan ≡ 0x7ff8_0000_0000_0000
