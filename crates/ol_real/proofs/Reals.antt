-- ol_spec's names for the operations on reals give IEEE 754's results: `ieee754_holds`.
use Rattle.std.proofs.Common.{◌≡◌, ℕ, ◌*◌, ◌^◌, ◌<◌, not, T, ◌≢◌, ℤ, sym, refl, le_of_eq, lt_of_lt_of_le}
use lib.Ieee.{Float, nan, inf, fin, binary32, binary64, up, down, top, is_nan}
use lib.Ieee as Ieee
use lib.Ieee.Fits.{two, down_pos, round-fits, nan-fits, inf-fits, add-fits, sub-fits, mul-fits, div-fits, neg-fits, of_int-fits, fits_widens}
use lib.Ieee.Bits.{of_bits-fits, of_bits-to_bits, to_bits-lt, to_bits-of_bits}
use Rattle.ol_spec.specs.Real.{Real, Precision, zero_r, from_bits, to_bits, add_r, sub_r, mul_r, div_r, neg_r, of_int, round_single, truncate, eq_r, lt_r, le_r}
use Rattle.ol_real.specs.Ieee754.{single, double, Sum, Difference, Product, Quotient, Negation, FromInt, Converted, Truncated}
use Rattle.ol_real.specs.Holds.{Only, AtFormat, Ieee754Holds}
use Rattle.ol_real.proofs.Values.{of, reaches, fits_value, value_fits, round_rounds}
use Rattle.ol_real.proofs.Operations as O
use Rattle.ol_real.proofs.Encodings.{encodes_one, of_bits_encodes, to_bits_encodes, encodes_back}

-- a datum that is not the NaN
not_nan : (x : Float) → x ≢ nan → T (not (is_nan x))
unfolding is_nan
not_nan nan h = absurd (h refl)
not_nan (inf s) h = tt
not_nan (fin s m e) h = tt

module _ (f : Precision) where
  sum : (x y : Real) → Only (Sum (of f) x y) (add_r f x y)
  unfolding add_r
  sum x y = O.only_at (Sum (of f) x y) (O.sum_one (of f) (two f) (reaches f) x y) (Ieee.add f x y) (O.add_sum f x y)

  difference : (x y : Real) → Only (Difference (of f) x y) (sub_r f x y)
  unfolding sub_r
  difference x y = O.only_at (Difference (of f) x y) (O.difference_one (of f) (two f) (reaches f) x y) (Ieee.sub f x y) (O.sub_difference f x y)

  product : (x y : Real) → Only (Product (of f) x y) (mul_r f x y)
  unfolding mul_r
  product x y = O.only_at (Product (of f) x y) (O.product_one (of f) (two f) (reaches f) x y) (Ieee.mul f x y) (O.mul_product f x y)

  quotient : (x y : Real) → Only (Quotient (of f) x y) (div_r f x y)
  unfolding div_r
  quotient x y = O.only_at (Quotient (of f) x y) (O.quotient_one (of f) (two f) (reaches f) x y) (Ieee.div f x y) (O.div_quotient f x y)

  from_int : (z : ℤ) → Only (FromInt (of f) z) (of_int f z)
  unfolding of_int
  from_int z = O.only_at (FromInt (of f) z) (O.from_int_one (of f) (two f) (reaches f) z) (Ieee.of_int f z) (O.of_int_from_int f z)

zero_bits : (f : Precision) → from_bits f 0 ≡ zero_r
unfolding from_bits Ieee.of_bits
zero_bits binary32 = refl
zero_bits binary64 = refl

-- a precision's names, where its patterns have k bits
at_format : (f : Precision) (k : ℕ) → 2 * top f ≡ 2 ^ k → AtFormat (of f) f k
unfolding add_r sub_r mul_r div_r neg_r of_int from_bits to_bits
at_format f k K =
    let in-bits : (b : ℕ) → b < 2 ^ k → b < 2 * top f = λ b h. lt_of_lt_of_le h (le_of_eq (sym K)) in
    record {
      sum = sum f;
      difference = difference f;
      product = product f;
      quotient = quotient f;
      from_int = from_int f;
      sum_value = λ x y. fits_value f _ (add-fits f x y);
      difference_value = λ x y. fits_value f _ (sub-fits f x y);
      product_value = λ x y. fits_value f _ (mul-fits f x y);
      quotient_value = λ x y. fits_value f _ (div-fits f x y);
      from_int_value = λ z. fits_value f _ (of_int-fits f z);
      negation_value = λ x h. fits_value f _ (neg-fits f x (value_fits f x h));
      zero_decoded = zero_bits f;
      decoded = λ b h. record { holds = of_bits_encodes f b (in-bits b h); only = λ x e. encodes_one (of f) b x (Ieee.of_bits f b) e (of_bits_encodes f b (in-bits b h)) };
      decoded_value = λ b. fits_value f _ (of_bits-fits f b);
      encoded = λ x h. to_bits_encodes f x (value_fits f x h);
      encoded_bits = λ x h. lt_of_lt_of_le (to_bits-lt f x (value_fits f x h)) (le_of_eq K);
      encoded_only = λ x b n h e. encodes_back f b x (in-bits b h) (not_nan x n) e;
      decoded_encoded = λ x h. of_bits-to_bits f x (value_fits f x h);
      encoded_decoded = λ b h n. to_bits-of_bits f b (in-bits b h) (not_nan (Ieee.of_bits f b) n);
    }

rounded : (x : Real) → Converted single x (round_single x)
unfolding Converted round_single
rounded nan = refl
rounded (inf s) = refl
rounded (fin s m e) = round_rounds binary32 s (m * up e) (down e) (down_pos e)

rounded_fits : (x : Real) → T (Ieee.fits binary32 (round_single x))
unfolding round_single
rounded_fits nan = nan-fits binary32
rounded_fits (inf s) = inf-fits binary32 s
rounded_fits (fin s m e) = round-fits binary32 s (m * up e) (down e)

pub ieee754_holds : Ieee754Holds
unfolding neg_r truncate eq_r lt_r le_r to_bits Ieee.to_bits
ieee754_holds = record {
  one_result = O.one_result;
  at_single = at_format binary32 32 refl;
  at_double = at_format binary64 64 refl;
  negation = λ x. O.only_at (Negation x) (O.negation_one x) (Ieee.neg x) (O.neg_negation x);
  rounded = λ x. O.only_at (Converted single x) (O.converted_one single (two binary32) (reaches binary32) x) (round_single x) (rounded x);
  rounded_value = λ x. fits_value binary32 (round_single x) (rounded_fits x);
  widened = λ x h. O.only_at (Converted double x) (O.converted_one double (two binary64) (reaches binary64) x) x (O.widened_same x (value_fits binary32 x h));
  widened_value = λ x h. fits_value binary64 x (fits_widens x (value_fits binary32 x h));
  truncated = λ x. O.only_at (Truncated x) (O.truncated_one x) (Ieee.to_signed 63 x) (O.to_signed_truncated x);
  equal = O.eq_equal;
  less = O.lt_less;
  less_eq = O.le_less_eq;
  single_nan = refl;
  double_nan = refl;
}
