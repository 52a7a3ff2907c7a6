-- What the proofs of the functions that make singles cite, in the code's own terms.
use Rattle.std.proofs.Common.{◌≡◌, ℕ, zero, suc, ◌+◌, ◌-◌, ◌*◌, ◌/◌, ◌%◌, ◌^◌, ◌<◌, ◌≤◌, Bool, true, false, cond, not, T, eqb, ltb, ◌⊎◌, pos, sym, refl, ap, ◌∙◌, subst, inl, inr, le_trans, le_of_eq, lt_of_lt_of_le, lt_irrefl, mul-le-mul_right, mod-lt, mod-eq_of_lt, zero-lt-suc, mul_assoc, div-lt_iff_lt-mul, mul-le-mul_left, mul-pos, one-mul, mul-one, arith, lit<, nltb→le, pow_pos, pow_mono, pow-add, shl_exact, le-ltb, ne_eqb, le-leb}
use mathlib.Core.Logic.{by_cases}
use native.Mathlib.Nat.{div-eq_of_lt, mod-le, mod-mod_of_dvd, dvd-mul_right}
use native.Mathlib.Decide.{dec_lt, ℕ_discrete}
use borrow.Author.Tests.{lt-leb}
use lib.Bits.{bit_and, and_mask, mask_lt}
use lib.Count.{count_leading_zeros, leading_top}
use lib.Ieee.{Float, nan, inf, fin, Format, binary32, binary64, low, hid, ones, top, up, down, odd, units, round, neg, of_fields, of_bits, is_nan, nan_bits, fits, ne}
use lib.Ieee as Ieee
use lib.Ieee.Fits.{down_pos, round_is}
use lib.Ieee.Bits.{nan_bits_is, nan_bits_above, of_bits-to_bits}
use lib.Ieee.Exact.{HasValue, odd_sign}
use lib.Ieee.Nearest.{closest}
use lib.Ieee.Scale.{round_same}
use Rattle.ol_spec.specs.Real.{single, double, of_int, from_bits, round_single}
use Rattle.ol_real.specs.Kept.{Kept}
use Rattle.ol_real.proofs.Conversions.{no, is_nan_lem, made_nan}
use Rattle.ol_real.proofs.Narrowing.{closest_is, round_kept, kept_most, kept_leading, units_bits, units_infinite}

-- ==== m / 2 ^ d to the nearest whole number, by shifts and a mask
module _ (m d : ℕ) (lo : 1 ≤ d) (hi : d < 64) where
  abbrev unit : ℕ
  unit = 1 * 2 ^ d % 2 ^ 64

  abbrev twice : ℕ
  twice = bit_and m (unit - 1) * 2

  unit_is : unit ≡ 2 ^ d
  unit_is = shl_exact 1 d 64 (lit< tt) (omega arith) ∙ one-mul (2 ^ d)

  twice_is : twice ≡ m % 2 ^ d * 2
  twice_is = ap (λ (u : ℕ). bit_and m (u - 1) * 2) unit_is ∙ ap (λ (x : ℕ). x * 2) (and_mask m d)

  pub unit_pos : 1 ≤ unit
  unit_pos = omega (arith, unit_is, pow_pos d)

  pub twice_small : twice < 2 ^ 64
  twice_small = omega (arith, twice_is, mod-lt m (pow_pos d), pow_mono {i = d} {j = 63} (omega arith))

  pub whole_small : m < 2 ^ 64 → m / 2 ^ d < 2 ^ 63
  whole_small h = (div-lt_iff_lt-mul (pow_pos d)).1 (lt_of_lt_of_le h (mul-le-mul_left (2 ^ 63) (pow_mono lo)))

  pub low_is : twice < unit → m / 2 ^ d ≡ closest m (2 ^ d)
  low_is h = closest_is m (2 ^ d) (m / 2 ^ d) (λ _. refl) (λ e. absurd (omega (arith, unit_is, twice_is))) (λ l. absurd (omega (arith, unit_is, twice_is)))

  pub high_is : unit < twice → m / 2 ^ d + 1 ≡ closest m (2 ^ d)
  high_is h = closest_is m (2 ^ d) (m / 2 ^ d + 1) (λ l. absurd (omega (arith, unit_is, twice_is))) (λ e. absurd (omega (arith, unit_is, twice_is))) (λ l. omega arith)

  pub tie_is : unit ≤ twice → twice ≤ unit → m / 2 ^ d + m / 2 ^ d % 2 ≡ closest m (2 ^ d)
  tie_is h k = closest_is m (2 ^ d) (m / 2 ^ d + m / 2 ^ d % 2) (λ l. absurd (omega (arith, unit_is, twice_is))) (λ _. refl) (λ l. absurd (omega (arith, unit_is, twice_is)))

-- ==== the infinity as the machine makes it
pub made_inf : of_bits binary32 0x7f80_0000 ≡ inf false
unfolding of_bits
made_inf = refl

-- a pattern that is not above the infinity's is no NaN's
pub no_nan_below : (f : Format) (b : ℕ) → b ≤ ones f * hid f → T (not (nan_bits f b))
no_nan_below f b h = subst (λ (t : Bool). T (not t)) (sym (nan_bits_above f b ∙ le-ltb (ones f * hid f) (b % top f) (le_trans (mod-le b (top f)) h))) tt

-- ==== the bits of the nearest single, for the digits q that are kept
module _ (m d k q : ℕ) (h : Kept m d k) (e : q ≡ closest m (2 ^ d)) where
  nearest_is : round binary32 false (m * 2 ^ k) (2 ^ d * 2 ^ 149) ≡ units binary32 false q k
  nearest_is = round_kept binary32 m d k h.digits h.leading false ∙ ap (λ (x : ℕ). units binary32 false x k) (sym e)

  most : q ≤ 2 ^ 24
  most = subst (λ (x : ℕ). x ≤ 2 ^ 24) (sym e) (kept_most binary32 m d k h.digits h.leading)

  leading : (2 ^ 23 ≤ q) ⊎ (k ≡ 0)
  leading = subst (λ (x : ℕ). (2 ^ 23 ≤ x) ⊎ (k ≡ 0)) (sym e) (kept_leading binary32 m d k h.digits h.leading)

  pub bits_small : k * 8388608 + q < 2 ^ 64
  bits_small = omega (arith, most, h.field)

  pub bits_nearest : k * 8388608 + q < 0x7f80_0000 → of_bits binary32 (k * 8388608 + q) ≡ round binary32 false (m * 2 ^ k) (2 ^ d * 2 ^ 149)
  bits_nearest l = units_bits binary32 q k most leading l ∙ sym nearest_is

  pub bits_infinite : 0x7f80_0000 ≤ k * 8388608 + q → of_bits binary32 0x7f80_0000 ≡ round binary32 false (m * 2 ^ k) (2 ^ d * 2 ^ 149)
  bits_infinite l = made_inf ∙ sym (units_infinite binary32 q k most leading l) ∙ sym nearest_is

-- ==== one fraction written with other powers of two
scaled : (q x k d l L : ℕ) → x + (d + l) ≡ k + L → q * 2 ^ x * (2 ^ d * 2 ^ l) ≡ q * 2 ^ k * 2 ^ L
scaled q x k d l L e =
    ap (λ (z : ℕ). q * 2 ^ x * z) (sym (pow-add 2 d l)) ∙ mul_assoc q (2 ^ x) (2 ^ (d + l)) ∙ ap (λ (z : ℕ). q * z) (sym (pow-add 2 x (d + l)) ∙ ap (λ (z : ℕ). 2 ^ z) e ∙ pow-add 2 k L)
    ∙ sym (mul_assoc q (2 ^ k) (2 ^ L))

-- ==== an integer of more than 24 digits
module _ (n : ℕ) (big : 2 ^ 24 ≤ n) (fit : n < 2 ^ 64) where
  abbrev gone : ℕ
  gone = 40 - count_leading_zeros 64 n

  -- the place of its leading digit
  at : (j : ℕ) × (count_leading_zeros 64 n + suc j ≡ 64) × (2 ^ j ≤ n) × (n < 2 ^ suc j)
  at = leading_top 64 n (lt_of_lt_of_le (lit< tt) big) fit

  high : 24 ≤ at.0
  high = by_cases (dec_lt at.0 24) (λ l. absurd (lt_irrefl n (lt_of_lt_of_le at.3 (le_trans (pow_mono {i = suc at.0} {j = 24} l) big)))) (λ l. omega arith)

  pub zeros_few : count_leading_zeros 64 n ≤ 40
  zeros_few = omega (arith, at.1, high)

  pub integer_kept : Kept n gone (gone + 149)
  integer_kept =
      let e : 24 + gone ≡ suc at.0 = omega (arith, at.1, high) in
      let g : 23 + gone ≡ at.0 = omega (arith, at.1, high) in
      record {
        shift = omega (arith, at.1, high);
        field = omega arith;
        digits = lt_of_lt_of_le at.3 (le_of_eq (ap (λ (x : ℕ). 2 ^ x) (sym e) ∙ pow-add 2 24 gone));
        leading = inl (le_trans (le_of_eq (sym (pow-add 2 23 gone) ∙ ap (λ (x : ℕ). 2 ^ x) g)) at.2);
      }

  pub integer_single : round binary32 false (n * 2 ^ (gone + 149)) (2 ^ gone * 2 ^ 149) ≡ of_int single (pos n)
  unfolding of_int Ieee.of_int
  integer_single = round_same binary32 false (n * 2 ^ (gone + 149)) (2 ^ gone * 2 ^ 149) n 1 (mul-pos (pow_pos gone) (pow_pos 149)) (zero-lt-suc 0)
      (mul-one (n * 2 ^ (gone + 149)) ∙ ap (λ (x : ℕ). n * x) (pow-add 2 gone 149))

-- ==== a double that is not negative, by its exponent's field and its digits
rounds_value : (y : Float) (a c : ℕ) → 0 < c → HasValue y false a c → round_single y ≡ round binary32 false a c
unfolding round_single
rounds_value (fin s m e) a c C v = ap (λ (t : Bool). round binary32 t (m * up e) (down e)) v.0 ∙ round_same binary32 false (m * up e) (down e) a c (down_pos e) C v.1
rounds_value nan a c C v = elim v [ ]
rounds_value (inf _) a c C v = elim v [ ]

-- less than half of 2 ^ -149
vanishes : (q x d : ℕ) → x + (d + 149) ≡ 0 + 1074 → q * 2 < 2 ^ d → round binary32 false (q * 2 ^ x) (2 ^ 1074) ≡ fin false 0 (pos 0)
unfolding units
vanishes q x d e h =
    let s : q < 2 ^ d = omega arith in
    let r : q % 2 ^ d ≡ q = mod-eq_of_lt s in
    let z : 0 ≡ q / 2 ^ d = sym (div-eq_of_lt s) in
    let c : 0 ≡ closest q (2 ^ d) = closest_is q (2 ^ d) 0 (λ _. z) (λ y. absurd (omega arith)) (λ y. absurd (omega arith)) in
    round_same binary32 false (q * 2 ^ x) (2 ^ 1074) (q * 2 ^ 0) (2 ^ d * 2 ^ 149) (pow_pos 1074) (mul-pos (pow_pos d) (pow_pos 149)) (scaled q x 0 d 149 1074 e)
    ∙ round_kept binary32 q d 0 (lt_of_lt_of_le s (le_trans (le_of_eq (sym (one-mul (2 ^ d)))) (mul-le-mul_right (2 ^ d) (pow_pos 24)))) (inr refl) false
    ∙ ap (λ (v : ℕ). units binary32 false v 0) (sym c)

abbrev inf_bits : ℕ
inf_bits = 0x7ff0_0000_0000_0000

module _ (b : ℕ) where
  abbrev field : ℕ
  field = b / 2 ^ 52

  -- the digits with their leading one, as the code has them
  abbrev digits : ℕ
  digits = bit_and b (2 ^ 52 - 1) + 2 ^ 52

  pub digits_small : digits < 2 ^ 53
  digits_small = omega (arith, mask_lt b 52)

  pub infinite_single : b ≤ inf_bits → 2047 ≤ field → of_bits binary32 0x7f80_0000 ≡ round_single (from_bits double b)
  unfolding round_single from_bits of_bits
  infinite_single h l = let e : inf_bits ≡ b = omega arith in made_inf ∙ ap (λ (x : ℕ). round_single (from_bits double x)) e

  module _ (B : field < 2047) where
    fields_are : of_bits binary64 b ≡ of_fields binary64 false field (b % 2 ^ 52)
    unfolding of_bits
    fields_are =
        let s : b < 2 ^ 63 = omega arith in
        ap (λ (t : Bool). of_fields binary64 t (b % 2 ^ 63 / 2 ^ 52) (b % 2 ^ 52)) (lt-leb (2 ^ 63) b s) ∙ ap (λ (x : ℕ). of_fields binary64 false (x / 2 ^ 52) (b % 2 ^ 52)) (mod-eq_of_lt s)

    normal_value : (x t : ℕ) → suc x < 2047 → HasValue (of_fields binary64 false (suc x) t) false ((2 ^ 52 + t) * 2 ^ x) (2 ^ 1074)
    unfolding of_fields
    normal_value x t h = subst (λ (z : Bool). HasValue (cond z (cond (eqb t 0) (inf false) nan) (odd 53 false (2 ^ 52 + t) x 1074)) false ((2 ^ 52 + t) * 2 ^ x) (2 ^ 1074))
        (sym (ne_eqb (suc x) 2047 (λ e. omega arith))) (odd_sign 53 false (2 ^ 52 + t) x 1074)

    small_value : (t : ℕ) → HasValue (of_fields binary64 false 0 t) false (t * 2 ^ 0) (2 ^ 1074)
    unfolding of_fields
    small_value t = odd_sign 53 false t 0 1074

    rounded_fields : 0 < field → round_single (from_bits double b) ≡ round binary32 false (digits * 2 ^ (field - 1)) (2 ^ 1074)
    unfolding from_bits
    rounded_fields h =
        let s : field ≡ suc (field - 1) = omega arith in
        let t : 2 ^ 52 + b % 2 ^ 52 ≡ digits = omega (arith, and_mask b 52) in
        ap round_single (fields_are ∙ ap (λ (x : ℕ). of_fields binary64 false x (b % 2 ^ 52)) s)
        ∙ rounds_value (of_fields binary64 false (suc (field - 1)) (b % 2 ^ 52)) ((2 ^ 52 + b % 2 ^ 52) * 2 ^ (field - 1)) (2 ^ 1074) (pow_pos 1074) (normal_value (field - 1) (b % 2 ^ 52) (omega arith))
        ∙ ap (λ (x : ℕ). round binary32 false (x * 2 ^ (field - 1)) (2 ^ 1074)) t

    -- as `nearest_single` has it
    pub double_single : (d k : ℕ) → 0 < field → field + d ≡ k + 926 → round binary32 false (digits * 2 ^ k) (2 ^ d * 2 ^ 149) ≡ round_single (from_bits double b)
    double_single d k h e = sym (rounded_fields h
        ∙ round_same binary32 false (digits * 2 ^ (field - 1)) (2 ^ 1074) (digits * 2 ^ k) (2 ^ d * 2 ^ 149) (pow_pos 1074) (mul-pos (pow_pos d) (pow_pos 149))
        (scaled digits (field - 1) k d 149 1074 (omega arith)))

    pub zero_single : field < 873 → of_bits binary32 0 ≡ round_single (from_bits double b)
    unfolding of_bits from_bits
    zero_single l = by_cases (ℕ_discrete field 0)
        (λ e. sym (ap round_single (fields_are ∙ ap (λ (x : ℕ). of_fields binary64 false x (b % 2 ^ 52)) e)
        ∙ rounds_value (of_fields binary64 false 0 (b % 2 ^ 52)) (b % 2 ^ 52 * 2 ^ 0) (2 ^ 1074) (pow_pos 1074) (small_value (b % 2 ^ 52))
        ∙ vanishes (b % 2 ^ 52) 0 925 refl (lt_of_lt_of_le (omega (arith, mod-lt b (pow_pos 52))) (pow_mono {i = 54} {j = 925} (omega arith)))))
        (λ n. sym (rounded_fields (omega arith) ∙ vanishes digits (field - 1) (926 - field) (omega arith) (lt_of_lt_of_le (omega (arith, digits_small)) (pow_mono {i = 54} {j = 926 - field} (omega arith)))))

  pub normal_kept : 897 ≤ field → field < 2047 → Kept digits 29 (field - 897)
  normal_kept l h = record { shift = omega arith; field = omega arith; digits = omega (arith, digits_small); leading = inl (omega arith) }

  pub small_kept : 873 ≤ field → field < 897 → Kept digits (926 - field) 0
  small_kept l h = record {
    shift = omega arith;
    field = omega arith;
    digits = lt_of_lt_of_le digits_small (mul-le-mul_left (2 ^ 24) (pow_mono {i = 29} {j = 926 - field} (omega arith)));
    leading = inr refl;
  }

-- ==== the sign
neg_odd : (d : ℕ) (s : Bool) (q k l : ℕ) → neg (odd d s q k l) ≡ odd d (not s) q k l
unfolding neg odd
neg_odd d s zero k l = refl
neg_odd d s (suc q) k l = refl

neg_units : (f : Format) (s : Bool) (q k : ℕ) → neg (units f s q k) ≡ units f (not s) q k
unfolding units neg
neg_units f s q k = go (ltb (q * 2 ^ k) (2 ^ (low f + suc (Ieee.emax f))))
  where
    go : (b : Bool) → neg (cond b (odd (suc (Ieee.prec f)) s q k (low f)) (inf s)) ≡ cond b (odd (suc (Ieee.prec f)) (not s) q k (low f)) (inf (not s))
    go true = neg_odd (suc (Ieee.prec f)) s q k (low f)
    go false = refl

pub neg_round : (f : Format) (s : Bool) (a c : ℕ) → neg (round f s a c) ≡ round f (not s) a c
neg_round f s a c = ap neg (round_is f s a c) ∙ neg_units f s _ _ ∙ sym (round_is f (not s) a c)

neg_single : (y : Float) → neg (round_single y) ≡ round_single (neg y)
unfolding round_single neg
neg_single nan = refl
neg_single (inf s) = refl
neg_single (fin s m e) = neg_round binary32 s (m * up e) (down e)

neg_fields : (f : Format) (x t : ℕ) → neg (of_fields f false x t) ≡ of_fields f true x t
unfolding of_fields neg
neg_fields f zero t = neg_odd (Ieee.prec f) false t 0 (low f)
neg_fields f (suc x) t = go (eqb (suc x) (ones f)) (eqb t 0)
  where
    go : (l z : Bool) → neg (cond l (cond z (inf false) nan) (odd (Ieee.prec f) false (hid f + t) x (low f))) ≡ cond l (cond z (inf true) nan) (odd (Ieee.prec f) true (hid f + t) x (low f))
    go true true = refl
    go true false = refl
    go false z = neg_odd (Ieee.prec f) false (hid f + t) x (low f)

-- ==== a double and its pattern without the sign
module _ (b : ℕ) where
  abbrev unsigned : ℕ
  unsigned = bit_and b (2 ^ 63 - 1)

  plus_bits : b < 2 ^ 63 → unsigned ≡ b
  plus_bits h = and_mask b 63 ∙ mod-eq_of_lt h

  minus_bits : 2 ^ 63 ≤ b → neg (of_bits binary64 unsigned) ≡ of_bits binary64 b
  unfolding of_bits
  minus_bits h =
      let u : ℕ = b % 2 ^ 63 in
      let l : u < 2 ^ 63 = mod-lt b (pow_pos 63) in
      let d : u % 2 ^ 52 ≡ b % 2 ^ 52 = mod-mod_of_dvd (2 ^ 52) b (dvd-mul_right (2 ^ 52) (2 ^ 11)) in
      ap (λ (x : ℕ). neg (of_bits binary64 x)) (and_mask b 63)
      ∙ ap (λ (t : Bool). neg (of_fields binary64 t (u % 2 ^ 63 / 2 ^ 52) (u % 2 ^ 52))) (lt-leb (2 ^ 63) u l)
      ∙ ap (λ (x : ℕ). neg (of_fields binary64 false (x / 2 ^ 52) (u % 2 ^ 52))) (mod-eq_of_lt l)
      ∙ ap (λ (x : ℕ). neg (of_fields binary64 false (u / 2 ^ 52) x)) d
      ∙ neg_fields binary64 (u / 2 ^ 52) (b % 2 ^ 52)
      ∙ ap (λ (t : Bool). of_fields binary64 t (u / 2 ^ 52) (b % 2 ^ 52)) (sym (le-leb (2 ^ 63) b h))

-- a double by the pattern that the code takes of it
module _ (x : Float) (F : T (fits binary64 x)) where
  abbrev bits : ℕ
  bits = Ieee.to_bits binary64 x

  pub size_most : is_nan x ≡ false → unsigned bits ≤ inf_bits
  size_most h =
      let n : T (not (nan_bits binary64 bits)) = subst (λ (t : Bool). T (not t)) (sym (nan_bits_is binary64 bits ∙ ap is_nan (of_bits-to_bits binary64 x F))) (no h) in
      le_trans (le_of_eq (and_mask bits 63)) (nltb→le inf_bits (bits % 2 ^ 63) (subst (λ (t : Bool). T (not t)) (nan_bits_above binary64 bits) n))

  pub plus_single : bits < 2 ^ 63 → round_single (from_bits double (unsigned bits)) ≡ round_single x
  unfolding from_bits
  plus_single h = ap round_single (ap (of_bits binary64) (plus_bits bits h) ∙ of_bits-to_bits binary64 x F)

  pub minus_single : 2 ^ 63 ≤ bits → neg (round_single (from_bits double (unsigned bits))) ≡ round_single x
  unfolding from_bits
  minus_single h = neg_single (of_bits binary64 (unsigned bits)) ∙ ap round_single (minus_bits bits h ∙ of_bits-to_bits binary64 x F)

pub nan_single : (x : Float) → is_nan x ≡ true → of_bits binary32 0x7fc0_0000 ≡ round_single x
unfolding round_single
nan_single x h = made_nan binary32 ∙ ap round_single (sym (is_nan_lem x h))
