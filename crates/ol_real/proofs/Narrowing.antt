-- What the proofs of the conversions to a single cite: the digits that a format keeps of a fraction, as the code finds them, and the bits of the rounded number.
use Rattle.std.proofs.Common.{◌≡◌, ℕ, suc, ◌+◌, ◌-◌, ◌*◌, ◌/◌, ◌%◌, ◌^◌, ◌<◌, ◌≤◌, Bool, true, false, cond, T, ltb, ◌⊎◌, sym, ap, ◌∙◌, subst, inl, inr, ⊎_elim, le_trans, le_of_eq, lt_of_lt_of_le, lt_of_le_of_lt, lt_irrefl, mul-le-mul_right, zero-lt-suc, mul_assoc, suc-mul, mul_comm, div-lt_iff_lt-mul, mul-le-mul, lt_of_mul-lt-mul_right, mul-le-mul_left, mul-lt-mul_of_pos_right, mul-pos, le-div_iff_mul-le, mul-one, mul_right_comm, le_of_mul-le-mul_right, mul_left_comm, arith, lt→ltb, pow_pos, pow_mono, pow-add, le-ltb}
use mathlib.Core.Logic.{by_cases}
use Prim.Native.Nat.{compare, Ordering}
use native.Mathlib.Nat.{le-suc, mul-lt-mul_of_pos_left, pow-succ'}
use native.Mathlib.Decide.{dec_le, dec_lt}
use lib.Pow.{pow-lt}
use lib.Ieee.{inf, Format, prec, emax, low, hid, ones, top, size, nearest, odd, units, round}
use lib.Ieee as Ieee
use lib.Ieee.Digits.{size-le}
use lib.Ieee.Fits.{two, round_is, nearest-le, odd-fits}
use lib.Ieee.Exact.{odd_sign}
use lib.Ieee.Nearest.{closest, closest_same, div_same, nearest-ge}
use Rattle.ol_real.specs.Ieee754.{Datum}
use Rattle.ol_real.specs.Encoding.{Encodes}
use Rattle.ol_real.proofs.Rounding.{Cmp, cmp, size_more, top_all, top_lead}
use Rattle.ol_real.proofs.Values.{of, reaches, fits_datum}
use Rattle.ol_real.proofs.Encodings.{encodes_is}

-- ==== to the nearest whole number, by the test that the code makes
closest_by : (q x u v : ℕ) (o : Ordering) → Cmp o x u → (x < u → v ≡ q) → (x ≡ u → v ≡ q + q % 2) → (u < x → v ≡ suc q) → v ≡ nearest q o
closest_by q x u v Ordering.lt h a b c = a h
closest_by q x u v Ordering.eq h a b c = b h
closest_by q x u v Ordering.gt h a b c = c h

pub closest_is : (m u v : ℕ) → (m % u * 2 < u → v ≡ m / u) → (m % u * 2 ≡ u → v ≡ m / u + m / u % 2) → (u < m % u * 2 → v ≡ suc (m / u)) → v ≡ closest m u
closest_is m u v = closest_by (m / u) (m % u * 2) u v (compare (m % u * 2) u) (cmp (m % u * 2) u)

-- ==== the digits kept of m * 2 ^ k / 2 ^ d
module _ (f : Format) (m d k : ℕ) (digits : m < 2 ^ prec f * 2 ^ d) (leading : (2 ^ (prec f - 1) * 2 ^ d ≤ m) ⊎ (k ≡ 0)) where
  abbrev whole : ℕ
  whole = m * 2 ^ k / 2 ^ d

  at_most : whole < 2 ^ (prec f + k)
  at_most = (div-lt_iff_lt-mul (pow_pos d)).1
      (lt_of_lt_of_le (mul-lt-mul_of_pos_right digits (pow_pos k)) (le_of_eq (mul_right_comm (2 ^ prec f) (2 ^ d) (2 ^ k) ∙ ap (λ (x : ℕ). x * 2 ^ d) (sym (pow-add 2 (prec f) k)))))

  at_least : 2 ^ (prec f - 1) * 2 ^ d ≤ m → 2 ^ (prec f - 1 + k) ≤ whole
  at_least h = (le-div_iff_mul-le (pow_pos d)).1
      (le_trans (le_of_eq (ap (λ (x : ℕ). x * 2 ^ d) (pow-add 2 (prec f - 1) k) ∙ mul_right_comm (2 ^ (prec f - 1)) (2 ^ k) (2 ^ d))) (mul-le-mul_right (2 ^ k) h))

  drops : size whole - prec f ≡ k
  drops =
      let most : size whole ≤ prec f + k = size-le whole (prec f + k) at_most in
      ⊎_elim (λ h. omega (arith, two f, size_more whole (prec f - 1 + k) (at_least h))) (λ e. omega arith) leading

  -- so the rounded number is the nearest whole number to m / 2 ^ d, times 2 ^ k
  pub round_kept : (s : Bool) → round f s (m * 2 ^ k) (2 ^ d * 2 ^ low f) ≡ units f s (closest m (2 ^ d)) k
  round_kept s =
      let l : ℕ = 2 ^ low f in
      let n : ℕ = m * 2 ^ k * l in
      let D : 0 < 2 ^ d * l = mul-pos (pow_pos d) (pow_pos (low f)) in
      let e : n / (2 ^ d * l) ≡ whole = div_same n (2 ^ d * l) (m * 2 ^ k) (2 ^ d) D (pow_pos d) (mul_right_comm (m * 2 ^ k) l (2 ^ d) ∙ mul_assoc (m * 2 ^ k) (2 ^ d) l) in
      let c : n * 2 ^ d ≡ m * (2 ^ d * l * 2 ^ k) = simp (mul_assoc, mul_comm, mul_left_comm) in
      round_is f s (m * 2 ^ k) (2 ^ d * l)
      ∙ ap (λ (x : ℕ). units f s (closest n (2 ^ d * l * 2 ^ x)) x) (ap (λ (x : ℕ). size x - prec f) e ∙ drops)
      ∙ ap (λ (x : ℕ). units f s x k) (closest_same n (2 ^ d * l * 2 ^ k) m (2 ^ d) (mul-pos D (pow_pos k)) (pow_pos d) c)

  pub kept_most : closest m (2 ^ d) ≤ 2 ^ prec f
  kept_most = le_trans (nearest-le (m / 2 ^ d) (compare (m % 2 ^ d * 2) (2 ^ d))) ((div-lt_iff_lt-mul (pow_pos d)).1 digits)

  pub kept_leading : (2 ^ (prec f - 1) ≤ closest m (2 ^ d)) ⊎ (k ≡ 0)
  kept_leading = ⊎_elim (λ h. inl (le_trans ((le-div_iff_mul-le (pow_pos d)).1 h) (nearest-ge (m / 2 ^ d) (compare (m % 2 ^ d * 2) (2 ^ d))))) (λ e. inr e) leading

-- ==== the bits of q * 2 ^ k units, for a q as a format keeps it
module _ (f : Format) (q k : ℕ) (most : q ≤ 2 ^ prec f) (leading : (hid f ≤ q) ⊎ (k ≡ 0)) where
  abbrev pattern : ℕ
  pattern = k * hid f + q

  abbrev limit : ℕ
  limit = 2 ^ (low f + suc (emax f))

  doubled : 2 ^ prec f ≡ 2 * hid f
  doubled = let e : prec f ≡ suc (prec f - 1) = omega (arith, two f) in ap (λ (x : ℕ). 2 ^ x) e ∙ pow-succ' 2 (prec f - 1)

  -- q has fewer digits than the format, or as many, or it is the next power of two
  place : {G : Type 0} → (q < hid f → k ≡ 0 → G) → (hid f ≤ q → q < 2 ^ prec f → G) → (q ≡ 2 ^ prec f → G) → G
  place g h l = by_cases (dec_le (hid f) q) (λ y. by_cases (dec_lt q (2 ^ prec f)) (λ z. h y z) (λ z. l (omega arith)))
      (λ y. g (omega arith) (⊎_elim (λ z. absurd (y z)) (λ e. e) leading))

  limit_all : 2 ^ prec f * 2 ^ (2 * emax f - 1) ≡ limit
  limit_all = top_all (of f) (two f) (reaches f) 0 1 (zero-lt-suc 0)

  limit_lead : hid f * 2 ^ (2 * emax f) ≡ limit
  limit_lead = top_lead (of f) (two f) (reaches f) 0 1 (zero-lt-suc 0)

  two_fields : suc (suc k) * hid f ≡ k * hid f + 2 ^ prec f
  two_fields = omega (arith, suc-mul (suc k) (hid f), suc-mul k (hid f), doubled)

  -- what the exponent's field stays below
  one_field : pattern < ones f * hid f → hid f ≤ q → suc k < ones f
  one_field h l = lt_of_mul-lt-mul_right (hid f) (lt_of_le_of_lt (le_trans (le_of_eq (suc-mul k (hid f))) (omega arith)) h)

  next_field : pattern < ones f * hid f → q ≡ 2 ^ prec f → suc (suc k) < ones f
  next_field h e = lt_of_mul-lt-mul_right (hid f) (lt_of_le_of_lt (le_of_eq (two_fields ∙ ap (λ (x : ℕ). k * hid f + x) (sym e))) h)

  below : pattern < ones f * hid f → q * 2 ^ k < limit
  below h = place
      (λ l e. lt_of_lt_of_le (subst (λ (x : ℕ). q * 2 ^ x < 2 ^ prec f) (sym e) (omega (arith, doubled)))
      (le_trans (le_of_eq (sym (mul-one (2 ^ prec f)))) (le_trans (mul-le-mul_left (2 ^ prec f) (pow_pos (2 * emax f - 1))) (le_of_eq limit_all))))
      (λ l g. lt_of_lt_of_le (mul-lt-mul_of_pos_right g (pow_pos k)) (le_trans (mul-le-mul_left (2 ^ prec f) (pow_mono (omega (arith, one_field h l)))) (le_of_eq limit_all)))
      (λ e. lt_of_le_of_lt (mul-le-mul_right (2 ^ k) most) (lt_of_lt_of_le (mul-lt-mul_of_pos_left (pow-lt (omega (arith, next_field h e))) (pow_pos (prec f))) (le_of_eq limit_all)))

  above : ones f * hid f ≤ pattern → limit ≤ q * 2 ^ k
  above h = place
      (λ l e. absurd (omega (arith, mul-le-mul_right {m = 1} {n = ones f} (hid f) (omega arith), ap (λ (x : ℕ). x * hid f) e)))
      (λ l g.
      let s : ones f < suc (suc k) = lt_of_mul-lt-mul_right (hid f) (lt_of_le_of_lt h (lt_of_lt_of_le (omega arith) (le_of_eq (sym two_fields)))) in
      le_trans (le_of_eq (sym limit_lead)) (mul-le-mul l (pow_mono (omega arith))))
      (λ e.
      let s : ones f ≤ suc (suc k) = le_of_mul-le-mul_right (le_trans h (le_of_eq (ap (λ (x : ℕ). k * hid f + x) e ∙ sym two_fields))) (pow_pos (prec f - 1)) in
      le_trans (le_of_eq (sym limit_all)) (mul-le-mul (le_of_eq (sym e)) (pow_mono (omega arith))))

  units_datum : q * 2 ^ k < limit → Datum (of f) false (q * 2 ^ k) (units f false q k)
  unfolding units
  units_datum l = go (ltb (q * 2 ^ k) limit) (lt→ltb (q * 2 ^ k) limit l)
    where
      go : (b : Bool) → T b → Datum (of f) false (q * 2 ^ k) (cond b (odd (suc (prec f)) false q k (low f)) (inf false))
      go true t =
          fits_datum f false (q * 2 ^ k) (odd (suc (prec f)) false q k (low f))
          (odd-fits f (suc (prec f)) false q k (lt_of_le_of_lt most (pow-lt (omega arith))) most l) (odd_sign (suc (prec f)) false q k (low f))
      go false t = elim t [ ]

  encodes : (E t : ℕ) → E < ones f → t < hid f → pattern ≡ E * hid f + t → (0 < E → (hid f + t) * 2 ^ (E - 1) ≡ q * 2 ^ k) → (E ≡ 0 → t ≡ q * 2 ^ k) → Datum (of f) false (q * 2 ^ k) (units f false q k)
      → Encodes (of f) pattern (units f false q k)
  encodes E t l g b n z d =
      let e : E ≡ 0 * (2 * emax f + 2) + E = omega arith in
      record {
        s = false;
        E = E;
        T = t;
        fields = record { exponent = omega arith; digits = g; bits = b ∙ ap (λ (x : ℕ). x * hid f + t) e };
        not_number = λ e. absurd (omega arith);
        infinite = λ e. absurd (omega arith);
        normal = λ p _. subst (λ (x : ℕ). Datum (of f) false x (units f false q k)) (sym (n p)) d;
        subnormal = λ e. subst (λ (x : ℕ). Datum (of f) false x (units f false q k)) (sym (z e)) d;
      }

  read : pattern < ones f * hid f → Encodes (of f) pattern (units f false q k)
  read h =
      let d : Datum (of f) false (q * 2 ^ k) (units f false q k) = units_datum (below h) in
      place
      (λ l e. encodes 0 q (omega arith) l (ap (λ (x : ℕ). x * hid f + q) e) (λ p. absurd (lt_irrefl 0 p)) (λ _. sym (ap (λ (x : ℕ). q * 2 ^ x) e ∙ mul-one q)) d)
      (λ l g.
      let t : hid f + (q - hid f) ≡ q = omega arith in
      let x : suc k - 1 ≡ k = omega arith in
      encodes (suc k) (q - hid f) (one_field h l) (omega (arith, doubled)) (omega (arith, suc-mul k (hid f)))
      (λ _. ap (λ (y : ℕ). y * 2 ^ (suc k - 1)) t ∙ ap (λ (y : ℕ). q * 2 ^ y) x) (λ z. absurd (omega arith)) d)
      (λ e.
      let t : hid f + 0 ≡ hid f = omega arith in
      let x : suc (suc k) - 1 ≡ suc k = omega arith in
      let v : hid f * 2 ^ suc k ≡ q * 2 ^ k = ap (λ (y : ℕ). hid f * y) (pow-succ' 2 k) ∙ mul_left_comm (hid f) 2 (2 ^ k) ∙ sym (mul_assoc 2 (hid f) (2 ^ k)) ∙ ap (λ (y : ℕ). y * 2 ^ k) (sym (e ∙ doubled)) in
      encodes (suc (suc k)) 0 (next_field h e) (pow_pos (prec f - 1)) (omega (arith, two_fields))
      (λ _. ap (λ (y : ℕ). y * 2 ^ (suc (suc k) - 1)) t ∙ ap (λ (y : ℕ). hid f * 2 ^ y) x ∙ v) (λ z. absurd (omega arith)) d)

  pub units_bits : pattern < ones f * hid f → Ieee.of_bits f pattern ≡ units f false q k
  units_bits h =
      let B : pattern < 2 * top f = lt_of_lt_of_le h (le_trans (le_of_eq (mul_comm (ones f) (hid f))) (le_trans (mul-le-mul_left (hid f) (le-suc (ones f))) (omega arith))) in
      sym ((encodes_is f pattern (units f false q k) B).0 (read h))

  pub units_infinite : ones f * hid f ≤ pattern → units f false q k ≡ inf false
  unfolding units
  units_infinite h = ap (λ (b : Bool). cond b (odd (suc (prec f)) false q k (low f)) (inf false)) (le-ltb (q * 2 ^ k) limit (above h))
