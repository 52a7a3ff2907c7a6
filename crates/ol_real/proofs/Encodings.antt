-- A bit pattern encodes one datum, and lib.Ieee's `of_bits` reads it; `to_bits` writes an encoding.
use Rattle.std.proofs.Common.{◌≡◌, ℕ, zero, suc, ◌+◌, ◌-◌, ◌*◌, ◌/◌, ◌%◌, ◌^◌, ◌<◌, ◌≤◌, Bool, true, false, cond, not, T, eqb, leb, ◌≢◌, ◌↔◌, sym, refl, ap, ◌∙◌, subst, subst₂, le_of_eq, lt_of_lt_of_le, add_assoc, mod-lt, mod-eq_of_lt, zero-lt-suc, mul_assoc, mul_comm, div-lt_iff_lt-mul, add-mul, mul-pos, div-add-mod', mul-one, arith, eqb→eq, leb→le, T_not, pow_pos}
use mathlib.Core.Path.{subst₃}
use mathlib.Core.Logic.{by_cases}
use native.Mathlib.Nat.{mod-eq-sub-mod, mod-mod_of_dvd, dvd-mul_right}
use native.Mathlib.Decide.{ℕ_discrete}
use lib.Arith.{digits_div, digits_mod}
use lib.Dec.{nleb→lt}
use lib.Ieee.{Float, nan, inf, prec, emax, low, odd, fits, hid, ones, top, of_fields, of_bits, to_bits, is_nan}
use lib.Ieee as Ieee
use lib.Ieee.Fits.{eq→eqb}
use lib.Ieee.Exact.{odd_sign}
use lib.Ieee.Bits.{of_bits-fits, of_bits-to_bits, to_bits-lt, to_bits-of_bits}
use Rattle.ol_real.specs.Ieee754.{Format, Datum}
use Rattle.ol_real.specs.Encoding.{bit, Fields, Encodes}
use Rattle.ol_real.proofs.Values.{of, datum_one, fits_datum}

-- ==== a pattern has one reading
bit_one : (s t : Bool) → bit s ≡ bit t → s ≡ t
bit_one false false h = refl
bit_one false true h = absurd (omega arith)
bit_one true false h = absurd (omega arith)
bit_one true true h = refl

fields_one : (f : Format) (b : ℕ) (s t : Bool) (E D T U : ℕ) → Fields f b s E T → Fields f b t D U → (s ≡ t) × (E ≡ D) × (T ≡ U)
fields_one f b s t E D T U x y =
    let h : ℕ = 2 ^ (f.p - 1) in
    let w : ℕ = 2 * f.emax + 2 in
    let e : (bit s * w + E) * h + T ≡ (bit t * w + D) * h + U = sym x.bits ∙ y.bits in
    let low : T ≡ U = sym (digits_mod (bit s * w + E) x.digits) ∙ ap (λ (z : ℕ). z % h) e ∙ digits_mod (bit t * w + D) y.digits in
    let high : bit s * w + E ≡ bit t * w + D = sym (digits_div (bit s * w + E) x.digits) ∙ ap (λ (z : ℕ). z / h) e ∙ digits_div (bit t * w + D) y.digits in (
      bit_one s t (sym (digits_div (bit s) x.exponent) ∙ ap (λ (z : ℕ). z / w) high ∙ digits_div (bit t) y.exponent),
      sym (digits_mod (bit s) x.exponent) ∙ ap (λ (z : ℕ). z % w) high ∙ digits_mod (bit t) y.exponent,
      low,
    )

pub encodes_one : (f : Format) (b : ℕ) (x y : Float) → Encodes f b x → Encodes f b y → x ≡ y
encodes_one f b x y p q =
    let r = fields_one f b p.s q.s p.E q.E p.T q.T p.fields q.fields in
    by_cases (ℕ_discrete p.E 0)
    (λ e. datum_one f p.s p.T x y (p.subnormal e) (subst₂ (λ (s : Bool) (n : ℕ). Datum f s n y) (sym r.0) (sym r.2) (q.subnormal (sym r.1 ∙ e))))
    (λ n. by_cases (ℕ_discrete p.E (2 * f.emax + 1))
    (λ e. by_cases (ℕ_discrete p.T 0)
    (λ z. p.infinite e z ∙ ap inf r.0 ∙ sym (q.infinite (sym r.1 ∙ e) (sym r.2 ∙ z)))
    (λ z. p.not_number e (omega arith) ∙ sym (q.not_number (sym r.1 ∙ e) (omega (arith, r.2)))))
    (λ m.
    let at : Datum f p.s ((2 ^ (f.p - 1) + p.T) * 2 ^ (p.E - 1)) x = p.normal (omega arith) (omega (arith, p.fields.exponent)) in
    let at' : Datum f q.s ((2 ^ (f.p - 1) + q.T) * 2 ^ (q.E - 1)) y = q.normal (omega (arith, r.1)) (omega (arith, r.1, p.fields.exponent)) in
    datum_one f p.s ((2 ^ (f.p - 1) + p.T) * 2 ^ (p.E - 1)) x y at
    (subst₃ (λ (s : Bool) (E T : ℕ). Datum f s ((2 ^ (f.p - 1) + T) * 2 ^ (E - 1)) y) (sym r.0) (sym r.1) (sym r.2) at')))

-- ==== `of_bits`
module _ (f : Ieee.Format) (b : ℕ) (B : b < 2 * top f) where
  hid_pos : 0 < hid f
  hid_pos = pow_pos (prec f - 1)

  top_pos : 0 < top f
  top_pos = mul-pos hid_pos (zero-lt-suc (ones f))

  above : b ≡ bit (leb (top f) b) * top f + b % top f
  above = go (leb (top f) b) (leb→le (top f) b) (nleb→lt (top f) b)
    where
      go : (l : Bool) → (T l → top f ≤ b) → (T (not l) → b < top f) → b ≡ bit l * top f + b % top f
      go true l g = let e : b % top f ≡ b - top f = mod-eq-sub-mod (l tt) ∙ mod-eq_of_lt (omega (arith, l tt)) in omega (arith, l tt)
      go false l g = omega (arith, mod-eq_of_lt (g tt))

  wide : top f ≡ (2 * emax f + 2) * hid f
  wide = let e : suc (ones f) ≡ 2 * emax f + 2 = omega arith in mul_comm (hid f) (suc (ones f)) ∙ ap (λ (z : ℕ). z * hid f) e

  read_fields : Fields (of f) b (leb (top f) b) (b % top f / hid f) (b % hid f)
  read_fields =
      let s : ℕ = bit (leb (top f) b) in
      let w : ℕ = 2 * emax f + 2 in
      record {
        exponent = (div-lt_iff_lt-mul hid_pos).1 (lt_of_lt_of_le (mod-lt b top_pos) (le_of_eq wide));
        digits = mod-lt b hid_pos;
        bits = above ∙ ap (λ (z : ℕ). s * z + b % top f) wide ∙ sym (ap (λ (z : ℕ). z + b % hid f) (add-mul (s * w) (b % top f / hid f) (hid f) ∙ ap (λ (z : ℕ). z + b % top f / hid f * hid f) (mul_assoc s w (hid f)))
            ∙ add_assoc (s * (w * hid f)) (b % top f / hid f * hid f) (b % hid f)
            ∙ ap (λ (z : ℕ). s * (w * hid f) + (b % top f / hid f * hid f + z)) (sym (mod-mod_of_dvd (hid f) b (dvd-mul_right (hid f) (suc (ones f)))))
            ∙ ap (λ (z : ℕ). s * (w * hid f) + z) (div-add-mod' (b % top f) (hid f)));
      }

  odd_datum : (d : ℕ) (s : Bool) (q k : ℕ) → T (fits f (odd d s q k (low f))) → Datum (of f) s (q * 2 ^ k) (odd d s q k (low f))
  odd_datum d s q k h = fits_datum f s (q * 2 ^ k) (odd d s q k (low f)) h (odd_sign d s q k (low f))

  at_suc : (s : Bool) (x t : ℕ) → Fields (of f) b s (suc x) t → (l z : Bool) → (T l → suc x ≡ ones f) → (T (not l) → suc x ≢ ones f) → (T z → t ≡ 0) → (T (not z) → t ≢ 0)
      → T (fits f (cond l (cond z (inf s) nan) (odd (prec f) s (hid f + t) x (low f)))) → Encodes (of f) b (cond l (cond z (inf s) nan) (odd (prec f) s (hid f + t) x (low f)))
  at_suc s x t h true true l l' z z' fit = record {
    s = s;
    E = suc x;
    T = t;
    fields = h;
    not_number = λ e k. absurd (omega (arith, z tt));
    infinite = λ e k. refl;
    normal = λ e k. absurd (omega (arith, l tt));
    subnormal = λ e. absurd (omega arith);
  }
  at_suc s x t h true false l l' z z' fit = record {
    s = s;
    E = suc x;
    T = t;
    fields = h;
    not_number = λ e k. refl;
    infinite = λ e k. absurd (z' tt k);
    normal = λ e k. absurd (omega (arith, l tt));
    subnormal = λ e. absurd (omega arith);
  }
  at_suc s x t h false z l l' y y' fit =
      let e : x ≡ suc x - 1 = omega arith in
      record {
        s = s;
        E = suc x;
        T = t;
        fields = h;
        not_number = λ e k. absurd (l' tt e);
        infinite = λ e k. absurd (l' tt e);
        normal = λ _ _. subst (λ (k : ℕ). Datum (of f) s ((hid f + t) * 2 ^ k) (odd (prec f) s (hid f + t) x (low f))) e (odd_datum (prec f) s (hid f + t) x fit);
        subnormal = λ e. absurd (omega arith);
      }

  pub of_bits_encodes : Encodes (of f) b (of_bits f b)
  unfolding of_bits of_fields
  of_bits_encodes = go (leb (top f) b) (b % top f / hid f) (b % hid f) read_fields (of_bits-fits f b)
    where
      go : (s : Bool) (x t : ℕ) → Fields (of f) b s x t → T (fits f (of_fields f s x t)) → Encodes (of f) b (of_fields f s x t)
      go s zero t h fit = record {
        s = s;
        E = 0;
        T = t;
        fields = h;
        not_number = λ e. absurd (omega arith);
        infinite = λ e. absurd (omega arith);
        normal = λ e. absurd (omega arith);
        subnormal = λ e. subst (λ (n : ℕ). Datum (of f) s n (odd (prec f) s t 0 (low f))) (mul-one t) (odd_datum (prec f) s t 0 fit);
      }
      go s (suc x) t h fit = at_suc s x t h (eqb (suc x) (ones f)) (eqb t 0) (eqb→eq (suc x) (ones f)) (λ n e. T_not (eqb (suc x) (ones f)) n (eq→eqb e)) (eqb→eq t 0) (λ n e. T_not (eqb t 0) n (eq→eqb e)) fit

-- ==== so `of_bits` reads the one datum that a pattern encodes, and `to_bits` writes a pattern that encodes the datum
pub encodes_is : (f : Ieee.Format) (b : ℕ) (x : Float) → b < 2 * top f → Encodes (of f) b x ↔ (x ≡ of_bits f b)
encodes_is f b x B = (λ h. encodes_one (of f) b x (of_bits f b) h (of_bits_encodes f b B), λ e. subst (λ (y : Float). Encodes (of f) b y) (sym e) (of_bits_encodes f b B))

pub to_bits_encodes : (f : Ieee.Format) (x : Float) → T (fits f x) → Encodes (of f) (to_bits f x) x
to_bits_encodes f x h = (encodes_is f (to_bits f x) x (to_bits-lt f x h)).1 (sym (of_bits-to_bits f x h))

-- but for the NaN there is no other pattern
pub encodes_back : (f : Ieee.Format) (b : ℕ) (x : Float) → b < 2 * top f → T (not (is_nan x)) → Encodes (of f) b x → b ≡ to_bits f x
encodes_back f b x B n h =
    let e : x ≡ of_bits f b = (encodes_is f b x B).0 h in
    sym (to_bits-of_bits f b B (subst (λ (y : Float). T (not (is_nan y))) e n)) ∙ ap (to_bits f) (sym e)
