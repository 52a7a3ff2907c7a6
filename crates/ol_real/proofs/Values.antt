-- A number has one datum. The data of a format are those that lib.Ieee's `fits` admits. A fraction has one rounded datum, and lib.Ieee's `round` gives it.
use Rattle.std.proofs.Common.{◌≡◌, ℕ, zero, suc, ◌+◌, ◌-◌, ◌*◌, ◌/◌, ◌%◌, ◌^◌, ◌<◌, ◌≤◌, Bool, true, false, cond, not, T, ltb, ◌⊎◌, ℤ, pos, sym, refl, ap, ◌∙◌, subst, inl, inr, le_trans, le_of_eq, lt_of_lt_of_le, lt_of_le_of_lt, le_of_lt, lt_irrefl, mul-le-mul_right, zero-lt-suc, mul_assoc, mul-le-mul, mul-le-mul_left, mul-lt-mul_of_pos_right, zero-mul, mul-one, mul_right_comm, mul_left_comm, arith, lit≤, ltb→lt, leb→le, nltb→le, pow_pos, pow_mono}
use mathlib.Core.Logic.{by_cases}
use native.Mathlib.Nat.{eq_of_mul-eq-mul_right, pow-succ'}
use native.Mathlib.Decide.{ℕ_discrete, dec_le, dec_lt}
use lib.Arith.{bin_ind}
use lib.Pow.{pow-lt}
use lib.Ieee.{Float, nan, inf, fin, prec, emax, low, odd, units, round, fits, up, down, minus}
use lib.Ieee as Ieee
use lib.Ieee.Fits.{down_pos, and_l, and_r, two, odd-fits, round_is}
use lib.Ieee.Digits.{minus_val}
use lib.Ieee.Exact.{HasValue, odd_sign}
use lib.Ieee.Order.{drop, kept}
use Rattle.ol_spec.proofs.Data.{form_one, fits_form, shift, in_range_lem}
use Rattle.ol_real.specs.Ieee754.{Format, lowest, Form, Number, gap, Overflows, Rounds, OneForm, Counts, Datum, IsValue}
use Rattle.ol_real.proofs.Rounding.{exp_less, top_lead, top_all, top, res, largest, largest_top, top_from, half_pos, over, no_overflow, res_nearest, overflows_units, units_overflow, nearest_one, kept_le}

-- ==== lib.Ieee's formats

abbrev pub of : Ieee.Format → Format
of f = record { p = prec f; emax = emax f }

pub reaches : (f : Ieee.Format) → 1 ≤ emax f
reaches Ieee.binary32 = lit≤ tt
reaches Ieee.binary64 = lit≤ tt

-- ==== a number has one datum

-- m * up d * l is n * down d, and m' * up e * l is n * down e
cross : (x y l n dd de : ℕ) → 0 < l → x * l ≡ n * dd → y * l ≡ n * de → x * de ≡ y * dd
cross x y l n dd de L p q = eq_of_mul-eq-mul_right l L (x * de) (y * dd)
    (mul_right_comm x de l ∙ ap (λ (z : ℕ). z * de) p ∙ mul_right_comm n dd de ∙ ap (λ (z : ℕ). z * dd) (sym q) ∙ mul_right_comm y l dd)

pub datum_one : (f : Format) (s : Bool) (n : ℕ) (x y : Float) → Datum f s n x → Datum f s n y → x ≡ y
datum_one f s n (fin t m d) (fin u k e) a b =
    let r = form_one m k d e a.1 b.1 (cross (m * up d) (k * up e) (2 ^ lowest f) n (down d) (down e) (pow_pos (lowest f)) a.2 b.2) in
    λ i. fin ((a.0 ∙ sym b.0) i) (r.0 i) (r.1 i)
datum_one f s n nan y a b = elim a [ ]
datum_one f s n (inf _) y a b = elim a [ ]
datum_one f s n (fin t m d) nan a b = elim b [ ]
datum_one f s n (fin t m d) (inf _) a b = elim b [ ]

-- ==== one rounded datum
pub rounds_one : (f : Format) (s : Bool) (num den : ℕ) (x y : Float) → 1 ≤ f.p → 0 < den → Rounds f s num den x → Rounds f s num den y → x ≡ y
rounds_one f s num den (inf t) (inf u) P D a b = ap inf (a.0 ∙ sym b.0)
rounds_one f s num den (inf t) (fin u k e) P D a b = absurd (b.1.below a.1)
rounds_one f s num den (fin t m d) (inf u) P D a b = absurd (a.1.below b.1)
rounds_one f s num den (fin t m d) (fin u k e) P D a b =
    let same : b.1.n ≡ a.1.n = nearest_one f P (num * 2 ^ lowest f) den D b.1.n a.1.n b.1.nearest a.1.nearest in
    datum_one f s a.1.n (fin t m d) (fin u k e) (a.0, a.1.written, a.1.counts) (b.0, b.1.written, subst (λ (x : ℕ). Counts f k e x) same b.1.counts)
rounds_one f s num den nan y P D a b = elim a [ ]
rounds_one f s num den (inf t) nan P D a b = elim b [ ]
rounds_one f s num den (fin t m d) nan P D a b = elim b [ ]

-- ==== the data of a format: what `fits` admits

-- a number in its one form with the largest significand
record Largest (f : Format) (n : ℕ) : Type 0 where
  c : ℕ
  k : ℕ
  form : Form f n c k
  leading : (2 ^ (f.p - 1) ≤ c) ⊎ (k ≡ 0)

-- any c * 2 ^ k below `top`, with a c of p digits, has it
largest_of : (f : Format) (c k : ℕ) → 2 ≤ f.p → 1 ≤ f.emax → c < 2 ^ f.p → c * 2 ^ k < 2 ^ (lowest f + suc f.emax) → Largest f (c * 2 ^ k)
largest_of f c zero P M l h = record { c = c; k = 0; form = record { digits = l; range = omega arith; count = refl }; leading = inr refl }
largest_of f c (suc k) P M l h = by_cases (dec_le (2 ^ (f.p - 1)) c)
    (λ y. record {
      c = c;
      k = suc k;
      form = record {
        digits = l;
        range = exp_less (2 ^ (f.p - 1)) (suc k) (2 * f.emax) (lt_of_le_of_lt (mul-le-mul_right (2 ^ suc k) y) (lt_of_lt_of_le h (le_of_eq (sym (top_lead f P M 0 1 (zero-lt-suc 0))))));
        count = refl;
      };
      leading = inl y;
    })
    (λ n.
    let e : f.p ≡ suc (f.p - 1) = omega arith in
    let s : 2 * c < 2 ^ f.p = omega (arith, ap (λ (x : ℕ). 2 ^ x) e ∙ pow-succ' 2 (f.p - 1)) in
    let q : c * 2 ^ suc k ≡ 2 * c * 2 ^ k = ap (λ (x : ℕ). c * x) (pow-succ' 2 k) ∙ mul_left_comm c 2 (2 ^ k) ∙ sym (mul_assoc 2 c (2 ^ k)) in
    subst (λ (x : ℕ). Largest f x) (sym q) (largest_of f (2 * c) k P M s (lt_of_le_of_lt (le_of_eq (sym q)) h)))

pub number_of_lem : (f : Format) (c k : ℕ) → 2 ≤ f.p → 1 ≤ f.emax → c < 2 ^ f.p → c * 2 ^ k < 2 ^ (lowest f + suc f.emax) → Number f (c * 2 ^ k)
number_of_lem f c k P M l h = let w = largest_of f c k P M l h in record { c = w.c; k = w.k; form = w.form }

pub number_below : (f : Format) (n : ℕ) → 2 ≤ f.p → 1 ≤ f.emax → Number f n → n < 2 ^ (lowest f + suc f.emax)
number_below f n P M w =
    lt_of_le_of_lt (le_of_eq w.form.count) (lt_of_lt_of_le (mul-lt-mul_of_pos_right w.form.digits (pow_pos w.k))
    (le_trans (mul-le-mul_left (2 ^ f.p) (pow_mono (omega (arith, w.form.range)))) (le_of_eq (top_all f P M 0 1 (zero-lt-suc 0)))))

pub fits_datum : (f : Ieee.Format) (s : Bool) (n : ℕ) (x : Float) → T (fits f x) → HasValue x s n (2 ^ low f) → Datum (of f) s n x
fits_datum f s n (fin t m e) h v = (v.0, fits_form f t m e h, v.1)
fits_datum f s n nan h v = elim v [ ]
fits_datum f s n (inf _) h v = elim v [ ]

pub value_fits : (f : Ieee.Format) (x : Float) → IsValue (of f) x → T (fits f x)
value_fits f nan v = unfold fits in tt
value_fits f (inf s) v = unfold fits in tt
value_fits f (fin s m e) v =
    let w : Number (of f) v.1 = v.3 in
    let c : ℕ = w.c in
    let l : c * 2 ^ w.k < 2 ^ (low f + suc (emax f)) = lt_of_le_of_lt (le_of_eq (sym w.form.count)) (number_below (of f) v.1 (two f) (reaches f) w) in
    let y : Float = odd (suc (prec f)) s c w.k (low f) in
    let h : T (fits f y) = odd-fits f (suc (prec f)) s c w.k (lt_of_lt_of_le w.form.digits (pow_mono (omega arith))) (le_of_lt w.form.digits) l in
    subst (λ (x : Float). T (fits f x))
    (datum_one (of f) s (c * 2 ^ w.k) y (fin s m e) (fits_datum f s (c * 2 ^ w.k) y h (odd_sign (suc (prec f)) s c w.k (low f)))
    (refl, v.0, subst (λ (x : ℕ). Counts (of f) m e x) w.form.count v.2)) h

pub fits_value : (f : Ieee.Format) (x : Float) → T (fits f x) → IsValue (of f) x
unfolding fits
fits_value f nan h = tt
fits_value f (inf s) h = tt
fits_value f (fin s zero e) h = (
  fits_form f s zero e h,
  0,
  ap (λ (x : ℕ). x * 2 ^ low f) (zero-mul (up e)) ∙ zero-mul (2 ^ low f) ∙ sym (zero-mul (down e)),
  number_of_lem (of f) 0 0 (two f) (reaches f) (pow_pos (prec f)) (pow_pos (low f + suc (emax f))),
)
fits_value f (fin s (suc m) e) h =
    let a : suc m < 2 ^ prec f = ltb→lt (suc m) (2 ^ prec f) (search (and_l, and_r)) in
    let b : down e ≤ 2 ^ low f = leb→le (down e) (2 ^ low f) (search (and_l, and_r)) in
    let c : suc m * up e < 2 ^ suc (emax f) * down e = ltb→lt (suc m * up e) (2 ^ suc (emax f) * down e) (search (and_l, and_r)) in
    let i = shift (suc m) e (low f) b in
    (fits_form f s (suc m) e h, suc m * 2 ^ i.0, i.1, number_of_lem (of f) (suc m) i.0 (two f) (reaches f) a (in_range_lem (low f) (suc (emax f)) (suc m * up e) (suc m * 2 ^ i.0) (down e) i.1 c))

-- ==== the datum of the nearest number is the rounded one
module _ (f : Format) (P : 2 ≤ f.p) (M : 1 ≤ f.emax) (s : Bool) (num den : ℕ) (D : 0 < den) where
  rounded : (x : Float) → res f P M (num * 2 ^ lowest f) den D < top f P M (num * 2 ^ lowest f) den D → Datum f s (res f P M (num * 2 ^ lowest f) den D) x → Rounds f s num den x
  rounded (fin t m e) l d = (
    d.0,
    record {
      below = λ o. no_overflow f P M (num * 2 ^ lowest f) den D l (overflows_units f P M num den o);
      written = d.1;
      n = res f P M (num * 2 ^ lowest f) den D;
      counts = d.2;
      nearest = res_nearest f P M (num * 2 ^ lowest f) den D l;
    },
  )
  rounded nan l d = elim d [ ]
  rounded (inf _) l d = elim d [ ]

  infinite : top f P M (num * 2 ^ lowest f) den D ≤ res f P M (num * 2 ^ lowest f) den D → Rounds f s num den (inf s)
  infinite h = (refl, units_overflow f P M num den (over f P M (num * 2 ^ lowest f) den D h))

-- ==== lib.Ieee's `round`
module _ (f : Ieee.Format) (s : Bool) (num den : ℕ) (D : 0 < den) where
  abbrev n : ℕ
  n = kept (prec f) (num * 2 ^ low f) den * 2 ^ drop (prec f) (num * 2 ^ low f) den

  units_rounds : Rounds (of f) s num den (units f s (kept (prec f) (num * 2 ^ low f) den) (drop (prec f) (num * 2 ^ low f) den))
  unfolding units
  units_rounds = go (ltb n (2 ^ (low f + suc (emax f)))) (ltb→lt n (2 ^ (low f + suc (emax f)))) (nltb→le n (2 ^ (low f + suc (emax f))))
    where
      go : (b : Bool) → (T b → n < 2 ^ (low f + suc (emax f))) → (T (not b) → 2 ^ (low f + suc (emax f)) ≤ n)
          → Rounds (of f) s num den (cond b (odd (suc (prec f)) s (kept (prec f) (num * 2 ^ low f) den) (drop (prec f) (num * 2 ^ low f) den) (low f)) (inf s))
      go true l g =
          let q : ℕ = kept (prec f) (num * 2 ^ low f) den in
          let k : ℕ = drop (prec f) (num * 2 ^ low f) den in
          let le : q ≤ 2 ^ prec f = kept_le (prec f) (num * 2 ^ low f) den (two f) D in
          rounded (of f) (two f) (reaches f) s num den D (odd (suc (prec f)) s q k (low f)) (l tt) (fits_datum f s n (odd (suc (prec f)) s q k (low f))
          (odd-fits f (suc (prec f)) s q k (lt_of_le_of_lt le (pow-lt (omega arith))) le (l tt)) (odd_sign (suc (prec f)) s q k (low f)))
      go false l g = infinite (of f) (two f) (reaches f) s num den D (g tt)

  pub round_rounds : Rounds (of f) s num den (round f s num den)
  round_rounds = subst (λ (x : Float). Rounds (of f) s num den x) (sym (round_is f s num den)) units_rounds

-- ==== a datum of the format is its own rounding
own_overflow : (f : Format) (x den n : ℕ) (P : 2 ≤ f.p) (M : 1 ≤ f.emax) → 0 < den → Number f n → x * 2 ^ lowest f ≡ n * den → ¬ Overflows f x den
own_overflow f x den n P M D w e o =
    let a : ℕ = x * 2 ^ lowest f in
    let most : n * den ≤ largest f P M a den D * den = mul-le-mul_right den (le_trans (le_of_eq w.form.count)
    (mul-le-mul (omega (arith, w.form.digits)) (pow_mono (omega (arith, w.form.range))))) in
    omega (arith, overflows_units f P M x den o, half_pos f P M a den D, top_from f P M a den D, largest_top f P M a den D)

pub value_rounds : (f : Format) (s : Bool) (m : ℕ) (e : ℤ) → 2 ≤ f.p → 1 ≤ f.emax → IsValue f (fin s m e) → Rounds f s (m * up e) (down e) (fin s m e)
value_rounds f s m e P M v =
    let n : ℕ = v.1 in
    let z : gap (m * up e * 2 ^ lowest f) (n * down e) ≡ 0 = omega (arith, v.2) in
    let w : Largest f n = subst (λ (x : ℕ). Largest f x) (sym v.3.form.count)
    (largest_of f v.3.c v.3.k P M v.3.form.digits (lt_of_le_of_lt (le_of_eq (sym v.3.form.count)) (number_below f n P M v.3))) in (
      refl,
      record {
        below = own_overflow f (m * up e) (down e) n P M (down_pos e) v.3 v.2;
        written = v.0;
        n = n;
        counts = v.2;
        nearest = record {
          c = w.c;
          k = w.k;
          form = w.form;
          leading = w.leading;
          nearest = λ k x. omega arith;
          even = λ k x d g. absurd (d (eq_of_mul-eq-mul_right (down e) (down_pos e) k n (omega (arith, v.2))));
        };
      },
    )

-- ==== in every format every fraction has a rounded datum

OddPart : ℕ → Type 0
OddPart n = (m : ℕ) × (j : ℕ) × (m % 2 ≡ 1) × (n ≡ m * 2 ^ j)

odd_part : (n : ℕ) → 0 < n → OddPart n
unfolding OddPart
odd_part = bin_ind (λ n. 0 < n → OddPart n) (λ h. absurd (lt_irrefl 0 h)) (λ n ih h. by_cases (ℕ_discrete (n % 2) 0)
    (λ e.
    let r : OddPart (n / 2) = ih (omega arith) in
    let q : n ≡ 2 * (n / 2) = omega arith in
    (r.0, suc r.1, r.2, q ∙ ap (λ (x : ℕ). 2 * x) r.3 ∙ mul_left_comm 2 r.0 (2 ^ r.1) ∙ ap (λ (x : ℕ). r.0 * x) (sym (pow-succ' 2 r.1))))
    (λ e. (n, 0, omega arith, sym (mul-one n))))

odd_form : (m : ℕ) (e : ℤ) → m % 2 ≡ 1 → OneForm m e
odd_form zero e o = absurd (omega arith)
odd_form (suc m) e o = o

datum_of : (f : Format) (s : Bool) (n : ℕ) → (x : Float) × Datum f s n x
unfolding OddPart
datum_of f s zero = (fin s 0 (pos 0), (refl, refl, zero-mul (2 ^ lowest f)))
datum_of f s (suc n) =
    let r : OddPart (suc n) = odd_part (suc n) (zero-lt-suc n) in
    let e : ℤ = minus r.1 (lowest f) in
    (fin s r.0 e, (refl, odd_form r.0 e r.2, minus_val r.0 r.1 (lowest f) ∙ ap (λ (x : ℕ). x * down e) (sym r.3)))

pub rounds_some : (f : Format) (s : Bool) (num den : ℕ) → 2 ≤ f.p → 1 ≤ f.emax → 0 < den → (x : Float) × Rounds f s num den x
rounds_some f s num den P M D =
    let n : ℕ = res f P M (num * 2 ^ lowest f) den D in
    by_cases (dec_lt n (top f P M (num * 2 ^ lowest f) den D))
    (λ l. let x = datum_of f s n in (x.0, rounded f P M s num den D x.0 l x.1))
    (λ l. (inf s, infinite f P M s num den D (omega arith)))
