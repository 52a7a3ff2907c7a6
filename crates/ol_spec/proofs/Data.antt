-- A number has one datum: m * 2 ^ e with an odd m. So a single is its own rounding.
use mathlib.Core.Path.{◌≡◌, refl, sym, ap, ◌∙◌}
use mathlib.Core.Logic.{by_cases}
use mathlib.Core.Bool.{Bool}
use Prim.Native.Nat.{ℕ, zero, suc, ◌+◌, ◌-◌, ◌*◌, ◌/◌, ◌%◌, ◌^◌, ◌≤◌, ◌<◌}
use native.Mathlib.Nat.{le_of_eq, le_of_lt, lt_of_lt_of_le, lt_of_le_of_lt, lt_irrefl, zero-lt-suc, zero-mul, mul-one, one-mul, mul_assoc, mul_comm, mul_right_comm, mul-pos, mul-lt-mul_of_pos_right, lt_of_mul-lt-mul_right, eq_of_mul-eq-mul_right, mul-mod_right, pow-succ', sub-add_cancel}
use native.Mathlib.Omega.{arith}
use native.Mathlib.Decide.{ℕ_discrete, dec_le, dec_lt}
use lib.IntN.{ℤ, pos, negsuc}
use lib.Dec.{T, eqb→eq, ltb→lt, leb→le}
use lib.Pow.{pow-add, pow_pos, pow-lt}
use lib.Ieee.{Float, nan, inf, fin, Format, binary32, prec, emax, low, round, fits, up, down}
use lib.Ieee.Fits.{up_pos, down_pos, and_l, and_r, round-fits}
use lib.Ieee.Exact.{HasValue, round_exact}
use Rattle.ol_spec.specs.Real.{round_single}

-- ---- powers of two

pub regrid : (c j k : ℕ) → k ≤ j → c * 2 ^ j ≡ c * 2 ^ (j - k) * 2 ^ k
regrid c j k h = ap (λ (x : ℕ). c * 2 ^ x) (sym (sub-add_cancel h)) ∙ ap (λ (x : ℕ). c * x) (pow-add 2 (j - k) k) ∙ sym (mul_assoc c (2 ^ (j - k)) (2 ^ k))

pub mul_even : (c x : ℕ) → c % 2 ≡ 0 → c * x % 2 ≡ 0
mul_even c x e =
    let h : c ≡ 2 * (c / 2) = omega arith in
    ap (λ (y : ℕ). y * x % 2) h ∙ ap (λ (y : ℕ). y % 2) (mul_assoc 2 (c / 2) x) ∙ mul-mod_right 2 (c / 2 * x)

pub pow_even : (p : ℕ) → 1 ≤ p → 2 ^ p % 2 ≡ 0
pow_even (suc p) h = ap (λ (x : ℕ). x % 2) (pow-succ' 2 p) ∙ mul-mod_right 2 (2 ^ p)
pow_even zero h = absurd (omega arith)

-- ---- one form

-- m is odd, or it is zero, and so is e
abbrev pub InForm : ℕ → ℤ → Type 0
InForm zero e = e ≡ pos 0
InForm (suc m) e = suc m % 2 ≡ 1

odd_more : (m n a b : ℕ) → m % 2 ≡ 1 → a < b → m * 2 ^ a ≡ n * 2 ^ b → ⊥
odd_more m n a b o l h =
    let e : m ≡ n * 2 ^ (b - a) = eq_of_mul-eq-mul_right (2 ^ a) (pow_pos a) m (n * 2 ^ (b - a)) (h ∙ regrid n b a (le_of_lt l)) in
    omega (arith, ap (λ (x : ℕ). x % 2) (e ∙ mul_comm n (2 ^ (b - a))) ∙ mul_even (2 ^ (b - a)) n (pow_even (b - a) (omega arith)))

odd_one : (m n a b : ℕ) → m % 2 ≡ 1 → n % 2 ≡ 1 → m * 2 ^ a ≡ n * 2 ^ b → (m ≡ n) × (a ≡ b)
odd_one m n a b o q h =
    by_cases (ℕ_discrete a b)
    (λ e. (eq_of_mul-eq-mul_right (2 ^ b) (pow_pos b) m n (ap (λ (x : ℕ). m * 2 ^ x) (sym e) ∙ h), e))
    (λ d. absurd (by_cases (dec_lt a b) (λ l. odd_more m n a b o l h) (λ l. odd_more n m b a q (omega arith) (sym h))))

-- an odd number times a power of two, by cases on the two exponents
odd_exps : (m n : ℕ) (d e : ℤ) → m % 2 ≡ 1 → n % 2 ≡ 1 → m * up d * down e ≡ n * up e * down d → (m ≡ n) × (d ≡ e)
odd_exps m n (pos a) (pos b) o q h = let r = odd_one m n a b o q (sym (mul-one (m * 2 ^ a)) ∙ h ∙ mul-one (n * 2 ^ b)) in (r.0, ap pos r.1)
odd_exps m n (pos a) (negsuc b) o q h =
    absurd (odd_more n m 0 (a + suc b) q (omega arith) (sym (h ∙ mul-one (n * 1)) ∙ mul_assoc m (2 ^ a) (2 ^ suc b) ∙ ap (λ (x : ℕ). m * x) (sym (pow-add 2 a (suc b)))))
odd_exps m n (negsuc a) (pos b) o q h =
    absurd (odd_more m n 0 (b + suc a) o (omega arith) (sym (mul-one (m * 1)) ∙ h ∙ mul_assoc n (2 ^ b) (2 ^ suc a) ∙ ap (λ (x : ℕ). n * x) (sym (pow-add 2 b (suc a)))))
odd_exps m n (negsuc a) (negsuc b) o q h =
    let r = odd_one n m (suc a) (suc b) q o (sym (ap (λ (x : ℕ). x * 2 ^ suc a) (mul-one n)) ∙ sym h ∙ ap (λ (x : ℕ). x * 2 ^ suc b) (mul-one m)) in
    (sym r.0, ap negsuc (omega (arith, r.1)))

no_zero : (m n : ℕ) (d e : ℤ) → suc m * up d * down e ≡ 0 * up e * n → ⊥
no_zero m n d e h =
    lt_irrefl 0 (lt_of_lt_of_le (mul-pos (mul-pos (zero-lt-suc m) (up_pos d)) (down_pos e)) (le_of_eq (h ∙ ap (λ (x : ℕ). x * n) (zero-mul (up e)) ∙ zero-mul n)))

pub form_one : (m n : ℕ) (d e : ℤ) → InForm m d → InForm n e → m * up d * down e ≡ n * up e * down d → (m ≡ n) × (d ≡ e)
form_one zero zero d e o q h = (refl, o ∙ sym q)
form_one zero (suc n) d e o q h = absurd (no_zero n (down e) e d (sym h))
form_one (suc m) zero d e o q h = absurd (no_zero m (down d) d e h)
form_one (suc m) (suc n) d e o q h = odd_exps (suc m) (suc n) d e o q h

flat : (e : ℤ) → up e * down e ≡ 1 → e ≡ pos 0
flat (pos zero) h = refl
flat (pos (suc k)) h = absurd (omega (arith, pow-succ' 2 k, mul-one (2 ^ suc k)))
flat (negsuc k) h = absurd (omega (arith, pow-succ' 2 k, one-mul (2 ^ suc k)))

-- what fits a format has it
pub fits_form : (f : Format) (s : Bool) (m : ℕ) (e : ℤ) → T (fits f (fin s m e)) → InForm m e
unfolding fits
fits_form f s zero e t = flat e (eqb→eq (up e * down e) 1 t)
fits_form f s (suc m) e t = eqb→eq (suc m % 2) 1 (search (and_l))

-- m * 2 ^ e in units of 2 ^ -l is m times a power of two
pub shift : (m : ℕ) (e : ℤ) (l : ℕ) → down e ≤ 2 ^ l → (i : ℕ) × (m * up e * 2 ^ l ≡ m * 2 ^ i * down e)
shift m (pos j) l h = (j + l, mul_assoc m (2 ^ j) (2 ^ l) ∙ ap (λ (x : ℕ). m * x) (sym (pow-add 2 j l)) ∙ sym (mul-one (m * 2 ^ (j + l))))
shift m (negsuc j) l h =
    let g : suc j ≤ l = by_cases (dec_le (suc j) l) (λ y. y) (λ n. absurd (lt_irrefl (2 ^ l) (lt_of_lt_of_le (pow-lt (omega arith)) h))) in
    (l - suc j, ap (λ (x : ℕ). x * 2 ^ l) (mul-one m) ∙ regrid m l (suc j) g)

pub in_range_lem : (l k x n d : ℕ) → x * 2 ^ l ≡ n * d → x < 2 ^ k * d → n < 2 ^ (l + k)
in_range_lem l k x n d e h =
    lt_of_mul-lt-mul_right d (lt_of_le_of_lt (le_of_eq (sym e)) (lt_of_lt_of_le (mul-lt-mul_of_pos_right h (pow_pos l))
    (le_of_eq (mul_right_comm (2 ^ k) d (2 ^ l) ∙ ap (λ (x : ℕ). x * d) (mul_comm (2 ^ k) (2 ^ l) ∙ sym (pow-add 2 l k))))))

-- ---- a datum that fits is its own rounding

same_value : (f : Format) (s : Bool) (m : ℕ) (e : ℤ) (y : Float) → T (fits f (fin s m e)) → T (fits f y) → HasValue y s (m * up e) (down e) → y ≡ fin s m e
same_value f s m e nan t u v = absurd v
same_value f s m e (inf r) t u v = absurd v
same_value f s m e (fin r n d) t u v =
    let w = form_one n m d e (fits_form f r n d u) (fits_form f s m e t) v.1 in
    λ i. fin (v.0 i) (w.0 i) (w.1 i)

round_own : (f : Format) (s : Bool) (m : ℕ) (e : ℤ) → T (fits f (fin s m e)) → HasValue (round f s (m * up e) (down e)) s (m * up e) (down e)
unfolding fits
round_own f s zero e t =
    round_exact f s (0 * up e) (down e) 0 0 (down_pos e) (pow_pos (prec f)) (pow_pos (low f + suc (emax f)))
    (ap (λ (x : ℕ). x * 2 ^ low f) (zero-mul (up e)) ∙ zero-mul (2 ^ low f) ∙ sym (zero-mul (down e)))
round_own f s (suc m) e t =
    let a : suc m < 2 ^ prec f = ltb→lt (suc m) (2 ^ prec f) (search (and_l, and_r)) in
    let b : down e ≤ 2 ^ low f = leb→le (down e) (2 ^ low f) (search (and_l, and_r)) in
    let c : suc m * up e < 2 ^ suc (emax f) * down e = ltb→lt (suc m * up e) (2 ^ suc (emax f) * down e) (search (and_l, and_r)) in
    let i = shift (suc m) e (low f) b in
    round_exact f s (suc m * up e) (down e) (suc m) i.0 (down_pos e) a (in_range_lem (low f) (suc (emax f)) (suc m * up e) (suc m * 2 ^ i.0) (down e) i.1 c) i.1

-- `as f64` and back `as f32`
pub single_back : (x : Float) → T (fits binary32 x) → round_single x ≡ x
unfolding round_single
single_back nan t = refl
single_back (inf s) t = refl
single_back (fin s m e) t = same_value binary32 s m e (round binary32 s (m * up e) (down e)) t (round-fits binary32 s (m * up e) (down e)) (round_own binary32 s m e t)
