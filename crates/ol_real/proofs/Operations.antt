-- lib.Ieee's operations are IEEE 754's: each gives the result that `Ieee754` defines, and there is no other.
use Rattle.std.proofs.Common.{◌≡◌, ℕ, zero, suc, ◌+◌, ◌-◌, ◌*◌, ◌/◌, ◌^◌, ◌<◌, ◌≤◌, min, Bool, true, false, cond, not, ◌&&◌, ◌||◌, T, eqb, ltb, ◌⊎◌, ◌↔◌, ℤ, pos, negsuc, ◌+ℤ◌, neg_ℤ, sym, refl, ap, ◌∙◌, subst, inl, inr, ⊎_elim, true≢false, le_trans, le_of_eq, lt_of_lt_of_le, le_of_suc-le-suc, lt_of_le_of_lt, add-zero, lt_irrefl, zero-lt-suc, suc-mul, le_antisymm, lt_of_mul-lt-mul_right, suc-add, mul-pos, zero-add, zero-mul, div-mul-le_self, arith, eqb→eq, ltb→lt, nltb→le, pow_pos}
use mathlib.Core.Bool.{false≢true}
use native.Mathlib.Nat.{lt-div-mul-add, eq_of_mul-eq-mul_right}
use lib.IntN.{sub_ℕ, +ℤ_comm, +ℤ_idl, +ℤ_idr}
use lib.Dec.{eqb-suc-zero, leb-zero, leb-suc-zero, leb-suc-suc}
use lib.Signed.{lt_z}
use lib.Ieee.{Float, nan, inf, fin, emax, round, fits, up, down, neg, sum, add, sub, mul, div, of_int, to_signed, lt, le, eq, below, level, binary32, binary64}
use lib.Ieee as Ieee
use lib.Ieee.Fits.{up_pos, down_pos, two, fits_widens, and_i, and_l, and_r, eq→eqb}
use Rattle.ol_real.specs.Ieee754.{Format, double, lowest, gap, Rounds, RoundsTo, Counts, signed, unlike, Sum, negated, Negation, Difference, Product, Quotient, FromInt, Converted, saturated, WholePart, Truncated, Less, Equal, LessEq}
use Rattle.ol_real.specs.Holds.{Only, One, OneResult}
use Rattle.ol_real.proofs.Values.{of, datum_one, rounds_one, rounds_some, number_of_lem, round_rounds, fits_value, value_rounds, reaches}
use Rattle.ol_spec.proofs.Tests.{T-or}

-- ==== zero rounds to a zero of its sign
pub zero_rounds : (f : Format) (s : Bool) (den : ℕ) (x : Float) → 2 ≤ f.p → 1 ≤ f.emax → 0 < den → Rounds f s 0 den x → x ≡ fin s 0 (pos 0)
zero_rounds f s den (inf t) P M D h = absurd (lt_irrefl 0 (lt_of_lt_of_le (mul-pos (mul-pos (pow_pos f.emax) (omega (arith, pow_pos f.p))) D) (le_trans h.1 (le_of_eq (zero-mul (2 ^ f.p))))))
zero_rounds f s den (fin t m e) P M D h =
    let z : 0 * 2 ^ lowest f ≡ 0 = zero-mul (2 ^ lowest f) in
    let n : ℕ = h.1.n in
    let near : gap (0 * 2 ^ lowest f) (n * den) ≤ gap (0 * 2 ^ lowest f) (0 * den) =
    h.1.nearest.nearest 0 (number_of_lem f 0 0 P M (pow_pos f.p) (pow_pos (lowest f + suc f.emax))) in
    let q : n * den ≡ 0 * den = omega (arith, zero-mul den) in
    let n-is : n ≡ 0 = eq_of_mul-eq-mul_right den D n 0 q in
    datum_one f s 0 (fin t m e) (fin s 0 (pos 0)) (h.0, h.1.written, subst (λ (x : ℕ). Counts f m e x) n-is h.1.counts) (refl, refl, zero-mul (2 ^ lowest f))
zero_rounds f s den nan P M D h = elim h [ ]

-- ==== exactly one result

-- the result that a clause writes down
given : {A : Type 0} (v : A) → One (λ (r : A). r ≡ v)
given v = (v, record { holds = refl; only = λ r e. e })

-- the one result of a definition, at a result that it admits
pub only_at : {A : Type 0} (R : A → Type 0) → One R → (v : A) → R v → Only R v
only_at R h v k = record { holds = k; only = λ r q. h.1.only r q ∙ sym (h.1.only v k) }

module _ (f : Format) (P : 2 ≤ f.p) (M : 1 ≤ f.emax) where
  rounds : (s : Bool) (num den : ℕ) → 0 < den → One (Rounds f s num den)
  rounds s num den D =
      let h = rounds_some f s num den P M D in
      (h.0, record { holds = h.1; only = λ r q. rounds_one f s num den r h.0 (omega arith) D q h.1 })

  rounds_to : (t : Bool) (z : ℤ) (den : ℕ) → 0 < den → One (RoundsTo f t z den)
  rounds_to t (pos zero) den D = given _
  rounds_to t (pos (suc n)) den D = rounds false (suc n) den D
  rounds_to t (negsuc n) den D = rounds true (suc n) den D

  pub sum_one : (x y : Float) → One (Sum f x y)
  unfolding Sum
  sum_one nan y = given _
  sum_one (inf s) nan = given _
  sum_one (inf s) (inf t) = given _
  sum_one (inf s) (fin t n d) = given _
  sum_one (fin s m e) nan = given _
  sum_one (fin s m e) (inf t) = given _
  sum_one (fin s m e) (fin t n d) = rounds_to (s && t) (signed s (m * up e * down d) +ℤ signed t (n * up d * down e)) _ (mul-pos (down_pos e) (down_pos d))

  pub difference_one : (x y : Float) → One (Difference f x y)
  unfolding Difference
  difference_one x y = sum_one x (negated y)

  pub product_one : (x y : Float) → One (Product f x y)
  unfolding Product
  product_one nan y = given _
  product_one (inf s) nan = given _
  product_one (inf s) (inf t) = given _
  product_one (inf s) (fin t zero d) = given _
  product_one (inf s) (fin t (suc n) d) = given _
  product_one (fin s m e) nan = given _
  product_one (fin s zero e) (inf t) = given _
  product_one (fin s (suc m) e) (inf t) = given _
  product_one (fin s m e) (fin t n d) = rounds _ _ _ (mul-pos (down_pos e) (down_pos d))

  pub quotient_one : (x y : Float) → One (Quotient f x y)
  unfolding Quotient
  quotient_one nan y = given _
  quotient_one (inf s) nan = given _
  quotient_one (inf s) (inf t) = given _
  quotient_one (inf s) (fin t n d) = given _
  quotient_one (fin s m e) nan = given _
  quotient_one (fin s m e) (inf t) = given _
  quotient_one (fin s zero e) (fin t zero d) = given _
  quotient_one (fin s (suc m) e) (fin t zero d) = given _
  quotient_one (fin s m e) (fin t (suc n) d) = rounds _ _ _ (mul-pos (mul-pos (zero-lt-suc n) (up_pos d)) (down_pos e))

  pub from_int_one : (z : ℤ) → One (FromInt f z)
  unfolding FromInt
  from_int_one z = rounds_to false z 1 (zero-lt-suc 0)

  pub converted_one : (x : Float) → One (Converted f x)
  unfolding Converted
  converted_one nan = given _
  converted_one (inf s) = given _
  converted_one (fin s m e) = rounds _ _ _ (down_pos e)

  pub one_result : OneResult f
  one_result = record { sum = sum_one; difference = difference_one; product = product_one; quotient = quotient_one; from_int = from_int_one; converted = converted_one }

pub negation_one : (x : Float) → One (Negation x)
unfolding Negation
negation_one x = given _

cut : (a b : ℕ) → 0 < b → WholePart a b (a / b)
cut a b B = record { least = div-mul-le_self a b; most = lt_of_lt_of_le (lt-div-mul-add B) (le_of_eq (sym (suc-mul (a / b) b))) }

whole_one : (a b t u : ℕ) → 0 < b → WholePart a b t → WholePart a b u → t ≡ u
whole_one a b t u B h k = le_antisymm
    (le_of_suc-le-suc (lt_of_mul-lt-mul_right b (lt_of_le_of_lt h.least k.most)))
    (le_of_suc-le-suc (lt_of_mul-lt-mul_right b (lt_of_le_of_lt k.least h.most)))

pub truncated_one : (x : Float) → One (Truncated x)
unfolding Truncated
truncated_one nan = given _
truncated_one (inf false) = given _
truncated_one (inf true) = given (neg_ℤ (pos (2 ^ 63)))
truncated_one (fin s m e) =
    let w : ℕ = m * up e / down e in
    let c : WholePart (m * up e) (down e) w = cut (m * up e) (down e) (down_pos e) in (
      saturated (signed s w),
      record {
        holds = (w, c, refl);
        only = λ r h. h.2 ∙ ap (λ (t : ℕ). saturated (signed s t)) (whole_one (m * up e) (down e) h.0 w (down_pos e) h.1 c);
      },
    )

-- ==== lib.Ieee's operations give the results
minus_plus : (a b : ℕ) → neg_ℤ (pos a) +ℤ neg_ℤ (pos b) ≡ neg_ℤ (pos (a + b))
minus_plus zero b = +ℤ_idl (neg_ℤ (pos b)) ∙ ap (λ (x : ℕ). neg_ℤ (pos x)) (sym (zero-add b))
minus_plus (suc a) zero = +ℤ_idr (negsuc a) ∙ ap (λ (x : ℕ). neg_ℤ (pos x)) (sym (add-zero (suc a)))
minus_plus (suc a) (suc b) = ap (λ (x : ℕ). neg_ℤ (pos x)) e
  where
    e : suc (suc (a + b)) ≡ suc a + suc b
    e = omega arith

minus_is : (a b : ℕ) → pos a +ℤ neg_ℤ (pos b) ≡ sub_ℕ a b
minus_is a zero = go (ltb a 0) (ltb→lt a 0)
  where
    go : (l : Bool) → (T l → a < 0) → pos (a + 0) ≡ cond l (negsuc (0 - suc a)) (pos (a - 0))
    go true l = absurd (omega (arith, l tt))
    go false l = ap pos (omega arith)
minus_is a (suc b) = refl

module _ (f : Ieee.Format) (den : ℕ) (D : 0 < den) where
  -- a magnitude that is rounded with its sign
  same_sign : (s : Bool) (n : ℕ) → RoundsTo (of f) s (signed s n) den (round f s n den)
  same_sign false zero = zero_rounds (of f) false den (round f false 0 den) (two f) (reaches f) D (round_rounds f false 0 den D)
  same_sign true zero = zero_rounds (of f) true den (round f true 0 den) (two f) (reaches f) D (round_rounds f true 0 den D)
  same_sign false (suc n) = round_rounds f false (suc n) den D
  same_sign true (suc n) = round_rounds f true (suc n) den D

  negative : (t : Bool) (n m : ℕ) → m ≡ suc n → RoundsTo (of f) t (negsuc n) den (round f true m den)
  negative t n m e = rw e (round_rounds f true (suc n) den D)

  sum_signs : (s t : Bool) (a b : ℕ) → RoundsTo (of f) (s && t) (signed s a +ℤ signed t b) den (sum f s a t b den)
  unfolding sum
  sum_signs false false a b = same_sign false (a + b)
  sum_signs true true a b = rw (minus_plus a b) (same_sign true (a + b))
  sum_signs false true a b = rw (minus_is a b) (go (ltb a b) (ltb→lt a b) (nltb→le a b))
    where
      go : (l : Bool) → (T l → a < b) → (T (not l) → b ≤ a) → RoundsTo (of f) false (cond l (negsuc (b - suc a)) (pos (a - b))) den (cond l (round f true (b - a) den) (round f false (a - b) den))
      go true l g = negative false (b - suc a) (b - a) (omega (arith, l tt))
      go false l g = same_sign false (a - b)
  sum_signs true false a b = rw (+ℤ_comm (neg_ℤ (pos a)) (pos b), minus_is b a) (go (ltb a b) (ltb b a) (ltb→lt a b) (nltb→le a b) (ltb→lt b a) (nltb→le b a))
    where
      go : (l k : Bool) → (T l → a < b) → (T (not l) → b ≤ a) → (T k → b < a) → (T (not k) → a ≤ b)
          → RoundsTo (of f) false (cond k (negsuc (a - suc b)) (pos (b - a))) den (cond l (round f false (b - a) den) (round f k (a - b) den))
      go true true l l' k k' = absurd (omega (arith, l tt, k tt))
      go true false l l' k k' = same_sign false (b - a)
      go false true l l' k k' = negative false (a - suc b) (a - b) (omega (arith, k tt))
      go false false l l' k k' = let e : a - b ≡ b - a = omega (arith, l' tt, k' tt) in rw e (same_sign false (b - a))

pub neg_negation : (x : Float) → Negation x (neg x)
unfolding Negation neg
neg_negation nan = refl
neg_negation (inf s) = refl
neg_negation (fin s m e) = refl

module _ (f : Ieee.Format) where
  pub add_sum : (x y : Float) → Sum (of f) x y (add f x y)
  unfolding Sum add
  add_sum nan y = refl
  add_sum (inf s) nan = refl
  add_sum (inf false) (inf false) = refl
  add_sum (inf false) (inf true) = refl
  add_sum (inf true) (inf false) = refl
  add_sum (inf true) (inf true) = refl
  add_sum (inf s) (fin t n d) = refl
  add_sum (fin s m e) nan = refl
  add_sum (fin s m e) (inf t) = refl
  add_sum (fin s m e) (fin t n d) = sum_signs f (down e * down d) (mul-pos (down_pos e) (down_pos d)) s t (m * up e * down d) (n * up d * down e)

  pub sub_difference : (x y : Float) → Difference (of f) x y (sub f x y)
  unfolding Difference sub Negation
  sub_difference x y = subst (λ (z : Float). Sum (of f) x z (add f x (neg y))) (neg_negation y) (add_sum x (neg y))

  pub mul_product : (x y : Float) → Product (of f) x y (mul f x y)
  unfolding Product mul
  mul_product nan y = refl
  mul_product (inf s) nan = refl
  mul_product (inf s) (inf t) = refl
  mul_product (inf s) (fin t zero d) = refl
  mul_product (inf s) (fin t (suc n) d) = rw eqb-suc-zero
  mul_product (fin s m e) nan = refl
  mul_product (fin s zero e) (inf t) = refl
  mul_product (fin s (suc m) e) (inf t) = rw eqb-suc-zero
  mul_product (fin s m e) (fin t n d) = round_rounds f (unlike s t) (m * up e * (n * up d)) (down e * down d) (mul-pos (down_pos e) (down_pos d))

  pub div_quotient : (x y : Float) → Quotient (of f) x y (div f x y)
  unfolding Quotient div
  div_quotient nan y = refl
  div_quotient (inf s) nan = refl
  div_quotient (inf s) (inf t) = refl
  div_quotient (inf s) (fin t n d) = refl
  div_quotient (fin s m e) nan = refl
  div_quotient (fin s m e) (inf t) = refl
  div_quotient (fin s zero e) (fin t zero d) = refl
  div_quotient (fin s (suc m) e) (fin t zero d) = rw eqb-suc-zero
  div_quotient (fin s m e) (fin t (suc n) d) =
      rw eqb-suc-zero (round_rounds f (unlike s t) (m * up e * down d) (suc n * up d * down e) (mul-pos (mul-pos (zero-lt-suc n) (up_pos d)) (down_pos e)))

  pub of_int_from_int : (z : ℤ) → FromInt (of f) z (of_int f z)
  unfolding FromInt of_int
  of_int_from_int (pos n) = same_sign f 1 (zero-lt-suc 0) false n
  of_int_from_int (negsuc n) = round_rounds f true (suc n) 1 (zero-lt-suc 0)

-- a datum of single is one of double: nothing is rounded
pub widened_same : (x : Float) → T (fits binary32 x) → Converted double x x
unfolding Converted
widened_same nan h = refl
widened_same (inf s) h = refl
widened_same (fin s m e) h = value_rounds double s m e (two binary64) (reaches binary64) (fits_value binary64 (fin s m e) (fits_widens (fin s m e) h))

-- ==== toward zero
cut_negative : (t : ℕ) → neg_ℤ (pos (min t (2 ^ 63))) ≡ saturated (neg_ℤ (pos t))
cut_negative zero = refl
cut_negative (suc n) = let e : min (suc n) (2 ^ 63) ≡ suc (min n (2 ^ 63 - 1)) = omega arith in ap (λ (x : ℕ). neg_ℤ (pos x)) e

pub to_signed_truncated : (x : Float) → Truncated x (to_signed 63 x)
unfolding Truncated to_signed
to_signed_truncated nan = refl
to_signed_truncated (inf false) = refl
to_signed_truncated (inf true) = refl
to_signed_truncated (fin false m e) = (m * up e / down e, cut (m * up e) (down e) (down_pos e), refl)
to_signed_truncated (fin true m e) = (m * up e / down e, cut (m * up e) (down e) (down_pos e), cut_negative (m * up e / down e))

-- ==== comparison
below_is : (s t : Bool) (a b : ℕ) → below s a t b ≡ lt_z (signed s a) (signed t b)
below_is false false a b = refl
below_is false true a zero = sym (leb-suc-zero a)
below_is false true a (suc b) = refl
below_is true false zero b = ap (λ (x : ℕ). ltb 0 x) (zero-add b)
below_is true false (suc a) b = ap (λ (x : ℕ). ltb 0 x) (suc-add a b) ∙ leb-suc-suc 0 (a + b) ∙ leb-zero (a + b)
below_is true true zero zero = refl
below_is true true zero (suc b) = leb-suc-zero (suc b)
below_is true true (suc a) zero = leb-suc-suc 0 a ∙ leb-zero a
below_is true true (suc a) (suc b) = leb-suc-suc (suc b) a

pub lt_less : (x y : Float) → T (lt x y) ↔ Less x y
unfolding lt Less
lt_less nan y = (λ h. h, λ h. h)
lt_less (inf s) nan = (λ h. h, λ h. h)
lt_less (inf false) (inf t) = (λ h. absurd h, λ h. absurd (false≢true h.0))
lt_less (inf true) (inf false) = (λ h. (refl, refl), λ h. tt)
lt_less (inf true) (inf true) = (λ h. absurd h, λ h. absurd (true≢false h.1))
lt_less (inf false) (fin t n d) = (λ h. absurd h, λ h. absurd (false≢true h))
lt_less (inf true) (fin t n d) = (λ h. refl, λ h. tt)
lt_less (fin s m e) nan = (λ h. h, λ h. h)
lt_less (fin s m e) (inf false) = (λ h. refl, λ h. tt)
lt_less (fin s m e) (inf true) = (λ h. absurd h, λ h. absurd (true≢false h))
lt_less (fin s m e) (fin t n d) =
    let e : below s (m * up e * down d) t (n * up d * down e) ≡ lt_z (signed s (m * up e * down d)) (signed t (n * up d * down e)) = below_is s t (m * up e * down d) (n * up d * down e) in
    (λ h. subst T e h, λ h. subst T (sym e) h)

both_zero : (a b : ℕ) → pos a ≡ neg_ℤ (pos b) → (a ≡ 0) × (b ≡ 0)
both_zero a zero h = (cc, refl)
both_zero a (suc b) h = let z : ◌≡◌ {A = ℕ} 0 1 = cc in absurd (omega arith)

same_minus : (a b : ℕ) → neg_ℤ (pos a) ≡ neg_ℤ (pos b) → a ≡ b
same_minus zero zero h = refl
same_minus zero (suc b) h = let z : ◌≡◌ {A = ℕ} 0 1 = cc in absurd (omega arith)
same_minus (suc a) zero h = let z : ◌≡◌ {A = ℕ} 0 1 = cc in absurd (omega arith)
same_minus (suc a) (suc b) h = cc

test_eq : (a b : ℕ) (l : Bool) → a ≡ b → T l → T (eqb a b && l)
test_eq a b l e t = and_i (eqb a b) l (eq→eqb e) t

level_equal : (s t : Bool) (a b : ℕ) → T (level s a t b) → signed s a ≡ signed t b
level_equal false false a b h = ap pos (eqb→eq a b (and_l (eqb a b) true h))
level_equal true true a b h = ap (λ (x : ℕ). neg_ℤ (pos x)) (eqb→eq a b (and_l (eqb a b) true h))
level_equal false true a b h = minus_zero a b (eqb→eq a b (and_l (eqb a b) (eqb a 0) h)) (eqb→eq a 0 (and_r (eqb a b) (eqb a 0) h))
  where
    minus_zero : (a b : ℕ) → a ≡ b → a ≡ 0 → pos a ≡ neg_ℤ (pos b)
    minus_zero a b e z = ap pos z ∙ ap (λ (x : ℕ). neg_ℤ (pos x)) (sym z ∙ e)
level_equal true false a b h = minus_zero a b (eqb→eq a b (and_l (eqb a b) (eqb a 0) h)) (eqb→eq a 0 (and_r (eqb a b) (eqb a 0) h))
  where
    minus_zero : (a b : ℕ) → a ≡ b → a ≡ 0 → neg_ℤ (pos a) ≡ pos b
    minus_zero a b e z = ap (λ (x : ℕ). neg_ℤ (pos x)) z ∙ ap pos (sym z ∙ e)

equal_level : (s t : Bool) (a b : ℕ) → signed s a ≡ signed t b → T (level s a t b)
equal_level false false a b h = test_eq a b true (cc) tt
equal_level true true a b h = test_eq a b true (same_minus a b h) tt
equal_level false true a b h = let z = both_zero a b h in test_eq a b (eqb a 0) (z.0 ∙ sym z.1) (eq→eqb z.0)
equal_level true false a b h = let z = both_zero b a (sym h) in test_eq a b (eqb a 0) (z.1 ∙ sym z.0) (eq→eqb z.1)

pub eq_equal : (x y : Float) → T (eq x y) ↔ Equal x y
unfolding eq Equal
eq_equal nan y = (λ h. h, λ h. h)
eq_equal (inf s) nan = (λ h. h, λ h. h)
eq_equal (inf false) (inf false) = (λ h. refl, λ h. tt)
eq_equal (inf false) (inf true) = (λ h. absurd h, λ h. absurd (false≢true h))
eq_equal (inf true) (inf false) = (λ h. absurd h, λ h. absurd (true≢false h))
eq_equal (inf true) (inf true) = (λ h. refl, λ h. tt)
eq_equal (inf s) (fin t n d) = (λ h. h, λ h. h)
eq_equal (fin s m e) nan = (λ h. h, λ h. h)
eq_equal (fin s m e) (inf t) = (λ h. h, λ h. h)
eq_equal (fin s m e) (fin t n d) = (level_equal s t (m * up e * down d) (n * up d * down e), equal_level s t (m * up e * down d) (n * up d * down e))

either_or : (a b : Bool) → T a ⊎ T b → T (a || b)
either_or true b h = tt
either_or false b (inl h) = absurd h
either_or false b (inr h) = h

pub le_less_eq : (x y : Float) → T (le x y) ↔ LessEq x y
unfolding le LessEq
le_less_eq x y = (
  λ h. ⊎_elim (λ l. inl ((lt_less x y).0 l)) (λ q. inr ((eq_equal x y).0 q)) (T-or (lt x y) (eq x y) h),
  λ h. either_or (lt x y) (eq x y) (⊎_elim (λ l. inl ((lt_less x y).1 l)) (λ q. inr ((eq_equal x y).1 q)) h),
)
