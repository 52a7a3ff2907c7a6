-- Laws of the comparison: it by the words of the library, and that exactly equal lists agree in every row.
use Rattle.std.proofs.Common.{◌≡◌, ℕ, suc, ◌+◌, ◌≤◌, min, Bool, true, false, cond, not, ◌&&◌, List, [], ◌∷◌, length, eqb, nat_lt, Some, None, zip, count_by, position, refl, sym, ap, ◌∙◌, arith, eqb-true, eq-eqb, ne_eqb}
use Rattle.std.proofs.lemmas.List.Sums.{sum_by-cons}
use mathlib.Core.Logic.{by_cases}
use native.Mathlib.Decide.{dec_lt}
use lib.Dec.{eqb-suc-suc, eqb-suc-zero, eqb-zero-suc}
use lib.Pointwise.{pointwise}
use Rattle.std.specs.Bool.{then_some}
use Rattle.std.specs.Option.{option_or}
use Rattle.rows.specs.Rows.{one, agreeing, further, first_other, first_alone, all_agree}

-- ---- the comparison by the words of the library

-- how many pairs are of equal numbers
pub agreeing_is : (xs ws : List ℕ) → agreeing xs ws ≡ count_by (λ p. eqb p.0 p.1) (zip xs ws)
unfolding agreeing
agreeing_is [] ws = refl
agreeing_is (x ∷ xs) [] = refl
agreeing_is (x ∷ xs) (w ∷ ws) = rw (sum_by-cons (λ p. cond (eqb p.0 p.1) 1 0) (x, w) (zip xs ws)) (counts_one (eqb x w) _ _ (agreeing_is xs ws))
  where
    counts_one : (b : Bool) (n m : ℕ) → n ≡ m → one b + n ≡ cond b 1 0 + m
    counts_one true n m h = omega arith
    counts_one false n m h = omega arith

-- the first row that stands alone: the other list is empty, or both have one row more
alone_first : (n : ℕ) → Some 0 ≡ then_some (not (eqb 0 (suc n))) (min 0 (suc n))
alone_first n = rw (eqb-zero-suc n) (ap Some (omega arith))

alone_second : (n : ℕ) → Some 0 ≡ then_some (not (eqb (suc n) 0)) (min (suc n) 0)
alone_second n = rw (eqb-suc-zero n) (ap Some (omega arith))

alone_more : (k l : ℕ) → then_some (not (eqb (suc k) (suc l))) (min (suc k) (suc l)) ≡ then_some (not (eqb k l)) (suc (min k l))
alone_more k l = rw (eqb-suc-suc k l) (ap (λ n. then_some (not (eqb k l)) n) (omega arith))

-- the place of the first pair that is not, and where there is none, of the first row that stands alone
pub first_is : (xs ws : List ℕ) → first_other xs ws ≡ option_or (position (λ p. not (eqb p.0 p.1)) (zip xs ws)) (first_alone xs ws)
unfolding first_other
first_is [] [] = refl
first_is [] (w ∷ ws) = alone_first (length ws)
first_is (x ∷ xs) [] = alone_second (length xs)
first_is (x ∷ xs) (w ∷ ws) = rw (first_is xs ws, alone_more (length xs) (length ws)) (passes_one (eqb x w) (eqb (length xs) (length ws)) _ _ _)
  where
    passes_one : (b c : Bool) (n m p : ℕ) → cond b (further (option_or (cond (nat_lt n m) (Some n) None) (then_some (not c) p))) (Some 0) ≡ option_or (cond (nat_lt (cond (not (not b)) (1 + n) 0) (suc m)) (Some (cond (not (not b)) (1 + n) 0)) None) (then_some (not c) (suc p))
    passes_one true true n m p = grind arith
    passes_one true false n m p = grind arith
    passes_one false true n m p = grind arith
    passes_one false false n m p = grind arith

-- whether the lists are equal
pub all_agree_is : (xs ws : List ℕ) → all_agree xs ws ≡ pointwise eqb xs ws
unfolding all_agree
all_agree_is [] [] = refl
all_agree_is [] (w ∷ ws) = refl
all_agree_is (x ∷ xs) [] = refl
all_agree_is (x ∷ xs) (w ∷ ws) = ap (λ b. eqb x w && b) (all_agree_is xs ws)

-- ---- all rows

-- no more rows agree than there are
one_most : (b : Bool) (n m : ℕ) → n ≤ m → one b + n ≤ suc m
one_most true n m h = omega arith
one_most false n m h = omega arith

pub agreeing_most : (xs ws : List ℕ) → agreeing xs ws ≤ length ws
unfolding agreeing
agreeing_most [] ws = omega arith
agreeing_most (x ∷ xs) [] = omega arith
agreeing_most (x ∷ xs) (w ∷ ws) = one_most (eqb x w) _ _ (agreeing_most xs ws)

-- all rows agree: the lists are equal
one_whole : (b : Bool) (n m : ℕ) → n ≤ m → one b + n ≡ suc m → (b ≡ true) × (n ≡ m)
one_whole true n m h e = (refl, omega arith)
one_whole false n m h e = absurd (omega arith)

pub all_agree_lem : (xs ws : List ℕ) → length xs ≡ length ws → agreeing xs ws ≡ length ws → xs ≡ ws
unfolding agreeing
all_agree_lem [] [] l e = refl
all_agree_lem [] (w ∷ ws) l e = absurd (omega arith)
all_agree_lem (x ∷ xs) [] l e = absurd (omega arith)
all_agree_lem (x ∷ xs) (w ∷ ws) l e =
    let both = one_whole (eqb x w) (agreeing xs ws) (length ws) (agreeing_most xs ws) e in
    let head = eqb-true x w both.0 in
    let tail = all_agree_lem xs ws (omega arith) both.1 in
    cc

-- and equal lists agree in every row
pub same_agrees : (xs : List ℕ) → agreeing xs xs ≡ length xs
unfolding agreeing
same_agrees [] = refl
same_agrees (x ∷ xs) = rw (eq-eqb x x refl) (omega (arith, same_agrees xs))

-- ---- whether all rows agree

-- all rows agree: the lists are as long as each other, and as many rows agree
pub agree_length : (xs ws : List ℕ) → (length xs ≡ length ws → ⊥) → all_agree xs ws ≡ false
unfolding all_agree
agree_length [] [] h = absurd (h refl)
agree_length [] (w ∷ ws) h = refl
agree_length (x ∷ xs) [] h = refl
agree_length (x ∷ xs) (w ∷ ws) h = rw (agree_length xs ws (λ e. h (ap suc e))) (and_false (eqb x w))
  where
    and_false : (b : Bool) → b && false ≡ false
    and_false true = refl
    and_false false = refl

count_agrees : (b : Bool) (n m : ℕ) → n ≤ m → b && eqb n m ≡ eqb (one b + n) (suc m)
count_agrees true n m h =
    by_cases (dec_lt n m) (λ e. ne_eqb n m (λ q. omega arith) ∙ sym (ne_eqb (1 + n) (suc m) (λ q. omega arith)))
    (λ e. eq-eqb n m (omega arith) ∙ sym (eq-eqb (1 + n) (suc m) (omega arith)))
count_agrees false n m h = sym (ne_eqb (0 + n) (suc m) (λ q. omega arith))

pub agree_count : (xs ws : List ℕ) → length xs ≡ length ws → all_agree xs ws ≡ eqb (agreeing xs ws) (length ws)
unfolding agreeing all_agree
agree_count [] [] h = refl
agree_count [] (w ∷ ws) h = absurd (omega arith)
agree_count (x ∷ xs) [] h = absurd (omega arith)
agree_count (x ∷ xs) (w ∷ ws) h = rw (agree_count xs ws (omega arith)) (count_agrees (eqb x w) (agreeing xs ws) (length ws) (agreeing_most xs ws))
