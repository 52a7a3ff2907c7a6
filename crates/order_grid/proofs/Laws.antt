-- Laws of rows, marks and counts.
use Prim.Native.Nat.{ℕ, zero, suc, ◌+◌, ◌≤◌, ◌<◌}
use native.Mathlib.Numerals.{add-one}
use native.Mathlib.Omega.{arith}
use mathlib.Core.Bool.{Bool, true, false, ◌&&◌}
use lib.Dec.{eqb}
use mathlib.Core.List.{List, [], ◌∷◌, ◌++◌, append_assoc}
use mathlib.Core.Path.{◌≡◌, refl, sym, ap, subst, ◌∙◌}
use lib.ListN.{length, get_or, take, set, replicate}
use lib.Seq.{take-suc, take-suc-set, take_all}
use Rattle.std.specs.Int.{from_bool}
use Rattle.rows.specs.Rows.{one, all_agree}
use Rattle.ol_ir.specs.Nexts.{reading_of}
use Rattle.ol_spec.specs.Answers.{sorted_fault}
use Rattle.ol_spec.specs.Limits.{relay_loader}
use Rattle.ol_spec.specs.Read.{read_file}
use Rattle.ol_spec.specs.declared.Fault.{Fault}
use Rattle.order_grid.specs.Questions.{refusal_agrees, row_of, Question, reading, ordered, agrees, good_in, Tallied, Asked, read_agrees}

-- an entry more of a row behind its first two words h
pub row_more : (h entries row : List ℕ) (i : ℕ) → i < length entries → i + 2 < length row → take (i + 2) row ≡ h ++ take i entries → take (i + 1 + 2) (set row (i + 2) (get_or entries i 0)) ≡ h ++ take (i + 1) entries
row_more h entries row i a b e =
    let n : i + 1 + 2 ≡ suc (i + 2) = omega arith in
    rw (n, take-suc-set row (i + 2) (get_or entries i 0), e, add-one, take-suc entries i 0, append_assoc)

-- the first two words, and all of a row
pub row_first : (l : List ℕ) (a b : ℕ) → 2 ≤ length l → take 2 (set (set l 0 a) 1 b) ≡ a ∷ b ∷ []
row_first [] a b h = absurd (omega arith)
row_first (x ∷ []) a b h = absurd (omega arith)
row_first (x ∷ y ∷ l) a b h = refl

pub row_whole : (f : Fault) {n : ℕ} → n ≡ f.number → (entries row l : List ℕ) (i : ℕ) → 2 ≤ length l → length entries ≤ i → length row ≤ i + 2 → take (i + 2) row ≡ take 2 (set (set l 0 n) 1 f.place) ++ take i entries → row ≡ row_of f entries
row_whole f {n} q entries row l i h a b e = sym (take_all (i + 2) row b) ∙ e ∙ rw (row_first l n f.place h, take_all i entries a, q)

-- the first marks of many
pub marks_taken : (n m a : ℕ) → n ≤ m → take n (replicate m a) ≡ replicate n a
marks_taken zero zero a h = refl
marks_taken zero (suc m) a h = refl
marks_taken (suc n) zero a h = absurd (omega arith)
marks_taken (suc n) (suc m) a h = ap (λ l. a ∷ l) (marks_taken n m a (omega arith))

-- ---- the counts

good_most : (qs : List Question) → good_in qs ≤ length qs
unfolding good_in
good_most [] = omega arith
good_most (q ∷ qs) = more (agrees q) (good_most qs)
  where
    more : (b : Bool) → good_in qs ≤ length qs → one b + good_in qs ≤ suc (length qs)
    more true h = omega arith
    more false h = omega arith

pub tallied_most : {good all : ℕ} → Tallied good all → good ≤ all
tallied_most t = omega (arith, t.good_is, t.all_is, good_most t.questions)

pub tallied_none : Tallied 0 0
unfolding good_in
tallied_none = record { questions = []; good_is = refl; all_is = refl }

-- one question more
one_more : (q : Question) (n good all : ℕ) → n ≡ one (agrees q) → Tallied good all → Tallied (good + n) (all + 1)
unfolding good_in
one_more q n good all e t = record { questions = q ∷ t.questions; good_is = omega (arith, t.good_is); all_is = omega (arith, t.all_is) }

-- 1 where it is so, else 0
as_one : {n : ℕ} (b : Bool) → n ≡ from_bool b → n ≡ one b
as_one true e = e
as_one false e = e

pub asked_more : (file : List ℕ) (good all : ℕ) (r : Bool) {n : ℕ} → n ≡ from_bool r → Asked file r → Tallied good all → Tallied (good + n) (all + 1)
asked_more file good all r {n} e a t = one_more (ordered file a.node a.wanted) n good all (as_one r e ∙ ap one a.answered) t

pub read_more : (file : List ℕ) (f : Fault) (r : Bool) {n : ℕ} → n ≡ from_bool r → r ≡ read_agrees file f → Tallied n 1
read_more file f r {n} e a = let z : 0 + n ≡ n = omega arith in subst (λ m. Tallied m 1) z (one_more (reading file f) n 0 0 (as_one r e ∙ ap one a) tallied_none)

pub from_few : {n : ℕ} (r : Bool) → n ≡ from_bool r → n ≤ 1
from_few true e = omega arith
from_few false e = omega arith

-- the questions of two parts
good_both : (ps qs : List Question) → good_in (ps ++ qs) ≡ good_in ps + good_in qs
unfolding good_in
good_both [] qs = omega arith
good_both (p ∷ ps) qs = omega (arith, good_both ps qs)

length_both : (ps qs : List Question) → length (ps ++ qs) ≡ length ps + length qs
length_both [] qs = omega arith
length_both (p ∷ ps) qs = omega (arith, length_both ps qs)

pub tallied_both : {a b c d : ℕ} → Tallied a b → Tallied c d → Tallied (a + c) (b + d)
tallied_both s t =
    record {
      questions = s.questions ++ t.questions;
      good_is = omega (arith, s.good_is, t.good_is, good_both s.questions t.questions);
      all_is = omega (arith, s.all_is, t.all_is, length_both s.questions t.questions);
    }

-- ---- a reading

-- two faults' rows agree where their numbers and their places do
fault_rows : (m f : Fault) → all_agree (row_of m []) (row_of f []) ≡ (eqb m.number f.number && eqb m.place f.place)
unfolding all_agree
fault_rows m f = both (eqb m.number f.number) (eqb m.place f.place)
  where
    both : (a b : Bool) → (a && (b && true)) ≡ (a && b)
    both true true = refl
    both true false = refl
    both false b = refl

module _ (file : List ℕ) (f m : Fault) (b : Bool) (e : m ≡ sorted_fault (reading_of (read_file file relay_loader))) (g : b ≡ (eqb m.number f.number && eqb m.place f.place)) where
  pub read_true : (r : Bool) → b ≡ true → r ≡ refusal_agrees file f → r ≡ read_agrees file f
  unfolding read_agrees
  read_true r t h = rw (← e, fault_rows m f, ← g, t) h

  pub read_false : b ≡ false → false ≡ read_agrees file f
  unfolding read_agrees
  read_false t = rw (← e, fault_rows m f, ← g, t)

pub row_is : {f g : Fault} {b d : List ℕ} → f ≡ g → b ≡ d → row_of f b ≡ row_of g d
row_is e h = cc
