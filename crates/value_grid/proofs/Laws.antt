-- Laws of the questions: what was read, and one answer more.
use Prim.Native.Nat.{ℕ, suc, ◌+◌, ◌*◌, ◌%◌, ◌≤◌, ◌<◌}
use native.Mathlib.Omega.{arith}
use mathlib.Core.Bool.{Bool, true, false, ◌&&◌}
use mathlib.Core.List.{List, [], ◌∷◌}
use mathlib.Core.Path.{◌≡◌, refl, sym, ap, ◌∙◌}
use mir.Val.{bool_byte}
use lib.ListN.{length, take, drop}
use borrow.Author.Tests.{lt-ltb, le-ltb}
use Rattle.ol_spec.specs.Cell.{cell, value_of}
use Rattle.ol_spec.specs.Lists.{same}
use Rattle.ol_spec.specs.Types.{default}
use Rattle.ol_spec.specs.declared.Value.{Value}
use Rattle.ol_spec.specs.declared.Value.TheVariants as Val
use Rattle.ol_spec.specs.declared.Outcome.{Outcome}
use Rattle.ol_value.specs.Codes.{ty_of, in_kind}
use Rattle.rows.specs.Rows.{one}
use Rattle.value_grid.specs.declared.Section.{Section}
use Rattle.value_grid.specs.Questions.{Answer, known_of, says_of, outcome_agrees, outcome_is, input_is, default_is, cell_is, grid_value, Asked, answered_at, good_in, Agreed}

-- ---- answers

-- what was read, of each kind of question
pub outcome_asked : (o : Outcome) (head : ℕ) (nine : List ℕ) (r : Bool) → r ≡ outcome_agrees head nine o → Asked (outcome_is o) r
unfolding outcome_is
outcome_asked o head nine r q = record { answer = record { head = head; nine = nine }; answered = q }

pub input_asked : (code : ℕ) (v : Value) (a b : Bool) (head : ℕ) (r : Bool) → a ≡ in_kind (ty_of code 0) v → b ≡ known_of v → r ≡ says_of (a && b) head → Asked (input_is code v) r
unfolding input_is
input_asked code v a b head r e f q = record { answer = record { head = head; nine = [] }; answered = rw (← e, ← f) q }

pub default_asked : (code : ℕ) (v : Value) (nine : List ℕ) (r : Bool) → v ≡ default ((100 ∷ []) ∷ []) (ty_of code 0) → r ≡ same (cell v) nine → Asked (default_is code) r
unfolding default_is
default_asked code v nine r e q = record { answer = record { head = 0; nine = nine }; answered = q ∙ ap (λ x. same (cell x) nine) e }

pub cell_asked : (nine : List ℕ) (a b : Bool) (v : Value) (head : ℕ) (r : Bool) → a ≡ same (cell (value_of (take 9 nine))) (take 9 nine) → v ≡ value_of (take 9 nine) → b ≡ known_of v → r ≡ says_of (a && b) head → Asked cell_is r
unfolding cell_is
cell_asked nine a b v head r e f g q = record { answer = record { head = head; nine = nine }; answered = q ∙ ap (λ x. says_of (x && b) head) e ∙ ap (λ x. says_of (same (cell (value_of (take 9 nine))) (take 9 nine) && x) head) (g ∙ ap known_of f) }

-- ---- questions

-- a cell that the grid has, and one that it has not
module _ (grid : List ℕ) (k c : ℕ) (e : c ≡ k % 256) where
  pub grid_in : (r : Value) → c * 9 + 9 ≤ length grid → r ≡ value_of (take 9 (drop (c * 9) grid)) → r ≡ grid_value grid k
  unfolding grid_value
  grid_in r h q = rw (← e, le-ltb (length grid) (c * 9 + 9) h) q

  pub grid_out : length grid < c * 9 + 9 → Val.Bool false ≡ grid_value grid k
  unfolding grid_value
  grid_out h = rw (← e, lt-ltb (length grid) (c * 9 + 9) h)

-- ---- the counts

pub bool_one : (b : Bool) → bool_byte b ≡ one b
bool_one true = refl
bool_one false = refl

pub one_most : (b : Bool) → one b ≤ 1
one_most true = omega arith
one_most false = omega arith

good_most : (section : Section) (grid : List ℕ) (l : List Answer) → good_in section grid l ≤ length l
unfolding good_in
good_most section grid [] = omega arith
good_most section grid (a ∷ l) = omega (arith, one_most (answered_at section grid (length l) a), good_most section grid l)

-- no more answers agree than there are questions
pub agreed_most : {section : Section} {grid : List ℕ} {sum count : ℕ} → Agreed section grid sum count → sum ≤ count
agreed_most {section} {grid} a = omega (arith, a.good, a.all, good_most section grid a.answers)

pub agreed_none : (section : Section) (grid : List ℕ) → Agreed section grid 0 0
unfolding good_in
agreed_none section grid = record { answers = []; good = refl; all = refl }

-- one answer more
pub agreed_more : (section : Section) (grid : List ℕ) (sum t : ℕ) (r : Bool) → Asked (answered_at section grid t) r → Agreed section grid sum t → Agreed section grid (sum + one r) (t + 1)
unfolding good_in
agreed_more section grid sum t r q a =
    record {
      answers = q.answer ∷ a.answers;
      good = rw (q.answered, a.good, a.all);
      all = omega (arith, a.all);
    }

-- ---- what a section shows whose answers all agree

abbrev pub AllAgree : Section → List ℕ → List Answer → Type 0
AllAgree section grid [] = Unit {0}
AllAgree section grid (a ∷ l) = (answered_at section grid (length l) a ≡ true) × AllAgree section grid l

one_whole : (b : Bool) (n m : ℕ) → n ≤ m → n + one b ≡ suc m → (b ≡ true) × (n ≡ m)
one_whole true n m h e = (refl, omega arith)
one_whole false n m h e = absurd (omega arith)

all_good : (section : Section) (grid : List ℕ) (l : List Answer) → good_in section grid l ≡ length l → AllAgree section grid l
unfolding good_in
all_good section grid [] e = tt
all_good section grid (a ∷ l) e =
    let both = one_whole (answered_at section grid (length l) a) (good_in section grid l) (length l) (good_most section grid l) e in
    (both.0, all_good section grid l both.1)

-- where as many agree as there are questions, each of the answers that were read agrees
pub all_agree_lem : {section : Section} {grid : List ℕ} {n : ℕ} (a : Agreed section grid n n) → AllAgree section grid a.answers
all_agree_lem {section} {grid} a = all_good section grid a.answers (sym a.good ∙ a.all)
