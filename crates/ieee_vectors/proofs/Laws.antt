-- Laws of the rows: numbers, and the lists that the loops fill.
use Prim.Native.Nat.{ℕ, ◌+◌, ◌-◌, ◌*◌, ◌%◌, zero, suc, ◌≤◌, ◌<◌}
use native.Mathlib.Numerals.{add-one}
use native.Mathlib.Omega.{arith}
use lib.Bits.{bit_xor}
use mathlib.Core.List.{List, [], ◌∷◌}
use mathlib.Core.Path.{◌≡◌, refl, sym, ◌∙◌}
use mathlib.Core.Bool.{Bool, true, false}
use lib.Dec.{ltb}
use mir.Val.{bool_byte}
use lib.ListN.{length, get_or, take, drop, set, length-take, length-append}
use Rattle.std.proofs.lemmas.List.{length-drop, get_or-take, get_or-drop}
use lib.Seq.{take-suc-set}
use borrow.Author.Tests.{lt-ltb, le-ltb}
use Rattle.ieee_vectors.specs.Lines.{digit_of, push, number_at, answer_at, answers, results, whole, cut, right_in, Counted, Checked, right_sum, row_sum, Total}
use Rattle.ieee_vectors.specs.declared.Counts.{Counts}
use Rattle.rows.specs.Rows.{one, agreeing}
use Rattle.rows.proofs.Laws.{agreeing_most, all_agree_lem}
use Rattle.ieee_vectors.specs.Operations.{result_of}
use Rattle.ieee_vectors.specs.Sweeps.{next_of, operand_of, sweep_to, sweep_of}

-- the digits of a number, one more and all
module _ (text : List ℕ) (at n : ℕ) (h : at + n ≤ length text) where
  abbrev digits : List ℕ
  digits = take (at + n - at) (drop at text)

  digits_length : length digits ≡ n
  digits_length = omega (arith, length-take (at + n - at) (drop at text), length-drop at text)

  pub number_more : (i x d : ℕ) → i < length digits → x ≡ number_at text at i → d ≡ digit_of (get_or digits i 0) → push x d ≡ number_at text at (i + 1)
  unfolding number_at
  number_more i x d l e f = rw (add-one, e, f, get_or-take (at + n - at) (drop at text) i 0 (omega (arith, digits_length, l)), get_or-drop at text i 0)

  pub number_end : (i x : ℕ) → i ≤ length digits → length digits ≤ i → x ≡ number_at text at i → x ≡ number_at text at n
  number_end i x a b e = let k : i ≡ n = omega (arith, digits_length, a, b) in rw k at e

-- one row more
module _ (text l : List ℕ) (k : ℕ) (h : k < length l) where
  pub answers_more : (v : ℕ) → v ≡ answer_at text (k * 54) → take k l ≡ answers text k → take (k + 1) (set l k v) ≡ answers text (k + 1)
  unfolding answers
  answers_more v e f = rw (add-one, take-suc-set l k v, e, f)

  pub results_more : (v : ℕ) → v ≡ number_at text (k * 54 + 37) 16 → take k l ≡ results text k → take (k + 1) (set l k v) ≡ results text (k + 1)
  unfolding results
  results_more v e f = rw (add-one, take-suc-set l k v, e, f)

-- what a row gives: an operation, or a sweep
module _ (text : List ℕ) (at op a b : ℕ) (e : op ≡ number_at text at 2) (f : a ≡ number_at text (at + 3) 16) (g : b ≡ number_at text (at + 20) 16) where
  pub answer_done : (r : ℕ) → op < 0x80 → r ≡ result_of op a b → r ≡ answer_at text at
  answer_done r h q = rw (← e, ← f, ← g, lt-ltb op 0x80 h) q

  pub answer_sweep : (r : ℕ) → 0x80 ≤ op → r ≡ sweep_of (op - 0x80) a b → r ≡ answer_at text at
  answer_sweep r h q = rw (← e, ← f, ← g, le-ltb op 0x80 h) q

-- a turn of a sweep
module _ (op e seed i x h : ℕ) (ex : x ≡ (sweep_to op e seed i).x) (eh : h ≡ (sweep_to op e seed i).h) (z y : ℕ) (ez : z ≡ next_of x) (ey : y ≡ next_of z) where
  pub sweep_x : y ≡ (sweep_to op e seed (i + 1)).x
  unfolding sweep_to
  sweep_x = rw (add-one, ← ex, ← ez) ey

  pub sweep_h : (w a b r g : ℕ) → a ≡ operand_of op e z → w ≡ next_of y → b ≡ operand_of op (e % 4096 + 4064 + y % 64) w → r ≡ result_of op a b → g ≡ next_of (bit_xor h r) → g ≡ (sweep_to op e seed (i + 1)).h
  unfolding sweep_to
  sweep_h w a b r g ea ew eb er eg = rw (add-one, ← ex, ← eh, ← ez, ← ey, ← ew, ← ea, ← eb, ← er) eg

-- ---- a text

results_length : (text : List ℕ) (n : ℕ) → length (results text n) ≡ n
unfolding results
results_length text zero = refl
results_length text (suc n) = rw (length-append, results_length text n) (omega arith)

-- no more rows are right than there are
pub right_most : (text : List ℕ) (n : ℕ) → agreeing (answers text n) (results text n) ≤ n
right_most text n = omega (arith, agreeing_most (answers text n) (results text n), results_length text n)

-- the counts: a last row that is cut off is wrong
pub counted_rows : (text : List ℕ) (r : Counts) → r.right ≡ right_in text → r.wrong ≡ whole text - r.right + bool_byte (ltb (whole text * 54) (length text)) → Counted text r
counted_rows text r e w = record { right = e; all = omega (arith, right_most text (whole text), e, w, byte_one (ltb (whole text * 54) (length text))) }
  where
    byte_one : (b : Bool) → bool_byte b ≡ one b
    byte_one true = refl
    byte_one false = refl

-- ---- a run

one_most : (b : Bool) → one b ≤ 1
one_most true = omega arith
one_most false = omega arith

pub checked_most : {r : Counts} → Checked r → r.right + r.wrong ≤ 65
checked_most c = omega (arith, c.counted.all, c.small, one_most (ltb (whole c.text * 54) (length c.text)))

pub total_none : Total 0 0
unfolding right_sum row_sum
total_none = record { texts = []; right_is = refl; all = refl }

pub total_more : {right wrong : ℕ} {r : Counts} → Total right wrong → Checked r → Total (right + r.right) (wrong + r.wrong)
unfolding right_sum row_sum
total_more t c =
    record {
      texts = c.text ∷ t.texts;
      right_is = omega (arith, c.counted.right, t.right_is);
      all = omega (arith, c.counted.all, t.all);
    }

-- ---- what a run that passes shows

-- a text whose rows all agree
pub record Right (text : List ℕ) : Type 0 where
  pub rows : answers text (whole text) ≡ results text (whole text)
  pub end : cut text ≡ 0

abbrev pub AllRight : List (List ℕ) → Type 0
AllRight [] = Unit {0}
AllRight (t ∷ ts) = Right t × AllRight ts

answers_length : (text : List ℕ) (n : ℕ) → length (answers text n) ≡ n
unfolding answers
answers_length text zero = refl
answers_length text (suc n) = rw (length-append, answers_length text n) (omega arith)

right_sum_most : (ts : List (List ℕ)) → right_sum ts ≤ row_sum ts
unfolding right_sum row_sum
right_sum_most [] = omega arith
right_sum_most (t ∷ ts) = omega (arith, right_most t (whole t), right_sum_most ts)

all_right : (ts : List (List ℕ)) → right_sum ts ≡ row_sum ts → AllRight ts
unfolding right_sum row_sum
all_right [] e = tt
all_right (t ∷ ts) e =
    let a = right_most t (whole t) in
    let b = right_sum_most ts in (
      record {
        rows = all_agree_lem _ _ (answers_length t (whole t) ∙ sym (results_length t (whole t))) (omega (arith, results_length t (whole t)));
        end = omega arith;
      },
      all_right ts (omega arith),
    )

-- where no row is wrong, each row of each text that was read gives what it says
pub no_wrong_rows : {right : ℕ} (t : Total right 0) → AllRight t.texts
no_wrong_rows t = all_right t.texts (omega (arith, t.right_is, t.all))
