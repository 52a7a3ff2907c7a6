-- What a line asks for, case by case.
use Prim.Native.Nat.{ℕ, zero, suc, ◌-◌, ◌≤◌, ◌<◌}
use mathlib.Core.Bool.{Bool, true, false, cond}
use mathlib.Core.List.{List, [], ◌∷◌}
use mathlib.Core.Path.{◌≡◌, refl, sym, ap, ◌∙◌}
use native.Mathlib.Omega.{arith}
use lib.ListN.{length, take, drop, get_or}
use lib.Pointwise.{pointwise, bytes_decides}
use lib.Dec.{T, eqb, ltb, eqb→eq, lt→ltb, ltb→lt}
use Rattle.std.specs.Prelude.{Result, Ok, Err}
use Rattle.relay_text.specs.declared.Word.{Word}
use Rattle.ol_spec.specs.Lists.{same}
use Rattle.ol_spec.proofs.Tests.{T_and, T_true, T_false}
use Rattle.relay_text.specs.Text.{word_number, behind, words_up_to}
use Rattle.relay_text.specs.Lines.{word_text}
use Rattle.relay.specs.Requests.{silent, wrong, file_word, order_name, start_word, load_word, cycle_word, at_word, command_of, fits_words, with_ok, asked_by, is_silent, asks_as, asks}
use Rattle.relay.specs.declared.request.Command.{Command}
use Rattle.relay.specs.declared.request.Reason.{Reason}
use Rattle.relay.specs.declared.request.Reason.TheVariants as Why

-- ---- silence

get_d_in : (l : List ℕ) (i d e : ℕ) → i < length l → get_or l i d ≡ get_or l i e
get_d_in [] i d e h = absurd (omega arith)
get_d_in (x ∷ l) zero d e h = refl
get_d_in (x ∷ l) (suc i) d e h = get_d_in l i d e (omega arith)

get_d_out : (l : List ℕ) (i d : ℕ) → length l ≤ i → get_or l i d ≡ d
get_d_out [] zero d h = refl
get_d_out [] (suc i) d h = refl
get_d_out (x ∷ l) zero d h = absurd (omega arith)
get_d_out (x ∷ l) (suc i) d h = get_d_out l i d (omega arith)

pub silent_in : (line : List ℕ) (w : Word) → w ≡ word_number line 0 → w.from < length line → eqb (get_or line w.from 0) 35 ≡ is_silent line
unfolding behind
silent_in line w e h = ap (λ x. eqb x 35) (get_d_in line w.from 0 35 h) ∙ ap (λ (v : Word). eqb (get_or line v.from 35) 35) e

pub silent_out : (line : List ℕ) (w : Word) → w ≡ word_number line 0 → length line ≤ w.from → true ≡ is_silent line
unfolding behind
silent_out line w e h = sym (ap (λ x. eqb x 35) (get_d_out line w.from 35 h)) ∙ ap (λ (v : Word). eqb (get_or line v.from 35) 35) e

-- ---- the command

pub named : (t w : List ℕ) (c : Result Command Reason) → t ≡ w → command_of w ≡ c → c ≡ command_of t
named t w c e h = sym h ∙ ap command_of (sym e)

same_eq : (a b : List ℕ) → T (same a b) → a ≡ b
same_eq [] [] t = refl
same_eq [] (y ∷ b) t = absurd t
same_eq (x ∷ a) [] t = absurd t
same_eq (x ∷ a) (y ∷ b) t =
    let w = T_and (eqb x y) (same a b) t in
    let e : x ≡ y = eqb→eq x y w.0 in
    let r : a ≡ b = same_eq a b w.1 in
    cc

same_not : (t w : List ℕ) → (t ≡ w → ⊥) → same t w ≡ false
same_not t w n = T_false (same t w) (λ s. n (same_eq t w s))

same_byte : {t w : List ℕ} → t ≡ w → (i : ℕ) → get_or t i 0 ≡ get_or w i 0
same_byte e i = ap (λ (u : List ℕ). get_or u i 0) e

-- a word that is none of the commands', by its length and its bytes
pub unknown_word : (t : List ℕ) → (length t ≡ 4 → get_or t 0 0 ≡ 102 → get_or t 1 0 ≡ 105 → get_or t 2 0 ≡ 108 → get_or t 3 0 ≡ 101 → ⊥) → (length t ≡ 5 → get_or t 0 0 ≡ 111 → get_or t 1 0 ≡ 114 → get_or t 2 0 ≡ 100 → get_or t 3 0 ≡ 101 → get_or t 4 0 ≡ 114 → ⊥) → (length t ≡ 5 → get_or t 0 0 ≡ 115 → get_or t 1 0 ≡ 116 → get_or t 2 0 ≡ 97 → get_or t 3 0 ≡ 114 → get_or t 4 0 ≡ 116 → ⊥) → (length t ≡ 4 → get_or t 0 0 ≡ 108 → get_or t 1 0 ≡ 111 → get_or t 2 0 ≡ 97 → get_or t 3 0 ≡ 100 → ⊥) → (length t ≡ 5 → get_or t 0 0 ≡ 99 → get_or t 1 0 ≡ 121 → get_or t 2 0 ≡ 99 → get_or t 3 0 ≡ 108 → get_or t 4 0 ≡ 101 → ⊥) → (length t ≡ 2 → get_or t 0 0 ≡ 97 → get_or t 1 0 ≡ 116 → ⊥) → Err Why.UnknownCommand ≡ command_of t
unfolding command_of
unknown_word t f o s l c a =
    rw (
      same_not t file_word (λ e. f (ap length e) (same_byte e 0) (same_byte e 1) (same_byte e 2) (same_byte e 3)),
      same_not t order_name (λ e. o (ap length e) (same_byte e 0) (same_byte e 1) (same_byte e 2) (same_byte e 3) (same_byte e 4)),
      same_not t start_word (λ e. s (ap length e) (same_byte e 0) (same_byte e 1) (same_byte e 2) (same_byte e 3) (same_byte e 4)),
      same_not t load_word (λ e. l (ap length e) (same_byte e 0) (same_byte e 1) (same_byte e 2) (same_byte e 3)),
      same_not t cycle_word (λ e. c (ap length e) (same_byte e 0) (same_byte e 1) (same_byte e 2) (same_byte e 3) (same_byte e 4)),
      same_not t at_word (λ e. a (ap length e) (same_byte e 0) (same_byte e 1)),
    )
    refl

-- the command that the line's first word names
pub first_word : (line : List ℕ) (w : Word) {d : Result Command Reason} → w ≡ word_number line 0 → d ≡ command_of (take (w.to - w.from) (drop w.from line)) → d ≡ command_of (word_text line 0)
first_word line w e h = h ∙ ap (λ (v : Word). command_of (take (v.to - v.from) (drop v.from line))) e

-- ---- the line

pub asks_long : (line : List ℕ) → 262144 < length line → asks line ≡ wrong Why.LineTooLong
unfolding asks
asks_long line h = rw (T_true (ltb 262144 (length line)) (lt→ltb 262144 (length line) h)) refl

short : (line : List ℕ) → ¬ (262144 < length line) → ltb 262144 (length line) ≡ false
short line h = T_false (ltb 262144 (length line)) (λ t. h (ltb→lt 262144 (length line) t))

pub asks_silent : (line : List ℕ) (b : Bool) → ¬ (262144 < length line) → b ≡ is_silent line → b ≡ true → asks line ≡ silent
unfolding asks
asks_silent line b h e t = rw (short line h, sym e ∙ t) refl

-- a line with a first word, and no longer than it may be
module _ (line : List ℕ) (b : Bool) (d : Result Command Reason) (h : ¬ (262144 < length line)) (e : b ≡ is_silent line) (t : b ≡ false) (ec : d ≡ command_of (word_text line 0)) where
  asks_by : asks line ≡ with_ok d (λ c. asks_as c line)
  unfolding asks
  asks_by = rw (short line h, sym e ∙ t, sym ec) refl

  pub asks_unknown : (why : Reason) → d ≡ Err why → asks line ≡ wrong why
  asks_unknown why w = asks_by ∙ ap (λ x. with_ok x (λ c. asks_as c line)) w

  module _ (c : Command) (w : d ≡ Ok c) (n : ℕ) (f : Bool) (en : n ≡ words_up_to 6 line 0) (ef : f ≡ fits_words c n) where
    asks_known : asks line ≡ cond f (asked_by c line) (wrong Why.WrongWords)
    asks_known = asks_by ∙ ap (λ x. with_ok x (λ c. asks_as c line)) w ∙ ap (λ x. cond x (asked_by c line) (wrong Why.WrongWords)) (ap (fits_words c) (sym en) ∙ sym ef)

    pub asks_words : f ≡ false → asks line ≡ wrong Why.WrongWords
    asks_words z = asks_known ∙ ap (λ x. cond x (asked_by c line) (wrong Why.WrongWords)) z

    pub asks_obeyed : f ≡ true → asks line ≡ asked_by c line
    asks_obeyed z = asks_known ∙ ap (λ x. cond x (asked_by c line) (wrong Why.WrongWords)) z

-- a comparison of a line's word with a text
pub is_word : (t w : List ℕ) (r : Bool) → r ≡ pointwise eqb t w → r ≡ true → t ≡ w
is_word t w r e h = (bytes_decides t w).0 (sym e ∙ h)

pub no_word : (t w : List ℕ) (r : Bool) → r ≡ pointwise eqb t w → t ≡ w → r ≡ true
no_word t w r e h = e ∙ (bytes_decides t w).1 h
