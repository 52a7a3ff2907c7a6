-- What the proofs of this crate cite: one step of each loop, in terms of what is left. Assumes nothing.
use Prim.Native.Nat.{ℕ, zero, suc, ◌+◌, ◌*◌, ◌-◌, ◌/◌, ◌%◌, ◌^◌, ◌<◌, ◌≤◌}
use native.Mathlib.Omega.{arith}
use native.Mathlib.Nat.{pow-suc, pow-zero, one-le-pow}
use native.Mathlib.Numerals.{add-one}
use mathlib.Core.Path.{◌≡◌, refl, sym, ap, subst, ◌∙◌}
use mathlib.Core.Bool.{Bool, true, false, cond, not, ◌&&◌}
use Rattle.std.specs.Ordering.{is_lt, nat_cmp}
use Rattle.std.proofs.lemmas.Map.Keys.{ge_from_not_lt}
use mathlib.Core.List.{List, [], ◌∷◌, ◌++◌, append_assoc, append-nil}
use Rattle.std.specs.Prelude.{Option, Some, None, position, nat_lt, unwrap_or}
use lib.ListN.{length, take, drop, get_or, set, take-append-drop, drop_of_length-le, length-append, length-take}
use Rattle.std.proofs.lemmas.List.{take_rest}
use lib.Seq.{take_all, drop-cons, drop-drop, drop-set-lt, length-take-le, take-suc, take-suc-set}
use lib.Dec.{ltb, eqb}
use lib.Pointwise.{pointwise}
use Rattle.std.specs.Prelude.{◌⊎◌}
use Rattle.std.proofs.lemmas.Bool.Decides.{nat_tests}
use borrow.Author.Tests.{ltb-true, ltb-false, le-ltb, eq-eqb, ne_eqb}
use Rattle.relay_text.specs.Text.{sort, run, word_from, word_to, word_at, behind, words_up_to, hex_value, before, with_byte, unhexed, bytes_of, front_byte, unhexed_front, onto, glyph_of, hexed, with_digit, number_from, places}
use Rattle.io.specs.Digits.{IsDigitCount}
use Rattle.relay_text.specs.Text.{decimal_word}
use Rattle.relay_text.specs.Lines.{blank, with_indexes, Puts, Appends}
use Rattle.relay_text.specs.declared.line.Line.{Line}
use Rattle.relay_text.specs.declared.Word.{Word}

-- ---- lists

-- the element at i and what is left behind it
pub next : (l : List ℕ) (i : ℕ) → i < length l → drop i l ≡ get_or l i 0 ∷ drop (i + 1) l
next l i h = rw (add-one, drop-cons l i 0)

-- ---- words

of_not : (b : Bool) → not b ≡ true → b ≡ false
of_not true h = sym h
of_not false h = refl

-- as many stand at the beginning as stand before the first of the other sort
pub run_is : (w : Bool) (l : List ℕ) → run w l ≡ unwrap_or (position (λ b. not (sort w b)) l) (length l)
unfolding run
run_is w [] = refl
run_is w (x ∷ l) = rw (run_is w l) (one (sort w x) _ _)
  where
    one : (b : Bool) (n m : ℕ) → cond b (suc (unwrap_or (cond (nat_lt n m) (Some n) None) m)) 0 ≡ unwrap_or (cond (nat_lt (cond (not (not b)) (1 + n) 0) (suc m)) (Some (cond (not (not b)) (1 + n) 0)) None) (suc m)
    one true n m = grind arith
    one false n m = grind arith

-- of what stands behind a place
pub rest_of : (l : List ℕ) (at n : ℕ) (w : Bool) → at ≤ length l → (n ≤ length (take (length l - at) (drop at l))) × (n ≡ run w (take (length l - at) (drop at l))) → (at + n ≤ length l) × (at + n ≡ at + run w (drop at l))
rest_of l at n w h r =
    let all : take (length l - at) (drop at l) ≡ drop at l = take_rest l at in
    (omega (arith, r.0, length-take (length l - at) (drop at l)), ap (λ x. at + x) (r.1 ∙ ap (run w) all))

-- one word of those that are left is passed
pub behind_next : (l : List ℕ) (k i at : ℕ) → i < k → behind l (k - i) at ≡ behind l (k - (i + 1)) (word_to l at)
unfolding behind
behind_next l k i at h =
    let e : k - i ≡ suc (k - (i + 1)) = omega arith in
    rw e refl

pub words_next : (l : List ℕ) (k n at : ℕ) → n < k → (word_from l at ≡ word_to l at → ⊥)
    → n + words_up_to (k - n) l at ≡ (n + 1) + words_up_to (k - (n + 1)) l (word_to l at)
unfolding words_up_to
words_next l k n at h ne =
    let e : k - n ≡ suc (k - (n + 1)) = omega arith in
    rw (e, ne_eqb (word_from l at) (word_to l at) ne) (omega arith)

pub words_none : (l : List ℕ) (k n at : ℕ) → n < k → word_from l at ≡ word_to l at → n ≡ n + words_up_to (k - n) l at
unfolding words_up_to
words_none l k n at h q =
    let e : k - n ≡ suc (k - (n + 1)) = omega arith in
    rw (e, eq-eqb (word_from l at) (word_to l at) q) (omega arith)

pub behind_done : (l : List ℕ) (k i at : ℕ) → k ≤ i → behind l (k - i) at ≡ at
unfolding behind
behind_done l k i at h = let e : k - i ≡ 0 = omega arith in rw e

pub words_done : (l : List ℕ) (k n at : ℕ) → k ≤ n → n ≡ n + words_up_to (k - n) l at
unfolding words_up_to
words_done l k n at h = let e : k - n ≡ 0 = omega arith in rw e (omega arith)

pub word_is : (line : List ℕ) (at a b : ℕ) → a ≡ word_from line at → b ≡ a + run false (drop a line) → record { from = a; to = b } ≡ word_at line at
word_is line at a b p q = rw (q, p)

-- a word that is found is empty, or goes on
module _ (line : List ℕ) (at : ℕ) (w : Word) (e : w ≡ word_at line at) where
  pub empty_word : w.from ≤ w.to → not (is_lt (nat_cmp w.from w.to)) ≡ true → word_from line at ≡ word_to line at
  empty_word f h = sym (ap (λ (r : Word). r.from) e) ∙ omega (arith, ge_from_not_lt w.from w.to (of_not (is_lt (nat_cmp w.from w.to)) h)) ∙ ap (λ (r : Word). r.to) e

  pub word_goes_on : not (is_lt (nat_cmp w.from w.to)) ≡ false → word_from line at ≡ word_to line at → ⊥
  word_goes_on h q =
      let same : w.from ≡ w.to = ap (λ (r : Word). r.from) e ∙ q ∙ sym (ap (λ (r : Word). r.to) e) in
      let bad : true ≡ false = rw (le-ltb w.from w.to (omega arith), eq-eqb w.from w.to same) at h in
      cc

-- ---- hexadecimal

pub before_nil : (o : Option (List ℕ)) → o ≡ before [] o
before_nil None = refl
before_nil (Some l) = refl

pub before_twice : (xs ys : List ℕ) (o : Option (List ℕ)) → before xs (before ys o) ≡ before (xs ++ ys) o
before_twice xs ys None = refl
before_twice xs ys (Some l) = ap Some (sym (append_assoc xs ys l))

-- the bytes so far stand before those of what is left
abbrev pub Left : List ℕ → List ℕ → ℕ → Type 0
Left text out i = unhexed text ≡ before (take i out) (unhexed (drop (2 * i) text))

pub left_start : (text out : List ℕ) → Left text out 0
left_start text out = before_nil (unhexed text)

-- the digits that are left, where they are one, and where they are two and more
module _ (text : List ℕ) (i : ℕ) where
  one_left : 2 * i + 1 ≡ length text → drop (2 * i) text ≡ get_or text (2 * i) 0 ∷ []
  one_left e = next text (2 * i) (omega arith) ∙ ap (λ (l : List ℕ). get_or text (2 * i) 0 ∷ l) (drop_of_length-le text {i = 2 * i + 1} (omega arith))

  two_left : 2 * i + 1 < length text → drop (2 * i) text ≡ get_or text (2 * i) 0 ∷ (get_or text (2 * i + 1) 0 ∷ drop (2 * i + 1 + 1) text)
  two_left h = next text (2 * i) (omega arith) ∙ ap (λ (l : List ℕ). get_or text (2 * i) 0 ∷ l) (next text (2 * i + 1) h)

module _ (text out : List ℕ) (i : ℕ) (left : Left text out i) where
  -- one digit is left
  pub left_odd : 2 * i + 1 ≡ length text → unhexed text ≡ None
  unfolding unhexed
  left_odd e = left ∙ ap (λ (l : List ℕ). before (take i out) (unhexed l)) (one_left text i e)

  -- none is left
  pub left_end : length text ≤ 2 * i → unhexed text ≡ Some (take i out)
  unfolding unhexed
  left_end h = left ∙ ap (λ (l : List ℕ). before (take i out) (unhexed l)) (drop_of_length-le text {i = 2 * i} h) ∙ ap Some (append-nil (take i out))

  module _ (h : 2 * i + 1 < length text) where
    left_two : unhexed text ≡ before (take i out) (with_byte (hex_value (get_or text (2 * i) 0)) (hex_value (get_or text (2 * i + 1) 0)) (unhexed (drop (2 * i + 1 + 1) text)))
    unfolding unhexed
    left_two = left ∙ ap (λ (l : List ℕ). before (take i out) (unhexed l)) (two_left text i h)

    -- the first is no digit
    pub left_high : None ≡ hex_value (get_or text (2 * i) 0) → unhexed text ≡ None
    left_high e = left_two ∙ rw (← e) refl

    module _ (a : ℕ) (ea : Some a ≡ hex_value (get_or text (2 * i) 0)) where
      pub left_low : None ≡ hex_value (get_or text (2 * i + 1) 0) → unhexed text ≡ None
      left_low e = left_two ∙ rw (← ea, ← e) refl

      pub left_byte : (b : ℕ) → Some b ≡ hex_value (get_or text (2 * i + 1) 0) → i < length out → Left text (set out i (a * 16 + b)) (i + 1)
      left_byte b eb room =
          let t : take (i + 1) (set out i (a * 16 + b)) ≡ take i out ++ ((a * 16 + b) ∷ []) = rw add-one (take-suc-set out i (a * 16 + b) room) in
          let d : 2 * (i + 1) ≡ 2 * i + 1 + 1 = omega arith in
          rw (t, d) (left_two ∙ rw (← ea, ← eb) (before_twice (take i out) ((a * 16 + b) ∷ []) (unhexed (drop (2 * i + 1 + 1) text))))

pub hexed_append : (a b : List ℕ) → hexed (a ++ b) ≡ hexed a ++ hexed b
unfolding hexed
hexed_append [] b = refl
hexed_append (x ∷ a) b = ap (λ (l : List ℕ). glyph_of (x / 16) ∷ (glyph_of (x % 16) ∷ l)) (hexed_append a b)

pub hexed_length : (a : List ℕ) → length (hexed a) ≡ length a + length a
unfolding hexed
hexed_length [] = refl
hexed_length (x ∷ a) = omega (arith, hexed_length a)

-- two digits more
pub hexed_more : (l : List ℕ) (i : ℕ) → i < length l
    → hexed (take (i + 1) l) ≡ hexed (take i l) ++ (glyph_of (get_or l i 0 / 16) ∷ (glyph_of (get_or l i 0 % 16) ∷ []))
unfolding hexed
hexed_more l i h = rw (add-one, take-suc l i 0 h) (hexed_append (take i l) (get_or l i 0 ∷ []))

pub hexed_none : hexed [] ≡ []
unfolding hexed
hexed_none = refl

pub hexed_all : (bytes : List ℕ) (i : ℕ) → length bytes ≤ i → hexed (take i bytes) ≡ hexed bytes
hexed_all bytes i h = ap hexed (take_all i bytes h)

-- behind what is put, and behind what was put before, every byte stays
pub behind_on : (last out out₀ : List ℕ) (n r m : ℕ) → r ≡ m → n ≤ r → drop r last ≡ drop r out → drop n out ≡ drop n out₀ → drop m last ≡ drop m out₀
behind_on last out out₀ n r m e h f g =
    let z : n + (r - n) ≡ r = omega arith in
    let further : drop r out ≡ drop r out₀ = subst (λ (k : ℕ). drop k out ≡ drop k out₀) z (sym (drop-drop (r - n) n out) ∙ ap (drop (r - n)) g ∙ drop-drop (r - n) n out₀) in
    subst (λ (k : ℕ). drop k last ≡ drop k out₀) e (f ∙ further)

-- what is written: the bytes so far stand before those of what is left
abbrev pub Front : List ℕ → List ℕ → ℕ → Type 0
Front text out i = unhexed_front text ≡ take i out ++ unhexed_front (drop (2 * i) text)

module _ (text out : List ℕ) (i : ℕ) (front : Front text out i) where
  front_none : unhexed_front (drop (2 * i) text) ≡ [] → unhexed_front text ≡ take i out
  front_none e = front ∙ ap (λ (l : List ℕ). take i out ++ l) e ∙ append-nil (take i out)

  pub front_odd : 2 * i + 1 ≡ length text → unhexed_front text ≡ take i out
  unfolding unhexed_front
  front_odd e = front_none (ap unhexed_front (one_left text i e))

  pub front_end : length text ≤ 2 * i → unhexed_front text ≡ take i out
  unfolding unhexed_front
  front_end h = front_none (ap unhexed_front (drop_of_length-le text {i = 2 * i} h))

  module _ (h : 2 * i + 1 < length text) where
    front_two : unhexed_front (drop (2 * i) text) ≡ front_byte (hex_value (get_or text (2 * i) 0)) (hex_value (get_or text (2 * i + 1) 0)) (unhexed_front (drop (2 * i + 1 + 1) text))
    unfolding unhexed_front
    front_two = ap unhexed_front (two_left text i h)

    pub front_high : None ≡ hex_value (get_or text (2 * i) 0) → unhexed_front text ≡ take i out
    front_high e = front_none (front_two ∙ rw (← e) refl)

    module _ (a : ℕ) (ea : Some a ≡ hex_value (get_or text (2 * i) 0)) where
      pub front_low : None ≡ hex_value (get_or text (2 * i + 1) 0) → unhexed_front text ≡ take i out
      front_low e = front_none (front_two ∙ rw (← ea, ← e) refl)

      pub front_byte_lem : (b : ℕ) → Some b ≡ hex_value (get_or text (2 * i + 1) 0) → i < length out → Front text (set out i (a * 16 + b)) (i + 1)
      front_byte_lem b eb room =
          let t : take (i + 1) (set out i (a * 16 + b)) ≡ take i out ++ ((a * 16 + b) ∷ []) = rw add-one (take-suc-set out i (a * 16 + b) room) in
          let d : 2 * (i + 1) ≡ 2 * i + 1 + 1 = omega arith in
          rw (t, d)
          (front
          ∙ ap (λ (l : List ℕ). take i out ++ l) (front_two ∙ rw (← ea, ← eb) refl)
          ∙ sym (append_assoc (take i out) ((a * 16 + b) ∷ []) (unhexed_front (drop (2 * i + 1 + 1) text))))

-- a byte is written, and none behind it
pub byte_kept : (out out₀ : List ℕ) (i x : ℕ) → drop i out ≡ drop i out₀ → drop (i + 1) (set out i x) ≡ drop (i + 1) out₀
byte_kept out out₀ i x k = behind_on (set out i x) out out₀ i (i + 1) (i + 1) refl (omega arith) (drop-set-lt (i + 1) out i x (omega arith)) k

-- so the buffer is as it was, with the bytes at its start
pub front_written : (text out out₀ : List ℕ) (i : ℕ) → unhexed_front text ≡ take i out → i ≤ length out → drop i out ≡ drop i out₀ → out ≡ onto (unhexed_front text) out₀
front_written text out out₀ i e l k =
    sym (take-append-drop i out)
    ∙ ap (λ (r : List ℕ). take i out ++ r) (k ∙ ap (λ (n : ℕ). drop n out₀) (sym (length-take-le i out l)))
    ∙ ap (λ (xs : List ℕ). onto xs out₀) (sym e)

-- a hyphen alone stands for nothing, and what is none is taken by its digits
pub hyphen_bytes : bytes_of (45 ∷ []) ≡ Some []
hyphen_bytes = refl

and_true : (b : Bool) → (b && true) ≡ b
and_true true = refl
and_true false = refl

pub other_bytes : (t : List ℕ) → pointwise eqb t (45 ∷ []) ≡ false → bytes_of t ≡ unhexed t
other_bytes [] h = refl
other_bytes (x ∷ []) h = rw (sym (and_true (eqb x 45)) ∙ h)
other_bytes (x ∷ y ∷ l) h = let ne : length (x ∷ y ∷ l) ≡ 1 → ⊥ = omega arith in rw (ne_eqb _ _ ne)

pub hyphen_written : (out : List ℕ) → out ≡ onto (unhexed_front (45 ∷ [])) out
unfolding unhexed_front
hyphen_written out = refl

-- ---- numbers

-- a number goes on by a digit, and ends at what is none
module _ (v : ℕ) (l : List ℕ) (i : ℕ) (h : i < length l) where
  pub number_stop : (get_or l i 0 < 48) ⊎ (57 < get_or l i 0) → number_from v (drop i l) ≡ None
  unfolding number_from
  number_stop g = rw (next l i h) (grind (arith, nat_tests))

  pub number_more : 48 ≤ get_or l i 0 → get_or l i 0 ≤ 57 → number_from v (drop i l) ≡ number_from (with_digit v (get_or l i 0)) (drop (i + 1) l)
  unfolding number_from
  number_more f g = rw (next l i h, le-ltb (get_or l i 0) 48 f, le-ltb 57 (get_or l i 0) g) refl

pub number_end : (v : ℕ) (l : List ℕ) (i : ℕ) → length l ≤ i → number_from v (drop i l) ≡ Some v
unfolding number_from
number_end v l i h = rw (drop_of_length-le l {i = i} h) refl

-- a test below 10, either way
if_case : (P : ℕ → Type 0) (n : ℕ) {a b : ℕ} → (n < 10 → P a) → (10 ≤ n → P b) → P (cond (ltb n 10) a b)
if_case P n {a = a} {b = b} below above = pick (ltb n 10) refl
  where
    pick : (t : Bool) → ltb n 10 ≡ t → P (cond t a b)
    pick true e = below (ltb-true n 10 e)
    pick false e = above (ltb-false n 10 e)

-- a number below 10 has one place
one_place : (n k : ℕ) → n < 10 → IsDigitCount 10 1 n k → k ≡ 1
one_place n zero small h = absurd (omega (arith, h.0))
one_place n (suc zero) small h = refl
one_place n (suc (suc k)) small h =
    let e : suc (suc k) - 1 ≡ suc k = omega arith in
    absurd (omega (arith, rw e at (h.2 (omega arith)), pow-suc 10 k, one-le-pow k 10 (omega arith)))

-- a larger one has one more than its tenth
one_less : (n k : ℕ) → 10 ≤ n → IsDigitCount 10 1 n (suc k) → IsDigitCount 10 1 (n / 10) k
one_less n zero big h = absurd (omega (arith, h.1, pow-suc 10 0, pow-zero 10))
one_less n (suc k) big h =
    let e : suc (suc k) - 1 ≡ suc k = omega arith in
    let d : suc k - 1 ≡ k = omega arith in
    let low : 10 ^ suc k ≤ n = rw e at (h.2 (omega arith)) in
    (omega arith, omega (arith, h.1, pow-suc 10 (suc k)), λ g. rw d (omega (arith, low, pow-suc 10 k)))

-- the places that a number takes are those that its word has
pub places_fewest : (f n k : ℕ) → n < 10 ^ suc f → IsDigitCount 10 1 n k → k ≡ places f n
unfolding places
places_fewest zero n k small h = one_place n k (omega (arith, pow-suc 10 0, pow-zero 10)) h
places_fewest (suc f) n zero small h = absurd (omega (arith, h.0))
places_fewest (suc f) n (suc k) small h =
    if_case (λ (m : ℕ). suc k ≡ m) n
    (λ g. one_place n (suc k) g h)
    (λ g. ap suc (places_fewest f (n / 10) k (omega (arith, pow-suc 10 (suc f))) (one_less n k g h)))

-- ---- lines that are put together

further : (a b : List ℕ) (r n : ℕ) → r ≤ n → drop r a ≡ drop r b → drop n a ≡ drop n b
further a b r n h e = behind_on a a b r n n refl h refl e

-- a piece that was put
pub appends_put : (a b : Line) (piece : List ℕ) → length b.out.now ≡ length a.out.now → b.length ≡ a.length + length piece → take b.length b.out.now ≡ take a.length a.out.now ++ piece → drop b.length b.out.now ≡ drop b.length a.out.now → Appends a b piece
appends_put a b piece l i t d = record { long = l; is = i; text = t; behind = λ n h. further b.out.now a.out.now b.length n h d }

pub appends_as : (a b : Line) (x y : List ℕ) → x ≡ y → Appends a b x → Appends a b y
appends_as a b x y e h = rw e at h

-- nothing more
pub appends_none : (a : Line) → Appends a a []
appends_none a = record { long = refl; is = omega arith; text = sym (append-nil (take a.length a.out.now)); behind = λ n h. refl }

-- one piece behind another
pub appends_both : (a b c : Line) (x y : List ℕ) → Appends a b x → Appends b c y → Appends a c (x ++ y)
appends_both a b c x y h k =
    record {
      long = k.long ∙ h.long;
      is = omega (arith, k.is, h.is, length-append x y);
      text = k.text ∙ ap (λ (l : List ℕ). l ++ y) h.text ∙ append_assoc (take a.length a.out.now) x y;
      behind = λ n le. k.behind n le ∙ h.behind n (omega (arith, k.is));
    }

-- a line whose text is told otherwise, behind its first piece and before its last
pub puts_on : (a b m e : Line) (x y t : List ℕ) (n : ℕ) (out : List ℕ) → Appends a b x → b.length ≤ m.length → ((k : ℕ) → m.length ≤ k → drop k m.out.now ≡ drop k b.out.now) → Appends m e y → take m.length m.out.now ≡ t → n ≡ e.length → e.length ≤ length e.out.now → out ≡ e.out.now → Puts (t ++ y) a.out.now n out
puts_on a b m e x y t n out h on behind k is i fits o = (
  record { inside = rw (i, o) fits; is = rw (i, o) (k.text ∙ ap (λ (l : List ℕ). l ++ y) is) },
  rw (i, o) (k.behind e.length (omega arith) ∙ behind e.length (omega (arith, k.is)) ∙ h.behind e.length (omega (arith, on, k.is))),
)

-- ---- answers

pub indexes_more : (text entries : List ℕ) (i : ℕ) → i < length entries
    → with_indexes text (drop i entries) ≡ with_indexes (text ++ blank ++ decimal_word (get_or entries i 0)) (drop (i + 1) entries)
unfolding with_indexes
indexes_more text entries i h = rw (next entries i h)

pub indexes_end : (text entries : List ℕ) (i : ℕ) → length entries ≤ i → text ≡ with_indexes text (drop i entries)
unfolding with_indexes
indexes_end text entries i h = rw (drop_of_length-le entries {i = i} h)
