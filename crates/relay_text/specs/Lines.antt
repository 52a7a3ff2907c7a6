-- The answers' lines, as oracle/README.md has them.
use Rattle.std.specs.Prelude.{ℕ, ◌+◌, ◌-◌, ◌≤◌, ◌≡◌, List, [], ◌∷◌, ◌++◌, length, take, drop}
use Rattle.ol_spec.specs.declared.Fault.{Fault}
use Rattle.relay_text.specs.declared.line.Line.{Line}
use Rattle.relay_text.specs.Text.{hex_word, decimal_word, word_number}

-- ---- pieces

abbrev pub blank : List ℕ
blank = 32 ∷ []

abbrev pub line_end : List ℕ
line_end = 10 ∷ []

-- a number and a place behind a text
abbrev pub with_fault : List ℕ → ℕ → ℕ → List ℕ
with_fault text number place = text ++ decimal_word number ++ blank ++ decimal_word place

-- the same of a fault
abbrev pub fault_words : Fault → List ℕ
fault_words x = decimal_word x.number ++ blank ++ decimal_word x.place

-- ---- answers

-- error and a blank
abbrev pub error_word : List ℕ
error_word = 101 ∷ 114 ∷ 114 ∷ 111 ∷ 114 ∷ 32 ∷ []

-- refused and a blank
abbrev pub refused_word : List ℕ
refused_word = 114 ∷ 101 ∷ 102 ∷ 117 ∷ 115 ∷ 101 ∷ 100 ∷ 32 ∷ []

-- admit and a blank
abbrev pub admit_word : List ℕ
admit_word = 97 ∷ 100 ∷ 109 ∷ 105 ∷ 116 ∷ 32 ∷ []

-- state and a blank
abbrev pub state_word : List ℕ
state_word = 115 ∷ 116 ∷ 97 ∷ 116 ∷ 101 ∷ 32 ∷ []

-- answered and a blank
abbrev pub answered_word : List ℕ
answered_word = 97 ∷ 110 ∷ 115 ∷ 119 ∷ 101 ∷ 114 ∷ 101 ∷ 100 ∷ 32 ∷ []

-- stopped and a blank
abbrev pub stopped_word : List ℕ
stopped_word = 115 ∷ 116 ∷ 111 ∷ 112 ∷ 112 ∷ 101 ∷ 100 ∷ 32 ∷ []

-- order ok
abbrev pub order_word : List ℕ
order_word = 111 ∷ 114 ∷ 100 ∷ 101 ∷ 114 ∷ 32 ∷ 111 ∷ 107 ∷ []

-- order refused and a blank
abbrev pub no_order_word : List ℕ
no_order_word = 111 ∷ 114 ∷ 100 ∷ 101 ∷ 114 ∷ 32 ∷ 114 ∷ 101 ∷ 102 ∷ 117 ∷ 115 ∷ 101 ∷ 100 ∷ 32 ∷ []

-- error LINE REASON
abbrev pub error_line : ℕ → List ℕ → List ℕ
error_line line reason = error_word ++ decimal_word line ++ blank ++ reason ++ line_end

-- refused NUMBER PLACE
abbrev pub refused_line : ℕ → ℕ → List ℕ
refused_line number place = with_fault refused_word number place ++ line_end

-- admit NUMBER PLACE LENGTH
abbrev pub admit_line : ℕ → ℕ → ℕ → List ℕ
admit_line number place state = with_fault admit_word number place ++ blank ++ decimal_word state ++ line_end

-- state STATE
abbrev pub state_line : List ℕ → List ℕ
state_line state = state_word ++ hex_word state ++ line_end

-- answered VALUES STATE
abbrev pub answered_line : List ℕ → List ℕ → List ℕ
answered_line values state = answered_word ++ hex_word values ++ blank ++ hex_word state ++ line_end

-- stopped NUMBER EQUATION STATE
abbrev pub stopped_line : ℕ → ℕ → List ℕ → List ℕ
stopped_line number place state = with_fault stopped_word number place ++ blank ++ hex_word state ++ line_end

-- the indexes of an order, each behind a blank
unfoldable pub with_indexes : List ℕ → List ℕ → List ℕ
with_indexes text [] = text
with_indexes text (i ∷ l) = with_indexes (text ++ blank ++ decimal_word i) l

-- order ok INDEX ..
abbrev pub order_line : List ℕ → List ℕ
order_line entries = with_indexes order_word entries ++ line_end

-- order refused NUMBER PLACE
abbrev pub no_order_line : ℕ → ℕ → List ℕ
no_order_line number place = with_fault no_order_word number place ++ line_end

-- a line's text, of so many characters at the start of a buffer
pub record Said (text : List ℕ) (n : ℕ) (out : List ℕ) : Type 0 where
  pub inside : n ≤ length out
  pub is : take n out ≡ text

-- the text at the start of a buffer, and every byte behind it as it was
abbrev pub Puts : List ℕ → List ℕ → ℕ → List ℕ → Type 0
Puts text old n out = Said text n out × (drop n out ≡ drop n old)

-- a line with a piece behind what was put, and every byte behind it as it was
pub record Appends (old new : Line) (piece : List ℕ) : Type 0 where
  pub long : length new.out.now ≡ length old.out.now
  pub is : new.length ≡ old.length + length piece
  pub text : take new.length new.out.now ≡ take old.length old.out.now ++ piece
  pub behind : (n : ℕ) → new.length ≤ n → drop n new.out.now ≡ drop n old.out.now

-- ---- words

-- the text of the line's word number k
abbrev pub word_text : List ℕ → ℕ → List ℕ
word_text line k = let w = word_number line k in take (w.to - w.from) (drop w.from line)
