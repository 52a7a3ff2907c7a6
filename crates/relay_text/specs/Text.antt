-- What a line's words stand for, and what is written for bytes and numbers: oracle/README.md's protocol.
use Rattle.std.specs.Prelude.{ℕ, zero, suc, ◌+◌, ◌*◌, ◌-◌, ◌/◌, ◌%◌, ◌≤◌, ◌≡◌, Bool, true, false, cond, not, List, [], ◌∷◌, ◌++◌, length, take, drop, get_or, eqb, ltb, leb, Option, Some, None}
use Rattle.io.specs.Digits.{last_digits}
use Rattle.relay_text.specs.declared.Word.{Word}

-- ---- words

-- a space, or one of tab, line feed, vertical tab, form feed and carriage return
abbrev pub is_blank : ℕ → Bool
is_blank b = cond (eqb b 32) true (cond (ltb b 9) false (leb b 13))

-- whether a character is a blank, or is none
abbrev pub sort : Bool → ℕ → Bool
sort true b = is_blank b
sort false b = not (is_blank b)

-- how many characters of one sort stand at the beginning
unfoldable pub run : Bool → List ℕ → ℕ
run w [] = 0
run w (x ∷ l) = cond (sort w x) (suc (run w l)) 0

-- where the next word from a place on begins, and where it ends; both the line's end where there is none
abbrev pub word_from : List ℕ → ℕ → ℕ
word_from line at = at + run true (drop at line)

abbrev pub word_to : List ℕ → ℕ → ℕ
word_to line at = word_from line at + run false (drop (word_from line at) line)

abbrev pub word_at : List ℕ → ℕ → Word
word_at line at = record { from = word_from line at; to = word_to line at }

-- where the first k words from a place on end
unfoldable pub behind : List ℕ → ℕ → ℕ → ℕ
behind line zero at = at
behind line (suc k) at = behind line k (word_to line at)

-- the line's word number k, counted from 0
abbrev pub word_number : List ℕ → ℕ → Word
word_number line k = word_at line (behind line k 0)

-- how many words stand from a place on, k where there are more
unfoldable pub words_up_to : ℕ → List ℕ → ℕ → ℕ
words_up_to zero line at = 0
words_up_to (suc k) line at = cond (eqb (word_from line at) (word_to line at)) 0 (suc (words_up_to k line (word_to line at)))

-- ---- hexadecimal

-- a digit's value; none for what is no digit
abbrev pub hex_value : ℕ → Option ℕ
hex_value c =
    cond (ltb c 48) None
    (cond (leb c 57) (Some (c - 48)) (cond (ltb c 65) None (cond (leb c 70) (Some (c - 55)) (cond (ltb c 97) None (cond (leb c 102) (Some (c - 87)) None)))))

abbrev pub before : List ℕ → Option (List ℕ) → Option (List ℕ)
before xs None = None
before xs (Some l) = Some (xs ++ l)

-- two digits and what stands behind them
abbrev pub with_byte : Option ℕ → Option ℕ → Option (List ℕ) → Option (List ℕ)
with_byte (Some high) (Some low) rest = before ((high * 16 + low) ∷ []) rest
with_byte (Some high) None rest = None
with_byte None low rest = None

-- the bytes that digits stand for, two for each; none where one is left over or is no digit
unfoldable pub unhexed : List ℕ → Option (List ℕ)
unhexed [] = Some []
unhexed (a ∷ []) = None
unhexed (a ∷ b ∷ l) = with_byte (hex_value a) (hex_value b) (unhexed l)

-- the bytes that a word stands for: a hyphen alone is nothing at all
abbrev pub bytes_of : List ℕ → Option (List ℕ)
bytes_of t = cond (eqb (length t) 1) (cond (eqb (get_or t 0 0) 45) (Some []) (unhexed t)) (unhexed t)

-- two digits and what is written behind them; nothing where one is none
abbrev pub front_byte : Option ℕ → Option ℕ → List ℕ → List ℕ
front_byte (Some high) (Some low) rest = (high * 16 + low) ∷ rest
front_byte (Some high) None rest = []
front_byte None low rest = []

-- the bytes of the digits that stand before the first that is none, or that is left over
unfoldable pub unhexed_front : List ℕ → List ℕ
unhexed_front [] = []
unhexed_front (a ∷ []) = []
unhexed_front (a ∷ b ∷ l) = front_byte (hex_value a) (hex_value b) (unhexed_front l)

-- a buffer with these bytes at its start
abbrev pub onto : List ℕ → List ℕ → List ℕ
onto bytes old = bytes ++ drop (length bytes) old

-- what is found of them, at the start of a buffer
abbrev pub Decoded : Option (List ℕ) → Option ℕ → List ℕ → Type 0
Decoded o (Some n) out = (n ≤ length out) × (o ≡ Some (take n out))
Decoded o None out = o ≡ None

abbrev pub glyph_of : ℕ → ℕ
glyph_of d = cond (ltb d 10) (48 + d) (87 + d)

-- bytes in digits, two for each
unfoldable pub hexed : List ℕ → List ℕ
hexed [] = []
hexed (b ∷ l) = glyph_of (b / 16) ∷ glyph_of (b % 16) ∷ hexed l

-- the word for bytes
abbrev pub hex_word : List ℕ → List ℕ
hex_word bytes = cond (eqb (length bytes) 0) (45 ∷ []) (hexed bytes)

-- ---- numbers

-- a number above this one is told as one above this one
abbrev pub large : ℕ
large = 1000000000000000

abbrev pub with_digit : ℕ → ℕ → ℕ
with_digit v c = cond (ltb v large) (v * 10 + (c - 48)) v

-- the number that decimal digits stand for, behind those that stand for v
unfoldable pub number_from : ℕ → List ℕ → Option ℕ
number_from v [] = Some v
number_from v (c ∷ l) = cond (ltb c 48) None (cond (ltb 57 c) None (number_from (with_digit v c) l))

-- the number that a word stands for
abbrev pub number_of : List ℕ → Option ℕ
number_of t = cond (eqb (length t) 0) None (number_from 0 t)

-- how many decimal digits a number has, as far as the steps f go
unfoldable pub places : ℕ → ℕ → ℕ
places zero n = 1
places (suc f) n = cond (ltb n 10) 1 (suc (places f (n / 10)))

-- a 64-bit number in decimal digits
abbrev pub decimal_word : ℕ → List ℕ
decimal_word n = last_digits 10 (places 19 n) n
