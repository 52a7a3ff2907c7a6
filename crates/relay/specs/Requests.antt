-- What a line asks for: oracle/README.md's protocol, line by line.
use Rattle.std.specs.Prelude.{ℕ, ◌+◌, Bool, cond, ◌||◌, List, [], ◌∷◌, length, get_or, eqb, ltb, leb, Option, Some, None, Result, Ok, Err}
use Rattle.ol_spec.specs.Lists.{same}
use Rattle.relay_text.specs.Text.{word_from, words_up_to, bytes_of, number_of}
use Rattle.relay_text.specs.Lines.{word_text}
use Rattle.relay.specs.declared.request.Command.{Command}
use Rattle.relay.specs.declared.request.Command.TheVariants as Com
use Rattle.relay.specs.declared.request.Lent.{Lent}
use Rattle.relay.specs.declared.request.Reason.{Reason}
use Rattle.relay.specs.declared.request.Reason.TheVariants as Why

-- what is asked about the file that is open: a node's order; the start; a state to go on from; a cycle, from the state that stands or from one that is given
pub data Asked : Type 0 where
  order_of : ℕ → Asked
  start_again : Asked
  load_of : List ℕ → Asked
  cycle_of : List ℕ → Option Lent → Asked
  cycle_at : List ℕ → List ℕ → Option Lent → Asked

-- a line that says nothing; one that is wrong; a file; a question about the file
pub data Line : Type 0 where
  silent : Line
  wrong : Reason → Line
  file_of : List ℕ → Line
  about : Asked → Line

-- ---- the command

-- file, order, start, load, cycle, at
abbrev pub file_word : List ℕ
file_word = 102 ∷ 105 ∷ 108 ∷ 101 ∷ []

abbrev pub order_name : List ℕ
order_name = 111 ∷ 114 ∷ 100 ∷ 101 ∷ 114 ∷ []

abbrev pub start_word : List ℕ
start_word = 115 ∷ 116 ∷ 97 ∷ 114 ∷ 116 ∷ []

abbrev pub load_word : List ℕ
load_word = 108 ∷ 111 ∷ 97 ∷ 100 ∷ []

abbrev pub cycle_word : List ℕ
cycle_word = 99 ∷ 121 ∷ 99 ∷ 108 ∷ 101 ∷ []

abbrev pub at_word : List ℕ
at_word = 97 ∷ 116 ∷ []

-- the command that a word names
unfoldable pub command_of : List ℕ → Result Command Reason
command_of t =
    cond (same t file_word) (Ok Com.File)
    (cond (same t order_name) (Ok Com.Order)
    (cond (same t start_word) (Ok Com.Start)
    (cond (same t load_word) (Ok Com.Load) (cond (same t cycle_word) (Ok Com.Cycle) (cond (same t at_word) (Ok Com.At) (Err Why.UnknownCommand))))))

-- whether a command may have so many words, its own included
abbrev pub fits_words : Command → ℕ → Bool
fits_words Com.File n = eqb n 2
fits_words Com.Order n = eqb n 2
fits_words Com.Start n = eqb n 1
fits_words Com.Load n = eqb n 2
fits_words Com.Cycle n = eqb n 2 || eqb n 4
fits_words Com.At n = eqb n 3 || eqb n 5

-- ---- its words

-- with the bytes that a word stands for, or in error
abbrev pub with_bytes : Option (List ℕ) → (List ℕ → Line) → Line
with_bytes None k = wrong Why.MalformedHexadecimal
with_bytes (Some b) k = k b

abbrev pub with_number : Option ℕ → (ℕ → Line) → Line
with_number None k = wrong Why.MalformedNumber
with_number (Some n) k = k n

-- with what a line gives, or in error
abbrev pub with_ok : {A : Type 0} → Result A Reason → (A → Line) → Line
with_ok (Ok x) k = k x
with_ok (Err why) k = wrong why

-- two numbers as the lengths of the new state and of the values
abbrev pub both_of : Option ℕ → Option ℕ → Result (Option Lent) Reason
both_of (Some n) (Some v) = Ok (Some (record { state = n; values = v }))
both_of (Some n) None = Err Why.MalformedNumber
both_of None v = Err Why.MalformedNumber

-- the lengths that a line gives from its word number k on, if it goes on so far
abbrev pub lengths_of : List ℕ → ℕ → Result (Option Lent) Reason
lengths_of line k = cond (leb (words_up_to 6 line 0) k) (Ok None) (both_of (number_of (word_text line k)) (number_of (word_text line (k + 1))))

-- ---- the line

abbrev pub asked_by : Command → List ℕ → Line
asked_by Com.File line = with_bytes (bytes_of (word_text line 1)) file_of
asked_by Com.Order line = with_number (number_of (word_text line 1)) (λ n. about (order_of n))
asked_by Com.Start line = about start_again
asked_by Com.Load line = with_bytes (bytes_of (word_text line 1)) (λ b. about (load_of b))
asked_by Com.Cycle line = with_ok (lengths_of line 2) (λ l. with_bytes (bytes_of (word_text line 1)) (λ i. about (cycle_of i l)))
asked_by Com.At line =
    with_ok (lengths_of line 3) (λ l. with_bytes (bytes_of (word_text line 2)) (λ i. with_bytes (bytes_of (word_text line 1)) (λ b. about (cycle_at b i l))))

-- a line without a word, or whose first word begins with #
abbrev pub is_silent : List ℕ → Bool
is_silent line = eqb (get_or line (word_from line 0) 35) 35

abbrev pub asks_as : Command → List ℕ → Line
asks_as c line = cond (fits_words c (words_up_to 6 line 0)) (asked_by c line) (wrong Why.WrongWords)

-- the most characters that a line may have
abbrev pub longest : ℕ
longest = 262144

unfoldable pub asks : List ℕ → Line
asks line = cond (ltb longest (length line)) (wrong Why.LineTooLong) (cond (is_silent line) silent (with_ok (command_of (word_text line 0)) (λ c. asks_as c line)))
