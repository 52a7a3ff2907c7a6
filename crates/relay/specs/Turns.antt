-- The input as lines: what a turn of the loop does with the bytes that a read gave.
-- Free are which bytes a read gives and how many at a time, and whether a write takes them: the contracts of read and write leave that open.
use Rattle.std.specs.Prelude.{ℕ, ◌+◌, ◌≤◌, ◌<◌, min, Bool, true, false, cond, List, [], ◌∷◌, ◌++◌, ◌≡◌, length, take, drop, eqb}
use Rattle.relay.specs.Reply.{reply}
use Rattle.relay.specs.Kept.{standing, Replies}
use Rattle.relay.specs.declared.Input.{Input}
use Rattle.relay.specs.declared.Turn.{Turn}
use Rattle.relay.specs.declared.session.Session.{Session}

-- the bytes up to the first line's end, those behind it, and whether there is one
unfoldable pub line_of : List ℕ → List ℕ
line_of [] = []
line_of (x ∷ l) = cond (eqb x 10) [] (x ∷ line_of l)

unfoldable pub rest_of : List ℕ → List ℕ
rest_of [] = []
rest_of (x ∷ l) = cond (eqb x 10) l (rest_of l)

unfoldable pub has_end : List ℕ → Bool
has_end [] = false
has_end (x ∷ l) = cond (eqb x 10) true (has_end l)

-- a line, of which no more is kept than shows that it is too long
abbrev pub cut : List ℕ → List ℕ
cut l = take 262145 l

-- what of the input is not taken yet, and what there is of the line
abbrev pub unread : Input → List ℕ → List ℕ
unread i input = drop i.at (take i.end input)

abbrev pub begun : Input → List ℕ → List ℕ
begun i line = take i.length line

-- whether a line of so many bytes waits for more: its end is not met, and the input goes on, or there is nothing of the line
abbrev pub waits_for : Bool → Bool → ℕ → Bool
waits_for is_whole at_end n = cond is_whole false (cond at_end (eqb n 0) true)

abbrev pub waiting : Input → Bool
waiting i = waits_for i.is_whole i.is_end i.length

-- the number of the line behind this one; the last number there is stays
abbrev pub after : ℕ → ℕ
after n = min (n + 1) 18446744073709551615

-- the line goes on up to its end, or the input's; the rest is kept. Behind a line's end the input is not at its end
pub record Takes (line unread : List ℕ) (at_end : Bool) (r : Input) (line' input : List ℕ) : Type 0 where
  pub whole : r.is_whole ≡ has_end unread
  pub gone_on : take r.length line' ≡ cut (line ++ line_of unread)
  pub left : drop r.at (take r.end input) ≡ rest_of unread
  pub ended : r.is_end ≡ cond (has_end unread) false at_end
  pub long : length line' ≡ 262145

-- a read, where nothing is unread. Which bytes it gives is free; they stand at the start of the buffer, and the input is at its end exactly if there are none
pub record Refills (i : Input) (input : List ℕ) (r : Input) (input' : List ℕ) : Type 0 where
  pub begun_is : r.length ≡ i.length
  pub kept : i.at < i.end → (r ≡ i) × (input' ≡ input)
  pub fresh : ¬ (i.at < i.end) → (r.at ≡ 0) × (r.end ≤ length input') × (r.is_end ≡ eqb r.end 0)

-- what there is of the line once what is unread is taken, and whether the line waits for more then
abbrev pub gone : Input → List ℕ → List ℕ → List ℕ
gone i line input = cut (begun i line ++ line_of (unread i input))

abbrev pub waits_at : Input → Turn → List ℕ → List ℕ → Bool
waits_at i r line input = waits_for (has_end (unread i input)) r.input.is_end (length (gone i line input))

-- a turn, from t to r, with the input i: a line whose end is met is answered, and so is a last line without one, if there is anything of it; the next line has the next number, and what is behind the line stays unread.
-- Else the line waits for more, and what stands stays; the run is over then only if the input is at its end
pub record Turned (t : Turn) (i : Input) (r : Turn) (line input : List ℕ) (s : Session) (line' : List ℕ) (s' : Session) : Type 0 where
  pub left : unread r.input input ≡ rest_of (unread i input)
  pub ended : r.input.is_end ≡ cond (has_end (unread i input)) false i.is_end
  pub over : r.is_over ≡ false → r.input.is_end ≡ false
  pub answered : waits_at i r line input ≡ false → (n : ℕ) × Replies (reply t.line (gone i line input) (standing s)) n s'
  pub next : waits_at i r line input ≡ false → (begun r.input line' ≡ []) × (r.line ≡ after t.line)
  pub waits : waits_at i r line input ≡ true → (begun r.input line' ≡ gone i line input) × (standing s' ≡ standing s)
  pub waits_too : waits_at i r line input ≡ true → (r.line ≡ t.line) × (s'.out ≡ s.out) × (r.is_over ≡ r.input.is_end)
