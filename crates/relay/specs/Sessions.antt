-- A whole run: the lines of the bytes that the reads gave, and what they are answered with in turn.
-- Free are which bytes the reads gave (`read` of `Served`) and whether the writes took the answers: the contracts of read and write leave that open.
use Rattle.std.specs.Prelude.{ℕ, ◌+◌, ◌<◌, true, false, cond, List, [], ◌∷◌, ◌++◌, ◌≡◌, length, eqb}
use Rattle.relay_text.specs.Lines.{Said}
use Rattle.relay.specs.Reply.{Standing, closed, reply}
use Rattle.relay.specs.Kept.{standing}
use Rattle.relay.specs.Turns.{cut, unread, begun}
use Rattle.relay.specs.declared.Turn.{Turn}
use Rattle.relay.specs.declared.session.Session.{Session}

-- ---- lines

-- what there is of a line behind one more byte, and the line that this byte ends, if it is a line's end
abbrev pub behind : List ℕ → ℕ → List ℕ
behind line x = cond (eqb x 10) [] (line ++ (x ∷ []))

abbrev pub ended_by : List ℕ → ℕ → List (List ℕ)
ended_by line x = cond (eqb x 10) (line ∷ []) []

-- the lines that end in these bytes, in turn, each without its end; `line` is what there is of the first
unfoldable pub lines_from : List ℕ → List ℕ → List (List ℕ)
lines_from line [] = []
lines_from line (x ∷ l) = ended_by line x ++ lines_from (behind line x) l

-- what there is then of a line that has not ended
unfoldable pub tail_from : List ℕ → List ℕ → List ℕ
tail_from line [] = line
tail_from line (x ∷ l) = tail_from (behind line x) l

-- the whole lines of an input, and what is behind the last of them
abbrev pub lines_of : List ℕ → List (List ℕ)
lines_of l = lines_from [] l

abbrev pub tail_of : List ℕ → List ℕ
tail_of l = tail_from [] l

-- a last line without an end, if there is anything of it
abbrev pub last_line : List ℕ → List (List ℕ)
last_line [] = []
last_line (x ∷ l) = (x ∷ l) ∷ []

-- all lines of an input
abbrev pub all_lines : List ℕ → List (List ℕ)
all_lines l = lines_of l ++ last_line (tail_of l)

-- ---- a session

-- the answers' texts, one for each line, and what stands then
pub record Answers : Type 0 where
  pub texts : List (List ℕ)
  pub stands : Standing

-- lines in turn, the first under this number, each of the others under the next
unfoldable pub session : ℕ → List (List ℕ) → Standing → Answers
session number [] st = record { texts = []; stands = st }
session number (line ∷ lines) st =
    let r = reply number line st in
    let s = session (number + 1) lines r.stands in
    record { texts = r.text ∷ s.texts; stands = s.stands }

-- the last text, or t
unfoldable pub last_text : List ℕ → List (List ℕ) → List ℕ
last_text t [] = t
last_text t (u ∷ us) = last_text u us

-- a run that ends at r, having read these bytes: the lines of `answered` were answered in turn, from number 1 on, and stand at the front of the lines that were read; the lines behind them are in `begins` and what is unread.
-- Once the input is at its end, `answered` is all lines, also a last one without an end. At the start of the buffer is the last text
pub record Served (r : Turn) (line input : List ℕ) (s : Session) : Type 0 where
  pub read : List ℕ
  pub answered : List (List ℕ)
  pub begins : List ℕ
  pub in_turn : r.input.is_end ≡ false → lines_of read ≡ answered ++ lines_from begins (unread r.input input)
  pub tail : r.input.is_end ≡ false → tail_of read ≡ tail_from begins (unread r.input input)
  pub kept : r.input.is_end ≡ false → begun r.input line ≡ cut begins
  pub all : r.input.is_end ≡ true → answered ≡ all_lines read
  pub stands : standing s ≡ (session 1 answered closed).stands
  pub said : (n : ℕ) × Said (last_text [] (session 1 answered closed).texts) n s.out
  pub number : length answered < 18446744073709551615 → r.line ≡ 1 + length answered
