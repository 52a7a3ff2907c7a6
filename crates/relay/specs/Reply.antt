-- What a line is answered with, and what stands then: oracle/README.md's protocol over the public calls.
use Rattle.std.specs.Prelude.{ℕ, ◌*◌, ◌&&◌, ◌||◌, cond, List, [], ◌∷◌, length, replicate, eqb, leb, Option, Some, None, Ok, Err}
use Rattle.ol_spec.specs.Limits.{relay_loader}
use Rattle.ol_spec.specs.Syntax.{main}
use Rattle.ol_spec.specs.Step.{cell_count}
use Rattle.ol_spec.specs.Read.{read_file}
use Rattle.ol_spec.specs.Admission.{Judged, refused, admitted, judge, admission}
use Rattle.ol_spec.specs.Answers.{verdict_fault, verdict_length}
use Rattle.ol_spec.specs.Cycle.{OrderingCall, CycleCall, ordering, start, cycle}
use Rattle.ol_spec.specs.Demand3.{next_state}
use Rattle.ol_spec.specs.declared.Fault.{Fault}
use Rattle.ol_spec.specs.Answers.{Verdict}
use Rattle.ol_spec.specs.Answers.{Sorted}
use Rattle.ol_spec.specs.declared.Cycled.{Cycled}
use Rattle.ol_spec.specs.declared.Cycled.TheVariants as Cyc
use Rattle.ol_order.specs.Counts.{equations_of}
use Rattle.relay_text.specs.Lines.{error_line, refused_line, admit_line, state_line, answered_line, stopped_line, order_line, no_order_line}
use Rattle.relay.specs.Requests.{Asked, order_of, start_again, load_of, cycle_of, cycle_at, Line, silent, wrong, file_of, about, asks}
use Rattle.relay.specs.declared.request.Lent.{Lent}
use Rattle.relay.specs.declared.request.Reason.{Reason}
use Rattle.relay.specs.declared.request.Reason.TheVariants as Why

-- what the lines so far have set up: no file yet, or a file and the state that its next cycle starts from (nothing where the file is not admitted)
pub data Standing : Type 0 where
  closed : Standing
  opened : List ℕ → List ℕ → Standing

-- the answer's text, its line's end included, and what stands then
pub record Reply : Type 0 where
  pub text : List ℕ
  pub stands : Standing

-- the same of a command about the file, where only the state can change
pub record Told : Type 0 where
  pub text : List ℕ
  pub state : List ℕ

-- ---- errors

-- line too long; unknown command; wrong number of words; malformed number; malformed hexadecimal; no file
abbrev pub reason_text : Reason → List ℕ
reason_text Why.LineTooLong = 108 ∷ 105 ∷ 110 ∷ 101 ∷ 32 ∷ 116 ∷ 111 ∷ 111 ∷ 32 ∷ 108 ∷ 111 ∷ 110 ∷ 103 ∷ []
reason_text Why.UnknownCommand = 117 ∷ 110 ∷ 107 ∷ 110 ∷ 111 ∷ 119 ∷ 110 ∷ 32 ∷ 99 ∷ 111 ∷ 109 ∷ 109 ∷ 97 ∷ 110 ∷ 100 ∷ []
reason_text Why.WrongWords =
    119 ∷ 114 ∷ 111 ∷ 110 ∷ 103 ∷ 32 ∷ 110 ∷ 117 ∷ 109 ∷ 98 ∷ 101 ∷ 114 ∷ 32 ∷ 111 ∷ 102 ∷ 32 ∷ 119 ∷ 111 ∷ 114 ∷ 100 ∷ 115 ∷ []
reason_text Why.MalformedNumber = 109 ∷ 97 ∷ 108 ∷ 102 ∷ 111 ∷ 114 ∷ 109 ∷ 101 ∷ 100 ∷ 32 ∷ 110 ∷ 117 ∷ 109 ∷ 98 ∷ 101 ∷ 114 ∷ []
reason_text Why.MalformedHexadecimal =
    109 ∷ 97 ∷ 108 ∷ 102 ∷ 111 ∷ 114 ∷ 109 ∷ 101 ∷ 100 ∷ 32 ∷ 104 ∷ 101 ∷ 120 ∷ 97 ∷ 100 ∷ 101 ∷ 99 ∷ 105 ∷ 109 ∷ 97 ∷ 108 ∷ []
reason_text Why.NoFile = 110 ∷ 111 ∷ 32 ∷ 102 ∷ 105 ∷ 108 ∷ 101 ∷ []

abbrev pub error_reply : ℕ → Reason → Standing → Reply
error_reply number why st = record { text = error_line number (reason_text why); stands = st }

-- ---- buffers that a call is lent: what they hold before is free, and zeros here

abbrev pub zeros : ℕ → List ℕ
zeros n = replicate n 0

abbrev pub refusal : Fault → List ℕ
refusal x = refused_line x.number x.place

-- ---- file HEX, start

-- the fresh state, of a file that is not admitted nothing
abbrev pub fresh_of : List ℕ → List ℕ
fresh_of file = (start relay_loader file (zeros (verdict_length (admission relay_loader file)))).state

abbrev pub admit_text : Verdict → List ℕ
admit_text v = admit_line (verdict_fault v).number (verdict_fault v).place (verdict_length v)

abbrev pub start_text : Verdict → List ℕ → List ℕ
start_text (Ok n) state = state_line state
start_text (Err x) state = refusal x

-- ---- order NODE

abbrev pub order_ends : Sorted → List ℕ → List ℕ
order_ends (Ok tt) entries = order_line entries
order_ends (Err x) entries = no_order_line x.number x.place

abbrev pub order_text : OrderingCall → List ℕ
order_text w = order_ends w.answer w.buffer

-- the ordering, with an entry for each equation of the node
abbrev pub order_call : List ℕ → ℕ → OrderingCall
order_call file k = ordering relay_loader file k (zeros (equations_of (read_file file relay_loader) k))

-- ---- load STATE

-- what a cycle is refused with for its file or its old state (1 to 15 and 22)
abbrev pub state_fault : Cycled → Option Fault
state_fault Cyc.Answered = None
state_fault (Cyc.Stopped x) = None
state_fault (Cyc.Refused x) = cond ((leb 1 x.number && leb x.number 15) || eqb x.number 22) (Some x) None

abbrev pub load_fault : List ℕ → List ℕ → Option Fault
load_fault file state = state_fault (cycle relay_loader file state [] [] []).answer

-- loaded
abbrev pub loaded_line : List ℕ
loaded_line = 108 ∷ 111 ∷ 97 ∷ 100 ∷ 101 ∷ 100 ∷ 10 ∷ []

abbrev pub load_by : Option Fault → List ℕ → List ℕ → Told
load_by None state given = record { text = loaded_line; state = given }
load_by (Some x) state given = record { text = refusal x; state = state }

abbrev pub load_told : List ℕ → List ℕ → List ℕ → Told
load_told file given state = load_by (load_fault file given) state given

-- ---- cycle INPUTS [LENGTHS]

-- the length of a file's values
abbrev pub values_length : Judged → ℕ
values_length (admitted f vs) = 9 * cell_count (main f)
values_length (refused n p) = 0

-- a cycle's text, from its answer, the new state and the values
abbrev pub end_text : Cycled → List ℕ → List ℕ → List ℕ
end_text Cyc.Answered new values = answered_line values new
end_text (Cyc.Stopped x) new values = stopped_line x.number x.place new
end_text (Cyc.Refused x) new values = refusal x

abbrev pub end_told : CycleCall → List ℕ → Told
end_told w old = record { text = end_text w.answer w.new w.values; state = next_state w.answer old w.new }

-- the cycle that is lent a new state and values of the lengths that the line gives; else of the right ones
abbrev pub cycle_call : List ℕ → List ℕ → List ℕ → Option Lent → CycleCall
cycle_call file old inputs (Some l) = cycle relay_loader file old inputs (zeros l.state) (zeros l.values)
cycle_call file old inputs None = cycle relay_loader file old inputs (zeros (length old)) (zeros (values_length (judge relay_loader file)))

abbrev pub cycle_told : List ℕ → List ℕ → Option Lent → List ℕ → Told
cycle_told file inputs l state = end_told (cycle_call file state inputs l) state

-- ---- at STATE INPUTS [LENGTHS]: load and cycle in one

abbrev pub at_by : Option Fault → List ℕ → List ℕ → List ℕ → Option Lent → List ℕ → Told
at_by None file given inputs l state = cycle_told file inputs l given
at_by (Some x) file given inputs l state = record { text = refusal x; state = state }

abbrev pub at_told : List ℕ → List ℕ → List ℕ → Option Lent → List ℕ → Told
at_told file given inputs l state = at_by (load_fault file given) file given inputs l state

-- ---- the reply

-- what is asked about a file and its state
abbrev pub told : Asked → List ℕ → List ℕ → Told
told (order_of k) file state = record { text = order_text (order_call file k); state = state }
told start_again file state = record { text = start_text (admission relay_loader file) (fresh_of file); state = fresh_of file }
told (load_of given) file state = load_told file given state
told (cycle_of inputs l) file state = cycle_told file inputs l state
told (cycle_at given inputs l) file state = at_told file given inputs l state

abbrev pub on_file : List ℕ → Told → Reply
on_file file t = record { text = t.text; stands = opened file t.state }

abbrev pub tell_about : ℕ → Asked → Standing → Reply
tell_about number q closed = error_reply number Why.NoFile closed
tell_about number q (opened file state) = on_file file (told q file state)

abbrev pub obey : ℕ → Line → Standing → Reply
obey number silent st = record { text = []; stands = st }
obey number (wrong why) st = error_reply number why st
obey number (file_of file) st = record { text = admit_text (admission relay_loader file); stands = opened file (fresh_of file) }
obey number (about q) st = tell_about number q st

-- the line's number, the line without its end, and what stands
unfoldable pub reply : ℕ → List ℕ → Standing → Reply
reply number line st = obey number (asks line) st
