-- What the program keeps of what stands, and what its functions are told and write.
use Rattle.std.specs.Prelude.{ℕ, ◌≤◌, ◌≡◌, List, length, take, min, Option, Some, None, Result, Ok, Err}
use Rattle.ol_spec.specs.Limits.{relay_loader}
use Rattle.ol_spec.specs.Admission.{judge, admission}
use Rattle.ol_spec.specs.Answers.{Verdict, verdict_length}
use Rattle.ol_spec.specs.Cycle.{CycleCall}
use Rattle.ol_spec.specs.Demand3.{Bytes, next_state}
use Rattle.ol_spec.specs.declared.Cycled.{Cycled}
use Rattle.relay_text.specs.Lines.{Said}
use Rattle.relay.specs.Requests.{Asked, order_of, start_again, load_of, cycle_of, cycle_at, Line, silent, wrong, file_of, about}
use Rattle.relay.specs.Reply.{Standing, closed, opened, Reply, Told, end_text, fresh_of, values_length}
use Rattle.relay.specs.declared.request.Lent.{Lent}
use Rattle.relay.specs.declared.request.Query.{Query}
use Rattle.relay.specs.declared.request.Query.TheVariants as Que
use Rattle.relay.specs.declared.request.Reason.{Reason}
use Rattle.relay.specs.declared.request.Request.{Request}
use Rattle.relay.specs.declared.request.Request.TheVariants as Req
use Rattle.relay.specs.declared.session.Kept.{Kept}
use Rattle.relay.specs.declared.session.Session.{Session}

-- what a request's lengths and two buffers stand for
abbrev pub asked_in : Query → List ℕ → List ℕ → Asked
asked_in (Que.Order k) bytes inputs = order_of k
asked_in Que.Start bytes inputs = start_again
asked_in (Que.Load k) bytes inputs = load_of (take k bytes)
asked_in (Que.Cycle j l) bytes inputs = cycle_of (take j inputs) l
asked_in (Que.At k j l) bytes inputs = cycle_at (take k bytes) (take j inputs) l

abbrev pub asked : Result Request Reason → List ℕ → List ℕ → Line
asked (Ok Req.Silent) bytes inputs = silent
asked (Ok (Req.File k)) bytes inputs = file_of (take k bytes)
asked (Ok (Req.About q)) bytes inputs = about (asked_in q bytes inputs)
asked (Err why) bytes inputs = wrong why

-- what stands, by the lengths of the file that is open and of its state, and the two buffers
abbrev pub stands_by : Option Kept → List ℕ → List ℕ → Standing
stands_by None file state = closed
stands_by (Some k) file state = opened (take k.file file) (take k.state state)

abbrev pub standing : Session → Standing
standing s = stands_by s.kept s.file s.state

-- the text at the start of the buffer, and what stands
pub record Replies (w : Reply) (n : ℕ) (s : Session) : Type 0 where
  pub said : Said w.text n s.out
  pub kept : standing s ≡ w.stands

-- the same of a command about the file that is open
pub record Tells (w : Told) (file : List ℕ) (n : ℕ) (s : Session) : Type 0 where
  pub said : Said w.text n s.out
  pub kept : standing s ≡ opened file w.state

-- a cycle that ends as this call does: the same text, and the same state for the next cycle
pub record Ends (w : CycleCall) (old : List ℕ) (r : Cycled) (new values : List ℕ) : Type 0 where
  pub text_is : end_text r new values ≡ end_text w.answer w.new w.values
  pub next_is : next_state r old new ≡ next_state w.answer old w.new

-- a file's verdict, and the fresh state at the start of the buffer
pub record Begins (file : List ℕ) (v : Verdict) (state : List ℕ) : Type 0 where
  pub judged : v ≡ admission relay_loader file
  pub fresh : take (verdict_length v) state ≡ fresh_of file
  pub within : verdict_length v ≤ length state

-- the lengths that a cycle of a file of bytes is lent: those that the line gives, as far as the buffers go; else the right ones
abbrev pub lends_as : Option Lent → List ℕ → List ℕ → Lent → Type 0
lends_as (Some g) file old l = (l.state ≡ min g.state 131072) × (l.values ≡ min g.values 32768)
lends_as None file old l = (l.state ≡ length old) × (l.values ≡ values_length (judge relay_loader file))

pub record Lends (file old : List ℕ) (given : Option Lent) (l : Lent) : Type 0 where
  pub right : lends_as given file old l
  pub of_bytes : Bytes file
  pub state_fits : l.state ≤ 131072
  pub values_fit : l.values ≤ 32768
