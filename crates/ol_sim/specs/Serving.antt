-- What every call of the public functions gives: what it finds on the file's program, or the fault for which the file is not admitted.
use Rattle.std.specs.Prelude.{ℕ, List, ◌≡◌, Result, Ok, Err}
use denote.Ref.{Bor}
use Rattle.ol_spec.specs.Limits.{relay_loader}
use Rattle.ol_spec.specs.Admission.{judge, refused}
use Rattle.ol_spec.specs.Answers.{Measured, Verdict}
use Rattle.ol_spec.specs.declared.Fault.{Fault}
use Rattle.ol_tables.specs.At.{file_at}
use Rattle.ol_tables.specs.Tables.{Variants}
use Rattle.ol_sim.specs.Judging.{whole}
use Rattle.ol_sim.specs.Answering.{AnswerReady}
use Rattle.ol_sim.specs.declared.program.Program.{Program}

-- an admitted file with its tables
pub record Stands (p : Program) : Type 0 where
  pub ready : AnswerReady p.file.now p.tab.now p.size p.main
  pub tells : Variants (file_at p.file.now) p.names.now
  pub judged : judge relay_loader p.file.now ≡ whole (file_at p.file.now)

-- a call may be made on every admitted file
abbrev pub Callable : (Bor Program → Type 0) → Type 0
Callable Pre = (p : Bor Program) → Stands p.now → Pre p

-- a call on the program of the file s gives r and leaves f', or the file is not admitted and no call is made
abbrev pub Serves : {F R : Type 0} → (Bor Program → R → F → Type 0) → F → List ℕ → Result R Fault → F → Type 0
Serves Calls f s (Ok r) f' = (p : Bor Program) × (p.now.file.now ≡ s) × Calls p r f'
Serves Calls f s (Err x) f' = (judge relay_loader s ≡ refused x.number x.place) × (f' ≡ f)

-- the lengths as admission's verdict
abbrev pub verdict_of : Measured → Verdict
verdict_of (Ok l) = Ok l.state
verdict_of (Err x) = Err x
