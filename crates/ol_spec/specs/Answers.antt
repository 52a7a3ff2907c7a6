-- What each answer stands for: document 01's number and place, and the state's length where admission reports it. The number 0 stands for no fault.
use Rattle.std.specs.Prelude.{ℕ, Result, Ok, Err}
use Rattle.ol_spec.specs.declared.Fault.{Fault}
use Rattle.ol_spec.specs.declared.Cause.{Cause}
use Rattle.ol_spec.specs.declared.Cause.TheVariants as Why
use Rattle.ol_spec.specs.declared.Outcome.{Outcome}
use Rattle.ol_spec.specs.declared.Outcome.TheVariants as Out
use Rattle.ol_spec.specs.declared.Lengths.{Lengths}
use Rattle.ol_spec.specs.declared.Cycled.{Cycled}
use Rattle.ol_spec.specs.declared.Cycled.TheVariants as Cyc

-- what admission answers: the length of the file's state, or the first fault
abbrev pub Verdict : Type 0
Verdict = Result ℕ Fault

-- what is answered where the lengths are asked for
abbrev pub Measured : Type 0
Measured = Result Lengths Fault

-- what the ordering answers
abbrev pub Sorted : Type 0
Sorted = Result (Unit {0}) Fault

-- what the start answers
abbrev pub Started : Type 0
Started = Result (Unit {0}) Fault

abbrev pub fault_at : ℕ → ℕ → Fault
fault_at n p = record { number = n; place = p }

abbrev pub no_fault : Fault
no_fault = fault_at 0 0

abbrev pub verdict_fault : Verdict → Fault
verdict_fault (Ok n) = no_fault
verdict_fault (Err x) = x

-- the state's length, 0 for a file that is not admitted
abbrev pub verdict_length : Verdict → ℕ
verdict_length (Ok n) = n
verdict_length (Err x) = 0

abbrev pub measured_fault : Measured → Fault
measured_fault (Ok l) = no_fault
measured_fault (Err x) = x

abbrev pub sorted_fault : Sorted → Fault
sorted_fault (Ok tt) = no_fault
sorted_fault (Err x) = x

abbrev pub started_fault : Started → Fault
started_fault (Ok tt) = no_fault
started_fault (Err x) = x

abbrev pub cycled_fault : Cycled → Fault
cycled_fault Cyc.Answered = no_fault
cycled_fault (Cyc.Stopped x) = x
cycled_fault (Cyc.Refused x) = x

-- the number of a failure: a `pre` in a first cycle; a zero divisor or a shift count outside 0..63; anything else
abbrev pub cause_number : Cause → ℕ
cause_number Why.Cold = 18
cause_number Why.Range = 20
cause_number Why.Other = 21

-- the number of a cycle whose main equation has this outcome: how a stopped cycle is numbered (Cycle)
abbrev pub outcome_number : Outcome → ℕ
outcome_number (Out.Value v) = 0
outcome_number (Out.Failure c) = cause_number c
outcome_number Out.Overflow = 19
