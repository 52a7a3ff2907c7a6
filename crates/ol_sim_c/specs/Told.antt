-- What a caller in C is told: the number as the function's result (0 where there is no fault), the place and the lengths through pointers.
use Rattle.std.specs.Prelude.{ℕ, List, ◌≡◌, Result, Ok, Err}
use Rattle.std.specs.Result.{result_unwrap_or}
use Rattle.ol_spec.specs.Answers.{Measured, Verdict, no_fault, measured_fault, verdict_fault, sorted_fault, started_fault, cycled_fault}
use Rattle.ol_spec.specs.Cycle.{OrderingCall, StartCall, CycleCall}
use Rattle.ol_spec.specs.declared.Fault.{Fault}
use Rattle.ol_spec.specs.declared.Lengths.{Lengths}

-- the fault that is answered, or none
abbrev pub fault_of : {T : Type 0} → Result T Fault → Fault
fault_of (Ok x) = no_fault
fault_of (Err x) = x

-- a fault, or that there is none
pub record Tells (x : Fault) (number place : ℕ) : Type 0 where
  pub number_is : number ≡ x.number
  pub place_is : place ≡ x.place

-- the lengths where they are answered; where they are refused what was there
abbrev pub lengths_after : Measured → Lengths → Lengths
lengths_after (Ok l) before = l
lengths_after (Err x) before = before

-- `ol_sim_lengths`: the answer, and the four lengths, which a refusal leaves as they were
pub record Measures (m : Measured) (before : Lengths) (number place : ℕ) (after : Lengths) : Type 0 where
  pub told : Tells (measured_fault m) number place
  pub lengths_are : after ≡ lengths_after m before

-- the state's length of a file that is admitted; of one that is refused what was there
abbrev pub size_after : Verdict → ℕ → ℕ
size_after v size = result_unwrap_or v size

-- `ol_sim_admit`: the verdict, and the state's length, which a refusal leaves as it was
pub record Admits (v : Verdict) (before number place size : ℕ) : Type 0 where
  pub told : Tells (verdict_fault v) number place
  pub size_is : size ≡ size_after v before

-- `ol_sim_order`: the answer, and the buffer
pub record Orders (w : OrderingCall) (number place : ℕ) (buffer : List ℕ) : Type 0 where
  pub told : Tells (sorted_fault w.answer) number place
  pub written : buffer ≡ w.buffer

-- `ol_sim_start`: the answer, and the state's buffer
pub record Starts (w : StartCall) (number place : ℕ) (state : List ℕ) : Type 0 where
  pub told : Tells (started_fault w.answer) number place
  pub written : state ≡ w.state

-- `ol_sim_cycle`: the answer, the new state and the values
pub record Cycles (w : CycleCall) (number place : ℕ) (new values : List ℕ) : Type 0 where
  pub told : Tells (cycled_fault w.answer) number place
  pub renewed : new ≡ w.new
  pub valued : values ≡ w.values
