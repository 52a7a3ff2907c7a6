-- What the public functions answer and write, as their contracts say it: the answer itself, its number and place, and every byte written.
use Rattle.std.specs.Prelude.{ℕ, List, ◌≡◌}
use Rattle.ol_spec.specs.Answers.{Verdict, Measured, Sorted, Started, measured_fault, verdict_fault, verdict_length, sorted_fault, started_fault, cycled_fault}
use Rattle.ol_spec.specs.Cycle.{OrderingCall, StartCall, CycleCall}
use Rattle.ol_spec.specs.declared.Cycled.{Cycled}

-- the lengths
pub record MeasuresAs (w r : Measured) : Type 0 where
  pub answered : r ≡ w
  pub told : measured_fault r ≡ measured_fault w

-- the admission: the verdict, with the state's length
pub record AdmitsAs (w r : Verdict) : Type 0 where
  pub answered : r ≡ w
  pub told : verdict_fault r ≡ verdict_fault w
  pub long : verdict_length r ≡ verdict_length w

-- the ordering: the answer, and the buffer
pub record OrdersAs (w : OrderingCall) (r : Sorted) (buffer : List ℕ) : Type 0 where
  pub answered : r ≡ w.answer
  pub told : sorted_fault r ≡ sorted_fault w.answer
  pub written : buffer ≡ w.buffer

-- the start: the answer, and the state's buffer
pub record StartsAs (w : StartCall) (r : Started) (state : List ℕ) : Type 0 where
  pub answered : r ≡ w.answer
  pub told : started_fault r ≡ started_fault w.answer
  pub written : state ≡ w.state

-- the cycle: the answer, the new state and the values
pub record CyclesAs (w : CycleCall) (r : Cycled) (new values : List ℕ) : Type 0 where
  pub answered : r ≡ w.answer
  pub told : cycled_fault r ≡ cycled_fault w.answer
  pub renewed : new ≡ w.new
  pub valued : values ≡ w.values
