-- From the public entry's contracts to what C is told.
use Prim.Native.Nat.{ℕ}
use mathlib.Core.List.{List}
use mathlib.Core.Path.{◌≡◌, refl, sym, ap, ◌∙◌}
use Rattle.ol_spec.specs.Answers.{measured_fault, verdict_fault, sorted_fault, started_fault, cycled_fault}
use Rattle.ol_spec.specs.Cycle.{OrderingCall, StartCall, CycleCall}
use Rattle.ol_spec.specs.declared.Fault.{Fault}
use Rattle.ol_spec.specs.declared.Lengths.{Lengths}
use Rattle.ol_spec.specs.Answers.{Measured, Verdict, Sorted, Started}
use Rattle.std.specs.Prelude.{Result, Ok, Err}
use Rattle.ol_spec.specs.declared.Cycled.{Cycled}
use Rattle.ol_sim.specs.Calls.{MeasuresAs, OrdersAs, StartsAs, CyclesAs}
use Rattle.ol_sim_c.specs.Told.{fault_of, Tells, size_after, lengths_after, Measures, Admits, Orders, Starts, Cycles}

-- a fault told is an equal fault told
pub tells_same : {x : Fault} {number place : ℕ} → Tells x number place → (y : Fault) → x ≡ y → Tells y number place
tells_same t y e = record { number_is = t.number_is ∙ ap (λ (z : Fault). z.number) e; place_is = t.place_is ∙ ap (λ (z : Fault). z.place) e }

-- the fault of each kind of answer is that of a Result
of_verdict : (v : Verdict) → fault_of v ≡ verdict_fault v
of_verdict (Ok n) = refl
of_verdict (Err x) = refl

of_sorted : (r : Sorted) → fault_of r ≡ sorted_fault r
of_sorted (Ok tt) = refl
of_sorted (Err x) = refl

of_started : (r : Started) → fault_of r ≡ started_fault r
of_started (Ok tt) = refl
of_started (Err x) = refl

-- an answer of this case, with what is written there
pub measures :
    {w m d : Measured} {x : Fault} {number place : ℕ} (before after : Lengths) → MeasuresAs w m → m ≡ d → x ≡ measured_fault d → after ≡ lengths_after d before → Tells x number place
    → Measures w before number place after
measures {w} {m} {d} before after h e f a t =
    let is : d ≡ w = sym e ∙ h.answered in
    record { told = tells_same t (measured_fault w) (f ∙ ap measured_fault is); lengths_are = a ∙ ap (λ x. lengths_after x before) is }

pub admits :
    {x : Fault} {number place : ℕ} → (v w : Verdict) (before size : ℕ) → v ≡ w → size ≡ size_after v before → x ≡ fault_of v → Tells x number place
    → Admits w before number place size
admits v w before size e z f t = record { told = tells_same t (verdict_fault w) (f ∙ of_verdict v ∙ ap verdict_fault e); size_is = z ∙ ap (λ x. size_after x before) e }

pub orders :
    {w : OrderingCall} {r : Sorted} {buffer : List ℕ} {x : Fault} {number place : ℕ} → OrdersAs w r buffer → x ≡ fault_of r → Tells x number place
    → Orders w number place buffer
orders {w} {r} o f t = record { told = tells_same t (sorted_fault w.answer) (f ∙ of_sorted r ∙ ap sorted_fault o.answered); written = o.written }

pub starts :
    {w : StartCall} {r : Started} {state : List ℕ} {x : Fault} {number place : ℕ} → StartsAs w r state → x ≡ fault_of r → Tells x number place
    → Starts w number place state
starts {w} {r} o f t = record { told = tells_same t (started_fault w.answer) (f ∙ of_started r ∙ ap started_fault o.answered); written = o.written }

pub cycles :
    {w : CycleCall} {r : Cycled} {new values : List ℕ} {x : Fault} {number place : ℕ} → CyclesAs w r new values → x ≡ cycled_fault r → Tells x number place
    → Cycles w number place new values
cycles {w = w} o f t =
    record { told = tells_same t (cycled_fault w.answer) (f ∙ ap cycled_fault o.answered); renewed = o.renewed; valued = o.valued }
