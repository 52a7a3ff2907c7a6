-- The public calls as functions on bytes: the lengths, the ordering, the start and the cycle. Each gives its answer, and what every buffer holds that it was lent to write.
use Rattle.std.specs.Prelude.{ℕ, ◌+◌, ◌*◌, Bool, true, false, not, ◌&&◌, List, ◌++◌, length, take, drop, eqb, Ok, Err}
use Rattle.std.proofs.Math.Option.{Option, none, some}
use Rattle.std.proofs.Math.ListN.{get_elem?}
use Rattle.ol_spec.specs.Lists.{concat}
use Rattle.ol_spec.specs.Syntax.{Node, File, main}
use Rattle.ol_spec.specs.Places.{placed_nodes, placed_equations}
use Rattle.ol_spec.specs.Read.{read_file}
use Rattle.ol_spec.specs.Cell.{cells, values_of}
use Rattle.ol_spec.specs.Limits.{Loader}
use Rattle.ol_spec.specs.Read as Read
use Rattle.ol_spec.specs.Order.{order, unplaced}
use Rattle.ol_spec.specs.Step.{Ended, finished, failed_at, overflowed_at, Run, run, calls, cell_count, input_count, own_size, started_record}
use Rattle.ol_spec.specs.Admission.{place_at, Judged, refused, admitted, judge, head_size, state_size}
use Rattle.ol_spec.specs.State.{globals_of, fresh_state, good_state, good_inputs}
use Rattle.ol_spec.specs.declared.Value.{Value}
use Rattle.ol_spec.specs.Answers.{Measured, Sorted, Started, fault_at, outcome_number, cause_number}
use Rattle.ol_spec.specs.declared.Outcome.TheVariants as Out
use Rattle.ol_spec.specs.declared.Cycled.{Cycled}
use Rattle.ol_spec.specs.declared.Cycled.TheVariants as Cyc

-- ---- the lengths: admission's refusals, then 3 at place 0 for an absent node

abbrev pub measure_node : File → Option Node → Measured
measure_node f none = Err (fault_at 3 0)
measure_node f (some n) = Ok (record { state = state_size f; inputs = 9 * input_count (main f); values = 9 * cell_count (main f); equations = length n.equations })

abbrev pub measure : Judged → ℕ → Measured
measure (refused n p) k = Err (fault_at n p)
measure (admitted f vs) k = measure_node f (get_elem? f.nodes k)

-- the file's bytes, and the number of the node whose equations are counted
unfoldable pub lengths : Loader → List ℕ → ℕ → Measured
lengths ld s k = measure (judge ld s) k

-- ---- the ordering: 1 to 5, 3 at place 0 for an absent node, then 11, then 17. Entry k gets the index of the equation that runs k-th

pub record OrderingCall : Type 0 where
  pub answer : Sorted
  pub buffer : List ℕ

abbrev pub no_order : ℕ → ℕ → List ℕ → OrderingCall
no_order n p buf = record { answer = Err (fault_at n p); buffer = buf }

abbrev pub order_fits : Bool → Node → List ℕ → OrderingCall
order_fits true n buf = record { answer = Ok tt; buffer = order n.equations }
order_fits false n buf = no_order 17 0 buf

abbrev pub order_unless_ring : Option ℕ → ℕ × Node → List ℕ → OrderingCall
order_unless_ring (some i) n buf = no_order 11 (place_at (placed_equations n.0 n.1) i) buf
order_unless_ring none n buf = order_fits (eqb (length buf) (length n.1.equations)) n.1 buf

abbrev pub order_node : Option (ℕ × Node) → List ℕ → OrderingCall
order_node none buf = no_order 3 0 buf
order_node (some n) buf = order_unless_ring (unplaced n.1.equations) n buf

abbrev pub order_read : Read.Read File → ℕ → List ℕ → OrderingCall
order_read (Read.got f at) k buf = order_node (get_elem? (placed_nodes f) k) buf
order_read (Read.fault n p) k buf = no_order n p buf

-- the file's bytes, a node number, and the buffer
unfoldable pub ordering : Loader → List ℕ → ℕ → List ℕ → OrderingCall
ordering ld s k buf = order_read (read_file s ld) k buf

-- ---- the start: 1 to 14 and 22, then 17. It writes the fresh state

pub record StartCall : Type 0 where
  pub answer : Started
  pub state : List ℕ

abbrev pub no_start : ℕ → ℕ → List ℕ → StartCall
no_start n p st = record { answer = Err (fault_at n p); state = st }

abbrev pub start_fits : Bool → File → List Value → List ℕ → StartCall
start_fits true f vs st = record { answer = Ok tt; state = fresh_state f vs }
start_fits false f vs st = no_start 17 0 st

abbrev pub start_judged : Judged → List ℕ → StartCall
start_judged (refused n p) st = no_start n p st
start_judged (admitted f vs) st = start_fits (eqb (length st) (state_size f)) f vs st

-- the file's bytes and the state's buffer
unfoldable pub start : Loader → List ℕ → List ℕ → StartCall
start ld s st = start_judged (judge ld s) st

-- ---- the cycle: 1 to 17 and 22 write nothing; 18, 20 and 21 write the moved state, 19 a copy of the old one, and all four leave the values

pub record CycleCall : Type 0 where
  pub answer : Cycled
  pub new : List ℕ
  pub values : List ℕ

-- the new state and the values, of a run on the old state
abbrev pub end_on : File → List ℕ → List ℕ → Ended → List Value → List (List ℕ) → CycleCall
end_on f old vals finished cs segs = record { answer = Cyc.Answered; new = take (head_size f) old ++ started_record cs segs; values = cells cs }
end_on f old vals (failed_at c i) cs segs =
    record { answer = Cyc.Stopped (fault_at (cause_number c) i); new = take (head_size f + own_size (main f)) old ++ concat segs; values = vals }
end_on f old vals (overflowed_at i) cs segs = record { answer = Cyc.Stopped (fault_at (outcome_number Out.Overflow) i); new = old; values = vals }

-- the main instance's run
unfoldable pub main_run : File → List Value → List ℕ → List ℕ → Run
main_run f vs old ins =
    let g = globals_of f vs in
    run g (calls g) (main f) (values_of (input_count (main f)) ins) (drop (head_size f) old)

abbrev pub end_run : File → List ℕ → List ℕ → Run → CycleCall
end_run f old vals u = end_on f old vals u.end u.cells u.segs

abbrev pub no_cycle : ℕ → ℕ → List ℕ → List ℕ → CycleCall
no_cycle n p new vals = record { answer = Cyc.Refused (fault_at n p); new = new; values = vals }

-- 15, 16 and 17, each true where it holds
abbrev pub cycle_unless : Bool → Bool → Bool → File → List Value → List ℕ → List ℕ → List ℕ → List ℕ → CycleCall
cycle_unless true b16 b17 f vs old ins new vals = no_cycle 15 0 new vals
cycle_unless false true b17 f vs old ins new vals = no_cycle 16 0 new vals
cycle_unless false false true f vs old ins new vals = no_cycle 17 0 new vals
cycle_unless false false false f vs old ins new vals = end_run f old vals (main_run f vs old ins)

abbrev pub fits17 : File → List ℕ → List ℕ → Bool
fits17 f new vals = eqb (length new) (state_size f) && eqb (length vals) (9 * cell_count (main f))

abbrev pub cycle_judged : Judged → List ℕ → List ℕ → List ℕ → List ℕ → CycleCall
cycle_judged (refused n p) old ins new vals = no_cycle n p new vals
cycle_judged (admitted f vs) old ins new vals =
    cycle_unless (not (good_state f vs old)) (not (good_inputs f ins)) (not (fits17 f new vals)) f vs old ins new vals

-- the file's bytes, the old state, the inputs, and the buffers of the new state and of the values
unfoldable pub cycle : Loader → List ℕ → List ℕ → List ℕ → List ℕ → List ℕ → CycleCall
cycle ld s old ins new vals = cycle_judged (judge ld s) old ins new vals
