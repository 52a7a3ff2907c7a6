use native.Mathlib.Omega.{arith}
use Rattle.ol_run.proofs.MainCycle.{head_room, main_ready, cycle_finished, cycle_failed, cycle_overflowed}
use Rattle.ol_run.proofs.main_cycle.run_in.Goals as goal

pub slice_bounds-run_record-count : goal.slice_bounds-run_record-count
slice_bounds-run_record-count c = (head_room c.requires.0 c.known-head.result c.known-head.ensures.0 c.copy.new.to c.copy.ensures).0

pub slice_bounds-run_record-start : goal.slice_bounds-run_record-start
slice_bounds-run_record-start c = omega (arith, head_room c.requires.0 c.known-head.result c.known-head.ensures.0 c.copy.new.to c.copy.ensures)

pub slice_bounds-run_record-count-2 : goal.slice_bounds-run_record-count-2
slice_bounds-run_record-count-2 c = (head_room c.requires.0 c.known-head.result c.known-head.ensures.0 c.copy.new.to c.copy.ensures).1

pub slice_bounds-run_record-start-2 : goal.slice_bounds-run_record-start-2
slice_bounds-run_record-start-2 c = omega (arith, head_room c.requires.0 c.known-head.result c.known-head.ensures.0 c.copy.new.to c.copy.ensures)

pub run_record-r-requires : goal.run_record-r-requires
run_record-r-requires c = main_ready c.requires.0 c.known-head.result c.known-head.ensures.0 c.copy.new.to c.copy.ensures _ c.requires.1

pub returns-in-Values : goal.returns-in-Values
returns-in-Values c = cycle_finished c.requires.0 c.known-head.result c.known-head.ensures.0 c.copy.new.to c.copy.ensures c.run_record-r.new.new c.run_record-r.new.values c.run_record-r.result c.run_record-r.ensures c.in-Values.is

pub returns-in-Failed : goal.returns-in-Failed
returns-in-Failed c =
    cycle_failed c.requires.0 c.known-head.result c.known-head.ensures.0 c.copy.new.to c.copy.ensures c.run_record-r.new.new c.run_record-r.new.values c.run_record-r.result c.run_record-r.ensures _ c.from.result c.in-Failed.is c.from.ensures

pub returns-in-Overflowed : goal.returns-in-Overflowed
returns-in-Overflowed c =
    cycle_overflowed c.requires.0 c.known-head.result c.known-head.ensures.0 c.copy.new.to c.copy.ensures c.run_record-r.new.new c.run_record-r.new.values c.run_record-r.result c.run_record-r.ensures c.copy-in-Overflowed.new.to c.run_record-r.auto.new
    c.in-Overflowed.is c.copy-in-Overflowed.ensures
