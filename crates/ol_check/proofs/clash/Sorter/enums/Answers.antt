use native.Mathlib.Omega.{arith}
use Rattle.ol_check.proofs.ClashLoops.{enums_start, enums_turn, enums_done}
use Rattle.ol_check.proofs.clash.Sorter.enums.Goals as goal

pub loop-e-init : goal.loop-e-init
loop-e-init c = (omega arith, enums_start)

pub loop-e-preserved : goal.loop-e-preserved
loop-e-preserved c = (omega (arith, c.loop-e.invariant.0, c.byte-many.ensures.is, c.byte-many.ensures.small, c.names_end-next.ensures), enums_turn c.loop-e.invariant.1 c.loop-e-test.true c.byte-many.ensures c.names_end-next.ensures c.names.ensures)

pub returns : goal.returns
returns c = enums_done c.loop-e.invariant.1 c.loop-e-test.false
