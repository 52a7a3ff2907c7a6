use native.Mathlib.Omega.{arith}
use Rattle.ol_check.proofs.CellLaws.{cells_start, cells_turn, cells_done, cells_least}
use Rattle.ol_check.proofs.rows.cells_before.Goals as goal

pub loop-j-init : goal.loop-j-init
loop-j-init c = cells_start

pub overflow_add-cells : goal.overflow_add-cells
overflow_add-cells c =
    omega (arith, c.loop-j.invariant.small, c.loop-j-test.true, c.requires.1, cells_least _ _ c.byte.ensures.small c.cells_for-cells.ensures)

pub loop-j-preserved : goal.loop-j-preserved
loop-j-preserved c = cells_turn c.loop-j.invariant c.loop-j-test.true c.byte.ensures.is c.byte.ensures.small c.cells_for-cells.ensures

pub returns : goal.returns
returns c = (cells_done c.loop-j.invariant c.loop-j-test.false, omega (arith, c.loop-j.invariant.small, c.loop-j.invariant.few))
