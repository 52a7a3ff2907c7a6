use native.Mathlib.Omega.{arith}
use Rattle.order_grid.proofs.Laws.{tallied_most, tallied_none, asked_more, from_few}
use Rattle.order_grid.proofs.count_orders.Goals as goal

pub loop-init : goal.loop-init
loop-init c = tallied_none

pub overflow_add-good : goal.overflow_add-good
overflow_add-good c = omega (arith, tallied_most c.loop.invariant, from_few _ c.from-good.ensures)

pub loop-preserved : goal.loop-preserved
loop-preserved c = asked_more c.args.file.now _ _ _ c.from-good.ensures c.next_agrees.ensures c.loop.invariant
