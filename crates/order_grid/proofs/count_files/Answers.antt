use native.Mathlib.Omega.{arith}
use Rattle.order_grid.proofs.Laws.{tallied_most, tallied_none, tallied_both}
use Rattle.order_grid.proofs.count_files.Goals as goal

pub loop-init : goal.loop-init
loop-init c = (omega arith, tallied_none)

pub overflow_add-good : goal.overflow_add-good
overflow_add-good c = omega (arith, tallied_most c.loop.invariant.1, tallied_most c.count_file-one.ensures.tallied, c.count_file-one.ensures.all_bound)

pub loop-preserved : goal.loop-preserved
loop-preserved c = (omega (arith, c.count_file-one.ensures.all_bound), tallied_both c.loop.invariant.1 c.count_file-one.ensures.tallied)
