use native.Mathlib.Omega.{arith}
use Rattle.ieee_vectors.proofs.Laws.{checked_most, total_none, total_more}
use Rattle.ieee_vectors.proofs.check_all.Goals as goal

pub loop-init : goal.loop-init
loop-init c = (omega arith, total_none)

pub loop-preserved : goal.loop-preserved
loop-preserved c = (omega (arith, checked_most c.check_block-c.ensures), total_more c.loop.invariant.1 c.check_block-c.ensures)
