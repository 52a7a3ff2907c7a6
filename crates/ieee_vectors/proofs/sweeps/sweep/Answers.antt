use mathlib.Core.Path.{refl}
use Rattle.ieee_vectors.specs.Sweeps.{sweep_to}
use Rattle.ieee_vectors.proofs.Laws.{sweep_x, sweep_h}
use Rattle.ieee_vectors.proofs.sweeps.sweep.Goals as goal

pub loop-init : goal.loop-init
unfolding sweep_to
loop-init c = (refl, refl)

pub loop-preserved : goal.loop-preserved
loop-preserved c = (
  sweep_x c.args.op c.args.e c.args.seed c.loop.counter c.loop.x c.loop.h c.loop.invariant.0 c.loop.invariant.1 _ _ c.next-z.ensures c.next-x.ensures,
  sweep_h c.args.op c.args.e c.args.seed c.loop.counter c.loop.x c.loop.h c.loop.invariant.0 c.loop.invariant.1 _ _ c.next-z.ensures c.next-x.ensures _ _ _ _ _ c.operand-a.ensures c.next.ensures c.operand-b.ensures c.result.ensures c.next-h.ensures,
)
