use native.Mathlib.Omega.{arith}
use mathlib.Core.Path.{refl}
use Rattle.ieee_vectors.specs.Lines.{results}
use Rattle.ieee_vectors.proofs.Laws.{results_more}
use Rattle.ieee_vectors.proofs.want.Goals as goal

pub loop-k-init : goal.loop-k-init
unfolding results
loop-k-init c = refl

pub loop-k-preserved : goal.loop-k-preserved
loop-k-preserved c = results_more c.args.text.now c.loop-k.wanted c.loop-k.k (omega arith) c.number.result c.number.ensures c.loop-k.invariant
