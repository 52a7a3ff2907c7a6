use native.Mathlib.Omega.{arith}
use mathlib.Core.Path.{refl}
use Rattle.ieee_vectors.specs.Lines.{answers}
use Rattle.ieee_vectors.proofs.Laws.{answers_more}
use Rattle.ieee_vectors.proofs.find.Goals as goal

pub loop-k-init : goal.loop-k-init
unfolding answers
loop-k-init c = refl

pub loop-k-preserved : goal.loop-k-preserved
loop-k-preserved c = answers_more c.args.text.now c.loop-k.found c.loop-k.k (omega arith) c.answer.result c.answer.ensures c.loop-k.invariant
