use mathlib.Core.Path.{refl}
use Rattle.ieee_vectors.specs.Lines.{number_at}
use Rattle.ieee_vectors.proofs.Laws.{number_more, number_end}
use Rattle.ieee_vectors.proofs.number.Goals as goal

pub loop-c-init : goal.loop-c-init
unfolding number_at
loop-c-init c = refl

pub loop-c-preserved : goal.loop-c-preserved
loop-c-preserved c = number_more c.args.text.now c.args.at c.args.n c.requires c.loop-c.c-index _ _ c.loop-c-test.true c.loop-c.invariant c.digit.ensures.0

pub returns : goal.returns
returns c = number_end c.args.text.now c.args.at c.args.n c.requires c.loop-c.c-index _ c.loop-c.auto.c-index-end c.loop-c-test.false c.loop-c.invariant
