use Rattle.ol_order.proofs.Definers.{puts_turn, puts_end}
use Rattle.ol_order.proofs.define.Goals as goal

pub loop-x-preserved : goal.loop-x-preserved
loop-x-preserved g c = puts_turn g.row.N c.args.index _ _ c.loop-x.invariant c.in-Some.ensures.steps c.put.ensures

pub returns : goal.returns
returns g c = puts_end g.row.N c.args.index _ _ c.loop-x.invariant c.in-None.ensures.steps.0
