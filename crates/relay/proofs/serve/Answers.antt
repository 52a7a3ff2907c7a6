use Rattle.relay.proofs.Runs.{serving_start, serving_turn}
use Rattle.relay.proofs.serve.Goals as goal

pub loop-init : goal.loop-init
loop-init c = serving_start _ _ _ c.requires

pub returns-then-t : goal.returns-then-t
returns-then-t c = c.loop.invariant.served

pub loop-preserved : goal.loop-preserved
loop-preserved c = serving_turn _ _ _ _ _ _ _ _ _ _ c.loop.invariant c.refill-filled.ensures c.advance-t.ensures c.if-t.false c.loop-test.true

pub returns : goal.returns
returns c = c.loop.invariant.served
