use Rattle.ol_state.proofs.Judged.{repeated_on, repeated_stop, repeated_done}
use Rattle.ol_state.proofs.own.are_default.Goals as goal

pub returns-then-ne : goal.returns-then-ne
returns-then-ne c = repeated_stop c.loop-i.invariant c.loop-i-test.true c.requires.1 c.put_default.ensures c.ne.ensures c.if-ne.true

pub loop-i-preserved : goal.loop-i-preserved
loop-i-preserved c = repeated_on c.loop-i.invariant c.loop-i-test.true c.requires.1 c.put_default.ensures c.ne.ensures c.if-ne.false

pub returns : goal.returns
returns c = repeated_done c.loop-i.invariant c.loop-i-test.false
