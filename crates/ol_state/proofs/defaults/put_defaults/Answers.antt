use Rattle.ol_state.proofs.DefaultCells.{repeat_turn, repeat_done}
use Rattle.ol_state.proofs.defaults.put_defaults.Goals as goal

pub loop-i-preserved : goal.loop-i-preserved
loop-i-preserved c = repeat_turn c.args.code c.args.first c.loop-i.invariant c.put_default.new.out c.loop-i-test.true c.requires.1 c.put_default.ensures

pub returns : goal.returns
returns c = repeat_done c.args.code c.args.first c.loop-i.invariant c.loop-i-test.false
