use Rattle.ol_order.proofs.Definers.{all_turn, all_not, all_end}
use Rattle.ol_order.proofs.define_all.Goals as goal

pub loop-i-preserved : goal.loop-i-preserved
loop-i-preserved g c =
    all_turn g.row.N c.args.file.now c.args.starts.now _ _ _ _ c.loop-i.invariant c.loop-i-test.true c.count.ensures.is c.in-Ok.is c.define.ensures

pub returns-in-Err : goal.returns-in-Err
returns-in-Err g c =
    all_not g.row.N c.args.file.now c.args.starts.now _ _ _ _ c.loop-i.invariant c.loop-i-test.true c.count.ensures.is c.in-Err.is

pub returns : goal.returns
returns g c = all_end g.row.N c.args.file.now c.args.starts.now _ _ _ _ c.loop-i.invariant c.loop-i-test.false
