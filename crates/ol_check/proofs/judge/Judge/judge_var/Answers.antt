use Rattle.ol_check.proofs.HeadTests.{var_judged}
use Rattle.ol_check.proofs.judge.Judge.judge_var.Goals as goal

pub returns : goal.returns
returns c =
    var_judged c.args.self.now.file.now c.args.self.now.names.now c.args.slots.now c.args.self.now.node c.args.g.now c.args.at c.name.ensures.is c.byte-e.ensures c.put_entry.ensures c.mark.ensures
