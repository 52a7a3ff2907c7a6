use Rattle.ol_check.proofs.HeadTests.{call_judged}
use Rattle.ol_tables.specs.Numbers.{numbers}
use Rattle.ol_check.proofs.judge.Judge.judge_call.Goals as goal

pub returns : goal.returns
returns c =
    call_judged c.args.self.now.file.now (numbers c.args.self.now.rows.now) c.args.g.now c.args.self.now.nodes c.args.self.now.node c.args.at c.called_at.ensures c.mark.ensures c.arity_at.ensures c.mark-2.ensures c.formed.ensures c.note.ensures
