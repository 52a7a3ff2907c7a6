use mathlib.Core.Path.{◌∙◌}
use Rattle.ol_ir.proofs.Heads.{call_count, call_refused}
use Rattle.ol_ir.proofs.Onward.{erred}
use Rattle.ol_ir.proofs.Reader.call.Goals as goal

pub returns-in_err-p-clause-is : goal.returns-in_err-p-clause-is
returns-in_err-p-clause-is c = erred _ _ c.from_residual.ensures.1 ∙ call_refused c.args.self.now.file.now c.args.most c.args.at c.bytes.ensures c.in_err-p.was

pub returns-clause-is : goal.returns-clause-is
returns-clause-is c = call_count c.args.self.now.file.now c.args.most c.args.at c.bytes.ensures c.in_ok-p.was c.count.ensures.is
