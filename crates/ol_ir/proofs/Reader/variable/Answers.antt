use mathlib.Core.Path.{◌∙◌}
use Rattle.ol_ir.proofs.Onward.{arrive, halt, erred}
use Rattle.ol_ir.proofs.Forms.{variable_chain}
use Rattle.ol_ir.proofs.Reader.variable.Goals as goal

pub returns-in_err-p : goal.returns-in_err-p
returns-in_err-p c = erred _ _ c.from_residual.ensures.1 ∙ halt (variable_chain c.args.self.now.file.now c.args.self.now.limits.now c.args.self.now.enums c.args.at) c.bytes.ensures c.in_err-p.was

pub returns : goal.returns
returns c = arrive (variable_chain c.args.self.now.file.now c.args.self.now.limits.now c.args.self.now.enums c.args.at) c.bytes.ensures c.in_ok-p.was c.var_ty.ensures
