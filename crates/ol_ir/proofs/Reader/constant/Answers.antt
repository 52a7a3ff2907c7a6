use mathlib.Core.Path.{◌∙◌, refl}
use Rattle.ol_ir.proofs.Forms.{constant_chain, root_next}
use Rattle.ol_ir.proofs.Onward.{arrive, halt, erred}
use Rattle.ol_ir.proofs.Reader.constant.Goals as goal

pub returns-in_err-p : goal.returns-in_err-p
returns-in_err-p c = erred _ _ c.from_residual.ensures.1 ∙ halt (constant_chain c.args.self.now.file.now c.args.self.now.limits.now c.args.self.now.enums c.args.at) c.variable.ensures c.in_err-p.was

pub returns : goal.returns
returns c = arrive (constant_chain c.args.self.now.file.now c.args.self.now.limits.now c.args.self.now.enums c.args.at) c.variable.ensures c.in_ok-p.was (root_next c.args.self.now.file.now c.args.self.now.limits.now c.args.self.now.enums _ refl c.exprs.ensures)
