use mathlib.Core.Path.{◌∙◌, refl}
use Rattle.ol_spec.specs.Lists.{up_to}
use Rattle.ol_spec.specs.Read.{node_kinds}
use Rattle.ol_ir.proofs.Forms.{interface_chain, code_next}
use Rattle.ol_ir.proofs.Onward.{arrive, halt, link, erred}
use Rattle.ol_ir.proofs.Reader.interface.Goals as goal

pub returns-in_err-p : goal.returns-in_err-p
returns-in_err-p c = erred _ _ c.from_residual.ensures.1 ∙ halt (interface_chain c.args.self.now.file.now c.args.self.now.limits.now c.args.self.now.enums c.args.at) (c.code.ensures ∙ code_next _ (up_to 3) node_kinds _ refl) c.in_err-p.was

pub returns-in_err-q : goal.returns-in_err-q
returns-in_err-q c =
    erred _ _ c.from_residual-in_err-q.ensures.1 ∙ arrive (interface_chain c.args.self.now.file.now c.args.self.now.limits.now c.args.self.now.enums c.args.at) (c.code.ensures ∙ code_next _ (up_to 3) node_kinds _ refl) c.in_ok-p.was (halt link c.variables.ensures c.in_err-q.was)

pub returns-in_err-r : goal.returns-in_err-r
returns-in_err-r c =
    erred _ _ c.from_residual-in_err-r.ensures.1 ∙ arrive (interface_chain c.args.self.now.file.now c.args.self.now.limits.now c.args.self.now.enums c.args.at) (c.code.ensures ∙ code_next _ (up_to 3) node_kinds _ refl) c.in_ok-p.was (arrive link c.variables.ensures c.in_ok-q.was (halt link c.variables-2.ensures c.in_err-r.was))

pub returns : goal.returns
returns c =
    arrive (interface_chain c.args.self.now.file.now c.args.self.now.limits.now c.args.self.now.enums c.args.at) (c.code.ensures ∙ code_next _ (up_to 3) node_kinds _ refl) c.in_ok-p.was (arrive link c.variables.ensures c.in_ok-q.was (arrive link c.variables-2.ensures c.in_ok-r.was c.variables-3.ensures))
