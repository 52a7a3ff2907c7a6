use mathlib.Core.Path.{◌∙◌}
use Rattle.std.proofs.Common.{rules}
use Rattle.ol_spec.specs.Read.{equation_r}
use Rattle.ol_ir.specs.Nexts.{next_of}
use Rattle.ol_ir.proofs.Forms.{node_chain}
use Rattle.ol_ir.proofs.Onward.{arrive, halt, section_next, erred}
use Rattle.ol_ir.proofs.Reader.node.Goals as goal

pub returns-in_err-p : goal.returns-in_err-p
returns-in_err-p c = erred _ _ c.from_residual.ensures.1 ∙ halt (node_chain c.args.self.now.file.now c.args.self.now.limits.now c.args.self.now.enums c.args.at) c.interface.ensures c.in_err-p.was

pub returns : goal.returns
returns c =
    let r = equation_r c.args.self.now.file.now c.args.self.now.limits.now c.args.self.now.enums in
    arrive (node_chain c.args.self.now.file.now c.args.self.now.limits.now c.args.self.now.enums c.args.at) c.interface.ensures c.in_ok-p.was (c.section.ensures (λ p. next_of (r p)) (λ p y e. search rules) ∙ section_next c.args.self.now.file.now 0 c.args.self.now.limits.now.equations r _)
