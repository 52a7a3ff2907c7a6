use mathlib.Core.Path.{◌∙◌}
use Rattle.ol_spec.specs.Read.{name_r}
use Rattle.ol_ir.proofs.Forms.{section_chain, names_next}
use Rattle.ol_ir.proofs.Onward.{items, no_items, erred}
use Rattle.ol_ir.proofs.node.names.Goals as goal

pub returns-in_err-n : goal.returns-in_err-n
returns-in_err-n c = erred _ _ c.from_residual.ensures.1 ∙ no_items (section_chain c.args.file.now 1 c.args.most (name_r c.args.file.now) c.args.at) c.count.ensures.is c.in_err-n.was

pub returns : goal.returns
returns c = items (section_chain c.args.file.now 1 c.args.most (name_r c.args.file.now) c.args.at) c.count.ensures.is c.in_ok-n.was (c.bytes.ensures ∙ names_next _ _ _)
