use mathlib.Core.Path.{◌∙◌}
use Rattle.ol_ir.proofs.Onward.{erred, items, no_items, counted_chain}
use Rattle.ol_ir.proofs.read.section.Goals as goal

pub returns-in_err-n : goal.returns-in_err-n
returns-in_err-n g c = λ f a. erred _ _ c.from_residual.ensures.1 ∙ no_items (counted_chain f _) c.count.ensures.is c.in_err-n.was

pub returns : goal.returns
returns g c = λ f a. items (counted_chain f _) c.count.ensures.is c.in_ok-n.was (c.many.ensures f a)
