use mathlib.Core.Path.{sym, ◌∙◌}
use borrow.Author.Tests.{eqb-true, eqb-false}
use Rattle.ol_check.proofs.SizeLaws.{main_operator, main_other}
use Rattle.ol_check.proofs.size.not_operator.Goals as goal

pub returns-then-is : goal.returns-then-is
returns-then-is c = main_operator c.requires.0 c.requires.1 _ c.node-last.ensures.kind (eqb-true _ 1 (sym c.is.ensures ∙ c.if-is.true))

pub returns-else-is : goal.returns-else-is
returns-else-is c = main_other c.requires.0 c.requires.1 _ _ c.node-last.ensures.kind (eqb-false _ 1 (sym c.is.ensures ∙ c.if-is.false)) c.node-last.ensures.place
