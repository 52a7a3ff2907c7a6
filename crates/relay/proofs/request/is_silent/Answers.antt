use Rattle.std.proofs.Common.{◌∙◌, arith}
use borrow.Author.Tests.{eq-eqb}
use Rattle.relay.proofs.Asks.{silent_in, silent_out}
use Rattle.relay.proofs.request.is_silent.Goals as goal

pub returns-then-at-line : goal.returns-then-at-line
returns-then-at-line c = eq-eqb _ _ c.if-at-line.true ∙ silent_out c.args.line.now c.nth-at.result c.nth-at.ensures.2 (omega arith)

pub returns-else-at-line : goal.returns-else-at-line
returns-else-at-line c = silent_in c.args.line.now c.nth-at.result c.nth-at.ensures.2 (omega arith)
