use mathlib.Core.Path.{sym, ◌∙◌}
use Rattle.ol_frame.proofs.Endings.{dropped, undropped}
use Rattle.ol_frame.proofs.outcomes.drop_failure.Goals as goal

pub returns-then-overflow : goal.returns-then-overflow
returns-then-overflow c =
    λ other e. dropped c.args.taken other (sym e ∙ c.if-overflow.true)

pub returns-else-overflow : goal.returns-else-overflow
returns-else-overflow c =
    λ other e. c.same_out.ensures ∙ undropped c.args.taken other (sym e ∙ c.if-overflow.false)
