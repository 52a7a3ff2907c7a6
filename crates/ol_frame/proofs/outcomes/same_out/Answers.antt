use mathlib.Core.Path.{sym, ap, ◌∙◌}
use Rattle.ol_spec.specs.declared.Outcome.TheVariants as Out
use Rattle.ol_frame.proofs.outcomes.same_out.Goals as goal

pub returns-in-Value : goal.returns-in-Value
returns-in-Value c = ap Out.Value c.kept.ensures.0 ∙ sym c.in-Value.is

pub returns-in-Failure : goal.returns-in-Failure
returns-in-Failure c = sym c.in-Failure.is
