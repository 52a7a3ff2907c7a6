use mathlib.Core.Path.{sym, ap, ◌∙◌}
use Rattle.ol_spec.specs.declared.Outcome.TheVariants as Out
use Rattle.ol_frame.proofs.Endings.{named_other}
use Rattle.ol_frame.proofs.outcomes.named_out.Goals as goal

pub returns-in-Value : goal.returns-in-Value
returns-in-Value c = λ m e. ap Out.Value c.kept.ensures.0 ∙ sym c.in-Value.is

pub returns-in_default : goal.returns-in_default
returns-in_default c = λ m e. named_other m c.args.o c.in_default.not-Value e
