use mathlib.Core.Path.{sym, ap, ◌∙◌}
use Rattle.std.proofs.Common.{rules}
use Rattle.ol_spec.specs.declared.Outcome.{Outcome}
use Rattle.ol_value.specs.Codes.{binary_by}
use Rattle.ol_frame.specs.Outcomes.{binary_out}
use Rattle.ol_frame.proofs.Endings.{then_is, binary_other}
use Rattle.ol_frame.proofs.outcomes.binary_out.Goals as goal

pub returns-in-Value : goal.returns-in-Value
returns-in-Value c =
    then_is _ (binary_by c.args.op c.in-Value.v) c.args.r c.and_then.result (λ w x h. search rules) c.and_then.ensures ∙ ap (λ (l : Outcome). binary_out c.args.op l c.args.r) (sym c.in-Value.is)

pub returns-in_default : goal.returns-in_default
returns-in_default c = c.same_out.ensures ∙ binary_other c.args.op c.args.l c.args.r c.in_default.not-Value
