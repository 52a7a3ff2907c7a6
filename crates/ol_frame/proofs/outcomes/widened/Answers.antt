use mathlib.Core.Path.{sym, ap, ◌∙◌}
use mathlib.Core.Bool.{true}
use Rattle.ol_spec.specs.Eval.{common_real}
use Rattle.ol_spec.specs.declared.Value.TheVariants as Val
use Rattle.ol_frame.proofs.outcomes.widened.Goals as goal

pub returns-in-Float32 : goal.returns-in-Float32
returns-in-Float32 c = ap Val.Float c.f32_to_f64.ensures ∙ sym (ap (common_real true) c.in-Float32.is)
