use mathlib.Core.Path.{refl, sym, subst, ◌∙◌}
use Rattle.ol_tables.specs.Numbers.{numbers}
use Rattle.ol_shapes.specs.Laid.{OutputsJudged}
use Rattle.ol_shapes.proofs.Judging.{erred}
use Rattle.ol_shapes.proofs.Naming.{outputs_inner, outputs_own, suit_told}
use Rattle.ol_shapes.proofs.shapes.Shapes.outputs.Goals as goal

pub returns-in_err-parts : goal.returns-in_err-parts
returns-in_err-parts c =
    let j = c.args.self.now in
    subst (λ r. OutputsJudged j.file.now (numbers j.rows.now) j.slots.now j.plans.now c.args.k c.args.names c.args.many c.args.at r) (sym (erred c.from_residual.result c.from_residual.ensures.1))
    (record { is = λ xs g es kl t m o h. outputs_inner g es h c.in_err-parts.ensures xs refl })

pub returns-then-outputs_suit : goal.returns-then-outputs_suit
returns-then-outputs_suit c = record { is = λ xs g es kl t m o h. outputs_own g es h c.in_ok-parts.ensures xs refl (sym c.if-outputs_suit.true ∙ suit_told g es h kl t m o c.byte.ensures.is c.outputs_suit.ensures) }

pub returns-else-outputs_suit : goal.returns-else-outputs_suit
returns-else-outputs_suit c = record { is = λ xs g es kl t m o h. outputs_own g es h c.in_ok-parts.ensures xs refl (sym c.if-outputs_suit.false ∙ suit_told g es h kl t m o c.byte.ensures.is c.outputs_suit.ensures) }
