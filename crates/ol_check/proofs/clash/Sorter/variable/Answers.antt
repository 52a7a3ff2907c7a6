use mathlib.Core.Path.{refl, sym, ap, ◌∙◌}
use mathlib.Core.Bool.{◌||◌}
use Rattle.ol_check.specs.Clashing.{typed_array}
use Rattle.ol_check.proofs.ClashLoops.{typed_walks}
use Rattle.ol_check.proofs.clash.Sorter.variable.Goals.{then-self, else-self}
use Rattle.ol_check.proofs.clash.Sorter.variable.Goals as goal

pub returns : goal.returns
returns c =
    let array = typed_array c.args.file.now c.args.at in
    typed_walks c.name.ensures refl refl refl
    (elim c.if-self.branch [ then-self w ↦ w.self-is ∙ w.if-self.true ∙ sym (ap (λ b. b || array) w.if-self.true) | else-self w ↦ w.self-is ∙ w.is_array-self.ensures ∙ sym (ap (λ b. b || array) w.if-self.false) ])
