use mathlib.Core.Path.{◌≡◌, ap, ◌∙◌}
use mir.Val.{SFits}
use mir.Syntax.{w64}
use Rattle.std.proofs.Common.{rules}
use Rattle.std.proofs.lemmas.Int.{to_z-of_z}
use Rattle.ol_spec.specs.Cell.{values_of}
use Rattle.ol_spec.specs.Eval.{element_at}
use Rattle.ol_spec.specs.declared.Outcome.TheVariants as Out
use Rattle.ol_spec.specs.declared.Value.TheVariants as Val
use Rattle.ol_frame.proofs.Asking.{asked}
use Rattle.ol_frame.proofs.arrays.element.Goals as goal

pub returns-in-Value-Int : goal.returns-in-Value-Int
returns-in-Value-Int c =
    let i = c.in-Value-Int.i in
    let f : SFits w64 i = search rules in
    let vs = values_of c.args.n c.args.cells.now in
    let is : c.args.index ≡ Out.Value (Val.Int i) = c.in-Value-Int.is ∙ ap Out.Value (rw c.in-Value-Int.is at c.in-Value-Int.field-0-is) in
    c.element_at.ensures ∙ ap (element_at vs) (to_z-of_z w64 i f) ∙ asked c.args.n vs i c.args.index c.if-n-ne0.true is
