use mathlib.Core.Bool.{◌&&◌}
use mathlib.Core.Path.{sym, ap, ◌∙◌}
use native.Mathlib.Omega.{arith}
use Rattle.ol_spec.specs.Admission.{takes}
use Rattle.ol_tables.specs.At.{file_at}
use Rattle.ol_tables.specs.declared.form.Form.TheVariants as Frm
use Rattle.ol_tables.proofs.FormLaws.{form_is}
use Rattle.ol_shapes.specs.Codes.{place_in}
use Rattle.ol_shapes.specs.Judges.{iterated}
use Rattle.ol_shapes.proofs.Codes.{no_iterator}
use Rattle.ol_shapes.proofs.Shaping.{sits_code, iterator_byte}
use Rattle.ol_shapes.proofs.shapes.Shapes.suits.Goals as goal

pub returns-in-Iterator : goal.returns-in-Iterator
returns-in-Iterator c =
    record {
      is = λ k locals e es h.
          c.iterates.ensures.is k locals e es h (iterator_byte e es h (omega (arith, c.in-Iterator.ensures)))
          ∙ ap (λ b. b && iterated (file_at c.args.self.now.file.now) locals e) (sym c.if-takes.true ∙ c.takes.ensures ∙ ap (takes (place_in c.args.place)) (c.shape_at.ensures.is k locals e es h));
    }

pub returns-in_default : goal.returns-in_default
returns-in_default c =
    record {
      is = λ k locals e es h.
          no_iterator (file_at c.args.self.now.file.now) locals e (λ z. c.in_default.not-Iterator (form_is Frm.Iterator c.form.ensures (sits_code e es h ∙ z)))
          ∙ ap (λ b. b && iterated (file_at c.args.self.now.file.now) locals e) (sym c.if-takes.true ∙ c.takes.ensures ∙ ap (takes (place_in c.args.place)) (c.shape_at.ensures.is k locals e es h));
    }
