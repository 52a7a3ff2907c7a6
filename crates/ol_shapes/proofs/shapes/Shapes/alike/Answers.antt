use mathlib.Core.Path.{subst, ◌∙◌}
use Rattle.ol_tables.specs.Numbers.{numbers}
use Rattle.ol_shapes.specs.Codes.{option_of}
use Rattle.ol_shapes.specs.Judges.{ShapeIs, AllLongIs}
use Rattle.ol_shapes.proofs.Iterating.{alike_all}
use Rattle.ol_shapes.proofs.shapes.Shapes.alike.Goals as goal

pub returns-in-Some : goal.returns-in-Some
returns-in-Some c =
    let t = c.args.self.now in
    record {
      is = λ k locals es h m.
          alike_all es h (λ z. c.if-count-ne0.true (m ∙ z))
          (subst (λ o. ShapeIs t.file.now (numbers t.rows.now) t.slots.now t.plans.now c.args.level c.args.at (option_of o)) c.in-Some.is c.shape_at.ensures)
          (subst (λ n. AllLongIs t.file.now (numbers t.rows.now) t.slots.now t.plans.now c.args.level c.args.at n c.in-Some.n c.all_long.result) m c.all_long.ensures);
    }
