use mathlib.Core.Path.{sym, ◌∙◌}
use Rattle.ol_tables.specs.Numbers.{numbers}
use Rattle.ol_shapes.specs.Codes.{type_shape}
use Rattle.ol_shapes.proofs.Zeros.{zeros_turn, zeros_stop}
use Rattle.ol_shapes.proofs.shapes.Shapes.all_scalars.Goals as goal

pub returns-then-is_some : goal.returns-then-is_some
returns-then-is_some c =
    let g = type_shape (numbers c.args.self.now.rows.now) c.args.self.now.plans.now c.args.k in
    λ low. sym (c.loop-i.invariant low ∙ zeros_stop g c.loop-i.i c.args.n c.variable_shape.result (c.variable_shape.ensures low) c.if-is_some.ensures c.loop-i-test.true)

pub loop-i-preserved : goal.loop-i-preserved
loop-i-preserved c =
    let g = type_shape (numbers c.args.self.now.rows.now) c.args.self.now.plans.now c.args.k in
    λ low. c.loop-i.invariant low ∙ zeros_turn g c.loop-i.i c.args.n c.variable_shape.result (c.variable_shape.ensures low) c.if-is_some.ensures c.loop-i-test.true
