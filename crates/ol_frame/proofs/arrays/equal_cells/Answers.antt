use mathlib.Core.Path.{sym, ap, ◌∙◌}
use Rattle.ol_spec.specs.Cell.{values_of}
use Rattle.ol_spec.specs.Eval.{equal_cells}
use Rattle.ol_frame.proofs.Elements.{equal_start, turn_equal, turn_unequal, turn_done, lengths_differ}
use Rattle.ol_frame.proofs.arrays.equal_cells.Goals as goal

pub returns-then-n-m : goal.returns-then-n-m
returns-then-n-m c = lengths_differ c.args.left.now c.args.right.now c.args.n c.args.m c.if-n-m.true

pub loop-i-init : goal.loop-i-init
loop-i-init c = equal_start c.args.left.now c.args.right.now c.args.n

pub returns-then-not-equal_cell : goal.returns-then-not-equal_cell
returns-then-not-equal_cell c =
    turn_unequal c.args.left.now c.args.right.now c.args.n c.loop-i.i c.loop-i-test.true c.loop-i.invariant (sym c.if-not-equal_cell.true ∙ c.equal_cell.ensures)
    ∙ ap (λ k. equal_cells (values_of c.args.n c.args.left.now) (values_of k c.args.right.now)) c.if-n-m.false

pub loop-i-preserved : goal.loop-i-preserved
loop-i-preserved c =
    turn_equal c.args.left.now c.args.right.now c.args.n c.loop-i.i c.loop-i-test.true c.loop-i.invariant (sym c.if-not-equal_cell.false ∙ c.equal_cell.ensures)

pub returns : goal.returns
returns c =
    turn_done c.args.left.now c.args.right.now c.args.n c.loop-i.i c.loop-i-test.false c.loop-i.invariant
    ∙ ap (λ k. equal_cells (values_of c.args.n c.args.left.now) (values_of k c.args.right.now)) c.if-n-m.false
