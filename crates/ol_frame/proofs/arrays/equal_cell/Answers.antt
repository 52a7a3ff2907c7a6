use mathlib.Core.Path.{◌∙◌}
use borrow.Author.Tests.{ne_eqb}
use Rattle.ol_spec.specs.Operators.{pair, equal}
use Rattle.ol_frame.proofs.Elements.{tags_same, tags_differ}
use Rattle.ol_frame.proofs.arrays.equal_cell.Goals as goal

pub returns-then-min : goal.returns-then-min
returns-then-min c =
    c.equal_values.ensures ∙ (λ j. equal (pair (c.read_cell.ensures j) (c.read_cell-then-min.ensures j))) ∙ tags_same c.args.left.now c.args.right.now c.args.at c.min.ensures c.min-2.ensures c.if-min.true

pub returns-else-min : goal.returns-else-min
returns-else-min c = ne_eqb c.min.result c.min-2.result c.if-min.false ∙ tags_differ c.args.left.now c.args.right.now c.args.at c.min.ensures c.min-2.ensures c.if-min.false
