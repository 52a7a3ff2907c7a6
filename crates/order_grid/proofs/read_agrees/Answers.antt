use mathlib.Core.Path.{ap, ◌∙◌}
use Rattle.ol_spec.specs.Answers.{sorted_fault}
use Rattle.order_grid.proofs.Laws.{read_true, read_false}
use Rattle.order_grid.proofs.read_agrees.Goals as goal

pub returns-then-eq : goal.returns-then-eq
returns-then-eq c = read_true c.args.file.now c.args.theirs c.answer.result c.eq.result (c.answer.ensures ∙ ap sorted_fault c.read_file.ensures) c.eq.ensures _ c.if-eq.true c.refusal_agrees.ensures

pub returns-else-eq : goal.returns-else-eq
returns-else-eq c = c.if-eq.false ∙ read_false c.args.file.now c.args.theirs c.answer.result c.eq.result (c.answer.ensures ∙ ap sorted_fault c.read_file.ensures) c.eq.ensures c.if-eq.false
