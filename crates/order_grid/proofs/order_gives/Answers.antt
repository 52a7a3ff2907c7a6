use mathlib.Core.Path.{ap, ◌∙◌}
use Rattle.rows.specs.Rows.{all_agree}
use Rattle.order_grid.proofs.Laws.{row_is}
use Rattle.order_grid.proofs.order_gives.Goals as goal

pub returns : goal.returns
returns c = c.agrees.ensures ∙ ap (λ l. all_agree l c.args.wanted.now) (c.put_row.ensures ∙ row_is (c.answer-f.ensures ∙ c.evaluation_order.ensures.told) c.evaluation_order.ensures.written)
