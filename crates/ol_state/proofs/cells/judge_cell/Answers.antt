use mathlib.Core.Path.{sym, ap, ◌∙◌}
use Rattle.ol_spec.specs.Cell.{is_variant}
use Rattle.ol_state.proofs.Judged.{and_pass, and_stop}
use Rattle.ol_state.proofs.cells.judge_cell.Goals as goal

pub returns-then-good_cell : goal.returns-then-good_cell
returns-then-good_cell c = λ names tells. c.is_variant.ensures names tells ∙ ap (is_variant names) c.read_cell.ensures ∙ sym (and_pass (sym c.good_cell.ensures ∙ c.if-good_cell.true))

pub returns-else-good_cell : goal.returns-else-good_cell
returns-else-good_cell c = λ names tells. c.if-good_cell.false ∙ sym (and_stop _ (sym c.good_cell.ensures ∙ c.if-good_cell.false))
