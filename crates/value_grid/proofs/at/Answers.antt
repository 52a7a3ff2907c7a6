use mathlib.Core.Path.{◌∙◌}
use Rattle.value_grid.proofs.Laws.{grid_in, grid_out}
use Rattle.value_grid.proofs.at.Goals as goal

pub returns-then-a-grid : goal.returns-then-a-grid
returns-then-a-grid c = grid_in c.args.grid.now c.args.k c.from-a.result (c.from-a.ensures ∙ c.code.ensures) _ c.if-a-grid.true c.read_cell.ensures

pub returns-else-a-grid : goal.returns-else-a-grid
returns-else-a-grid c = grid_out c.args.grid.now c.args.k c.from-a.result (c.from-a.ensures ∙ c.code.ensures) c.if-a-grid.false
