use Rattle.value_grid.proofs.Laws.{cell_asked}
use Rattle.value_grid.proofs.cell_agrees.Goals as goal

pub returns : goal.returns
returns c = cell_asked c.next-nine.result _ _ _ c.next_byte.result _ c.good_cell.ensures c.read_cell.ensures c.known.ensures c.says.ensures
