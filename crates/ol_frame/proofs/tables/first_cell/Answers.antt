use mathlib.Core.Path.{sym, ◌∙◌}
use native.Mathlib.Omega.{arith}
use Rattle.ol_tables.specs.Table.{tab_of, rows_of}
use Rattle.ol_tables.specs.Tables.{row_at}
use Rattle.ol_frame.proofs.Tabling.{count_scalars, rows_room}
use Rattle.ol_frame.proofs.tables.first_cell.Goals as goal

pub row-requires : goal.row-requires
row-requires c = (rows_room c.args.tab.now 0 (omega (arith, c.requires.0)), c.requires.1, omega arith)

pub returns-then-cells_of-row : goal.returns-then-cells_of-row
returns-then-cells_of-row c =
    let t = c.args.tab.now in
    sym (count_scalars (tab_of t) c.args.k c.args.i (row_at (rows_of t) c.args.k 4) (omega (arith, c.requires.3)) (sym c.requires.4 ∙ sym c.cells_of.ensures.0 ∙ c.if-cells_of-row.true ∙ c.row.ensures))
