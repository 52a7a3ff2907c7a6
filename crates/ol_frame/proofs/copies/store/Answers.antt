use mathlib.Core.Path.{ap, ◌∙◌}
use native.Mathlib.Omega.{arith}
use Rattle.ol_frame.proofs.Storing.{stored, kept_back, cell_room}
use Rattle.ol_tables.specs.Table.{tab_of, rows_of}
use Rattle.ol_spec.specs.Types.{fit}
use Rattle.ol_value.specs.Codes.{ty_of}
use Rattle.ol_frame.proofs.copies.store.Goals as goal

pub write_cell-requires : goal.write_cell-requires
write_cell-requires c =
    cell_room (tab_of c.args.tab.now) (rows_of c.args.tab.now) c.args.k c.args.at c.args.cells.now c.requires c.defined_at-s.result c.first_cell.result c.defined_at-s.ensures.0 c.first_cell.ensures

pub overflow_mul-first_cell : goal.overflow_mul-first_cell
overflow_mul-first_cell c =
    omega (arith, c.well_formed, cell_room (tab_of c.args.tab.now) (rows_of c.args.tab.now) c.args.k c.args.at c.args.cells.now c.requires c.defined_at-s.result c.first_cell.result c.defined_at-s.ensures.0 c.first_cell.ensures)

pub returns : goal.returns
returns c =
    stored (tab_of c.args.tab.now) (rows_of c.args.tab.now) c.args.k c.args.at c.defined_at-s.result c.code_of-c.result c.first_cell.result c.args.v c.kept-w.result c.args.cells.now _ c.requires c.defined_at-s.ensures.0 c.code_of-c.ensures c.first_cell.ensures
    (λ e. c.kept-w.ensures.0 ∙ c.fit_to.ensures e ∙ ap (fit (ty_of c.code_of-c.result e)) c.kept.ensures.0) (kept_back c.kept-w.result c.fit_to.result c.kept-w.ensures.0 c.kept-w.ensures.1) c.write_cell.ensures
