use mathlib.Core.Path.{◌∙◌}
use native.Mathlib.Omega.{arith}
use Prim.Native.Nat.{◌+◌, ◌-◌, ◌*◌}
use lib.ListN.{take, drop}
use Rattle.ol_tables.specs.Table.{tab_of}
use Rattle.ol_tables.specs.Tables.{name_cell_at}
use Rattle.ol_frame.proofs.Elements.{cells_lent, consts_lent}
use Rattle.ol_frame.proofs.Tabling.{tab_long}
use Rattle.ol_frame.proofs.arrays.named_cells.Goals as goal

pub overflow_add-at : goal.overflow_add-at
overflow_add-at c = omega (arith, tab_long c.args.tab.now, c.requires.0, c.well_formed)

pub returns-in-Variable : goal.returns-in-Variable
returns-in-Variable c =
    let t = c.args.tab.now in
    let n = c.args.n in
    let cells = c.args.cells.now in
    let is = c.in-Variable.ensures.0 in
    (λ j. take (9 * (is j + n) - 9 * is j) (drop (9 * is j) cells)) ∙ cells_lent cells t (name_cell_at (tab_of t) (c.args.at + 1)) n c.requires.3 c.requires.2 c.in-Variable.ensures.1

pub returns-in-Constant : goal.returns-in-Constant
returns-in-Constant c =
    let t = c.args.tab.now in
    consts_lent c.args.cells.now t (name_cell_at (tab_of t) (c.args.at + 1)) c.args.n c.requires.3 c.requires.2 c.in-Constant.ensures.1 (omega (arith, c.consts_from.ensures, c.in-Constant.ensures.0))
