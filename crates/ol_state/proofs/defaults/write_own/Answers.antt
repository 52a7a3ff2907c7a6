use Prim.Native.Nat.{◌*◌}
use mathlib.Core.Path.{ap, ◌∙◌}
use native.Mathlib.Omega.{arith}
use lib.ListN.{length, set, length-set, length-drop}
use Rattle.ol_tables.specs.Tables.{row_at}
use Rattle.ol_tables.specs.Table.{tab_of, rows_of}
use Rattle.ol_state.specs.Defaults.{width_at, defaults_at}
use Rattle.ol_tables.proofs.Lending.{tail_all}
use Rattle.ol_state.proofs.DefaultCells.{own_written, own_long, length_cells_at}
use Rattle.ol_state.proofs.defaults.write_own.Goals as goal

pub slice_bounds-write_defaults-count : goal.slice_bounds-write_defaults-count
slice_bounds-write_defaults-count c =
    let m = length-set c.args.out.now 0 0 in
    omega (arith, c.requires.1, m)

pub slice_bounds-write_defaults-start : goal.slice_bounds-write_defaults-start
slice_bounds-write_defaults-start c =
    let m = length-set c.args.out.now 0 0 in
    omega (arith, c.requires.1, m)

pub write_defaults-requires : goal.write_defaults-requires
write_defaults-requires c =
    let m = length-set c.args.out.now 0 0 in
    (c.requires.0, rw (tail_all 1 (set c.args.out.now 0 0)) (omega (arith, length-drop 1 (set c.args.out.now 0 0), c.requires.1, m)))

pub shape_of-out : goal.shape_of-out
shape_of-out c =
    let n = width_at c.args.tab.now c.args.k in
    let cells = defaults_at c.args.tab.now c.args.k in
    let is = own_written c.args.out.now cells c.write_defaults.new.out (9 * n) c.requires.1 c.write_defaults.ensures in
    ap length is ∙ own_long c.args.out.now cells (9 * n) c.requires.1 (length_cells_at (tab_of c.args.tab.now) (rows_of c.args.tab.now) c.args.k 0 (row_at (rows_of c.args.tab.now) c.args.k 4))

pub returns : goal.returns
returns c =
    let n = width_at c.args.tab.now c.args.k in
    let cells = defaults_at c.args.tab.now c.args.k in
    let is = own_written c.args.out.now cells c.write_defaults.new.out (9 * n) c.requires.1 c.write_defaults.ensures in
    is
