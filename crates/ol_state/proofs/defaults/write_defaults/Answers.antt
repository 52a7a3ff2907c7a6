use Prim.Native.Nat.{◌*◌}
use mathlib.Core.List.{◌++◌}
use mathlib.Core.Path.{ap, ◌∙◌}
use native.Mathlib.Omega.{arith}
use lib.ListN.{drop, length-drop}
use Rattle.ol_tables.specs.Table.{tab_of, rows_of}
use Rattle.ol_tables.proofs.Lending.{tail_all}
use Rattle.ol_state.specs.Defaults.{widths_at, cells_at}
use Rattle.ol_state.proofs.DefaultCells.{few_variables, variable_read, write_room, write_turn, write_done}
use Rattle.ol_state.proofs.defaults.write_defaults.Goals as goal

pub overflow_mul-i : goal.overflow_mul-i
overflow_mul-i c = omega (arith, few_variables c.args.tab.now c.args.k c.column-n.ensures c.requires.1)

pub overflow_add-types : goal.overflow_add-types
overflow_add-types c = omega (arith, few_variables c.args.tab.now c.args.k c.column-n.ensures c.requires.1)

pub type_at-t-requires : goal.type_at-t-requires
type_at-t-requires c = omega (arith, few_variables c.args.tab.now c.args.k c.column-n.ensures c.requires.1)

pub put_defaults-requires : goal.put_defaults-requires
put_defaults-requires c =
    let e = c.type_at-t.ensures in
    let v = variable_read c.args.tab.now c.args.k c.loop-i.i c.types_of-types.ensures.0 e.code e.number.0 c.first_variant-first.ensures e.cells in
    let room = write_room (tab_of c.args.tab.now) (rows_of c.args.tab.now) c.args.k c.loop-i.invariant v c.loop-i-test.true in
    let n = ap (widths_at (tab_of c.args.tab.now) c.args.k 0) c.column-n.ensures in
    (omega (arith, e.code), rw (tail_all (9 * c.loop-i.cell) c.loop-i.out) (omega (arith, length-drop (9 * c.loop-i.cell) c.loop-i.out, room, n, c.loop-i.invariant.filled.long)))

pub loop-i-preserved : goal.loop-i-preserved
loop-i-preserved c =
    let e = c.type_at-t.ensures in
    let v = variable_read c.args.tab.now c.args.k c.loop-i.i c.types_of-types.ensures.0 e.code e.number.0 c.first_variant-first.ensures e.cells in
    let n = ap (widths_at (tab_of c.args.tab.now) c.args.k 0) c.column-n.ensures in
    write_turn (tab_of c.args.tab.now) (rows_of c.args.tab.now) c.args.k c.loop-i.invariant v c.loop-i-test.true c.put_defaults.new.out (omega (arith, n)) c.put_defaults.ensures

pub returns : goal.returns
returns c =
    let t = tab_of c.args.tab.now in
    let r = rows_of c.args.tab.now in
    write_done t r c.args.k c.loop-i.invariant c.loop-i-test.false
    ∙ ap (λ m. cells_at t r c.args.k 0 m ++ drop (9 * widths_at t c.args.k 0 m) c.args.out.now) c.column-n.ensures
