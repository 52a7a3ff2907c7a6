use Prim.Native.Nat.{◌*◌}
use mathlib.Core.Path.{ap, ◌∙◌}
use native.Mathlib.Omega.{arith}
use lib.ListN.{take, length-drop}
use Rattle.ol_spec.specs.Lists.{same}
use Rattle.ol_tables.specs.Table.{tab_of, rows_of}
use Rattle.ol_tables.proofs.Lending.{tail_all}
use Rattle.ol_state.specs.Defaults.{widths_at, cells_at}
use Rattle.ol_state.proofs.DefaultCells.{few_variables, variable_read}
use Rattle.ol_state.proofs.Judged.{defaulted_room, defaulted_on, defaulted_stop, defaulted_done}
use Rattle.ol_state.proofs.own.are_defaults.Goals as goal

pub overflow_mul-i : goal.overflow_mul-i
overflow_mul-i c = omega (arith, few_variables c.args.tab.now c.args.k c.column-n.ensures c.requires.1)

pub overflow_add-types : goal.overflow_add-types
overflow_add-types c = omega (arith, few_variables c.args.tab.now c.args.k c.column-n.ensures c.requires.1)

pub type_at-t-requires : goal.type_at-t-requires
type_at-t-requires c = omega (arith, few_variables c.args.tab.now c.args.k c.column-n.ensures c.requires.1)

pub are_default-requires : goal.are_default-requires
are_default-requires c =
    let e = c.type_at-t.ensures in
    let v = variable_read c.args.tab.now c.args.k c.loop-i.i c.types_of-types.ensures.0 e.code e.number.0 c.first_variant-first.ensures e.cells in
    let room = defaulted_room c.loop-i.invariant v c.loop-i-test.true in
    let n = ap (widths_at (tab_of c.args.tab.now) c.args.k 0) c.column-n.ensures in
    (omega (arith, e.code), rw (tail_all (9 * c.loop-i.cell) c.args.cells.now) (omega (arith, length-drop (9 * c.loop-i.cell) c.args.cells.now, room, n)))

pub returns-then-not-are_default : goal.returns-then-not-are_default
returns-then-not-are_default c =
    let e = c.type_at-t.ensures in
    let v = variable_read c.args.tab.now c.args.k c.loop-i.i c.types_of-types.ensures.0 e.code e.number.0 c.first_variant-first.ensures e.cells in
    let n = ap (widths_at (tab_of c.args.tab.now) c.args.k 0) c.column-n.ensures in
    let t = tab_of c.args.tab.now in
    let r = rows_of c.args.tab.now in
    defaulted_stop c.loop-i.invariant v c.loop-i-test.true (omega (arith, n)) c.are_default.ensures c.if-not-are_default.true
    ∙ ap (λ m. same (take (9 * widths_at t c.args.k 0 m) c.args.cells.now) (cells_at t r c.args.k 0 m)) c.column-n.ensures

pub loop-i-preserved : goal.loop-i-preserved
loop-i-preserved c =
    let e = c.type_at-t.ensures in
    let v = variable_read c.args.tab.now c.args.k c.loop-i.i c.types_of-types.ensures.0 e.code e.number.0 c.first_variant-first.ensures e.cells in
    let n = ap (widths_at (tab_of c.args.tab.now) c.args.k 0) c.column-n.ensures in
    defaulted_on c.loop-i.invariant v c.loop-i-test.true (omega (arith, n)) c.are_default.ensures c.if-not-are_default.false

pub returns : goal.returns
returns c =
    let t = tab_of c.args.tab.now in
    let r = rows_of c.args.tab.now in
    defaulted_done c.loop-i.invariant c.loop-i-test.false
    ∙ ap (λ m. same (take (9 * widths_at t c.args.k 0 m) c.args.cells.now) (cells_at t r c.args.k 0 m)) c.column-n.ensures
