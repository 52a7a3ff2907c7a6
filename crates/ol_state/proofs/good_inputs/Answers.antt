use Prim.Native.Nat.{◌*◌, ◌<◌, ◌≤◌}
use mathlib.Core.Path.{sym, ◌∙◌}
use native.Mathlib.Omega.{arith}
use lib.ListN.{length-drop}
use Rattle.ol_tables.specs.Tables.{row_at}
use Rattle.ol_tables.specs.Table.{rows_of}
use Rattle.ol_tables.proofs.Lending.{tail_all}
use Rattle.ol_state.proofs.DefaultCells.{code_read, enum_read, count_read}
use Rattle.ol_state.proofs.Instances.{counted}
use Rattle.ol_state.proofs.Each.{few, few_inputs_lem, cells_told, input_typed, input_room, judging_start, judging_on, judging_stop, judging_done, inputs_length, inputs_each}
use Rattle.ol_state.proofs.good_inputs.Goals as goal

pub main_node-k-requires : goal.main_node-k-requires
main_node-k-requires c = counted c.requires

pub cells_of-requires : goal.cells_of-requires
cells_of-requires c = (omega (arith, few c.requires c.main_node-k.result c.main_node-k.ensures), omega arith)

pub returns-then-inputs-cells_of : goal.returns-then-inputs-cells_of
returns-then-inputs-cells_of c = inputs_length c.requires c.main_node-k.result c.main_node-k.ensures c.args.inputs.now c.cells_of.ensures.0 c.if-inputs-cells_of.true

pub types_of-types-requires : goal.types_of-types-requires
types_of-types-requires c = omega (arith, few c.requires c.main_node-k.result c.main_node-k.ensures)

pub loop-i-init : goal.loop-i-init
loop-i-init c = judging_start

pub overflow_mul-i : goal.overflow_mul-i
overflow_mul-i c = omega (arith, few_inputs_lem c.requires c.main_node-k.result c.main_node-k.ensures, c.column-n.ensures)

pub overflow_add-types : goal.overflow_add-types
overflow_add-types c = omega (arith, few_inputs_lem c.requires c.main_node-k.result c.main_node-k.ensures, c.column-n.ensures)

pub type_at-t-requires : goal.type_at-t-requires
type_at-t-requires c = omega (arith, few_inputs_lem c.requires c.main_node-k.result c.main_node-k.ensures, c.column-n.ensures)

pub overflow_mul-cell : goal.overflow_mul-cell
overflow_mul-cell c =
    let k = c.main_node-k.result in
    let last = c.main_node-k.ensures in
    omega (arith, c.loop-i.invariant.count, cells_told c.requires k last, c.cells_of.ensures.0, c.if-inputs-cells_of.false)

pub slice_bounds-judge_inputs-count : goal.slice_bounds-judge_inputs-count
slice_bounds-judge_inputs-count c =
    let k = c.main_node-k.result in
    let last = c.main_node-k.ensures in
    omega (arith, c.loop-i.invariant.count, cells_told c.requires k last, c.cells_of.ensures.0, c.if-inputs-cells_of.false)

pub slice_bounds-judge_inputs-start : goal.slice_bounds-judge_inputs-start
slice_bounds-judge_inputs-start c =
    let k = c.main_node-k.result in
    let last = c.main_node-k.ensures in
    omega (arith, c.loop-i.invariant.count, cells_told c.requires k last, c.cells_of.ensures.0, c.if-inputs-cells_of.false)

pub judge_inputs-requires : goal.judge_inputs-requires
judge_inputs-requires c =
    let k = c.main_node-k.result in
    let last = c.main_node-k.ensures in
    let t = c.args.tab.now in
    let e = c.type_at-t.ensures in
    let i = c.loop-i.i in
    let h : i < row_at (rows_of t) k 2 = omega (arith, c.column-n.ensures) in
    let code = code_read t k i c.types_of-types.ensures.0 e.code in
    let number = enum_read t k i c.types_of-types.ensures.0 e.number.0 in
    let count = count_read t k i c.types_of-types.ensures.0 e.cells in
    let room = input_room c.requires k last i h code number count c.loop-i.invariant in
    (input_typed c.requires k last i h code number (omega (arith, e.code)) (omega (arith, e.number.1)), rw (tail_all (9 * c.loop-i.cell) c.args.inputs.now) (omega (arith, length-drop (9 * c.loop-i.cell) c.args.inputs.now, room, cells_told c.requires k last, c.cells_of.ensures.0, c.if-inputs-cells_of.false)))

pub returns-then-not-judge_inputs : goal.returns-then-not-judge_inputs
returns-then-not-judge_inputs c =
    let k = c.main_node-k.result in
    let last = c.main_node-k.ensures in
    let t = c.args.tab.now in
    let e = c.type_at-t.ensures in
    let i = c.loop-i.i in
    let h : i < row_at (rows_of t) k 2 = omega (arith, c.column-n.ensures) in
    let code = code_read t k i c.types_of-types.ensures.0 e.code in
    let number = enum_read t k i c.types_of-types.ensures.0 e.number.0 in
    let count = count_read t k i c.types_of-types.ensures.0 e.cells in
    let r = c.args.inputs.now in
    judging_stop c.requires k last i h code number count c.loop-i.invariant c.judge_inputs.ensures c.if-not-judge_inputs.true ∙ sym (inputs_each c.requires k last r c.cells_of.ensures.0 c.if-inputs-cells_of.false)

pub overflow_add-cell : goal.overflow_add-cell
overflow_add-cell c =
    let k = c.main_node-k.result in
    let last = c.main_node-k.ensures in
    let t = c.args.tab.now in
    let e = c.type_at-t.ensures in
    let i = c.loop-i.i in
    let h : i < row_at (rows_of t) k 2 = omega (arith, c.column-n.ensures) in
    let code = code_read t k i c.types_of-types.ensures.0 e.code in
    let number = enum_read t k i c.types_of-types.ensures.0 e.number.0 in
    let count = count_read t k i c.types_of-types.ensures.0 e.cells in
    omega (arith, input_room c.requires k last i h code number count c.loop-i.invariant, cells_told c.requires k last, c.cells_of.ensures.0, c.if-inputs-cells_of.false)

pub loop-i-preserved : goal.loop-i-preserved
loop-i-preserved c =
    let k = c.main_node-k.result in
    let last = c.main_node-k.ensures in
    let t = c.args.tab.now in
    let e = c.type_at-t.ensures in
    let i = c.loop-i.i in
    let h : i < row_at (rows_of t) k 2 = omega (arith, c.column-n.ensures) in
    let code = code_read t k i c.types_of-types.ensures.0 e.code in
    let number = enum_read t k i c.types_of-types.ensures.0 e.number.0 in
    let count = count_read t k i c.types_of-types.ensures.0 e.cells in
    judging_on c.requires k last i h code number count c.loop-i.invariant c.judge_inputs.ensures c.if-not-judge_inputs.false

pub returns : goal.returns
returns c =
    let k = c.main_node-k.result in
    let last = c.main_node-k.ensures in
    let end : row_at (rows_of c.args.tab.now) k 2 ≤ c.loop-i.i = omega (arith, c.column-n.ensures, c.loop-i-test.false) in
    judging_done c.requires k last c.loop-i.invariant end ∙ sym (inputs_each c.requires k last c.args.inputs.now c.cells_of.ensures.0 c.if-inputs-cells_of.false)
