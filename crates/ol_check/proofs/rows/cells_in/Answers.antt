use mathlib.Core.Path.{sym, subst}
use lib.ListN.{length}
use native.Mathlib.Omega.{arith}
use Rattle.ol_spec.specs.Places.{constants_start}
use Rattle.ol_tables.specs.At.{file_at}
use Rattle.ol_check.proofs.Standing.{stands}
use Rattle.ol_check.proofs.CellLaws.{ConstantCells, constants_start_lem, constants_in_lem, constants_turn, constants_done, cells_least}
use Rattle.ol_check.proofs.rows.cells_in.Goals as goal

pub loop-init : goal.loop-init
loop-init c =
    let f = c.args.file.now in
    subst (ConstantCells f (length (file_at f).enums) (file_at f).constants (constants_start (file_at f)) 0 0) (sym c.requires.place) (constants_start_lem (stands c.type_inv.file c.requires.reads).constants)

pub overflow_add-next : goal.overflow_add-next
overflow_add-next c =
    let inside = constants_in_lem c.loop.invariant (omega (arith, c.loop-test.true, c.requires.many)) in
    omega (arith, inside, (stands c.type_inv.file c.requires.reads).short)

pub array_length-requires : goal.array_length-requires
array_length-requires c =
    let inside = constants_in_lem c.loop.invariant (omega (arith, c.loop-test.true, c.requires.many)) in
    omega (arith, inside, (stands c.type_inv.file c.requires.reads).short)

pub overflow_add-cells : goal.overflow_add-cells
overflow_add-cells c =
    omega (arith, c.loop.invariant.small, c.loop-test.true, c.requires.many, (stands c.type_inv.file c.requires.reads).few_constants, cells_least _ _ c.array_length.ensures.1 c.cells_for-cells.ensures)

pub variable_end-requires : goal.variable_end-requires
variable_end-requires c =
    let inside = constants_in_lem c.loop.invariant (omega (arith, c.loop-test.true, c.requires.many)) in
    omega (arith, inside, (stands c.type_inv.file c.requires.reads).short)

pub loop-preserved : goal.loop-preserved
loop-preserved c =
    constants_turn c.loop.invariant (omega (arith, c.loop-test.true, c.requires.many)) c.array_length.ensures.0 c.cells_for-cells.ensures c.variable_end.ensures c.skip-next.ensures

pub returns : goal.returns
returns c = constants_done c.loop.invariant (omega (arith, c.loop-test.false, c.requires.many))
