use mathlib.Core.Path.{sym, subst}
use lib.ListN.{length}
use native.Mathlib.Omega.{arith}
use Rattle.ol_spec.specs.Places.{constants_start}
use Rattle.ol_tables.specs.At.{file_at}
use Rattle.ol_check.proofs.Standing.{stands}
use Rattle.ol_check.proofs.ClashLoops.{ConstantsGoing, constants_start_lem, constants_in_lem, constants_turn, constants_done}
use Rattle.ol_check.proofs.clash.Sorter.constants.Goals as goal

pub loop-init : goal.loop-init
loop-init c =
    let f = c.args.file.now in
    subst (ConstantsGoing f (length (file_at f).enums) (file_at f).constants (constants_start (file_at f)) _ _ 0) (sym c.requires.place) (constants_start_lem (stands c.type_inv.file c.requires.reads).constants)

pub variable-requires : goal.variable-requires
variable-requires c =
    let f = c.args.file.now in
    let inside = constants_in_lem c.loop.invariant (omega (arith, c.loop-test.true, c.requires.many)) in
    (omega arith, omega arith, omega (arith, inside, (stands c.type_inv.file c.requires.reads).short))

pub variable_end-requires : goal.variable_end-requires
variable_end-requires c =
    let f = c.args.file.now in
    let inside = constants_in_lem c.loop.invariant (omega (arith, c.loop-test.true, c.requires.many)) in
    omega (arith, inside, (stands c.type_inv.file c.requires.reads).short)

pub loop-preserved : goal.loop-preserved
loop-preserved c =
    constants_turn c.loop.invariant (omega (arith, c.loop-test.true, c.requires.many)) c.variable.ensures c.variable_end.ensures c.skip-next.ensures

pub returns : goal.returns
returns c =
    constants_done c.loop.invariant (omega (arith, c.loop-test.false, c.requires.many))
