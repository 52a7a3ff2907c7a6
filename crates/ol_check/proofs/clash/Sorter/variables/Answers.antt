use Prim.Native.Nat.{◌+◌}
use native.Mathlib.Omega.{arith}
use Rattle.ol_tables.proofs.Walking.{ty_small}
use Rattle.ol_check.proofs.ClashLoops.{names_start, names_turn, names_end, typed_done}
use Rattle.ol_check.proofs.clash.Sorter.variables.Goals as goal

pub loop-init : goal.loop-init
loop-init c = (omega arith, names_start)

pub loop-preserved : goal.loop-preserved
loop-preserved c =
    (omega (arith, c.loop.invariant.0, ty_small c.args.file.now (c.loop.next + 2), c.variable_end-next.ensures), names_turn c.loop.invariant.1 c.loop-test.true c.variable_end-next.ensures c.variable.ensures)

pub returns : goal.returns
returns c = record { walks = typed_done c.loop.invariant.1 c.loop-test.false; ends = names_end c.loop.invariant.1 c.loop-test.false }
