use native.Mathlib.Omega.{arith}
use Rattle.ol_check.proofs.EntryLoops.{enums_start, enums_turn, enums_done}
use Rattle.ol_check.proofs.names.declare_enums.Goals as goal

pub loop-i-init : goal.loop-i-init
loop-i-init c = (omega arith, enums_start)

pub loop-i-preserved : goal.loop-i-preserved
loop-i-preserved c =
    (omega (arith, c.loop-i.invariant.0, c.names_end-next.ensures, c.byte.ensures.is, c.byte.ensures.small), enums_turn c.loop-i.invariant.1 c.loop-i-test.true c.byte.ensures c.names_end-next.ensures c.declare_variants.ensures)

pub returns : goal.returns
returns c = enums_done c.loop-i.invariant.1 c.loop-i-test.false
