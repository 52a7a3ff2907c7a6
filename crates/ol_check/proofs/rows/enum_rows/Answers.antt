use native.Mathlib.Omega.{arith}
use Rattle.ol_check.proofs.RowLoops.{firsts_start, firsts_turn, firsts_done}
use Rattle.ol_check.proofs.rows.enum_rows.Goals as goal

pub loop-e-init : goal.loop-e-init
loop-e-init c = (omega arith, firsts_start)

pub loop-e-preserved : goal.loop-e-preserved
loop-e-preserved c = (omega (arith, c.loop-e.invariant.0, c.names_end-next.ensures, c.type_inv.file c.loop-e.next), firsts_turn c.loop-e.invariant.1 c.loop-e-test.true c.name.ensures.is c.put_first.ensures c.names_end-next.ensures)

pub returns : goal.returns
returns c = firsts_done c.loop-e.invariant.1 c.loop-e-test.false
