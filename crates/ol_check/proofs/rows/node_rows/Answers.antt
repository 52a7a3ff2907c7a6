use mathlib.Core.Path.{refl}
use native.Mathlib.Omega.{arith}
use Rattle.ol_check.proofs.RowLoops.{rows_start, rows_turn, rows_done}
use Rattle.ol_check.proofs.rows.node_rows.Goals as goal

pub loop-k-init : goal.loop-k-init
loop-k-init c = rows_start

pub node_row-requires : goal.node_row-requires
node_row-requires c =
    (omega (arith, c.requires.0, c.loop-k-test.true), c.requires.1 c.loop-k.k c.loop-k-test.true, omega (arith, c.requires.2))

pub loop-k-preserved : goal.loop-k-preserved
loop-k-preserved c = rows_turn c.loop-k.invariant c.loop-k-test.true refl c.node_row.ensures

pub returns : goal.returns
returns c = rows_done c.loop-k.invariant c.loop-k-test.false
