use Rattle.ol_check.proofs.CellLaws.{count_start, count_turn, count_done}
use Rattle.ol_check.proofs.rows.count_cells.Goals as goal

pub loop-k-init : goal.loop-k-init
loop-k-init c = count_start

pub loop-k-preserved : goal.loop-k-preserved
loop-k-preserved c =
    let r = c.node-row.ensures in
    count_turn c.loop-k.invariant c.loop-k-test.true r.place r.inputs r.outputs c.cells_before-a.ensures.0 c.cells_before-b.ensures.0 r.variables c.cells_before-c.ensures.0 c.put_counts.ensures

pub returns : goal.returns
returns c = count_done c.loop-k.invariant c.loop-k-test.false
