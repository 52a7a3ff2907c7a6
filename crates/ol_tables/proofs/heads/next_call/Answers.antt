use Rattle.ol_tables.proofs.Skipping.{same_file, looked_over, met_here, passed_here}
use Rattle.ol_tables.proofs.heads.next_call.Goals as goal

pub returns-then-is_at : goal.returns-then-is_at
returns-then-is_at c = met_here c.in-Some.ensures c.loop-here.invariant.0 c.loop-here.invariant.1 c.if-is_at.ensures c.byte.ensures

pub loop-here-preserved : goal.loop-here-preserved
loop-here-preserved c =
    let (file, looking) = c.loop-here.invariant in
    (same_file c.in-Some.ensures file, passed_here c.in-Some.ensures file looking c.if-is_at.ensures)

pub returns : goal.returns
returns c = looked_over c.in_default.ensures c.loop-here.invariant.0 c.loop-here.invariant.1
