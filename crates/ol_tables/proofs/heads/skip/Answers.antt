use Rattle.ol_tables.proofs.Skipping.{skip_over, same_file, skip_passed}
use Rattle.ol_tables.proofs.heads.skip.Goals as goal

pub loop-preserved : goal.loop-preserved
loop-preserved c =
    let (file, left) = c.loop.invariant in
    (same_file c.in-Some.ensures file, skip_passed c.in-Some.ensures file left)

pub returns : goal.returns
returns c = skip_over c.in_default.ensures c.loop.invariant.0 c.loop.invariant.1
