use native.Mathlib.Omega.{arith}
use Rattle.ol_tables.proofs.TableLaws.{packs_turn}
use Rattle.ol_tables.proofs.table.pack.Goals as goal

pub loop-i-preserved : goal.loop-i-preserved
loop-i-preserved c =
    let l = c.loop-i in
    let low = c.loop-i-test.true in
    packs_turn l.invariant (omega arith) (omega arith) (c.requires.4 l.i (omega arith) low) (omega arith) c.put_number.ensures
