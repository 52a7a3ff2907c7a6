use native.Mathlib.Omega.{arith}
use Rattle.ol_tables.specs.Numbers.{numbers}
use Rattle.ol_tables.proofs.NumberLaws.{numbers_long, row_told, first_told}
use Rattle.ol_tables.proofs.tables.FileRows.of.Goals as goal

pub loop-k-init : goal.loop-k-init
loop-k-init c = λ i lt. absurd (omega arith)

pub loop-k-preserved : goal.loop-k-preserved
loop-k-preserved c =
    let l = c.loop-k in
    row_told (numbers l.rows) _ c.args.list.now l.k (numbers_long l.rows) (omega arith) c.of.ensures c.put_node.ensures l.invariant

pub loop-e-init : goal.loop-e-init
loop-e-init c = λ i lt. c.loop-k.invariant i (omega arith)

pub loop-e-preserved : goal.loop-e-preserved
loop-e-preserved c =
    let l = c.loop-e in
    first_told (numbers l.rows) _ c.args.list.now l.e _ (numbers_long l.rows) (omega arith) c.entry.ensures c.put_first.ensures l.invariant

pub returns : goal.returns
returns c = λ i lt. c.loop-e.invariant i (omega arith)
