use Rattle.ol_tables.specs.Table.{Packs}
use Rattle.ol_tables.proofs.table.pack.Given as goal

abbrev pub invariant-loop-i : goal.invariant-loop-i
invariant-loop-i l = Packs l.rows l.first l.i l.initial.tab l.tab
