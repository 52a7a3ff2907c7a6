use lib.ListN.{length}
use Rattle.ol_check.proofs.RowLoops.{RowsGoing}
use Rattle.ol_tables.specs.Numbers.{numbers}
use Rattle.ol_check.proofs.rows.node_rows.Given as goal

abbrev pub invariant-loop-k : goal.invariant-loop-k
invariant-loop-k l = RowsGoing l.file l.places (numbers l.initial.rows) l.initial.tab (numbers l.rows) l.tab l.plans (length l.places) l.k
