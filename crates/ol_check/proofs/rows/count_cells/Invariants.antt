use Rattle.ol_tables.specs.Numbers.{numbers}
use Rattle.ol_check.proofs.CellLaws.{CountGoing}
use Rattle.ol_check.proofs.rows.count_cells.Given as goal

abbrev pub invariant-loop-k : goal.invariant-loop-k
invariant-loop-k l = CountGoing (numbers l.rows) l.plans l.count l.initial.tab l.tab l.k
