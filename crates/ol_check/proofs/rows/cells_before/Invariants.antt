use Rattle.ol_check.proofs.CellLaws.{CellsGoing}
use Rattle.ol_check.proofs.rows.cells_before.Given as goal

abbrev pub invariant-loop-j : goal.invariant-loop-j
invariant-loop-j l = CellsGoing l.types l.at l.i l.cells l.j
