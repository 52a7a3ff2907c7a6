use lib.ListN.{length}
use Rattle.ol_spec.specs.Places.{constants_start}
use Rattle.ol_tables.specs.At.{file_at}
use Rattle.ol_check.proofs.CellLaws.{ConstantCells}
use Rattle.ol_check.proofs.rows.cells_in.Given as goal

abbrev pub invariant-loop : goal.invariant-loop
invariant-loop l = ConstantCells l.file (length (file_at l.file).enums) (file_at l.file).constants (constants_start (file_at l.file)) l.cells l.counter l.next
