use lib.ListN.{length}
use Rattle.ol_spec.specs.Places.{constants_start}
use Rattle.ol_tables.specs.At.{file_at}
use Rattle.ol_check.proofs.ClashLoops.{ConstantsGoing}
use Rattle.ol_check.proofs.clash.Sorter.constants.Given as goal

abbrev pub invariant-loop : goal.invariant-loop
invariant-loop l =
    ConstantsGoing l.file (length (file_at l.file).enums) (file_at l.file).constants (constants_start (file_at l.file)) l.initial.self l.self l.counter l.next
