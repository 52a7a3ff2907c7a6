use Rattle.ol_tables.specs.At.{file_at}
use Rattle.ol_check.proofs.ClashFile.{NodesGoing}
use Rattle.ol_check.proofs.clash.Sorter.nodes.Given as goal

abbrev pub invariant-loop-k : goal.invariant-loop-k
invariant-loop-k l = NodesGoing (file_at l.file) l.initial.self l.self l.k
