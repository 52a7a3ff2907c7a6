use Prim.Native.Nat.{◌+◌, ◌*◌}
use Rattle.ol_check.specs.Spans.{behind_name}
use Rattle.ol_check.proofs.ClashLoops.{NamesGoing, no_type}
use Rattle.ol_check.proofs.clash.Sorter.names.Given as goal

abbrev pub invariant-loop-i : goal.invariant-loop-i
invariant-loop-i l = NamesGoing no_type behind_name l.file l.sort l.count l.at l.initial.self l.self l.i (l.at + 2 * l.i)
