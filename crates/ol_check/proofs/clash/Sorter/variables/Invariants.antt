use Prim.Native.Nat.{◌+◌, ◌*◌, ◌≤◌}
use Rattle.ol_check.specs.Spans.{behind_variable}
use Rattle.ol_check.proofs.ClashLoops.{NamesGoing, one_type}
use Rattle.ol_check.proofs.clash.Sorter.variables.Given as goal

abbrev pub invariant-loop : goal.invariant-loop
invariant-loop l =
    (l.next ≤ l.at + 6 * l.counter) × NamesGoing (one_type l.file) (behind_variable l.file) l.file l.sort l.count l.at l.initial.self l.self l.counter l.next
