use Prim.Native.Nat.{◌+◌, ◌*◌, ◌≤◌}
use Rattle.ol_check.proofs.ClashLoops.{EnumsGoing}
use Rattle.ol_check.proofs.clash.Sorter.enums.Given as goal

abbrev pub invariant-loop-e : goal.invariant-loop-e
invariant-loop-e l =
    (l.next ≤ l.at + 511 * l.e) × EnumsGoing l.file l.count l.at l.initial.self l.self l.e l.next
