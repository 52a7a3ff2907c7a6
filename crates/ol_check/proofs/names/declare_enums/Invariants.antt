use Prim.Native.Nat.{◌+◌, ◌*◌, ◌≤◌}
use Rattle.ol_check.proofs.EntryLoops.{EnumsGoing}
use Rattle.ol_check.proofs.names.declare_enums.Given as goal

abbrev pub invariant-loop-i : goal.invariant-loop-i
invariant-loop-i l =
    (l.next ≤ l.at + 511 * l._i) × EnumsGoing l.file l.initial.names l.names l.count l.at l._i l.next
