use Prim.Native.Nat.{◌+◌, ◌*◌, ◌≤◌}
use Rattle.ol_check.proofs.RowLoops.{FirstsGoing}
use Rattle.ol_tables.specs.Numbers.{numbers}
use Rattle.ol_check.proofs.rows.enum_rows.Given as goal

abbrev pub invariant-loop-e : goal.invariant-loop-e
invariant-loop-e l =
    (l.next ≤ l.at + 511 * l.e) × FirstsGoing l.file (numbers l.initial.rows) (numbers l.rows) l.count l.at l.e l.next
