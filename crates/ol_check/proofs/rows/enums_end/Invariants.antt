use Prim.Native.Nat.{◌+◌, ◌-◌, ◌*◌, ◌≤◌}
use mathlib.Core.Path.{◌≡◌}
use Rattle.ol_check.specs.Spans.{end_from, behind_enum}
use Rattle.ol_check.proofs.rows.enums_end.Given as goal

abbrev pub invariant-loop : goal.invariant-loop
invariant-loop l = (l.next ≤ l.at + 511 * l.counter) × (end_from (behind_enum l.file) (l.count - l.counter) l.next ≡ end_from (behind_enum l.file) l.count l.at)
