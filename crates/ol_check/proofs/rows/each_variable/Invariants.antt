use Prim.Native.Nat.{◌+◌, ◌*◌, ◌≤◌}
use Rattle.ol_check.specs.Spans.{behind_variable, Visited}
use Rattle.ol_check.proofs.SpanLaws.{EachGoing}
use Rattle.ol_check.proofs.rows.each_variable.Given as goal

abbrev pub invariant-loop-i : goal.invariant-loop-i
invariant-loop-i g l =
    (l.next ≤ l.at + 6 * l.i) × EachGoing (λ t i p u. Visited (λ y y'. goal.F-post g l.fn.visit y i p tt y') t u) (behind_variable l.file) l.first l.count l.at l.initial.table l.table l.i l.next
