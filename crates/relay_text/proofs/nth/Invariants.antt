use Rattle.std.proofs.Common.{◌≡◌, ◌-◌, ◌≤◌, length}
use Rattle.relay_text.specs.Text.{behind}
use Rattle.relay_text.proofs.nth.Given as goal

abbrev pub invariant-loop : goal.invariant-loop
invariant-loop l = (l.at ≤ length l.line) × (behind l.line (l.k - l.counter) l.at ≡ behind l.line l.k 0)
