use Rattle.std.proofs.Common.{◌≡◌, ◌+◌, ◌-◌, ◌≤◌, length}
use Rattle.relay_text.specs.Text.{words_up_to}
use Rattle.relay_text.proofs.words.Given as goal

abbrev pub invariant-loop-n : goal.invariant-loop-n
invariant-loop-n l = (l.at ≤ length l.line) × (l.n + words_up_to (6 - l.n) l.line l.at ≡ words_up_to 6 l.line 0)
