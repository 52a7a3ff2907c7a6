use Rattle.std.proofs.Common.{◌≡◌, ◌≤◌, drop}
use Rattle.relay_text.specs.Text.{number_from}
use Rattle.relay_text.proofs.decimal.Given as goal

abbrev pub invariant-loop-c : goal.invariant-loop-c
invariant-loop-c l = (l.value ≤ 10000000000000000) × (number_from 0 l.text ≡ number_from l.value (drop l.c-index l.text))
