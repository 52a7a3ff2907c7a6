use mathlib.Core.Path.{◌≡◌}
use Rattle.ieee_vectors.specs.Lines.{number_at}
use Rattle.ieee_vectors.proofs.number.Given as goal

abbrev pub invariant-loop-c : goal.invariant-loop-c
invariant-loop-c l = l.x ≡ number_at l.text l.at l.c-index
