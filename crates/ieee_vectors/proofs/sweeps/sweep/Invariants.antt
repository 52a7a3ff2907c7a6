use mathlib.Core.Path.{◌≡◌}
use Rattle.ieee_vectors.specs.Sweeps.{sweep_to}
use Rattle.ieee_vectors.proofs.sweeps.sweep.Given as goal

abbrev pub invariant-loop : goal.invariant-loop
invariant-loop l = (l.x ≡ (sweep_to l.op l.e l.seed l.counter).x) × (l.h ≡ (sweep_to l.op l.e l.seed l.counter).h)
