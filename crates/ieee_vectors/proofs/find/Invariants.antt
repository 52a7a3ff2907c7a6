use mathlib.Core.Path.{◌≡◌}
use lib.ListN.{take}
use Rattle.ieee_vectors.specs.Lines.{answers}
use Rattle.ieee_vectors.proofs.find.Given as goal

abbrev pub invariant-loop-k : goal.invariant-loop-k
invariant-loop-k l = take l.k l.found ≡ answers l.text l.k
