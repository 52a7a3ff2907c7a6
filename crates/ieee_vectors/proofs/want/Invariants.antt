use mathlib.Core.Path.{◌≡◌}
use lib.ListN.{take}
use Rattle.ieee_vectors.specs.Lines.{results}
use Rattle.ieee_vectors.proofs.want.Given as goal

abbrev pub invariant-loop-k : goal.invariant-loop-k
invariant-loop-k l = take l.k l.wanted ≡ results l.text l.k
