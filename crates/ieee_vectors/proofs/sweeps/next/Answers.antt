use mathlib.Core.Path.{refl}
use Rattle.ieee_vectors.specs.Sweeps.{next_of}
use Rattle.ieee_vectors.proofs.sweeps.next.Goals as goal

pub returns : goal.returns
unfolding next_of
returns c = refl
