use Rattle.value_grid.specs.Questions.{Agreed}
use Rattle.value_grid.proofs.agreed.Given as goal

abbrev pub invariant-loop-t : goal.invariant-loop-t
invariant-loop-t l = Agreed l.section l.grid l.sum l.t
