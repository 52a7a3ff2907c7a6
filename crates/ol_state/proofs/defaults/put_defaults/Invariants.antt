use Rattle.ol_state.proofs.DefaultCells.{Repeating}
use Rattle.ol_state.proofs.defaults.put_defaults.Given as goal

abbrev pub invariant-loop-i : goal.invariant-loop-i
invariant-loop-i l = Repeating l.code l.first l.count l.initial.out l.i l.out
