use Rattle.ol_state.proofs.Judged.{Repeated}
use Rattle.ol_state.proofs.own.are_default.Given as goal

abbrev pub invariant-loop-i : goal.invariant-loop-i
invariant-loop-i l = Repeated l.code l.first l.count l.cells l.i
