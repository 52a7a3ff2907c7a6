use Rattle.ol_run.specs.Constants.{KeepsCells}
use Rattle.ol_run.proofs.constants.keep_cells.Given as goal

abbrev pub invariant-loop-i : goal.invariant-loop-i
invariant-loop-i l = KeepsCells l.code l.i l.from l.initial.to l.to
