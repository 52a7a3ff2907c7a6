use Rattle.ol_frame.specs.Stores.{Fitted}
use Rattle.ol_frame.proofs.copies.fit_cells.Given as goal

abbrev pub invariant-loop-i : goal.invariant-loop-i
invariant-loop-i l = Fitted l.code l.i l.initial.cells l.cells
