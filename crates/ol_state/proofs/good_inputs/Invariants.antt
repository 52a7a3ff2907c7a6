use Rattle.ol_spec.specs.Syntax.{main}
use Rattle.ol_tables.specs.At.{file_at}
use Rattle.ol_state.proofs.Each.{Judging}
use Rattle.ol_state.proofs.good_inputs.Given as goal

abbrev pub invariant-loop-i : goal.invariant-loop-i
invariant-loop-i l = Judging (file_at l.file) (main (file_at l.file)).inputs l.inputs l.i l.cell
