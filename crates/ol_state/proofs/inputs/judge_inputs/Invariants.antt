use Rattle.ol_tables.specs.At.{file_at}
use Rattle.ol_state.proofs.Each.{Some}
use Rattle.ol_state.proofs.inputs.judge_inputs.Given as goal

abbrev pub invariant-loop-i : goal.invariant-loop-i
invariant-loop-i l = Some (file_at l.file) l.code l.e l.count l.cells l.i
