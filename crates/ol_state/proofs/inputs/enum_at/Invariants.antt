use Rattle.ol_tables.specs.At.{file_at}
use Rattle.ol_state.proofs.Enums.{Walking}
use Rattle.ol_state.proofs.inputs.enum_at.Given as goal

abbrev pub invariant-loop : goal.invariant-loop
invariant-loop l = Walking (file_at l.file) l.file l.counter l.pos
