use Prim.Native.Nat.{◌≤◌}
use lib.ListN.{length}
use Rattle.ol_spec.specs.Admission.{variants}
use Rattle.ol_tables.specs.At.{file_at}
use Rattle.ol_check.specs.Judging.{findings}
use Rattle.ol_check.proofs.ConstantLaws.{ConstantsGoing, TypesSoFar}
use Rattle.ol_check.proofs.constants.judge_constants.Given as goal

abbrev pub invariant-loop-i : goal.invariant-loop-i
invariant-loop-i l =
    record {
      going : ConstantsGoing l.file (file_at l.file) (variants (file_at l.file)) (length (file_at l.file).enums) (file_at l.file).constants l.initial.names l.initial.slots (findings l.initial.g) l.names l.slots (findings l.g) l.i;
      small : l.g.size ≤ 65536;
      typed : TypesSoFar l.types (file_at l.file).constants l.initial.plans l.plans l.i;
    }
