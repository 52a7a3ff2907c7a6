use Prim.Native.Nat.{◌-◌}
use lib.ListN.{length}
use Rattle.ol_spec.specs.Eval.{callees_all}
use Rattle.ol_tables.specs.At.{exprs_at, ends_at}
use Rattle.ol_frame.proofs.Passing.{Rest}
use Rattle.ol_frame.proofs.skip.pass_all.Given as goal

abbrev pub invariant-loop-c : goal.invariant-loop-c
invariant-loop-c l = Rest l.file (callees_all (exprs_at l.file l.level l.count l.at)) (ends_at l.file l.level l.count l.at) l.next l.used l.has l.left

abbrev pub decreases-loop-c : goal.decreases-loop-c
decreases-loop-c l = length l.file - l.next
