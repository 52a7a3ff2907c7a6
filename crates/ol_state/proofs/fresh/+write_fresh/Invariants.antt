use Rattle.ol_tables.specs.At.{file_at}
use Rattle.ol_state.specs.Ahead.{callees_of}
use Rattle.ol_state.proofs.FreshRecords.{Going}
use Rattle.ol_state.proofs.fresh.+write_fresh.Given as goal

abbrev pub decreases-write_fresh : goal.decreases-write_fresh
decreases-write_fresh l = l.k

abbrev pub invariant-loop-c : goal.invariant-loop-c
invariant-loop-c l = Going (file_at l.file) l.k l.initial.out l.used l.out (callees_of l.c-iterator)
