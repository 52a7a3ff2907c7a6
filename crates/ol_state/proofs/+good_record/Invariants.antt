use lib.ListN.{length}
use Rattle.ol_tables.specs.At.{file_at}
use Rattle.ol_state.specs.Ahead.{callees_of}
use Rattle.ol_state.proofs.Records.{Judging}
use Rattle.ol_state.proofs.+good_record.Given as goal

abbrev pub decreases-good_record : goal.decreases-good_record
decreases-good_record l = l.k

abbrev pub invariant-loop-used : goal.invariant-loop-used
invariant-loop-used l = Judging (file_at l.file) l.k l.r l.used (callees_of l.sites)

abbrev pub decreases-loop-used : goal.decreases-loop-used
decreases-loop-used l = length (callees_of l.sites)
