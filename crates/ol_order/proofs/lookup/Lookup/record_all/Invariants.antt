use lib.Seq.{sets}
use Rattle.ol_order.specs.Tables.{bounds}
use Rattle.ol_order.specs.Equations.{those, all_waited}
use Rattle.ol_order.proofs.Waiting.{Recording}
use Rattle.ol_order.proofs.lookup.Lookup.record_all.Given as goal

abbrev pub invariant-loop-k : goal.invariant-loop-k
invariant-loop-k g l = Recording (those l.self.equations) (sets l.initial.lists 0 (all_waited l.self.equations)) (sets l.initial.begins 0 (bounds (those l.self.equations) 0 (those l.self.equations))) l.k l.lists l.begins l.n
