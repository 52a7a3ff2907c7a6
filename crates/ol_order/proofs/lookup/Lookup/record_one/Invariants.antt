use Prim.Native.Nat.{◌+◌, ◌-◌}
use lib.ListN.{length}
use lib.Seq.{sets}
use Rattle.ol_order.specs.Equations.{those, waited_by}
use Rattle.ol_order.proofs.Scanning.{Pending}
use Rattle.ol_order.proofs.lookup.Lookup.record_one.Given as goal

abbrev pub invariant-loop-left : goal.invariant-loop-left
invariant-loop-left g l = Pending l.file l.self.equations.limits l.self.equations.enums (those l.self.equations) (sets l.initial.lists l.n (waited_by l.self.equations l.k)) (l.n + length (waited_by l.self.equations l.k)) l.lists l.end l.left l.at

abbrev pub decreases-loop-left : goal.decreases-loop-left
decreases-loop-left g l = length l.file - l.at
