use Prim.Native.Nat.{◌-◌}
use lib.ListN.{length}
use Rattle.ol_check.proofs.WalkLoop.{WalkGoing}
use Rattle.ol_tables.specs.Numbers.{numbers}
use Rattle.ol_check.proofs.judge.Judge.walk.Given as goal

abbrev pub invariant-loop-left : goal.invariant-loop-left
invariant-loop-left l =
    WalkGoing l.self.file.now l.self.names.now (numbers l.self.rows.now) l.self.nodes l.self.node l.parts l.initial.slots l.initial.g l.slots l.g l.size l.left l.next

abbrev pub decreases-loop-left : goal.decreases-loop-left
decreases-loop-left l = length l.self.file.now - l.next
