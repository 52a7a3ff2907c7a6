use Prim.Native.Nat.{ℕ, ◌-◌}
use Rattle.ol_ir.specs.Nexts.{Next, Answers, repeat}
use Rattle.ol_ir.proofs.Onward.{Turns}
use Rattle.ol_ir.proofs.read.many.Given as goal

-- what is left to read answers what all of it answers
abbrev pub invariant-loop-i : goal.invariant-loop-i
invariant-loop-i g l = (f : ℕ → Next) → Answers (goal.F-post g l.item) f → Turns (repeat l.count f l.at) (l.count - l._i) f l.next
