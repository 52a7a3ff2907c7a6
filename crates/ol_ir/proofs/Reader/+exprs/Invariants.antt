-- The invariant: what is left to read answers what all of it answers. The recursion goes down the levels.
use Prim.Native.Nat.{◌+◌, ◌*◌, ◌≤◌}
use Rattle.ol_spec.specs.Read.{many_exprs, expr_r}
use Rattle.ol_ir.specs.Nexts.{next_of}
use Rattle.ol_ir.proofs.Onward.{Turns}
use Rattle.ol_ir.proofs.Exprs.{above_parts, expr_at}
use Rattle.ol_ir.proofs.Reader.+exprs.Given as goal

abbrev pub decreases-exprs : goal.decreases-exprs
decreases-exprs l = l.level

abbrev pub invariant-loop-left : goal.invariant-loop-left
invariant-loop-left l =
    (l.depth ≤ l.level)
    × Turns (next_of (many_exprs l.count (expr_r l.self.file.now l.self.limits.now l.self.enums l.level) l.at)) l.left (expr_at l.self.file.now l.self.limits.now l.self.enums l.depth) l.next

abbrev pub decreases-loop-left : goal.decreases-loop-left
decreases-loop-left l = l.depth * above_parts l.self.limits.now + l.left
