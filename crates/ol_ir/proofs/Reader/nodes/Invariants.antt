use Prim.Native.Nat.{◌-◌}
use lib.Seq.{sets}
use Rattle.ol_spec.specs.Read.{many, node_r}
use Rattle.ol_ir.specs.Nexts.{next_of}
use Rattle.ol_ir.specs.Walks.{places_of}
use Rattle.ol_ir.proofs.Items.{Puts}
use Rattle.ol_ir.proofs.Onward.{Turns}
use Rattle.ol_ir.proofs.Reader.nodes.Given as goal

-- what is left to read answers what all of it answers, and puts what all of it puts
abbrev pub invariant-loop-i : goal.invariant-loop-i
invariant-loop-i l =
    let r = node_r l.self.file.now l.self.limits.now l.self.enums in
    Puts r (sets l.initial.starts 0 (places_of l.count r l.at)) l.i (l.count - l.i) l.next l.starts
    × Turns (next_of (many l.count r l.at)) (l.count - l.i) (λ p. next_of (r p)) l.next
