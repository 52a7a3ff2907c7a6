use Prim.Native.Nat.{◌-◌}
use mathlib.Core.Path.{◌≡◌}
use lib.Seq.{sets}
use Rattle.ol_ir.specs.Walks.{equation_places}
use Rattle.ol_ir.proofs.node.equation_places.Given as goal

abbrev pub invariant-loop-i : goal.invariant-loop-i
invariant-loop-i l = sets l.starts l.i (equation_places (l.count - l.i) l.file l.next) ≡ sets l.initial.starts 0 (equation_places l.count l.file l.at)
