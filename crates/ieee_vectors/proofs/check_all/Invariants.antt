use Prim.Native.Nat.{◌+◌, ◌*◌, ◌≤◌}
use Rattle.ieee_vectors.specs.Lines.{Total}
use Rattle.ieee_vectors.proofs.check_all.Given as goal

abbrev pub invariant-loop : goal.invariant-loop
invariant-loop l = (l.right + l.wrong ≤ 65 * l.counter) × Total l.right l.wrong
