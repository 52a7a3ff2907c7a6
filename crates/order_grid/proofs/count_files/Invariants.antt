use Prim.Native.Nat.{◌≤◌, ◌*◌}
use Rattle.order_grid.specs.Questions.{Tallied}
use Rattle.order_grid.proofs.count_files.Given as goal

abbrev pub invariant-loop : goal.invariant-loop
invariant-loop l = (l.all ≤ l.counter * 65535) × Tallied l.good l.all
