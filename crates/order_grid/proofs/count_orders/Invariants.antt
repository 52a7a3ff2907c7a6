use Rattle.order_grid.specs.Questions.{Tallied}
use Rattle.order_grid.proofs.count_orders.Given as goal

abbrev pub invariant-loop : goal.invariant-loop
invariant-loop l = Tallied l.good l.counter
