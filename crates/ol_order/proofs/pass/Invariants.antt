use mathlib.Core.List.{List}
use lib.ListN.{take}
use Rattle.ol_spec.specs.Syntax.{Equation}
use Rattle.ol_spec.specs.Order.{pass}
use Rattle.ol_order.specs.Post.{Waits, State}
use Rattle.ol_order.proofs.Passing.{Passing}
use Rattle.ol_order.proofs.pass.Given as goal

abbrev pub invariant-loop-k : goal.invariant-loop-k
invariant-loop-k l = (qs : List Equation) → Waits qs l.lists l.begins → State qs (take l.done l.initial.order) l.initial.placed l.initial.order l.done → Passing qs (pass qs 0 qs (take l.done l.initial.order)) l.k l.initial.order l.placed l.order l.n
