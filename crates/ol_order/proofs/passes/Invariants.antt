use Prim.Native.Nat.{◌-◌}
use mathlib.Core.List.{List, []}
use lib.ListN.{length}
use Rattle.ol_spec.specs.Syntax.{Equation}
use Rattle.ol_spec.specs.Order.{order as in_order}
use Rattle.ol_order.specs.Post.{Waits, State}
use Rattle.ol_order.proofs.Passing.{Passes}
use Rattle.ol_order.proofs.passes.Given as goal

abbrev pub invariant-loop-done : goal.invariant-loop-done
invariant-loop-done l = (qs : List Equation) → Waits qs l.lists l.begins → State qs [] l.initial.placed l.initial.order 0 → Passes qs (in_order qs) l.initial.order l.placed l.order l.done

abbrev pub decreases-loop-done : goal.decreases-loop-done
decreases-loop-done l = length l.begins - l.done
