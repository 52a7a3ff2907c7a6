use mathlib.Core.Path.{◌≡◌}
use lib.ListN.{take, drop}
use Rattle.ol_order.specs.Orders.{NodesStand}
use Rattle.ol_order.proofs.Rows.{Going}
use Rattle.ol_order.proofs.table.Nodes.order_all.Given as goal

abbrev pub invariant-loop-k : goal.invariant-loop-k
invariant-loop-k g l =
    ((ns : NodesStand l.self.file.now l.self.enums l.self.places.now l.self.low) → Going ns (take 2560 l.initial.tab) l.k (take 2560 l.tab)) × (drop 2560 l.tab ≡ drop 2560 l.initial.tab)
