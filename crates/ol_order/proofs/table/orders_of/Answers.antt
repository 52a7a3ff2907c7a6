use native.Mathlib.Omega.{arith}
use Rattle.ol_order.proofs.Definers.{entries_long}
use Rattle.ol_order.proofs.Room.{short_file}
use Rattle.ol_order.proofs.table.orders_of.Goals as goal

pub order_all-requires-then-file-le1536-clause-entries : goal.order_all-requires-then-file-le1536-clause-entries
order_all-requires-then-file-le1536-clause-entries c = record { some = omega arith; few = omega arith; own = λ t. entries_long c.args.file.now (omega arith) }

pub order_all-requires-else-file-le1536-clause-entries : goal.order_all-requires-else-file-le1536-clause-entries
order_all-requires-else-file-le1536-clause-entries c = record { some = omega arith; few = omega arith; own = λ t. entries_long c.args.file.now (omega arith) }

pub order_all-requires-else-file-le1536-clause-room : goal.order_all-requires-else-file-le1536-clause-room
order_all-requires-else-file-le1536-clause-room c =
    let stand = c.requires.nodes_stand in
    omega (arith, short_file c.args.file.now stand.file stand.end stand.is)
