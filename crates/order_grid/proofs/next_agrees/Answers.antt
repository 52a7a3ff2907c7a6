use Prim.Native.Nat.{◌+◌}
use native.Mathlib.Omega.{arith}
use mathlib.Core.Path.{sym}
use mathlib.Core.List.{◌++◌}
use lib.ListN.{drop, length-append}
use lib.Seq.{length-take-le}
use Rattle.order_grid.proofs.next_agrees.Goals as goal

pub slice_bounds-next_row-end : goal.slice_bounds-next_row-end
slice_bounds-next_row-end c = sym (length-take-le (c.next_entries-m.result + 2) c.room-wanted.result (omega arith))

pub next_row-requires : goal.next_row-requires
next_row-requires c = omega (arith, length-take-le (c.next_entries-m.result + 2) c.room-wanted.result (omega arith))

pub slice_bounds-wanted-end-2 : goal.slice_bounds-wanted-end-2
slice_bounds-wanted-end-2 c = omega (arith, length-append c.next_row.new.row (drop (c.next_entries-m.result + 2) c.room-wanted.result), c.next_row.ensures, length-take-le (c.next_entries-m.result + 2) c.room-wanted.result (omega arith))

pub slice_bounds-order_agrees-end : goal.slice_bounds-order_agrees-end
slice_bounds-order_agrees-end c = sym (length-take-le (c.next_entries-m.result + 2) (c.next_row.new.row ++ drop (c.next_entries-m.result + 2) c.room-wanted.result) (omega (arith, length-append c.next_row.new.row (drop (c.next_entries-m.result + 2) c.room-wanted.result), c.next_row.ensures, length-take-le (c.next_entries-m.result + 2) c.room-wanted.result (omega arith))))

pub order_agrees-requires : goal.order_agrees-requires
order_agrees-requires c = (omega (arith, length-take-le (c.next_entries-m.result + 2) (c.next_row.new.row ++ drop (c.next_entries-m.result + 2) c.room-wanted.result) (omega (arith, length-append c.next_row.new.row (drop (c.next_entries-m.result + 2) c.room-wanted.result), c.next_row.ensures, length-take-le (c.next_entries-m.result + 2) c.room-wanted.result (omega arith)))), omega (arith, length-take-le (c.next_entries-m.result + 2) (c.next_row.new.row ++ drop (c.next_entries-m.result + 2) c.room-wanted.result) (omega (arith, length-append c.next_row.new.row (drop (c.next_entries-m.result + 2) c.room-wanted.result), c.next_row.ensures, length-take-le (c.next_entries-m.result + 2) c.room-wanted.result (omega arith)))))
