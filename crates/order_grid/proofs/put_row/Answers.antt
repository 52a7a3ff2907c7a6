use native.Mathlib.Omega.{arith}
use mathlib.Core.List.{append-nil}
use lib.ListN.{take, set, length-set}
use Rattle.order_grid.proofs.Laws.{row_more, row_whole}
use Rattle.order_grid.proofs.put_row.Goals as goal

pub loop-i-init : goal.loop-i-init
loop-i-init c = simp (append-nil)

pub loop-i-preserved : goal.loop-i-preserved
loop-i-preserved c = row_more (take 2 (set (set c.args.row.now 0 c.from.result) 1 c.args.f.place)) c.args.entries.now c.loop-i.row c.loop-i.i (omega arith) (omega (arith, c.requires, c.loop-i.auto.row, length-set (set c.args.row.now 0 c.from.result) 1 c.args.f.place, length-set c.args.row.now 0 c.from.result)) c.loop-i.invariant

pub returns : goal.returns
returns c = row_whole c.args.f c.from.ensures c.args.entries.now c.loop-i.row c.args.row.now c.loop-i.i (omega (arith, c.requires)) (omega arith) (omega (arith, c.requires, c.loop-i.auto.row, length-set (set c.args.row.now 0 c.from.result) 1 c.args.f.place, length-set c.args.row.now 0 c.from.result)) c.loop-i.invariant
