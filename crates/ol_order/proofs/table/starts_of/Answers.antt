use native.Mathlib.Omega.{arith}
use Rattle.ol_order.proofs.Rows.{starts_all_told}
use Rattle.ol_order.proofs.table.starts_of.Goals as goal

pub returns : goal.returns
returns c = starts_all_told c.args.tab.now c.loop-i.starts c.args.plan _ c.loop-i.auto.starts (λ i h. c.loop-i.invariant i (omega arith))
