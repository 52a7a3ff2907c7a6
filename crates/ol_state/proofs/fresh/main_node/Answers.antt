use native.Mathlib.Omega.{arith}
use Prim.Native.Nat.{◌-◌}
use mathlib.Core.Path.{ap}
use lib.ListN.{get_or}
use Rattle.ol_state.proofs.Instances.{nodes_count}
use Rattle.ol_state.proofs.fresh.main_node.Goals as goal

pub overflow_sub-column : goal.overflow_sub-column
overflow_sub-column c =
    let n = nodes_count c.requires in
    omega (arith, c.column.ensures, n.after)

pub overflow_sub-result : goal.overflow_sub-result
overflow_sub-result c =
    let n = nodes_count c.requires in
    let e = ap (λ m. get_or c.args.file.now (m - 1) 0) c.column.ensures in
    omega (arith, c.byte.ensures.is, e, n.is, n.some)

pub returns : goal.returns
returns c =
    let n = nodes_count c.requires in
    let e = ap (λ m. get_or c.args.file.now (m - 1) 0) c.column.ensures in
    omega (arith, c.byte.ensures.is, e, n.is, n.some)
