use mathlib.Core.List.{[]}
use native.Mathlib.Omega.{arith}
use Rattle.std.proofs.Common.{of_calls}
use Rattle.ol_order.proofs.Nodes.{nodes_few, count_refused, count_absent, count_present}
use Rattle.ol_order.proofs.counts.equation_count.Goals as goal

pub returns-in_default : goal.returns-in_default
returns-in_default c =
    count_refused c.args.file.now c.load_file.ensures.read c.args.node [] c.in_default.is

pub returns-then-loaded-node : goal.returns-then-loaded-node
returns-then-loaded-node c =
    count_absent c.args.file.now c.load_file.ensures.read c.args.node [] c.in-Ok.is c.if-loaded-node.true

pub offset_bounds-nodes-node : goal.offset_bounds-nodes-node
offset_bounds-nodes-node c =
    omega (arith, nodes_few c.args.file.now c.load_file.ensures.read c.args.node [] c.in-Ok.is, c.if-loaded-node.false)

pub bounds-nodes-node : goal.bounds-nodes-node
bounds-nodes-node c =
    omega (arith, nodes_few c.args.file.now c.load_file.ensures.read c.args.node [] c.in-Ok.is, c.if-loaded-node.false)

pub returns : goal.returns
returns c =
    count_present c.args.file.now c.load_file.ensures.read c.args.node [] c.in-Ok.is c.load_file.ensures.places (omega (arith, c.if-loaded-node.false)) c.base.result c.base.ensures _ c.equation_starts.ensures.many c.map_or.ensures (λ n q h. search (of_calls, h))
