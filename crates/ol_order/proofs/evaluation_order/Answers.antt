use mathlib.Core.Path.{refl}
use native.Mathlib.Omega.{arith}
use Rattle.ol_order.proofs.Nodes.{order_refused, order_absent, nodes_short, nodes_few, node_reads, order_present, as_told}
use Rattle.ol_ir.proofs.Onward.{erred}
use Rattle.ol_order.proofs.evaluation_order.Goals as goal

pub returns-in_err-loaded : goal.returns-in_err-loaded
returns-in_err-loaded c =
    let k = as_told (erred _ _ c.from_residual.ensures.1) refl (order_refused c.args.file.now c.load_file.ensures.read c.args.node c.args.buffer.now c.in_err-loaded.was) in
    record { answer = k.0; written = k.1.0; told = k.1.1 }

pub offset_bounds-nodes-node : goal.offset_bounds-nodes-node
offset_bounds-nodes-node c =
    omega (arith, nodes_few c.args.file.now c.load_file.ensures.read c.args.node c.args.buffer.now c.in_ok-loaded.was, c.if-node-loaded.true)

pub bounds-nodes-node : goal.bounds-nodes-node
bounds-nodes-node c =
    omega (arith, nodes_few c.args.file.now c.load_file.ensures.read c.args.node c.args.buffer.now c.in_ok-loaded.was, c.if-node-loaded.true)

pub order_node-requires : goal.order_node-requires
order_node-requires c =
    record {
      node_reads = node_reads c.args.file.now c.load_file.ensures.read c.args.node c.args.buffer.now c.in_ok-loaded.was c.load_file.ensures.places c.if-node-loaded.true c.base.result c.base.ensures;
      file_len_bound = nodes_short c.args.file.now c.load_file.ensures.read c.args.node c.args.buffer.now c.in_ok-loaded.was;
    }

pub returns-then-node-loaded : goal.returns-then-node-loaded
returns-then-node-loaded c =
    let k = as_told c.order_node.ensures.answer c.order_node.ensures.written
    (order_present c.args.file.now c.load_file.ensures.read c.args.node c.args.buffer.now c.in_ok-loaded.was c.load_file.ensures.places c.if-node-loaded.true c.base.result c.base.ensures) in
    record { answer = k.0; written = k.1.0; told = k.1.1 }

pub returns-else-node-loaded : goal.returns-else-node-loaded
returns-else-node-loaded c =
    let k = as_told refl refl (order_absent c.args.file.now c.load_file.ensures.read c.args.node c.args.buffer.now c.in_ok-loaded.was c.if-node-loaded.false) in
    record { answer = k.0; written = k.1.0; told = k.1.1 }
