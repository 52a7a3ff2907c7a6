use mathlib.Core.Path.{sym, ap, ◌∙◌}
use native.Mathlib.Omega.{arith}
use lib.ListN.{replicate}
use lib.Seq.{length-take-le, sets}
use Rattle.ol_spec.specs.Cycle.{OrderingCall}
use Rattle.ol_ir.proofs.Skips.{starts_told, starts_are}
use Rattle.ol_order.proofs.Nodes.{as_counted, counted_few, front_is, front_readable, front_order, not_counted}
use Rattle.ol_order.proofs.Rows.{front_room}
use Rattle.ol_order.proofs.order_node.Goals as goal

pub returns-in_err-counted : goal.returns-in_err-counted
returns-in_err-counted c =
    let told = starts_told c.args.file.now c.args.limits c.args.enums c.args.at _ _ c.requires.node_reads.is c.equation_starts.ensures.many in
    record {
      answer = not_counted c.args.file.now c.args.limits c.args.enums c.args.at c.requires.node_reads told c.in_err-counted.was;
      written = not_counted c.args.file.now c.args.limits c.args.enums c.args.at c.requires.node_reads told c.in_err-counted.was;
    }

pub slice_bounds-space-end : goal.slice_bounds-space-end
slice_bounds-space-end c =
    let nr = c.requires.node_reads in
    let count = as_counted c.args.file.now c.args.limits c.args.enums c.args.at nr (starts_told c.args.file.now c.args.limits c.args.enums c.args.at _ _ nr.is c.equation_starts.ensures.many) c.in_ok-counted.was in
    omega (arith, counted_few c.args.file.now c.args.limits c.args.enums c.args.at nr count, c.equation_starts.auto.starts)

pub slice_bounds-starts-end : goal.slice_bounds-starts-end
slice_bounds-starts-end c =
    let nr = c.requires.node_reads in
    let count = as_counted c.args.file.now c.args.limits c.args.enums c.args.at nr (starts_told c.args.file.now c.args.limits c.args.enums c.args.at _ _ nr.is c.equation_starts.ensures.many) c.in_ok-counted.was in
    sym (length-take-le _ _ (omega (arith, counted_few c.args.file.now c.args.limits c.args.enums c.args.at nr count, c.equation_starts.auto.starts)))

pub invariant_of-equations : goal.invariant_of-equations
invariant_of-equations c =
    let nr = c.requires.node_reads in
    let count = as_counted c.args.file.now c.args.limits c.args.enums c.args.at nr (starts_told c.args.file.now c.args.limits c.args.enums c.args.at _ _ nr.is c.equation_starts.ensures.many) c.in_ok-counted.was in
    let front = front_is c.args.file.now c.args.limits c.args.enums c.args.at nr count (c.equation_starts.ensures.places ∙ ap (sets (replicate 80 0) 0) (starts_are c.args.file.now c.args.limits c.args.enums c.args.at _ _ nr.is)) in
    record { readable = front_readable c.args.file.now c.args.limits c.args.enums c.args.at nr front }

pub order_by_length-requires : goal.order_by_length-requires
order_by_length-requires c =
    let nr = c.requires.node_reads in
    let count = as_counted c.args.file.now c.args.limits c.args.enums c.args.at nr (starts_told c.args.file.now c.args.limits c.args.enums c.args.at _ _ nr.is c.equation_starts.ensures.many) c.in_ok-counted.was in
    let front = front_is c.args.file.now c.args.limits c.args.enums c.args.at nr count (c.equation_starts.ensures.places ∙ ap (sets (replicate 80 0) 0) (starts_are c.args.file.now c.args.limits c.args.enums c.args.at _ _ nr.is)) in
    record { room = front_room c.args.file.now c.args.limits c.args.enums c.args.at nr front; file_len_bound = c.requires.file_len_bound }

pub returns : goal.returns
returns c =
    let nr = c.requires.node_reads in
    let count = as_counted c.args.file.now c.args.limits c.args.enums c.args.at nr (starts_told c.args.file.now c.args.limits c.args.enums c.args.at _ _ nr.is c.equation_starts.ensures.many) c.in_ok-counted.was in
    let front = front_is c.args.file.now c.args.limits c.args.enums c.args.at nr count (c.equation_starts.ensures.places ∙ ap (sets (replicate 80 0) 0) (starts_are c.args.file.now c.args.limits c.args.enums c.args.at _ _ nr.is)) in
    let e = front_order c.args.file.now c.args.limits c.args.enums c.args.at nr front c.args.buffer.now in
    record {
      answer = c.order_by_length.ensures.answer ∙ ap (λ (c : OrderingCall). c.answer) e;
      written = c.order_by_length.ensures.written ∙ ap (λ (c : OrderingCall). c.buffer) e;
    }
