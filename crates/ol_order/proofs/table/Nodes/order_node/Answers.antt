use Prim.Native.Nat.{◌+◌, ◌-◌, ◌*◌, ◌≤◌}
use mathlib.Core.Path.{sym, ap, ◌∙◌}
use native.Mathlib.Omega.{arith}
use lib.ListN.{length}
use lib.Seq.{length-take-le}
use Rattle.ol_order.specs.Orders.{starts_in}
use Rattle.ol_order.proofs.Nodes.{front_readable}
use Rattle.ol_order.proofs.Rows.{few_places, node_reads, node_lows, place_short, plan_few, plan_starts, front_room, front_lists, front_lows, part_80, node_done, done_at_base, lists_at_base}
use Rattle.ol_order.proofs.table.Nodes.order_node.Goals as goal

pub node-row-requires : goal.node-row-requires
node-row-requires g c =
    let few : length c.args.self.places.now ≤ 32 = few_places c.requires.asked.stand in
    omega (arith, few)

pub overflow_add-plan : goal.overflow_add-plan
overflow_add-plan g c = omega (arith, place_short c.requires.asked.stand c.args.k c.requires.k_in_bounds c.requires.asked.planned)

pub overflow_mul-plan : goal.overflow_mul-plan
overflow_mul-plan g c = omega (arith, place_short c.requires.asked.stand c.args.k c.requires.k_in_bounds c.requires.asked.planned, c.node-row.ensures.variables)

pub overflow_add-plan-2 : goal.overflow_add-plan-2
overflow_add-plan-2 g c = omega (arith, place_short c.requires.asked.stand c.args.k c.requires.k_in_bounds c.requires.asked.planned, c.node-row.ensures.variables)

pub slice_bounds-space-end : goal.slice_bounds-space-end
slice_bounds-space-end g c = plan_few c.requires.asked.stand c.args.k c.requires.k_in_bounds c.requires.asked.planned c.node-row.ensures.count

pub slice_bounds-starts-end : goal.slice_bounds-starts-end
slice_bounds-starts-end g c = sym (length-take-le _ _ (plan_few c.requires.asked.stand c.args.k c.requires.k_in_bounds c.requires.asked.planned c.node-row.ensures.count))

pub starts_of-requires : goal.starts_of-requires
starts_of-requires g c = record { plan_bound = omega (arith, place_short c.requires.asked.stand c.args.k c.requires.k_in_bounds c.requires.asked.planned, c.node-row.ensures.variables) }

pub overflow_mul-from : goal.overflow_mul-from
overflow_mul-from g c =
    let few : length c.args.self.places.now ≤ 32 = few_places c.requires.asked.stand in
    omega (arith, few)

pub overflow_add-end : goal.overflow_add-end
overflow_add-end g c =
    let few : length c.args.self.places.now ≤ 32 = few_places c.requires.asked.stand in
    omega (arith, few)

pub slice_bounds-order_starts-end : goal.slice_bounds-order_starts-end
slice_bounds-order_starts-end g c =
    let few : length c.args.self.places.now ≤ 32 = few_places c.requires.asked.stand in
    omega (arith, few, c.requires.asked.planned.long)

pub invariant_of-equations : goal.invariant_of-equations
invariant_of-equations g c =
    let ns = c.requires.asked.stand in
    let pl = c.requires.asked.planned in
    let h = c.requires.k_in_bounds in
    let nr = node_reads ns c.args.k h c.base.result c.base.ensures in
    let told = c.starts_of.ensures ∙ (ap (starts_in c.args.tab.now _) (length-take-le _ _ (plan_few ns c.args.k h pl c.node-row.ensures.count)) ∙ plan_starts ns c.args.k h pl c.base.ensures c.node-row.ensures.variables c.node-row.ensures.count) in
    record { readable = front_readable c.args.self.file.now c.base.result c.args.self.enums _ nr told }

pub order_starts-requires-clause-some : goal.order_starts-requires-clause-some
order_starts-requires-clause-some g c = c.requires.entries.some

pub order_starts-requires-clause-few : goal.order_starts-requires-clause-few
order_starts-requires-clause-few g c = c.requires.entries.few

pub order_starts-requires-clause-low_names : goal.order_starts-requires-clause-low_names
order_starts-requires-clause-low_names g c =
    let ns = c.requires.asked.stand in
    let pl = c.requires.asked.planned in
    let h = c.requires.k_in_bounds in
    let nr = node_reads ns c.args.k h c.base.result c.base.ensures in
    let told = c.starts_of.ensures ∙ (ap (starts_in c.args.tab.now _) (length-take-le _ _ (plan_few ns c.args.k h pl c.node-row.ensures.count)) ∙ plan_starts ns c.args.k h pl c.base.ensures c.node-row.ensures.variables c.node-row.ensures.count) in
    front_lows c.args.self.file.now c.base.result c.args.self.enums _ nr told (λ t. node_lows ns c.args.k h c.base.result c.base.ensures (c.requires.entries.own t) t)

pub order_starts-requires-clause-room : goal.order_starts-requires-clause-room
order_starts-requires-clause-room g c =
    let ns = c.requires.asked.stand in
    let pl = c.requires.asked.planned in
    let h = c.requires.k_in_bounds in
    let nr = node_reads ns c.args.k h c.base.result c.base.ensures in
    let told = c.starts_of.ensures ∙ (ap (starts_in c.args.tab.now _) (length-take-le _ _ (plan_few ns c.args.k h pl c.node-row.ensures.count)) ∙ plan_starts ns c.args.k h pl c.base.ensures c.node-row.ensures.variables c.node-row.ensures.count) in
    omega (arith, c.requires.room, front_room c.args.self.file.now c.base.result c.args.self.enums _ nr told)

pub returns-clause-order : goal.returns-clause-order
returns-clause-order g c =
    let ns = c.requires.asked.stand in
    let pl = c.requires.asked.planned in
    let h = c.requires.k_in_bounds in
    let nr = node_reads ns c.args.k h c.base.result c.base.ensures in
    let told = c.starts_of.ensures ∙ (ap (starts_in c.args.tab.now _) (length-take-le _ _ (plan_few ns c.args.k h pl c.node-row.ensures.count)) ∙ plan_starts ns c.args.k h pl c.base.ensures c.node-row.ensures.variables c.node-row.ensures.count) in
    let few : length c.args.self.places.now ≤ 32 = few_places ns in
    let inside : c.args.k * 80 + 80 ≤ length c.args.tab.now = omega (arith, few, pl.long) in
    done_at_base ns c.args.k h c.base.ensures
    (node_done c.args.self.file.now c.base.result c.args.self.enums _ nr told c.args.tab.now c.order_starts.new.out (c.args.k * 80) (c.args.k * 80 + 80 - c.args.k * 80) (omega arith) inside (c.order_starts.auto.out ∙ part_80 c.args.tab.now (c.args.k * 80) inside) c.order_starts.ensures.order)

pub returns-clause-lists : goal.returns-clause-lists
returns-clause-lists g c =
    let ns = c.requires.asked.stand in
    let pl = c.requires.asked.planned in
    let h = c.requires.k_in_bounds in
    let nr = node_reads ns c.args.k h c.base.result c.base.ensures in
    let told = c.starts_of.ensures ∙ (ap (starts_in c.args.tab.now _) (length-take-le _ _ (plan_few ns c.args.k h pl c.node-row.ensures.count)) ∙ plan_starts ns c.args.k h pl c.base.ensures c.node-row.ensures.variables c.node-row.ensures.count) in
    lists_at_base ns c.args.k h c.base.ensures c.args.lists.now (front_lists c.args.self.file.now c.base.result c.args.self.enums _ nr told c.args.lists.now c.order_starts.ensures.lists)
