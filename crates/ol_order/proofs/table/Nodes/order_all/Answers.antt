use Prim.Native.Nat.{◌≤◌}
use lib.ListN.{length}
use mathlib.Core.Path.{refl, ◌∙◌}
use native.Mathlib.Omega.{arith}
use Rattle.ol_order.proofs.Answers.{erred}
use Rattle.ol_order.proofs.Rows.{few_places, few_read, planned_kept, done_front, done_behind, going_start, going_on, going_ring, going_done}
use Rattle.ol_order.proofs.table.Nodes.order_all.Goals as goal

pub loop-k-init : goal.loop-k-init
loop-k-init g c = (λ ns. going_start ns, refl)

pub order_node-requires-clause-asked : goal.order_node-requires-clause-asked
order_node-requires-clause-asked g c =
    record { stand = c.requires.asked.stand; planned = planned_kept _ _ c.loop-k.invariant.1 c.loop-k.auto.tab c.requires.asked.planned }

pub returns-in_err-order_node : goal.returns-in_err-order_node
returns-in_err-order_node g c =
    let ns = c.requires.asked.stand in
    let few : length c.args.self.places.now ≤ 32 = few_places ns in
    let short = few_read ns c.loop-k.k c.loop-k-test.true in
    rw (erred c.from_residual.result c.from_residual.ensures.1)
    (record {
      done = λ f end rd. going_ring ns (c.loop-k.invariant.0 ns) c.loop-k-test.true (done_front c.order_node.ensures.order 2560 (omega (arith, few, short))) f end rd c.in_err-order_node.was;
      kept = done_behind c.order_node.ensures.order 2560 (omega (arith, few, short)) ∙ c.loop-k.invariant.1;
    })

pub loop-k-preserved : goal.loop-k-preserved
loop-k-preserved g c =
    let ns = c.requires.asked.stand in
    let few : length c.args.self.places.now ≤ 32 = few_places ns in
    let short = few_read ns c.loop-k.k c.loop-k-test.true in (
      λ ns. going_on ns (c.loop-k.invariant.0 ns) c.loop-k-test.true (done_front c.order_node.ensures.order 2560 (omega (arith, few, short))) c.in_ok-order_node.was,
      done_behind c.order_node.ensures.order 2560 (omega (arith, few, short)) ∙ c.loop-k.invariant.1,
    )

pub returns : goal.returns
returns g c = record { done = λ f end rd. going_done c.requires.asked.stand (c.loop-k.invariant.0 c.requires.asked.stand) c.loop-k-test.false f end rd; kept = c.loop-k.invariant.1 }
