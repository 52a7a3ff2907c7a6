use Prim.Native.Nat.{◌<◌}
use native.Mathlib.Omega.{arith}
use lib.ListN.{length}
use borrow.Author.Tests.{both_ways}
use Rattle.std.proofs.lemmas.List.Elements.{All-weaker}
use Rattle.ol_order.proofs.Flags.{room_for}
use Rattle.ol_order.proofs.Waiting.{its, its_below, ready_all, ready_not}
use Rattle.ol_order.proofs.Passing.{passing_end, passing_placed, passing_waits, passing_ready}
use Rattle.ol_order.proofs.pass.Goals as goal
use Rattle.ol_order.proofs.pass.Goals.{then-not-placed-k+then-all_placed, else-not-placed-k, else-not-placed-k-via-then-not-placed-k+else-all_placed, else-not-placed-k-via-else-not-placed-k}

pub all_placed-requires : goal.all_placed-requires
all_placed-requires c =
    let st = (c.loop-k.invariant c.requires.equations c.requires.waits c.requires.state).state in
    let h : c.loop-k.k < length c.requires.equations = omega (arith, st.flagged) in
    All-weaker (λ d. d < length c.requires.equations) (λ d. d < length c.loop-k.placed) (λ d g. omega (arith, st.flagged)) (its c.requires.waits c.loop-k.k h) (its_below c.requires.waits c.loop-k.k h)

pub bounds-order-n : goal.bounds-order-n
bounds-order-n c = room_for (c.loop-k.invariant c.requires.equations c.requires.waits c.requires.state).state c.loop-k.k (omega arith) c.if-not-placed-k.true

pub loop-k-preserved : goal.loop-k-preserved
loop-k-preserved c = λ qs w st.
    let ps = c.loop-k.invariant qs w st in
    let h : c.loop-k.k < length qs = omega (arith, ps.state.flagged) in
    elim c.if-not-placed-k.branch [
      | then-not-placed-k+then-all_placed v ↦ rw (v.placed-is, v.order-is, v.n-is) (passing_ready qs ps h v.if-not-placed-k.true (ready_all w c.loop-k.k h ps.state (v.all_placed.ensures.0 v.if-all_placed.true)))
      | else-not-placed-k v ↦
          rw (v.placed-is, v.order-is, v.n-is)
          (elim v.else-not-placed-k.branch [
            | else-not-placed-k-via-then-not-placed-k+else-all_placed u ↦ passing_waits qs ps h (ready_not w c.loop-k.k h ps.state (λ a. both_ways _ u.if-all_placed.false (u.all_placed.ensures.1 a)))
            | else-not-placed-k-via-else-not-placed-k u ↦ passing_placed qs ps h u.if-not-placed-k.false
          ])
    ]

pub returns-clause-placed : goal.returns-clause-placed
returns-clause-placed c = λ qs w st. (passing_end qs (c.loop-k.invariant qs w st) (omega (arith, (c.loop-k.invariant qs w st).state.flagged))).0
