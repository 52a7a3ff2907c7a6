use mathlib.Core.Path.{sym, ◌∙◌}
use native.Mathlib.Omega.{arith}
use Rattle.ol_order.proofs.Passing.{passes_start, passes_turn, passes_stop, passes_end, more_placed}
use Rattle.ol_order.proofs.passes.Goals as goal

pub loop-done-init : goal.loop-done-init
loop-done-init c = λ qs w st. passes_start qs st

pub pass-n-requires : goal.pass-n-requires
pass-n-requires c =
    record { equations = c.requires.equations; waits = c.requires.waits; few = c.requires.few; state = (c.loop-done.invariant c.requires.equations c.requires.waits c.requires.state).state }

pub shape_of-placed-then-n-done : goal.shape_of-placed-then-n-done
shape_of-placed-then-n-done c =
    c.pass-n.auto.placed ∙ ((c.loop-done.invariant c.requires.equations c.requires.waits c.requires.state).state.flagged ∙ sym c.requires.state.flagged)

pub shape_of-order-then-n-done : goal.shape_of-order-then-n-done
shape_of-order-then-n-done c =
    c.pass-n.auto.order ∙ ((c.loop-done.invariant c.requires.equations c.requires.waits c.requires.state).state.room ∙ sym c.requires.state.room)

pub returns-then-n-done : goal.returns-then-n-done
returns-then-n-done c =
    record {
      placed = λ qs w st. (passes_stop qs (c.loop-done.invariant qs w st) (omega (arith, c.loop-done-test.true, (c.loop-done.invariant qs w st).state.flagged)) (c.pass-n.ensures.placed qs w (c.loop-done.invariant qs w st).state, c.pass-n.ensures.behind) c.if-n-done.true).0;
      behind = λ qs w st. (passes_stop qs (c.loop-done.invariant qs w st) (omega (arith, c.loop-done-test.true, (c.loop-done.invariant qs w st).state.flagged)) (c.pass-n.ensures.placed qs w (c.loop-done.invariant qs w st).state, c.pass-n.ensures.behind) c.if-n-done.true).1;
    }

pub loop-done-smaller : goal.loop-done-smaller
loop-done-smaller c =
    omega (arith, more_placed c.requires.equations (c.loop-done.invariant c.requires.equations c.requires.waits c.requires.state) (omega (arith, c.loop-done-test.true, (c.loop-done.invariant c.requires.equations c.requires.waits c.requires.state).state.flagged)) ((c.pass-n.ensures.placed c.requires.equations c.requires.waits (c.loop-done.invariant c.requires.equations c.requires.waits c.requires.state).state, c.pass-n.ensures.behind)) c.if-n-done.false, c.loop-done-test.true, (c.loop-done.invariant c.requires.equations c.requires.waits c.requires.state).state.flagged, c.requires.waits.long)

pub loop-done-preserved : goal.loop-done-preserved
loop-done-preserved c = λ qs w st. passes_turn qs (c.loop-done.invariant qs w st) (omega (arith, c.loop-done-test.true, (c.loop-done.invariant qs w st).state.flagged)) (c.pass-n.ensures.placed qs w (c.loop-done.invariant qs w st).state, c.pass-n.ensures.behind) c.if-n-done.false

pub shape_of-placed : goal.shape_of-placed
shape_of-placed c =
    (c.loop-done.invariant c.requires.equations c.requires.waits c.requires.state).state.flagged ∙ sym c.requires.state.flagged

pub shape_of-order : goal.shape_of-order
shape_of-order c =
    (c.loop-done.invariant c.requires.equations c.requires.waits c.requires.state).state.room ∙ sym c.requires.state.room

pub returns : goal.returns
returns c =
    record {
      placed = λ qs w st. (passes_end qs (c.loop-done.invariant qs w st) (omega (arith, c.loop-done-test.false, (c.loop-done.invariant qs w st).state.flagged))).0;
      behind = λ qs w st. (passes_end qs (c.loop-done.invariant qs w st) (omega (arith, c.loop-done-test.false, (c.loop-done.invariant qs w st).state.flagged))).1;
    }
