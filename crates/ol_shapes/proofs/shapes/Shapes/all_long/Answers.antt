use native.Mathlib.Omega.{arith}
use Rattle.ol_shapes.proofs.Iterating.{long_turn, long_stop, long_end}
use Rattle.ol_shapes.proofs.shapes.Shapes.all_long.Goals as goal

pub returns-then-not-takes : goal.returns-then-not-takes
returns-then-not-takes c =
    record { is = λ k locals es h m. long_stop (c.loop.invariant k locals es h m) (omega (arith, c.loop-test.true, m)) c.shape_at.ensures c.takes.ensures c.if-not-takes.true }

pub loop-preserved : goal.loop-preserved
loop-preserved c = λ k locals es h m.
    rw c.skip-next.ensures (long_turn (c.loop.invariant k locals es h m) (omega (arith, c.loop-test.true, m)) c.shape_at.ensures c.takes.ensures c.if-not-takes.false)

pub returns : goal.returns
returns c = record { is = λ k locals es h m. long_end (c.loop.invariant k locals es h m) (omega (arith, c.loop-test.false, m)) }
