use native.Mathlib.Omega.{arith}
use Rattle.relay.proofs.Lines.{refills_not, refills}
use Rattle.relay.proofs.refill.Goals as goal

pub returns-then-i : goal.returns-then-i
returns-then-i c =
    refills_not c.args.i c.args.input.now c.if-i.true

pub returns : goal.returns
returns c =
    refills c.args.i c.args.input.now _ c.read-n.result c.read-n.ensures.0 (λ h. omega (arith, h, c.if-i.false))
