use mathlib.Core.Path.{◌∙◌}
use native.Mathlib.Omega.{arith}
use lib.Seq.{ext_get_or}
use Rattle.ol_order.proofs.copy.Goals as goal

pub returns : goal.returns
returns c = ext_get_or 0 c.loop-i.buffer c.args.order.now (c.loop-i.auto.buffer ∙ c.requires) (λ i h. c.loop-i.invariant i (omega (arith, c.loop-i.auto.buffer, c.requires)))
