use mathlib.Core.Path.{ap}
use native.Mathlib.Omega.{arith}
use lib.Seq.{sets}
use Rattle.ol_ir.specs.Walks.{equation_places}
use Rattle.ol_ir.proofs.Skips.{places_turn, places_end}
use Rattle.ol_ir.proofs.node.equation_places.Goals as goal

pub loop-i-init : goal.loop-i-init
loop-i-init c = ap (λ n. sets c.args.starts.now 0 (equation_places n c.args.file.now c.args.at)) (omega arith)

pub loop-i-preserved : goal.loop-i-preserved
loop-i-preserved c = places_turn c.args.file.now _ _ _ _ _ _ _ _ c.loop-i.invariant (omega arith) c.skip_equation-next.ensures c.put.ensures

pub returns : goal.returns
returns c = places_end c.args.file.now _ _ _ _ _ c.loop-i.invariant (omega arith)
