use Prim.Native.Nat.{◌+◌, ◌*◌}
use mathlib.Core.Path.{◌≡◌}
use native.Mathlib.Omega.{arith}
use Rattle.ol_check.proofs.EntryLoops.{variants_start, variants_turn, variants_done}
use Rattle.ol_check.proofs.names.declare_variants.Goals as goal

pub loop-i-init : goal.loop-i-init
loop-i-init c = let z : c.args.at + 2 * 0 ≡ c.args.at = omega arith in rw z variants_start

pub loop-i-preserved : goal.loop-i-preserved
loop-i-preserved c = variants_turn c.loop-i.invariant c.loop-i-test.true c.name.ensures.is c.declare.ensures (omega arith)

pub returns : goal.returns
returns c = variants_done c.loop-i.invariant c.loop-i-test.false
