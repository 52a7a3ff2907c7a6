use Prim.Native.Nat.{◌+◌, ◌*◌}
use mathlib.Core.Path.{◌≡◌}
use native.Mathlib.Omega.{arith}
use Rattle.ol_check.proofs.ClashLoops.{names_start, names_turn, untyped_done}
use Rattle.ol_check.proofs.clash.Sorter.names.Goals as goal

pub loop-i-init : goal.loop-i-init
loop-i-init c = let z : c.args.at + 2 * 0 ≡ c.args.at = omega arith in rw z names_start

pub loop-i-preserved : goal.loop-i-preserved
loop-i-preserved c = names_turn c.loop-i.invariant c.loop-i-test.true (omega arith) c.name.ensures

pub returns : goal.returns
returns c = untyped_done c.loop-i.invariant c.loop-i-test.false
