use Prim.Native.Nat.{◌*◌}
use native.Mathlib.Omega.{arith}
use Rattle.std.proofs.Common.{add_assoc}
use Rattle.ol_state.proofs.Enums.{walk_start, walk_on, walk_end}
use Rattle.ol_state.proofs.inputs.enum_at.Goals as goal

pub loop-init : goal.loop-init
loop-init c = walk_start c.requires.1

pub overflow_add-pos-in-loop : goal.overflow_add-pos-in-loop
overflow_add-pos-in-loop c = omega (arith, c.loop.invariant.near, c.byte.ensures.small, c.requires.0)

pub loop-preserved : goal.loop-preserved
loop-preserved c =
    let w = walk_on c.byte.ensures.is c.byte.ensures.small c.loop.invariant in
    rw (← add_assoc c.loop.pos 1 (2 * c.byte.result)) w

pub returns : goal.returns
returns c = walk_end c.args.e c.loop.invariant (omega arith) c.requires.0
