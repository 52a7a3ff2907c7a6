use Prim.Native.Nat.{◌+◌, ◌*◌}
use mathlib.Core.Path.{◌≡◌}
use native.Mathlib.Omega.{arith}
use Rattle.ol_check.proofs.RowLoops.{types_visits}
use Rattle.ol_check.proofs.rows.variable_types.Goals as goal

pub returns : goal.returns
returns c =
    let z : c.args.first + 2 * 0 ≡ c.args.first = omega arith in
    record { ends = c.each_variable.ensures.ends; stored = rw (← z) (types_visits c.args.file.now c.args.first (λ t i p u h. cc) 0 _ _ _ _ c.each_variable.ensures.visited) }
