use Prim.Native.Nat.{◌-◌, ◌<◌}
use mathlib.Core.Path.{◌≡◌}
use Rattle.ol_tables.specs.Numbers.{numbers}
use Rattle.ol_shapes.specs.Codes.{type_shape, all_scalar}
use Rattle.ol_shapes.proofs.shapes.Shapes.all_scalars.Given as goal

abbrev pub invariant-loop-i : goal.invariant-loop-i
invariant-loop-i l =
    let g = type_shape (numbers l.self.rows.now) l.self.plans.now l.k in
    l.k < 32 → all_scalar g 0 l.n ≡ all_scalar g l.i (l.n - l.i)
