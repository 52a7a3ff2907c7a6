use mathlib.Core.Path.{◌≡◌, ap, ◌∙◌}
use native.Mathlib.Omega.{arith}
use Prim.Native.Nat.{◌*◌}
use lib.IntN.{pos, nat_abs}
use lib.ListN.{take, drop}
use lib.Signed.{◌<ℤ◌, ◌≤ℤ◌}
use mir.Val.{to_z, of_z}
use mir.Syntax.{w64}
use Rattle.std.proofs.lemmas.Int.{ints, to_z-of_z}
use Rattle.ol_spec.specs.Cell.{value_of}
use Rattle.ol_spec.specs.declared.Outcome.TheVariants as Out
use Rattle.ol_frame.proofs.Asking.{natural, inside, outside}
use Rattle.ol_frame.proofs.arrays.element_at.Goals as goal
use Rattle.ol_frame.proofs.arrays.element_at.Goals.{else-i-ge0-via-then-i-ge0+else-i-n, else-i-ge0-via-else-i-ge0}

pub returns-then-i-n : goal.returns-then-i-n
returns-then-i-n c =
    let i = c.args.i in
    let s = c.args.cells.now in
    let z : to_z w64 (of_z w64 i) ≡ i = to_z-of_z w64 i c.ranges.i in
    let low : pos 0 ≤ℤ i = grind (arith, ints) in
    let high : i <ℤ pos c.args.n = grind (arith, ints) in
    let e = natural i low in
    ap Out.Value (c.read_cell.ensures ∙ ap (λ x. value_of (take 9 (drop (9 * nat_abs x) s))) z) ∙ inside c.args.n s i (nat_abs i) e (omega (arith, ints))

pub returns-else-i-ge0 : goal.returns-else-i-ge0
returns-else-i-ge0 c =
    outside c.args.n c.args.cells.now c.args.i (λ h. elim c.else-i-ge0.branch [ else-i-ge0-via-then-i-ge0+else-i-n w ↦ grind (arith, ints) | else-i-ge0-via-else-i-ge0 w ↦ grind (arith, ints) ])
