use mathlib.Core.Path.{◌∙◌, ap}
use Prim.Native.Nat.{◌%◌, ◌^◌}
use native.Mathlib.Omega.{arith}
use mir.Syntax.{w64}
use mir.Val.{of_z}
use mir.Facts.{to_z-of_z}
use Rattle.ol_value.proofs.Widths.{power_is, residue_is}
use Rattle.ol_value.proofs.narrowing.residue_of.Goals as goal

pub returns : goal.returns
returns c =
    let b = c.args.b in
    rw (c.cast_unsigned.ensures, power_is b (omega (arith, c.requires)))
    (ap (λ z. of_z w64 z % 2 ^ b) (to_z-of_z {w = w64} c.ranges.i) ∙ residue_is b c.args.i c.requires c.ranges.i)
