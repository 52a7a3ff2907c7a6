use mathlib.Core.Path.{◌∙◌}
use native.Mathlib.Nat.{lt_of_le_of_lt, mod-lt}
use lib.Signed.{mag_shr}
use lib.Pow.{pow_pos}
use Prim.Native.Nat.{◌^◌, ◌-◌, ◌*◌, ◌%◌}
use mir.Syntax.{w64}
use mir.Val.{of_z, to_z}
use mir.Facts.{to_z-of_z, sfits_to_z}
use Rattle.ol_value.proofs.Widths.{shift_is}
use Rattle.ol_value.proofs.narrowing.signed_of.Goals as goal

pub returns : goal.returns
returns c =
    let b = c.args.b in
    let n = of_z w64 c.args.i * 2 ^ (64 - b) % 2 ^ 64 in
    let bound = sfits_to_z {w = w64} {n = n} (record { fits = mod-lt _ (pow_pos 64) }) in
    to_z-of_z {w = w64} (record { sfits = lt_of_le_of_lt (mag_shr (to_z w64 n) (2 ^ (64 - b))) bound.sfits })
    ∙ shift_is b c.requires.0 c.requires.1 c.args.i c.ranges.i
