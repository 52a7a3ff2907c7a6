use mathlib.Core.Path.{sym, ap, ◌∙◌}
use native.Mathlib.Omega.{arith}
use Prim.Native.Nat.{◌<◌, ◌^◌}
use lib.Signed.{mag}
use mir.Syntax.{w64}
use mir.Facts.{to_z-of_z}
use borrow.Author.Rules.{sfits_of}
use Rattle.ol_spec.specs.declared.Value.TheVariants as Val
use Rattle.ol_frame.proofs.Backs.{back_from, bool_back, int_back, float_back, single_back, enum_back}
use Rattle.ol_frame.proofs.outcomes.kept.Goals as goal

pub returns-in-Bool : goal.returns-in-Bool
returns-in-Bool c = (sym c.in-Bool.is, back_from (Val.Bool c.in-Bool.b) c.in-Bool.is (bool_back c.in-Bool.b))

pub returns-in-Int : goal.returns-in-Int
returns-in-Int c =
    let fit : mag c.in-Int.i < 2 ^ 63 = omega arith in
    (ap Val.Int (to_z-of_z {w = w64} (sfits_of fit)) ∙ sym c.in-Int.is, back_from (Val.Int c.in-Int.i) c.in-Int.is (int_back c.in-Int.i fit))

pub returns-in-Float : goal.returns-in-Float
returns-in-Float c = (sym c.in-Float.is, back_from (Val.Float c.in-Float.x) c.in-Float.is (float_back c.in-Float.x cc))

pub returns-in-Float32 : goal.returns-in-Float32
returns-in-Float32 c = (sym c.in-Float32.is, back_from (Val.Float32 c.in-Float32.x) c.in-Float32.is (single_back c.in-Float32.x cc))

pub returns-in-Enum : goal.returns-in-Enum
returns-in-Enum c = (sym c.in-Enum.is, back_from (Val.Enum c.in-Enum.w) c.in-Enum.is (enum_back c.in-Enum.w (omega arith)))
