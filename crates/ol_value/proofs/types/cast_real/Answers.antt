use mir.Syntax.{w64}
use native.Mathlib.Omega.{arith}
use mathlib.Core.Path.{ap, ◌∙◌}
use mir.Facts.{to_z-of_z}
use Rattle.ol_spec.specs.Real.{of_int}
use Rattle.ol_spec.specs.declared.Outcome.TheVariants as Out
use Rattle.ol_value.proofs.TypeCodes.{int_cast, double_cast, single_cast}
use Rattle.ol_value.proofs.types.cast_real.Goals as goal
use Rattle.ol_value.proofs.types.cast_real.Goals.{in-Int, in-Float, in-Float32}

pub returns : goal.returns
returns g c =
    let f = g.T.Real.format in
    let x = g.T.Real.number c.match-v.x in
    elim c.match-v.branch [
      | in-Int w ↦ rw w.in-Int.is (ap Out.Value c.value.ensures ∙ int_cast x f w.in-Int.i (ap g.T.Real.number w.x-is ∙ w.from_int-x.ensures ∙ ap (of_int f) (to_z-of_z {w = w64} (record { sfits = omega arith }))))
      | in-Float w ↦ rw w.in-Float.is (ap Out.Value c.value.ensures ∙ double_cast x f _ (ap g.T.Real.number w.x-is ∙ w.from_double-x.ensures))
      | in-Float32 w ↦ rw w.in-Float32.is (ap Out.Value c.value.ensures ∙ single_cast x f _ (ap g.T.Real.number w.x-is ∙ w.from_single-x.ensures))
    ]
