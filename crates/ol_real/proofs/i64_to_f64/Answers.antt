use Rattle.std.proofs.Common.{ap, ◌∙◌, w64}
use Rattle.ol_spec.specs.Real.{double, of_int}
use mir.ValLaws.{to_z-of_z}
use Rattle.ol_real.proofs.i64_to_f64.Goals as goal

pub returns : goal.returns
unfolding of_int
returns c = c.nearest_i64_to_f64.ensures ∙ ap (of_int double) (to_z-of_z w64 c.args.n c.ranges.n)
