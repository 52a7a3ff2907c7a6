use mathlib.Core.Path.{ap, ◌∙◌}
use Rattle.ol_spec.specs.Types.{cast_to}
use Rattle.ol_value.specs.Codes.{ty_of}
use Rattle.value_bench.specs.Digests.{digest_of}
use Rattle.value_bench.proofs.ol_value_cast.Goals as goal

pub returns : goal.returns
returns c =
    c.digest.ensures ∙ ap digest_of (c.cast_value.ensures 0 ∙ ap (cast_to (ty_of 3 0)) c.first_value.ensures)
