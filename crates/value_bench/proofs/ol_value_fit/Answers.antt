use mathlib.Core.Path.{ap, ◌∙◌}
use Rattle.ol_spec.specs.Cell.{payload}
use Rattle.ol_spec.specs.Types.{fit}
use Rattle.ol_value.specs.Codes.{ty_of}
use Rattle.value_bench.proofs.ol_value_fit.Goals as goal

pub returns : goal.returns
returns c =
    c.payload_of.ensures ∙ ap payload (c.fit_to.ensures 0 ∙ ap (fit (ty_of 2 0)) c.first_value.ensures)
