use mathlib.Core.Path.{ap, ◌∙◌}
use Rattle.ol_spec.specs.Cell.{payload}
use Rattle.value_bench.proofs.ol_value_decode.Goals as goal

pub returns : goal.returns
returns c = c.payload_of.ensures ∙ ap payload c.first_value.ensures
