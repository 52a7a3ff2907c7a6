use mathlib.Core.Path.{ap, ◌∙◌}
use Rattle.ol_spec.specs.declared.Value.{Value}
use Rattle.ol_value.specs.Codes.{binary_by}
use Rattle.value_bench.specs.Digests.{digest_of}
use Rattle.value_bench.proofs.ol_value_add.Goals as goal

pub returns : goal.returns
returns c =
    c.digest.ensures ∙ ap digest_of (c.eval_binary.ensures ∙ ap (λ (v : Value). binary_by 10 v v) c.first_value-v.ensures)
