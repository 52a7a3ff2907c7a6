use mathlib.Core.Path.{◌≡◌, ap, ◌∙◌}
use native.Mathlib.Omega.{arith}
use Rattle.std.specs.Prelude.{Some}
use Rattle.std.proofs.lemmas.Grind.{common_steps}
use Rattle.ol_spec.specs.Operators.{pair, equal}
use Rattle.ol_frame.specs.Outcomes.{test_of}
use Rattle.ol_frame.proofs.Asking.{equal_told}
use Rattle.ol_frame.proofs.arrays.equal_values.Goals as goal

pub returns : goal.returns
returns c =
    let is : c.test_of.result ≡ Some (equal (pair c.args.v c.args.w)) = c.test_of.ensures ∙ ap test_of (equal_told c.args.v c.args.w c.eval_binary.ensures) in
    grind (arith, common_steps)
