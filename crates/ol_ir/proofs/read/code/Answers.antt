use mathlib.Core.Path.{ap, ◌∙◌}
use native.Mathlib.Omega.{arith}
use Rattle.std.specs.Prelude.{Err}
use Rattle.ol_spec.specs.Lists.{up_to}
use Rattle.ol_ir.proofs.Onward.{erred}
use Rattle.ol_ir.proofs.Bytes.{length_up_to}
use Rattle.ol_ir.proofs.Forms.{code_in, code_out, code_end}
use Rattle.ol_ir.proofs.read.code.Goals as goal

pub returns-in_err-byte : goal.returns-in_err-byte
returns-in_err-byte c = erred _ _ c.from_residual.ensures.1 ∙ (ap Err c.in_err-byte.ensures.1 ∙ code_end _ (up_to c.args.bound) _ c.in_err-byte.ensures.0)

pub returns-then-branch-bound : goal.returns-then-branch-bound
returns-then-branch-bound c = code_in _ (up_to c.args.bound) _ c.in_ok-byte.ensures.0 (omega (arith, length_up_to c.args.bound, c.in_ok-byte.ensures.1))

pub returns-else-branch-bound : goal.returns-else-branch-bound
returns-else-branch-bound c = c.refused.ensures ∙ code_out _ (up_to c.args.bound) _ c.in_ok-byte.ensures.0 (omega (arith, length_up_to c.args.bound, c.in_ok-byte.ensures.1))
