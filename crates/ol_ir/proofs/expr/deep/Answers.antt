use mathlib.Core.Path.{◌∙◌, refl}
use Rattle.ol_spec.specs.Lists.{up_to}
use Rattle.ol_spec.specs.Read.{expr_codes}
use Rattle.ol_ir.proofs.Forms.{code_next}
use Rattle.ol_ir.proofs.Onward.{erred, arrive, halt}
use Rattle.ol_ir.proofs.Heads.{deep_chain}
use Rattle.ol_ir.proofs.expr.deep.Goals as goal

pub returns-in_err-code : goal.returns-in_err-code
returns-in_err-code c = λ l enums. erred _ _ c.from_residual.ensures.1 ∙ halt (deep_chain _ l enums _) (c.code.ensures ∙ code_next _ (up_to 16) expr_codes _ refl) c.in_err-code.was

pub returns : goal.returns
returns c = λ l enums. arrive (deep_chain _ l enums _) (c.code.ensures ∙ code_next _ (up_to 16) expr_codes _ refl) c.in_ok-code.was c.refused.ensures
