use mathlib.Core.Path.{ap, sym, ◌∙◌}
use native.Mathlib.Omega.{arith}
use Rattle.std.specs.Prelude.{Err}
use Rattle.std.specs.declared.cmp.Ordering.TheVariants.{Less, Equal, Greater}
use Rattle.std.proofs.lemmas.Cmp.{ranked}
use Rattle.ol_ir.proofs.Onward.{erred}
use Rattle.ol_ir.proofs.Forms.{ty_plain, ty_enum, ty_none, ty_end}
use Rattle.ol_ir.proofs.types.ty.Goals as goal

pub returns-in_err-byte : goal.returns-in_err-byte
returns-in_err-byte c = λ l. erred _ _ c.from_residual.ensures.1 ∙ (ap Err c.in_err-byte.ensures.1 ∙ ty_end _ l c.args.enums _ c.in_err-byte.ensures.0)

pub returns-in-Less : goal.returns-in-Less
returns-in-Less c = λ l. ty_plain _ l c.args.enums _ c.in_ok-byte.ensures.0 (omega (arith, ranked c.in_ok-byte.field-0 c.from.result Less c.in-Less.ensures, c.from.ensures, c.in_ok-byte.ensures.1))

pub returns-in-Equal : goal.returns-in-Equal
returns-in-Equal c = λ l. c.code.ensures ∙ ty_enum _ l c.args.enums _ c.in_ok-byte.ensures.0 (sym c.in_ok-byte.ensures.1 ∙ (ranked _ _ Equal c.in-Equal.ensures ∙ c.from.ensures))

pub returns-in-Greater : goal.returns-in-Greater
returns-in-Greater c = λ l. c.refused.ensures ∙ ty_none _ l c.args.enums _ c.in_ok-byte.ensures.0 (omega (arith, ranked c.in_ok-byte.field-0 c.from.result Greater c.in-Greater.ensures, c.from.ensures, c.in_ok-byte.ensures.1))
