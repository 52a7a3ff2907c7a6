use mathlib.Core.Path.{ap, sym, ◌∙◌}
use Rattle.std.specs.Prelude.{Err}
use Rattle.ol_ir.proofs.Forms.{var_scalar, var_array, var_end}
use Rattle.ol_ir.proofs.Onward.{erred, items, no_items}
use Rattle.ol_ir.proofs.Reader.var_ty.Goals as goal

pub returns-in_err-byte : goal.returns-in_err-byte
returns-in_err-byte c =
    erred _ _ c.from_residual.ensures.1 ∙ (ap Err c.in_err-byte.ensures.1 ∙ var_end c.args.self.now.file.now c.args.self.now.limits.now c.args.self.now.enums c.args.at c.in_err-byte.ensures.0)

pub returns-in_err-length : goal.returns-in_err-length
returns-in_err-length c =
    let array = sym c.in_ok-byte.ensures.1 ∙ (c.if-branch-from.true ∙ c.from.ensures) in
    erred _ _ c.from_residual-in_err-length.ensures.1 ∙ no_items (var_array c.args.self.now.file.now c.args.self.now.limits.now c.args.self.now.enums c.args.at c.in_ok-byte.ensures.0 array) c.count.ensures.is c.in_err-length.was

pub returns-in_ok-length : goal.returns-in_ok-length
returns-in_ok-length c =
    let array = sym c.in_ok-byte.ensures.1 ∙ (c.if-branch-from.true ∙ c.from.ensures) in
    items (var_array c.args.self.now.file.now c.args.self.now.limits.now c.args.self.now.enums c.args.at c.in_ok-byte.ensures.0 array) c.count.ensures.is c.in_ok-length.was (c.ty.ensures c.args.self.now.limits.now)

pub returns-else-branch-from : goal.returns-else-branch-from
returns-else-branch-from c =
    c.ty-else-branch-from.ensures c.args.self.now.limits.now
    ∙ var_scalar c.args.self.now.file.now c.args.self.now.limits.now c.args.self.now.enums c.args.at c.in_ok-byte.ensures.0 (λ e. c.if-branch-from.false (c.in_ok-byte.ensures.1 ∙ (e ∙ sym c.from.ensures)))
