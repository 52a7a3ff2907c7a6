use mathlib.Core.Path.{refl, ◌∙◌}
use Rattle.ol_spec.specs.Lists.{up_to}
use Rattle.ol_spec.specs.Read.{iterators}
use Rattle.ol_ir.proofs.Forms.{code_next}
use Rattle.ol_ir.proofs.Heads.{kind_refused, counted_fold, counted_map, counted_refused}
use Rattle.ol_ir.proofs.Onward.{erred}
use Rattle.ol_ir.proofs.Reader.iterator.Goals as goal

pub returns-in_err-p : goal.returns-in_err-p
returns-in_err-p c =
    erred _ _ c.from_residual.ensures.1 ∙ kind_refused c.args.self.now.file.now c.args.self.now.limits.now.arrays c.args.at (c.code.ensures ∙ code_next _ (up_to 2) iterators _ refl) c.in_err-p.was

pub returns-in_err-arrays : goal.returns-in_err-arrays
returns-in_err-arrays c =
    erred _ _ c.from_residual-in_err-arrays.ensures.1
    ∙ counted_refused c.args.self.now.file.now c.args.self.now.limits.now.arrays c.args.at (c.code.ensures ∙ code_next _ (up_to 2) iterators _ refl) c.in_ok-p.was c.call.ensures.is c.in_err-arrays.was

pub returns-then-byte-eq1 : goal.returns-then-byte-eq1
returns-then-byte-eq1 c =
    counted_fold c.args.self.now.file.now c.args.self.now.limits.now.arrays c.args.at (c.code.ensures ∙ code_next _ (up_to 2) iterators _ refl) c.in_ok-p.was c.call.ensures.is c.in_ok-arrays.was c.byte.ensures c.if-byte-eq1.true

pub returns-else-byte-eq1 : goal.returns-else-byte-eq1
returns-else-byte-eq1 c =
    counted_map c.args.self.now.file.now c.args.self.now.limits.now.arrays c.args.at (c.code.ensures ∙ code_next _ (up_to 2) iterators _ refl) c.in_ok-p.was c.call.ensures.is c.in_ok-arrays.was c.byte.ensures c.if-byte-eq1.false
