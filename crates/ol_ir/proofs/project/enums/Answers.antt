use mathlib.Core.Path.{◌∙◌, sym}
use Rattle.std.proofs.Common.{rules}
use Rattle.ol_spec.specs.Read.{enum_r}
use Rattle.ol_ir.specs.Nexts.{next_of}
use Rattle.ol_ir.proofs.Files.{list_at, list_halt, list_none}
use Rattle.ol_ir.proofs.Onward.{many_next, erred}
use Rattle.ol_ir.proofs.project.enums.Goals as goal

pub returns-in_err-n : goal.returns-in_err-n
returns-in_err-n c = erred _ _ c.from_residual.ensures.1 ∙ list_none c.args.file.now 0 c.args.limits.now.enums (enum_r c.args.file.now c.args.limits.now) c.args.at c.count.ensures.is c.in_err-n.was

pub returns-in_err-end : goal.returns-in_err-end
returns-in_err-end c =
    let r = enum_r c.args.file.now c.args.limits.now in
    erred _ _ c.from_residual-in_err-end.ensures.1 ∙ list_halt c.args.file.now 0 c.args.limits.now.enums r c.args.at c.count.ensures.is c.in_ok-n.was (c.many.ensures (λ p. next_of (r p)) (λ p y e. search rules) ∙ sym (many_next r _ _)) c.in_err-end.was

pub returns : goal.returns
returns c =
    let r = enum_r c.args.file.now c.args.limits.now in
    list_at c.args.file.now 0 c.args.limits.now.enums r c.args.at c.count.ensures.is c.in_ok-n.was (c.many.ensures (λ p. next_of (r p)) (λ p y e. search rules) ∙ sym (many_next r _ _)) c.in_ok-end.was
