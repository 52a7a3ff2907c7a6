use Prim.Native.Nat.{◌+◌}
use mathlib.Core.Path.{ap, ◌∙◌}
use native.Mathlib.Omega.{arith}
use Rattle.ol_tables.specs.Heads.{parts_at}
use Rattle.ol_tables.specs.declared.form.Form.TheVariants as Frm
use Rattle.ol_tables.proofs.FormLaws.{form_is}
use Rattle.ol_ir.specs.declared.Scan.TheVariants as Scn
use Rattle.ol_ir.proofs.Scans.{scans_name, scans_pre, scans_parts, scans_end}
use Rattle.ol_ir.proofs.expr.scan.Goals as goal

pub returns-then-file-at-clause-is : goal.returns-then-file-at-clause-is
returns-then-file-at-clause-is c = scans_end c.args.file.now c.args.at c.if-file-at.true

pub returns-in-Var-clause-is : goal.returns-in-Var-clause-is
returns-in-Var-clause-is c = ap (λ x. Scn.Name x (c.args.at + 3)) c.name.ensures.is ∙ scans_name c.args.file.now c.args.at c.if-file-at.false (omega (arith, c.in-Var.ensures))

pub returns-in-Pre-clause-is : goal.returns-in-Pre-clause-is
returns-in-Pre-clause-is c = ap (Scn.Parts 0) c.skip.ensures ∙ scans_pre c.args.file.now c.args.at c.if-file-at.false (omega (arith, c.in-Pre.ensures))

pub returns-in_default : goal.returns-in_default
returns-in_default c =
    let parts = ap (λ m. Scn.Parts m c.head-h.result.start) c.head-h.ensures.parts in
    let next = ap (Scn.Parts (parts_at c.args.file.now c.args.at)) c.head-h.ensures.next in
    let is = scans_parts c.args.file.now c.args.at c.if-file-at.false (λ b. c.in_default.not-Var (form_is Frm.Var c.at.ensures b)) (λ b. c.in_default.not-Pre (form_is Frm.Pre c.at.ensures b)) in
    record { is = parts ∙ next ∙ is; small = λ x q e. cc }
