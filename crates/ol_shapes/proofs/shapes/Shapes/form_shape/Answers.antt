use Prim.Native.Nat.{◌+◌}
use mathlib.Core.Option.{some}
use mathlib.Core.Path.{◌≡◌, ap, ◌∙◌}
use native.Mathlib.Omega.{arith}
use lib.ListN.{get_or}
use Rattle.ol_tables.specs.declared.form.Form.TheVariants as Frm
use Rattle.ol_tables.proofs.FormLaws.{form_is}
use Rattle.ol_shapes.specs.Codes.{length_shape}
use Rattle.ol_shapes.proofs.Shaping.{form_var, form_pre, form_pre_other, form_call, form_literal, form_other}
use Rattle.ol_shapes.proofs.shapes.Shapes.form_shape.Goals as goal

pub returns-in-Var : goal.returns-in-Var
returns-in-Var c =
    let q : get_or c.args.self.now.file.now c.args.at 0 ≡ 4 = omega (arith, c.in-Var.ensures) in
    record { is = λ k locals level e es h m. c.shape_of.ensures ∙ ap length_shape c.byte.ensures.is ∙ form_var e es h q }

pub returns-in-Var-form : goal.returns-in-Var-form
returns-in-Var-form c =
    let q : get_or c.args.self.now.file.now c.args.at 0 ≡ 8 = omega (arith, c.in-Pre.ensures) in
    let r : get_or c.args.self.now.file.now (c.args.at + 1) 0 ≡ 4 = omega (arith, c.in-Var-form.ensures) in
    record { is = λ k locals level e es h m. c.shape_of-in-Var-form.ensures ∙ ap length_shape c.byte-in-Var-form.ensures.is ∙ form_pre e es h q r }

pub returns-in_default-form : goal.returns-in_default-form
returns-in_default-form c =
    let q : get_or c.args.self.now.file.now c.args.at 0 ≡ 8 = omega (arith, c.in-Pre.ensures) in
    record { is = λ k locals level e es h m. form_pre_other e es h q (λ z. c.in_default-form.not-Var (form_is Frm.Var c.form-in-Pre.ensures z)) }

pub returns-in-Call : goal.returns-in-Call
returns-in-Call c =
    let q : get_or c.args.self.now.file.now c.args.at 0 ≡ 11 = omega (arith, c.in-Call.ensures) in
    record { is = λ k locals level e es h m. form_call e es h q c.byte-in-Call.ensures.is c.call_shape.ensures }

pub returns-in-Literal : goal.returns-in-Literal
returns-in-Literal c =
    let q : get_or c.args.self.now.file.now c.args.at 0 ≡ 14 = omega (arith, c.in-Literal.ensures) in
    record { is = λ k locals level e es h m. ap some c.byte-in-Literal.ensures.is ∙ form_literal e es h q }

pub returns-in_default : goal.returns-in_default
returns-in_default c =
    let d = c.in_default in
    record {
      is = λ k locals level e es h m.
          form_other e es h m (λ z. d.not-Var (form_is Frm.Var c.form.ensures z)) (λ z. d.not-Pre (form_is Frm.Pre c.form.ensures z)) (λ z. d.not-Call (form_is Frm.Call c.form.ensures z)) (λ z. d.not-Literal (form_is Frm.Literal c.form.ensures z));
    }
