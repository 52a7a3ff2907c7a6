use mathlib.Core.Path.{◌≡◌, ◌∙◌}
use native.Mathlib.Omega.{arith}
use lib.ListN.{get_or}
use Rattle.ol_tables.specs.declared.form.Form.TheVariants as Frm
use Rattle.ol_tables.proofs.FormLaws.{form_is}
use Rattle.ol_shapes.proofs.Placing.{operand_place, left_place, right_place, pre_var, pre_other, argument_place, array_place, index_place, seed_place, arrays_place, part_scalar}
use Rattle.ol_shapes.proofs.shapes.Shapes.part_place.Goals as goal
use Rattle.ol_shapes.proofs.shapes.Shapes.part_place.Goals.{then-i-eq0, else-i-eq0}

pub returns-then-not-compares : goal.returns-then-not-compares
returns-then-not-compares c =
    let q : get_or c.args.self.now.file.now c.args.at 0 ≡ 6 = omega (arith, c.in-Binary.ensures) in
    record { is = λ k locals e es h more first. operand_place e es h more first q c.byte.ensures.is c.if-not-compares.ensures }

pub returns-after-i-eq0 : goal.returns-after-i-eq0
returns-after-i-eq0 c =
    let q : get_or c.args.self.now.file.now c.args.at 0 ≡ 6 = omega (arith, c.in-Binary.ensures) in
    elim c.if-i-eq0.branch [
      | then-i-eq0 w ↦ record { is = λ k locals e es h more first. left_place e es h more first q c.byte.ensures.is c.if-not-compares.ensures w.if-i-eq0.true (w.other-is ∙ w.skip-other.ensures) c.shape_at.ensures c.beside.ensures }
      | else-i-eq0 w ↦ record { is = λ k locals e es h more first. right_place e es h more first q c.byte.ensures.is c.if-not-compares.ensures w.if-i-eq0.false (rw w.other-is at c.shape_at.ensures) c.beside.ensures }
    ]

pub returns-in-Var : goal.returns-in-Var
returns-in-Var c =
    let q : get_or c.args.self.now.file.now c.args.at 0 ≡ 8 = omega (arith, c.in-Pre.ensures) in
    let r : get_or c.args.self.now.file.now c.args.pos 0 ≡ 4 = omega (arith, c.in-Var.ensures) in
    record { is = λ k locals e es h more first. pre_var e es h more first q r }

pub returns-in_default-form : goal.returns-in_default-form
returns-in_default-form c =
    let q : get_or c.args.self.now.file.now c.args.at 0 ≡ 8 = omega (arith, c.in-Pre.ensures) in
    record { is = λ k locals e es h more first. pre_other e es h more first q (λ z. c.in_default-form.not-Var (form_is Frm.Var c.form-in-Pre.ensures z)) }

pub returns-in-Call : goal.returns-in-Call
returns-in-Call c =
    let q : get_or c.args.self.now.file.now c.args.at 0 ≡ 11 = omega (arith, c.in-Call.ensures) in
    record { is = λ k locals e es h more first. c.under.ensures ∙ argument_place e es h more first q c.byte-in-Call.ensures.is c.variable_shape.ensures }

pub returns-then-i-eq0-2 : goal.returns-then-i-eq0-2
returns-then-i-eq0-2 c =
    let q : get_or c.args.self.now.file.now c.args.at 0 ≡ 13 = omega (arith, c.in-Index.ensures) in
    record { is = λ k locals e es h more first. array_place e es h more first q c.if-i-eq0-2.true }

pub returns-else-i-eq0-2 : goal.returns-else-i-eq0-2
returns-else-i-eq0-2 c =
    let q : get_or c.args.self.now.file.now c.args.at 0 ≡ 13 = omega (arith, c.in-Index.ensures) in
    record { is = λ k locals e es h more first. index_place e es h more first q c.if-i-eq0-2.false }

pub returns-then-i-byte : goal.returns-then-i-byte
returns-then-i-byte c = record { is = λ k locals e es h more first. seed_place e es h more first (omega (arith, c.in-Iterator.ensures)) c.byte-in-Iterator.ensures.is c.if-i-byte.true }

pub returns-else-i-byte : goal.returns-else-i-byte
returns-else-i-byte c = record { is = λ k locals e es h more first. arrays_place e es h more first (omega (arith, c.in-Iterator.ensures)) c.byte-in-Iterator.ensures.is c.if-i-byte.false }

pub returns-in_default : goal.returns-in_default
returns-in_default c =
    let d = c.in_default in
    let f = c.form.ensures in
    record {
      is = λ k locals e es h more first.
          part_scalar e es h more first (λ z. d.not-Binary (form_is Frm.Binary f z)) (λ z. d.not-Pre (form_is Frm.Pre f z)) (λ z. d.not-Call (form_is Frm.Call f z)) (λ z. d.not-Index (form_is Frm.Index f z)) (λ z. d.not-Iterator (form_is Frm.Iterator f z));
    }
