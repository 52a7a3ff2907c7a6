use Prim.Native.Nat.{◌+◌, ◌*◌}
use mathlib.Core.Path.{◌≡◌, sym, subst}
use native.Mathlib.Omega.{arith}
use lib.ListN.{get_or}
use Rattle.ol_tables.specs.Numbers.{numbers}
use Rattle.ol_tables.specs.declared.form.Form.TheVariants as Frm
use Rattle.ol_tables.proofs.FormLaws.{form_is}
use Rattle.ol_shapes.specs.Laid.{EquationJudged}
use Rattle.ol_shapes.proofs.Judging.{erred}
use Rattle.ol_shapes.proofs.Naming.{rhs_at, equation_tuple, equation_call, equation_one}
use Rattle.ol_shapes.proofs.shapes.Shapes.equation.Goals as goal

pub items-requires : goal.items-requires
items-requires c = (omega arith, omega (arith, c.byte-many.ensures.small))

pub outputs-requires : goal.outputs-requires
outputs-requires c = (omega arith, omega (arith, c.byte-many.ensures.small), omega (arith, c.byte-many.ensures.small))

pub returns-in-Tuple : goal.returns-in-Tuple
returns-in-Tuple c =
    let code : get_or c.args.self.now.file.now (c.args.at + 1 + 2 * c.byte-many.result) 0 ≡ 12 = omega (arith, c.in-Tuple.ensures) in
    record { is = λ q e. equation_tuple q e (rhs_at q e c.byte-many.ensures) code c.items.ensures }

pub returns-in-Call : goal.returns-in-Call
returns-in-Call c =
    let code : get_or c.args.self.now.file.now (c.args.at + 1 + 2 * c.byte-many.result) 0 ≡ 11 = omega (arith, c.in-Call.ensures) in
    record { is = λ q e. equation_call q e (rhs_at q e c.byte-many.ensures) code c.byte-many.ensures c.outputs.ensures }

pub returns-in_err-misplaced-in_default : goal.returns-in_err-misplaced-in_default
returns-in_err-misplaced-in_default c =
    let j = c.args.self.now in
    let d = c.in_default in
    subst (λ r. EquationJudged j.file.now (numbers j.rows.now) j.slots.now j.plans.now c.args.k c.args.at r) (sym (erred c.from_residual.result c.from_residual.ensures.1))
    (record {
      is = λ q e.
          equation_one q e (rhs_at q e c.byte-many.ensures) (λ z. d.not-Tuple (form_is Frm.Tuple c.form.ensures z)) (λ z. d.not-Call (form_is Frm.Call c.form.ensures z)) c.name_place.ensures c.in_err-misplaced-in_default.ensures;
    })

pub returns-in_ok-misplaced-in_default : goal.returns-in_ok-misplaced-in_default
returns-in_ok-misplaced-in_default c =
    let d = c.in_default in
    record {
      is = λ q e.
          equation_one q e (rhs_at q e c.byte-many.ensures) (λ z. d.not-Tuple (form_is Frm.Tuple c.form.ensures z)) (λ z. d.not-Call (form_is Frm.Call c.form.ensures z)) c.name_place.ensures c.in_ok-misplaced-in_default.ensures;
    }
