use mathlib.Core.Logic.{by_cases}
use mathlib.Core.Path.{◌≡◌, sym, ap, ◌∙◌}
use Prim.Native.Nat.{◌+◌, ◌-◌}
use native.Mathlib.Decide.{ℕ_discrete}
use native.Mathlib.Omega.{arith}
use borrow.Author.Tests.{true-eqb, false-eqb}
use lib.ListN.{get_or}
use Rattle.ol_spec.specs.Lists.{maybe}
use Rattle.ol_tables.proofs.Forms.{reads_in, reads_deep, pre_form, call_form, literal_form, map_form, fold_form, iterator_kind}
use Rattle.ol_tables.proofs.FormLaws.{form_is}
use Rattle.ol_tables.specs.declared.form.Form.TheVariants as Frm
use Rattle.ol_frame.proofs.Planning.{plan_head, plan_form, plan_parts}
use Rattle.ol_frame.proofs.Shaping.{span_name, span_before, span_no_name, span_call, call_below, span_literal, map_array, span_map, span_fold, span_other}
use Rattle.ol_frame.proofs.arrays.+lengths.Goals as goal

pub array_length-at-requires : goal.array_length-at-requires
array_length-at-requires t c =
    let f = c.args.file.now in
    reads_in f c.args.level c.args.at (plan_head f c.requires.plan)

pub array_length-is_at-requires : goal.array_length-is_at-requires
array_length-is_at-requires t c =
    let f = c.args.file.now in
    let p = c.requires.plan in
    let w = pre_form f c.args.level c.args.at (plan_head f p) (plan_form f p Frm.Pre c.at.ensures c.in-Pre.is) in
    reads_in f (c.args.level - 1) (c.args.at + 1) (plan_head f (plan_parts f p w))

pub array_length-bounds-file-at : goal.array_length-bounds-file-at
array_length-bounds-file-at t c =
    let f = c.args.file.now in
    let p = c.requires.plan in
    omega (arith, (call_form f c.args.level c.args.at (plan_head f p) (plan_form f p Frm.Call c.at.ensures c.in-Call.is)).0.inside)

pub array_length-output_length-requires : goal.array_length-output_length-requires
array_length-output_length-requires t c =
    let f = c.args.file.now in
    let p = c.requires.plan in
    (p.program, omega (arith, c.from.ensures, call_below f p (plan_form f p Frm.Call c.at.ensures c.in-Call.is)))

pub array_length-bounds-file-at-in-Literal : goal.array_length-bounds-file-at-in-Literal
array_length-bounds-file-at-in-Literal t c =
    let f = c.args.file.now in
    let p = c.requires.plan in
    omega (arith, (literal_form f c.args.level c.args.at (plan_head f p) (plan_form f p Frm.Literal c.at.ensures c.in-Literal.is)).0.inside)

pub array_length-iterator_length-requires : goal.array_length-iterator_length-requires
array_length-iterator_length-requires t c =
    let f = c.args.file.now in
    let p = c.requires.plan in
    (omega arith, (c.requires, plan_form f p Frm.Iterator c.at.ensures c.in-Iterator.is))

pub array_length-returns-in-Var : goal.array_length-returns-in-Var
array_length-returns-in-Var t c = λ node q.
    let f = c.args.file.now in
    c.named_length.ensures.0 ∙ span_name f q (plan_form f q Frm.Var c.at.ensures c.in-Var.is)

pub array_length-returns-then-is_at : goal.array_length-returns-then-is_at
array_length-returns-then-is_at t c = λ node q.
    let f = c.args.file.now in
    c.named_length-then-is_at.ensures.0 ∙ span_before f q (plan_form f q Frm.Pre c.at.ensures c.in-Pre.is) (true-eqb _ _ c.if-is_at.ensures)

pub array_length-returns-else-is_at : goal.array_length-returns-else-is_at
array_length-returns-else-is_at t c = λ node q.
    let f = c.args.file.now in
    span_no_name f q (plan_form f q Frm.Pre c.at.ensures c.in-Pre.is) (false-eqb _ _ c.if-is_at.ensures)

pub array_length-returns-in-Call : goal.array_length-returns-in-Call
array_length-returns-in-Call t c = λ node q.
    let f = c.args.file.now in
    (rw c.from.ensures at c.output_length.ensures) ∙ span_call f q (plan_form f q Frm.Call c.at.ensures c.in-Call.is)

pub array_length-returns-in-Literal : goal.array_length-returns-in-Literal
array_length-returns-in-Literal t c = λ node q.
    let f = c.args.file.now in
    c.from-in-Literal.ensures ∙ span_literal f q (plan_form f q Frm.Literal c.at.ensures c.in-Literal.is)

pub array_length-returns-in_default : goal.array_length-returns-in_default
array_length-returns-in_default t c = λ node q.
    let f = c.args.file.now in
    let d = c.in_default in
    sym (ap (maybe 0 (λ n. n)) (span_other f q (λ e. d.not-Var (form_is Frm.Var c.at.ensures e)) (λ e. d.not-Pre (form_is Frm.Pre c.at.ensures e)) (λ e. d.not-Call (form_is Frm.Call c.at.ensures e))
    (λ e. d.not-Literal (form_is Frm.Literal c.at.ensures e)) (λ e. d.not-Iterator (form_is Frm.Iterator c.at.ensures e))))

pub iterator_length-is_map-requires : goal.iterator_length-is_map-requires
iterator_length-is_map-requires t c =
    let f = c.args.file.now in
    let L = c.args.level in
    let a = c.args.at in
    let h = plan_head f c.requires.0.plan in
    let e = c.requires.1 in
    by_cases (ℕ_discrete (get_or f (a + 1) 0) 0) (λ z. omega (arith, (map_form f L a h e z).0.inside))
    (λ z. let one : get_or f (a + 1) 0 ≡ 1 = omega (arith, z, iterator_kind f L a h e) in omega (arith, (fold_form f L a h e one).0.inside))

pub iterator_length-overflow_sub-level : goal.iterator_length-overflow_sub-level
iterator_length-overflow_sub-level t c =
    let f = c.args.file.now in
    reads_deep f c.args.level c.args.at (plan_head f c.requires.0.plan)

pub iterator_length-array_length-requires : goal.iterator_length-array_length-requires
iterator_length-array_length-requires t c =
    let f = c.args.file.now in
    let p = c.requires.0.plan in
    (omega (arith, reads_deep f c.args.level c.args.at (plan_head f p)), record { node = c.requires.0.node; plan = map_array f p c.requires.1 (true-eqb _ _ c.if-is_map.ensures) })

pub iterator_length-returns-then-is_map : goal.iterator_length-returns-then-is_map
iterator_length-returns-then-is_map t c = λ node q.
    let f = c.args.file.now in
    let z = true-eqb _ _ c.if-is_map.ensures in
    c.array_length.ensures node (map_array f q c.requires.1 z) ∙ span_map f q c.requires.1 z

pub iterator_length-returns-else-is_map : goal.iterator_length-returns-else-is_map
iterator_length-returns-else-is_map t c = λ node q. span_fold c.args.file.now q c.requires.1 (false-eqb _ _ c.if-is_map.ensures)
