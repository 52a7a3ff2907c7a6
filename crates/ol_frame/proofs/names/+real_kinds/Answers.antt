use mathlib.Core.Path.{◌≡◌, refl, sym, ap, subst, ◌∙◌}
use mathlib.Core.Bool.{false}
use Prim.Native.Nat.{ℕ, ◌+◌, ◌-◌, ◌≤◌}
use native.Mathlib.Omega.{arith}
use lib.ListN.{get_or}
use Rattle.ol_spec.specs.Syntax.{Expr}
use Rattle.ol_spec.specs.Eval.{real_kind, not_real, join, present_of, or_failure}
use Rattle.ol_tables.proofs.Forms.{reads_in, reads_deep, float_form, var_form, unary_form, binary_form, if_form, pre_form, arrow_form, cast_form, call_form, by_form, one_tree, type_some}
use Rattle.ol_tables.specs.declared.form.Form.TheVariants as Frm
use Rattle.ol_tables.proofs.FormLaws.{form_is}
use Rattle.ol_frame.specs.Outcomes.{kind_of, outcome_kind}
use Rattle.ol_frame.specs.Plans.{globals_in, scope_in, long_in, name_at}
use Rattle.ol_frame.proofs.Programs.{no_length, name_long}
use Rattle.ol_frame.proofs.RealKinds.{greater_kind, arithmetic_code, plain_code, bits_code, code_kind, name_kind, array_name_kind}
use Rattle.ol_frame.proofs.Planning.{plan_head, plan_form, plan_name, plan_parts, plan_rest, plan_first, plan_call, plan_passable, segs_form, segs_cons, segs_first}
use Rattle.ol_tables.specs.Table.{consts_of}
use Rattle.ol_frame.proofs.Tabling.{rows_room}
use Rattle.ol_frame.proofs.names.+real_kinds.Goals as goal

pub real_kind-at-requires : goal.real_kind-at-requires
real_kind-at-requires t c =
    let f = c.args.file.now in
    let L = c.args.level in
    let a = c.args.at in
    let p = c.requires.0 in
    let h = plan_head f p in
    reads_in f L a h

pub real_kind-overflow_add-p : goal.real_kind-overflow_add-p
real_kind-overflow_add-p t c =
    let f = c.args.file.now in
    let L = c.args.level in
    let a = c.args.at in
    let p = c.requires.0 in
    let h = plan_head f p in
    omega (arith, reads_in f L a h, c.well_formed)

pub real_kind-present-requires : goal.real_kind-present-requires
real_kind-present-requires t c =
    let f = c.args.file.now in
    let p = c.requires.0 in
    let z = c.requires.1 in
    (plan_name f p (plan_form f p Frm.Var c.at.ensures c.in-Var.is), z)

pub real_kind-overflow_sub-level : goal.real_kind-overflow_sub-level
real_kind-overflow_sub-level t c =
    let f = c.args.file.now in
    let L = c.args.level in
    let a = c.args.at in
    let p = c.requires.0 in
    let h = plan_head f p in
    let deep = reads_deep f L a h in
    deep

pub real_kind-real_kind-requires : goal.real_kind-real_kind-requires
real_kind-real_kind-requires t c =
    let f = c.args.file.now in
    let L = c.args.level in
    let a = c.args.at in
    let p = c.requires.0 in
    let z = c.requires.1 in
    let room = c.requires.2 in
    let h = plan_head f p in
    let deep = reads_deep f L a h in
    (omega (arith, deep), (plan_parts f p ((unary_form f L a h (plan_form f p Frm.Unary c.at.ensures c.in-Unary.is)).1), z, subst (λ (m : ℕ). m ≤ 32768) (segs_form f p.reads ((unary_form f L a h (plan_form f p Frm.Unary c.at.ensures c.in-Unary.is)).1) refl) room))

pub real_kind-bounds-file-p : goal.real_kind-bounds-file-p
real_kind-bounds-file-p t c =
    let f = c.args.file.now in
    let L = c.args.level in
    let a = c.args.at in
    let p = c.requires.0 in
    let h = plan_head f p in
    omega (arith, (binary_form f L a h (plan_form f p Frm.Binary c.at.ensures c.in-Binary.is)).1.inside)

pub real_kind-overflow_sub-level-in-10-to-13 : goal.real_kind-overflow_sub-level-in-10-to-13
real_kind-overflow_sub-level-in-10-to-13 t c =
    let f = c.args.file.now in
    let L = c.args.level in
    let a = c.args.at in
    let p = c.requires.0 in
    let h = plan_head f p in
    let deep = reads_deep f L a h in
    deep

pub real_kind-real_kinds-requires : goal.real_kind-real_kinds-requires
real_kind-real_kinds-requires t c =
    let f = c.args.file.now in
    let L = c.args.level in
    let a = c.args.at in
    let p = c.requires.0 in
    let z = c.requires.1 in
    let room = c.requires.2 in
    let h = plan_head f p in
    let deep = reads_deep f L a h in
    (omega (arith, deep), (plan_parts f p (binary_form f L a h (plan_form f p Frm.Binary c.at.ensures c.in-Binary.is)).1, z, subst (λ (m : ℕ). m ≤ 32768) (segs_form f p.reads (binary_form f L a h (plan_form f p Frm.Binary c.at.ensures c.in-Binary.is)).1 refl) room))

pub real_kind-overflow_sub-level-in-If : goal.real_kind-overflow_sub-level-in-If
real_kind-overflow_sub-level-in-If t c =
    let f = c.args.file.now in
    let L = c.args.level in
    let a = c.args.at in
    let p = c.requires.0 in
    let h = plan_head f p in
    let deep = reads_deep f L a h in
    deep

pub real_kind-pass-c-requires : goal.real_kind-pass-c-requires
real_kind-pass-c-requires t c =
    let f = c.args.file.now in
    let T = c.args.tab.now in
    let L = c.args.level in
    let a = c.args.at in
    let p = c.requires.0 in
    let room = c.requires.2 in
    let h = plan_head f p in
    (plan_passable f (plan_first f ((plan_parts f p ((if_form f L a h (plan_form f p Frm.If c.at.ensures c.in-If.is)))))) (omega (arith, segs_first f ((plan_parts f p ((if_form f L a h (plan_form f p Frm.If c.at.ensures c.in-If.is))))), (subst (λ (m : ℕ). m ≤ 32768) (segs_form f p.reads ((if_form f L a h (plan_form f p Frm.If c.at.ensures c.in-If.is))) refl) room))), rows_room T _ p.program.table.long)

pub real_kind-overflow_sub-level-in-If-2 : goal.real_kind-overflow_sub-level-in-If-2
real_kind-overflow_sub-level-in-If-2 t c =
    let f = c.args.file.now in
    let L = c.args.level in
    let a = c.args.at in
    let p = c.requires.0 in
    let h = plan_head f p in
    let deep = reads_deep f L a h in
    deep

pub real_kind-real_kinds-requires-in-If : goal.real_kind-real_kinds-requires-in-If
real_kind-real_kinds-requires-in-If t c =
    let f = c.args.file.now in
    let L = c.args.level in
    let a = c.args.at in
    let p = c.requires.0 in
    let z = c.requires.1 in
    let room = c.requires.2 in
    let h = plan_head f p in
    let deep = reads_deep f L a h in
    let e = c.pass-c.ensures.next_is ∙ (one_tree f (L - 1) (a + 1) (plan_first f ((plan_parts f p ((if_form f L a h (plan_form f p Frm.If c.at.ensures c.in-If.is)))))).reads).1 in
    (omega (arith, deep), (rw e (plan_rest f ((plan_parts f p ((if_form f L a h (plan_form f p Frm.If c.at.ensures c.in-If.is)))))), z, rw e (omega (arith, segs_cons f (L - 1) 2 (a + 1) (plan_parts f p ((if_form f L a h (plan_form f p Frm.If c.at.ensures c.in-If.is)))).reads, (subst (λ (m : ℕ). m ≤ 32768) (segs_form f p.reads ((if_form f L a h (plan_form f p Frm.If c.at.ensures c.in-If.is))) refl) room)))))

pub real_kind-overflow_sub-level-in-Pre : goal.real_kind-overflow_sub-level-in-Pre
real_kind-overflow_sub-level-in-Pre t c =
    let f = c.args.file.now in
    let L = c.args.level in
    let a = c.args.at in
    let p = c.requires.0 in
    let h = plan_head f p in
    let deep = reads_deep f L a h in
    deep

pub real_kind-real_kind-requires-in-Pre : goal.real_kind-real_kind-requires-in-Pre
real_kind-real_kind-requires-in-Pre t c =
    let f = c.args.file.now in
    let L = c.args.level in
    let a = c.args.at in
    let p = c.requires.0 in
    let z = c.requires.1 in
    let room = c.requires.2 in
    let h = plan_head f p in
    let deep = reads_deep f L a h in
    (omega (arith, deep), (plan_parts f p ((pre_form f L a h (plan_form f p Frm.Pre c.at.ensures c.in-Pre.is))), z, subst (λ (m : ℕ). m ≤ 32768) (segs_form f p.reads ((pre_form f L a h (plan_form f p Frm.Pre c.at.ensures c.in-Pre.is))) refl) room))

pub real_kind-overflow_sub-level-in-Arrow : goal.real_kind-overflow_sub-level-in-Arrow
real_kind-overflow_sub-level-in-Arrow t c =
    let f = c.args.file.now in
    let L = c.args.level in
    let a = c.args.at in
    let p = c.requires.0 in
    let h = plan_head f p in
    let deep = reads_deep f L a h in
    deep

pub real_kind-real_kinds-requires-in-Arrow : goal.real_kind-real_kinds-requires-in-Arrow
real_kind-real_kinds-requires-in-Arrow t c =
    let f = c.args.file.now in
    let L = c.args.level in
    let a = c.args.at in
    let p = c.requires.0 in
    let z = c.requires.1 in
    let room = c.requires.2 in
    let h = plan_head f p in
    let deep = reads_deep f L a h in
    (omega (arith, deep), (plan_parts f p ((arrow_form f L a h (plan_form f p Frm.Arrow c.at.ensures c.in-Arrow.is))), z, subst (λ (m : ℕ). m ≤ 32768) (segs_form f p.reads ((arrow_form f L a h (plan_form f p Frm.Arrow c.at.ensures c.in-Arrow.is))) refl) room))

pub real_kind-bounds-file-p-in-Cast : goal.real_kind-bounds-file-p-in-Cast
real_kind-bounds-file-p-in-Cast t c =
    let f = c.args.file.now in
    let L = c.args.level in
    let a = c.args.at in
    let p = c.requires.0 in
    let h = plan_head f p in
    omega (arith, (cast_form f L a h (plan_form f p Frm.Cast c.at.ensures c.in-Cast.is)).1.inside, type_some (cast_form f L a h (plan_form f p Frm.Cast c.at.ensures c.in-Cast.is)).0)

pub real_kind-bounds-file-p-in-Call : goal.real_kind-bounds-file-p-in-Call
real_kind-bounds-file-p-in-Call t c =
    let f = c.args.file.now in
    let L = c.args.level in
    let a = c.args.at in
    let p = c.requires.0 in
    let h = plan_head f p in
    omega (arith, (call_form f L a h (plan_form f p Frm.Call c.at.ensures c.in-Call.is)).0.inside)

pub real_kind-call_kind-requires : goal.real_kind-call_kind-requires
real_kind-call_kind-requires t c =
    let f = c.args.file.now in
    let p = c.requires.0 in
    (p.program, omega (arith, c.from.ensures, (plan_call f p (plan_form f p Frm.Call c.at.ensures c.in-Call.is)).lower, p.node≤))

pub real_kind-returns-in-Float : goal.real_kind-returns-in-Float
real_kind-returns-in-Float t c =
    let f = c.args.file.now in
    let T = c.args.tab.now in
    let kk = consts_of T in
    let fr = c.args.frame.now in
    let cl = fr.cells.now in
    let n = fr.node in
    let L = c.args.level in
    let a = c.args.at in
    let p = c.requires.0 in
    let h = plan_head f p in
    let g = globals_in f kk in
    let sc = scope_in f n false cl cl in
    ap (λ (e : Expr). real_kind g sc e) (sym (float_form f L a h (plan_form f p Frm.Float c.at.ensures c.in-Float.is)).tree)

pub real_kind-returns-then-named_length-eq0 : goal.real_kind-returns-then-named_length-eq0
real_kind-returns-then-named_length-eq0 t c =
    let f = c.args.file.now in
    let T = c.args.tab.now in
    let kk = consts_of T in
    let fr = c.args.frame.now in
    let cl = fr.cells.now in
    let n = fr.node in
    let L = c.args.level in
    let a = c.args.at in
    let p = c.requires.0 in
    let h = plan_head f p in
    let g = globals_in f kk in
    let sc = scope_in f n false cl cl in
    let x = name_at f (a + 1) in
    let q = plan_name f p (plan_form f p Frm.Var c.at.ensures c.in-Var.is) in
    let none-there = no_length (long_in f n x) (name_long p.program n x) (sym q.named.cell.length ∙ sym c.named_length.ensures.0 ∙ c.if-named_length-eq0.true) in
    c.kind_of_outcome.ensures ∙ ap outcome_kind {y = or_failure (present_of g sc x)} c.present.ensures ∙ name_kind (long_in f n x) (present_of g sc x) none-there ∙ ap (λ (e : Expr). real_kind g sc e) (sym (var_form f L a h (plan_form f p Frm.Var c.at.ensures c.in-Var.is)).tree)

pub real_kind-returns-in-Unary : goal.real_kind-returns-in-Unary
real_kind-returns-in-Unary t c =
    let f = c.args.file.now in
    let T = c.args.tab.now in
    let kk = consts_of T in
    let fr = c.args.frame.now in
    let cl = fr.cells.now in
    let n = fr.node in
    let L = c.args.level in
    let a = c.args.at in
    let p = c.requires.0 in
    let h = plan_head f p in
    let g = globals_in f kk in
    let sc = scope_in f n false cl cl in
    c.real_kind.ensures ∙ ap (λ (e : Expr). real_kind g sc e) (sym (unary_form f L a h (plan_form f p Frm.Unary c.at.ensures c.in-Unary.is)).1.tree)

pub real_kind-returns-in-10-to-13 : goal.real_kind-returns-in-10-to-13
real_kind-returns-in-10-to-13 t c =
    let f = c.args.file.now in
    let T = c.args.tab.now in
    let kk = consts_of T in
    let fr = c.args.frame.now in
    let cl = fr.cells.now in
    let n = fr.node in
    let L = c.args.level in
    let a = c.args.at in
    let p = c.requires.0 in
    let h = plan_head f p in
    let g = globals_in f kk in
    let sc = scope_in f n false cl cl in
    c.real_kinds.ensures ∙ sym (arithmetic_code (get_or f (a + 1) 0) (binary_form f L a h (plan_form f p Frm.Binary c.at.ensures c.in-Binary.is)).0 _ (binary_form f L a h (plan_form f p Frm.Binary c.at.ensures c.in-Binary.is)).2 (λ l. omega arith) (omega arith)) ∙ ap (λ (e : Expr). real_kind g sc e) (sym (binary_form f L a h (plan_form f p Frm.Binary c.at.ensures c.in-Binary.is)).1.tree)

pub real_kind-returns-in_default-file : goal.real_kind-returns-in_default-file
real_kind-returns-in_default-file t c =
    let f = c.args.file.now in
    let T = c.args.tab.now in
    let kk = consts_of T in
    let fr = c.args.frame.now in
    let cl = fr.cells.now in
    let n = fr.node in
    let L = c.args.level in
    let a = c.args.at in
    let p = c.requires.0 in
    let h = plan_head f p in
    let g = globals_in f kk in
    let sc = scope_in f n false cl cl in
    sym (plain_code (get_or f (a + 1) 0) (binary_form f L a h (plan_form f p Frm.Binary c.at.ensures c.in-Binary.is)).0 _ (binary_form f L a h (plan_form f p Frm.Binary c.at.ensures c.in-Binary.is)).2 (omega arith)) ∙ ap (λ (e : Expr). real_kind g sc e) (sym (binary_form f L a h (plan_form f p Frm.Binary c.at.ensures c.in-Binary.is)).1.tree)

pub real_kind-returns-in_default-file-2 : goal.real_kind-returns-in_default-file-2
real_kind-returns-in_default-file-2 t c =
    let f = c.args.file.now in
    let T = c.args.tab.now in
    let kk = consts_of T in
    let fr = c.args.frame.now in
    let cl = fr.cells.now in
    let n = fr.node in
    let L = c.args.level in
    let a = c.args.at in
    let p = c.requires.0 in
    let h = plan_head f p in
    let g = globals_in f kk in
    let sc = scope_in f n false cl cl in
    sym (bits_code (get_or f (a + 1) 0) (binary_form f L a h (plan_form f p Frm.Binary c.at.ensures c.in-Binary.is)).0 _ (binary_form f L a h (plan_form f p Frm.Binary c.at.ensures c.in-Binary.is)).2 (λ l. omega arith)) ∙ ap (λ (e : Expr). real_kind g sc e) (sym (binary_form f L a h (plan_form f p Frm.Binary c.at.ensures c.in-Binary.is)).1.tree)

pub real_kind-returns-in-If : goal.real_kind-returns-in-If
real_kind-returns-in-If t c =
    let f = c.args.file.now in
    let T = c.args.tab.now in
    let kk = consts_of T in
    let fr = c.args.frame.now in
    let cl = fr.cells.now in
    let n = fr.node in
    let L = c.args.level in
    let a = c.args.at in
    let p = c.requires.0 in
    let h = plan_head f p in
    let g = globals_in f kk in
    let sc = scope_in f n false cl cl in
    let e = c.pass-c.ensures.next_is ∙ (one_tree f (L - 1) (a + 1) (plan_first f ((plan_parts f p ((if_form f L a h (plan_form f p Frm.If c.at.ensures c.in-If.is)))))).reads).1 in
    (rw e at c.real_kinds-in-If.ensures) ∙ ap (λ (e : Expr). real_kind g sc e) (sym (if_form f L a h (plan_form f p Frm.If c.at.ensures c.in-If.is)).tree)

pub real_kind-returns-in-Pre : goal.real_kind-returns-in-Pre
real_kind-returns-in-Pre t c =
    let f = c.args.file.now in
    let T = c.args.tab.now in
    let kk = consts_of T in
    let fr = c.args.frame.now in
    let cl = fr.cells.now in
    let n = fr.node in
    let L = c.args.level in
    let a = c.args.at in
    let p = c.requires.0 in
    let h = plan_head f p in
    let g = globals_in f kk in
    let sc = scope_in f n false cl cl in
    c.real_kind-in-Pre.ensures ∙ ap (λ (e : Expr). real_kind g sc e) (sym (pre_form f L a h (plan_form f p Frm.Pre c.at.ensures c.in-Pre.is)).tree)

pub real_kind-returns-in-Arrow : goal.real_kind-returns-in-Arrow
real_kind-returns-in-Arrow t c =
    let f = c.args.file.now in
    let T = c.args.tab.now in
    let kk = consts_of T in
    let fr = c.args.frame.now in
    let cl = fr.cells.now in
    let n = fr.node in
    let L = c.args.level in
    let a = c.args.at in
    let p = c.requires.0 in
    let h = plan_head f p in
    let g = globals_in f kk in
    let sc = scope_in f n false cl cl in
    c.real_kinds-in-Arrow.ensures ∙ ap (λ (e : Expr). real_kind g sc e) (sym (arrow_form f L a h (plan_form f p Frm.Arrow c.at.ensures c.in-Arrow.is)).tree)

pub real_kind-returns-in-Cast : goal.real_kind-returns-in-Cast
real_kind-returns-in-Cast t c =
    let f = c.args.file.now in
    let T = c.args.tab.now in
    let kk = consts_of T in
    let fr = c.args.frame.now in
    let cl = fr.cells.now in
    let n = fr.node in
    let L = c.args.level in
    let a = c.args.at in
    let p = c.requires.0 in
    let h = plan_head f p in
    let g = globals_in f kk in
    let sc = scope_in f n false cl cl in
    code_kind (kind_of c.kind_of_type.result) (get_or f (a + 1) 0) (cast_form f L a h (plan_form f p Frm.Cast c.at.ensures c.in-Cast.is)).0 (cast_form f L a h (plan_form f p Frm.Cast c.at.ensures c.in-Cast.is)).4 (cast_form f L a h (plan_form f p Frm.Cast c.at.ensures c.in-Cast.is)).2 c.kind_of_type.ensures ∙ ap (λ (e : Expr). real_kind g sc e) (sym (cast_form f L a h (plan_form f p Frm.Cast c.at.ensures c.in-Cast.is)).1.tree)

pub real_kind-returns-in-Call : goal.real_kind-returns-in-Call
real_kind-returns-in-Call t c =
    let f = c.args.file.now in
    let T = c.args.tab.now in
    let kk = consts_of T in
    let fr = c.args.frame.now in
    let cl = fr.cells.now in
    let n = fr.node in
    let L = c.args.level in
    let a = c.args.at in
    let p = c.requires.0 in
    let h = plan_head f p in
    let g = globals_in f kk in
    let sc = scope_in f n false cl cl in
    (rw c.from.ensures at c.call_kind.ensures) ∙ ap (λ (e : Expr). real_kind g sc e) (sym (call_form f L a h (plan_form f p Frm.Call c.at.ensures c.in-Call.is)).0.tree)

pub real_kind-returns-else-named_length-eq0 : goal.real_kind-returns-else-named_length-eq0
real_kind-returns-else-named_length-eq0 t c =
    let f = c.args.file.now in
    let fr = c.args.frame.now in
    let cl = fr.cells.now in
    let n = fr.node in
    let L = c.args.level in
    let a = c.args.at in
    let p = c.requires.0 in
    let h = plan_head f p in
    let g = globals_in f (consts_of c.args.tab.now) in
    let sc = scope_in f n false cl cl in
    let x = name_at f (a + 1) in
    let q = plan_name f p (plan_form f p Frm.Var c.at.ensures c.in-Var.is) in
    array_name_kind (long_in f n x) _ (λ e. c.if-named_length-eq0.false (c.named_length.ensures.0 ∙ q.named.cell.length ∙ e)) ∙ ap (λ (e : Expr). real_kind g sc e) (sym (var_form f L a h (plan_form f p Frm.Var c.at.ensures c.in-Var.is)).tree)

pub real_kind-returns-in_default : goal.real_kind-returns-in_default
real_kind-returns-in_default t c =
    let f = c.args.file.now in
    let T = c.args.tab.now in
    let kk = consts_of T in
    let fr = c.args.frame.now in
    let cl = fr.cells.now in
    let n = fr.node in
    let L = c.args.level in
    let a = c.args.at in
    let p = c.requires.0 in
    let h = plan_head f p in
    let g = globals_in f kk in
    let sc = scope_in f n false cl cl in
    by_form f (λ c e. ¬ (c ≡ 2) → ¬ (c ≡ 4) → ¬ (c ≡ 5) → ¬ (c ≡ 6) → ¬ (c ≡ 7) → ¬ (c ≡ 8) → ¬ (c ≡ 9) → ¬ (c ≡ 10) → ¬ (c ≡ 11) → not_real ≡ real_kind g sc e)
    (λ b n2 n4 n5 n6 n7 n8 n9 n10 n11. refl) (λ i n2 n4 n5 n6 n7 n8 n9 n10 n11. refl) (λ b n2 n4 n5 n6 n7 n8 n9 n10 n11. absurd (n2 refl)) (λ c n2 n4 n5 n6 n7 n8 n9 n10 n11. refl) (λ x n2 n4 n5 n6 n7 n8 n9 n10 n11. absurd (n4 refl))
    (λ op e n2 n4 n5 n6 n7 n8 n9 n10 n11. absurd (n5 refl)) (λ op l r n2 n4 n5 n6 n7 n8 n9 n10 n11. absurd (n6 refl)) (λ c t e n2 n4 n5 n6 n7 n8 n9 n10 n11. absurd (n7 refl)) (λ e n2 n4 n5 n6 n7 n8 n9 n10 n11. absurd (n8 refl))
    (λ a b n2 n4 n5 n6 n7 n8 n9 n10 n11. absurd (n9 refl)) (λ t e n2 n4 n5 n6 n7 n8 n9 n10 n11. absurd (n10 refl)) (λ k es n2 n4 n5 n6 n7 n8 n9 n10 n11. absurd (n11 refl)) (λ es n2 n4 n5 n6 n7 n8 n9 n10 n11. refl) (λ a i n2 n4 n5 n6 n7 n8 n9 n10 n11. refl) (λ es n2 n4 n5 n6 n7 n8 n9 n10 n11. refl) (λ k es n2 n4 n5 n6 n7 n8 n9 n10 n11. refl) (λ k e es n2 n4 n5 n6 n7 n8 n9 n10 n11. refl) L a h
    (λ e. c.in_default.not-Float (form_is Frm.Float c.at.ensures e)) (λ e. c.in_default.not-Var (form_is Frm.Var c.at.ensures e)) (λ e. c.in_default.not-Unary (form_is Frm.Unary c.at.ensures e)) (λ e. c.in_default.not-Binary (form_is Frm.Binary c.at.ensures e)) (λ e. c.in_default.not-If (form_is Frm.If c.at.ensures e)) (λ e. c.in_default.not-Pre (form_is Frm.Pre c.at.ensures e)) (λ e. c.in_default.not-Arrow (form_is Frm.Arrow c.at.ensures e)) (λ e. c.in_default.not-Cast (form_is Frm.Cast c.at.ensures e)) (λ e. c.in_default.not-Call (form_is Frm.Call c.at.ensures e))

pub real_kinds-real_kind-a-requires : goal.real_kinds-real_kind-a-requires
real_kinds-real_kind-a-requires t c =
    let f = c.args.file.now in
    let p = c.requires.0 in
    let z = c.requires.1 in
    let room = c.requires.2 in
    (omega arith, ((plan_first f p), z, (omega (arith, segs_first f p, room))))

pub real_kinds-pass-p-requires : goal.real_kinds-pass-p-requires
real_kinds-pass-p-requires t c =
    let f = c.args.file.now in
    let p = c.requires.0 in
    let room = c.requires.2 in
    let T = c.args.tab.now in
    (plan_passable f ((plan_first f p)) ((omega (arith, segs_first f p, room))), rows_room T _ p.program.table.long)

pub real_kinds-real_kind-b-requires : goal.real_kinds-real_kind-b-requires
real_kinds-real_kind-b-requires t c =
    let f = c.args.file.now in
    let L = c.args.level in
    let a = c.args.at in
    let p = c.requires.0 in
    let z = c.requires.1 in
    let room = c.requires.2 in
    let e = (c.pass-p.ensures.next_is ∙ (one_tree f L a (plan_first f p).reads).1) in
    (omega arith, (rw e ((plan_rest f p)), z, rw e ((omega (arith, segs_cons f L 1 a p.reads, room)))))

pub real_kinds-returns : goal.real_kinds-returns
real_kinds-returns t c =
    let f = c.args.file.now in
    let L = c.args.level in
    let a = c.args.at in
    let p = c.requires.0 in
    let e = (c.pass-p.ensures.next_is ∙ (one_tree f L a (plan_first f p).reads).1) in
    ap kind_of c.max.ensures ∙ greater_kind c.real_kind-a.result c.real_kind-b.result ∙ (λ i. join (c.real_kind-a.ensures i) ((rw e at c.real_kind-b.ensures) i))
