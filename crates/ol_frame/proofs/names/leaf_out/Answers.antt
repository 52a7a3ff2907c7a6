use mathlib.Core.Path.{◌≡◌, refl, sym, ap, ◌∙◌}
use mathlib.Core.Logic.{inl, inr}
use Prim.Native.Nat.{ℕ, ◌+◌, ◌<◌, ◌^◌}
use lib.Signed.{mag}
use mir.Syntax.{w64}
use mir.Facts.{to_z-of_z}
use borrow.Author.Rules.{sfits_of}
use Rattle.ol_spec.specs.declared.Value.TheVariants as Val
use native.Mathlib.Omega.{arith}
use lib.ListN.{take, drop}
use Rattle.ol_spec.specs.Syntax.{Expr}
use Rattle.ol_spec.specs.Eval.{eval}
use Rattle.ol_spec.specs.Cell.{value_by}
use Rattle.ol_spec.specs.Numbers.{number_of}
use Rattle.ol_spec.specs.declared.Outcome.TheVariants as Out
use Rattle.ol_spec.specs.declared.Cause.TheVariants as Why
use Rattle.ol_tables.proofs.Forms.{reads_in, reads_deep, bool_form, int_form, float_form, char_form, var_form, pre_form, by_form}
use Rattle.ol_tables.specs.declared.form.Form.TheVariants as Frm
use Rattle.ol_tables.proofs.FormLaws.{form_is}
use Rattle.ol_frame.specs.Plans.{eval_in, Leaf}
use Rattle.ol_frame.proofs.Naming.{value_at_lem}
use Rattle.ol_frame.proofs.Planning.{plan_head, plan_form, plan_name, plan_looked}
use Rattle.ol_tables.specs.Table.{consts_of}
use Rattle.ol_frame.proofs.names.leaf_out.Goals as goal

pub at-requires : goal.at-requires
at-requires c =
    let f = c.args.file.now in
    let L = c.args.level in
    let a = c.args.at in
    let p = c.requires.0 in
    let h = plan_head f p in
    reads_in f L a h

pub overflow_add-p : goal.overflow_add-p
overflow_add-p c =
    let f = c.args.file.now in
    let L = c.args.level in
    let a = c.args.at in
    let p = c.requires.0 in
    let h = plan_head f p in
    omega (arith, reads_in f L a h, c.well_formed)

pub bounds-file-p : goal.bounds-file-p
bounds-file-p c =
    let f = c.args.file.now in
    let L = c.args.level in
    let a = c.args.at in
    let p = c.requires.0 in
    let h = plan_head f p in
    omega (arith, (bool_form f L a h (plan_form f p Frm.Bool c.at.ensures c.in-Bool.is)).0.inside)

pub read_cell-requires : goal.read_cell-requires
read_cell-requires c =
    let f = c.args.file.now in
    let L = c.args.level in
    let a = c.args.at in
    let p = c.requires.0 in
    let h = plan_head f p in
    elim c.in-Int.is [ inl e ↦ (int_form f L a h (plan_form f p Frm.Int c.at.ensures e)).inside | inr e ↦ (float_form f L a h (plan_form f p Frm.Float c.at.ensures e)).inside ]

pub bounds-file-p-in-Char : goal.bounds-file-p-in-Char
bounds-file-p-in-Char c =
    let f = c.args.file.now in
    let L = c.args.level in
    let a = c.args.at in
    let p = c.requires.0 in
    let h = plan_head f p in
    omega (arith, (char_form f L a h (plan_form f p Frm.Char c.at.ensures c.in-Char.is)).inside)

pub present-requires : goal.present-requires
present-requires c =
    let f = c.args.file.now in
    let p = c.requires.0 in
    (plan_name f p (plan_form f p Frm.Var c.at.ensures c.in-Var.is), c.requires.1)

pub overflow_sub-level : goal.overflow_sub-level
overflow_sub-level c =
    let f = c.args.file.now in
    let L = c.args.level in
    let a = c.args.at in
    let p = c.requires.0 in
    let h = plan_head f p in
    reads_deep f L a h

pub previous-requires : goal.previous-requires
previous-requires c =
    let f = c.args.file.now in
    let p = c.requires.0 in
    (plan_looked f p (plan_form f p Frm.Pre c.at.ensures c.in-Pre.is), c.requires.2)

pub returns-in-Bool : goal.returns-in-Bool
unfolding eval
returns-in-Bool c =
    let f = c.args.file.now in
    let T = c.args.tab.now in
    let k = consts_of T in
    let fr = c.args.frame.now in
    let cl = fr.cells.now in
    let b = fr.before.now in
    let n = fr.node in
    let F = fr.first in
    let L = c.args.level in
    let a = c.args.at in
    let p = c.requires.0 in
    let h = plan_head f p in
    λ seg. ap (λ (e : Expr). (eval_in f k n F cl b e seg).out) (sym (bool_form f L a h (plan_form f p Frm.Bool c.at.ensures c.in-Bool.is)).0.tree)

pub returns-in-Int : goal.returns-in-Int
unfolding eval
returns-in-Int c =
    let f = c.args.file.now in
    let T = c.args.tab.now in
    let k = consts_of T in
    let fr = c.args.frame.now in
    let cl = fr.cells.now in
    let b = fr.before.now in
    let n = fr.node in
    let F = fr.first in
    let L = c.args.level in
    let a = c.args.at in
    let p = c.requires.0 in
    let h = plan_head f p in
    λ seg. elim c.in-Int.is [
      | inl e ↦ ap Out.Value (c.read_cell.ensures ∙ value_at_lem f a (reads_in f L a h) ∙ ap (λ (t : ℕ). value_by t (number_of 0 (take 8 (drop (a + 1) f)))) (plan_form f p Frm.Int c.at.ensures e)) ∙ ap (λ (e : Expr). (eval_in f k n F cl b e seg).out) (sym (int_form f L a h (plan_form f p Frm.Int c.at.ensures e)).tree)
      | inr e ↦ ap Out.Value (c.read_cell.ensures ∙ value_at_lem f a (reads_in f L a h) ∙ ap (λ (t : ℕ). value_by t (number_of 0 (take 8 (drop (a + 1) f)))) (plan_form f p Frm.Float c.at.ensures e)) ∙ ap (λ (e : Expr). (eval_in f k n F cl b e seg).out) (sym (float_form f L a h (plan_form f p Frm.Float c.at.ensures e)).tree)
    ]

pub returns-in-Char : goal.returns-in-Char
unfolding eval
returns-in-Char c =
    let f = c.args.file.now in
    let T = c.args.tab.now in
    let k = consts_of T in
    let fr = c.args.frame.now in
    let cl = fr.cells.now in
    let b = fr.before.now in
    let n = fr.node in
    let F = fr.first in
    let L = c.args.level in
    let a = c.args.at in
    let p = c.requires.0 in
    let h = plan_head f p in
    let fit : mag c.from.result < 2 ^ 63 = rw c.from.ensures (omega (arith, c.type_inv.file (a + 1))) in
    λ seg. ap (λ x. Out.Value (Val.Int x)) (to_z-of_z {w = w64} (sfits_of fit) ∙ c.from.ensures) ∙ ap (λ (e : Expr). (eval_in f k n F cl b e seg).out) (sym (char_form f L a h (plan_form f p Frm.Char c.at.ensures c.in-Char.is)).tree)

pub returns-in-Var : goal.returns-in-Var
unfolding eval
returns-in-Var c =
    let f = c.args.file.now in
    let T = c.args.tab.now in
    let k = consts_of T in
    let fr = c.args.frame.now in
    let cl = fr.cells.now in
    let b = fr.before.now in
    let n = fr.node in
    let F = fr.first in
    let L = c.args.level in
    let a = c.args.at in
    let p = c.requires.0 in
    let h = plan_head f p in
    λ seg. c.present.ensures ∙ ap (λ (e : Expr). (eval_in f k n F cl b e seg).out) (sym (var_form f L a h (plan_form f p Frm.Var c.at.ensures c.in-Var.is)).tree)

pub returns-in-Pre : goal.returns-in-Pre
unfolding eval
returns-in-Pre c =
    let f = c.args.file.now in
    let T = c.args.tab.now in
    let k = consts_of T in
    let fr = c.args.frame.now in
    let cl = fr.cells.now in
    let b = fr.before.now in
    let n = fr.node in
    let F = fr.first in
    let L = c.args.level in
    let a = c.args.at in
    let p = c.requires.0 in
    let h = plan_head f p in
    λ seg. c.previous.ensures ∙ ap (λ (e : Expr). (eval_in f k n F cl b e seg).out) (sym (pre_form f L a h (plan_form f p Frm.Pre c.at.ensures c.in-Pre.is)).tree)

pub returns-in_default : goal.returns-in_default
unfolding eval
returns-in_default c =
    let f = c.args.file.now in
    let T = c.args.tab.now in
    let k = consts_of T in
    let fr = c.args.frame.now in
    let cl = fr.cells.now in
    let b = fr.before.now in
    let n = fr.node in
    let F = fr.first in
    let L = c.args.level in
    let a = c.args.at in
    let p = c.requires.0 in
    let h = plan_head f p in
    let lf = c.requires.3 in
    λ seg. by_form f (λ t e. Leaf t → ¬ (t ≡ 0) → ¬ (t ≡ 1) → ¬ (t ≡ 2) → ¬ (t ≡ 3) → ¬ (t ≡ 4) → ¬ (t ≡ 8) → Out.Failure Why.Other ≡ (eval_in f k n F cl b e seg).out)
    (λ b l n0 n1 n2 n3 n4 n8. absurd (n0 refl)) (λ i l n0 n1 n2 n3 n4 n8. absurd (n1 refl)) (λ b l n0 n1 n2 n3 n4 n8. absurd (n2 refl)) (λ c l n0 n1 n2 n3 n4 n8. absurd (n3 refl)) (λ x l n0 n1 n2 n3 n4 n8. absurd (n4 refl))
    (λ op e l n0 n1 n2 n3 n4 n8. absurd (l.no_unary refl)) (λ op x y l n0 n1 n2 n3 n4 n8. absurd (l.no_binary refl)) (λ c t e l n0 n1 n2 n3 n4 n8. absurd (l.no_if refl)) (λ e l n0 n1 n2 n3 n4 n8. absurd (n8 refl))
    (λ a b l n0 n1 n2 n3 n4 n8. absurd (l.no_arrow refl)) (λ t e l n0 n1 n2 n3 n4 n8. absurd (l.no_cast refl)) (λ k es l n0 n1 n2 n3 n4 n8. absurd (l.no_call refl)) (λ es l n0 n1 n2 n3 n4 n8. refl)
    (λ a i l n0 n1 n2 n3 n4 n8. absurd (l.no_index refl)) (λ es l n0 n1 n2 n3 n4 n8. refl) (λ k es l n0 n1 n2 n3 n4 n8. absurd (l.no_iterator refl)) (λ k e es l n0 n1 n2 n3 n4 n8. absurd (l.no_iterator refl)) L a h lf
    (λ e. c.in_default.not-Bool (form_is Frm.Bool c.at.ensures e)) (λ e. c.in_default.not-Int (form_is Frm.Int c.at.ensures e)) (λ e. c.in_default.not-Float (form_is Frm.Float c.at.ensures e))
    (λ e. c.in_default.not-Char (form_is Frm.Char c.at.ensures e)) (λ e. c.in_default.not-Var (form_is Frm.Var c.at.ensures e)) (λ e. c.in_default.not-Pre (form_is Frm.Pre c.at.ensures e))
