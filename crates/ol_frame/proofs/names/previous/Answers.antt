use mathlib.Core.Path.{◌≡◌, refl, sym, ap, ◌∙◌}
use mathlib.Core.Bool.{Bool}
use mathlib.Core.Option.{none, some}
use Prim.Native.Nat.{◌+◌, ◌<◌}
use Rattle.ol_frame.proofs.Tabling.{const_room, const_value}
use native.Mathlib.Omega.{arith}
use borrow.Author.Tests.{true-eqb, false-eqb}
use Rattle.ol_spec.specs.Eval.{pre_of}
use Rattle.ol_spec.specs.declared.Outcome.TheVariants as Out
use Rattle.ol_spec.specs.declared.Cause.TheVariants as Why
use Rattle.ol_tables.specs.At.{expr_at}
use Rattle.ol_tables.proofs.Forms.{reads_in, var_form}
use Rattle.ol_frame.specs.Plans.{globals_in, scope_in}
use Rattle.ol_frame.proofs.Naming.{cell_room, known_room, was_variable, was_constant, was_variant, is_name, no_name, pre_is, pre_none}
use Rattle.ol_tables.specs.Table.{tab_of, consts_of}
use Rattle.ol_tables.specs.Tables.{name_cell_at}
use Rattle.ol_frame.proofs.names.previous.Goals as goal

pub returns-then-frame : goal.returns-then-frame
returns-then-frame c =
    let f = c.args.file.now in
    let T = c.args.tab.now in
    let k = consts_of T in
    let fr = c.args.frame.now in
    let b = fr.before.now in
    let n = fr.node in
    let a = c.args.at in
    let F = fr.first in
    let g = globals_in f k in
    let cl = scope_in f n F b b in
    let e : pre_of g cl F (expr_at f c.args.level a) ≡ Out.Failure Why.Cold = ap (λ (x : Bool). pre_of g cl x (expr_at f c.args.level a)) (c.if-frame.true) in
    sym e

pub is_at-requires : goal.is_at-requires
is_at-requires c =
    let f = c.args.file.now in
    let a = c.args.at in
    let p = c.requires.0 in
    reads_in f c.args.level a p.reads

pub overflow_add-at : goal.overflow_add-at
overflow_add-at c =
    let f = c.args.file.now in
    let a = c.args.at in
    let p = c.requires.0 in
    omega (arith, (var_form f c.args.level a p.reads (true-eqb _ _ c.if-not-is_at.ensures)).inside, c.well_formed)

pub slot_at-requires : goal.slot_at-requires
slot_at-requires c =
    let p = c.requires.0 in
    omega (arith, (p.named (true-eqb _ _ c.if-not-is_at.ensures)).long, (p.named (true-eqb _ _ c.if-not-is_at.ensures)).inside)

pub read_cell-requires : goal.read_cell-requires
read_cell-requires c =
    let f = c.args.file.now in
    let T = c.args.tab.now in
    let t = tab_of T in
    let k = consts_of T in
    let fr = c.args.frame.now in
    let b = fr.before.now in
    let n = fr.node in
    let a = c.args.at in
    let p = c.requires.0 in
    let s = c.in-Variable.s in
    let e = c.in-Variable.ensures.0 in
    let l : s < 3584 = omega (arith, c.in-Variable.ensures.0, c.in-Variable.ensures.1) in
    cell_room f t k n (a + 1) (p.named (true-eqb _ _ c.if-not-is_at.ensures)) s e b c.requires.1 l

pub read_cell-requires-in-Constant : goal.read_cell-requires-in-Constant
read_cell-requires-in-Constant c =
    let f = c.args.file.now in
    let T = c.args.tab.now in
    let t = tab_of T in
    let k = consts_of T in
    let fr = c.args.frame.now in
    let n = fr.node in
    let a = c.args.at in
    let p = c.requires.0 in
    let s = name_cell_at (tab_of T) (a + 1) in
    let i = c.in-Constant.i in
    omega (arith, c.consts_from.ensures, const_room T _ (known_room f t k n (a + 1) ((p.named (true-eqb _ _ c.if-not-is_at.ensures))) s refl (λ l. omega (arith, c.in-Constant.ensures.1)) c.in-Constant.ensures.2), c.in-Constant.ensures.0)

pub returns-in-Variable : goal.returns-in-Variable
returns-in-Variable c =
    let f = c.args.file.now in
    let T = c.args.tab.now in
    let t = tab_of T in
    let k = consts_of T in
    let fr = c.args.frame.now in
    let b = fr.before.now in
    let n = fr.node in
    let a = c.args.at in
    let F = fr.first in
    let p = c.requires.0 in
    let s = c.in-Variable.s in
    let e = c.in-Variable.ensures.0 in
    let l : s < 3584 = omega (arith, c.in-Variable.ensures.0, c.in-Variable.ensures.1) in
    let g = globals_in f k in
    let cl = scope_in f n F b b in
    ap Out.Value c.read_cell.ensures ∙ sym (pre_is g cl F (expr_at f c.args.level a) _ (some _) ((c.if-frame.false)) ((is_name f c.args.level a p.reads (true-eqb _ _ c.if-not-is_at.ensures))) (was_variable f t k n (a + 1) ((p.named (true-eqb _ _ c.if-not-is_at.ensures))) s e F b b l))

pub returns-in-Constant : goal.returns-in-Constant
returns-in-Constant c =
    let f = c.args.file.now in
    let T = c.args.tab.now in
    let t = tab_of T in
    let k = consts_of T in
    let fr = c.args.frame.now in
    let b = fr.before.now in
    let n = fr.node in
    let a = c.args.at in
    let F = fr.first in
    let p = c.requires.0 in
    let s = name_cell_at (tab_of T) (a + 1) in
    let i = c.in-Constant.i in
    let g = globals_in f k in
    let cl = scope_in f n F b b in
    ap Out.Value (c.read_cell-in-Constant.ensures ∙ const_value T _ (known_room f t k n (a + 1) ((p.named (true-eqb _ _ c.if-not-is_at.ensures))) s refl (λ l. omega (arith, c.in-Constant.ensures.1)) c.in-Constant.ensures.2) (omega (arith, c.consts_from.ensures, c.in-Constant.ensures.0))) ∙ sym (pre_is g cl F (expr_at f c.args.level a) _ (some _) ((c.if-frame.false)) ((is_name f c.args.level a p.reads (true-eqb _ _ c.if-not-is_at.ensures))) (was_constant f t k n (a + 1) ((p.named (true-eqb _ _ c.if-not-is_at.ensures))) s refl F b b (λ l. omega (arith, c.in-Constant.ensures.1)) c.in-Constant.ensures.2))

pub returns-in-Other : goal.returns-in-Other
returns-in-Other c =
    let f = c.args.file.now in
    let T = c.args.tab.now in
    let t = tab_of T in
    let k = consts_of T in
    let fr = c.args.frame.now in
    let b = fr.before.now in
    let n = fr.node in
    let a = c.args.at in
    let F = fr.first in
    let p = c.requires.0 in
    let s = name_cell_at (tab_of T) (a + 1) in
    let g = globals_in f k in
    let cl = scope_in f n F b b in
    sym (pre_is g cl F (expr_at f c.args.level a) _ none ((c.if-frame.false)) ((is_name f c.args.level a p.reads (true-eqb _ _ c.if-not-is_at.ensures))) (was_variant f t k n (a + 1) ((p.named (true-eqb _ _ c.if-not-is_at.ensures))) s refl F b b (λ l. omega (arith, c.in-Other.ensures))))

pub returns-then-not-is_at : goal.returns-then-not-is_at
returns-then-not-is_at c =
    let f = c.args.file.now in
    let T = c.args.tab.now in
    let k = consts_of T in
    let fr = c.args.frame.now in
    let b = fr.before.now in
    let n = fr.node in
    let a = c.args.at in
    let F = fr.first in
    let p = c.requires.0 in
    let g = globals_in f k in
    let cl = scope_in f n F b b in
    sym (pre_none g cl F (expr_at f c.args.level a) ((c.if-frame.false)) (no_name f c.args.level a p.reads (false-eqb _ _ c.if-not-is_at.ensures)))
