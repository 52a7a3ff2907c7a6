use mathlib.Core.Path.{refl, sym, ap, ◌∙◌}
use mathlib.Core.Bool.{false}
use native.Mathlib.Omega.{arith}
use Prim.Native.Nat.{◌<◌}
use Rattle.ol_spec.specs.Eval.{or_failure}
use Rattle.ol_spec.specs.declared.Outcome.TheVariants as Out
use Rattle.ol_tables.specs.Table.{tab_of, consts_of}
use Rattle.ol_tables.specs.Tables.{name_cell_at}
use Rattle.ol_frame.proofs.Naming.{cell_room, known_room, is_variable, is_constant, is_variant_lem}
use Rattle.ol_frame.proofs.Tabling.{const_room, const_value}
use Rattle.ol_frame.proofs.names.present.Goals as goal

pub read_cell-requires : goal.read_cell-requires
read_cell-requires c =
    let t = c.args.tab.now in
    let fr = c.args.frame.now in
    let l : c.in-Variable.s < 3584 = omega (arith, c.in-Variable.ensures.0, c.in-Variable.ensures.1) in
    cell_room c.args.file.now (tab_of t) (consts_of t) fr.node c.args.at c.requires.0 c.in-Variable.s c.in-Variable.ensures.0 fr.cells.now c.requires.1 l

pub read_cell-requires-in-Constant : goal.read_cell-requires-in-Constant
read_cell-requires-in-Constant c =
    let t = c.args.tab.now in
    let s = name_cell_at (tab_of t) c.args.at in
    let room = known_room c.args.file.now (tab_of t) (consts_of t) c.args.frame.now.node c.args.at c.requires.0 s refl (λ l. omega (arith, c.in-Constant.ensures.1)) c.in-Constant.ensures.2 in
    omega (arith, c.consts_from.ensures, const_room t _ room, c.in-Constant.ensures.0)

pub returns-in-Variable : goal.returns-in-Variable
returns-in-Variable c =
    let t = c.args.tab.now in
    let fr = c.args.frame.now in
    let l : c.in-Variable.s < 3584 = omega (arith, c.in-Variable.ensures.0, c.in-Variable.ensures.1) in
    ap Out.Value c.read_cell.ensures ∙ ap or_failure (sym (is_variable c.args.file.now (tab_of t) (consts_of t) fr.node c.args.at c.requires.0 c.in-Variable.s c.in-Variable.ensures.0 false fr.cells.now fr.cells.now l))

pub returns-in-Constant : goal.returns-in-Constant
returns-in-Constant c =
    let f = c.args.file.now in
    let t = c.args.tab.now in
    let fr = c.args.frame.now in
    let s = name_cell_at (tab_of t) c.args.at in
    let room = known_room f (tab_of t) (consts_of t) fr.node c.args.at c.requires.0 s refl (λ l. omega (arith, c.in-Constant.ensures.1)) c.in-Constant.ensures.2 in
    ap Out.Value (c.read_cell-in-Constant.ensures ∙ const_value t _ room (omega (arith, c.consts_from.ensures, c.in-Constant.ensures.0)))
    ∙ ap or_failure (sym (is_constant f (tab_of t) (consts_of t) fr.node c.args.at c.requires.0 s refl false fr.cells.now fr.cells.now (λ l. omega (arith, c.in-Constant.ensures.1)) c.in-Constant.ensures.2))

pub returns-in-Other : goal.returns-in-Other
returns-in-Other c =
    let f = c.args.file.now in
    let t = c.args.tab.now in
    let fr = c.args.frame.now in
    ap Out.Value c.variant.ensures ∙ ap or_failure (sym (is_variant_lem f (tab_of t) (consts_of t) fr.node c.args.at c.requires.0 _ refl false fr.cells.now fr.cells.now (λ l. omega (arith, c.in-Other.ensures))))
