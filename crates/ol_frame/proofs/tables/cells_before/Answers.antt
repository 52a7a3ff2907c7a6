use mathlib.Core.Path.{◌≡◌, sym, ap, ◌∙◌}
use native.Mathlib.Omega.{arith}
use Prim.Native.Nat.{◌+◌}
use Rattle.ol_tables.specs.Table.{tab_of}
use Rattle.ol_state.specs.Defaults.{width_of, widths_at}
use Rattle.ol_frame.proofs.Tabling.{count_none, count_last}
use Rattle.ol_frame.proofs.tables.cells_before.Goals as goal

pub loop-j-init : goal.loop-j-init
loop-j-init c = (sym (count_none (tab_of c.args.tab.now) c.args.k 0), omega arith)

pub overflow_add-cells : goal.overflow_add-cells
overflow_add-cells c = omega (arith, c.loop-j.invariant.1, c.loop-j-test.true, c.requires.2, c.cells_for-cells.ensures, c.length_of.ensures.1)

pub loop-j-preserved : goal.loop-j-preserved
loop-j-preserved c =
    let t = tab_of c.args.tab.now in
    let j = c.loop-j.j in
    let z : 0 + j ≡ j = omega arith in
    let last = count_last t c.args.k 0 j ∙ ap (λ m. widths_at t c.args.k 0 j + width_of t c.args.k m) z in
    (omega (arith, c.loop-j.invariant.0, c.cells_for-cells.ensures, c.length_of.ensures.0, last), omega (arith, c.loop-j.invariant.1, c.cells_for-cells.ensures, c.length_of.ensures.1))

pub returns : goal.returns
returns c =
    let e : c.loop-j.j ≡ c.args.i = omega arith in
    c.loop-j.invariant.0 ∙ ap (widths_at (tab_of c.args.tab.now) c.args.k 0) e
