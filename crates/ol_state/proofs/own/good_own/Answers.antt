use Prim.Native.Nat.{◌*◌}
use mathlib.Core.Bool.{not}
use mathlib.Core.Path.{◌≡◌, sym, ap, ap₂, ◌∙◌}
use native.Mathlib.Omega.{arith}
use lib.ListN.{take, drop, length-drop}
use borrow.Author.Tests.{le-leb, lt-leb, eq-eqb, ne_eqb}
use Rattle.ol_spec.specs.Lists.{same}
use Rattle.ol_spec.specs.Cell.{good_cells}
use Rattle.ol_state.specs.Defaults.{width_at, defaults_at}
use Rattle.ol_tables.proofs.Lending.{tail_all}
use Rattle.ol_state.proofs.Judged.{own_defaults, own_started, own_cells_lem, own_byte}
use Rattle.ol_state.proofs.own.good_own.Goals as goal
use Rattle.ol_state.proofs.own.good_own.Goals.{then-started-le1, else-started-le1}

pub bounds-r-0 : goal.bounds-r-0
bounds-r-0 c =
    omega (arith, c.requires.2)

pub slice_bounds-good_cells-count : goal.slice_bounds-good_cells-count
slice_bounds-good_cells-count c =
    omega (arith, c.requires.2)

pub slice_bounds-good_cells-start : goal.slice_bounds-good_cells-start
slice_bounds-good_cells-start c =
    omega (arith, c.requires.2)

pub slice_bounds-good_cells-end : goal.slice_bounds-good_cells-end
slice_bounds-good_cells-end c =
    omega (arith, c.requires.2)

pub good_cells-requires : goal.good_cells-requires
good_cells-requires c =
    let r = c.args.r.now in
    let tail = tail_all 1 c.args.r.now in
    rw tail (omega (arith, c.requires.2, c.cells_of.ensures.0, c.requires.1, length-drop 1 r))

pub slice_bounds-are_defaults-count : goal.slice_bounds-are_defaults-count
slice_bounds-are_defaults-count c =
    omega (arith, c.requires.2)

pub slice_bounds-are_defaults-start : goal.slice_bounds-are_defaults-start
slice_bounds-are_defaults-start c =
    omega (arith, c.requires.2)

pub slice_bounds-are_defaults-end : goal.slice_bounds-are_defaults-end
slice_bounds-are_defaults-end c =
    omega (arith, c.requires.2)

pub are_defaults-requires : goal.are_defaults-requires
are_defaults-requires c =
    let r = c.args.r.now in
    let tail = tail_all 1 c.args.r.now in
    (c.requires.0, rw tail (omega (arith, c.requires.2, length-drop 1 r)))

pub returns-then-started-ne0 : goal.returns-then-started-ne0
returns-then-started-ne0 c =
    let r = c.args.r.now in
    let n = width_at c.args.tab.now c.args.k in
    let ds = defaults_at c.args.tab.now c.args.k in
    λ names tells.
    elim c.if-started-le1.branch [
      | then-started-le1 w ↦
          let g : good_cells names n (drop 1 r) ≡ _ = ap₂ (good_cells names) (sym (w.cells_of.ensures.0 ∙ c.requires.1)) (sym (tail_all 1 r)) ∙ sym (w.good_cells.ensures names tells) ∙ sym w.value-is ∙ c.if-good_cells.true in
          let z = ne_eqb _ _ c.if-started-ne0.true in
          ap not z ∙ own_started names ds n r (le-leb _ _ w.if-started-le1.true) g z
      | else-started-le1 w ↦ let e = lt-leb _ _ w.if-started-le1.false in let q = sym c.if-good_cells.true ∙ w.value-is ∙ e in cc
    ]

pub returns-else-started-ne0 : goal.returns-else-started-ne0
returns-else-started-ne0 c =
    let r = c.args.r.now in
    let n = width_at c.args.tab.now c.args.k in
    let ds = defaults_at c.args.tab.now c.args.k in
    λ names tells.
    elim c.if-started-le1.branch [
      | then-started-le1 w ↦
          let g : good_cells names n (drop 1 r) ≡ _ = ap₂ (good_cells names) (sym (w.cells_of.ensures.0 ∙ c.requires.1)) (sym (tail_all 1 r)) ∙ sym (w.good_cells.ensures names tells) ∙ sym w.value-is ∙ c.if-good_cells.true in
          c.are_defaults.ensures ∙ ap (λ l. same (take (9 * n) l) ds) (tail_all 1 r) ∙ own_defaults names ds n r (le-leb _ _ w.if-started-le1.true) g (eq-eqb _ _ c.if-started-ne0.false)
      | else-started-le1 w ↦ let e = lt-leb _ _ w.if-started-le1.false in let q = sym c.if-good_cells.true ∙ w.value-is ∙ e in cc
    ]

pub returns-else-good_cells : goal.returns-else-good_cells
returns-else-good_cells c =
    let r = c.args.r.now in
    let n = width_at c.args.tab.now c.args.k in
    let ds = defaults_at c.args.tab.now c.args.k in
    λ names tells.
    elim c.if-started-le1.branch [
      | then-started-le1 w ↦
          let g : good_cells names n (drop 1 r) ≡ _ = ap₂ (good_cells names) (sym (w.cells_of.ensures.0 ∙ c.requires.1)) (sym (tail_all 1 r)) ∙ sym (w.good_cells.ensures names tells) ∙ sym w.value-is ∙ c.if-good_cells.false in
          c.if-good_cells.false ∙ own_cells_lem names ds n r (le-leb _ _ w.if-started-le1.true) g
      | else-started-le1 w ↦ c.if-good_cells.false ∙ own_byte names ds n r (lt-leb _ _ w.if-started-le1.false)
    ]
