use mathlib.Core.Path.{◌≡◌, ap, subst, ◌∙◌}
use native.Mathlib.Omega.{arith}
use Prim.Native.Nat.{ℕ, max}
use Rattle.ol_spec.specs.Cell.{values_of}
use Rattle.ol_tables.specs.Table.{tab_of, rows_of}
use Rattle.ol_state.specs.Defaults.{width_of}
use Rattle.ol_frame.specs.Stores.{Stores}
use Rattle.ol_frame.proofs.Storing.{array_stored, cells_room}
use Rattle.ol_frame.proofs.copies.store_name.Goals as goal
use Rattle.ol_frame.proofs.copies.store_name.Goals.{After-cells_for-n}

-- how many cells it has
count_is : (c : After-cells_for-n) → c.cells_for-n.result ≡ width_of (tab_of c.args.tab.now) c.args.k c.defined_at-s.result
count_is c = c.cells_for-n.ensures ∙ ap (λ m. max m 1) c.length_of.ensures.0

pub store_cells-requires : goal.store_cells-requires
store_cells-requires c =
    let n = count_is (goal.at.store_cells-requires c).After-cells_for-n in (
      omega (arith, n, ap (width_of (tab_of c.args.tab.now) c.args.k) c.defined_at-s.ensures.0, c.requires.1),
      omega (arith, n, cells_room (tab_of c.args.tab.now) (rows_of c.args.tab.now) c.args.k c.args.at c.args.cells.now c.requires.0 c.defined_at-s.result c.first_cell.result c.defined_at-s.ensures.0 c.first_cell.ensures),
    )

pub returns : goal.returns
returns c =
    let t = tab_of c.args.tab.now in
    let r = rows_of c.args.tab.now in
    let n = count_is (goal.at.returns c).After-cells_for-n in
    let e = n ∙ ap (width_of t c.args.k) c.defined_at-s.ensures.0 in (
      e,
      subst (λ (m : ℕ). Stores t r c.args.k c.args.at (values_of m c.args.from.now) c.args.cells.now c.store_cells.new.cells) e
          (array_stored t r c.args.k c.args.at c.defined_at-s.result c.code_of.result c.first_cell.result c.cells_for-n.result c.args.from.now c.args.cells.now c.store_cells.new.cells c.requires.0 c.defined_at-s.ensures.0 c.code_of.ensures c.first_cell.ensures n c.store_cells.ensures),
    )
