use mathlib.Core.List.{List}
use mathlib.Core.Path.{◌≡◌}
use Prim.Native.Nat.{ℕ, ◌-◌, ◌*◌}
use lib.ListN.{drop}
use Rattle.ol_spec.specs.Cell.{good_cells}
use Rattle.ol_tables.specs.Tables.{Tells}
use Rattle.ol_state.proofs.cells.good_cells.Given as goal

abbrev pub invariant-loop-i : goal.invariant-loop-i
invariant-loop-i l = (names : List ℕ) → Tells l.variants names → good_cells names l.n l.cells ≡ good_cells names (l.n - l.i) (drop (9 * l.i) l.cells)
