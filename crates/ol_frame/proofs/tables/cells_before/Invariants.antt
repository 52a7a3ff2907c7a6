use mathlib.Core.Path.{◌≡◌}
use Prim.Native.Nat.{◌*◌, ◌≤◌}
use Rattle.ol_tables.specs.Table.{tab_of}
use Rattle.ol_state.specs.Defaults.{widths_at}
use Rattle.ol_frame.proofs.tables.cells_before.Given as goal

abbrev pub invariant-loop-j : goal.invariant-loop-j
invariant-loop-j l = (l.cells ≡ widths_at (tab_of l.tab) l.k 0 l.j) × (l.cells ≤ 256 * l.j)
