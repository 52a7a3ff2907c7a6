use mathlib.Core.Path.{◌≡◌}
use Prim.Native.Nat.{◌*◌, ◌≤◌}
use Rattle.ol_frame.specs.Stores.{cells_under_all}
use Rattle.ol_tables.specs.Table.{tab_of}
use Rattle.ol_frame.proofs.copies.named_cells.Given as goal

abbrev pub invariant-loop-i : goal.invariant-loop-i
invariant-loop-i l = (l.q ≡ cells_under_all (tab_of l.tab) l.k l.at l.i) × (l.q ≤ 256 * l.i)
