use mathlib.Core.Path.{◌≡◌}
use lib.ListN.{length}
use Rattle.ol_frame.specs.Stores.{StoresCells}
use Rattle.ol_frame.proofs.copies.store_cells.Given as goal

abbrev pub invariant-loop-i : goal.invariant-loop-i
invariant-loop-i l = (length l.cells ≡ length l.initial.cells) × StoresCells l.code l.first l.i l.from l.initial.cells l.cells
