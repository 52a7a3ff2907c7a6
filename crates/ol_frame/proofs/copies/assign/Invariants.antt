use mathlib.Core.Path.{◌≡◌}
use lib.ListN.{length}
use Rattle.ol_frame.specs.Stores.{cells_under_all}
use Rattle.ol_tables.specs.Table.{tab_of, rows_of}
use Rattle.ol_frame.proofs.Storing.{AssignedTo}
use Rattle.ol_frame.proofs.copies.assign.Given as goal

abbrev pub invariant-loop-i : goal.invariant-loop-i
invariant-loop-i l =
    (length l.cells ≡ length l.initial.cells) × (l.q ≡ cells_under_all (tab_of l.tab) l.k l.at l.i) × AssignedTo (tab_of l.tab) (rows_of l.tab) l.k l.at l.n l.i l.from l.initial.cells l.cells
