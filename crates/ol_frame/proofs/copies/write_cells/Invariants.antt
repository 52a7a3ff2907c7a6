use mathlib.Core.Path.{◌≡◌}
use mathlib.Core.List.{◌++◌}
use Prim.Native.Nat.{◌*◌}
use lib.ListN.{drop}
use Rattle.ol_spec.specs.Cell.{cells, values_of}
use Rattle.ol_frame.proofs.copies.write_cells.Given as goal

abbrev pub invariant-loop-i : goal.invariant-loop-i
invariant-loop-i l = l.to ≡ cells (values_of l.i l.from) ++ drop (9 * l.i) l.initial.to
