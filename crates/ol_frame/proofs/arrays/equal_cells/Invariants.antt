use mathlib.Core.Path.{◌≡◌}
use Prim.Native.Nat.{◌-◌}
use Rattle.ol_spec.specs.Cell.{values_of}
use Rattle.ol_spec.specs.Eval.{equal_cells}
use Rattle.ol_frame.proofs.Elements.{equal_from}
use Rattle.ol_frame.proofs.arrays.equal_cells.Given as goal

abbrev pub invariant-loop-i : goal.invariant-loop-i
invariant-loop-i l = equal_cells (values_of l.n l.left) (values_of l.n l.right) ≡ equal_from l.left l.right (l.n - l.i) l.i
