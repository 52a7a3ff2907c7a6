use Prim.Native.Nat.{◌*◌}
use native.Mathlib.Omega.{arith}
use Rattle.ol_frame.proofs.Storing.{copied_part}
use Rattle.ol_frame.proofs.copies.copy_cells.Goals as goal

pub overflow_mul-a : goal.overflow_mul-a
overflow_mul-a c =
    omega (arith, c.requires)

pub overflow_mul-b : goal.overflow_mul-b
overflow_mul-b c =
    omega (arith, c.requires)

pub slice_bounds-copy-count : goal.slice_bounds-copy-count
slice_bounds-copy-count c =
    omega (arith, c.requires)

pub slice_bounds-copy-start : goal.slice_bounds-copy-start
slice_bounds-copy-start c =
    omega (arith, c.requires)

pub slice_bounds-copy-end : goal.slice_bounds-copy-end
slice_bounds-copy-end c =
    omega (arith, c.requires)

pub slice_bounds-copy-count-2 : goal.slice_bounds-copy-count-2
slice_bounds-copy-count-2 c =
    omega (arith, c.requires)

pub slice_bounds-copy-start-2 : goal.slice_bounds-copy-start-2
slice_bounds-copy-start-2 c =
    omega (arith, c.requires)

pub slice_bounds-copy-end-2 : goal.slice_bounds-copy-end-2
slice_bounds-copy-end-2 c =
    omega (arith, c.requires)

pub returns : goal.returns
returns c =
    copied_part (9 * c.args.first) (9 * c.args.last) c.args.from.now c.args.to.now _ (omega (arith, c.requires)) (omega (arith, c.requires)) (omega (arith, c.requires)) c.copy.ensures
