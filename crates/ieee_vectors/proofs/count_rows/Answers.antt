use Prim.Native.Nat.{◌/◌}
use lib.ListN.{length}
use native.Mathlib.Omega.{arith}
use Rattle.ieee_vectors.proofs.Laws.{right_most, counted_rows}
use Rattle.ieee_vectors.proofs.count_rows.Goals as goal

pub overflow_sub-others : goal.overflow_sub-others
overflow_sub-others c = omega (arith, right_most c.args.text.now (length c.args.text.now / 54), c.compare_rows-c.ensures.count)

pub returns : goal.returns
returns c = counted_rows c.args.text.now _ c.compare_rows-c.ensures.count (omega (arith, c.from.ensures))
