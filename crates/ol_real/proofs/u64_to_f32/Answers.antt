use Rattle.std.proofs.Common.{refl, ◌∙◌, arith, le→leb}
use lib.Ieee.{in_float}
use Rattle.ol_spec.specs.Real.{of_int}
use Rattle.ol_real.proofs.Singles.{zeros_few, integer_kept, integer_single}
use Rattle.ol_real.proofs.u64_to_f32.Goals as goal

pub int_to_float-result : goal.int_to_float-result
unfolding in_float
int_to_float-result c = le→leb c.args.n 16777216 (omega arith)

pub overflow_sub-d : goal.overflow_sub-d
overflow_sub-d c = rw c.from-d.ensures (zeros_few c.args.n c.if-n-lt16777216.false c.ranges.n.fits)

pub nearest_single-requires : goal.nearest_single-requires
nearest_single-requires c = rw c.from-d.ensures (integer_kept c.args.n c.if-n-lt16777216.false c.ranges.n.fits)

pub returns-then-n-lt16777216 : goal.returns-then-n-lt16777216
unfolding of_int
returns-then-n-lt16777216 c = refl

pub returns-else-n-lt16777216 : goal.returns-else-n-lt16777216
returns-else-n-lt16777216 c = rw c.from-d.ensures at c.nearest_single.ensures ∙ integer_single c.args.n c.if-n-lt16777216.false c.ranges.n.fits
