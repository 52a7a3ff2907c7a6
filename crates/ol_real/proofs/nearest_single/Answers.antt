use lib.Ieee.{binary32}
use Rattle.std.proofs.Common.{le_of_lt}
use Rattle.ol_real.proofs.Singles.{no_nan_below, bits_small, bits_nearest, bits_infinite}
use Rattle.ol_real.proofs.nearest_single.Goals as goal

pub overflow_add-bits : goal.overflow_add-bits
overflow_add-bits c = record { fits = bits_small c.args.m c.args.d c.args.k c.closest.result c.requires c.closest.ensures }

pub float_from_bits-result : goal.float_from_bits-result
float_from_bits-result c = no_nan_below binary32 _ (le_of_lt c.if-bits-lt2139095040.true)

pub returns-then-bits-lt2139095040 : goal.returns-then-bits-lt2139095040
returns-then-bits-lt2139095040 c = bits_nearest c.args.m c.args.d c.args.k c.closest.result c.requires c.closest.ensures c.if-bits-lt2139095040.true

pub returns-else-bits-lt2139095040 : goal.returns-else-bits-lt2139095040
returns-else-bits-lt2139095040 c = bits_infinite c.args.m c.args.d c.args.k c.closest.result c.requires c.closest.ensures c.if-bits-lt2139095040.false
