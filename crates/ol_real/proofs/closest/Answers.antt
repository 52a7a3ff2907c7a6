use Rattle.std.proofs.Common.{arith}
use Rattle.ol_real.proofs.Singles.{unit_pos, twice_small, whole_small, low_is, high_is, tie_is}
use Rattle.ol_real.proofs.closest.Goals as goal

pub overflow_sub-twice : goal.overflow_sub-twice
overflow_sub-twice c = unit_pos c.args.m c.args.d c.requires.0 c.requires.1

pub overflow_mul-twice : goal.overflow_mul-twice
overflow_mul-twice c = record { fits = twice_small c.args.m c.args.d c.requires.0 c.requires.1 }

pub overflow_add-result : goal.overflow_add-result
overflow_add-result c = omega (arith, whole_small c.args.m c.args.d c.requires.0 c.requires.1 c.ranges.m.fits)

pub overflow_add-result-else-unit-twice : goal.overflow_add-result-else-unit-twice
overflow_add-result-else-unit-twice c = omega (arith, whole_small c.args.m c.args.d c.requires.0 c.requires.1 c.ranges.m.fits)

pub returns-then-twice-unit : goal.returns-then-twice-unit
returns-then-twice-unit c = low_is c.args.m c.args.d c.requires.0 c.requires.1 c.if-twice-unit.true

pub returns-then-unit-twice : goal.returns-then-unit-twice
returns-then-unit-twice c = high_is c.args.m c.args.d c.requires.0 c.requires.1 c.if-unit-twice.true

pub returns-else-unit-twice : goal.returns-else-unit-twice
returns-else-unit-twice c = tie_is c.args.m c.args.d c.requires.0 c.requires.1 c.if-twice-unit.false c.if-unit-twice.false
