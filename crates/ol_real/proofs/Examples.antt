-- Executed examples: each is a result that the definition demands, found by running the name that has it.
use Rattle.std.proofs.Common.{◌-◌, ◌^◌, true, false, pos, negsuc, lit<}
use lib.Ieee.{Float, nan, inf, fin, add, sub, mul, div, to_signed, lt, eq, of_bits}
use lib.Ieee as Ieee
use Rattle.ol_spec.specs.Real.{add_r, sub_r, mul_r, div_r, of_int, round_single, truncate, eq_r, lt_r, from_bits}
use Rattle.ol_real.specs.Ieee754.{single, double, Sum, Difference, Product, Quotient, FromInt, Converted, Truncated, Less, Equal}
use Rattle.ol_real.specs.Encoding.{Encodes}
use Rattle.ol_real.proofs.Reals.{ieee754_holds}

-- ---- ties in single: 2 ^ 24 + 1 to 2 ^ 24, 2 ^ 24 + 3 to 2 ^ 24 + 4
tie_down : FromInt single (pos 16777217) (fin false 1 (pos 24))
unfolding of_int Ieee.of_int
tie_down = (ieee754_holds.at_single.from_int (pos 16777217)).holds

tie_up : FromInt single (pos 16777219) (fin false 4194305 (pos 2))
unfolding of_int Ieee.of_int
tie_up = (ieee754_holds.at_single.from_int (pos 16777219)).holds

abbrev tenth : Float
tenth = fin false 3602879701896397 (negsuc 54)

-- 0.1 + 0.2 is 0.30000000000000004
tenths : Sum double tenth (fin false 3602879701896397 (negsuc 53)) (fin false 1351079888211149 (negsuc 51))
unfolding add_r add
tenths = (ieee754_holds.at_double.sum tenth (fin false 3602879701896397 (negsuc 53))).holds

-- 0.1 as a single
tenth_single : Converted single tenth (fin false 13421773 (negsuc 26))
unfolding round_single Ieee.round
tenth_single = (ieee754_holds.rounded tenth).holds

-- ---- the largest double and half of its last digit; and a little less than half
abbrev largest : Float
largest = fin false (2 ^ 53 - 1) (pos 971)

overflows : Sum double largest (fin false 1 (pos 970)) (inf false)
unfolding add_r add
overflows = (ieee754_holds.at_double.sum largest (fin false 1 (pos 970))).holds

stays : Sum double largest (fin false (2 ^ 53 - 1) (pos 917)) largest
unfolding add_r add
stays = (ieee754_holds.at_double.sum largest (fin false (2 ^ 53 - 1) (pos 917))).holds

-- ---- the smallest subnormal, halved: a tie between 0 and 1 of it. Three of it, halved: a tie between 1 and 2.
smallest_halved : Quotient double (fin false 1 (negsuc 1073)) (fin false 1 (pos 1)) (fin false 0 (pos 0))
unfolding div_r div
smallest_halved = (ieee754_holds.at_double.quotient (fin false 1 (negsuc 1073)) (fin false 1 (pos 1))).holds

three_halved : Quotient double (fin true 3 (negsuc 1073)) (fin false 1 (pos 1)) (fin true 1 (negsuc 1072))
unfolding div_r div
three_halved = (ieee754_holds.at_double.quotient (fin true 3 (negsuc 1073)) (fin false 1 (pos 1))).holds

-- ---- zeros, infinities
abbrev +0 : Float
+0 = fin false 0 (pos 0)

abbrev minus_0 : Float
minus_0 = fin true 0 (pos 0)

abbrev minus_1 : Float
minus_1 = fin true 1 (pos 0)

zeros : Sum double minus_0 minus_0 minus_0 × Sum double minus_0 +0 +0 × Difference double minus_1 minus_1 +0 × Difference double minus_0 +0 minus_0 × Product double minus_1 +0 minus_0 × Quotient double minus_1 (inf false) minus_0
unfolding add_r sub_r mul_r div_r add sub mul div
zeros =
    let h = ieee754_holds.at_double in
    ((h.sum minus_0 minus_0).holds, (h.sum minus_0 +0).holds, (h.difference minus_1 minus_1).holds, (h.difference minus_0 +0).holds, (h.product minus_1 +0).holds, (h.quotient minus_1 (inf false)).holds)

infinities : Quotient double minus_1 minus_0 (inf false) × Quotient double minus_0 minus_0 nan × Difference double (inf true) (inf true) nan × Product double (inf true) minus_0 nan
unfolding sub_r mul_r div_r sub mul div
infinities =
    let h = ieee754_holds.at_double in
    ((h.quotient minus_1 minus_0).holds, (h.quotient minus_0 minus_0).holds, (h.difference (inf true) (inf true)).holds, (h.product (inf true) minus_0).holds)

-- ---- toward zero: 300.7, -300.7, 1e30, -1e30, NaN
cuts : Truncated (fin false 5289970343555891 (negsuc 43)) (pos 300) × Truncated (fin true 5289970343555891 (negsuc 43)) (negsuc 299)
    × Truncated (fin false 3552713678800501 (pos 48)) (pos (2 ^ 63 - 1)) × Truncated (fin true 3552713678800501 (pos 48)) (negsuc (2 ^ 63 - 1)) × Truncated nan (pos 0)
unfolding truncate to_signed
cuts = (
  (ieee754_holds.truncated (fin false 5289970343555891 (negsuc 43))).holds,
  (ieee754_holds.truncated (fin true 5289970343555891 (negsuc 43))).holds,
  (ieee754_holds.truncated (fin false 3552713678800501 (pos 48))).holds,
  (ieee754_holds.truncated (fin true 3552713678800501 (pos 48))).holds,
  (ieee754_holds.truncated nan).holds,
)

-- ---- comparison
compared : Equal minus_0 +0 × (¬ Less minus_0 +0) × Less minus_1 tenth × Less (inf true) minus_1 × (¬ Equal nan nan) × (¬ Less nan +0)
unfolding lt_r eq_r lt eq
compared = (
  (ieee754_holds.equal minus_0 +0).0 tt,
  λ h. (ieee754_holds.less minus_0 +0).1 h,
  (ieee754_holds.less minus_1 tenth).0 tt,
  (ieee754_holds.less (inf true) minus_1).0 tt,
  λ h. (ieee754_holds.equal nan nan).1 h,
  λ h. (ieee754_holds.less nan +0).1 h,
)

-- ---- bits: 0.1, the smallest subnormal, -0, a NaN
encoded : Encodes double 0x3fb9_9999_9999_999a tenth × Encodes double 1 (fin false 1 (negsuc 1073)) × Encodes single 0x8000_0000 minus_0 × Encodes single 0xffc0_1234 nan
unfolding from_bits of_bits
encoded = (
  (ieee754_holds.at_double.decoded 0x3fb9_9999_9999_999a (lit< tt)).holds,
  (ieee754_holds.at_double.decoded 1 (lit< tt)).holds,
  (ieee754_holds.at_single.decoded 0x8000_0000 (lit< tt)).holds,
  (ieee754_holds.at_single.decoded 0xffc0_1234 (lit< tt)).holds,
)
