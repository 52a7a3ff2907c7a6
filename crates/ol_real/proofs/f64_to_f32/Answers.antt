use Rattle.std.proofs.Common.{sym, ap, ◌∙◌}
use lib.Ieee.{neg}
use Rattle.ol_real.proofs.Conversions.{yes, no}
use Rattle.ol_real.proofs.Singles.{size_most, plus_single, minus_single, nan_single}
use Rattle.ol_real.proofs.f64_to_f32.Goals as goal

-- what owning a double tells: the format holds it
pub size_to_f32-r-requires : goal.size_to_f32-r-requires
size_to_f32-r-requires c = size_most c.args.x (yes c.well_formed.0.1) (sym c.is_nan.ensures.value ∙ c.if-is_nan.false)

pub float_to_bits-bits : goal.float_to_bits-bits
float_to_bits-bits c = no (sym c.is_nan.ensures.value ∙ c.if-is_nan.false)

pub returns-then-is_nan : goal.returns-then-is_nan
returns-then-is_nan c = nan_single c.args.x (sym c.is_nan.ensures.value ∙ c.if-is_nan.true)

pub returns-then-bits-lt9223372036854775808 : goal.returns-then-bits-lt9223372036854775808
returns-then-bits-lt9223372036854775808 c = c.size_to_f32-r.ensures ∙ plus_single c.args.x (yes c.well_formed.0.1) c.if-bits-lt9223372036854775808.true

pub returns-else-bits-lt9223372036854775808 : goal.returns-else-bits-lt9223372036854775808
returns-else-bits-lt9223372036854775808 c = ap neg c.size_to_f32-r.ensures ∙ minus_single c.args.x (yes c.well_formed.0.1) c.if-bits-lt9223372036854775808.false
