-- What the proofs of the conversions cite: a test's answer as a fact, and the one NaN.
use Rattle.std.proofs.Common.{◌≡◌, ◌+◌, ◌*◌, ◌/◌, Bool, true, false, not, T, sym, refl, subst}
use lib.Ieee.{Float, nan, inf, fin, Format, hid, ones, is_nan}
use lib.Ieee as Ieee

-- ==== a test's answer as a fact
pub yes : {b : Bool} → b ≡ true → T b
yes h = subst T (sym h) tt

pub no : {b : Bool} → b ≡ false → T (not b)
no h = subst (λ (a : Bool). T (not a)) (sym h) tt

-- ==== the one NaN
nan_only : (x : Float) → T (is_nan x) → x ≡ nan
unfolding is_nan
nan_only nan h = refl
nan_only (inf _) h = elim h [ ]
nan_only (fin _ _ _) h = elim h [ ]

pub is_nan_lem : (x : Float) → is_nan x ≡ true → x ≡ nan
is_nan_lem x h = nan_only x (yes h)

-- the one NaN's bits
pub made_nan : (f : Format) → Ieee.of_bits f (ones f * hid f + hid f / 2) ≡ nan
unfolding Ieee.of_bits
made_nan Ieee.binary32 = refl
made_nan Ieee.binary64 = refl
