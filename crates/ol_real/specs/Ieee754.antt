-- Binary arithmetic as IEEE 754-2019 defines it, over whole numbers, for a format given by its precision p and its largest exponent emax. The standard's clauses are named at each definition.
-- An operation is a relation between its operands and a result: the result is the exact one, rounded. Nothing here computes a rounding.
-- `Holds` states that each relation has exactly one result and that ol_spec's names give it, and proofs/ proves that.
-- A datum is lib.Ieee's `Float`: `nan`, the one NaN; `inf s`, an infinity; `fin s m e`, the number m * 2 ^ e. Where s is true, the sign is minus.
-- Left out: the sign and the payload of a NaN, signaling NaNs (6.2), the exceptions' flags (7) and the other directions of rounding.
use Rattle.std.specs.Prelude.{◌≡◌, ℕ, zero, suc, ◌+◌, ◌-◌, ◌*◌, ◌%◌, ◌^◌, ◌<◌, ◌≤◌, min, Bool, true, false, cond, not, ◌&&◌, T, ◌≢◌, ◌⊎◌, ℤ, pos, negsuc, ◌+ℤ◌, neg_ℤ, int_lt, Float}
use Rattle.std.specs.Bool.{beq}
use Rattle.std.specs.Float.{nan, inf, fin}

-- ==== formats (3.3, table 3.2)

pub record Format : Type 0 where
  pub p : ℕ
  pub emax : ℕ

abbrev pub single : Format
single = record { p = 24; emax = 127 }

abbrev pub double : Format
double = record { p = 53; emax = 1023 }

-- The numbers of a format are c * 2 ^ q with a whole c below 2 ^ p and a q with emin ≤ q + p - 1 ≤ emax, where emin is 1 - emax (3.3).
-- So the least q is -lowest, and the numbers are counted here in units of 2 ^ -lowest: a number is c * 2 ^ k units, with k from 0 to 2 * emax - 1.
abbrev pub lowest : Format → ℕ
lowest f = f.emax + f.p - 2

-- n units, with the significand c and the exponent k
pub record Form (f : Format) (n c k : ℕ) : Type 0 where
  pub digits : c < 2 ^ f.p
  pub range : k < 2 * f.emax
  pub count : n ≡ c * 2 ^ k

-- n units are a number of the format
pub record Number (f : Format) (n : ℕ) : Type 0 where
  pub c : ℕ
  pub k : ℕ
  pub form : Form f n c k

-- ==== data

-- 2 ^ e is the fraction up e / down e, so the magnitude of `fin s m e` is m * up e / down e
abbrev pub up : ℤ → ℕ
up (pos k) = 2 ^ k
up (negsuc k) = 1

abbrev pub down : ℤ → ℕ
down (pos k) = 1
down (negsuc k) = 2 ^ suc k

-- each number is one datum: m is odd, and zero is 0 * 2 ^ 0
abbrev pub OneForm : ℕ → ℤ → Type 0
OneForm zero e = e ≡ pos 0
OneForm (suc m) e = suc m % 2 ≡ 1

-- m * 2 ^ e is n units
abbrev pub Counts : Format → ℕ → ℤ → ℕ → Type 0
Counts f m e n = m * up e * 2 ^ lowest f ≡ n * down e

-- x is the datum of n units with the sign s
abbrev pub Datum : Format → Bool → ℕ → Float → Type 0
Datum f s n nan = ⊥
Datum f s n (inf t) = ⊥
Datum f s n (fin t m e) = (t ≡ s) × OneForm m e × Counts f m e n

-- x is a datum of the format
abbrev pub IsValue : Format → Float → Type 0
IsValue f nan = Unit
IsValue f (inf s) = Unit
IsValue f (fin s m e) = OneForm m e × (n : ℕ) × Counts f m e n × Number f n

-- ==== roundTiesToEven (4.3.1)

-- |a - b|
abbrev pub gap : ℕ → ℕ → ℕ
gap a b = (a - b) + (b - a)

-- Of the numbers of the format, n units are nearest to a / den units. Where another number is equally near, the least significant digit of n's significand c is even.
-- As a number can have more than one form, c is the largest: its leading digit is 1, or else k is the least exponent (3.4).
pub record Nearest (f : Format) (a den n : ℕ) : Type 0 where
  pub c : ℕ
  pub k : ℕ
  pub form : Form f n c k
  pub leading : (2 ^ (f.p - 1) ≤ c) ⊎ (k ≡ 0)
  pub nearest : (m : ℕ) → Number f m → gap a (n * den) ≤ gap a (m * den)
  pub even : (m : ℕ) → Number f m → m ≢ n → gap a (m * den) ≡ gap a (n * den) → c % 2 ≡ 0

-- num / den is 2 ^ emax * (2 - 2 ^ -p) or more; both sides are written times den * 2 ^ p
abbrev pub Overflows : Format → ℕ → ℕ → Type 0
Overflows f num den = 2 ^ f.emax * (2 * 2 ^ f.p - 1) * den ≤ num * 2 ^ f.p

-- m * 2 ^ e is num / den, rounded
pub record Rounded (f : Format) (num den m : ℕ) (e : ℤ) : Type 0 where
  pub below : ¬ Overflows f num den
  pub written : OneForm m e
  pub n : ℕ
  pub counts : Counts f m e n
  pub nearest : Nearest f (num * 2 ^ lowest f) den n

-- x is the magnitude num / den, with the sign s, rounded. A magnitude that overflows gives an infinity; one that rounds to zero gives a zero of the sign s.
abbrev pub Rounds : Format → Bool → ℕ → ℕ → Float → Type 0
Rounds f s num den nan = ⊥
Rounds f s num den (inf t) = (t ≡ s) × Overflows f num den
Rounds f s num den (fin t m e) = (t ≡ s) × Rounded f num den m e

-- the whole number of the sign s and the magnitude a
abbrev pub signed : Bool → ℕ → ℤ
signed false a = pos a
signed true a = neg_ℤ (pos a)

-- x is the exact result z / den, rounded. Where that is zero, x is a zero, and its sign t is said by the operation (6.3).
abbrev pub RoundsTo : Format → Bool → ℤ → ℕ → Float → Type 0
RoundsTo f t (pos zero) den x = x ≡ fin t 0 (pos 0)
RoundsTo f t (pos (suc n)) den x = Rounds f false (suc n) den x
RoundsTo f t (negsuc n) den x = Rounds f true (suc n) den x

-- ==== arithmetic (5.4.1). A NaN operand gives the NaN (6.2); infinities: 6.1; where there is no result, the NaN: 7.2; signs: 6.3

-- exactly one of the two signs is minus
abbrev pub unlike : Bool → Bool → Bool
unlike s t = not (beq s t)

-- Infinities of opposite signs have no sum (7.2 d). A sum that is exactly zero is -0 if both operands are negative, and that is if both are -0; otherwise it is +0.
unfoldable pub Sum : Format → Float → Float → Float → Type 0
Sum f nan y r = r ≡ nan
Sum f (inf s) nan r = r ≡ nan
Sum f (inf s) (inf t) r = r ≡ cond (unlike s t) nan (inf s)
Sum f (inf s) (fin t n d) r = r ≡ inf s
Sum f (fin s m e) nan r = r ≡ nan
Sum f (fin s m e) (inf t) r = r ≡ inf t
Sum f (fin s m e) (fin t n d) r = RoundsTo f (s && t) (signed s (m * up e * down d) +ℤ signed t (n * up d * down e)) (down e * down d) r

abbrev pub negated : Float → Float
negated nan = nan
negated (inf s) = inf (not s)
negated (fin s m e) = fin (not s) m e

-- the sign reversed (5.5.1)
unfoldable pub Negation : Float → Float → Type 0
Negation x r = r ≡ negated x

-- a difference x - y is the sum x + (-y) (6.3)
unfoldable pub Difference : Format → Float → Float → Float → Type 0
unfolding Sum
Difference f x y r = Sum f x (negated y) r

-- 0 times an infinity has no product (7.2 b)
unfoldable pub Product : Format → Float → Float → Float → Type 0
Product f nan y r = r ≡ nan
Product f (inf s) nan r = r ≡ nan
Product f (inf s) (inf t) r = r ≡ inf (unlike s t)
Product f (inf s) (fin t zero d) r = r ≡ nan
Product f (inf s) (fin t (suc n) d) r = r ≡ inf (unlike s t)
Product f (fin s m e) nan r = r ≡ nan
Product f (fin s zero e) (inf t) r = r ≡ nan
Product f (fin s (suc m) e) (inf t) r = r ≡ inf (unlike s t)
Product f (fin s m e) (fin t n d) r = Rounds f (unlike s t) (m * up e * (n * up d)) (down e * down d) r

-- 0 / 0 and infinity / infinity have no quotient (7.2 e); any other number over 0 is an infinity (7.3)
unfoldable pub Quotient : Format → Float → Float → Float → Type 0
Quotient f nan y r = r ≡ nan
Quotient f (inf s) nan r = r ≡ nan
Quotient f (inf s) (inf t) r = r ≡ nan
Quotient f (inf s) (fin t n d) r = r ≡ inf (unlike s t)
Quotient f (fin s m e) nan r = r ≡ nan
Quotient f (fin s m e) (inf t) r = r ≡ fin (unlike s t) 0 (pos 0)
Quotient f (fin s zero e) (fin t zero d) r = r ≡ nan
Quotient f (fin s (suc m) e) (fin t zero d) r = r ≡ inf (unlike s t)
Quotient f (fin s m e) (fin t (suc n) d) r = Rounds f (unlike s t) (m * up e * down d) (suc n * up d * down e) r

-- ==== conversions

-- a whole number to a format; 0 to +0 (5.4.1)
unfoldable pub FromInt : Format → ℤ → Float → Type 0
FromInt f z r = RoundsTo f false z 1 r

-- a datum to another format (5.4.2): a double to a single is rounded, a single to a double is the same number
unfoldable pub Converted : Format → Float → Float → Type 0
Converted f nan r = r ≡ nan
Converted f (inf s) r = r ≡ inf s
Converted f (fin s m e) r = Rounds f s (m * up e) (down e) r

-- a whole number to the nearest that 64 bits with a sign hold: from -2 ^ 63 to 2 ^ 63 - 1
abbrev pub saturated : ℤ → ℤ
saturated (pos n) = pos (min n (2 ^ 63 - 1))
saturated (negsuc n) = negsuc (min n (2 ^ 63 - 1))

-- a magnitude a / b without its fraction
pub record WholePart (a b t : ℕ) : Type 0 where
  pub least : t * b ≤ a
  pub most : a < suc t * b

-- toward zero (5.8, convertToIntegerTowardZero). Of a NaN, and out of range, the standard leaves the result open: it is 0, and the nearest in range.
unfoldable pub Truncated : Float → ℤ → Type 0
Truncated nan z = z ≡ pos 0
Truncated (inf false) z = z ≡ pos (2 ^ 63 - 1)
Truncated (inf true) z = z ≡ neg_ℤ (pos (2 ^ 63))
Truncated (fin s m e) z = (t : ℕ) × WholePart (m * up e) (down e) t × (z ≡ saturated (signed s t))

-- ==== comparison (5.11): beside a NaN nothing is less or equal; -0 equals +0

unfoldable pub Less : Float → Float → Type 0
Less nan y = ⊥
Less (inf s) nan = ⊥
Less (inf s) (inf t) = (s ≡ true) × (t ≡ false)
Less (inf s) (fin t n d) = s ≡ true
Less (fin s m e) nan = ⊥
Less (fin s m e) (inf t) = t ≡ false
Less (fin s m e) (fin t n d) = T (int_lt (signed s (m * up e * down d)) (signed t (n * up d * down e)))

unfoldable pub Equal : Float → Float → Type 0
Equal nan y = ⊥
Equal (inf s) nan = ⊥
Equal (inf s) (inf t) = s ≡ t
Equal (inf s) (fin t n d) = ⊥
Equal (fin s m e) nan = ⊥
Equal (fin s m e) (inf t) = ⊥
Equal (fin s m e) (fin t n d) = signed s (m * up e * down d) ≡ signed t (n * up d * down e)

unfoldable pub LessEq : Float → Float → Type 0
unfolding Less Equal
LessEq x y = Less x y ⊎ Equal x y
