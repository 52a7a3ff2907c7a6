-- Executed examples of the rows: 1.0 + 1.0 = 2.0, and the same row with another result.
use Rattle.std.specs.Prelude.{ℕ, List, [], ◌∷◌, ◌++◌, ◌≡◌, refl, replicate}
use Rattle.ol_spec.specs.Real.{from_bits, to_bits, add_r}
use Rattle.rows.specs.Rows.{agreeing}
use Rattle.ieee_vectors.specs.Operations.{result_of}
use Rattle.ieee_vectors.specs.Lines.{number_at, answers, results, whole, cut, right_in}

-- a number's sixteen digits: the first three, and zeros; and a byte between
abbrev digits : ℕ → ℕ → ℕ → List ℕ
digits a b c = a ∷ b ∷ c ∷ replicate 13 48

-- "06 3ff0000000000000 3ff0000000000000 4000000000000000", and its end
abbrev sum : ℕ → List ℕ
sum last = 48 ∷ 54 ∷ 32 ∷ (digits 51 102 102 ++ (32 ∷ (digits 51 102 102 ++ (32 ∷ (digits 52 48 last ++ (10 ∷ []))))))

pub read : (number_at (sum 48) 0 2 ≡ 6) × (number_at (sum 48) 3 16 ≡ 0x3ff0_0000_0000_0000) × (number_at (sum 48) 37 16 ≡ 0x4000_0000_0000_0000)
unfolding number_at
read = (refl, refl, refl)

-- one row that is right; one that is not; none, and a row that is cut off
pub right : (whole (sum 48) ≡ 1) × (cut (sum 48) ≡ 0) × (right_in (sum 48) ≡ 1)
unfolding number_at answers results agreeing result_of from_bits to_bits add_r lib.Ieee.of_bits lib.Ieee.to_bits lib.Ieee.add
right = (refl, refl, refl)

pub wrong : (whole (sum 49) ≡ 1) × (right_in (sum 49) ≡ 0)
unfolding number_at answers results agreeing result_of from_bits to_bits add_r lib.Ieee.of_bits lib.Ieee.to_bits lib.Ieee.add
wrong = (refl, refl)

pub short : (whole (48 ∷ 54 ∷ []) ≡ 0) × (cut (48 ∷ 54 ∷ []) ≡ 1)
short = (refl, refl)
