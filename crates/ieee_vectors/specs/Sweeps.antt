-- Sweeps, as oracle/ieee/vectors.c makes them: 64 pairs of operands from a seed, and a digest of their results.
use Rattle.std.specs.Prelude.{ℕ, zero, suc, ◌+◌, ◌-◌, ◌*◌, ◌/◌, ◌%◌, ◌^◌, Bool, cond, ◌&&◌, ◌||◌, eqb, ltb, leb}
use Rattle.std.specs.Int.Bits.{bit_and, bit_or, bit_xor}
use Rattle.ieee_vectors.specs.Operations.{result_of}

-- 64 bits shifted to the left, and to the right
abbrev pub shl : ℕ → ℕ → ℕ
shl x k = x * 2 ^ k % 2 ^ 64

abbrev pub shr : ℕ → ℕ → ℕ
shr x k = x / 2 ^ k

-- the next random number, in three steps
abbrev pub mixed : ℕ → ℕ
mixed x = bit_xor x (shl x 13)

abbrev pub mixed_back : ℕ → ℕ
mixed_back x = bit_xor x (shr x 7)

abbrev pub mixed_on : ℕ → ℕ
mixed_on x = bit_xor x (shl x 17)

unfoldable pub next_of : ℕ → ℕ
next_of x = mixed_on (mixed_back (mixed x))

-- x with a 1 at the place p and below it zeros
abbrev pub tie : ℕ → ℕ → ℕ
tie x p = shr (shl (bit_or (shl (shr x p) 1) 1) p) 1

-- that, or one less, or one more, or x itself
unfoldable pub near_tie : ℕ → ℕ → ℕ → ℕ
near_tie x p turn = cond (eqb turn 0) (tie x p) (cond (eqb turn 1) (tie x p - 1) (cond (eqb turn 2) (bit_or (tie x p) 1) x))

-- an operation on singles
abbrev pub is_single : ℕ → Bool
is_single op =
    eqb op 0x03 || eqb op 0x05 || (leb 0x0a op && leb op 0x0d) || eqb op 0x0f || (leb 0x13 op && leb op 0x15) || eqb op 0x17

-- an operand from a random number: for a single and for a double its sign, the field e and the digits y
abbrev pub single : ℕ → ℕ → ℕ → ℕ
single x e y = bit_or (bit_or (shl (shr x 63) 31) (shl (bit_and e 0xff) 23)) (bit_and y 0x7f_ffff)

abbrev pub double : ℕ → ℕ → ℕ → ℕ
double x e y = bit_or (bit_or (shl (shr x 63) 63) (shl (bit_and e 0x7ff) 52)) (bit_and y 0xf_ffff_ffff_ffff)

abbrev pub tie_of : ℕ → ℕ → ℕ
tie_of x y = near_tie y (shr x 57 % 54) (shr x 55 % 4)

unfoldable pub operand_of : ℕ → ℕ → ℕ → ℕ
operand_of op e x =
    cond (ltb op 2) (shr (tie_of x x) (e % 64))
    (cond (is_single op) (single x e (tie_of x (bit_and x 0xf_ffff_ffff_ffff))) (double x e (tie_of x (bit_and x 0xf_ffff_ffff_ffff))))

-- where a sweep stands: the last random number, and the digest
pub record Sweep : Type 0 where
  pub x : ℕ
  pub h : ℕ

-- a pair of operands from two random numbers z and x, and the digest with its result; the second exponent is within 32 of the first
abbrev pub result_from : ℕ → ℕ → ℕ → ℕ → ℕ
result_from op e z x = result_of op (operand_of op e z) (operand_of op (e % 4096 + 4064 + x % 64) (next_of x))

abbrev pub sweep_on : ℕ → ℕ → Sweep → Sweep
sweep_on op e s = record { x = next_of (next_of s.x); h = next_of (bit_xor s.h (result_from op e (next_of s.x) (next_of (next_of s.x)))) }

-- after so many pairs
unfoldable pub sweep_to : ℕ → ℕ → ℕ → ℕ → Sweep
sweep_to op e seed zero = record { x = seed; h = 0x9e37_79b9_7f4a_7c15 }
sweep_to op e seed (suc i) = sweep_on op e (sweep_to op e seed i)

abbrev pub sweep_of : ℕ → ℕ → ℕ → ℕ
sweep_of op e seed = (sweep_to op e seed 64).h
