-- The operations of the rows, by their numbers: oracle/ieee/vectors.c's table, by the definitions of the reals in ol_spec's Real.
use Rattle.std.specs.Prelude.{ℕ, ◌%◌, List, [], ◌∷◌, get_or}
use Rattle.ol_spec.specs.Numbers.{residue, signed}
use Rattle.ol_spec.specs.Real.{Real, single, double, from_bits, to_bits, add_r, sub_r, mul_r, div_r, neg_r, of_int, round_single, widen, truncate, eq_r, lt_r, le_r}
use Rattle.rows.specs.Rows.{one}

-- the double of a pattern, and the single of its last 32 bits
abbrev pub d : ℕ → Real
d a = from_bits double a

abbrev pub s : ℕ → Real
s a = from_bits single (a % 0x1_0000_0000)

-- the bits of a double and of a single
abbrev pub d_bits : Real → ℕ
d_bits x = to_bits double x

abbrev pub s_bits : Real → ℕ
s_bits x = to_bits single x

-- 17, and every number that is none of the others: a single's pattern read
abbrev pub read_single : ℕ → ℕ → ℕ
read_single a b = s_bits (s a)

-- 00 to 16, on two operands by their bits
abbrev pub operations : List (ℕ → ℕ → ℕ)
operations =
    (λ a b. d_bits (of_int double (signed 64 a)))
    ∷ (λ a b. s_bits (of_int single (signed 64 a)))
    ∷ (λ a b. s_bits (round_single (d a)))
    ∷ (λ a b. d_bits (widen (s a)))
    ∷ (λ a b. residue 64 (truncate (d a)))
    ∷ (λ a b. residue 64 (truncate (s a)))
    ∷ (λ a b. d_bits (add_r double (d a) (d b)))
    ∷ (λ a b. d_bits (sub_r double (d a) (d b)))
    ∷ (λ a b. d_bits (mul_r double (d a) (d b)))
    ∷ (λ a b. d_bits (div_r double (d a) (d b)))
    ∷ (λ a b. s_bits (add_r single (s a) (s b)))
    ∷ (λ a b. s_bits (sub_r single (s a) (s b)))
    ∷ (λ a b. s_bits (mul_r single (s a) (s b)))
    ∷ (λ a b. s_bits (div_r single (s a) (s b)))
    ∷ (λ a b. d_bits (neg_r (d a)))
    ∷ (λ a b. s_bits (neg_r (s a)))
    ∷ (λ a b. one (eq_r (d a) (d b)))
    ∷ (λ a b. one (lt_r (d a) (d b)))
    ∷ (λ a b. one (le_r (d a) (d b)))
    ∷ (λ a b. one (eq_r (s a) (s b)))
    ∷ (λ a b. one (lt_r (s a) (s b)))
    ∷ (λ a b. one (le_r (s a) (s b)))
    ∷ (λ a b. d_bits (d a))
    ∷ []

-- the result of an operation
unfoldable pub result_of : ℕ → ℕ → ℕ → ℕ
result_of op a b = get_or operations op read_single a b
