-- The rows of a text, and what a run counts. A row has 54 bytes: the operation's two hexadecimal digits, two operands and a result of sixteen, a byte between each two and one at the end.
use Rattle.std.specs.Prelude.{ℕ, zero, suc, ◌+◌, ◌-◌, ◌*◌, ◌/◌, ◌%◌, ◌≤◌, Bool, false, cond, List, [], ◌∷◌, ◌++◌, ◌≡◌, ltb, eqb, length, get_or}
use Rattle.rows.specs.Rows.{one, agreeing}
use Rattle.ieee_vectors.specs.declared.Counts.{Counts}
use Rattle.ieee_vectors.specs.Operations.{result_of}
use Rattle.ieee_vectors.specs.Sweeps.{sweep_of}

-- ---- a row

-- the value of a hexadecimal digit; of any other byte 0
abbrev pub digit_of : ℕ → ℕ
digit_of c = cond (ltb c 48) 0 (cond (ltb c 58) (c - 48) (cond (ltb c 97) 0 (cond (ltb c 103) (c - 87) 0)))

-- the last 64 bits of a number with one digit more
abbrev pub push : ℕ → ℕ → ℕ
push x d = x % 0x1000_0000_0000_0000 * 16 + d

-- the number of the n digits from the byte `at` on
unfoldable pub number_at : List ℕ → ℕ → ℕ → ℕ
number_at text at zero = 0
number_at text at (suc n) = push (number_at text at n) (digit_of (get_or text (at + n) 0))

-- what an operation and its operands give: from 80 on a sweep
abbrev pub answer_by : ℕ → ℕ → ℕ → ℕ
answer_by op a b = cond (ltb op 0x80) (result_of op a b) (sweep_of (op - 0x80) a b)

abbrev pub answer_at : List ℕ → ℕ → ℕ
answer_at text at = answer_by (number_at text at 2) (number_at text (at + 3) 16) (number_at text (at + 20) 16)

-- ---- a text

-- what its first n rows give, and what they say that they give
unfoldable pub answers : List ℕ → ℕ → List ℕ
answers text zero = []
answers text (suc k) = answers text k ++ (answer_at text (k * 54) ∷ [])

unfoldable pub results : List ℕ → ℕ → List ℕ
results text zero = []
results text (suc k) = results text k ++ (number_at text (k * 54 + 37) 16 ∷ [])

-- how many whole rows it has, and 1 for a last row that is cut off
abbrev pub whole : List ℕ → ℕ
whole text = length text / 54

abbrev pub cut : List ℕ → ℕ
cut text = one (ltb (whole text * 54) (length text))

-- how many rows are right
abbrev pub right_in : List ℕ → ℕ
right_in text = agreeing (answers text (whole text)) (results text (whole text))

-- every row is right or wrong
pub record Counted (text : List ℕ) (r : Counts) : Type 0 where
  pub right : r.right ≡ right_in text
  pub all : r.right + r.wrong ≡ whole text + cut text

-- ---- a run

-- the counts of the text that a read gave, which is free
pub record Checked (r : Counts) : Type 0 where
  pub text : List ℕ
  pub small : length text ≤ 3456
  pub counted : Counted text r

-- the sums over the texts that the reads gave
unfoldable pub right_sum : List (List ℕ) → ℕ
right_sum [] = 0
right_sum (t ∷ ts) = right_in t + right_sum ts

unfoldable pub row_sum : List (List ℕ) → ℕ
row_sum [] = 0
row_sum (t ∷ ts) = whole t + cut t + row_sum ts

pub record Total (right wrong : ℕ) : Type 0 where
  pub texts : List (List ℕ)
  pub right_is : right ≡ right_sum texts
  pub all : right + wrong ≡ row_sum texts

-- a run passes if there are rows and each is right
abbrev pub passing : Counts → Bool
passing c = cond (ltb 0 c.right) (eqb c.wrong 0) false
