-- An expression's head: its first bytes, up to its parts. The parts follow directly, so an expression is its heads, operator first.
use Rattle.std.specs.Prelude.{ℕ, suc, List}
use Rattle.ol_spec.specs.Read.{Reader, then_read, ◌>>=◌, give, byte, number, name_r, coded, count_r, ty_r, bools, unary_ops, bin_ops, expr_codes, ExprCode, bool_code}
use Rattle.ol_spec.specs.Read.{int_code, float_code, char_code, var_code, unary_code, binary_code, if_code, pre_code, arrow_code, cast_code, call_code, tuple_code, index_code, literal_code, iterator_code, Iterator, maps, folds, iterators}
use Rattle.ol_spec.specs.declared.Limits.{Limits}

-- a call's node number, then its count of arguments
abbrev pub call_head : List ℕ → ℕ → Reader ℕ
call_head s most = do
  k ← byte s
  count_r s 0 most

-- how many parts an iterator over so many arrays has: a fold has its seed besides
abbrev pub iterator_parts : Iterator → ℕ → ℕ
iterator_parts maps n = n
iterator_parts folds n = suc n

-- an iterator's kind, its node number, then its count of arrays
abbrev pub iterator_head : List ℕ → ℕ → Reader ℕ
iterator_head s most = do
  w ← coded s iterators
  k ← byte s
  n ← count_r s 0 most
  give (iterator_parts w n)

module _ (s : List ℕ) (l : Limits) (enums : ℕ) where
  -- what follows an expression's first byte, up to its parts: how many parts there are
  abbrev pub head_body : ExprCode → Reader ℕ
  head_body bool_code = do
    b ← coded s bools
    give 0
  head_body int_code = do
    n ← number s 8 0
    give 0
  head_body float_code = do
    n ← number s 8 0
    give 0
  head_body char_code = do
    c ← byte s
    give 0
  head_body var_code = do
    x ← name_r s
    give 0
  head_body unary_code = do
    op ← coded s unary_ops
    give 1
  head_body binary_code = do
    op ← coded s bin_ops
    give 2
  head_body if_code = give 3
  head_body pre_code = give 1
  head_body arrow_code = give 2
  head_body cast_code = do
    t ← ty_r s l enums
    give 1
  head_body call_code = call_head s l.arguments
  head_body tuple_code = count_r s 2 l.items
  head_body index_code = give 2
  head_body literal_code = count_r s 1 l.elements
  head_body iterator_code = iterator_head s l.arrays

  unfoldable pub head_r : Reader ℕ
  head_r at = then_read (coded s expr_codes at) head_body
