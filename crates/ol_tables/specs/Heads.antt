-- An expression as its head, the bytes up to its parts, and its parts, which stand directly behind it: so a list of expressions is read head by head, with no tree.
use Rattle.std.specs.Prelude.{ℕ, ◌+◌, ◌*◌, ◌<◌, cond, List, [], ◌∷◌, ◌≡◌, length, get_or, T, ltb, eqb}
use Rattle.ol_spec.specs.Syntax.{Ty, Expr, bool_lit, int_lit, float_lit, char_lit, var, unary, binary, if_then_else, pre, arrow, cast, call, tuple, Exprs, nil, cons}
use Rattle.ol_spec.specs.Syntax.{index, literal, map_over, fold_over, VarTy}
use Rattle.ol_spec.specs.Syntax.{count}
use Rattle.ol_spec.specs.Places.{ty_size, var_ty_size}
use Rattle.ol_spec.specs.Encode.{exprs_bytes}
use Rattle.ol_spec.specs.Limits.{base}
use Rattle.ol_spec.specs.Within.{exprs_fit}
use Rattle.ol_spec.proofs.RoundTrip.Parts.{Here}
use Rattle.ol_tables.specs.Tables.{ty_code, ty_enum, element_of, array_length}

-- ---- heads and parts

-- the code that it starts with
abbrev pub code_of : Expr → ℕ
code_of (bool_lit b) = 0
code_of (int_lit i) = 1
code_of (float_lit b) = 2
code_of (char_lit c) = 3
code_of (var x) = 4
code_of (unary op e) = 5
code_of (binary op a b) = 6
code_of (if_then_else c a b) = 7
code_of (pre e) = 8
code_of (arrow a b) = 9
code_of (cast t e) = 10
code_of (call k es) = 11
code_of (tuple es) = 12
code_of (index a i) = 13
code_of (literal es) = 14
code_of (map_over k es) = 15
code_of (fold_over k s es) = 15

abbrev pub parts_of : Expr → Exprs
parts_of (bool_lit b) = nil
parts_of (int_lit i) = nil
parts_of (float_lit b) = nil
parts_of (char_lit c) = nil
parts_of (var x) = nil
parts_of (unary op e) = cons e nil
parts_of (binary op a b) = cons a (cons b nil)
parts_of (if_then_else c a b) = cons c (cons a (cons b nil))
parts_of (pre e) = cons e nil
parts_of (arrow a b) = cons a (cons b nil)
parts_of (cast t e) = cons e nil
parts_of (call k es) = es
parts_of (tuple es) = es
parts_of (index a i) = cons a (cons i nil)
parts_of (literal es) = es
parts_of (map_over k es) = es
parts_of (fold_over k s es) = cons s es

-- how many bytes stand before the parts
abbrev pub head_size : Expr → ℕ
head_size (bool_lit b) = 2
head_size (int_lit i) = 9
head_size (float_lit b) = 9
head_size (char_lit c) = 2
head_size (var x) = 3
head_size (unary op e) = 2
head_size (binary op a b) = 2
head_size (if_then_else c a b) = 1
head_size (pre e) = 1
head_size (arrow a b) = 1
head_size (cast t e) = 1 + ty_size t
head_size (call k es) = 3
head_size (tuple es) = 2
head_size (index a i) = 1
head_size (literal es) = 2
head_size (map_over k es) = 4
head_size (fold_over k s es) = 4

-- the expressions of the first list, then those of the second
unfoldable pub joined : Exprs → Exprs → Exprs
joined nil fs = fs
joined (cons e es) fs = cons e (joined es fs)

-- ---- what the bytes say

-- the byte at `at`, 0 past the end
pub record Byte (s : List ℕ) (at r : ℕ) : Type 0 where
  pub is : r ≡ get_or s at 0
  pub small : r < 256

module _ (s : List ℕ) (at : ℕ) where
  -- the name that stands at `at`
  abbrev pub name_at : ℕ
  name_at = get_or s at 0 * 256 + get_or s (at + 1) 0

  -- how many bytes the scalar type at `at` has
  abbrev pub scalar_size_at : ℕ
  scalar_size_at = cond (eqb (get_or s at 0) 12) 2 1

  -- the enum's number of the type at `at`, 0 for another type
  abbrev pub ty_enum_at : ℕ
  ty_enum_at = cond (eqb (get_or s at 0) 12) (get_or s (at + 1) 0) 0

  -- where the scalar type of the type at `at` stands, an array's behind its length, and that length, 0 for a scalar
  abbrev pub element_at : ℕ
  element_at = cond (eqb (get_or s at 0) 13) (at + 2) at

  abbrev pub ty_length_at : ℕ
  ty_length_at = cond (eqb (get_or s at 0) 13) (get_or s (at + 1) 0) 0

  -- how many parts the iterator at `at` has: its arrays, and a fold its seed before them
  abbrev pub iterator_parts_at : ℕ
  iterator_parts_at = get_or s (at + 3) 0 + cond (eqb (get_or s (at + 1) 0) 1) 1 0

-- how many bytes the type at `at` has: an array's are its code, its length and its elements' type
abbrev pub ty_size_at : List ℕ → ℕ → ℕ
ty_size_at s at = cond (eqb (get_or s at 0) 13) (2 + scalar_size_at s (at + 2)) (scalar_size_at s at)

-- by an expression's code, up to Arrow: how many parts it has, and how many bytes its head
abbrev pub parts_table : List ℕ
parts_table = 0 ∷ 0 ∷ 0 ∷ 0 ∷ 0 ∷ 1 ∷ 2 ∷ 3 ∷ 1 ∷ 2 ∷ []

abbrev pub sizes_table : List ℕ
sizes_table = 2 ∷ 9 ∷ 9 ∷ 2 ∷ 3 ∷ 2 ∷ 2 ∷ 1 ∷ 1 ∷ 1 ∷ []

module _ (s : List ℕ) (at : ℕ) where
  -- how many parts the expression at `at` has, and where they start; where the file ends, none, and no byte. A byte that is no code is taken as an iterator's
  abbrev pub parts_at : ℕ
  parts_at =
      cond (ltb (get_or s at 0) 10) (get_or parts_table (get_or s at 0) 0)
      (cond (eqb (get_or s at 0) 10) 1
      (cond (eqb (get_or s at 0) 11) (get_or s (at + 2) 0)
      (cond (eqb (get_or s at 0) 13) 2 (cond (ltb (get_or s at 0) 15) (get_or s (at + 1) 0) (iterator_parts_at s at)))))

  abbrev pub next_at : ℕ
  next_at =
      cond (ltb at (length s))
      (cond (ltb (get_or s at 0) 10) (at + get_or sizes_table (get_or s at 0) 0)
      (cond (eqb (get_or s at 0) 10) (at + 1 + ty_size_at s (at + 1))
      (cond (eqb (get_or s at 0) 11) (at + 3) (cond (eqb (get_or s at 0) 13) (at + 1) (cond (ltb (get_or s at 0) 15) (at + 2) (at + 4)))))) at

  -- a scalar type stands there: its code, its size and its enum's number are told by the bytes
  pub record TyIs (t : Ty) : Type 0 where
    pub code : get_or s at 0 ≡ ty_code t
    pub size : ty_size_at s at ≡ ty_size t
    pub number : ty_enum_at s at ≡ ty_enum t

-- a variable's or a constant's type stands there
pub record VarTyIs (s : List ℕ) (at : ℕ) (t : VarTy) : Type 0 where
  pub element : TyIs s (element_at s at) (element_of t)
  pub length : ty_length_at s at ≡ array_length t
  pub size : ty_size_at s at ≡ var_ty_size t

-- the head of an expression stands there
abbrev pub HeadIs : List ℕ → ℕ → Expr → Type 0
HeadIs s at (bool_lit b) = get_or s at 0 ≡ 0
HeadIs s at (int_lit i) = get_or s at 0 ≡ 1
HeadIs s at (float_lit b) = get_or s at 0 ≡ 2
HeadIs s at (char_lit c) = get_or s at 0 ≡ 3
HeadIs s at (var x) = (get_or s at 0 ≡ 4) × (name_at s (at + 1) ≡ x)
HeadIs s at (unary op e) = get_or s at 0 ≡ 5
HeadIs s at (binary op a b) = get_or s at 0 ≡ 6
HeadIs s at (if_then_else c a b) = get_or s at 0 ≡ 7
HeadIs s at (pre e) = get_or s at 0 ≡ 8
HeadIs s at (arrow a b) = get_or s at 0 ≡ 9
HeadIs s at (cast t e) = (get_or s at 0 ≡ 10) × TyIs s (at + 1) t
HeadIs s at (call k es) = (get_or s at 0 ≡ 11) × (get_or s (at + 1) 0 ≡ k) × (get_or s (at + 2) 0 ≡ count es)
HeadIs s at (tuple es) = (get_or s at 0 ≡ 12) × (get_or s (at + 1) 0 ≡ count es)
HeadIs s at (index a i) = get_or s at 0 ≡ 13
HeadIs s at (literal es) = (get_or s at 0 ≡ 14) × (get_or s (at + 1) 0 ≡ count es)
HeadIs s at (map_over k es) = (get_or s at 0 ≡ 15) × (get_or s (at + 1) 0 ≡ 0) × (get_or s (at + 2) 0 ≡ k) × (get_or s (at + 3) 0 ≡ count es)
HeadIs s at (fold_over k e es) = (get_or s at 0 ≡ 15) × (get_or s (at + 1) 0 ≡ 1) × (get_or s (at + 2) 0 ≡ k) × (get_or s (at + 3) 0 ≡ count es)

-- these expressions stand there, one after the other, in a file with so many enums
pub record Standing (s : List ℕ) (enums at : ℕ) (es : Exprs) : Type 0 where
  pub here : Here s at (exprs_bytes es)
  pub fit : T (exprs_fit base enums es)
