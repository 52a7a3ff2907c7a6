-- The default cells that the tables tell are those of the node's variables.
use Prim.Native.Nat.{ℕ, zero, suc, max, ◌+◌, ◌%◌, ◌<◌}
use mathlib.Core.List.{List, [], ◌∷◌, ◌++◌, map, map-append}
use mathlib.Core.Path.{◌≡◌, refl, sym, ap, ap₂, ◌∙◌}
use native.Mathlib.Omega.{arith}
use lib.Dec.{T, leb, leb→le, ltb→lt}
use lib.ListN.{length, get_or, replicate, length-append, length-replicate}
use Rattle.ol_spec.specs.Lists.{concat, all_of}
use Rattle.ol_spec.specs.Syntax.{Ty, bool, int, float32, float64, char, enum, VarTy, scalar, array, Variable, type_cells, variable_cells, cell_types}
use Rattle.ol_spec.specs.Cell.{cell, cells}
use Rattle.ol_spec.specs.Types.{default, defaults}
use Rattle.ol_spec.specs.Limits.{base}
use Rattle.ol_spec.specs.Within.{ty_fits, var_ty_fits, name_fits, variable_fits, enum_fits, count_fits}
use Rattle.ol_spec.proofs.Tests.{T_and}
use Rattle.ol_spec.proofs.Lists.{concat_append}
use Rattle.ol_spec.specs.declared.Value.TheVariants as Val
use Rattle.ol_value.proofs.TypeCodes.{int_code}
use Rattle.ol_tables.specs.Tables.{ty_code, ty_enum, element_of, array_length, var_ty_at, code_at, enum_at, length_at, first_at}
use Rattle.ol_state.specs.Defaults.{default_cell, default_cells, widths_at, cells_at}
use Rattle.ol_state.proofs.Fits.{all_nth}

-- a declared type that fits: the type of its cells fits, and it has as many cells as its length tells
pub element_fits : (n : ℕ) (t : VarTy) → T (var_ty_fits base n t) → T (ty_fits n (element_of t))
element_fits n (scalar t) h = h
element_fits n (array m t) h = (T_and (count_fits 1 32 m) _ h).1

pub type_cells_lem : (n : ℕ) (t : VarTy) → T (var_ty_fits base n t) → type_cells t ≡ replicate (max (array_length t) 1) (element_of t)
type_cells_lem n (scalar t) h = refl
type_cells_lem n (array zero t) h = absurd h
type_cells_lem n (array (suc m) t) h = let e : suc m ≡ max (suc m) 1 = omega arith in ap (λ l. replicate l t) e

-- the types of these variables of node k stand in the table, the first of which is number i
pub record Stored (tab : List ℕ) (k : ℕ) (vs : List Variable) (i : ℕ) : Type 0 where
  pub codes : (j : ℕ) → j < length vs → code_at tab k (i + j) ≡ ty_code (element_of (var_ty_at vs j))
  pub numbers : (j : ℕ) → j < length vs → enum_at tab k (i + j) ≡ ty_enum (element_of (var_ty_at vs j))
  pub lengths : (j : ℕ) → j < length vs → length_at tab k (i + j) ≡ array_length (var_ty_at vs j)

-- that of variable i does
pub record StoredOne (tab : List ℕ) (k i : ℕ) (t : VarTy) : Type 0 where
  pub code : code_at tab k i ≡ ty_code (element_of t)
  pub number : enum_at tab k i ≡ ty_enum (element_of t)
  pub length : length_at tab k i ≡ array_length t

module _ (tab : List ℕ) (k : ℕ) (v : Variable) (vs : List Variable) (i : ℕ) (p : Stored tab k (v ∷ vs) i) where
  stored_first : StoredOne tab k i v.ty
  stored_first =
      let z : i + 0 ≡ i = omega arith in
      record {
        code = ap (code_at tab k) (sym z) ∙ p.codes 0 (omega arith);
        number = ap (enum_at tab k) (sym z) ∙ p.numbers 0 (omega arith);
        length = ap (length_at tab k) (sym z) ∙ p.lengths 0 (omega arith);
      }

  stored_rest : Stored tab k vs (i + 1)
  stored_rest =
      record {
        codes = λ j h. ap (code_at tab k) (shift j) ∙ p.codes (suc j) (omega arith);
        numbers = λ j h. ap (enum_at tab k) (shift j) ∙ p.numbers (suc j) (omega arith);
        lengths = λ j h. ap (length_at tab k) (shift j) ∙ p.lengths (suc j) (omega arith);
      }
    where
      shift : (j : ℕ) → i + 1 + j ≡ i + suc j
      shift j = omega arith

module _ (enums : List (List ℕ)) (rows : List ℕ) (firsts : (e : ℕ) → e < length enums → first_at rows e ≡ get_or (get_or enums e []) 0 0) (variants : T (all_of (enum_fits base) enums)) where
  -- an enum's first variant is a name
  pub first_short : (e : ℕ) → e < length enums → get_or (get_or enums e []) 0 0 < 65536
  first_short e h = go (get_or enums e []) (all_nth (enum_fits base) enums [] e variants h)
    where
      go : (vs : List ℕ) → T (enum_fits base vs) → get_or vs 0 0 < 65536
      go [] t = omega arith
      go (v ∷ vs) t = ltb→lt v 65536 (T_and (name_fits v) _ (T_and (count_fits 1 32 (length (v ∷ vs))) _ t).1).0

  -- a type's default cell
  pub default_told : (t : Ty) → T (ty_fits (length enums) t) → default_cell (ty_code t) (first_at rows (ty_enum t)) ≡ cell (default enums t)
  unfolding default_cell
  default_told bool h = refl
  default_told (int c) h =
      let w = T_and (leb 1 c) _ h in
      let lo = leb→le 1 c w.0 in
      let hi = leb→le c 8 w.1 in
      ap (λ (t : Ty). cell (default ((first_at rows 0 % 65536 ∷ []) ∷ []) t)) (int_code c 0 lo (omega arith))
  default_told float32 h = refl
  default_told float64 h = refl
  default_told char h = refl
  default_told (enum e) h =
      let l = ltb→lt e (length enums) h in
      let n : first_at rows e % 65536 ≡ get_or (get_or enums e []) 0 0 = omega (arith, firsts e l, first_short e l) in
      ap (λ (v : ℕ). cell (Val.Enum v)) n

  -- so many cells of it
  some_told : (t : Ty) (n : ℕ) → T (ty_fits (length enums) t) → default_cells (ty_code t) (first_at rows (ty_enum t)) n ≡ cells (defaults enums (replicate n t))
  unfolding default_cells
  some_told t zero h = refl
  some_told t (suc n) h = ap₂ {C = List ℕ} (λ a b. a ++ b) (default_told t h) (some_told t n h)

  -- the cells of a variable
  pub variable_told : (t : VarTy) → T (var_ty_fits base (length enums) t) → default_cells (ty_code (element_of t)) (first_at rows (ty_enum (element_of t))) (max (array_length t) 1) ≡ cells (defaults enums (type_cells t))
  variable_told t h =
      some_told (element_of t) (max (array_length t) 1) (element_fits (length enums) t h) ∙ ap (λ ts. cells (defaults enums ts)) (sym (type_cells_lem (length enums) t h))

  module _ (tab : List ℕ) (k : ℕ) where
    -- the cells of these variables, the first of which is number i
    pub cells_told : (vs : List Variable) (i : ℕ) → T (all_of (variable_fits base (length enums)) vs) → Stored tab k vs i → cells_at tab rows k i (length vs) ≡ cells (defaults enums (cell_types vs))
    unfolding cells_at
    cells_told [] i t p = refl
    cells_told (v ∷ vs) i t p =
        let w = T_and (variable_fits base (length enums) v) _ t in
        let q = stored_first tab k v vs i p in
        let r = cells_told vs (i + 1) w.1 (stored_rest tab k v vs i p) in
        ap₂ {C = List ℕ} (λ a b. a ++ b) ((λ j. default_cells (q.code j) (first_at rows (q.number j)) (max (q.length j) 1)) ∙ variable_told v.ty (T_and (name_fits v.name) _ w.0).1) r
        ∙ sym (cells_join (variable_cells v) (cell_types vs))
      where
        cells_join : (a b : List Ty) → cells (defaults enums (a ++ b)) ≡ cells (defaults enums a) ++ cells (defaults enums b)
        cells_join a b =
            ap cells (map-append (default enums) a b) ∙ ap concat (map-append cell (defaults enums a) (defaults enums b)) ∙ concat_append (map cell (defaults enums a)) (map cell (defaults enums b))

    -- how many there are
    pub count_told : (vs : List Variable) (i : ℕ) → T (all_of (variable_fits base (length enums)) vs) → Stored tab k vs i → widths_at tab k i (length vs) ≡ length (cell_types vs)
    unfolding widths_at
    count_told [] i t p = refl
    count_told (v ∷ vs) i t p =
        let w = T_and (variable_fits base (length enums) v) _ t in
        let q = stored_first tab k v vs i p in
        let r = count_told vs (i + 1) w.1 (stored_rest tab k v vs i p) in
        let n = ap length (type_cells_lem (length enums) v.ty (T_and (name_fits v.name) _ w.0).1) ∙ length-replicate (max (array_length v.ty) 1) (element_of v.ty) in
        ap₂ ◌+◌ (ap (λ l. max l 1) q.length ∙ sym n) r ∙ sym (length-append (variable_cells v) (cell_types vs))
