-- The cells of variables and of constants: where the first cell of each stands, which cells bear its name, and of what type they are.
use Prim.Native.Nat.{ℕ, zero, suc, ◌+◌, ◌*◌, ◌≤◌, ◌<◌}
use mathlib.Core.Bool.{Bool, true, false, cond, false≢true}
use mathlib.Core.List.{List, [], ◌∷◌, ◌++◌, map, append-nil}
use mathlib.Core.Option.{Option, none, some}
use mathlib.Core.Path.{◌≡◌, refl, sym, ap, ap₂, subst, ◌∙◌}
use native.Mathlib.Omega.{arith}
use lib.Dec.{T, eqb, leb, leb→le, eqb→eq, eqb_refl}
use lib.ListN.{length, take, get_or, replicate, length-append, length-replicate, get_or-append}
use lib.Seq.{get_or-append-add}
use borrow.Author.Tests.{ne_eqb}
use Rattle.ol_theory.specs.Member.{◌∈◌, Distinct}
use Rattle.ol_spec.specs.Lists.{maybe, or_else, concat, all_of, from, position, position_if, positions_from, put_if}
use Rattle.ol_spec.specs.Syntax.{Ty, VarTy, scalar, array, Variable, Constant, File, name_of, constant_name, type_cells, named_cells, variable_cells, cell_types, cell_names, constant_cells, constant_slots, length_in}
use Rattle.ol_spec.specs.Shapes.{add_sized, length_for}
use Rattle.ol_spec.specs.Limits.{base}
use Rattle.ol_spec.specs.Within.{byte_fits, name_fits, count_fits, ty_fits, var_ty_fits, variable_fits, constant_fits}
use Rattle.ol_spec.specs.Admission.{constant_cell_names}
use Rattle.ol_spec.proofs.Tests.{T_and, T_true, eq_eqb}
use Rattle.ol_spec.proofs.Slots.{slotted, sized, rest, in_named, in_slotted, no_length, positions_none, positions_skip}
use Rattle.ol_tables.specs.Tables.{element_of, array_length, var_ty_of, first_cell, first_constant_cell, cell_of, cell_by, constant_names_to, Each}

-- ---- the cells of a type

pub named_length : (x : ℕ) (t : VarTy) → length (named_cells x t) ≡ length (type_cells t)
named_length x (scalar t) = refl
named_length x (array n t) = length-replicate n x ∙ sym (length-replicate n t)

-- a type within the limits has 1 to 32
pub some_cells : (enums : ℕ) (t : VarTy) → T (var_ty_fits base enums t) → (1 ≤ length (type_cells t)) × (length (type_cells t) ≤ 32)
some_cells enums (scalar t) f = (omega arith, omega arith)
some_cells enums (array n t) f =
    let w = T_and (leb 1 n) (leb n 32) (T_and (byte_fits n) _ (T_and (count_fits 1 32 n) (ty_fits enums t) f).0).1 in
    (omega (arith, length-replicate n t, leb→le 1 n w.0), omega (arith, length-replicate n t, leb→le n 32 w.1))

-- by the length that the table has: 0 for a scalar
pub cells_told : (enums : ℕ) (t : VarTy) → T (var_ty_fits base enums t) → length (type_cells t) ≡ cond (eqb (array_length t) 0) 1 (array_length t)
cells_told enums (scalar t) f = refl
cells_told enums (array n t) f =
    let some = (some_cells enums (array n t) f).0 in
    length-replicate n t ∙ rw (ne_eqb n 0 (λ e. omega (arith, e, length-replicate n t))) refl

get_replicate : {A : Type 0} (n j : ℕ) (a d : A) → j < n → get_or (replicate n a) j d ≡ a
get_replicate zero j a d h = absurd (omega arith)
get_replicate (suc n) zero a d h = refl
get_replicate (suc n) (suc j) a d h = get_replicate n j a d (omega arith)

-- each is of the element's type
pub cell_element : (t : VarTy) (j : ℕ) (d : Ty) → j < length (type_cells t) → get_or (type_cells t) j d ≡ element_of t
cell_element (scalar t) zero d h = refl
cell_element (scalar t) (suc j) d h = absurd (omega arith)
cell_element (array n t) j d h = get_replicate n j t d (omega (arith, length-replicate n t))

-- ---- the position of a name

later : ℕ → Option ℕ → Option ℕ
later n none = none
later n (some i) = some (n + i)

position_append : (x : ℕ) (a b : List ℕ) → position x (a ++ b) ≡ or_else (position x a) (later (length a) (position x b))
unfolding later
position_append x [] b = go (position x b)
  where
    go : (o : Option ℕ) → o ≡ later 0 o
    go none = refl
    go (some i) = ap some (omega arith)
position_append x (n ∷ a) b = ap (position_if (eqb x n)) (position_append x a b) ∙ go (eqb x n) (length a) (position x a) (position x b)
  where
    go : (t : Bool) (m : ℕ) (p q : Option ℕ) → position_if t (or_else p (later m q)) ≡ or_else (position_if t p) (later (suc m) q)
    go true m p q = refl
    go false m none none = refl
    go false m none (some j) = ap some (omega arith)
    go false m (some i) q = refl

position_other : (x y n : ℕ) → eqb x y ≡ false → position x (replicate n y) ≡ none
position_other x y zero e = refl
position_other x y (suc n) e = ap₂ position_if e (position_other x y n e)

position_named : (x y : ℕ) (t : VarTy) → 1 ≤ length (type_cells t) → position x (named_cells y t) ≡ cond (eqb x y) (some 0) none
position_named x y (scalar t) h = go (eqb x y)
  where
    go : (b : Bool) → position_if b none ≡ cond b (some 0) none
    go true = refl
    go false = refl
position_named x y (array zero t) h = absurd (omega arith)
position_named x y (array (suc n) t) h = go (eqb x y) refl
  where
    go : (b : Bool) → eqb x y ≡ b → position_if b (position x (replicate n y)) ≡ cond b (some 0) none
    go true e = refl
    go false e = ap (position_if false) (position_other x y n e)

-- the positions of a name in its own cells
positions_same : (i x n : ℕ) → positions_from i x (replicate n x) ≡ from i n
positions_same i x zero = refl
positions_same i x (suc n) = ap₂ (λ b r. put_if b i r) (T_true (eqb x x) (eqb_refl x)) (positions_same (suc i) x n)

positions_named : (i x : ℕ) (t : VarTy) → positions_from i x (named_cells x t) ≡ from i (length (type_cells t))
positions_named i x (scalar t) = ap (λ b. put_if b i []) (T_true (eqb x x) (eqb_refl x))
positions_named i x (array n t) = positions_same i x n ∙ ap (from i) (sym (length-replicate n t))

positions_join : (i x : ℕ) (a b : List ℕ) → positions_from i x (a ++ b) ≡ positions_from i x a ++ positions_from (i + length a) x b
positions_join i x [] b = ap (λ k. positions_from k x b) (let z : i ≡ i + 0 = omega arith in z)
positions_join i x (n ∷ a) b =
    let z : suc i + length a ≡ i + suc (length a) = omega arith in
    ap (put_if (eqb x n) i) (positions_join (suc i) x a b) ∙ go (eqb x n) (positions_from (suc i) x a) (positions_from (suc i + length a) x b)
    ∙ ap (λ k. put_if (eqb x n) i (positions_from (suc i) x a) ++ positions_from k x b) z
  where
    go : (t : Bool) (p q : List ℕ) → put_if t i (p ++ q) ≡ put_if t i p ++ q
    go true p q = refl
    go false p q = refl

-- ---- a list of named types, such as variables and constants are

module _ {A : Type 0} (name : A → ℕ) (ty : A → VarTy) where
  abbrev pub cells_in : A → List Ty
  cells_in a = type_cells (ty a)

  -- where the cells of number i start
  abbrev pub first : List A → ℕ → ℕ
  first as' i = length (concat (map cells_in (take i as')))

  abbrev pub Filled : List A → Type 0
  Filled as' = Each (λ a. 1 ≤ length (cells_in a)) as'

  -- the first cell that bears a name is the first of the first one of that name
  pub position_first : (as' : List A) (x : ℕ) → Filled as' → position x (rest name ty as') ≡ maybe none (λ i. some (first as' i)) (position x (map name as'))
  unfolding later
  position_first [] x h = refl
  position_first (a ∷ as') x h =
      position_append x (slotted name ty a) (rest name ty as')
      ∙ ap₂ (λ p q. or_else p (later (length (slotted name ty a)) q)) (position_named x (name a) (ty a) h.0) (position_first as' x h.1)
      ∙ go (eqb x (name a)) (position x (map name as'))
    where
      go : (t : Bool) (o : Option ℕ) → or_else (cond t (some 0) none) (later (length (slotted name ty a)) (maybe none (λ i. some (first as' i)) o)) ≡ maybe none (λ i. some (first (a ∷ as') i)) (position_if t o)
      go true o = refl
      go false none = refl
      go false (some i) = ap some (omega (arith, named_length (name a) (ty a), length-append (cells_in a) (concat (map cells_in (take i as')))))

  pub position_some : (as' : List A) (x i : ℕ) → Filled as' → position x (map name as') ≡ some i → position x (rest name ty as') ≡ some (first as' i)
  position_some as' x i h e = position_first as' x h ∙ ap (maybe none (λ i. some (first as' i))) e

  pub position_none : (as' : List A) (x : ℕ) → Filled as' → position x (map name as') ≡ none → position x (rest name ty as') ≡ none
  position_none as' x h e = position_first as' x h ∙ ap (maybe none (λ i. some (first as' i))) e

  -- the cells of number i, of n of them
  pub first_next : (d : A) (as' : List A) (i : ℕ) → i < length as' → first as' (suc i) ≡ first as' i + length (cells_in (get_or as' i d))
  first_next d [] i h = absurd (omega arith)
  first_next d (a ∷ as') zero h = length-append (cells_in a) [] ∙ omega arith
  first_next d (a ∷ as') (suc i) h =
      omega (arith, first_next d as' i (omega arith), length-append (cells_in a) (concat (map cells_in (take i as'))), length-append (cells_in a) (concat (map cells_in (take (suc i) as'))))

  pub first_inside : (d : A) (as' : List A) (i : ℕ) → i < length as' → first as' i + length (cells_in (get_or as' i d)) ≤ length (concat (map cells_in as'))
  first_inside d [] i h = absurd (omega arith)
  first_inside d (a ∷ as') zero h = omega (arith, length-append (cells_in a) (concat (map cells_in as')))
  first_inside d (a ∷ as') (suc i) h =
      omega (arith, first_inside d as' i (omega arith), length-append (cells_in a) (concat (map cells_in (take i as'))), length-append (cells_in a) (concat (map cells_in as')))

  -- a cell's type
  pub cell_type : (d : A) (e : Ty) (as' : List A) (i j : ℕ) → i < length as' → j < length (cells_in (get_or as' i d)) → get_or (concat (map cells_in as')) (first as' i + j) e ≡ element_of (ty (get_or as' i d))
  cell_type d e [] i j h k = absurd (omega arith)
  cell_type d e (a ∷ as') zero j h k =
      let z : 0 + j ≡ j = omega arith in
      rw z (get_or-append (cells_in a) (concat (map cells_in as')) e j k ∙ cell_element (ty a) j e k)
  cell_type d e (a ∷ as') (suc i) j h k =
      let z : first (a ∷ as') (suc i) + j ≡ length (cells_in a) + (first as' i + j) = omega (arith, length-append (cells_in a) (concat (map cells_in (take i as')))) in
      rw z (get_or-append-add (cells_in a) (concat (map cells_in as')) (first as' i + j) e ∙ cell_type d e as' i j (omega arith) k)

  -- where names are distinct, those of number i are all that bear its name
  pub positions_own : (d : A) (s : ℕ) (as' : List A) (x i : ℕ) → Distinct (map name as') → position x (map name as') ≡ some i
      → positions_from s x (rest name ty as') ≡ from (s + first as' i) (length (cells_in (get_or as' i d)))
  positions_own d s [] x i u e = let z : ◌≡◌ {A = ℕ} 0 1 = cc in absurd (omega arith)
  positions_own d s (a ∷ as') x i u e = go (eqb x (name a)) refl (position x (map name as')) refl i e (λ k p. positions_own d (s + length (slotted name ty a)) as' x k u.1 p)
    where
      go : (t : Bool) → eqb x (name a) ≡ t → (o : Option ℕ) → position x (map name as') ≡ o → (i : ℕ) → position_if t o ≡ some i
          → ((k : ℕ) → position x (map name as') ≡ some k → positions_from (s + length (slotted name ty a)) x (rest name ty as') ≡ from (s + length (slotted name ty a) + first as' k) (length (cells_in (get_or as' k d))))
          → positions_from s x (rest name ty (a ∷ as')) ≡ from (s + first (a ∷ as') i) (length (cells_in (get_or (a ∷ as') i d)))
      go true q o p zero e more =
          let same : x ≡ name a = eqb→eq x (name a) (subst T (sym q) tt) in
          let z : s ≡ s + 0 = omega arith in
          let out : ¬ (x ∈ map name as') = λ m. u.0 (subst (λ y. y ∈ map name as') same m) in
          positions_join s x (slotted name ty a) (rest name ty as')
          ∙ ap₂ (λ (p q : List ℕ). p ++ q) (ap (λ y. positions_from s x (named_cells y (ty a))) (sym same) ∙ positions_named s x (ty a)) (positions_none _ x (rest name ty as') (λ m. out (in_slotted name ty as' x m)))
          ∙ append-nil (from s (length (cells_in a))) ∙ ap (λ k. from k (length (cells_in a))) z
      go true q o p (suc i) e more = let z : ◌≡◌ {A = ℕ} 0 1 = cc in absurd (omega arith)
      go false q none p i e more = let z : ◌≡◌ {A = ℕ} 0 1 = cc in absurd (omega arith)
      go false q (some k) p i e more =
          let i-is : suc k ≡ i = cc in
          let z : s + length (slotted name ty a) + first as' k ≡ s + first (a ∷ as') (suc k) = omega (arith, named_length (name a) (ty a), length-append (cells_in a) (concat (map cells_in (take k as')))) in
          positions_skip s x (slotted name ty a) (rest name ty as') (λ m. false≢true (sym q ∙ T_true (eqb x (name a)) (eq_eqb x (name a) (in_named (ty a) (name a) x m))))
          ∙ more k p ∙ ap (λ n. from n (length (cells_in (get_or as' k d)))) z
          ∙ ap (λ n. from (s + first (a ∷ as') n) (length (cells_in (get_or (a ∷ as') n d)))) i-is

  -- its array's length
  pub length_own : (d : A) (as' : List A) (x i : ℕ) → Distinct (map name as') → position x (map name as') ≡ some i → length_for x (sized name ty as') ≡ length_in (ty (get_or as' i d))
  length_own d [] x i u e = let z : ◌≡◌ {A = ℕ} 0 1 = cc in absurd (omega arith)
  length_own d (a ∷ as') x i u e = go (eqb x (name a)) refl (position x (map name as')) refl i e (length_in (ty a)) refl (λ k p. length_own d as' x k u.1 p)
    where
      go : (t : Bool) → eqb x (name a) ≡ t → (o : Option ℕ) → position x (map name as') ≡ o → (i : ℕ) → position_if t o ≡ some i → (l : Option ℕ) → length_in (ty a) ≡ l
          → ((k : ℕ) → position x (map name as') ≡ some k → length_for x (sized name ty as') ≡ length_in (ty (get_or as' k d)))
          → length_for x (add_sized (name a) (length_in (ty a)) (sized name ty as')) ≡ length_in (ty (get_or (a ∷ as') i d))
      go true q o p zero e none y more =
          let same : x ≡ name a = eqb→eq x (name a) (subst T (sym q) tt) in
          rw y (no_length name ty as' x (λ m. u.0 (subst (λ y. y ∈ map name as') same m)))
      go true q o p zero e (some n) y more = rw (y, q) refl
      go true q o p (suc i) e l y more = let z : ◌≡◌ {A = ℕ} 0 1 = cc in absurd (omega arith)
      go false q none p i e l y more = let z : ◌≡◌ {A = ℕ} 0 1 = cc in absurd (omega arith)
      go false q (some k) p i e none y more = let i-is : suc k ≡ i = cc in rw y (more k p ∙ ap (λ n. length_in (ty (get_or (a ∷ as') n d))) i-is)
      go false q (some k) p i e (some n) y more = let i-is : suc k ≡ i = cc in rw (y, q) (more k p ∙ ap (λ n. length_in (ty (get_or (a ∷ as') n d))) i-is)

  -- the names of the cells of the first ones
  pub names_taken : (as' : List A) (i : ℕ) → rest name ty (take i as') ≡ take (first as' i) (rest name ty as')
  names_taken [] zero = refl
  names_taken [] (suc i) = refl
  names_taken (a ∷ as') zero = refl
  names_taken (a ∷ as') (suc i) =
      let own = slotted name ty a in
      let z : first (a ∷ as') (suc i) ≡ length own + first as' i = omega (arith, named_length (name a) (ty a), length-append (cells_in a) (concat (map cells_in (take i as')))) in
      ap (λ l. own ++ l) (names_taken as' i) ∙ sym (take_front own (rest name ty as') (first as' i)) ∙ ap (λ n. take n (own ++ rest name ty as')) (sym z)
    where
      take_front : (a b : List ℕ) (n : ℕ) → take (length a + n) (a ++ b) ≡ a ++ take n b
      take_front [] b n = ap (λ m. take m b) (let z : 0 + n ≡ n = omega arith in z)
      take_front (x ∷ a) b n = let z : suc (length a) + n ≡ suc (length a + n) = omega arith in rw z (ap (λ l. x ∷ l) (take_front a b n))

-- ---- variables, constants and their slots

pub variables_filled : (enums : ℕ) (vs : List Variable) → T (all_of (variable_fits base enums) vs) → Filled name_of var_ty_of vs
variables_filled enums [] t = tt
variables_filled enums (v ∷ vs) t =
    let w = T_and (variable_fits base enums v) _ t in
    ((some_cells enums v.ty (T_and (name_fits v.name) _ w.0).1).0, variables_filled enums vs w.1)

abbrev pub constant_ty : Constant → VarTy
constant_ty c = c.ty

pub constants_filled : (enums : ℕ) (cs : List Constant) → T (all_of (constant_fits base enums) cs) → Filled constant_name constant_ty cs
constants_filled enums [] t = tt
constants_filled enums (c ∷ cs) t =
    let w = T_and (constant_fits base enums c) _ t in
    ((some_cells enums c.ty (T_and (var_ty_fits base enums c.ty) _ (T_and (name_fits c.name) _ w.0).1).0).0, constants_filled enums cs w.1)

-- so many variables or constants have at most 32 cells each
pub few_cells : (enums : ℕ) (vs : List Variable) → T (all_of (variable_fits base enums) vs) → length (cell_types vs) ≤ 32 * length vs
few_cells enums [] t = omega arith
few_cells enums (v ∷ vs) t =
    let w = T_and (variable_fits base enums v) _ t in
    omega (arith, (some_cells enums v.ty (T_and (name_fits v.name) _ w.0).1).1, few_cells enums vs w.1, length-append (variable_cells v) (cell_types vs))

pub few_constant_cells : (enums : ℕ) (cs : List Constant) → T (all_of (constant_fits base enums) cs) → length (concat (map constant_cells cs)) ≤ 32 * length cs
few_constant_cells enums [] t = omega arith
few_constant_cells enums (c ∷ cs) t =
    let w = T_and (constant_fits base enums c) _ t in
    omega (arith, (some_cells enums c.ty (T_and (var_ty_fits base enums c.ty) _ (T_and (name_fits c.name) _ w.0).1).0).1, few_constant_cells enums cs w.1, length-append (constant_cells c) (concat (map constant_cells cs)))

-- the cell of a name, by its place among the variables and the constants
module _ (vs : List Variable) (cs : List Constant) (filled : Filled name_of var_ty_of vs) (known : Filled constant_name constant_ty cs) (x : ℕ) where
  abbrev cell : ℕ
  cell = cell_of (cell_names vs) (concat (map constant_slots cs)) x

  pub cell_variable : (i : ℕ) → position x (map name_of vs) ≡ some i → cell ≡ first_cell vs i
  cell_variable i e = ap (λ o. cell_by o (position x (concat (map constant_slots cs)))) (position_some name_of var_ty_of vs x i filled e)

  pub cell_constant : (i : ℕ) → position x (map name_of vs) ≡ none → position x (map constant_name cs) ≡ some i → cell ≡ 3584 + first_constant_cell cs i
  cell_constant i n e = ap₂ cell_by (position_none name_of var_ty_of vs x filled n) (position_some constant_name constant_ty cs x i known e)

  pub cell_variant : position x (map name_of vs) ≡ none → position x (map constant_name cs) ≡ none → cell ≡ 65535
  cell_variant n e = ap₂ cell_by (position_none name_of var_ty_of vs x filled n) (position_none constant_name constant_ty cs x known e)

-- the names of the cells of the constants before number i
pub names_before : (f : File) (i : ℕ) → constant_names_to f i ≡ take (first_constant_cell f.constants i) (constant_cell_names f)
names_before f i = names_taken constant_name constant_ty f.constants i
