-- Slots: the positions of the cells that bear a name. A variable has as many as its type has cells, where names are distinct.
use Prim.Native.Nat.{ℕ, zero, suc, ◌+◌, ◌<◌}
use mathlib.Core.Bool.{Bool, true, false, cond}
use mathlib.Core.List.Memᴰ
use mathlib.Core.List.Memᴰ.{append_cases as in_append}
use mathlib.Core.List.Memᴰ.{append_left as in_left}
use mathlib.Core.List.Memᴰ.{append_right as in_right}
use mathlib.Core.List.Memᴰ.{cases_cons as in_cons}
use mathlib.Core.List.Memᴰ.{head as here}
use mathlib.Core.List.Memᴰ.{not-nil as in_nil}
use mathlib.Core.List.Memᴰ.{tail as there}
use mathlib.Core.List.{List, [], ◌∷◌, ◌++◌, map}
use mathlib.Core.Logic.{⊎_elim}
use mathlib.Core.Option.{Option, none, some}
use mathlib.Core.Path.{◌≡◌, refl, sym, ap, ap₂, subst, ◌∙◌}
use native.Mathlib.Omega.{arith}
use lib.ListN.{length, get_or, length-append, length-replicate, replicate}
use lib.Dec.{T, eqb, eqb→eq, eqb_refl}
use Rattle.ol_theory.specs.Member.{◌∈◌, Distinct}
use Rattle.ol_spec.specs.Lists.{maybe, concat, put_if, positions_from, positions}
use Rattle.ol_spec.specs.Syntax.{VarTy, scalar, array, Variable, Node, name_of, variables, variable_slots, variable_cells, cell_names, cell_types, named_cells, type_cells, length_in}
use Rattle.ol_spec.specs.Shapes.{Sized, add_sized, length_for}
use Rattle.ol_spec.specs.Step.{slots_of}
use Rattle.ol_spec.proofs.Tests.{T_true, T_false, eq_eqb}
use Rattle.ol_spec.proofs.Lists.{distinct_join}

-- ---- positions

if_get : (b : Bool) (i j : ℕ) (r : List ℕ) (P : ℕ → Type 0) → (T b → P i) → ((j : ℕ) → j ∈ r → P j) → j ∈ put_if b i r → P j
if_get true i j r P f g m = ⊎_elim (λ e. subst P (sym e) (f tt)) (g j) (in_cons m)
if_get false i j r P f g m = g j m

-- a position from i on is that of an occurrence
abbrev Occurs : ℕ → ℕ → List ℕ → ℕ → Type 0
Occurs i x ns j = (k : ℕ) × (j ≡ i + k) × (k < length ns) × (get_or ns k 0 ≡ x)

pub positions_get : (i x : ℕ) (ns : List ℕ) (j : ℕ) → j ∈ positions_from i x ns → Occurs i x ns j
positions_get i x [] j m = absurd (in_nil m)
positions_get i x (n ∷ ns) j m =
    if_get (eqb x n) i j (positions_from (suc i) x ns) (Occurs i x (n ∷ ns)) (λ t. (0, omega arith, omega arith, sym (eqb→eq x n t)))
    (λ j m. let w = positions_get (suc i) x ns j m in (suc w.0, omega (arith, w.1), omega (arith, w.2), w.3)) m

put_tail_lem : (b : Bool) (i j : ℕ) (r : List ℕ) → j ∈ r → j ∈ put_if b i r
put_tail_lem true i j r m = there m
put_tail_lem false i j r m = m

put_head : (b : Bool) (i : ℕ) (r : List ℕ) → T b → i ∈ put_if b i r
put_head true i r t = here refl
put_head false i r t = absurd t

pub get_positions : (i x : ℕ) (ns : List ℕ) (k : ℕ) → k < length ns → get_or ns k 0 ≡ x → (i + k) ∈ positions_from i x ns
get_positions i x [] k b e = absurd (omega arith)
get_positions i x (n ∷ ns) zero b e = let z : i + 0 ≡ i = omega arith in rw z (put_head (eqb x n) i (positions_from (suc i) x ns) (eq_eqb x n (sym e)))
get_positions i x (n ∷ ns) (suc k) b e =
    let z : i + suc k ≡ suc i + k = omega arith in
    rw z (put_tail_lem (eqb x n) i (suc i + k) (positions_from (suc i) x ns) (get_positions (suc i) x ns k (omega arith) e))

distinct_put : (b : Bool) (i : ℕ) (r : List ℕ) → Distinct r → ¬ (i ∈ r) → Distinct (put_if b i r)
distinct_put true i r d h = (h, d)
distinct_put false i r d h = d

pub positions_distinct : (i x : ℕ) (ns : List ℕ) → Distinct (positions_from i x ns)
positions_distinct i x [] = tt
positions_distinct i x (n ∷ ns) =
    distinct_put (eqb x n) i (positions_from (suc i) x ns) (positions_distinct (suc i) x ns) (λ m. let w = positions_get (suc i) x ns i m in omega (arith, w.1))

-- ---- the slots of names

module _ (n : Node) where
  abbrev names : List ℕ
  names = cell_names (variables n)

  pub in_slots : (xs : List ℕ) (j : ℕ) → j ∈ slots_of n xs → (x : ℕ) × (x ∈ xs) × (j < length names) × (get_or names j 0 ≡ x)
  in_slots [] j m = absurd (in_nil m)
  in_slots (x ∷ xs) j m =
      ⊎_elim
      (λ k. let w = positions_get 0 x names j k in let e : j ≡ w.0 = omega (arith, w.1) in (x, here refl, omega (arith, w.2), ap (λ i. get_or names i 0) e ∙ w.3))
      (λ k. let w = in_slots xs j k in (w.0, there w.1, w.2, w.3))
      (in_append (positions x names) m)

  pub at_position : (x j : ℕ) → j < length names → get_or names j 0 ≡ x → j ∈ positions x names
  at_position x j b e = let z : 0 + j ≡ j = omega arith in subst (λ i. i ∈ positions x names) z (get_positions 0 x names j b e)

  pub slots_in : (xs : List ℕ) (x j : ℕ) → x ∈ xs → j < length names → get_or names j 0 ≡ x → j ∈ slots_of n xs
  slots_in [] x j m b e = absurd (in_nil m)
  slots_in (y ∷ xs) x j m b e =
      ⊎_elim (λ p. in_left (slots_of n xs) (at_position y j b (e ∙ p))) (λ k. in_right (positions y names) (slots_in xs x j k b e)) (in_cons m)

  pub slots_distinct : (xs : List ℕ) → Distinct xs → Distinct (slots_of n xs)
  slots_distinct [] d = tt
  slots_distinct (x ∷ xs) d =
      distinct_join (positions x names) (slots_of n xs) (positions_distinct 0 x names) (slots_distinct xs d.1) (λ j m k.
      let w = positions_get 0 x names j m in
      let v = in_slots xs j k in
      let e : j ≡ w.0 = omega (arith, w.1) in
      d.0 (Memᴰ.cast (sym (sym v.3 ∙ ap (λ i. get_or names i 0) e ∙ w.3)) v.1))

-- ---- names and types of cells

slots_length : (v : Variable) → length (variable_slots v) ≡ length (variable_cells v)
slots_length v = go v.ty
  where
    go : (t : VarTy) → length (named_cells v.name t) ≡ length (type_cells t)
    go (scalar t) = refl
    go (array m t) = length-replicate m v.name ∙ sym (length-replicate m t)

pub names_length : (vs : List Variable) → length (cell_names vs) ≡ length (cell_types vs)
names_length [] = refl
names_length (v ∷ vs) = length-append (variable_slots v) (cell_names vs) ∙ omega (arith, slots_length v, names_length vs, length-append (variable_cells v) (cell_types vs))

in_replicate : (m x y : ℕ) → y ∈ replicate m x → y ≡ x
in_replicate zero x y m = absurd (in_nil m)
in_replicate (suc k) x y m = ⊎_elim (λ e. e) (in_replicate k x y) (in_cons m)

pub in_named : (t : VarTy) (x y : ℕ) → y ∈ named_cells x t → y ≡ x
in_named (scalar t) x y m = ⊎_elim (λ e. e) (λ k. absurd (in_nil k)) (in_cons m)
in_named (array n t) x y m = in_replicate n x y m

-- a cell bears a variable's name
pub cell_name : (vs : List Variable) (y : ℕ) → y ∈ cell_names vs → y ∈ map name_of vs
cell_name [] y m = m
cell_name (v ∷ vs) y m = ⊎_elim (λ k. here (in_named v.ty v.name y k)) (λ k. there (cell_name vs y k)) (in_append (variable_slots v) m)

-- ---- how many cells bear a name

positions_append : (i x : ℕ) (a b : List ℕ) → length (positions_from i x (a ++ b)) ≡ length (positions_from i x a) + length (positions_from (i + length a) x b)
positions_append i x [] b = let z : i + 0 ≡ i = omega arith in rw z (omega arith)
positions_append i x (n ∷ a) b =
    let z : i + suc (length a) ≡ suc i + length a = omega arith in
    rw z (go (eqb x n) (positions_from (suc i) x (a ++ b)) (positions_from (suc i) x a) (positions_from (suc i + length a) x b) (positions_append (suc i) x a b))
  where
    go : (t : Bool) (l p q : List ℕ) → length l ≡ length p + length q → length (put_if t i l) ≡ length (put_if t i p) + length q
    go true l p q e = omega arith
    go false l p q e = e

pub positions_none : (i x : ℕ) (ns : List ℕ) → ¬ (x ∈ ns) → positions_from i x ns ≡ []
positions_none i x [] h = refl
positions_none i x (n ∷ ns) h = ap₂ (λ b r. put_if b i r) (T_false (eqb x n) (λ t. h (here (eqb→eq x n t)))) (positions_none (suc i) x ns (λ m. h (there m)))

pub positions_skip : (i x : ℕ) (a b : List ℕ) → ¬ (x ∈ a) → positions_from i x (a ++ b) ≡ positions_from (i + length a) x b
positions_skip i x [] b h = ap (λ k. positions_from k x b) (let z : i ≡ i + 0 = omega arith in z)
positions_skip i x (n ∷ a) b h =
    ap (λ t. put_if t i (positions_from (suc i) x (a ++ b))) (T_false (eqb x n) (λ t. h (here (eqb→eq x n t)))) ∙ positions_skip (suc i) x a b (λ m. h (there m))
    ∙ ap (λ k. positions_from k x b) (let z : suc i + length a ≡ i + suc (length a) = omega arith in z)

positions_all : (i x m : ℕ) → length (positions_from i x (replicate m x)) ≡ m
positions_all i x zero = refl
positions_all i x (suc m) = ap (λ b. length (put_if b i (positions_from (suc i) x (replicate m x)))) (T_true (eqb x x) (eqb_refl x)) ∙ ap suc (positions_all (suc i) x m)

own_positions : (i x : ℕ) (t : VarTy) → length (positions_from i x (named_cells x t)) ≡ length (type_cells t)
own_positions i x (scalar t) = ap (λ b. length (put_if b i [])) (T_true (eqb x x) (eqb_refl x))
own_positions i x (array m t) = positions_all i x m ∙ sym (length-replicate m t)

-- the cells of a type, by its shape
pub type_cells_lem : (t : VarTy) → length (type_cells t) ≡ maybe 1 (λ n. n) (length_in t)
type_cells_lem (scalar t) = refl
type_cells_lem (array m t) = length-replicate m t

-- a list of named types, such as variables and constants are
module _ {A : Type 0} (name : A → ℕ) (ty : A → VarTy) where
  abbrev pub slotted : A → List ℕ
  slotted a = named_cells (name a) (ty a)

  abbrev pub sized : List A → List Sized
  sized [] = []
  sized (a ∷ as') = add_sized (name a) (length_in (ty a)) (sized as')

  pub no_length : (as' : List A) (x : ℕ) → ¬ (x ∈ map name as') → length_for x (sized as') ≡ none
  no_length [] x h = refl
  no_length (a ∷ as') x h = go (length_in (ty a)) (no_length as' x (λ m. h (there m)))
    where
      go : (o : Option ℕ) → length_for x (sized as') ≡ none → length_for x (add_sized (name a) o (sized as')) ≡ none
      go none e = e
      go (some n) e = ap (λ b. cond b (some n) (length_for x (sized as'))) (T_false (eqb x (name a)) (λ t. h (here (eqb→eq x (name a) t)))) ∙ e

  pub in_slotted : (as' : List A) (y : ℕ) → y ∈ concat (map slotted as') → y ∈ map name as'
  in_slotted [] y m = m
  in_slotted (a ∷ as') y m = ⊎_elim (λ k. here (in_named (ty a) (name a) y k)) (λ k. there (in_slotted as' y k)) (in_append (slotted a) m)

  abbrev pub rest : List A → List ℕ
  rest as' = concat (map slotted as')

  length_here : (a : A) (as' : List A) (x : ℕ) (o : Option ℕ) → x ≡ name a → length_for x (sized as') ≡ none
      → maybe 1 (λ n. n) (length_for x (add_sized (name a) o (sized as'))) ≡ maybe 1 (λ n. n) o
  length_here a as' x none e h = ap (maybe 1 (λ n. n)) h
  length_here a as' x (some n) e h = ap (λ b. maybe 1 (λ n. n) (cond b (some n) (length_for x (sized as')))) (T_true (eqb x (name a)) (eq_eqb x (name a) e))

  length_there : (a : A) (as' : List A) (x : ℕ) (o : Option ℕ) → ¬ (x ≡ name a)
      → maybe 1 (λ n. n) (length_for x (sized as')) ≡ maybe 1 (λ n. n) (length_for x (add_sized (name a) o (sized as')))
  length_there a as' x none h = refl
  length_there a as' x (some n) h = ap (λ b. maybe 1 (λ n. n) (cond b (some n) (length_for x (sized as')))) (sym (T_false (eqb x (name a)) (λ t. h (eqb→eq x (name a) t))))

  count_here : (i : ℕ) (a : A) (as' : List A) (x : ℕ) → Distinct (map name (a ∷ as')) → x ≡ name a
      → length (positions_from i x (rest (a ∷ as'))) ≡ maybe 1 (λ n. n) (length_for x (sized (a ∷ as')))
  count_here i a as' x d e =
      let out : ¬ (x ∈ map name as') = λ k. d.0 (Memᴰ.cast (sym e) k) in
      let none-behind = positions_none (i + length (slotted a)) x (rest as') (λ k. out (in_slotted as' x k)) in
      let own : length (positions_from i x (slotted a)) ≡ length (type_cells (ty a)) = ap (λ y. length (positions_from i x (named_cells y (ty a)))) (sym e) ∙ own_positions i x (ty a) in
      positions_append i x (slotted a) (rest as') ∙ ap (λ l. length (positions_from i x (slotted a)) + length l) none-behind ∙ omega (arith, own) ∙ type_cells_lem (ty a)
      ∙ sym (length_here a as' x (length_in (ty a)) e (no_length as' x out))

  count_there : (i : ℕ) (a : A) (as' : List A) (x : ℕ) → ¬ (x ≡ name a)
      → length (positions_from (i + length (slotted a)) x (rest as')) ≡ maybe 1 (λ n. n) (length_for x (sized as'))
      → length (positions_from i x (rest (a ∷ as'))) ≡ maybe 1 (λ n. n) (length_for x (sized (a ∷ as')))
  count_there i a as' x h e =
      let none_here = positions_none i x (slotted a) (λ k. h (in_named (ty a) (name a) x k)) in
      positions_append i x (slotted a) (rest as') ∙ ap (λ l. length l + length (positions_from (i + length (slotted a)) x (rest as'))) none_here ∙ omega (arith, e)
      ∙ length_there a as' x (length_in (ty a)) h

  -- as many as its shape says
  pub count_named : (i : ℕ) (as' : List A) (x : ℕ) → Distinct (map name as') → x ∈ map name as'
      → length (positions_from i x (rest as')) ≡ maybe 1 (λ n. n) (length_for x (sized as'))
  count_named i [] x d m = absurd (in_nil m)
  count_named i (a ∷ as') x d m =
      ⊎_elim (λ e. count_here i a as' x d e) (λ k. count_there i a as' x (λ e. d.0 (Memᴰ.cast (sym e) k)) (count_named (i + length (slotted a)) as' x d.1 k)) (in_cons m)
