-- A list of named types, such as variables and constants are: where a name's first cell stands among the cells, and which array's length it has.
use Prim.Native.Nat.{ℕ, zero, suc, ◌+◌, ◌≤◌, ◌<◌}
use mathlib.Core.Bool.{Bool, true, false, cond}
use mathlib.Core.List.{List, [], ◌∷◌, ◌++◌, map}
use mathlib.Core.Option.{Option, none, some}
use mathlib.Core.Path.{◌≡◌, refl, sym, ap, subst, ◌∙◌}
use native.Mathlib.Omega.{arith}
use lib.ListN.{length, get_or, take, replicate, length-append, length-replicate}
use lib.Dec.{eqb}
use borrow.Author.Tests.{eqb-true}
use Rattle.ol_theory.specs.Member.{◌∈◌, Distinct}
use Rattle.ol_spec.specs.Lists.{concat, position, position_if}
use Rattle.ol_spec.specs.Syntax.{Ty, VarTy, scalar, array, type_cells, named_cells, length_in}
use Rattle.ol_spec.specs.Shapes.{add_sized, length_for}
use Rattle.ol_spec.proofs.Slots.{slotted, sized, no_length}

-- a position behind so many others
abbrev shift : ℕ → Option ℕ → Option ℕ
shift n none = none
shift n (some i) = some (n + i)

shift_one : (n : ℕ) (o : Option ℕ) → position_if false (shift n o) ≡ shift (suc n) o
shift_one n none = refl
shift_one n (some i) = ap some (omega arith)

position_skip : (x y : ℕ) (b : List ℕ) → eqb x y ≡ false → (n : ℕ) → position x (replicate n y ++ b) ≡ shift n (position x b)
position_skip x y b e zero = go (position x b)
  where
    go : (o : Option ℕ) → o ≡ shift 0 o
    go none = refl
    go (some i) = ap some (omega arith)
position_skip x y b e (suc n) = ap (λ q. position_if q (position x (replicate n y ++ b))) e ∙ ap (position_if false) (position_skip x y b e n) ∙ shift_one n (position x b)

named_skip : (x y : ℕ) (t : VarTy) (b : List ℕ) → eqb x y ≡ false → position x (named_cells y t ++ b) ≡ shift (length (type_cells t)) (position x b)
named_skip x y (scalar t) b e = position_skip x y b e 1
named_skip x y (array n t) b e = position_skip x y b e n ∙ ap (λ m. shift m (position x b)) (sym (length-replicate n t))

named_here : (x y : ℕ) (t : VarTy) (b : List ℕ) → eqb x y ≡ true → 1 ≤ length (type_cells t) → position x (named_cells y t ++ b) ≡ some 0
named_here x y (scalar t) b e some_cells = ap (λ q. position_if q (position x b)) e
named_here x y (array zero t) b e some_cells = absurd (omega arith)
named_here x y (array (suc n) t) b e some_cells = ap (λ q. position_if q (position x (replicate n y ++ b))) e

module _ {A : Type 0} (name : A → ℕ) (ty : A → VarTy) (d : A) where
  abbrev pub cells : A → List Ty
  cells a = type_cells (ty a)

  -- a name's first cell stands behind those of the names before it
  pub cell_position : (x : ℕ) (as' : List A) → ((j : ℕ) → j < length as' → 1 ≤ length (cells (get_or as' j d))) → (i : ℕ) → position x (map name as') ≡ some i → position x (concat (map (slotted name ty) as')) ≡ some (length (concat (map cells (take i as'))))
  cell_position x [] filled i e = let z : ◌≡◌ {A = ℕ} 0 1 = cc in absurd (omega arith)
  cell_position x (a ∷ as') filled i e = go (λ j q. cell_position x as' (λ m lt. filled (suc m) (omega arith)) j q) (eqb x (name a)) refl (position x (map name as')) refl e
    where
      rest : List ℕ
      rest = concat (map (slotted name ty) as')

      go : ((j : ℕ) → position x (map name as') ≡ some j → position x rest ≡ some (length (concat (map cells (take j as'))))) → (b : Bool) → eqb x (name a) ≡ b → (o : Option ℕ) → position x (map name as') ≡ o → position_if b o ≡ some i
          → position x (slotted name ty a ++ rest) ≡ some (length (concat (map cells (take i (a ∷ as')))))
      go on true eb o eo q = let z : 0 ≡ i = cc in rw (← z) (named_here x (name a) (ty a) rest eb (filled 0 (omega arith)))
      go on false eb none eo q = let z : ◌≡◌ {A = ℕ} 0 1 = cc in absurd (omega arith)
      go on false eb (some j) eo q =
          let z : suc j ≡ i = cc in
          rw (← z)
          (named_skip x (name a) (ty a) rest eb ∙ ap (shift (length (cells a))) (on j eo)
          ∙ ap some (sym (length-append (cells a) (concat (map cells (take j as'))))))

  pub cell_absent : (x : ℕ) (as' : List A) → position x (map name as') ≡ none → position x (concat (map (slotted name ty) as')) ≡ none
  cell_absent x [] e = refl
  cell_absent x (a ∷ as') e = go (cell_absent x as') (eqb x (name a)) refl (position x (map name as')) refl e
    where
      go : (position x (map name as') ≡ none → position x (concat (map (slotted name ty) as')) ≡ none) → (b : Bool) → eqb x (name a) ≡ b → (o : Option ℕ) → position x (map name as') ≡ o → position_if b o ≡ none → position x (slotted name ty a ++ concat (map (slotted name ty) as')) ≡ none
      go on true eb o eo q = let z : ◌≡◌ {A = ℕ} 0 1 = cc in absurd (omega arith)
      go on false eb none eo q = named_skip x (name a) (ty a) _ eb ∙ ap (shift (length (cells a))) (on eo)
      go on false eb (some j) eo q = let z : ◌≡◌ {A = ℕ} 0 1 = cc in absurd (omega arith)

  -- the length that a name has is its own type's, where no name is twice there
  pub own_length : (x : ℕ) (as' : List A) → Distinct (map name as') → (i : ℕ) → position x (map name as') ≡ some i → length_for x (sized name ty as') ≡ length_in (ty (get_or as' i d))
  own_length x [] dist i e = let z : ◌≡◌ {A = ℕ} 0 1 = cc in absurd (omega arith)
  own_length x (a ∷ as') dist i e = go (own_length x as' dist.1) (eqb x (name a)) refl (position x (map name as')) refl e
    where
      mine : eqb x (name a) ≡ true → (o : Option ℕ) → length_for x (add_sized (name a) o (sized name ty as')) ≡ o
      mine eb none = no_length name ty as' x (λ m. dist.0 (subst (λ y. y ∈ map name as') (eqb-true x (name a) eb) m))
      mine eb (some n) = ap (λ b. cond b (some n) (length_for x (sized name ty as'))) eb

      other : eqb x (name a) ≡ false → (o : Option ℕ) → length_for x (add_sized (name a) o (sized name ty as')) ≡ length_for x (sized name ty as')
      other eb none = refl
      other eb (some n) = ap (λ b. cond b (some n) (length_for x (sized name ty as'))) eb

      go : ((j : ℕ) → position x (map name as') ≡ some j → length_for x (sized name ty as') ≡ length_in (ty (get_or as' j d))) → (b : Bool) → eqb x (name a) ≡ b → (o : Option ℕ) → position x (map name as') ≡ o → position_if b o ≡ some i → length_for x (sized name ty (a ∷ as')) ≡ length_in (ty (get_or (a ∷ as') i d))
      go on true eb o eo q = let z : 0 ≡ i = cc in rw (← z) (mine eb (length_in (ty a)))
      go on false eb none eo q = let z : ◌≡◌ {A = ℕ} 0 1 = cc in absurd (omega arith)
      go on false eb (some j) eo q = let z : suc j ≡ i = cc in rw (← z) (other eb (length_in (ty a)) ∙ on j eo)

  pub absent_length : (x : ℕ) (as' : List A) → position x (map name as') ≡ none → length_for x (sized name ty as') ≡ none
  absent_length x [] e = refl
  absent_length x (a ∷ as') e = go (absent_length x as') (eqb x (name a)) refl (position x (map name as')) refl e
    where
      other : eqb x (name a) ≡ false → (o : Option ℕ) → length_for x (add_sized (name a) o (sized name ty as')) ≡ length_for x (sized name ty as')
      other eb none = refl
      other eb (some n) = ap (λ b. cond b (some n) (length_for x (sized name ty as'))) eb

      go : (position x (map name as') ≡ none → length_for x (sized name ty as') ≡ none) → (b : Bool) → eqb x (name a) ≡ b → (o : Option ℕ) → position x (map name as') ≡ o → position_if b o ≡ none → length_for x (sized name ty (a ∷ as')) ≡ none
      go on true eb o eo q = let z : ◌≡◌ {A = ℕ} 0 1 = cc in absurd (omega arith)
      go on false eb none eo q = other eb (length_in (ty a)) ∙ on eo
      go on false eb (some j) eo q = let z : ◌≡◌ {A = ℕ} 0 1 = cc in absurd (omega arith)
