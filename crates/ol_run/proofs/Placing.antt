-- What holds of all items of a section, with their places, holds of each of them.
use Prim.Native.Nat.{ℕ, zero, suc, ◌+◌, ◌<◌}
use mathlib.Core.Bool.{Bool}
use mathlib.Core.List.{List, [], ◌∷◌, ◌++◌, map}
use mathlib.Core.Path.{◌≡◌, refl, sym, subst}
use native.Mathlib.Omega.{arith}
use lib.ListN.{length, get_or}
use lib.Dec.{T}
use Rattle.ol_spec.specs.Lists.{all_of}
use Rattle.ol_spec.specs.Places.{placed}
use Rattle.ol_spec.specs.Admission.{Item, numbered}
use Rattle.ol_spec.proofs.Tests.{T_and}
use Rattle.ol_spec.proofs.Lists.{All}
use Rattle.ol_spec.proofs.Admits.{Clean}
use Rattle.ol_tables.specs.Tables.{Each, Sound}

module _ {A : Type 0} where
  -- the two ways to say it of a list
  pub each_all : (P : A → Type 0) (xs : List A) → Each P xs → All P xs
  each_all P [] h = tt
  each_all P (x ∷ xs) h = (h.0, each_all P xs h.1)

  pub all_each : (P : A → Type 0) (xs : List A) → All P xs → Each P xs
  all_each P [] h = tt
  all_each P (x ∷ xs) h = (h.0, all_each P xs h.1)

  pub each_two : (P Q R : A → Type 0) → ((a : A) → P a → Q a → R a) → (xs : List A) → Each P xs → Each Q xs → Each R xs
  each_two P Q R f [] h k = tt
  each_two P Q R f (x ∷ xs) h k = (f x h.0 k.0, each_two P Q R f xs h.1 k.1)

  pub all_right : (P : A → Type 0) (a b : List A) → All P (a ++ b) → All P b
  all_right P [] b h = h
  all_right P (x ∷ a) b h = all_right P a b h.1

  pub fits_all : (p : A → Bool) (xs : List A) → T (all_of p xs) → All (λ x. T (p x)) xs
  fits_all p [] t = tt
  fits_all p (x ∷ xs) t = let w = T_and (p x) (all_of p xs) t in (w.0, fits_all p xs w.1)

-- items without fault
pub clean_sound : (is : List Item) → Clean is → Each Sound is
clean_sound [] c = tt
clean_sound (i ∷ is) c = (c.0, clean_sound is c.1)

module _ {A : Type 0} (size : A → ℕ) where
  -- item number i, with its place
  pub item_at : (P : ℕ × A → Type 0) (d : ℕ × A) (at : ℕ) (xs : List A) (i : ℕ) → i < length xs → All P (placed size at xs) → P ((get_or (placed size at xs) i d).0, get_or xs i d.1)
  item_at P d at [] i lt h = absurd (omega arith)
  item_at P d at (x ∷ xs) zero lt h = h.0
  item_at P d at (x ∷ xs) (suc i) lt h = item_at P d (at + size x) xs i (omega arith) h.1

  -- the same, with its place in the list of places
  pub place_at_lem : (P : ℕ × A → Type 0) (d : A) (at : ℕ) (xs : List A) (i : ℕ) → i < length xs → All P (placed size at xs) → P (get_or (map (λ p. p.0) (placed size at xs)) i 0, get_or xs i d)
  place_at_lem P d at [] i lt h = absurd (omega arith)
  place_at_lem P d at (x ∷ xs) zero lt h = h.0
  place_at_lem P d at (x ∷ xs) (suc i) lt h = place_at_lem P d (at + size x) xs i (omega arith) h.1

  -- and with its number
  pub number_at : (P : ℕ × (ℕ × A) → Type 0) (d : A) (first at : ℕ) (xs : List A) → All P (numbered first (placed size at xs)) → (i j : ℕ) → j ≡ first + i → i < length xs
      → P (j, (get_or (map (λ p. p.0) (placed size at xs)) i 0, get_or xs i d))
  number_at P d first at [] h i j e lt = absurd (omega arith)
  number_at P d first at (x ∷ xs) h zero j e lt = let z : j ≡ first = omega arith in subst (λ y. P (y, (at, x))) (sym z) h.0
  number_at P d first at (x ∷ xs) h (suc i) j e lt = number_at P d (suc first) (at + size x) xs h.1 i j (omega arith) (omega arith)

  -- the item of a pair is the item of the list
  pub item_is : (d : ℕ × A) (at : ℕ) (xs : List A) (i : ℕ) → i < length xs → (get_or (placed size at xs) i d).1 ≡ get_or xs i d.1
  item_is d at [] i lt = absurd (omega arith)
  item_is d at (x ∷ xs) zero lt = refl
  item_is d at (x ∷ xs) (suc i) lt = item_is d (at + size x) xs i (omega arith)

  -- what holds of all pairs holds of a pair
  pub pair_at : (P : ℕ × A → Type 0) (d : ℕ × A) (at : ℕ) (xs : List A) (i : ℕ) → i < length xs → All P (placed size at xs) → P (get_or (placed size at xs) i d)
  pair_at P d at [] i lt h = absurd (omega arith)
  pair_at P d at (x ∷ xs) zero lt h = h.0
  pair_at P d at (x ∷ xs) (suc i) lt h = pair_at P d (at + size x) xs i (omega arith) h.1
