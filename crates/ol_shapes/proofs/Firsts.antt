-- The first fault among listed items.
use Prim.Native.Nat.{ℕ, zero, suc, ◌+◌, ◌≤◌, ◌<◌}
use mathlib.Core.List.{List, [], ◌∷◌, map}
use mathlib.Core.Option.{Option, none, some}
use mathlib.Core.Path.{◌≡◌, refl, sym, ap, ◌∙◌}
use native.Mathlib.Omega.{arith}
use native.Mathlib.Numerals.{add-one}
use lib.ListN.{length, get_or, drop}
use lib.Seq.{drop-cons}
use Rattle.ol_spec.specs.Lists.{or_else}
use Rattle.ol_spec.specs.Admission.{first_some}
use Rattle.ol_shapes.proofs.Judging.{or_none_lem, or_some}

module _ {A : Type 0} (g : A → Option ℕ) (d : A) (xs : List A) where
  -- no item before number i is faulted
  abbrev pub FirstLeft : ℕ → Type 0
  FirstLeft i = first_some (map g xs) ≡ first_some (map g (drop i xs))

  module _ (i : ℕ) (l : first_some (map g xs) ≡ first_some (map g (drop i xs))) where
    first_step : i < length xs → first_some (map g xs) ≡ or_else (g (get_or xs i d)) (first_some (map g (drop (i + 1) xs)))
    first_step h = l ∙ ap (λ y. first_some (map g y)) (drop-cons xs i d h) ∙ ap (λ n. or_else (g (get_or xs i d)) (first_some (map g (drop n xs)))) (sym (add-one i))

    pub first_turn : i < length xs → none ≡ g (get_or xs i d) → first_some (map g xs) ≡ first_some (map g (drop (i + 1) xs))
    first_turn h e = first_step h ∙ or_none_lem (first_some (map g (drop (i + 1) xs))) (sym e)

    pub first_stop : i < length xs → {r : ℕ} → some r ≡ g (get_or xs i d) → some r ≡ first_some (map g xs)
    first_stop h e = sym (first_step h ∙ or_some (first_some (map g (drop (i + 1) xs))) (sym e))

    pub first_end : length xs ≤ i → none ≡ first_some (map g xs)
    first_end h = sym (l ∙ ap (λ y. first_some (map g y)) (drop_all xs i h))
      where
        drop_all : (xs : List A) (i : ℕ) → length xs ≤ i → drop i xs ≡ []
        drop_all [] zero h = refl
        drop_all [] (suc i) h = refl
        drop_all (x ∷ xs) zero h = absurd (omega arith)
        drop_all (x ∷ xs) (suc i) h = drop_all xs i (omega arith)
