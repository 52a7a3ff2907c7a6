-- Truth values as equations, and `member` over two lists.
use Prim.Native.Nat.{ℕ}
use mathlib.Core.Bool.{Bool, true, false, ◌&&◌, ◌||◌, true≢false}
use mathlib.Core.List.{List, [], ◌∷◌, ◌++◌}
use mathlib.Core.Logic.{◌⊎◌, inl, inr, ⊎_elim}
use mathlib.Core.Path.{◌≡◌, refl, sym, ap, ◌∙◌}
use lib.Dec.{eqb}
use Rattle.ol_spec.specs.Lists.{member}
use Rattle.ol_spec.proofs.Tests.{T_and, T-or, T_true, true_t, T_false, or_right}

pub no_truth : {b : Bool} → b ≡ true → b ≡ false → ⊥
no_truth t f = true≢false (sym t ∙ f)

pub never : (b : Bool) → (b ≡ true → ⊥) → b ≡ false
never b h = T_false b (λ t. h (T_true b t))

pub and_split : (a b : Bool) → a && b ≡ true → (a ≡ true) × (b ≡ true)
and_split a b e = let t = T_and a b (true_t (a && b) e) in (T_true a t.0, T_true b t.1)

pub or_split : (a b : Bool) → a || b ≡ true → (a ≡ true) ⊎ (b ≡ true)
or_split a b e = ⊎_elim (λ t. inl (T_true a t)) (λ t. inr (T_true b t)) (T-or a b (true_t (a || b) e))

pub or_behind : (a b : Bool) → b ≡ true → a || b ≡ true
or_behind a b e = T_true (a || b) (or_right a b (true_t b e))

pub member_front : (x : ℕ) (a b : List ℕ) → member x a ≡ true → member x (a ++ b) ≡ true
member_front x [] b m = absurd (no_truth m refl)
member_front x (y ∷ a) b m = ⊎_elim (λ t. ap (λ q. q || member x (a ++ b)) t) (λ t. or_behind (eqb x y) (member x (a ++ b)) (member_front x a b t)) (or_split (eqb x y) (member x a) m)

pub member_behind : (x : ℕ) (a b : List ℕ) → member x b ≡ true → member x (a ++ b) ≡ true
member_behind x [] b m = m
member_behind x (y ∷ a) b m = or_behind (eqb x y) (member x (a ++ b)) (member_behind x a b m)
