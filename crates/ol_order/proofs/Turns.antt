-- The equations that start at the places of a table.
use Prim.Native.Nat.{ℕ, zero, suc, ◌<◌}
use mathlib.Core.Bool.{true}
use mathlib.Core.List.{List, [], ◌∷◌}
use mathlib.Core.Path.{◌≡◌, refl}
use native.Mathlib.Omega.{arith}
use lib.ListN.{length, get_or, length-map}
use Rattle.ol_spec.specs.Syntax.{Equation}
use Rattle.ol_spec.specs.declared.Limits.{Limits}
use Rattle.ol_spec.specs.Read.{Read, got, fault, equation_r}
use Rattle.ol_order.specs.Tables.{is_got, equation_in, no_equation, equation_at, equations_at}
use Rattle.ol_order.specs.Post.{Readable}

module _ (s : List ℕ) (l : Limits) (enums : ℕ) where
  abbrev pub equations : List ℕ → List Equation
  equations starts = equations_at s l enums starts

  pub as_many : (starts : List ℕ) → length (equations starts) ≡ length starts
  as_many starts = length-map starts (equation_at s l enums)

  -- the equation at a place
  pub equation_here : (starts : List ℕ) (k : ℕ) → k < length starts → get_or (equations starts) k no_equation ≡ equation_at s l enums (get_or starts k 0)
  equation_here [] zero h = absurd (omega arith)
  equation_here [] (suc k) h = absurd (omega arith)
  equation_here (x ∷ starts) zero h = refl
  equation_here (x ∷ starts) (suc k) h = equation_here starts k (omega arith)

  -- each is read where it stands
  pub each_read : {starts : List ℕ} → Readable s l enums starts → (k : ℕ) → k < length starts → (n : ℕ) × (equation_r s l enums (get_or starts k 0) ≡ got (equation_at s l enums (get_or starts k 0)) n)
  unfolding equation_at
  each_read {starts} rd k h = go (equation_r s l enums (get_or starts k 0)) (rd.each k h)
    where
      go : (r : Read Equation) → is_got r ≡ true → (n : ℕ) × (r ≡ got (equation_in r) n)
      go (got q n) e = (n, refl)
      go (fault n p) e = let z : ◌≡◌ {A = ℕ} 0 1 = cc in absurd (omega arith)
