-- Items that stand one behind the other, as the bytes tell them: names, variables, enums.
use Rattle.std.specs.Prelude.{ℕ, zero, suc, ◌+◌, ◌*◌, List, [], ◌∷◌, ◌++◌, map, ◌≡◌, get_or}
use Rattle.std.specs.Borrow.{MutBor}
use Rattle.ol_tables.specs.Heads.{name_at, ty_size_at}

-- so many items from `at` on, each of which ends where `behind` says: where each stands, and where they end
unfoldable pub starts_from : (ℕ → ℕ) → ℕ → ℕ → List ℕ
starts_from behind zero at = []
starts_from behind (suc n) at = at ∷ starts_from behind n (behind at)

unfoldable pub end_from : (ℕ → ℕ) → ℕ → ℕ → ℕ
end_from behind zero at = at
end_from behind (suc n) at = end_from behind n (behind at)

-- behind the name at p, the variable, the enum
abbrev pub behind_name : ℕ → ℕ
behind_name p = p + 2

abbrev pub behind_variable : List ℕ → ℕ → ℕ
behind_variable s p = p + 2 + ty_size_at s (p + 2)

abbrev pub behind_enum : List ℕ → ℕ → ℕ
behind_enum s p = p + 1 + 2 * get_or s p 0

-- a place and the name there
abbrev pub named_at : List ℕ → ℕ → ℕ × ℕ
named_at s p = (p, name_at s p)

-- the names of so many names or variables from `at` on, with their places
abbrev pub names_from : List ℕ → ℕ → ℕ → List (ℕ × ℕ)
names_from s n at = map (named_at s) (starts_from behind_name n at)

abbrev pub variables_from : List ℕ → ℕ → ℕ → List (ℕ × ℕ)
variables_from s n at = map (named_at s) (starts_from (behind_variable s) n at)

-- the names alone
abbrev pub names_of : List (ℕ × ℕ) → List ℕ
names_of ps = map (λ p. p.1) ps

-- the variants of so many enums from `at` on
unfoldable pub variants_from : List ℕ → ℕ → ℕ → List ℕ
variants_from s zero at = []
variants_from s (suc n) at = names_of (names_from s (get_or s at 0) (at + 1)) ++ variants_from s n (behind_enum s at)

-- a table is changed by a call, which takes a reference to it
pub record Visited (called : MutBor (List ℕ) → MutBor (List ℕ) → Type 0) (t u : List ℕ) : Type 0 where
  pub shown : MutBor (List ℕ)
  pub left : MutBor (List ℕ)
  pub met : called shown left
  pub shows : shown.now ≡ t
  pub leaves : left.now ≡ u

-- a table is changed at places, one after the other, the first being number i
unfoldable pub Visits : (List ℕ → ℕ → ℕ → List ℕ → Type 0) → ℕ → List ℕ → List ℕ → List ℕ → Type 0
Visits R i [] t u = u ≡ t
Visits R i (p ∷ ps) t u = (m : List ℕ) × R t i p m × Visits R (i + 1) ps m u
