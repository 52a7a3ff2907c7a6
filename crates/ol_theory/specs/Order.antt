-- Ordering n equations by what they read from: the definitions. Equation i < n reads from the equations `deps i`.
-- proofs/OrderProof has the theorems.
use Rattle.std.proofs.Math.Logic.{ite}
use Rattle.std.proofs.Math.Logic.Dec as Dec
use Rattle.std.specs.Prelude.{List, [], ◌∷◌, ◌++◌, ℕ, zero, suc, ◌<◌}
use Rattle.ol_theory.specs.Member.{◌∈◌, upto, mem?, all?}

-- ==== the algorithm

-- Equation i may be placed after those of `placed`: it is not yet placed, and all that it reads from are.
abbrev pub Ready : (ℕ → List ℕ) → List ℕ → ℕ → Type 0
Ready deps placed i = (¬ (i ∈ placed)) × ((d : ℕ) → d ∈ deps i → d ∈ placed)

unfoldable pub ready? : (deps : ℕ → List ℕ) (placed : List ℕ) (i : ℕ) → Dec (Ready deps placed i)
ready? deps placed i = Dec.and (Dec.not (mem? i placed)) (all? (deps i) placed)

-- One pass: each equation of the list in turn is placed, if it may be then.
unfoldable pub pass : (ℕ → List ℕ) → List ℕ → List ℕ → List ℕ
pass deps [] placed = placed
pass deps (i ∷ is) placed = pass deps is (ite (ready? deps placed i) (placed ++ (i ∷ [])) placed)

-- So many passes over 0 .. n-1.
unfoldable pub passes : ℕ → (ℕ → List ℕ) → ℕ → List ℕ → List ℕ
passes n deps zero placed = placed
passes n deps (suc k) placed = passes n deps k (pass deps (upto n) placed)

-- What as many passes as equations place.
unfoldable pub order : ℕ → (ℕ → List ℕ) → List ℕ
order n deps = passes n deps n []

-- ==== what it is to give

-- Each equation of the list is a new one and reads only from those before it. `seen`: those before the list.
abbrev pub InOrder : (ℕ → List ℕ) → List ℕ → List ℕ → Type 0
InOrder deps seen [] = Unit
InOrder deps seen (i ∷ l) = (¬ (i ∈ seen)) × ((d : ℕ) → d ∈ deps i → d ∈ seen) × InOrder deps (i ∷ seen) l

-- Each equation stands in the list, once, after all that it reads from.
pub record ValidOrder (n : ℕ) (deps : ℕ → List ℕ) (l : List ℕ) : Type 0 where
  pub inside : (i : ℕ) → i ∈ l → i < n
  pub complete : (i : ℕ) → i < n → i ∈ l
  pub in_order : InOrder deps [] l

-- i reads from the first of the list, each of the list from the next, and the last from z.
abbrev pub Leads : (ℕ → List ℕ) → ℕ → List ℕ → ℕ → Type 0
Leads deps i [] z = z ∈ deps i
Leads deps i (j ∷ l) z = (j ∈ deps i) × Leads deps j l z

-- One or more equations, each of which reads from the next, and the last from the first.
pub record Ring (n : ℕ) (deps : ℕ → List ℕ) : Type 0 where
  pub first : ℕ
  pub rest : List ℕ
  pub inside : (i : ℕ) → i ∈ (first ∷ rest) → i < n
  pub around : Leads deps first rest first
