-- Rows that agree: a list of what was found beside a list of what was wanted. A row that only one of the two lists has does not agree.
use Rattle.std.specs.Prelude.{ℕ, suc, ◌+◌, min, Bool, true, false, cond, not, ◌&&◌, List, [], ◌∷◌, length, ◌≡◌, eqb, Option, Some, None}
use Rattle.std.specs.Bool.{then_some}
use Rattle.rows.specs.declared.Compared.{Compared}

-- 1 for a row that agrees, else 0
abbrev pub one : Bool → ℕ
one true = 1
one false = 0

-- how many rows agree
unfoldable pub agreeing : List ℕ → List ℕ → ℕ
agreeing [] ws = 0
agreeing (x ∷ xs) [] = 0
agreeing (x ∷ xs) (w ∷ ws) = one (eqb x w) + agreeing xs ws

-- an index in a list with one row more at its front
abbrev pub further : Option ℕ → Option ℕ
further None = None
further (Some i) = Some (suc i)

-- the index of the first row that does not agree, if there is one
unfoldable pub first_other : List ℕ → List ℕ → Option ℕ
first_other [] [] = None
first_other [] (w ∷ ws) = Some 0
first_other (x ∷ xs) [] = Some 0
first_other (x ∷ xs) (w ∷ ws) = cond (eqb x w) (further (first_other xs ws)) (Some 0)

-- the index of the first row that only one of the two lists has, if there is one
abbrev pub first_alone : List ℕ → List ℕ → Option ℕ
first_alone xs ws = then_some (not (eqb (length xs) (length ws))) (min (length xs) (length ws))

-- whether all rows agree
unfoldable pub all_agree : List ℕ → List ℕ → Bool
all_agree [] [] = true
all_agree [] (w ∷ ws) = false
all_agree (x ∷ xs) [] = false
all_agree (x ∷ xs) (w ∷ ws) = eqb x w && all_agree xs ws

-- what a comparison answers
pub record Compares (found wanted : List ℕ) (r : Compared) : Type 0 where
  pub count : r.agreeing ≡ agreeing found wanted
  pub first : r.first ≡ first_other found wanted
