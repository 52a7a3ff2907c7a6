-- Executed examples of the comparison.
use Rattle.std.specs.Prelude.{true, false, [], ◌∷◌, ◌≡◌, Some, None, refl}
use Rattle.rows.specs.Rows.{agreeing, first_other, all_agree}

-- all rows agree; one in the middle does not; the last does not; a list is cut; one is empty
pub all : (agreeing (7 ∷ 8 ∷ 9 ∷ []) (7 ∷ 8 ∷ 9 ∷ []) ≡ 3) × (first_other (7 ∷ 8 ∷ 9 ∷ []) (7 ∷ 8 ∷ 9 ∷ []) ≡ None)
unfolding agreeing first_other
all = (refl, refl)

pub middle : (agreeing (7 ∷ 0 ∷ 9 ∷ []) (7 ∷ 8 ∷ 9 ∷ []) ≡ 2) × (first_other (7 ∷ 0 ∷ 9 ∷ []) (7 ∷ 8 ∷ 9 ∷ []) ≡ Some 1)
unfolding agreeing first_other
middle = (refl, refl)

pub last : (agreeing (7 ∷ 8 ∷ 0 ∷ []) (7 ∷ 8 ∷ 9 ∷ []) ≡ 2) × (first_other (7 ∷ 8 ∷ 0 ∷ []) (7 ∷ 8 ∷ 9 ∷ []) ≡ Some 2)
unfolding agreeing first_other
last = (refl, refl)

pub cut : (agreeing (7 ∷ 8 ∷ []) (7 ∷ 8 ∷ 9 ∷ []) ≡ 2) × (first_other (7 ∷ 8 ∷ []) (7 ∷ 8 ∷ 9 ∷ []) ≡ Some 2)
unfolding agreeing first_other
cut = (refl, refl)

pub empty : (agreeing [] (7 ∷ []) ≡ 0) × (first_other [] (7 ∷ []) ≡ Some 0)
unfolding agreeing first_other
empty = (refl, refl)

pub whole : (all_agree (7 ∷ 8 ∷ []) (7 ∷ 8 ∷ []) ≡ true) × (all_agree (7 ∷ 8 ∷ []) (7 ∷ 9 ∷ []) ≡ false) × (all_agree (7 ∷ []) (7 ∷ 8 ∷ []) ≡ false)
unfolding all_agree
whole = (refl, refl, refl)
