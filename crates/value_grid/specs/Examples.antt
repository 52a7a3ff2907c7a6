-- Executed examples: a grid of one cell, true.
use Rattle.std.specs.Prelude.{ℕ, true, false, List, [], ◌∷◌, ◌≡◌, refl}
use Rattle.ol_spec.specs.Operators.{unary_of}
use Rattle.value_grid.specs.declared.Section.TheVariants as Sec
use Rattle.value_grid.specs.Questions.{Answer, outcome_is, input_is, default_is, cell_is, grid_value, answered_at}

abbrev grid : List ℕ
grid = 0 ∷ 0 ∷ 0 ∷ 0 ∷ 0 ∷ 0 ∷ 0 ∷ 0 ∷ 1 ∷ []

abbrev byte : ℕ → Answer
byte head = record { head = head; nine = [] }

-- Unary, question 0: not true is false. The answers false, true, a failure, an overflow
pub unary : (answered_at Sec.Unary grid 0 (byte 0) ≡ true) × (answered_at Sec.Unary grid 0 (byte 1) ≡ false) × (answered_at Sec.Unary grid 0 (byte 21) ≡ false) × (answered_at Sec.Unary grid 0 (byte 19) ≡ false)
unfolding answered_at outcome_is grid_value unary_of
unary = (refl, refl, refl, refl)

-- question 42: -true fails with 21, and with no other number
pub failing : (answered_at Sec.Unary grid 42 (byte 21) ≡ true) × (answered_at Sec.Unary grid 42 (byte 20) ≡ false) × (answered_at Sec.Unary grid 42 (byte 18) ≡ false)
unfolding answered_at outcome_is grid_value unary_of
failing = (refl, refl, refl)

-- Input, questions 0 and 42: Bool takes true, Int8 does not
pub input : (answered_at Sec.Input grid 0 (byte 1) ≡ true) × (answered_at Sec.Input grid 0 (byte 0) ≡ false) × (answered_at Sec.Input grid 42 (byte 1) ≡ false) × (answered_at Sec.Input grid 42 (byte 0) ≡ true)
unfolding answered_at input_is grid_value
input = (refl, refl, refl, refl)

-- Default and Cell: true is no default of Bool, and is a cell
pub cells : (answered_at Sec.Default grid 0 (record { head = 0; nine = grid }) ≡ false) × (answered_at Sec.Cell grid 0 (record { head = 1; nine = grid }) ≡ true)
unfolding answered_at default_is cell_is
cells = (refl, refl)
