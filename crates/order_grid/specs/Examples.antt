-- Executed examples: the reading of the empty file, and the ordering of a file with an unknown format byte.
use Rattle.std.specs.Prelude.{true, false, [], ◌∷◌, ◌≡◌, refl}
use Rattle.ol_spec.specs.Answers.{fault_at}
use Rattle.ol_spec.specs.Build.{everything}
use Rattle.ol_ir.specs.Nexts.{reading_of}
use Rattle.rows.specs.Rows.{all_agree}
use Rattle.order_grid.specs.Questions.{order_agrees, read_agrees}

-- fault 2 at place 0; another number; another place
pub empty : (read_agrees [] (fault_at 2 0) ≡ true) × (read_agrees [] (fault_at 3 0) ≡ false) × (read_agrees [] (fault_at 2 1) ≡ false)
unfolding everything read_agrees order_agrees all_agree reading_of
empty = (refl, refl, refl)

-- fault 3 at place 0, and the entry keeps its mark; not so if it is said to be 0
pub format : (order_agrees (2 ∷ []) 0 (3 ∷ 0 ∷ 170 ∷ []) ≡ true) × (order_agrees (2 ∷ []) 0 (3 ∷ 0 ∷ 0 ∷ []) ≡ false)
unfolding everything order_agrees all_agree
format = (refl, refl)
