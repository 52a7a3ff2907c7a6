use Rattle.value_grid.proofs.Laws.{default_asked}
use mathlib.Core.List.{[], ◌∷◌}
use mathlib.Core.Path.{refl}
use Rattle.value_grid.proofs.default_agrees.Goals as goal

pub returns : goal.returns
returns c = default_asked c.args.code _ c.next.result _ (c.default_value.ensures ((100 ∷ []) ∷ []) 0 refl) c.is_cell.ensures
