use Prim.Native.Nat.{◌%◌}
use mathlib.Core.List.{[], ◌∷◌, ◌++◌}
use mathlib.Core.Path.{refl, ap, ◌∙◌}
use lib.ListN.{drop}
use Rattle.ol_spec.specs.Cell.{cell}
use Rattle.ol_state.specs.Defaults.{default_cell}
use Rattle.ol_state.proofs.defaults.put_default.Goals as goal

pub returns : goal.returns
unfolding default_cell
returns c =
    c.write_cell.ensures ∙ ap (λ v. cell v ++ drop 9 c.args.out.now) (c.default_value-v.ensures ((c.args.first % 65536 ∷ []) ∷ []) 0 refl)
