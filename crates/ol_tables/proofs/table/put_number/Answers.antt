use mathlib.Core.Path.{ap, ◌∙◌}
use mathlib.Core.List.{[], ◌∷◌}
use native.Mathlib.Omega.{arith}
use lib.ListN.{get_or}
use Rattle.ol_tables.proofs.TableLaws.{number_put_mid}
use Rattle.ol_tables.proofs.table.put_number.Goals as goal

pub returns : goal.returns
returns c =
    let bytes = c.copy_from_slice.ensures.after ∙ ap (λ l. get_or l 1 0 ∷ get_or l 2 0 ∷ get_or l 3 0 ∷ []) c.to_be_bytes.ensures in
    number_put_mid c.args.tab.now c.args.i c.args.n _ _ c.requires.0 c.requires.1 c.requires.2 (omega arith) bytes
