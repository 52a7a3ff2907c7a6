use native.Mathlib.Omega.{arith}
use Rattle.ol_tables.proofs.TableLaws.{types_from_lem}
use Rattle.ol_tables.proofs.table.types_of.Goals as goal

pub returns : goal.returns
returns c =
    (omega (arith, types_from_lem c.args.tab.now c.args.k _ c.name-at.ensures.is, c.saturating_sub.ensures), omega (arith, c.name-at.ensures.small))
