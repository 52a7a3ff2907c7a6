use native.Mathlib.Omega.{arith}
use mathlib.Core.Path.{◌∙◌}
use Rattle.ol_tables.proofs.TableLaws.{types_from_lem}
use Rattle.ol_frame.proofs.Tabling.{tab_long}
use Rattle.ol_frame.proofs.tables.types_at.Goals as goal

pub overflow_sub-result : goal.overflow_sub-result
overflow_sub-result c = omega (arith, tab_long c.args.tab.now, c.requires.0)

pub bounds-tab-a : goal.bounds-tab-a
bounds-tab-a c = omega (arith, tab_long c.args.tab.now, c.requires.0, c.requires.1)

pub bounds-tab-a-2 : goal.bounds-tab-a-2
bounds-tab-a-2 c = omega (arith, tab_long c.args.tab.now, c.requires.0, c.requires.1)

pub returns : goal.returns
returns c =
    let t = c.args.tab.now in
    (types_from_lem t c.args.k c.from.result (c.from.ensures ∙ c.from_be_bytes.ensures), omega (arith, c.from.ensures, c.from_be_bytes.type_inv))
