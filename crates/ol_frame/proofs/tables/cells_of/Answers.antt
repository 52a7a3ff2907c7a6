use native.Mathlib.Omega.{arith}
use mathlib.Core.Path.{◌∙◌}
use Rattle.ol_tables.proofs.TableLaws.{count_from_lem}
use Rattle.ol_frame.proofs.Tabling.{tab_long}
use Rattle.ol_frame.proofs.tables.cells_of.Goals as goal

pub bounds-tab-p : goal.bounds-tab-p
bounds-tab-p c = omega (arith, tab_long c.args.tab.now, c.requires.0, c.requires.1, c.requires.2)

pub bounds-tab-p-2 : goal.bounds-tab-p-2
bounds-tab-p-2 c = omega (arith, tab_long c.args.tab.now, c.requires.0, c.requires.1, c.requires.2)

pub returns : goal.returns
returns c =
    (c.from.ensures ∙ c.from_be_bytes.ensures ∙ count_from_lem c.args.tab.now c.args.k c.args.j, omega (arith, c.from.ensures, c.from_be_bytes.type_inv))
