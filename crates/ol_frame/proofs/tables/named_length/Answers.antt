use mathlib.Core.Path.{◌∙◌}
use native.Mathlib.Omega.{arith}
use Rattle.ol_frame.proofs.Tabling.{name_length, tab_long}
use Rattle.ol_frame.proofs.tables.named_length.Goals as goal

pub overflow_add-at : goal.overflow_add-at
overflow_add-at c = omega (arith, tab_long c.args.tab.now, c.requires, c.well_formed)

pub bounds-tab-at : goal.bounds-tab-at
bounds-tab-at c = omega (arith, tab_long c.args.tab.now, c.requires)

pub returns : goal.returns
returns c = (c.from.ensures ∙ name_length c.args.tab.now c.args.at, omega arith)
