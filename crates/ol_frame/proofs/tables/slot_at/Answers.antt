use mathlib.Core.Path.{◌≡◌, ap, ◌∙◌}
use native.Mathlib.Omega.{arith}
use Prim.Native.Nat.{◌-◌}
use Rattle.ol_tables.specs.Table.{tab_of}
use Rattle.ol_tables.specs.Tables.{name_cell_at}
use Rattle.ol_frame.proofs.Tabling.{name_cell, tab_long}
use Rattle.ol_frame.proofs.tables.slot_at.Goals as goal
use Rattle.ol_frame.proofs.tables.slot_at.Goals.{After-from}

pub overflow_add-at : goal.overflow_add-at
overflow_add-at c = omega (arith, tab_long c.args.tab.now, c.requires, c.well_formed)

pub overflow_add-at-2 : goal.overflow_add-at-2
overflow_add-at-2 c = omega (arith, tab_long c.args.tab.now, c.requires, c.well_formed)

pub overflow_add-at-3 : goal.overflow_add-at-3
overflow_add-at-3 c = omega (arith, tab_long c.args.tab.now, c.requires, c.well_formed)

pub bounds-tab-at : goal.bounds-tab-at
bounds-tab-at c = omega (arith, tab_long c.args.tab.now, c.requires)

pub bounds-tab-at-2 : goal.bounds-tab-at-2
bounds-tab-at-2 c = omega (arith, tab_long c.args.tab.now, c.requires)

-- the cell that was read
cell_is : (c : After-from) → c.from.result ≡ name_cell_at (tab_of c.args.tab.now) c.args.at
cell_is c = c.from.ensures ∙ c.from_be_bytes.ensures ∙ name_cell c.args.tab.now c.args.at

pub returns-in-0-to-3583 : goal.returns-in-0-to-3583
returns-in-0-to-3583 c =
    let e = cell_is (goal.at.returns-in-0-to-3583 c).After-from in
    (e, omega (arith, e))

pub returns-in-3584-to-65534 : goal.returns-in-3584-to-65534
returns-in-3584-to-65534 c =
    let e = cell_is (goal.at.returns-in-3584-to-65534 c).After-from in
    (ap (λ n. n - 3584) e, omega (arith, e), omega (arith, e))

pub returns-in_default : goal.returns-in_default
returns-in_default c = omega (arith, cell_is (goal.at.returns-in_default c).After-from)
