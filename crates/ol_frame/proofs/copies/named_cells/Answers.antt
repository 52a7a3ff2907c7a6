use mathlib.Core.Path.{◌≡◌, refl, ap, ◌∙◌}
use native.Mathlib.Omega.{arith}
use Rattle.ol_tables.specs.Table.{tab_of}
use Rattle.ol_tables.specs.Tables.{length_at}
use Rattle.ol_frame.specs.Stores.{cells_under_all}
use Rattle.ol_frame.proofs.Storing.{under_snoc}
use Rattle.ol_frame.proofs.Tabling.{tab_long}
use Rattle.ol_frame.proofs.copies.named_cells.Goals as goal

pub loop-i-init : goal.loop-i-init
loop-i-init c = (refl, omega arith)

pub overflow_add-at : goal.overflow_add-at
overflow_add-at c = omega (arith, tab_long c.args.tab.now, c.loop-i-test.true, c.requires.0, c.requires.2, c.well_formed)

pub defined_at-requires : goal.defined_at-requires
defined_at-requires c = omega (arith, c.loop-i-test.true, c.requires.0)

pub length_of-requires : goal.length_of-requires
length_of-requires c = (omega (arith, c.requires.0), c.requires.1, omega (arith, c.defined_at.ensures.0, c.requires.3 c.loop-i.i c.loop-i-test.true))

pub overflow_add-q : goal.overflow_add-q
overflow_add-q c = omega (arith, c.loop-i.invariant.1, c.loop-i-test.true, c.requires.2, c.cells_for-q.ensures, c.length_of.ensures.1)

pub loop-i-preserved : goal.loop-i-preserved
loop-i-preserved c =
    let t = tab_of c.args.tab.now in (
      omega (arith, c.loop-i.invariant.0, c.cells_for-q.ensures, c.length_of.ensures.0 ∙ ap (length_at t c.args.k) c.defined_at.ensures.0, under_snoc t c.args.k c.args.at c.loop-i.i),
      omega (arith, c.loop-i.invariant.1, c.cells_for-q.ensures, c.length_of.ensures.1),
    )

pub returns : goal.returns
returns c =
    let e : c.loop-i.i ≡ c.args.n = omega arith in
    c.loop-i.invariant.0 ∙ ap (cells_under_all (tab_of c.args.tab.now) c.args.k c.args.at) e
