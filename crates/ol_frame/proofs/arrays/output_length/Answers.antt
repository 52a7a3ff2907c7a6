use mathlib.Core.Path.{refl, sym, ◌∙◌}
use native.Mathlib.Omega.{arith}
use Rattle.ol_frame.proofs.RealKinds.{one_output, no_output, input_below}
use Rattle.ol_frame.proofs.Tabling.{rows_room}
use Rattle.ol_frame.proofs.arrays.output_length.Goals as goal

pub row-requires : goal.row-requires
row-requires c = (rows_room c.args.tab.now 0 (omega (arith, c.requires.0.table.long)), omega (arith, c.requires.0.sized.few, c.requires.1), omega arith)

pub row-requires-then-row-eq1 : goal.row-requires-then-row-eq1
row-requires-then-row-eq1 c =
    (rows_room c.args.tab.now 0 (omega (arith, c.requires.0.table.long)), omega (arith, c.requires.0.sized.few, c.requires.1), omega arith)

pub length_of-requires : goal.length_of-requires
length_of-requires c = (
  omega (arith, c.requires.0.table.long),
  omega (arith, c.requires.0.sized.few, c.requires.1),
  input_below c.args.k c.requires.0 c.requires.1 c.row-then-row-eq1.result c.row-then-row-eq1.ensures,
)

pub returns-then-row-eq1 : goal.returns-then-row-eq1
returns-then-row-eq1 c =
    c.length_of.ensures.0 ∙ one_output c.args.k c.requires.0 c.requires.1 c.row-then-row-eq1.result c.row-then-row-eq1.ensures (sym c.row.ensures ∙ c.if-row-eq1.true)

pub returns-else-row-eq1 : goal.returns-else-row-eq1
returns-else-row-eq1 c = no_output c.args.k c.requires.0 c.requires.1 _ refl (λ e. c.if-row-eq1.false (c.row.ensures ∙ e))
