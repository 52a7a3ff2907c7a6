use mathlib.Core.Path.{sym, ap}
use Rattle.ol_spec.specs.Eval.{several}
use Rattle.ol_spec.specs.declared.Outcome.{Outcome}
use Rattle.ol_frame.specs.Outcomes.{ending_of}
use Rattle.ol_frame.proofs.Storing.{part_put, part_none}
use Rattle.ol_tables.specs.Table.{tab_of}
use Rattle.ol_frame.proofs.copies.put_part.Goals as goal

pub returns-in-Value : goal.returns-in-Value
returns-in-Value c = (
  ap (λ (o : Outcome). ending_of (several o)) (sym c.in-Value.is),
  part_put (tab_of c.args.tab.now) c.args.callee c.args.i c.args.o c.in-Value.v c.passed.result c.args.to.now _ c.in-Value.is c.passed.ensures.0 c.passed.ensures.1 c.requires.3 c.write_cell.ensures,
)

pub returns-in_default : goal.returns-in_default
returns-in_default c = (c.end_of.ensures, part_none (tab_of c.args.tab.now) c.args.callee c.args.i c.args.o c.args.to.now c.in_default.not-Value)
