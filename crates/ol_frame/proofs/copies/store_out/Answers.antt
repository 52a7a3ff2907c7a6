use mathlib.Core.Path.{sym, ap, ◌∙◌}
use Rattle.ol_spec.specs.Eval.{several}
use Rattle.ol_spec.specs.declared.Outcome.TheVariants as Out
use Rattle.ol_spec.specs.declared.Outcome.{Outcome}
use Rattle.ol_frame.specs.Outcomes.{ending_of}
use Rattle.ol_frame.proofs.Storing.{out_stored, out_none}
use Rattle.ol_tables.specs.Table.{tab_of, rows_of}
use Rattle.ol_frame.proofs.copies.store_out.Goals as goal

pub returns-in-Value : goal.returns-in-Value
returns-in-Value c = (
  ap (λ (o : Outcome). ending_of (several o)) (sym c.in-Value.is),
  out_stored (tab_of c.args.tab.now) (rows_of c.args.tab.now) c.args.k c.args.at c.args.o c.kept.result c.args.cells.now _ c.requires (c.in-Value.is ∙ ap Out.Value (sym c.kept.ensures.0)) c.store.ensures,
)

pub returns-in_default : goal.returns-in_default
returns-in_default c =
    (c.end_of.ensures, out_none (tab_of c.args.tab.now) (rows_of c.args.tab.now) c.args.k c.args.at c.args.o c.args.cells.now c.in_default.not-Value)
