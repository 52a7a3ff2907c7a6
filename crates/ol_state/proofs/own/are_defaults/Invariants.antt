use Rattle.ol_tables.specs.Table.{tab_of, rows_of}
use Rattle.ol_state.proofs.Judged.{Defaulted}
use Rattle.ol_state.proofs.own.are_defaults.Given as goal

abbrev pub invariant-loop-i : goal.invariant-loop-i
invariant-loop-i l = Defaulted (tab_of l.tab) (rows_of l.tab) l.k l.n l.cells l.i l.cell
