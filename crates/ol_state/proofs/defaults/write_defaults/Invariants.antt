use Rattle.ol_tables.specs.Table.{tab_of, rows_of}
use Rattle.ol_state.proofs.DefaultCells.{Writing}
use Rattle.ol_state.proofs.defaults.write_defaults.Given as goal

abbrev pub invariant-loop-i : goal.invariant-loop-i
invariant-loop-i l = Writing (tab_of l.tab) (rows_of l.tab) l.k l.n l.initial.out l.i l.cell l.out
