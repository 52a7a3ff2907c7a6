use Rattle.ol_tables.specs.Table.{tab_of, rows_of}
use Rattle.ol_frame.proofs.Elements.{GatheredTo}
use Rattle.ol_frame.proofs.arrays.gather.Given as goal

abbrev pub invariant-loop-i : goal.invariant-loop-i
invariant-loop-i l = GatheredTo (tab_of l.tab) (rows_of l.tab) l.k l.n l.c l.j l.arrays l.i l.initial.args l.args
