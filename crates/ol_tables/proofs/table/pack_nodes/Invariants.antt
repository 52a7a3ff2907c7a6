use Prim.Native.Nat.{◌*◌, ◌+◌}
use Rattle.ol_tables.specs.Table.{Packs}
use Rattle.ol_tables.specs.Numbers.{numbers}
use Rattle.ol_tables.proofs.table.pack_nodes.Given as goal

abbrev pub invariant-loop-k : goal.invariant-loop-k
invariant-loop-k l = Packs (numbers l.rows) 0 (l.k * 8) l.initial.tab l.tab

abbrev pub invariant-loop-j : goal.invariant-loop-j
invariant-loop-j l = Packs (numbers l.rows) 0 (l.k * 8 + l.j) l.fn.tab l.tab
