use Prim.Native.Nat.{◌+◌}
use Rattle.ol_tables.specs.Table.{Packs}
use Rattle.ol_tables.specs.Numbers.{numbers}
use Rattle.ol_tables.proofs.table.pack_firsts.Given as goal

abbrev pub invariant-loop-e : goal.invariant-loop-e
invariant-loop-e l = Packs (numbers l.rows) 256 (256 + l.e) l.initial.tab l.tab
