-- The names of an equation that are left.
use Rattle.std.specs.Prelude.{ℕ, List}
use Rattle.ol_order.specs.Tables.{names_at}
use Rattle.ol_order.specs.declared.names.Names.{Names}

abbrev pub names_of : Names → List ℕ
names_of n = names_at n.left.count n.file.now n.left.at
