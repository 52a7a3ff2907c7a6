use mathlib.Core.Path.{refl}
use Rattle.ol_tables.proofs.NumberLaws.{node_put}
use Rattle.ol_tables.proofs.tables.FileRows.put_node.Goals as goal

pub returns : goal.returns
returns c = node_put c.args.self.now _ c.args.k c.args.row c.requires refl refl
