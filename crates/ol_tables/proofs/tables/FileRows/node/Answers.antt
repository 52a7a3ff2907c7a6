use Rattle.ol_tables.proofs.NumberLaws.{node_is}
use Rattle.ol_tables.proofs.tables.FileRows.node.Goals as goal

pub returns : goal.returns
returns c = node_is c.args.self.now c.args.k _ c.requires
