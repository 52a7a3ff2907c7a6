use Rattle.ol_tables.proofs.NumberLaws.{row_found}
use Rattle.ol_tables.proofs.tables.FileRows.row.Goals as goal

pub returns : goal.returns
returns c = rw c.copied.ensures (row_found c.args.self.now c.args.k c.get.result c.get.ensures.lookup.0 c.get.ensures.lookup.1)
