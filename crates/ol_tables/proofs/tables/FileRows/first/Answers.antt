use Rattle.ol_tables.proofs.NumberLaws.{first_is}
use Rattle.ol_tables.proofs.tables.FileRows.first.Goals as goal

pub returns : goal.returns
returns c = first_is c.args.self.now c.args.e
