use mathlib.Core.Path.{refl}
use Rattle.ol_tables.proofs.NumberLaws.{size_put}
use Rattle.ol_tables.proofs.tables.FileRows.put_size.Goals as goal

pub returns : goal.returns
returns c = size_put c.args.self.now _ c.args.k c.args.size c.requires refl refl
