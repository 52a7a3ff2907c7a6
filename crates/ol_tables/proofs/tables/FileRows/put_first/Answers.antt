use mathlib.Core.Path.{refl}
use Rattle.ol_tables.proofs.NumberLaws.{first_put}
use Rattle.ol_tables.proofs.tables.FileRows.put_first.Goals as goal

pub returns : goal.returns
returns c = first_put c.args.self.now _ c.args.e c.args.x refl refl
