use mathlib.Core.Path.{refl}
use Rattle.ol_tables.proofs.NumberLaws.{zeros}
use Rattle.ol_tables.proofs.tables.FileRows.new.Goals as goal

pub returns : goal.returns
returns c =
    let (kind, (equations, (inputs, (outputs, (variables, (count, (size, place))))))) = c.default.ensures in
    zeros _ c.default.result refl refl (rw kind (rw equations (rw inputs (rw outputs (rw variables (rw count (rw size (rw place refl))))))))
