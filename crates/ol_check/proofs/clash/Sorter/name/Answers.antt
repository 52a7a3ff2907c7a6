use mathlib.Core.Path.{refl}
use Rattle.ol_check.proofs.ClashLoops.{name_walks}
use Rattle.ol_check.proofs.clash.Sorter.name.Goals as goal

pub returns : goal.returns
returns c =
    name_walks c.args.file.now c.args.sort c.args.at c.requires.0 c.name-x.ensures.is c.byte.ensures c.clashes-clashed.ensures c.put.ensures c.mark.ensures c.max-self.ensures refl refl
