use Rattle.long_run.proofs.Laws.{ran_as}
use Rattle.long_run.proofs.run_next.Goals as goal

pub returns : goal.returns
returns g c = ran_as _ _ _ _ _ _ _ _ c.run_file.ensures
