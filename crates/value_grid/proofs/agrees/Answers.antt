use Rattle.value_grid.proofs.Laws.{outcome_asked}
use Rattle.value_grid.proofs.agrees.Goals as goal

pub returns : goal.returns
returns c = outcome_asked c.args.o c.next_byte-head.result c.if-head-eq4.nine _ c.outcome_agrees.ensures
