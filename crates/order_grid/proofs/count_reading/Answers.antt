use Rattle.order_grid.proofs.Laws.{read_more}
use Rattle.order_grid.proofs.count_reading.Goals as goal

pub returns-clause-tallied : goal.returns-clause-tallied
returns-clause-tallied c = read_more c.args.file.now c.next_answer.result _ c.from.ensures c.read_agrees.ensures
