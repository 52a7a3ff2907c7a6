use Rattle.value_grid.proofs.Laws.{input_asked}
use Rattle.value_grid.proofs.input_agrees.Goals as goal

pub returns : goal.returns
returns c = input_asked c.args.code c.args.v _ _ c.next_byte.result _ (c.in_type.ensures 0) c.known.ensures c.says.ensures
