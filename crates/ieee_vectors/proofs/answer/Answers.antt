use Rattle.ieee_vectors.proofs.Laws.{answer_done, answer_sweep}
use Rattle.ieee_vectors.proofs.answer.Goals as goal

pub returns-then-op-lt128 : goal.returns-then-op-lt128
returns-then-op-lt128 c = answer_done c.args.text.now c.args.at _ _ _ c.number-op.ensures c.number-a.ensures c.number-b.ensures _ c.if-op-lt128.true c.result.ensures

pub returns-else-op-lt128 : goal.returns-else-op-lt128
returns-else-op-lt128 c = answer_sweep c.args.text.now c.args.at _ _ _ c.number-op.ensures c.number-a.ensures c.number-b.ensures _ c.if-op-lt128.false c.sweep.ensures
