use mathlib.Core.Path.{◌∙◌}
use Rattle.value_grid.proofs.Laws.{bool_one, one_most, agreed_most, agreed_none, agreed_more}
use native.Mathlib.Omega.{arith}
use Rattle.value_grid.proofs.agreed.Goals as goal

pub loop-t-init : goal.loop-t-init
loop-t-init c = agreed_none c.args.section c.args.grid.now

pub overflow_add-sum : goal.overflow_add-sum
overflow_add-sum c =
    record { fits = omega (arith, c.from-sum.ensures ∙ bool_one c.ask.result, one_most c.ask.result, agreed_most c.loop-t.invariant) }

pub loop-t-preserved : goal.loop-t-preserved
loop-t-preserved c =
    rw (c.from-sum.ensures ∙ bool_one c.ask.result)
    (agreed_more c.args.section c.args.grid.now c.loop-t.sum c.loop-t.t _ c.ask.ensures c.loop-t.invariant)
