use Rattle.ol_tables.specs.At.{file_at}
use Rattle.ol_state.proofs.Each.{some_on, some_stop, some_done}
use Rattle.ol_state.proofs.inputs.judge_inputs.Goals as goal

pub loop-i-preserved : goal.loop-i-preserved
loop-i-preserved c = some_on (file_at c.args.file.now) c.args.code c.args.e c.args.count c.args.cells.now c.loop-i.invariant c.loop-i-test.true c.judge_input.ensures c.if-not-judge_input.false

pub returns-then-not-judge_input : goal.returns-then-not-judge_input
returns-then-not-judge_input c = some_stop (file_at c.args.file.now) c.args.code c.args.e c.args.count c.args.cells.now c.loop-i.invariant c.loop-i-test.true c.judge_input.ensures c.if-not-judge_input.true

pub returns : goal.returns
returns c = some_done (file_at c.args.file.now) c.args.code c.args.e c.args.count c.args.cells.now c.loop-i.invariant c.loop-i-test.false
