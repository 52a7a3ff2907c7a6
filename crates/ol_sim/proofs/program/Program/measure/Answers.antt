use Rattle.std.proofs.Common.{arith}
use Rattle.ol_sim.proofs.Measures.{lengths_here, no_node_lem, measures_whole}
use Rattle.ol_sim.proofs.program.Program.measure.Goals as goal

pub returns-then-node-main : goal.returns-then-node-main
returns-then-node-main c =
    measures_whole c.args.self.now.file.now c.args.node c.requires.judged
    (lengths_here c.requires.ready c.args.node c.if-node-main.true c.cells_of.ensures.0 c.cells_of-then-node-main.ensures.0 c.column.ensures)

pub returns-else-node-main : goal.returns-else-node-main
returns-else-node-main c =
    measures_whole c.args.self.now.file.now c.args.node c.requires.judged (no_node_lem c.requires.ready c.args.node (λ le. omega (arith, le, c.if-node-main.false)))
