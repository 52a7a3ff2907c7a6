use native.Mathlib.Omega.{arith}
use Rattle.ol_check.proofs.NodeLaws.{ready_at, ready_counted}
use Rattle.ol_check.proofs.ClashFile.{nodes_start_lem, nodes_turn, nodes_done}
use Rattle.ol_check.proofs.clash.Sorter.nodes.Goals as goal

pub loop-k-init : goal.loop-k-init
loop-k-init c = nodes_start_lem

pub node-requires : goal.node-requires
node-requires c = ready_counted (ready_at c.requires c.loop-k.k c.loop-k-test.true)

pub loop-k-preserved : goal.loop-k-preserved
loop-k-preserved c = nodes_turn c.loop-k.invariant (omega (arith, c.loop-k-test.true, c.requires.many)) c.node.ensures

pub returns : goal.returns
returns c = nodes_done c.loop-k.invariant (omega (arith, c.loop-k-test.false, c.requires.many))
