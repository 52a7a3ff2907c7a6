use Rattle.ol_check.proofs.NodeLaws.{node_forgotten}
use Rattle.ol_check.proofs.Standing.{stands}
use Rattle.ol_check.proofs.nodes.forget_node.Goals as goal

pub returns : goal.returns
returns c = node_forgotten c.requires (stands c.type_inv.file c.requires.reads) c.node_variables.ensures (λ t i p u h. cc)
