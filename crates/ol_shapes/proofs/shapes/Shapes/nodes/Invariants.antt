use Rattle.ol_spec.specs.Syntax.{no_node}
use Rattle.ol_spec.specs.Places.{placed_nodes}
use Rattle.ol_spec.specs.Admission.{node_misplaced}
use Rattle.ol_tables.specs.At.{file_at}
use Rattle.ol_shapes.proofs.Firsts.{FirstLeft}
use Rattle.ol_shapes.proofs.shapes.Shapes.nodes.Given as goal

abbrev pub invariant-loop-k : goal.invariant-loop-k
invariant-loop-k l = FirstLeft (node_misplaced (file_at l.self.file.now)) (0, no_node) (placed_nodes (file_at l.self.file.now)) l.k
