use Rattle.ol_spec.specs.Places.{placed_nodes, placed_equations}
use Rattle.ol_spec.specs.Step.{no_equation}
use Rattle.ol_spec.specs.Admission.{misplaced_in}
use Rattle.ol_tables.specs.At.{file_at}
use Rattle.ol_tables.specs.Tables.{node_of, place_of}
use Rattle.ol_shapes.proofs.Naming.{locals_of}
use Rattle.ol_shapes.proofs.Firsts.{FirstLeft}
use Rattle.ol_shapes.proofs.shapes.Shapes.equations.Given as goal

abbrev pub invariant-loop-i : goal.invariant-loop-i
invariant-loop-i l =
    let s = l.self.file.now in
    FirstLeft (misplaced_in (file_at s) (locals_of s l.k)) (0, no_equation) (placed_equations (place_of (placed_nodes (file_at s)) l.k) (node_of (file_at s) l.k)) l.i
