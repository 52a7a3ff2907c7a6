use Rattle.ol_shapes.proofs.shapes.Shapes.+shape_at.Given as goal

abbrev pub decreases-shape_at : goal.decreases-shape_at
decreases-shape_at l = l.level
