use Rattle.ol_tables.specs.At.{file_at}
use Rattle.ol_shapes.proofs.Judging.{whole_fits, whole_faulted}
use Rattle.ol_shapes.proofs.shapes.Shapes.whole.Goals as goal

pub returns-then-suits : goal.returns-then-suits
returns-then-suits c = record { is = λ k locals e es h n to. whole_fits (file_at c.args.self.now.file.now) locals n to (c.suits.ensures.is k locals e es h) c.if-suits.true }

pub returns-else-suits : goal.returns-else-suits
returns-else-suits c = record { is = λ k locals e es h n to. whole_faulted (file_at c.args.self.now.file.now) locals n (c.suits.ensures.is k locals e es h) c.if-suits.false }
