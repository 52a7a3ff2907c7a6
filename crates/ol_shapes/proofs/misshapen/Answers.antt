use native.Mathlib.Omega.{arith}
use Rattle.ol_tables.proofs.HeadsFile.{bytes_of_lem}
use Rattle.ol_shapes.proofs.misshapen.Goals as goal

pub all-requires : goal.all-requires
all-requires c = (c.requires.0, bytes_of_lem c.args.file.now (λ i. omega (arith, c.type_inv.file i)), c.requires.1, c.requires.2)
