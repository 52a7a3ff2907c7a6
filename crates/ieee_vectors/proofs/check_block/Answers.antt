use lib.ListN.{take}
use borrow.Author.Rules.{rules}
use Rattle.ieee_vectors.proofs.check_block.Goals as goal

pub returns : goal.returns
returns c = record { text = take c.read_full-n.result c.read_full-n.new.buf; small = search rules; counted = c.count_rows.ensures }
