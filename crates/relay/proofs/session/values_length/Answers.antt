use Rattle.std.proofs.Common.{arith, of_calls}
use Rattle.ol_tables.proofs.HeadsFile.{bytes_of_lem}
use Rattle.relay.proofs.Calls.{values_either}
use Rattle.relay.proofs.session.values_length.Goals as goal

pub returns : goal.returns
returns c = values_either c.args.file.now (bytes_of_lem c.args.file.now (λ i. omega (arith, c.type_inv.file i))) _ c.lengths.ensures c.map_or.ensures (λ l h. search (of_calls, h))
