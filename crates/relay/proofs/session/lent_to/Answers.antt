use Rattle.std.proofs.Common.{arith}
use Rattle.ol_tables.proofs.HeadsFile.{bytes_of_lem}
use Rattle.relay.proofs.Tellings.{lends_given, lends_right}
use Rattle.relay.proofs.session.lent_to.Goals as goal

pub returns-in-Some : goal.returns-in-Some
returns-in-Some c = lends_given c.args.file.now c.args.old.now c.args.given c.in-Some.l _ c.in-Some.is c.min.ensures c.min-in-Some.ensures (bytes_of_lem c.args.file.now (λ i. omega (arith, c.type_inv.file i)))

pub returns-in-None : goal.returns-in-None
returns-in-None c = lends_right c.args.file.now c.args.old.now c.args.given c.values_length.result c.in-None.is c.requires c.values_length.ensures (bytes_of_lem c.args.file.now (λ i. omega (arith, c.type_inv.file i)))
