use Rattle.std.proofs.Common.{refl, arith}
use Rattle.ol_tables.proofs.HeadsFile.{bytes_of_lem}
use Rattle.ol_sim.proofs.Chain.{erred}
use Rattle.ol_sim.proofs.Measures.{admission_answers}
use Rattle.ol_sim.proofs.admission.Goals as goal

pub returns : goal.returns
returns c = admission_answers c.args.file.now (bytes_of_lem c.args.file.now (λ i. omega (arith, c.type_inv.file i))) refl c.in_ok-lengths.ensures

pub returns-in_err-lengths : goal.returns-in_err-lengths
returns-in_err-lengths c = admission_answers c.args.file.now (bytes_of_lem c.args.file.now (λ i. omega (arith, c.type_inv.file i))) (erred c.from_residual.result c.from_residual.ensures.1) c.in_err-lengths.ensures
