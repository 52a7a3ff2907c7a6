use Rattle.ol_sim.proofs.Serving.{measures_erred}
use Rattle.ol_sim.proofs.lengths.Goals as goal

pub returns-in_err-serve : goal.returns-in_err-serve
returns-in_err-serve c = measures_erred c.args.file.now c.args.node c.from_residual.result c.from_residual.ensures.1 c.in_err-serve.ensures.0
