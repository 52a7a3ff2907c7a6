use Rattle.std.proofs.Common.{rules}
use Rattle.ol_sim.proofs.Serving.{starts_erred}
use Rattle.ol_sim.proofs.start.Goals as goal

pub returns-in_err-serve : goal.returns-in_err-serve
returns-in_err-serve c = starts_erred c.args.file.now c.args.state.now c.from_residual.result _ c.from_residual.ensures.1 c.in_err-serve.ensures.0 (search rules)
