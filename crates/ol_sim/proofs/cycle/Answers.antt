use Rattle.std.proofs.Common.{rules}
use Rattle.ol_sim.proofs.Serving.{cycle_erred}
use Rattle.ol_sim.proofs.cycle.Goals as goal

pub returns-in-Err : goal.returns-in-Err
returns-in-Err c =
    let a = c.args in
    cycle_erred a.file.now a.old.now a.inputs.now a.new.now a.values.now _ _ c.in-Err.ensures.0 (search rules) (search rules)
