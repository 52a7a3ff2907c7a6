use mathlib.Core.Path.{refl}
use Rattle.ol_sim_c.proofs.Telling.{measures}
use Rattle.ol_sim_c.proofs.ol_sim_lengths.Goals as goal

pub returns-in-Ok : goal.returns-in-Ok
returns-in-Ok c =
    measures (record { state = c.args.state.now; inputs = c.args.inputs.now; values = c.args.values.now; equations = c.args.equations.now }) _ c.lengths.ensures c.in-Ok.is refl refl c.tell.ensures

pub returns-in-Err : goal.returns-in-Err
returns-in-Err c =
    measures (record { state = c.args.state.now; inputs = c.args.inputs.now; values = c.args.values.now; equations = c.args.equations.now }) (record { state = c.args.state.now; inputs = c.args.inputs.now; values = c.args.values.now; equations = c.args.equations.now }) c.lengths.ensures c.in-Err.is refl refl c.tell-in-Err.ensures
