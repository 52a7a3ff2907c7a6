-- `ol_sim_c::ol_sim_admit` meets its contract.
use Rattle.ol_spec.specs.Limits.{relay_loader}
use Rattle.ol_spec.specs.Admission.{admission}
use Rattle.ol_sim_c.proofs.Telling.{admits}
use Rattle.ol_sim_c.proofs.ol_sim_admit.Goals as goal

pub returns : goal.returns
returns c = admits c.admission-v.result (admission relay_loader c.args.file.now) c.args.size.now c.unwrap_or.result c.admission-v.ensures.answered c.unwrap_or.ensures c.fault_of.ensures c.tell.ensures
