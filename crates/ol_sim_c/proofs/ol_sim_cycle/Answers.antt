-- `ol_sim_c::ol_sim_cycle` meets its contract.
use Rattle.ol_sim_c.proofs.Telling.{cycles}
use Rattle.ol_sim_c.proofs.ol_sim_cycle.Goals as goal

pub returns : goal.returns
returns c = cycles c.cycle-c.ensures c.cycled_fault.ensures c.tell.ensures
