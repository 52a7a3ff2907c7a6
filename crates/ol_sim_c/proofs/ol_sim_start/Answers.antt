-- `ol_sim_c::ol_sim_start` meets its contract.
use Rattle.ol_sim_c.proofs.Telling.{starts}
use Rattle.ol_sim_c.proofs.ol_sim_start.Goals as goal

pub returns : goal.returns
returns c = starts c.start-s.ensures c.fault_of.ensures c.tell.ensures
