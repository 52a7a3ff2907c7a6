-- `ol_sim_c::ol_sim_order` meets its contract.
use Rattle.ol_sim_c.proofs.Telling.{orders}
use Rattle.ol_sim_c.proofs.ol_sim_order.Goals as goal

pub returns : goal.returns
returns c = orders c.evaluation_order-s.ensures c.fault_of.ensures c.tell.ensures
