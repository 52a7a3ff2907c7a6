use Rattle.ol_check.proofs.SizeLaws.{state_sized}
use Rattle.ol_check.proofs.size.state_size.Goals as goal

pub returns : goal.returns
returns c = state_sized _ _ _ c.capped.ensures
