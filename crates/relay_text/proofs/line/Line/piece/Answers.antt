use Rattle.relay_text.proofs.Laws.{appends_put}
use Rattle.relay_text.proofs.line.Line.piece.Goals as goal

pub returns-clause-appends : goal.returns-clause-appends
returns-clause-appends c = appends_put _ _ _ c.put-self.auto.out c.put-self.ensures.0 c.put-self.ensures.1 c.put-self.ensures.2
