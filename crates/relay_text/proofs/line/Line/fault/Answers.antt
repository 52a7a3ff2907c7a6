use Rattle.relay_text.proofs.Laws.{appends_both}
use Rattle.relay_text.proofs.line.Line.fault.Goals as goal

pub returns-clause-appends : goal.returns-clause-appends
returns-clause-appends c =
    appends_both _ _ _ _ _ (appends_both _ _ _ _ _ (rw c.from.ensures at c.number.ensures.appends) c.piece.ensures.appends) c.number-2.ensures.appends
