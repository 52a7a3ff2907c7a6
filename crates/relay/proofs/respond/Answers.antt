use lib.ListN.{take}
use Rattle.relay.specs.Kept.{standing}
use Rattle.relay.proofs.Lines.{of_part, handed}
use Rattle.relay.proofs.respond.Goals as goal

pub returns : goal.returns
returns c =
    handed (of_part c.args.no (take c.within-m.result c.args.line.now) (take c.args.n c.args.line.now) (standing c.args.session.now) c.within-m.ensures.s_value c.answer-k.ensures) c.write_front.ensures
