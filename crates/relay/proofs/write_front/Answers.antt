use Rattle.relay.proofs.Lines.{front}
use Rattle.relay.proofs.write_front.Goals as goal

pub returns : goal.returns
returns c =
    front c.args.n c.within-k.result c.write.result.length c.args.out.now c.within-k.ensures.prefix_len.0 c.within-k.ensures.prefix_len.1 c.within-k.ensures.s_value c.write.ensures
