use Rattle.relay.proofs.Tellings.{put_front}
use Rattle.relay.proofs.session.replace.Goals as goal

pub returns : goal.returns
returns c = put_front c.put.result c.args.buffer.now c.args.bytes.now c.put.new.out c.put.ensures.0 c.put.ensures.1
