use Rattle.std.proofs.Common.{rules}
use Rattle.ol_value.specs.Codes.{unary_by}
use Rattle.ol_frame.proofs.Endings.{then_is}
use Rattle.ol_frame.proofs.outcomes.unary_out.Goals as goal

pub returns : goal.returns
returns c = then_is _ (unary_by c.args.op) c.args.o c.and_then.result (λ v x h. search rules) c.and_then.ensures
