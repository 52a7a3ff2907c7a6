use Rattle.std.proofs.Common.{rules}
use Rattle.ol_spec.specs.Types.{cast_to}
use Rattle.ol_value.specs.Codes.{ty_of}
use Rattle.ol_frame.proofs.Endings.{then_is}
use Rattle.ol_frame.proofs.outcomes.cast_out.Goals as goal

pub returns : goal.returns
returns c = λ e. then_is _ (cast_to (ty_of c.args.code e)) c.args.o c.and_then.result (λ v x h. search rules) c.and_then.ensures
