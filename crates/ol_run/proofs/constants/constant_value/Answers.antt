use mathlib.Core.Path.{ap}
use Prim.Native.Nat.{ℕ, ◌+◌}
use Rattle.ol_run.proofs.Constant.{part_ready, part_ran}
use Rattle.ol_run.proofs.constants.constant_value.Goals as goal

pub eval_part-requires : goal.eval_part-requires
eval_part-requires c = part_ready c.requires.due.0.turn _ _ _ _ _ (ap (λ (k : ℕ). c.args.at + 2 + k) c.ty_size.ensures) c.requires.framed.0 c.requires.due.1

pub returns : goal.returns
returns c = λ i t. part_ran t _ _ _ _ _ _ _ _ (ap (λ (k : ℕ). c.args.at + 2 + k) c.ty_size.ensures) c.requires.framed.0 c.requires.framed.1 c.eval_part.ensures
