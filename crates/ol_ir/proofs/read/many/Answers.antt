use mathlib.Core.Path.{ap, ◌∙◌}
use native.Mathlib.Omega.{arith}
use Rattle.ol_ir.specs.Nexts.{repeat}
use Rattle.ol_ir.proofs.Onward.{erred, turn, turn_halt, turns_end}
use Rattle.ol_ir.proofs.read.many.Goals as goal

pub loop-i-init : goal.loop-i-init
loop-i-init g c = λ f a. record { is = ap (λ n. repeat n f c.args.at) (omega arith) }

pub loop-i-preserved : goal.loop-i-preserved
loop-i-preserved g c = λ f a. turn (c.loop-i.invariant f a) (omega arith) (a _ _ c.item.ensures) c.in_ok-next.was

pub returns-in_err-next : goal.returns-in_err-next
returns-in_err-next g c = λ f a. erred _ _ c.from_residual.ensures.1 ∙ turn_halt (c.loop-i.invariant f a) (omega arith) (a _ _ c.item.ensures) c.in_err-next.was

pub returns : goal.returns
returns g c = λ f a. turns_end (c.loop-i.invariant f a) (omega arith)
