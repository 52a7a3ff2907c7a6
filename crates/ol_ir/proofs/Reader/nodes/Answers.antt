use mathlib.Core.Path.{ap, ◌∙◌}
use native.Mathlib.Omega.{arith}
use lib.Seq.{sets}
use Rattle.ol_spec.specs.Read.{node_r}
use Rattle.ol_ir.specs.Nexts.{next_of, repeat}
use Rattle.ol_ir.specs.Walks.{places_of}
use Rattle.ol_ir.proofs.Items.{put_turn, put_halt, put_end}
use Rattle.ol_ir.proofs.Onward.{many_next, turn, turn_halt, turns_end, erred}
use Rattle.ol_ir.proofs.Reader.nodes.Goals as goal

pub loop-i-init : goal.loop-i-init
loop-i-init c =
    let r = node_r c.args.self.now.file.now c.args.self.now.limits.now c.args.self.now.enums in
    (record { is = ap (λ n. sets c.args.starts.now 0 (places_of n r c.args.at)) (omega arith) }, record { is = many_next r _ _ ∙ ap (λ n. repeat n (λ p. next_of (r p)) c.args.at) (omega arith) })

pub loop-i-preserved : goal.loop-i-preserved
loop-i-preserved c = (put_turn c.loop-i.invariant.0 (omega arith) c.node.ensures c.put.ensures c.in_ok-next.was, turn c.loop-i.invariant.1 (omega arith) c.node.ensures c.in_ok-next.was)

pub returns-in_err-next : goal.returns-in_err-next
returns-in_err-next c =
    record {
      next = erred _ _ c.from_residual.ensures.1 ∙ turn_halt c.loop-i.invariant.1 (omega arith) c.node.ensures c.in_err-next.was;
      places = put_halt c.loop-i.invariant.0 (omega arith) c.node.ensures c.put.ensures c.in_err-next.was;
    }

pub returns : goal.returns
returns c = record { next = turns_end c.loop-i.invariant.1 (omega arith); places = put_end c.loop-i.invariant.0 (omega arith) }
