use native.Mathlib.Omega.{arith}
use Rattle.ol_check.proofs.EquationLaws.{root_judged, root_out}
use Rattle.ol_check.proofs.judge.Judge.root.Goals as goal

pub returns-then-self-next : goal.returns-then-self-next
returns-then-self-next c = root_out c.if-self-next.true c.requires

pub returns : goal.returns
returns c =
    root_judged c.args.slots.now c.args.g.now c.head-h.ensures c.arity_at-values.ensures c.slot_head.ensures c.mark.ensures c.unseen_at.ensures c.mark-2.ensures c.called_at.ensures c.mark-3.ensures c.lone.ensures c.mark-4.ensures c.other.ensures c.formed.ensures c.note.ensures c.capped-g.ensures c.site.ensures (omega (arith, c.if-self-next.false)) c.walk.ensures
