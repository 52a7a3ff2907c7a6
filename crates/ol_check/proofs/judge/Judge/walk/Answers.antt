use mathlib.Core.Logic.{inl, inr}
use mathlib.Core.Path.{◌∙◌}
use native.Mathlib.Omega.{arith}
use Rattle.ol_check.proofs.WalkLoop.{walk_start, walk_var, walk_plain, walk_call, walk_done}
use Rattle.ol_check.proofs.judge.Judge.walk.Goals.{then-is_at, else-is_at+then-file-next, else-is_at+else-file-next, then-loop-left-test+then-next-file+else-left-file, then-loop-left-test+else-next-file, else-loop-left-test}
use Rattle.ol_check.proofs.judge.Judge.walk.Goals as goal

pub loop-left-init : goal.loop-left-init
loop-left-init c = walk_start c.requires

pub loop-left-preserved : goal.loop-left-preserved
loop-left-preserved c =
    let g = c.loop-left.invariant in
    elim c.if-is_at.branch [
      | then-is_at w ↦ walk_var g c.loop-left-test.true c.if-next-file.true c.if-left-file.true c.head-h.result c.head-h.ensures w.if-is_at.ensures (w.slots-is ∙ w.judge_var.ensures.0) (w.g-is ∙ w.judge_var.ensures.1) w.size-is
      | else-is_at+then-file-next w ↦ walk_call g c.loop-left-test.true c.if-next-file.true c.if-left-file.true c.head-h.result c.head-h.ensures w.if-is_at.ensures w.slots-is (w.g-is ∙ w.judge_call.ensures) (w.size-is ∙ w.capped-size.ensures) w.site.ensures
      | else-is_at+else-file-next w ↦ walk_plain g c.loop-left-test.true c.if-next-file.true c.if-left-file.true c.head-h.result c.head-h.ensures (omega (arith, w.if-file-next.false)) w.if-is_at.ensures w.slots-is w.g-is w.size-is
    ]

pub returns : goal.returns
returns c =
    walk_done c.loop-left.invariant
    (elim c.loop-left-test.branch [
      | then-loop-left-test+then-next-file+else-left-file w ↦ inr (inr w.if-left-file.false)
      | then-loop-left-test+else-next-file w ↦ inr (inl w.if-next-file.false)
      | else-loop-left-test w ↦ inl w.loop-left-test.false
    ])
