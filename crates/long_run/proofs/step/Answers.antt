use Rattle.std.proofs.Common.{◌≡◌, arith, ap, sym, ◌∙◌}
use Rattle.long_run.specs.Runs.{is_answered}
use Rattle.long_run.proofs.Laws.{unanswered, more_is, stepped_is}
use Rattle.long_run.proofs.step.Goals as goal
use Rattle.long_run.proofs.step.Goals.{in-Answered, in_default}

pub returns : goal.returns
returns c =
    let r = c.cycle-c.result in
    let s = c.match-matches.matches in
    let e : s ≡ is_answered r = elim c.match-matches.branch [ in-Answered w ↦ w.matches-is ∙ sym (ap is_answered w.in-Answered.is) | in_default w ↦ w.matches-is ∙ unanswered r w.in_default.not-Answered ] in
    stepped_is _ _ s c.eq-is_fresh.result c.cycle-c.ensures e (more_is c.args.t.answered _ s (omega arith) c.from.ensures) c.eq-is_fresh.ensures (more_is c.args.t.fresh _ _ (omega arith) c.from-2.ensures)
