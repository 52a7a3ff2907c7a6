use Rattle.std.proofs.Common.{sym, ◌∙◌, rules, arith}
use Rattle.relay.proofs.Calls.{small_admitted}
use Rattle.relay.proofs.Tellings.{begins_refused, begins_admitted}
use Rattle.relay.proofs.session.begin.Goals as goal

pub returns-in_err-n : goal.returns-in_err-n
returns-in_err-n c = begins_refused _ _ _ _ (sym c.admission.ensures.answered ∙ c.in_err-n.was) (search rules)

pub slice_bounds-start-end : goal.slice_bounds-start-end
slice_bounds-start-end c = omega (arith, small_admitted c.args.file.now c.in_ok-n.n (sym c.admission.ensures.answered ∙ c.in_ok-n.was))

pub returns : goal.returns
returns c =
    let e = sym c.admission.ensures.answered ∙ c.in_ok-n.was in
    begins_admitted _ _ _ _ c.start.result e (omega (arith, small_admitted c.args.file.now c.in_ok-n.n e)) c.start.ensures c.start.auto.state
