use mathlib.Core.Path.{◌≡◌, ap, ◌∙◌}
use native.Mathlib.Omega.{arith}
use mathlib.Core.List.{[]}
use lib.ListN.{length}
use Rattle.ol_state.specs.Ahead.{callees_of}
use Rattle.ol_state.proofs.Walk.{site_met, none_left, file_ends, names_passed}
use Rattle.ol_state.proofs.sites.CallSitesIterator.next.Goals as goal
use Rattle.ol_state.proofs.sites.CallSitesIterator.next.Goals.{then-self-eq0-via-then-self-eq0, then-self-eq0-via-else-self-eq0+then-self-end}

pub loop-c-preserved : goal.loop-c-preserved
loop-c-preserved c =
    c.loop-c.invariant ∙ names_passed c.loop-c.self.eqs c.in-End.ensures (omega arith) c.if-self-end.false c.byte.ensures.is

pub returns-in-Found-clause-steps : goal.returns-in-Found-clause-steps
returns-in-Found-clause-steps c = c.loop-c.invariant ∙ site_met c.loop-c.self.eqs c.in-Found.ensures

pub returns-in-Found-clause-goes : goal.returns-in-Found-clause-goes
returns-in-Found-clause-goes c =
    let e = ap length (c.loop-c.invariant ∙ site_met c.loop-c.self.eqs c.in-Found.ensures) in
    record { on = λ _. (tt, tt, omega arith); keeps = tt; rests = λ _. tt }

pub returns-then-self-eq0-clause-steps : goal.returns-then-self-eq0-clause-steps
returns-then-self-eq0-clause-steps c =
    let e : callees_of c.loop-c.self ≡ [] =
    elim c.then-self-eq0.branch [
      | then-self-eq0-via-then-self-eq0 w ↦ none_left c.loop-c.self.eqs c.in-End.ensures w.if-self-eq0.true
      | then-self-eq0-via-else-self-eq0+then-self-end w ↦ file_ends c.loop-c.self.eqs c.in-End.ensures w.if-self-end.true
    ] in
    (c.loop-c.invariant ∙ e, e)
