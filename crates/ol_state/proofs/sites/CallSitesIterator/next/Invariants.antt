use mathlib.Core.Path.{◌≡◌}
use Rattle.ol_state.specs.Ahead.{callees_of}
use Rattle.ol_state.proofs.sites.CallSitesIterator.next.Given as goal

abbrev pub invariant-loop-c : goal.invariant-loop-c
invariant-loop-c l = callees_of l.initial.self ≡ callees_of l.self

abbrev pub decreases-loop-c : goal.decreases-loop-c
decreases-loop-c l = l.self.eqs
