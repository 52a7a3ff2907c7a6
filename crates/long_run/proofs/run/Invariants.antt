use Rattle.long_run.specs.Runs.{none, stand, after, Stands}
use Rattle.long_run.proofs.run.Given as goal

-- so many pairs are made
abbrev pub invariant-loop-i : goal.invariant-loop-i
invariant-loop-i l = Stands (after l.file l.fresh l.first l.second l.i (stand none l.initial.a l.initial.b l.initial.values)) l.t l.a l.b l.values
