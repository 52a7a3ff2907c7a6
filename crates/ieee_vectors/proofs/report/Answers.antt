use Rattle.ieee_vectors.proofs.report.Goals as goal

pub returns-then-passes : goal.returns-then-passes
returns-then-passes c = cc

pub returns-else-passes : goal.returns-else-passes
returns-else-passes c = cc
