use native.Mathlib.Omega.{arith}
use Rattle.ol_sim.proofs.Steps.{main_ready}
use Rattle.ol_sim.proofs.judge.judge_main.Goals as goal

pub too_long-requires : goal.too_long-requires
too_long-requires c =
    (c.requires.reads, c.requires.rowed, c.requires.last, c.requires.sized)

pub overflow_add-main : goal.overflow_add-main
overflow_add-main c =
    omega (arith, c.requires.last, c.requires.stands.few_nodes)

pub not_operator-requires : goal.not_operator-requires
not_operator-requires c =
    (main_ready c.requires.reads c.requires.stands c.requires.rowed c.requires.last, omega arith)
