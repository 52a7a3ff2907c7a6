use Rattle.ol_run.proofs.MainCycle.{main_wide}
use Rattle.ol_run.proofs.main_cycle.run_main.Goals as goal

pub run_3584-requires : goal.run_3584-requires
run_3584-requires c = (c.requires, main_wide c.requires)
