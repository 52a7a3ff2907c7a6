use mathlib.Core.Path.{◌∙◌}
use Rattle.ol_run.proofs.MainCycle.{open_ready, record_runnable, written_ready, told_ready, record_written, record_stopped}
use Rattle.ol_run.proofs.main_cycle.run_record.Goals as goal

pub open-frame-requires : goal.open-frame-requires
open-frame-requires c = open_ready c.requires c.cells_of-n.result c.cells_of-n.ensures.0 c.cells_of.result c.cells_of.ensures.0

pub run-r-requires : goal.run-r-requires
run-r-requires c = record_runnable c.requires c.cells_of-n.result c.cells_of-n.ensures.0 c.cells_of.result c.cells_of.ensures.0 c.open-frame.ensures.opened c.open-frame.ensures.long

pub finish-requires : goal.finish-requires
finish-requires c =
    written_ready c.requires c.cells_of-n.result c.cells_of-n.ensures.0 c.run-r.new.frame.cells.now c.run-r.new.new (c.run-r.ensures.1.long ∙ c.open-frame.ensures.long) c.run-r.auto.new

pub write_cells-requires : goal.write_cells-requires
write_cells-requires c = told_ready c.requires c.cells_of-n.result c.cells_of-n.ensures.0 c.run-r.new.frame.cells.now (c.run-r.ensures.1.long ∙ c.open-frame.ensures.long)

pub returns-in-Values : goal.returns-in-Values
returns-in-Values c =
    record_written c.requires c.cells_of-n.result c.cells_of-n.ensures.0 c.cells_of.result c.cells_of.ensures.0 c.open-frame.ensures.opened c.open-frame.ensures.long c.run-r.new.frame.cells.now c.run-r.new.new c.run-r.result c.run-r.ensures.0
    c.finish.new.to c.write_cells.new.to c.in-Values.is c.finish.ensures c.write_cells.ensures

pub returns-in_default : goal.returns-in_default
returns-in_default c =
    record_stopped c.requires c.cells_of-n.result c.cells_of-n.ensures.0 c.cells_of.result c.cells_of.ensures.0 c.open-frame.ensures.opened c.open-frame.ensures.long c.run-r.new.frame.cells.now c.run-r.new.new c.run-r.result c.run-r.ensures.0
    c.in_default.not-Values
