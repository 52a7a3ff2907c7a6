use mathlib.Core.Path.{sym, ◌∙◌}
use Rattle.ol_tables.specs.At.{file_at}
use Rattle.ol_sim.proofs.Starts.{start_ready, starts_whole, starts_done, starts_unfit}
use Rattle.ol_sim.proofs.program.Program.start.Goals as goal

pub write_start-requires : goal.write_start-requires
write_start-requires c =
    start_ready c.args.state.now c.requires.ready c.if-state-self.true

pub returns-then-state-self : goal.returns-then-state-self
returns-then-state-self c =
    let s = c.args.self.now.file.now in
    starts_whole s c.args.state.now c.requires.judged (starts_done (file_at s) c.args.state.now (c.if-state-self.true ∙ c.requires.ready.sized) c.write_start.ensures)

pub returns-else-state-self : goal.returns-else-state-self
returns-else-state-self c =
    let s = c.args.self.now.file.now in
    starts_whole s c.args.state.now c.requires.judged (starts_unfit (file_at s) c.args.state.now (λ e. c.if-state-self.false (e ∙ sym c.requires.ready.sized)))
