use Rattle.std.proofs.Common.{◌≡◌, Bool, false, sym}
use Rattle.ol_spec.specs.Cycle.{fits17}
use Rattle.ol_tables.specs.At.{file_at}
use Rattle.ol_sim.specs.Judging.{values_in}
use Rattle.ol_sim.proofs.Cycles.{cycle_whole, unless_15, unless_16, unless_17, unless_run, fits_yes, fits_new, fits_values, run_ready, state_ready}
use Rattle.ol_sim.proofs.program.Program.cycle.Goals as goal
use Rattle.ol_sim.proofs.program.Program.cycle.Goals.{then-new-self-via-then-new-self, then-new-self-via-else-new-self+then-values-n}

pub good_state-requires : goal.good_state-requires
good_state-requires c = state_ready c.requires.ready c.requires.tells

pub good_inputs-requires : goal.good_inputs-requires
good_inputs-requires c = c.requires.ready.running.known

pub returns-then-not-good_state : goal.returns-then-not-good_state
returns-then-not-good_state c =
    let a = c.args in
    let s = a.self.now.file.now in
    let f = file_at s in
    let no15 = sym (c.if-not-good_state.ensures (values_in f) c.requires.ready.held.is) in
    cycle_whole s a.old.now a.inputs.now a.new.now a.values.now c.requires.judged (unless_15 f a.old.now a.inputs.now a.new.now a.values.now no15 c.refuse.ensures)

pub returns-then-not-good_inputs : goal.returns-then-not-good_inputs
returns-then-not-good_inputs c =
    let a = c.args in
    let s = a.self.now.file.now in
    let f = file_at s in
    let is15 = sym (c.if-not-good_state.ensures (values_in f) c.requires.ready.held.is) in
    cycle_whole s a.old.now a.inputs.now a.new.now a.values.now c.requires.judged (unless_16 f a.old.now a.inputs.now a.new.now a.values.now is15 (sym c.if-not-good_inputs.ensures) c.refuse-then-not-good_inputs.ensures)

pub returns-then-new-self : goal.returns-then-new-self
returns-then-new-self c =
    let a = c.args in
    let s = a.self.now.file.now in
    let f = file_at s in
    let h = c.requires.ready in
    let is15 = sym (c.if-not-good_state.ensures (values_in f) h.held.is) in
    let unfit = λ (no17 : ◌≡◌ {A = Bool} (fits17 f a.new.now a.values.now) false).
    cycle_whole s a.old.now a.inputs.now a.new.now a.values.now c.requires.judged (unless_17 f a.old.now a.inputs.now a.new.now a.values.now is15 (sym c.if-not-good_inputs.ensures) no17 c.refuse-then-new-self.ensures) in
    elim c.then-new-self.branch [
      | then-new-self-via-then-new-self w ↦ unfit (fits_new h a.new.now a.values.now w.if-new-self.true)
      | then-new-self-via-else-new-self+then-values-n w ↦ unfit (fits_values h a.new.now a.values.now c.cells_of-n.ensures.0 w.if-new-self.false w.if-values-n.true)
    ]

pub run_main-requires : goal.run_main-requires
run_main-requires c =
    let a = c.args in
    let h = c.requires.ready in
    let is15 = sym (c.if-not-good_state.ensures (values_in (file_at a.self.now.file.now)) h.held.is) in
    run_ready a.old.now a.inputs.now a.new.now a.values.now h is15 (sym c.if-not-good_inputs.ensures) c.cells_of-n.ensures.0 c.if-new-self.false c.if-values-n.false

pub returns : goal.returns
returns c =
    let a = c.args in
    let s = a.self.now.file.now in
    let f = file_at s in
    let h = c.requires.ready in
    let is15 = sym (c.if-not-good_state.ensures (values_in f) h.held.is) in
    cycle_whole s a.old.now a.inputs.now a.new.now a.values.now c.requires.judged
    (unless_run f a.old.now a.inputs.now a.new.now a.values.now is15 (sym c.if-not-good_inputs.ensures) (fits_yes h a.new.now a.values.now c.cells_of-n.ensures.0 c.if-new-self.false c.if-values-n.false) (c.run_main.ensures (values_in f) h.held.many h.held.back))
