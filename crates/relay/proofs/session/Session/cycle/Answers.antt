use Rattle.std.proofs.Common.{refl, sym, arith}
use Rattle.std.specs.Prelude.{Some}
use Rattle.ol_spec.specs.declared.Cycled.TheVariants as Cyc
use Rattle.relay.proofs.Tellings.{cycle_ends, cycle_tells, stands_is, took}
use Rattle.relay.proofs.session.Session.cycle.Goals as goal

pub returns-in-Answered : goal.returns-in-Answered
returns-in-Answered c =
    let ends = cycle_ends c.front-file.result.now c.front-old.result.now c.front.result.now c.args.self.now.next c.args.self.now.values c.cycle.new.new c.cycle.new.values c.args.given c.lent_to-lent.result c.cycle.result (omega arith) (omega arith) c.lent_to-lent.ensures c.cycle.ensures in
    rw (sym c.front-file.ensures, sym c.front-old.ensures, sym c.front.ensures)
    (cycle_tells _ _ _ _ _ _ _ c.cycle.result Cyc.Answered c.say_answered.result ends c.in-Answered.is c.say_answered.ensures.0
    (stands_is (Some (record { file = c.args.kept.file; state = c.lent_to-lent.result.state })) c.args.self.now.file c.replace.new.buffer (record { file = c.args.kept.file; state = c.lent_to-lent.result.state }) _ _ refl (sym c.front-file.ensures) (took c.lent_to-lent.result.state c.cycle.new.new c.args.self.now.next c.replace.new.buffer c.cycle.auto.new (omega (arith, c.lent_to-lent.ensures.state_fits)) c.replace.ensures)))

pub returns-in-Stopped : goal.returns-in-Stopped
returns-in-Stopped c =
    let ends = cycle_ends c.front-file.result.now c.front-old.result.now c.front.result.now c.args.self.now.next c.args.self.now.values c.cycle.new.new c.cycle.new.values c.args.given c.lent_to-lent.result c.cycle.result (omega arith) (omega arith) c.lent_to-lent.ensures c.cycle.ensures in
    rw (sym c.front-file.ensures, sym c.front-old.ensures, sym c.front.ensures)
    (cycle_tells _ _ _ _ _ _ _ c.cycle.result (Cyc.Stopped c.in-Stopped.f) c.say_stopped.result ends c.in-Stopped.is c.say_stopped.ensures.0
    (stands_is (Some (record { file = c.args.kept.file; state = c.lent_to-lent.result.state })) c.args.self.now.file c.replace-in-Stopped.new.buffer (record { file = c.args.kept.file; state = c.lent_to-lent.result.state }) _ _ refl (sym c.front-file.ensures) (took c.lent_to-lent.result.state c.cycle.new.new c.args.self.now.next c.replace-in-Stopped.new.buffer c.cycle.auto.new (omega (arith, c.lent_to-lent.ensures.state_fits)) c.replace-in-Stopped.ensures)))

pub returns-in-Refused : goal.returns-in-Refused
returns-in-Refused c =
    let ends = cycle_ends c.front-file.result.now c.front-old.result.now c.front.result.now c.args.self.now.next c.args.self.now.values c.cycle.new.new c.cycle.new.values c.args.given c.lent_to-lent.result c.cycle.result (omega arith) (omega arith) c.lent_to-lent.ensures c.cycle.ensures in
    rw (sym c.front-file.ensures, sym c.front-old.ensures, sym c.front.ensures)
    (cycle_tells _ _ _ _ _ _ _ c.cycle.result (Cyc.Refused c.in-Refused.f) c.say_refused.result ends c.in-Refused.is c.say_refused.ensures.0
    (stands_is c.args.self.now.kept c.args.self.now.file c.args.self.now.state c.args.kept _ _ c.requires (sym c.front-file.ensures) (sym c.front-old.ensures)))
