use Rattle.std.proofs.Common.{◌≡◌, ◌++◌, length, sym, ap, ◌∙◌, arith}
use Rattle.ol_tables.specs.At.{file_at}
use Rattle.ol_tables.specs.Table.{half_of}
use Rattle.ol_tables.proofs.NumberLaws.{numbers_long}
use Rattle.ol_sim.specs.Judging.{names_after}
use Rattle.ol_sim.proofs.Chain.{no_place, passed_by_lem}
use Rattle.ol_sim.proofs.Begins.{Cut, shapes_ready, plans_typed}
use Rattle.ol_sim.proofs.judge.judge_names.Goals as goal

pub faults-found-requires : goal.faults-found-requires
faults-found-requires c =
    let rest = c.split_at_mut-rest in
    let cut = c.split_at_mut-slots in
    let h = c.requires.names_ready in
    let r = h.sections.rowed in
    let half : length cut.result.0.now ≡ half_of c.args.tab.now = omega (arith, cut.ensures.front_len, rest.ensures.back_len) in
    let k : Cut c.args.tab.now rest.result.0.now cut.result.0.now cut.result.1.now = record { parts = rest.ensures.value ∙ ap (λ l. rest.result.0.now ++ l) cut.ensures.value; head_long = rest.ensures.front_len; slots_long = half } in
    (record { reads = r.reads; row = r.row; sections = r.sections; empty = h.empty.zero }, h.empty.within, plans_typed k h.sections.tab_long h.sections.typed, c.requires.found.arrays)

pub shapes-requires-clause-shapes_ready : goal.shapes-requires-clause-shapes_ready
shapes-requires-clause-shapes_ready c =
    let rest = c.split_at_mut-rest in
    let cut = c.split_at_mut-slots in
    let r = c.faults-found in
    let half : length cut.result.0.now ≡ half_of c.args.tab.now = omega (arith, cut.ensures.front_len, rest.ensures.back_len) in
    let k : Cut c.args.tab.now rest.result.0.now cut.result.0.now cut.result.1.now = record { parts = rest.ensures.value ∙ ap (λ l. rest.result.0.now ++ l) cut.ensures.value; head_long = rest.ensures.front_len; slots_long = half } in
    shapes_ready c.requires.names_ready (numbers_long r.new.rows) (no_place 6 c.args.sorted.found c.in_ok-refuse_at.ensures c.requires.found.clash) k (record { slots_same = r.auto.slots; plans_same = r.auto.plans }) r.ensures.judged r.ensures.typed
    (record { planned = r.ensures.planned; constants = r.ensures.constants })

pub returns : goal.returns
returns c =
    let no6 = no_place 6 c.args.sorted.found c.in_ok-refuse_at.ensures c.requires.found.clash in
    record {
      judged = passed_by_lem no6 c.shapes.ensures;
      named = c.faults-found.ensures.judged.entered ∙ sym (ap (λ o. names_after o (file_at c.args.project.now.file.now) c.args.names.now) no6);
    }
