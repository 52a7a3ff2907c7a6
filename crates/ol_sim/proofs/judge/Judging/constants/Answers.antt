use Rattle.std.proofs.Common.{◌+◌, ◌*◌, length, refl, ap, subst, ◌∙◌, arith}
use Rattle.std.proofs.Math.ListN.{length-drop}
use Rattle.ol_spec.specs.Admission.{constant_cell_names}
use Rattle.ol_check.specs.Founds.{place_of}
use Rattle.ol_tables.specs.At.{file_at}
use Rattle.ol_tables.specs.Numbers.{numbers}
use Rattle.ol_tables.specs.Table.{Packs, consts_of}
use Rattle.ol_run.proofs.AdmittedConstants.{constants_ready}
use Rattle.ol_sim.proofs.Chain.{no_place, passed_by_lem, judges_more}
use Rattle.ol_sim.proofs.Packing.{rows_small, firsts_small, admitted_packed, admitted_same}
use Rattle.ol_sim.proofs.Steps.{count_constants, count_nodes, stuck_12, all_held, held_room}
use Rattle.ol_sim.proofs.judge.Judging.constants.Goals as goal

pub pack_nodes-requires : goal.pack_nodes-requires
pack_nodes-requires c =
    let t = c.requires.tables in
    let nodes = count_nodes t.stands c.requires.sections c.byte-nodes.ensures.is in
    let few = t.stands.few_nodes in (
      omega (arith, nodes, few),
      omega (arith, t.tabled.long, length-drop 1394 c.args.tab.now),
      λ i lo hi. rows_small t.stands t.rowed i lo (omega (arith, hi, nodes)),
    )

pub pack_firsts-requires : goal.pack_firsts-requires
pack_firsts-requires c =
    let t = c.requires.tables in
    let enums = c.byte-enums.ensures.is ∙ t.stands.enum_count in
    let few = t.stands.few_enums in (
      omega (arith, enums, few),
      omega (arith, c.pack_nodes.auto.tab, t.tabled.long, length-drop 1394 c.args.tab.now),
      λ i lo hi. firsts_small t.stands t.rowed i lo (omega (arith, hi, enums)),
    )

pub overflow_add-c : goal.overflow_add-c
overflow_add-c c =
    let st = c.requires.tables.stands in
    omega (arith, c.requires.sections.constants, st.inside, st.short)

pub constant_values-stuck-requires : goal.constant_values-stuck-requires
constant_values-stuck-requires c =
    let t = c.requires.tables in
    let nodes = count_nodes t.stands c.requires.sections c.byte-nodes.ensures.is in
    let enums = c.byte-enums.ensures.is ∙ t.stands.enum_count in
    let packed = admitted_packed t (subst (λ n. Packs (numbers c.args.self.now.rows.now) 0 (n * 8) c.args.tab.now c.pack_nodes.new.tab) nodes c.pack_nodes.ensures) (subst (λ n. Packs (numbers c.args.self.now.rows.now) 256 (256 + n) c.pack_nodes.new.tab c.pack_firsts.new.tab) enums c.pack_firsts.ensures) in
    constants_ready c.pack_firsts.new.tab packed c.byte-nodes.result _ c.byte-count.result nodes c.requires.sections.constants (count_constants t.stands c.requires.sections c.byte-count.ensures.is) (held_room (file_at c.args.self.now.project.file.now) c.requires.holding (c.pack_firsts.auto.tab ∙ c.pack_nodes.auto.tab)) c.requires.bytes

pub overflow_sub-nodes : goal.overflow_sub-nodes
overflow_sub-nodes c =
    let st = c.requires.tables.stands in
    omega (arith, count_nodes st c.requires.sections c.byte-nodes.ensures.is, st.some_node)

pub judge_main-requires : goal.judge_main-requires
judge_main-requires c =
    let t = c.requires.tables in
    record {
      reads = t.reads;
      stands = t.stands;
      rowed = t.rowed;
      sized = c.requires.sized;
      last = omega (arith, count_nodes t.stands c.requires.sections c.byte-nodes.ensures.is, t.stands.some_node);
    }

pub returns : goal.returns
returns c =
    let f = file_at c.args.self.now.project.file.now in
    let t = c.requires.tables in
    let nodes = count_nodes t.stands c.requires.sections c.byte-nodes.ensures.is in
    let enums = c.byte-enums.ensures.is ∙ t.stands.enum_count in
    let packed = admitted_packed t (subst (λ n. Packs (numbers c.args.self.now.rows.now) 0 (n * 8) c.args.tab.now c.pack_nodes.new.tab) nodes c.pack_nodes.ensures) (subst (λ n. Packs (numbers c.args.self.now.rows.now) 256 (256 + n) c.pack_nodes.new.tab c.pack_firsts.new.tab) enums c.pack_firsts.ensures) in
    let s = c.constant_values-stuck in
    let n = length (constant_cell_names f) in
    let no12 = no_place 12 c.err.result c.in_ok-refuse_at.ensures (ap place_of c.err.ensures.value ∙ stuck_12 f n (consts_of s.new.tab) s.result s.ensures.0) in
    let held = all_held f n (consts_of s.new.tab) s.result s.ensures.0 no12 refl s.ensures.2 in
    passed_by_lem no12 (judges_more (λ size main m. record { measured = m; tables = admitted_same packed s.ensures.1; held = held }) c.judge_main.ensures)
