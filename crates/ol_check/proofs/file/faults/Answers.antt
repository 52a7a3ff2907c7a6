use mathlib.Core.Path.{refl, sym, ap, ◌∙◌}
use native.Mathlib.Omega.{arith}
use Rattle.ol_check.specs.Founds.{place_of}
use Rattle.ol_check.proofs.FileLaws.{few_enums_lem, rows_ready, constant_count_lem, constants_ready, names_ready, file_judged, table_is}
use Rattle.ol_check.proofs.FilePlans.{constants_room, plans_ready, constants_told, types_through}
use Rattle.ol_check.proofs.Standing.{stands}
use Rattle.ol_check.proofs.file.faults.Goals as goal

pub declare_enums-requires : goal.declare_enums-requires
declare_enums-requires c =
    (few_enums_lem (stands c.type_inv.file c.requires.0.reads) c.byte.ensures, omega arith)

pub judge_constants-requires : goal.judge_constants-requires
judge_constants-requires c =
    let rd = c.requires.0 in
    let st = stands c.type_inv.file rd.reads in
    let many = constant_count_lem rd c.requires.1 st c.byte-2.ensures in (
      st.short,
      many,
      omega (arith, many, st.few_constants),
      (rows_ready rd c.requires.1 st c.byte-nodes.ensures).few,
      constants_ready rd c.requires.1 st c.byte-nodes.ensures c.byte.ensures c.byte-2.ensures c.declare_enums.ensures,
      constants_room st rd.sections.constants c.requires.2 rd.reads c.args.names.now rd.empty c.requires.1 (table_is rd c.requires.1 st c.byte-nodes.ensures c.byte.ensures c.byte-2.ensures c.declare_enums.ensures) (λ e. sym c.requires.3 ∙ e),
      omega arith,
    )

pub judge_nodes-requires : goal.judge_nodes-requires
judge_nodes-requires c =
    let d = c.default.ensures in
    let rd = c.requires.0 in
    let st = stands c.type_inv.file rd.reads in (
      rows_ready rd c.requires.1 st c.byte-nodes.ensures,
      names_ready rd c.requires.1 st c.byte-nodes.ensures c.byte.ensures c.byte-2.ensures c.declare_enums.ensures refl (ap place_of d.0) (ap place_of d.1.0) (ap place_of d.1.1.0) (ap place_of d.1.1.1.0) c.requires.3 c.judge_constants.ensures.judged,
      plans_ready st rd.sections.constants c.requires.2 c.judge_constants.ensures.typed (λ e. sym c.requires.3 ∙ e),
    )

pub shape_of-names : goal.shape_of-names
shape_of-names c = c.judge_nodes.auto.names ∙ c.judge_constants.auto.names ∙ c.declare_enums.auto.names

pub returns : goal.returns
returns c =
    let d = c.default.ensures in
    let rd = c.requires.0 in
    let st = stands c.type_inv.file rd.reads in
    let n = c.judge_nodes.ensures in
    record {
      judged = file_judged rd c.requires.1 st c.byte-nodes.ensures c.byte.ensures c.byte-2.ensures c.declare_enums.ensures refl (ap place_of d.0) (ap place_of d.1.0) (ap place_of d.1.1.0) (ap place_of d.1.1.1.0) c.requires.3 c.judge_constants.ensures.judged n.0 n.1 n.2;
      planned = λ no k lt. n.3 no k (omega (arith, (rows_ready rd c.requires.1 st c.byte-nodes.ensures).many));
      typed = types_through st rd.sections.constants c.requires.2 c.judge_constants.ensures.typed n.4;
      constants = constants_told st rd.sections.constants c.requires.2 c.judge_constants.ensures.typed n.5;
    }
