use Prim.Native.Nat.{◌+◌, ◌*◌}
use mathlib.Core.List.{◌++◌}
use mathlib.Core.Path.{◌≡◌, ap, subst, ◌∙◌}
use Rattle.ol_check.specs.Judging.{Planned}
use native.Mathlib.Omega.{arith}
use Rattle.ol_spec.specs.Step.{own_size}
use Rattle.ol_tables.specs.At.{file_at}
use Rattle.ol_tables.specs.Numbers.{numbers}
use Rattle.ol_tables.specs.Tables.{node_of, plan_in}
use Rattle.ol_check.specs.NodesJudged.{place_in}
use Rattle.ol_check.proofs.Standing.{stands}
use Rattle.ol_check.proofs.CellLaws.{cells_limit}
use Rattle.ol_check.proofs.KnownLaws.{one_each}
use Rattle.ol_check.proofs.NodeLaws.{ready_counted, ready_row, ready_node, node_back, node_judged, node_looks, node_cells, size_stored, equations_ready}
use Rattle.ol_check.proofs.PlanLaws.{plan_inside, node_planned}
use Rattle.ol_check.proofs.RowLoops.{few_variables}
use Rattle.ol_check.proofs.nodes.node.Goals as goal

pub overflow_mul-row : goal.overflow_mul-row
overflow_mul-row c =
    let st = stands c.type_inv.file c.requires.0.reads in
    omega (arith, c.node-row.ensures.variables, (ready_row c.requires.0 st).variables, few_variables (ready_node c.requires.0 st))

pub overflow_add-row : goal.overflow_add-row
overflow_add-row c =
    let st = stands c.type_inv.file c.requires.0.reads in
    omega (arith, c.node-row.ensures.place, c.node-row.ensures.variables, (ready_row c.requires.0 st).place, (ready_row c.requires.0 st).variables, few_variables (ready_node c.requires.0 st), (ready_node c.requires.0 st).inside, st.short)

pub split_at_mut-types-requires : goal.split_at_mut-types-requires
split_at_mut-types-requires c =
    let st = stands c.type_inv.file c.requires.0.reads in
    omega (arith, c.requires.2.typed.room, c.node-row.ensures.place, c.node-row.ensures.variables, (ready_row c.requires.0 st).place, (ready_row c.requires.0 st).variables, plan_inside st c.args.k (omega (arith, c.requires.0.low, c.requires.0.many)))

pub cells_by-requires : goal.cells_by-requires
cells_by-requires c =
    let st = stands c.type_inv.file c.requires.0.reads in
    (omega (arith, c.node-row.ensures.place, (ready_row c.requires.0 st).place, (ready_node c.requires.0 st).inside, st.short), omega (arith, c.node-row.ensures.variables, (ready_row c.requires.0 st).variables, few_variables (ready_node c.requires.0 st)))

pub overflow_mul-g : goal.overflow_mul-g
overflow_mul-g c =
    let st = stands c.type_inv.file c.requires.0.reads in
    omega (arith, c.cells_by.ensures.1, c.node-row.ensures.variables, (ready_row c.requires.0 st).variables, few_variables (ready_node c.requires.0 st))

pub overflow_add-g : goal.overflow_add-g
overflow_add-g c =
    let st = stands c.type_inv.file c.requires.0.reads in
    omega (arith, c.cells_by.ensures.1, c.node-row.ensures.variables, (ready_row c.requires.0 st).variables, few_variables (ready_node c.requires.0 st))

pub invariant_of-judge : goal.invariant_of-judge
invariant_of-judge c =
    let st = stands c.type_inv.file c.requires.0.reads in
    let r = c.node-row.ensures in
    let place : c.node-row.result.now.place ≡ place_in (file_at c.args.file.now) c.args.k = r.place ∙ (ready_row c.requires.0 st).place in
    let plan : c.node-row.result.now.place + 2 * c.node-row.result.now.variables ≡ plan_in (file_at c.args.file.now) c.args.k = omega (arith, place, r.variables, (ready_row c.requires.0 st).variables) in
    record {
      low = omega (arith, c.requires.0.low, c.requires.0.few);
      few = c.requires.0.few;
      short = st.short;
      near = (omega (arith, place, (ready_node c.requires.0 st).inside, st.short), omega (arith, c.requires.2.place, st.inside, st.short));
      looks = node_looks c.requires.0 st c.args.names.now c.requires.1 c.declare_node.ensures c.requires.2 plan place c.split_at_mut-types.ensures.front;
      scalars = one_each st c.requires.2.scalars c.args.k;
    }

pub declare_node-requires : goal.declare_node-requires
declare_node-requires c = ready_counted c.requires.0

pub forget_node-requires : goal.forget_node-requires
forget_node-requires c = ready_counted c.requires.0

pub equations-requires : goal.equations-requires
equations-requires c =
    let st = stands c.type_inv.file c.requires.0.reads in
    let r = c.node-row.ensures in
    let place : c.node-row.result.now.place ≡ place_in (file_at c.args.file.now) c.args.k = r.place ∙ (ready_row c.requires.0 st).place in
    let plan : c.node-row.result.now.place + 2 * c.node-row.result.now.variables ≡ plan_in (file_at c.args.file.now) c.args.k = omega (arith, place, r.variables, (ready_row c.requires.0 st).variables) in
    let cells = node_cells c.requires.0 st c.args.names.now c.requires.1 c.declare_node.ensures c.requires.2 plan place c.split_at_mut-types.ensures.front (r.variables ∙ (ready_row c.requires.0 st).variables) c.cells_by.ensures.0 in (
      equations_ready c.requires.0 st c.args.names.now c.requires.1 c.declare_node.ensures r.count r.equations,
      omega (arith, cells, cells_limit (ready_node c.requires.0 st)),
      omega arith,
      omega (arith, c.requires.2.typed.room, c.split_at_mut-types.ensures.back_len, r.count, plan, (ready_row c.requires.0 st).count, plan_inside st c.args.k (omega (arith, c.requires.0.low, c.requires.0.many))),
    )

pub returns : goal.returns
returns c =
    let st = stands c.type_inv.file c.requires.0.reads in
    let r = c.node-row.ensures in
    let place : c.node-row.result.now.place ≡ place_in (file_at c.args.file.now) c.args.k = r.place ∙ (ready_row c.requires.0 st).place in
    let plan : c.node-row.result.now.place + 2 * c.node-row.result.now.variables ≡ plan_in (file_at c.args.file.now) c.args.k = omega (arith, place, r.variables, (ready_row c.requires.0 st).variables) in
    let cells = node_cells c.requires.0 st c.args.names.now c.requires.1 c.declare_node.ensures c.requires.2 plan place c.split_at_mut-types.ensures.front (r.variables ∙ (ready_row c.requires.0 st).variables) c.cells_by.ensures.0 in
    let own : 1 + 9 * c.cells_by.result ≡ own_size (node_of (file_at c.args.file.now) c.args.k) = ap (λ m. 1 + 9 * m) cells in (
      node_back c.requires.0 st c.args.names.now c.requires.1.global c.declare_node.ensures c.forget_node.ensures,
      size_stored (numbers c.args.rows.now) c.args.k _ r.kind c.record_size.ensures c.put_size.ensures,
      node_judged c.requires.0 st c.args.names.now c.declare_node.ensures r.count r.equations r.inputs own c.equations.ensures.0,
      node_planned c.requires.0 r.count r.equations own (c.node-row.result.now.place + 2 * c.node-row.result.now.variables) plan
          (omega (arith, c.requires.2.typed.room, plan, plan_inside st c.args.k (omega (arith, c.requires.0.low, c.requires.0.many))))
          (subst (λ l. Planned (numbers c.args.rows.now) c.args.nodes (1 + 9 * c.cells_by.result) c.node-row.result.now.equations (node_of (file_at c.args.file.now) c.args.k).equations 0 c.node-row.result.now.count l c.equations.new.plan) c.split_at_mut-types.ensures.back c.equations.ensures.1)
          (ap (λ l. l ++ c.equations.new.plan) c.split_at_mut-types.ensures.front),
    )
