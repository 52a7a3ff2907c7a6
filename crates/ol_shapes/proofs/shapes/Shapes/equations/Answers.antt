use Prim.Native.Nat.{◌<◌}
use mathlib.Core.Path.{refl, ap, ◌∙◌}
use native.Mathlib.Omega.{arith}
use lib.ListN.{length}
use Rattle.ol_spec.specs.Places.{placed_nodes, placed_equations}
use Rattle.ol_spec.specs.Step.{no_equation}
use Rattle.ol_spec.specs.Admission.{misplaced_in}
use Rattle.ol_tables.specs.At.{file_at}
use Rattle.ol_tables.specs.Tables.{node_of, place_of}
use Rattle.ol_shapes.specs.Codes.{fault_of}
use Rattle.ol_shapes.proofs.Judging.{erred}
use Rattle.ol_shapes.proofs.Naming.{locals_of}
use Rattle.ol_shapes.proofs.Firsts.{first_turn, first_stop, first_end}
use Rattle.ol_shapes.proofs.Laying.{laid_stands}
use Rattle.ol_shapes.proofs.Walking.{near_place, few_variables, few_equations_lem, equations_many, listed_many, plan_told, equation_found}
use Rattle.ol_shapes.proofs.shapes.Shapes.equations.Goals as goal

pub node-row-requires : goal.node-row-requires
node-row-requires c = omega (arith, c.requires.2, (laid_stands c.requires.0 c.requires.1).few_nodes)

pub overflow_mul-plan : goal.overflow_mul-plan
overflow_mul-plan c = omega (arith, few_variables c.requires.0 c.requires.1 c.args.k c.requires.2 c.node-row.ensures.variables)

pub overflow_add-plan : goal.overflow_add-plan
overflow_add-plan c = omega (arith, few_variables c.requires.0 c.requires.1 c.args.k c.requires.2 c.node-row.ensures.variables, near_place c.requires.0 c.requires.1 c.args.k c.requires.2 c.node-row.ensures.place)

pub loop-i-init : goal.loop-i-init
loop-i-init c = refl

pub overflow_mul-i : goal.overflow_mul-i
overflow_mul-i c = omega (arith, c.loop-i-test.true, few_equations_lem c.requires.0 c.requires.1 c.args.k c.requires.2 c.node-row.ensures.count)

pub overflow_add-plan-in-loop-i : goal.overflow_add-plan-in-loop-i
overflow_add-plan-in-loop-i c =
    omega (
      arith,
      c.loop-i-test.true,
      few_equations_lem c.requires.0 c.requires.1 c.args.k c.requires.2 c.node-row.ensures.count,
      few_variables c.requires.0 c.requires.1 c.args.k c.requires.2 c.node-row.ensures.variables,
      near_place c.requires.0 c.requires.1 c.args.k c.requires.2 c.node-row.ensures.place,
    )

pub returns-in_err-equation : goal.returns-in_err-equation
returns-in_err-equation c =
    let s = c.args.self.now.file.now in
    let l = c.requires.0 in
    let row = c.node-row.ensures in
    let i = c.loop-i.i in
    let more : i < length (node_of (file_at s) c.args.k).equations = omega (arith, c.loop-i-test.true, equations_many l c.requires.1 c.args.k c.requires.2 row.count) in
    let qs = placed_equations (place_of (placed_nodes (file_at s)) c.args.k) (node_of (file_at s) c.args.k) in
    let listed : i < length qs = omega (arith, c.loop-i-test.true, listed_many l c.requires.1 c.args.k c.requires.2 row.count) in
    let at = plan_told l c.requires.1 c.args.k c.requires.2 i more row.place row.variables c.name.ensures.is in
    ap fault_of (erred c.from_residual.result c.from_residual.ensures.1)
    ∙ first_stop (misplaced_in (file_at s) (locals_of s c.args.k)) (0, no_equation) qs i c.loop-i.invariant listed (equation_found l c.requires.1 c.args.k c.requires.2 i more at c.in_err-equation.ensures)

pub loop-i-preserved : goal.loop-i-preserved
loop-i-preserved c =
    let s = c.args.self.now.file.now in
    let l = c.requires.0 in
    let row = c.node-row.ensures in
    let i = c.loop-i.i in
    let more : i < length (node_of (file_at s) c.args.k).equations = omega (arith, c.loop-i-test.true, equations_many l c.requires.1 c.args.k c.requires.2 row.count) in
    let qs = placed_equations (place_of (placed_nodes (file_at s)) c.args.k) (node_of (file_at s) c.args.k) in
    let listed : i < length qs = omega (arith, c.loop-i-test.true, listed_many l c.requires.1 c.args.k c.requires.2 row.count) in
    let at = plan_told l c.requires.1 c.args.k c.requires.2 i more row.place row.variables c.name.ensures.is in
    first_turn (misplaced_in (file_at s) (locals_of s c.args.k)) (0, no_equation) qs i c.loop-i.invariant listed (equation_found l c.requires.1 c.args.k c.requires.2 i more at c.in_ok-equation.ensures)

pub returns : goal.returns
returns c =
    let s = c.args.self.now.file.now in
    let qs = placed_equations (place_of (placed_nodes (file_at s)) c.args.k) (node_of (file_at s) c.args.k) in
    first_end (misplaced_in (file_at s) (locals_of s c.args.k)) (0, no_equation) qs c.loop-i.i c.loop-i.invariant (omega (arith, c.loop-i-test.false, listed_many c.requires.0 c.requires.1 c.args.k c.requires.2 c.node-row.ensures.count))
