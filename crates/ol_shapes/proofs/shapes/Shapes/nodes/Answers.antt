use Prim.Native.Nat.{◌<◌}
use mathlib.Core.Path.{refl, ap, ◌∙◌}
use native.Mathlib.Omega.{arith}
use lib.ListN.{length}
use Rattle.ol_spec.specs.Syntax.{no_node}
use Rattle.ol_spec.specs.Places.{placed_nodes}
use Rattle.ol_spec.specs.Admission.{node_misplaced}
use Rattle.ol_tables.specs.At.{file_at}
use Rattle.ol_shapes.specs.Codes.{fault_of}
use Rattle.ol_shapes.proofs.Judging.{erred}
use Rattle.ol_shapes.proofs.Firsts.{first_turn, first_stop, first_end}
use Rattle.ol_shapes.proofs.Walking.{nodes_many, node_found}
use Rattle.ol_shapes.proofs.shapes.Shapes.nodes.Goals as goal

pub loop-k-init : goal.loop-k-init
loop-k-init c = refl

pub equations-requires : goal.equations-requires
equations-requires c = (c.requires.0, c.requires.1, omega (arith, c.loop-k-test.true, c.requires.2))

pub returns-in_err-equations : goal.returns-in_err-equations
returns-in_err-equations c =
    let f = file_at c.args.self.now.file.now in
    let low : c.loop-k.k < length f.nodes = omega (arith, c.loop-k-test.true, c.requires.2) in
    ap fault_of (erred c.from_residual.result c.from_residual.ensures.1)
    ∙ first_stop (node_misplaced f) (0, no_node) (placed_nodes f) c.loop-k.k c.loop-k.invariant (omega (arith, low, nodes_many c.requires.0 c.requires.1)) (c.in_err-equations.ensures ∙ node_found c.requires.0 c.requires.1 c.loop-k.k low)

pub loop-k-preserved : goal.loop-k-preserved
loop-k-preserved c =
    let f = file_at c.args.self.now.file.now in
    let low : c.loop-k.k < length f.nodes = omega (arith, c.loop-k-test.true, c.requires.2) in
    first_turn (node_misplaced f) (0, no_node) (placed_nodes f) c.loop-k.k c.loop-k.invariant (omega (arith, low, nodes_many c.requires.0 c.requires.1)) (c.in_ok-equations.ensures ∙ node_found c.requires.0 c.requires.1 c.loop-k.k low)

pub returns : goal.returns
returns c =
    let f = file_at c.args.self.now.file.now in
    first_end (node_misplaced f) (0, no_node) (placed_nodes f) c.loop-k.k c.loop-k.invariant (omega (arith, c.loop-k-test.false, c.requires.2, nodes_many c.requires.0 c.requires.1))
