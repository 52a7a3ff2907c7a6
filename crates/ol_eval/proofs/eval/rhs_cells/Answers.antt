use Rattle.std.proofs.Common.{get_or, refl, ◌∙◌, arith}
use Rattle.ol_eval.proofs.Counting.{right_inside, callee_below, counted, others_counted, slots_few}
use Rattle.ol_eval.proofs.eval.rhs_cells.Goals as goal

pub bounds-file-at : goal.bounds-file-at
bounds-file-at c = omega (arith, right_inside c.requires.0 c.requires.1 c.args.at (get_or c.args.file.now c.args.at 0) c.requires.2 refl)

pub overflow_add-rhs : goal.overflow_add-rhs
overflow_add-rhs c = omega (arith, right_inside c.requires.0 c.requires.1 c.args.at c.from-n.result c.requires.2 c.from-n.ensures)

pub overflow_add-rhs-2 : goal.overflow_add-rhs-2
overflow_add-rhs-2 c = omega (arith, right_inside c.requires.0 c.requires.1 c.args.at c.from-n.result c.requires.2 c.from-n.ensures)

pub callee_at-requires : goal.callee_at-requires
callee_at-requires c = (right_inside c.requires.0 c.requires.1 c.args.at c.from-n.result c.requires.2 c.from-n.ensures).0

pub cells_of-inputs-requires : goal.cells_of-inputs-requires
cells_of-inputs-requires c =
    let w = right_inside c.requires.0 c.requires.1 c.args.at c.from-n.result c.requires.2 c.from-n.ensures in
    (omega (arith, w), (callee_below c.requires.0 c.requires.1 c.args.at c.from-n.result c.requires.2 c.from-n.ensures c.in-Some.c c.in-Some.is c.callee_at.ensures).1, omega arith)

pub cells_of-requires : goal.cells_of-requires
cells_of-requires c =
    let w = right_inside c.requires.0 c.requires.1 c.args.at c.from-n.result c.requires.2 c.from-n.ensures in
    (omega (arith, w), (callee_below c.requires.0 c.requires.1 c.args.at c.from-n.result c.requires.2 c.from-n.ensures c.in-Some.c c.in-Some.is c.callee_at.ensures).1, omega arith)

pub overflow_sub-cells_of : goal.overflow_sub-cells_of
overflow_sub-cells_of c =
    (counted c.requires.0 c.requires.1 c.args.at c.from-n.result c.requires.2 c.from-n.ensures c.in-Some.c c.in-Some.is c.callee_at.ensures c.cells_of-inputs.result c.cells_of.result c.cells_of-inputs.ensures.0 c.cells_of.ensures.0).0

pub overflow_add-at : goal.overflow_add-at
overflow_add-at c = omega (arith, right_inside c.requires.0 c.requires.1 c.args.at c.from-n.result c.requires.2 c.from-n.ensures)

pub named_cells-requires : goal.named_cells-requires
named_cells-requires c =
    let w = right_inside c.requires.0 c.requires.1 c.args.at c.from-n.result c.requires.2 c.from-n.ensures in
    (omega (arith, w), omega (arith, c.requires.1, c.requires.0.plan.program.sized.few), omega (arith, c.from-n.ensures, c.type_inv.file c.args.at), slots_few c.requires.0 c.requires.1 c.args.at c.from-n.result c.requires.2 c.from-n.ensures)

pub returns-in-Some : goal.returns-in-Some
returns-in-Some c =
    c.max.ensures
    ∙ (counted c.requires.0 c.requires.1 c.args.at c.from-n.result c.requires.2 c.from-n.ensures c.in-Some.c c.in-Some.is c.callee_at.ensures c.cells_of-inputs.result c.cells_of.result c.cells_of-inputs.ensures.0 c.cells_of.ensures.0).1

pub returns-in-None : goal.returns-in-None
returns-in-None c = c.named_cells.ensures ∙ others_counted c.requires.0 c.requires.1 c.args.at c.from-n.result c.requires.2 c.from-n.ensures c.in-None.is c.callee_at.ensures
