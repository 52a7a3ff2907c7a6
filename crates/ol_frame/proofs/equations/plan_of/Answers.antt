use native.Mathlib.Omega.{arith}
use lib.ListN.{length-drop}
use Rattle.ol_frame.proofs.Equating.{row_below}
use Rattle.ol_frame.proofs.equations.plan_of.Goals as goal

pub overflow_add-result-2 : goal.overflow_add-result-2
overflow_add-result-2 c =
    let t = c.args.tab.now in
    omega (arith, ((row_below t (λ i. omega (arith, c.type_inv.tab i))) c.args.k 7 c.requires.1 (omega arith)), c.row.ensures)

pub overflow_mul-result : goal.overflow_mul-result
overflow_mul-result c =
    let t = c.args.tab.now in
    omega (arith, ((row_below t (λ i. omega (arith, c.type_inv.tab i))) c.args.k 4 c.requires.1 (omega arith)), c.row-2.ensures)

pub overflow_add-result-3 : goal.overflow_add-result-3
overflow_add-result-3 c =
    let t = c.args.tab.now in
    omega (arith, ((row_below t (λ i. omega (arith, c.type_inv.tab i))) c.args.k 7 c.requires.1 (omega arith)), ((row_below t (λ i. omega (arith, c.type_inv.tab i))) c.args.k 4 c.requires.1 (omega arith)), c.row.ensures, c.row-2.ensures)

pub returns : goal.returns
returns c =
    let t = c.args.tab.now in
    (omega (arith, c.row.ensures, c.row-2.ensures, length-drop 1394 t), omega (arith, ((row_below t (λ i. omega (arith, c.type_inv.tab i))) c.args.k 7 c.requires.1 (omega arith)), ((row_below t (λ i. omega (arith, c.type_inv.tab i))) c.args.k 4 c.requires.1 (omega arith)), c.row.ensures, c.row-2.ensures, length-drop 1394 t))
