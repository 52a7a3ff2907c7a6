use mathlib.Core.Path.{◌≡◌, sym, ap, ◌∙◌}
use Prim.Native.Nat.{◌-◌}
use native.Mathlib.Omega.{arith}
use Rattle.ol_spec.specs.Cell.{good_cells}
use Rattle.ol_state.proofs.Judged.{and_pass, and_stop, cells_next, cells_none}
use Rattle.ol_state.proofs.cells.good_cells.Goals as goal

pub loop-i-init : goal.loop-i-init
loop-i-init c =
    let e : c.args.n ≡ c.args.n - 0 = omega arith in
    λ names tells. ap (λ m. good_cells names m c.args.cells.now) e

pub loop-i-preserved : goal.loop-i-preserved
loop-i-preserved c =
    λ names tells. c.loop-i.invariant names tells ∙ cells_next names c.args.n c.loop-i.i c.args.cells.now c.loop-i-test.true ∙ and_pass (sym (c.judge_cell.ensures names tells) ∙ c.if-not-judge_cell.false)

pub returns-then-not-judge_cell : goal.returns-then-not-judge_cell
returns-then-not-judge_cell c =
    λ names tells. sym (c.loop-i.invariant names tells ∙ cells_next names c.args.n c.loop-i.i c.args.cells.now c.loop-i-test.true ∙ and_stop _ (sym (c.judge_cell.ensures names tells) ∙ c.if-not-judge_cell.true))

pub returns : goal.returns
returns c =
    λ names tells. sym (c.loop-i.invariant names tells ∙ cells_none names c.args.n c.loop-i.i c.args.cells.now (omega arith))
