use mathlib.Core.Path.{◌≡◌, refl, subst, ◌∙◌}
use mathlib.Core.List.{◌++◌}
use Prim.Native.Nat.{ℕ, ◌*◌}
use native.Mathlib.Omega.{arith}
use lib.ListN.{drop}
use Rattle.ol_spec.specs.Cell.{cells, values_of}
use Rattle.ol_frame.proofs.Copying.{copied_turn, copied_length}
use Rattle.ol_frame.proofs.copies.write_cells.Goals as goal

pub loop-i-init : goal.loop-i-init
loop-i-init c = refl

pub overflow_mul-p : goal.overflow_mul-p
overflow_mul-p c =
    let lt = c.loop-i-test.true in
    omega (arith, lt, c.requires.0)

pub read_cell-requires : goal.read_cell-requires
read_cell-requires c =
    let lt = c.loop-i-test.true in
    omega (arith, lt, c.requires.1)

pub write_cell-requires : goal.write_cell-requires
write_cell-requires c =
    let lt = c.loop-i-test.true in
    let len = copied_length c.loop-i.i c.args.from.now c.args.to.now c.loop-i.to (omega (arith, c.requires.2)) c.loop-i.invariant in
    omega (arith, lt, c.requires.2, len)

pub loop-i-preserved : goal.loop-i-preserved
loop-i-preserved c =
    let lt = c.loop-i-test.true in
    let from = c.args.from.now in
    let to = c.args.to.now in
    (copied_turn c.loop-i.i from to c.loop-i.to _ c.kept-v.result c.loop-i.invariant (c.kept-v.ensures.0 ∙ c.read_cell.ensures) c.write_cell.ensures)

pub shape_of-to : goal.shape_of-to
shape_of-to c =
    let len = copied_length c.loop-i.i c.args.from.now c.args.to.now c.loop-i.to (omega (arith, c.requires.2)) c.loop-i.invariant in
    len

pub returns : goal.returns
returns c =
    let from = c.args.from.now in
    let to = c.args.to.now in
    let e : c.loop-i.i ≡ c.args.n = omega arith in
    subst (λ (k : ℕ). c.loop-i.to ≡ cells (values_of k from) ++ drop (9 * k) to) e c.loop-i.invariant
