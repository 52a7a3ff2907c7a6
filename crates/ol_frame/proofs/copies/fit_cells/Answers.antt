use mathlib.Core.Path.{◌≡◌, ap, subst, ◌∙◌}
use native.Mathlib.Omega.{arith}
use Prim.Native.Nat.{ℕ}
use Rattle.ol_spec.specs.Types.{fit}
use Rattle.ol_value.specs.Codes.{ty_of}
use Rattle.ol_frame.specs.Stores.{Fitted}
use Rattle.ol_frame.proofs.Storing.{fitted_none, fitted_turn, kept_back}
use Rattle.ol_frame.proofs.copies.fit_cells.Goals as goal

pub loop-i-init : goal.loop-i-init
loop-i-init c = fitted_none c.args.code c.args.cells.now

pub read_cell-v-requires : goal.read_cell-v-requires
read_cell-v-requires c = omega (arith, c.loop-i.invariant.long, c.loop-i-test.true, c.requires)

pub write_cell-requires : goal.write_cell-requires
write_cell-requires c = omega (arith, c.loop-i.invariant.long, c.loop-i-test.true, c.requires)

pub loop-i-preserved : goal.loop-i-preserved
loop-i-preserved c =
    fitted_turn _ c.read_cell-v.result c.kept-w.result c.loop-i.invariant (omega (arith, c.loop-i-test.true, c.requires)) c.read_cell-v.ensures
    (λ e. c.kept-w.ensures.0 ∙ c.fit_to.ensures e ∙ ap (fit (ty_of c.args.code e)) c.kept.ensures.0) (kept_back c.kept-w.result c.fit_to.result c.kept-w.ensures.0 c.kept-w.ensures.1) c.write_cell.ensures

pub shape_of-cells : goal.shape_of-cells
shape_of-cells c = c.loop-i.invariant.long

pub returns : goal.returns
returns c =
    let e : c.loop-i.i ≡ c.args.count = omega arith in
    subst (λ (j : ℕ). Fitted c.args.code j c.args.cells.now c.loop-i.cells) e c.loop-i.invariant
