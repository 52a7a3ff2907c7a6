use mathlib.Core.Path.{◌≡◌, refl, sym, ap, subst, ◌∙◌}
use Prim.Native.Nat.{ℕ}
use native.Mathlib.Omega.{arith}
use Rattle.ol_spec.specs.Types.{fit}
use Rattle.ol_value.specs.Codes.{ty_of}
use Rattle.ol_run.specs.Constants.{Back, KeepsCells}
use Rattle.ol_run.proofs.Constant.{kept_turn}
use Rattle.ol_run.proofs.constants.keep_cells.Goals as goal

pub loop-i-init : goal.loop-i-init
loop-i-init c = record { bytes = λ e. refl; back = λ e. tt }

pub loop-i-preserved : goal.loop-i-preserved
loop-i-preserved c =
    kept_turn c.args.code c.loop-i.i c.args.from.now c.args.to.now c.loop-i.to c.write_cell.new.out c.kept-w.result c.loop-i.invariant
    (λ e. c.kept-w.ensures.0 ∙ c.fit_to.ensures e ∙ ap (fit (ty_of c.args.code e)) c.read_cell.ensures) (subst Back (sym c.kept-w.ensures.0) c.kept-w.ensures.1) c.write_cell.ensures

pub returns : goal.returns
returns c =
    let e : c.loop-i.i ≡ c.args.count = omega arith in
    subst (λ (k : ℕ). KeepsCells c.args.code k c.args.from.now c.args.to.now c.loop-i.to) e c.loop-i.invariant
