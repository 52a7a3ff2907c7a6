use mathlib.Core.List.{List, ◌++◌}
use mathlib.Core.Path.{◌≡◌, refl, ap, ◌∙◌}
use Prim.Native.Nat.{ℕ, ◌-◌}
use native.Mathlib.Omega.{arith}
use lib.ListN.{length, take, drop, length-drop}
use lib.Seq.{take_all}
use Rattle.ol_spec.specs.Cell.{values_of}
use Rattle.ol_frame.proofs.Framing.{opened_cells}
use Rattle.ol_frame.proofs.frame.Frame.open.Goals as goal

pub returns-clause-opened : goal.returns-clause-opened
returns-clause-opened c =
    let n = c.args.n in
    let i = c.args.inputs in
    let old = c.args.old.now in
    let lent : take (length old - 1) (drop 1 old) ≡ drop 1 old = take_all (length old - 1) (drop 1 old) (omega (arith, length-drop 1 old)) in
    record {
      node = refl;
      first = refl;
      cells = opened_cells n i (take (length old - 1) (drop 1 old)) c.args.args.now c.args.cells.now c.copy_cells.new.to _ c.requires.0 (omega (arith, ap length lent, length-drop 1 old, c.requires.4)) c.requires.3 c.requires.2 c.copy_cells.auto.to c.copy_cells.ensures c.copy_cells-2.ensures
          ∙ ap (λ (s : List ℕ). values_of i c.args.args.now ++ drop i (values_of n s)) lent;
      before = lent;
    }
