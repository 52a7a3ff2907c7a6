use mathlib.Core.Path.{◌≡◌, refl, subst}
use Prim.Native.Nat.{ℕ}
use Rattle.std.specs.Prelude.{Option as Callee, Some, None}
use Rattle.ol_tables.specs.Table.{tab_of}
use Rattle.ol_frame.specs.Stores.{Fitted, FitsPart}
use Rattle.ol_frame.proofs.Storing.{fits_all, fits_none}
use Rattle.ol_frame.proofs.copies.fit_part.Goals as goal

pub returns-in-Some : goal.returns-in-Some
returns-in-Some c =
    let t = tab_of c.args.tab.now in
    rw c.in-Some.is (fits_all t c.in-Some.k c.args.i c.args.m (subst (λ (d : ℕ). Fitted d c.args.m c.args.cells.now c.fit_cells.new.cells) c.code_of.ensures c.fit_cells.ensures))

pub returns-in_default : goal.returns-in_default
returns-in_default c = go c.args.callee c.in_default.not-Some
  where
    go : (o : Callee ℕ) → ((k : ℕ) → o ≡ Some k → ⊥) → FitsPart (tab_of c.args.tab.now) o c.args.i c.args.m c.args.cells.now c.args.cells.now
    go None h = fits_none (tab_of c.args.tab.now) c.args.i c.args.m c.args.cells.now
    go (Some k) h = absurd (h k refl)
