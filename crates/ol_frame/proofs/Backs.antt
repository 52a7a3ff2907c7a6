-- A value of the machine is had back from its cell.
use Prim.Native.Nat.{ℕ, ◌<◌, ◌^◌}
use mathlib.Core.Bool.{Bool, true}
use mathlib.Core.List.{[], ◌∷◌}
use mathlib.Core.Path.{◌≡◌, refl, sym, ap, ◌∙◌}
use lib.IntN.{ℤ}
use lib.Signed.{mag}
use lib.Dec.{eqb}
use lib.Ieee.{Float, fits, binary32, binary64}
use Rattle.ol_spec.specs.Cell.{cell, value_of}
use Rattle.ol_spec.specs.declared.Value.{Value}
use Rattle.ol_spec.specs.declared.Value.TheVariants as Val
use Rattle.ol_spec.proofs.Cells.{cell_back}
use Rattle.ol_spec.proofs.Tests.{true_t, or_left, eq_eqb}

pub back_from : {v : Value} (w : Value) → v ≡ w → value_of (cell w) ≡ w → value_of (cell v) ≡ v
back_from w e h = ap (λ (u : Value). value_of (cell u)) e ∙ h ∙ sym e

pub int_back : (i : ℤ) → mag i < 2 ^ 63 → value_of (cell (Val.Int i)) ≡ Val.Int i
int_back i h = cell_back [] (Val.Int i) h

pub float_back : (x : Float) → fits binary64 x ≡ true → value_of (cell (Val.Float x)) ≡ Val.Float x
float_back x h = cell_back [] (Val.Float x) (true_t (fits binary64 x) h)

pub single_back : (x : Float) → fits binary32 x ≡ true → value_of (cell (Val.Float32 x)) ≡ Val.Float32 x
single_back x h = cell_back [] (Val.Float32 x) (true_t (fits binary32 x) h)

pub enum_back : (w : ℕ) → w < 2 ^ 16 → value_of (cell (Val.Enum w)) ≡ Val.Enum w
enum_back w h = cell_back (w ∷ []) (Val.Enum w) (or_left (eqb w w) _ (eq_eqb w w refl), h)

pub bool_back : (b : Bool) → value_of (cell (Val.Bool b)) ≡ Val.Bool b
bool_back b = cell_back [] (Val.Bool b) tt
