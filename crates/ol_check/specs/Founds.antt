-- What the code answers for a fault of Admission: its place, if it holds.
use Rattle.std.specs.Prelude.{ℕ, Some, None, Bool, cond}
use Rattle.std.specs.Prelude.{Option as RustOption}
use Rattle.std.proofs.Math.Option.{Option, none, some}
use Rattle.ol_spec.specs.Lists.{or_else}
use Rattle.ol_spec.specs.Admission.{first_if}

abbrev pub place_of : RustOption ℕ → Option ℕ
place_of (Some p) = some p
place_of None = none

-- the place in hand, else this item's if it is faulted
abbrev pub earliest : Option ℕ → Bool → ℕ → Option ℕ
earliest found faulted at = or_else found (first_if faulted at none)

-- the same as the code holds it
abbrev pub marked : RustOption ℕ → Bool → ℕ → RustOption ℕ
marked (Some p) faulted at = Some p
marked None faulted at = cond faulted (Some at) None
