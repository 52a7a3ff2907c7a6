-- What the code notes of a fault is its first place.
use Prim.Native.Nat.{ℕ}
use mathlib.Core.Bool.{Bool, true, false}
use mathlib.Core.Path.{◌≡◌, refl}
use Rattle.std.specs.Prelude.{Option as RustOption, Some, None}
use Rattle.ol_check.specs.Founds.{place_of, earliest, marked}

pub place_marked : (found : RustOption ℕ) (q : Bool) (at : ℕ) → place_of (marked found q at) ≡ earliest (place_of found) q at
place_marked (Some p) q at = refl
place_marked None true at = refl
place_marked None false at = refl
