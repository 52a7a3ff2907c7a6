-- The 64 bits of an integer, and the integer that 64 bits stand for.
use mathlib.Core.Path.{◌≡◌, refl, sym, ap}
use mathlib.Core.Bool.{Bool, true, false, cond}
use Prim.Native.Nat.{ℕ, suc, ◌-◌, ◌^◌}
use native.Mathlib.Nat.{mod-eq_of_lt}
use native.Mathlib.Omega.{arith}
use lib.Dec.{ltb}
use lib.IntN.{ℤ, pos, negsuc}
use mir.Syntax.{w64}
use mir.Val.{SFits, to_z, of_z, sel}
use Rattle.ol_spec.specs.Numbers.{residue, signed}

pub signed_is : (n : ℕ) → to_z w64 n ≡ signed 64 n
signed_is n = go (ltb n (2 ^ 63))
  where
    go : (t : Bool) → sel t (pos n) (negsuc (2 ^ 64 - suc n)) ≡ cond t (pos n) (negsuc (2 ^ 64 - suc n))
    go true = refl
    go false = refl

pub residue_is : (i : ℤ) → SFits w64 i → of_z w64 i ≡ residue 64 i
residue_is (pos n) f = sym (mod-eq_of_lt {n = n} {m = 2 ^ 64} (omega (arith, f.sfits)))
residue_is (negsuc n) f = ap (λ m. 2 ^ 64 - suc m) (sym (mod-eq_of_lt {n = n} {m = 2 ^ 64} (omega (arith, f.sfits))))
