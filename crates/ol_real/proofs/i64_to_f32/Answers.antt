use Rattle.std.proofs.Common.{◌≡◌, suc, ◌<◌, true, false, ℤ, pos, sym, refl, ap, ◌∙◌, ltb→lt, arith, w64}
use mir.ValLaws.{to_z-of_z}
use lib.IntN.{negsuc, nat_abs}
use lib.Signed.{lt_z}
use lib.Ieee.{binary32, neg}
use lib.Ieee as Ieee
use Rattle.ol_spec.specs.Real.{single, of_int}
use Rattle.ol_real.proofs.Conversions.{yes}
use Rattle.ol_real.proofs.Singles.{neg_round}
use Rattle.ol_real.proofs.i64_to_f32.Goals as goal

-- the single of an integer by that of its size
below : (n : ℤ) → lt_z n (pos 0) ≡ true → neg (of_int single (pos (nat_abs n))) ≡ of_int single n
unfolding of_int Ieee.of_int
below (pos m) h = let l : m < 0 = ltb→lt m 0 (yes h) in absurd (omega arith)
below (negsuc m) h = neg_round binary32 false (suc m) 1

above : (n : ℤ) → lt_z n (pos 0) ≡ false → of_int single (pos (nat_abs n)) ≡ of_int single n
above (pos m) h = refl
above (negsuc m) h = cc

pub returns-then-n-lt0 : goal.returns-then-n-lt0
returns-then-n-lt0 c =
    let e = to_z-of_z w64 c.args.n c.ranges.n in
    ap neg (c.u64_to_f32-size.ensures ∙ ap (λ m. of_int single (pos m)) (c.unsigned_abs.ensures.value ∙ ap nat_abs e)) ∙ below c.args.n (ap (λ z. lt_z z (pos 0)) (sym e) ∙ c.if-n-lt0.true)

pub returns-else-n-lt0 : goal.returns-else-n-lt0
returns-else-n-lt0 c =
    let e = to_z-of_z w64 c.args.n c.ranges.n in
    c.u64_to_f32-size.ensures ∙ ap (λ m. of_int single (pos m)) (c.unsigned_abs.ensures.value ∙ ap nat_abs e) ∙ above c.args.n (ap (λ z. lt_z z (pos 0)) (sym e) ∙ c.if-n-lt0.false)
