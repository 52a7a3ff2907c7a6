-- What the types make of integers: powers, and a number's low bits.
use mathlib.Core.Bool.{Bool, true, false, cond}
use lib.Dec.{ltb, ltb→lt, lt→ltb}
use lib.Arith.{digits_div, mod-mul}
use lib.Signed.{shr_z}
use Rattle.ol_spec.proofs.Tests.{bool_same}
use mathlib.Core.Path.{◌≡◌, refl, sym, ap, ◌∙◌}
use Prim.Native.Nat.{ℕ, suc, ◌-◌, ◌*◌, ◌+◌, ◌/◌, ◌%◌, ◌^◌, ◌≤◌, ◌<◌}
use native.Mathlib.Nat.{mod-eq_of_lt, mod-lt, one-mul, mul-suc, mul-sub, mul-le-mul_left, div-add-mod, mul-add-mod_self_left, mul_comm, mul-div_cancel, mul-mod_left, lt_of_mul-lt-mul_right, mul-lt-mul_of_pos_right, lt_of_lt_of_le, le_of_eq}
use Rattle.std.proofs.lemmas.Nat.{pow-add}
use native.Mathlib.Omega.{arith}
use native.Mathlib.Decide.{dec_le}
use lib.Pow.{pow_pos, pow-lt}
use lib.IntN.{ℤ, pos, negsuc}
use mir.Syntax.{w64}
use mir.Val.{SFits, of_z, to_z, sel}
use Rattle.ol_spec.specs.Numbers.{residue, signed}

-- ---- powers

pub power_is : (b : ℕ) → b < 64 → 1 * 2 ^ b % 2 ^ 64 ≡ 2 ^ b
power_is b h = rw (one-mul (2 ^ b)) (mod-eq_of_lt {m = 2 ^ 64} (pow-lt h))

-- ---- a number's bits

-- a number's low bits are those of its 64 bits
negative_residue : (b n : ℕ) → b ≤ 32 → n < 2 ^ 63 → (2 ^ 64 - suc n) % 2 ^ b ≡ 2 ^ b - suc (n % 2 ^ b)
negative_residue b n h l =
    let p = 2 ^ b in
    let k = 2 ^ (64 - b) in
    let q = n / p in
    let r = n % p in
    let below : r < p = mod-lt n (pow_pos b) in
    let whole_width : b + (64 - b) ≡ 64 = omega arith in
    let all : p * k ≡ 2 ^ 64 = sym (pow-add 2 b (64 - b)) ∙ ap (λ e. 2 ^ e) whole_width in
    let parts : p * q + r ≡ n = div-add-mod n p in
    let high : p * suc q ≤ p * k = mul-le-mul_left p (above (dec_le (suc q) k)) in
    let split : 2 ^ 64 - suc n ≡ p * (k - suc q) + (p - suc r) = omega (arith, mul-sub p k (suc q), mul-suc p q, below, all, parts, high) in
    rw (split, mul-add-mod_self_left p (k - suc q) (p - suc r)) (mod-eq_of_lt (omega arith))
  where
    above : Dec (suc (n / 2 ^ b) ≤ 2 ^ (64 - b)) → suc (n / 2 ^ b) ≤ 2 ^ (64 - b)
    above (yes p) = p
    above (no m) =
        let whole_width : b + (64 - b) ≡ 64 = omega arith in
        let all : 2 ^ b * 2 ^ (64 - b) ≡ 2 ^ 64 = sym (pow-add 2 b (64 - b)) ∙ ap (λ e. 2 ^ e) whole_width in
        absurd (omega (arith, all, div-add-mod n (2 ^ b), mul-le-mul_left {m = 2 ^ (64 - b)} {n = n / 2 ^ b} (2 ^ b) (omega (arith, m)), l))

pub residue_is : (b : ℕ) (i : ℤ) → b ≤ 32 → SFits w64 i → of_z w64 i % 2 ^ b ≡ residue b i
residue_is b (pos n) h f = refl
residue_is b (negsuc n) h f = negative_residue b n h f.sfits

-- ---- shifted to the left and back

scaled_mod : (n p k : ℕ) → 0 < p → 0 < k → n * k % (p * k) ≡ n % p * k
scaled_mod n p k P K = rw (mod-mul (n * k) P K, mul-div_cancel n K, mul-mod_left n k) (omega arith)

-- of a number below 2 ^ b, in the upper b of 64 bits, the shift back keeps the sign
module _ (b : ℕ) (lo : 0 < b) (hi : b ≤ 32) where
  all_width : 2 ^ b * 2 ^ (64 - b) ≡ 2 ^ 64
  all_width = let e : b + (64 - b) ≡ 64 = omega arith in sym (pow-add 2 b (64 - b)) ∙ ap (λ n. 2 ^ n) e

  half_width : 2 ^ (b - 1) * 2 ^ (64 - b) ≡ 2 ^ 63
  half_width = let e : b - 1 + (64 - b) ≡ 63 = omega arith in sym (pow-add 2 (b - 1) (64 - b)) ∙ ap (λ n. 2 ^ n) e

  shifted_back : (r : ℕ) → r < 2 ^ b → shr_z (to_z w64 (r * 2 ^ (64 - b))) (2 ^ (64 - b)) ≡ signed b r
  shifted_back r l = rw same_sign (go (ltb r (2 ^ (b - 1))))
    where
      k : ℕ
      k = 2 ^ (64 - b)

      K : 0 < k
      K = pow_pos (64 - b)

      same_sign : ltb (r * k) (2 ^ 63) ≡ ltb r (2 ^ (b - 1))
      same_sign = bool_same (ltb (r * k) (2 ^ 63)) (ltb r (2 ^ (b - 1)))
          (λ t. lt→ltb r (2 ^ (b - 1)) (lt_of_mul-lt-mul_right k (lt_of_lt_of_le (ltb→lt (r * k) (2 ^ 63) t) (le_of_eq (sym half_width)))))
          (λ t. lt→ltb (r * k) (2 ^ 63) (lt_of_lt_of_le (mul-lt-mul_of_pos_right (ltb→lt r (2 ^ (b - 1)) t) K) (le_of_eq half_width)))

      go : (t : Bool) → shr_z (sel t (pos (r * k)) (negsuc (2 ^ 64 - suc (r * k)))) k ≡ cond t (pos r) (negsuc (2 ^ b - suc r))
      go true = ap pos (mul-div_cancel r K)
      go false =
          let q = 2 ^ b - suc r in
          let split : 2 ^ 64 - suc (r * k) ≡ q * k + (k - 1) = omega (arith, all_width, K, mul_comm q k, mul-sub k (2 ^ b) (suc r), mul-suc k r, mul_comm (2 ^ b) k, mul_comm r k, mul-le-mul_left k l) in
          let r-small : k - 1 < k = omega (arith, K) in
          ap negsuc (ap (λ n. n / k) split ∙ digits_div q r-small)

  pub shift_is : (i : ℤ) → SFits w64 i → shr_z (to_z w64 (of_z w64 i * 2 ^ (64 - b) % 2 ^ 64)) (2 ^ (64 - b)) ≡ signed b (residue b i)
  shift_is i f =
      let k = 2 ^ (64 - b) in
      let n = of_z w64 i in
      ap (λ y. shr_z (to_z w64 y) k) (ap (λ m. n * k % m) (sym all_width) ∙ scaled_mod n (2 ^ b) k (pow_pos b) (pow_pos (64 - b)))
      ∙ shifted_back (n % 2 ^ b) (mod-lt n (pow_pos b))
      ∙ ap (signed b) (residue_is b i hi f)
