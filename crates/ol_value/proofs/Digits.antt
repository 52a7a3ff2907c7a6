-- Numbers and their big-endian bytes: a cell's parts, and the bytes had back from their number.
use mathlib.Core.Path.{◌≡◌, refl, sym, ap, ap₂, subst, ◌∙◌}
use mathlib.Core.Bool.{◌&&◌}
use mathlib.Core.List.{List, [], ◌∷◌}
use Prim.Native.Nat.{ℕ, suc, ◌+◌, ◌*◌, ◌/◌, ◌%◌, ◌^◌, ◌≤◌, ◌<◌}
use native.Mathlib.Nat.{pow-suc, div-div-eq-div-mul, div-one}
use native.Mathlib.Numerals.{add-one}
use native.Mathlib.Omega.{arith}
use native.Mathlib.Decide.{dec_lt}
use lib.Dec.{T, eqb, eqb_refl, eqb→eq}
use lib.ListN.{length, take, drop, get_or, length-take, length-drop, get_or-eq_default}
use lib.Seq.{drop-cons, get_or-take, get_or-drop, length-take-le}
use Rattle.ol_spec.specs.Lists.{same}
use Rattle.ol_spec.specs.Numbers.{bytes_of, number_of}
use Rattle.ol_spec.specs.Cell.{tag, payload, cell, value_by, value_of}
use Rattle.ol_spec.proofs.Cells.{bytes_back, same_refl, same_eq}
use Rattle.ol_spec.specs.declared.Value.{Value}
use Rattle.ol_spec.proofs.Tests.{bool_same}

-- ---- the parts of a cell

pub cell_parts : (s : List ℕ) (at : ℕ) → at + 9 ≤ length s → take 9 (drop at s) ≡ get_or s at 0 ∷ take 8 (drop (at + 1) s)
cell_parts s at h = rw (add-one at, drop-cons s at 0 (omega arith))

pub cell_value : (s : List ℕ) (at : ℕ) → at + 9 ≤ length s → value_by (get_or s at 0) (number_of 0 (take 8 (drop (at + 1) s))) ≡ value_of (take 9 (drop at s))
cell_value s at h = ap value_of (sym (cell_parts s at h))

-- ---- bytes are had back from their number

abbrev pub Bytes : List ℕ → Type 0
Bytes s = (i : ℕ) → get_or s i 0 < 256

-- all digits but the last ones
number_high : (n : ℕ) (bs : List ℕ) → Bytes bs → number_of n bs / 256 ^ length bs ≡ n
number_high n [] h = div-one n
number_high n (b ∷ bs) h =
    rw (pow-suc 256 (length bs), ← (div-div-eq-div-mul (number_of (n * 256 + b) bs) (256 ^ length bs) 256), number_high (n * 256 + b) bs (λ i. h (suc i)))
    (omega (arith, h 0))

digits_back : (n : ℕ) (bs : List ℕ) → Bytes bs → bytes_of (length bs) (number_of n bs) ≡ bs
digits_back n [] h = refl
digits_back n (b ∷ bs) h =
    let head : (n * 256 + b) % 256 ≡ b = omega (arith, h 0) in
    ap₂ {C = List ℕ} (λ x xs. x ∷ xs) (ap (λ m. m % 256) (number_high (n * 256 + b) bs (λ i. h (suc i))) ∙ head) (digits_back (n * 256 + b) bs (λ i. h (suc i)))

-- a number's eight bytes are these exactly if it is these bytes' number
same_number : (q : ℕ) (bs : List ℕ) → q < 2 ^ 64 → length bs ≡ 8 → Bytes bs → eqb q (number_of 0 bs) ≡ same (bytes_of 8 q) bs
same_number q bs small long h =
    bool_same (eqb q (number_of 0 bs)) (same (bytes_of 8 q) bs)
    (λ t. subst (λ l. T (same l bs)) (sym (ap₂ bytes_of (sym long) (eqb→eq q (number_of 0 bs) t) ∙ digits_back 0 bs h)) (same_refl bs))
    (λ t. subst (λ m. T (eqb q m)) (sym (bytes_back q small) ∙ ap (number_of 0) (same_eq (bytes_of 8 q) bs t)) (eqb_refl q))

part_bytes : (n a : ℕ) (s : List ℕ) → Bytes s → Bytes (take n (drop a s))
part_bytes n a s h i = go (dec_lt i n)
  where
    go : Dec (i < n) → get_or (take n (drop a s)) i 0 < 256
    go (yes p) = rw (get_or-take n (drop a s) i 0 p, get_or-drop a s i 0) (h (a + i))
    go (no p) =
        let l : length (take n (drop a s)) ≤ i = omega (arith, length-take n (drop a s), p) in
        rw (get_or-eq_default (take n (drop a s)) 0 l) (omega arith)

-- nine bytes are a value's exactly if its tag and its payload are theirs
module _ (s : List ℕ) (at : ℕ) (room : at + 9 ≤ length s) (h : Bytes s) where
  pub good_is : (v : Value) → payload v < 2 ^ 64 → eqb (tag v) (get_or s at 0) && eqb (payload v) (number_of 0 (take 8 (drop (at + 1) s))) ≡ same (cell v) (take 9 (drop at s))
  good_is v small =
      let long : length (take 8 (drop (at + 1) s)) ≡ 8 = length-take-le 8 (drop (at + 1) s) (rw (length-drop (at + 1) s) (omega arith)) in
      ap (λ b. eqb (tag v) (get_or s at 0) && b) (same_number (payload v) (take 8 (drop (at + 1) s)) small long (part_bytes 8 (at + 1) s h))
      ∙ ap (same (cell v)) (sym (cell_parts s at room))
