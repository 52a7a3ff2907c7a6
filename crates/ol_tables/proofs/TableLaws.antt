-- The table of a file: its numbers, read and stored.
use Prim.Native.Nat.{ℕ, suc, ◌+◌, ◌-◌, ◌*◌, ◌/◌, ◌%◌, ◌<◌, ◌≤◌}
use mathlib.Core.List.{List, [], ◌∷◌, ◌++◌, append_assoc}
use mathlib.Core.Logic.{by_cases}
use mathlib.Core.Path.{◌≡◌, refl, sym, ap, ◌∙◌}
use native.Mathlib.Omega.{arith}
use native.Mathlib.Decide.{dec_le}
use lib.ListN.{length, take, drop, get_or, set, length-set, length-map, length-drop, get_or-eq_default}
use borrow.Author.Tests.{lt-ltb, le-ltb}
use borrow.Rule.Slice.PartMut.{put_mid}
use lib.Seq.{sets-eq, get_or-set_same, get_or-set_other, get_or-drop, drop-drop, drop-set-lt, take-set-le}
use Rattle.ol_theory.specs.Member.{upto}
use Rattle.ol_theory.proofs.Members.{length_from, map_upto}
use Rattle.ol_tables.specs.Tables.{two_at, two_put, plans_from, count_at, start_at, code_at, enum_at, length_at}
use Rattle.ol_tables.specs.Table.{number_at, rows_of, consts_from, tab_of, half_of, types_at, number_put, Packs}

-- there are 272 of them
pub rows_long_lem : (t : List ℕ) → length (rows_of t) ≡ 272
unfolding rows_of
rows_long_lem t = length-map (upto 272) (number_at t) ∙ length_from 0 272

pub rows_get : (t : List ℕ) (i : ℕ) → i < 272 → get_or (rows_of t) i 0 ≡ number_at t i
unfolding rows_of
rows_get t i b = map_upto (number_at t) 272 i 0 b

pub rows_past : (t : List ℕ) (i : ℕ) → 272 ≤ i → get_or (rows_of t) i 0 ≡ 0
rows_past t i b = get_or-eq_default (rows_of t) 0 (omega (arith, rows_long_lem t))

module _ (t : List ℕ) (i n : ℕ) (room : 3 * i + 3 ≤ length t) (small : n < 16777216) where
  -- number i is the one that was stored
  pub number_put_lem : number_at (number_put t i n) i ≡ n
  number_put_lem =
      let a = set t (3 * i) (n / 65536) in
      let b = set a (3 * i + 1) (n / 256 % 256) in
      let h2 = get_or-set_same b (3 * i + 2) (n % 256) 0 (omega (arith, length-set a (3 * i + 1) (n / 256 % 256), length-set t (3 * i) (n / 65536))) in
      let h1 = get_or-set_other b (3 * i + 2) (3 * i + 1) (n % 256) 0 (λ e. omega (arith, e)) ∙ get_or-set_same a (3 * i + 1) (n / 256 % 256) 0 (omega (arith, length-set t (3 * i) (n / 65536))) in
      let h0 = get_or-set_other b (3 * i + 2) (3 * i) (n % 256) 0 (λ e. omega (arith, e)) ∙ (get_or-set_other a (3 * i + 1) (3 * i) (n / 256 % 256) 0 (λ e. omega (arith, e)) ∙ get_or-set_same t (3 * i) (n / 65536) 0 (omega (arith))) in
      omega (arith, h0, h1, h2)

-- the others stay
module _ (t : List ℕ) (i n : ℕ) where
  byte_kept : (q : ℕ) → ¬ (q ≡ 3 * i) → ¬ (q ≡ 3 * i + 1) → ¬ (q ≡ 3 * i + 2) → get_or (number_put t i n) q 0 ≡ get_or t q 0
  byte_kept q d0 d1 d2 =
      let a = set t (3 * i) (n / 65536) in
      let b = set a (3 * i + 1) (n / 256 % 256) in
      get_or-set_other b (3 * i + 2) q (n % 256) 0 d2 ∙ (get_or-set_other a (3 * i + 1) q (n / 256 % 256) 0 d1 ∙ get_or-set_other t (3 * i) q (n / 65536) 0 d0)

  pub number_kept : (j : ℕ) → ¬ (j ≡ i) → number_at (number_put t i n) j ≡ number_at t j
  number_kept j d =
      let h0 = byte_kept (3 * j) (λ e. d (omega (arith, e))) (λ e. omega (arith, e)) (λ e. omega (arith, e)) in
      let h1 = byte_kept (3 * j + 1) (λ e. omega (arith, e)) (λ e. d (omega (arith, e))) (λ e. omega (arith, e)) in
      let h2 = byte_kept (3 * j + 2) (λ e. omega (arith, e)) (λ e. omega (arith, e)) (λ e. d (omega (arith, e))) in
      omega (arith, h0, h1, h2)

pub number_rest : (t : List ℕ) (i n : ℕ) → i < 272 → drop 816 (number_put t i n) ≡ drop 816 t
number_rest t i n b =
    let a = set t (3 * i) (n / 65536) in
    let c = set a (3 * i + 1) (n / 256 % 256) in
    drop-set-lt 816 c (3 * i + 2) (n % 256) (omega (arith, b)) ∙ (drop-set-lt 816 a (3 * i + 1) (n / 256 % 256) (omega (arith, b)) ∙ drop-set-lt 816 t (3 * i) (n / 65536) (omega (arith, b)))

-- the three bytes of number i, in the place of those that stood there
pub number_put_mid : (t : List ℕ) (i n k : ℕ) (m : List ℕ) → i < 272 → 816 ≤ length t → n < 16777216 → k ≡ 3 → m ≡ n / 65536 % 256 ∷ n / 256 % 256 ∷ n % 256 ∷ [] → put_mid (3 * i) k t m ≡ number_put t i n
number_put_mid t i n k m low long small three bytes =
    let v = n / 65536 ∷ n / 256 % 256 ∷ n % 256 ∷ [] in
    let high : n / 65536 % 256 ≡ n / 65536 = omega (arith, small) in
    let is : m ≡ v = bytes ∙ ap (λ x. x ∷ n / 256 % 256 ∷ n % 256 ∷ []) high in
    let behind : drop k (drop (3 * i) t) ≡ drop (3 * i + 3) t = ap (λ j. drop j (drop (3 * i) t)) three ∙ drop-drop 3 (3 * i) t in
    let one : suc (3 * i) ≡ 3 * i + 1 = omega arith in
    let two : suc (suc (3 * i)) ≡ 3 * i + 2 = omega arith in
    ap (λ l. take (3 * i) t ++ (l ++ drop k (drop (3 * i) t))) is ∙ ap (λ l. take (3 * i) t ++ (v ++ l)) behind ∙ sym (append_assoc (take (3 * i) t) v _) ∙ sym (sets-eq v t (3 * i) (omega (arith, low, long)))
    ∙ ap (λ p. set (set (set t (3 * i) (n / 65536)) p (n / 256 % 256)) (suc (suc (3 * i))) (n % 256)) one
    ∙ ap (λ p. set (set (set t (3 * i) (n / 65536)) (3 * i + 1) (n / 256 % 256)) p (n % 256)) two

-- ---- two bytes

pub two_same : (t : List ℕ) (p n : ℕ) → p + 1 < length t → n < 65536 → two_at (two_put t p n) p ≡ n
unfolding two_put
two_same t p n room low =
    let a = n / 256 % 256 in
    let b = n % 256 in
    let high : get_or (two_put t p n) p 0 ≡ a = get_or-set_other (set t p a) (p + 1) p b 0 (λ q. omega arith) ∙ get_or-set_same t p a 0 (omega arith) in
    let less : get_or (two_put t p n) (p + 1) 0 ≡ b = get_or-set_same (set t p a) (p + 1) b 0 (omega (arith, length-set t p a)) in
    ap (λ x. x * 256 + get_or (two_put t p n) (p + 1) 0) high ∙ ap (λ x. a * 256 + x) less ∙ omega arith

pub two_other : (t : List ℕ) (p n x : ℕ) → (x ≡ p → ⊥) → (x ≡ p + 1 → ⊥) → get_or (two_put t p n) x 0 ≡ get_or t x 0
unfolding two_put
two_other t p n x d e = get_or-set_other (set t p (n / 256 % 256)) (p + 1) x (n % 256) 0 e ∙ get_or-set_other t p x (n / 256 % 256) 0 d

pub two_length : (t : List ℕ) (p n : ℕ) → length (two_put t p n) ≡ length t
unfolding two_put
two_length t p n = length-set (set t p (n / 256 % 256)) (p + 1) (n % 256) ∙ length-set t p (n / 256 % 256)

-- what stands before them is left
pub two_front : (half : ℕ) (t : List ℕ) (p n : ℕ) → half ≤ p → take half (two_put t p n) ≡ take half t
unfolding two_put
two_front half t p n le = take-set-le half (set t p (n / 256 % 256)) (p + 1) (n % 256) (omega arith) ∙ take-set-le half t p (n / 256 % 256) le

-- a two-byte entry of what stands behind `half` bytes
pub two_drop : (half : ℕ) (t : List ℕ) (q r : ℕ) → r ≡ half + q → two_at (drop half t) q ≡ two_at t r
two_drop half t q r e =
    let a : get_or (drop half t) q 0 ≡ get_or t r 0 = get_or-drop half t q 0 ∙ ap (λ x. get_or t x 0) (sym e) in
    let b : get_or (drop half t) (q + 1) 0 ≡ get_or t (r + 1) 0 = get_or-drop half t (q + 1) 0 ∙ ap (λ x. get_or t x 0) (omega arith) in
    ap (λ x. x * 256 + get_or (drop half t) (q + 1) 0) a ∙ ap (λ x. get_or t r 0 * 256 + x) b

pub two_kept : (t t' : List ℕ) (p : ℕ) → get_or t' p 0 ≡ get_or t p 0 → get_or t' (p + 1) 0 ≡ get_or t (p + 1) 0 → two_at t' p ≡ two_at t p
two_kept t t' p a b = ap (λ x. x * 256 + get_or t' (p + 1) 0) a ∙ ap (λ x. get_or t p 0 * 256 + x) b

-- ---- the parts of a table

-- a number of a node, by the table's own bytes
pub count_from_lem : (t : List ℕ) (k j : ℕ) → two_at t (3954 + 8 * k + 2 * j) ≡ count_at (tab_of t) k j
count_from_lem t k j = sym (two_drop 1394 t (2560 + 8 * k + 2 * j) (3954 + 8 * k + 2 * j) (omega arith))

-- where the types start, by the table's own bytes
pub types_from_lem : (t : List ℕ) (k a : ℕ) → a ≡ two_at t (3954 + 8 * k) → 4210 + half_of t + a ≡ types_at t k
types_from_lem t k a e = omega (arith, e, two_drop 1394 t (2560 + 8 * k) (3954 + 8 * k) (omega arith), length-drop 1394 t)

-- where the constants' cells start
pub consts_small : (t : List ℕ) → length t ≤ 69746 → consts_from t ≡ 818
consts_small t h = let low : length t < 69747 = omega arith in rw (lt-ltb (length t) 69747 low)

pub consts_large : (t : List ℕ) → 69746 < length t → consts_from t ≡ length t - 18432
consts_large t h = let high : 69747 ≤ length t = omega arith in rw (le-ltb (length t) 69747 high)

-- ---- types

-- a byte of a variable's type
module _ (t : List ℕ) (k i : ℕ) where
  plans_byte : (x p : ℕ) → p ≡ 1394 + plans_from (tab_of t) + x → get_or t p 0 ≡ get_or (drop (plans_from (tab_of t)) (tab_of t)) x 0
  plans_byte x p e =
      let a : 1394 + (plans_from (tab_of t) + x) ≡ p = omega (arith, e) in
      sym (get_or-drop (plans_from (tab_of t)) (tab_of t) x 0 ∙ get_or-drop 1394 t (plans_from (tab_of t) + x) 0 ∙ ap (λ n. get_or t n 0) a)

  pub code_is : {p : ℕ} → p ≡ types_at t k + 2 * i → get_or t p 0 % 16 ≡ code_at (tab_of t) k i
  code_is {p} e = ap (λ n. n % 16) (plans_byte (start_at (tab_of t) k + 2 * i) p (omega (arith, e)))

  pub enum_is : {p : ℕ} → p ≡ types_at t k + 2 * i → get_or t p 0 / 16 ≡ enum_at (tab_of t) k i
  enum_is {p} e = ap (λ n. n / 16) (plans_byte (start_at (tab_of t) k + 2 * i) p (omega (arith, e)))

  pub length_is : {p : ℕ} → p ≡ types_at t k + 2 * i + 1 → get_or t p 0 ≡ length_at (tab_of t) k i
  length_is {p} e = plans_byte (start_at (tab_of t) k + 2 * i + 1) p (omega (arith, e))

-- ---- packing, number by number

pub packs_start : (rows : List ℕ) (first : ℕ) (t : List ℕ) → Packs rows first first t t
packs_start rows first t =
    record { put = λ i a b. absurd (omega (arith, a, b)); before = λ i a. refl; behind = λ i a b. refl; rest = refl }

pub packs_turn : {rows : List ℕ} {first i : ℕ} {t₀ t t' : List ℕ} → Packs rows first i t₀ t → i < 272 → 816 ≤ length t → get_or rows i 0 < 16777216 → first ≤ i → t' ≡ number_put t i (get_or rows i 0) → Packs rows first (i + 1) t₀ t'
packs_turn {rows} {first} {i} {t₀} {t} {t'} p b long small le e =
    rw e (record {
      put = λ j lo hi. by_cases (dec_le i j) (λ ge. let x : j ≡ i = omega (arith, ge, hi) in rw x (number_put_lem t i _ (omega (arith, b, long)) small)) (λ lt. number_kept t i _ j (λ x. lt (omega (arith, x))) ∙ p.put j lo (omega (arith, lt)));
      before = λ j lo. number_kept t i _ j (λ x. omega (arith, x, lo, le)) ∙ p.before j lo;
      behind = λ j lo hi. number_kept t i _ j (λ x. omega (arith, x, lo)) ∙ p.behind j (omega (arith, lo)) hi;
      rest = number_rest t i _ b ∙ p.rest;
    })
