-- The table of a file: cells of constants stored in it, and what it tells of the file.
use Prim.Native.Nat.{ℕ, ◌+◌, ◌-◌, ◌*◌, ◌/◌, ◌%◌, ◌<◌, ◌≤◌}
use mathlib.Core.Bool.{cond}
use mathlib.Core.List.{List, ◌++◌, append_assoc}
use mathlib.Core.Logic.{by_cases}
use mathlib.Core.Path.{◌≡◌, sym, ap, ◌∙◌}
use native.Mathlib.Omega.{arith}
use native.Mathlib.Decide.{dec_lt}
use lib.Dec.{ltb}
use lib.ListN.{length, take, drop, get_or, set, length-append, length-drop, get_or-append}
use lib.Seq.{drop-set-lt, get_or-take, get_or-drop, drop_at, take_at, take-add, length-take-le}
use Rattle.ol_theory.specs.Member.{upto}
use Rattle.ol_theory.proofs.Members.{map_cong, in_upto}
use Rattle.ol_tables.specs.Tables.{two_put, plans_from, slots_from}
use Rattle.ol_tables.specs.Table.{number_at, rows_of, known_of, consts_from, consts_of, tab_of}
use Rattle.ol_tables.proofs.TableLaws.{two_same, two_other, two_length, consts_small, consts_large}
use Rattle.ol_run.specs.Constants.{Holding, SameTables}

-- rows with the same bytes
rows_same : (t t' : List ℕ) → ((j : ℕ) → j < 816 → get_or t' j 0 ≡ get_or t j 0) → rows_of t' ≡ rows_of t
unfolding rows_of
rows_same t t' h =
    map_cong (number_at t') (number_at t) (upto 272) (λ i m.
    let b = in_upto 272 i m in
    λ j. h (3 * i) (omega (arith, b)) j * 65536 + h (3 * i + 1) (omega (arith, b)) j * 256 + h (3 * i + 2) (omega (arith, b)) j)

-- tables of one length have their constants' cells at one place
pub from_same : (t t' : List ℕ) → length t' ≡ length t → consts_from t' ≡ consts_from t
from_same t t' e = ap (λ (n : ℕ). cond (ltb n 69747) 818 (n - 18432)) e

-- a table whose first bytes are the same, and those that tell of the file
told_same : (bytes : ℕ) (t t' : List ℕ) → length t' ≡ length t → ((j : ℕ) → j < 816 → get_or t' j 0 ≡ get_or t j 0) → ((x : ℕ) → x < plans_from (tab_of t) + bytes → get_or t' (1394 + x) 0 ≡ get_or t (1394 + x) 0) → SameTables bytes t t'
told_same bytes t t' long rows tab = record { long = long; rows = rows_same t t' rows; tab = λ x l. get_or-drop 1394 t' x 0 ∙ tab x l ∙ sym (get_or-drop 1394 t x 0) }

pub same_onward : {bytes : ℕ} {t t' t'' : List ℕ} → SameTables bytes t t' → SameTables bytes t' t'' → SameTables bytes t t''
same_onward {bytes} {t} {t'} a b =
    let e : plans_from (tab_of t') ≡ plans_from (tab_of t) = ap (λ (n : ℕ). slots_from + (n - slots_from) / 2) (length-drop 1394 t' ∙ ap (λ (n : ℕ). n - 1394) a.long ∙ sym (length-drop 1394 t)) in
    record { long = b.long ∙ a.long; rows = b.rows ∙ a.rows; tab = λ x l. b.tab x (omega (arith, e)) ∙ a.tab x l }

pub holding_on : {bytes many : ℕ} {t t' : List ℕ} → SameTables bytes t t' → Holding t bytes many → Holding t' bytes many
holding_on {bytes} {many} {t} {t'} s h =
    let e : plans_from (tab_of t') ≡ plans_from (tab_of t) = ap (λ (n : ℕ). slots_from + (n - slots_from) / 2) (length-drop 1394 t' ∙ ap (λ (n : ℕ). n - 1394) s.long ∙ sym (length-drop 1394 t)) in
    record { long = omega (arith, s.long, h.long); narrow = λ l. h.narrow (omega (arith, s.long)); wide = λ l. let w = h.wide (omega (arith, s.long)) in (w.0, omega (arith, w.1, e, s.long)) }

-- ---- bytes put into a list

-- the bytes c are put in place of as many at a
abbrev pub put_at : List ℕ → ℕ → List ℕ → List ℕ
put_at t a c = take a t ++ (c ++ drop (a + length c) t)

module _ (t c : List ℕ) (a : ℕ) (inside : a + length c ≤ length t) where
  front_long : length (take a t) ≡ a
  front_long = length-take-le a t (omega arith)

  pub put_long : length (put_at t a c) ≡ length t
  put_long = omega (arith, length-append (take a t) (c ++ drop (a + length c) t), length-append c (drop (a + length c) t), front_long, length-drop (a + length c) t)

  -- the others stay
  put_before : (j : ℕ) → j < a → get_or (put_at t a c) j 0 ≡ get_or t j 0
  put_before j l = get_or-append (take a t) (c ++ drop (a + length c) t) 0 j (omega (arith, front_long)) ∙ get_or-take a t j 0 l

  put_behind : (j : ℕ) → a + length c ≤ j → get_or (put_at t a c) j 0 ≡ get_or t j 0
  put_behind j l =
      let b = a + length c in
      let e : b + (j - b) ≡ j = omega arith in
      let d : drop b (put_at t a c) ≡ drop b t = ap (drop b) (sym (append_assoc (take a t) c (drop b t))) ∙ drop_at (take a t ++ c) (drop b t) b (length-append (take a t) c ∙ ap (λ (n : ℕ). n + length c) front_long) in
      ap (λ (n : ℕ). get_or (put_at t a c) n 0) (sym e) ∙ sym (get_or-drop b (put_at t a c) (j - b) 0) ∙ ap (λ (l : List ℕ). get_or l (j - b) 0) d ∙ get_or-drop b t (j - b) 0 ∙ ap (λ (n : ℕ). get_or t n 0) e

  -- they stand behind those before them
  pub put_cells : (b : ℕ) → b ≤ a → take (a - b + length c) (drop b (put_at t a c)) ≡ take (a - b) (drop b t) ++ c
  put_cells b l =
      let B = take (a - b) (drop b t) in
      let D = drop (a + length c) t in
      let X = c ++ D in
      let e : b + (a - b) ≡ a = omega arith in
      let n : length B ≡ a - b = length-take-le (a - b) (drop b t) (omega (arith, length-drop b t)) in
      let d : drop b (put_at t a c) ≡ B ++ X =
      ap (λ (n : ℕ). drop b (take n t ++ X)) (sym e) ∙ ap (λ (y : List ℕ). drop b (y ++ X)) (take-add b (a - b) t) ∙ ap (drop b) (append_assoc (take b t) B X) ∙ drop_at (take b t) (B ++ X) b (length-take-le b t (omega arith)) in
      ap (take (a - b + length c)) (d ∙ sym (append_assoc B c D)) ∙ take_at (B ++ c) D (a - b + length c) (length-append B c ∙ ap (λ (m : ℕ). m + length c) n)

-- ---- the count is stored

module _ (t : List ℕ) (n : ℕ) (long : 1394 ≤ length t) (few : n < 65536) where
  pub known_put : known_of (two_put t 816 n) ≡ n
  known_put = two_same t 816 n (omega arith) few

  pub count_same : (bytes : ℕ) → SameTables bytes t (two_put t 816 n)
  count_same bytes =
      let other : (x : ℕ) → (x ≡ 816 → ⊥) → (x ≡ 817 → ⊥) → get_or (two_put t 816 n) x 0 ≡ get_or t x 0 = λ x a b. two_other t 816 n x a b in
      told_same bytes t (two_put t 816 n) (two_length t 816 n) (λ j l. other j (λ e. omega (arith, l, e)) (λ e. omega (arith, l, e))) (λ x l. other (1394 + x) (λ e. omega (arith, e)) (λ e. omega (arith, e)))

  pub consts_put : 818 ≤ consts_from t → consts_of (two_put t 816 n) ≡ take (9 * n) (drop (consts_from t) t)
  unfolding two_put
  consts_put l =
      let b = consts_from t in
      let e = from_same t (two_put t 816 n) (two_length t 816 n) in
      let d : drop b (two_put t 816 n) ≡ drop b t = drop-set-lt b (set t 816 (n / 256 % 256)) 817 (n % 256) (omega arith) ∙ drop-set-lt b t 816 (n / 256 % 256) (omega arith) in
      (λ i. take (9 * known_put i) (drop (e i) (two_put t 816 n))) ∙ ap (take (9 * n)) d

-- ---- cells of constants

module _ {t : List ℕ} {bytes many : ℕ} (h : Holding t bytes many) where
  pub from_behind : 818 ≤ consts_from t
  from_behind = by_cases (dec_lt (length t) 69747) (λ l. omega (arith, consts_small t (omega arith))) (λ l. omega (arith, consts_large t (omega arith)))

  -- they have room
  pub space : 9 * many + consts_from t ≤ length t
  space =
      by_cases (dec_lt (length t) 69747)
      (λ l. omega (arith, consts_small t (omega arith), h.narrow l, h.long))
      (λ l. omega (arith, consts_large t (omega arith), (h.wide (omega arith)).0))

  pub many_few : many ≤ 2048
  many_few = by_cases (dec_lt (length t) 69747) (λ l. omega (arith, h.narrow l)) (λ l. (h.wide (omega arith)).0)

  -- stored behind the first n of them, they leave all else
  module _ (n : ℕ) (c : List ℕ) (room : 9 * n + length c ≤ 9 * many) where
    abbrev place : ℕ
    place = consts_from t + 9 * n

    stored_inside : place + length c ≤ length t
    stored_inside = omega (arith, space, room)

    pub stored_same : SameTables bytes t (put_at t (consts_from t + 9 * n) c)
    stored_same =
        told_same bytes t (put_at t place c) (put_long t c place stored_inside) (λ j l. put_before t c place stored_inside j (omega (arith, from_behind, l)))
        (λ x l. by_cases (dec_lt (length t) 69747)
        (λ s. put_behind t c place stored_inside (1394 + x) (omega (arith, consts_small t (omega arith), h.narrow s, room)))
        (λ s. put_before t c place stored_inside (1394 + x) (omega (arith, consts_large t (omega arith), (h.wide (omega arith)).1, l))))

    -- with their number stored too
    pub stored_cells : (m : ℕ) → length c ≡ 9 * m → n ≤ many → consts_of (two_put (put_at t (consts_from t + 9 * n) c) 816 (n + m)) ≡ take (9 * n) (drop (consts_from t) t) ++ c
    stored_cells m e l =
        let put = put_at t place c in
        let f = from_same t put (put_long t c place stored_inside) in
        let z : place - consts_from t ≡ 9 * n = omega arith in
        let w : 9 * (n + m) ≡ place - consts_from t + length c = omega (arith, e) in
        consts_put put (n + m) (omega (arith, put_long t c place stored_inside, h.long)) (omega (arith, many_few, room, e)) (omega (arith, f, from_behind))
        ∙ (λ i. take (w i) (drop (f i) put)) ∙ put_cells t c place stored_inside (consts_from t) (omega arith) ∙ ap (λ (k : ℕ). take k (drop (consts_from t) t) ++ c) z
