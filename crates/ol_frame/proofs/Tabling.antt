-- The parts of a file's table: their bytes and cells, where they stand in the whole.
use Prim.Native.Nat.{ℕ, zero, suc, ◌+◌, ◌-◌, ◌*◌, ◌≤◌}
use mathlib.Core.List.{List}
use mathlib.Core.Path.{◌≡◌, refl, sym, ap, ◌∙◌}
use native.Mathlib.Omega.{arith}
use lib.ListN.{length, take, drop, get_or, length-drop, length-take}
use lib.Seq.{get_or-drop, take-take, drop-drop}
use Rattle.ol_tables.proofs.Lending.{drop_take}
use Rattle.ol_tables.specs.Table.{tab_of, consts_of, consts_from, known_of}
use Rattle.ol_tables.proofs.TableLaws.{two_drop}
use Rattle.ol_tables.specs.Tables.{two_at, slot_at, name_cell_at, name_length_at}
use Rattle.ol_spec.specs.Cell.{value_of}
use Rattle.ol_state.specs.Defaults.{width_of, widths_at}
use Rattle.ol_state.proofs.DefaultCells.{count_least}

-- nine bytes of a part
pub part_cell : (n k i : ℕ) (t : List ℕ) → i + 9 ≤ n → take 9 (drop (k + i) t) ≡ take 9 (drop i (take n (drop k t)))
part_cell n k i t h =
    sym (ap (take 9) (drop_take i n (drop k t) ∙ ap (take (n - i)) (drop-drop i k t)) ∙ take-take 9 (n - i) (drop (k + i) t) (omega arith))

-- a byte of the orders, the nodes' numbers or the slots
pub tab_byte : (t : List ℕ) (i : ℕ) → get_or t (1394 + i) 0 ≡ get_or (tab_of t) i 0
tab_byte t i = sym (get_or-drop 1394 t i 0)

pub tab_long : (t : List ℕ) → length (tab_of t) ≡ length t - 1394
tab_long t = length-drop 1394 t

-- the slot of a name that an equation defines
pub slot_byte : (t : List ℕ) (at : ℕ) → get_or t (4210 + at) 0 ≡ slot_at (tab_of t) at
slot_byte t at =
    let e : 4210 + at ≡ 1394 + (2816 + at) = omega arith in
    ap (λ n. get_or t n 0) e ∙ tab_byte t (2816 + at)

-- a table that has slots has rows
pub rows_room : (t : List ℕ) (i : ℕ) → 2816 + i ≤ length (tab_of t) → 816 ≤ length t
rows_room t i h = omega (arith, length-drop 1394 t)

-- the cell and the length of a name, by the table's own bytes
pub name_cell : (t : List ℕ) (at : ℕ) → two_at t (4210 + at) ≡ name_cell_at (tab_of t) at
name_cell t at = sym (two_drop 1394 t (2816 + at) (4210 + at) (omega arith))

pub name_length : (t : List ℕ) (at : ℕ) → get_or t (4210 + at) 0 ≡ name_length_at (tab_of t) (at + 1)
name_length t at =
    let e : 4210 + at ≡ 1394 + (2816 - 1 + (at + 1)) = omega arith in
    ap (λ n. get_or t n 0) e ∙ tab_byte t (2816 - 1 + (at + 1))

-- a constant's cell
pub const_cell : (t : List ℕ) (i : ℕ) → i + 9 ≤ length (consts_of t) → take 9 (drop (consts_from t + i) t) ≡ take 9 (drop i (consts_of t))
const_cell t i h = part_cell (9 * known_of t) (consts_from t) i t (omega (arith, length-take (9 * known_of t) (drop (consts_from t) t)))

pub const_room : (t : List ℕ) (i : ℕ) → i + 9 ≤ length (consts_of t) → consts_from t + i + 9 ≤ length t
const_room t i h = omega (arith, length-take (9 * known_of t) (drop (consts_from t) t), length-drop (consts_from t) t)

-- its value, where it is read
pub const_value : (t : List ℕ) {a : ℕ} (i : ℕ) → 9 * i + 9 ≤ length (consts_of t) → a ≡ consts_from t + 9 * i → value_of (take 9 (drop a t)) ≡ value_of (take 9 (drop (9 * i) (consts_of t)))
const_value t i h e = ap (λ (p : ℕ). value_of (take 9 (drop p t))) e ∙ ap value_of (const_cell t (9 * i) h)

-- ---- the cells of the first variables of a node

module _ (tab : List ℕ) (k : ℕ) where
  pub count_last : (i n : ℕ) → widths_at tab k i (n + 1) ≡ widths_at tab k i n + width_of tab k (i + n)
  unfolding widths_at
  count_last i zero = let z : i + 0 ≡ i = omega arith in ap (λ j. width_of tab k j + 0) (sym z) ∙ omega arith
  count_last i (suc n) =
      let e : suc n + 1 ≡ suc (n + 1) = omega arith in
      let z : i + 1 + n ≡ i + suc n = omega arith in
      ap (widths_at tab k i) e ∙ omega (arith, count_last (i + 1) n, ap (width_of tab k) z)

  pub count_none : (i : ℕ) → widths_at tab k i 0 ≡ 0
  unfolding widths_at
  count_none i = refl

  pub count_split : (i m n : ℕ) → widths_at tab k i (m + n) ≡ widths_at tab k i m + widths_at tab k (i + m) n
  unfolding widths_at
  count_split i zero n =
      let e : 0 + n ≡ n = omega arith in
      let z : i ≡ i + 0 = omega arith in
      ap (widths_at tab k i) e ∙ ap (λ j. widths_at tab k j n) z ∙ omega arith
  count_split i (suc m) n =
      let e : suc m + n ≡ suc (m + n) = omega arith in
      let z : i + 1 + m ≡ i + suc m = omega arith in
      ap (widths_at tab k i) e ∙ omega (arith, count_split (i + 1) m n, ap (λ j. widths_at tab k j n) z)

  -- where there are as many as variables, the first cell of each is its index
  pub count_scalars : (i n : ℕ) → i ≤ n → widths_at tab k 0 n ≡ n → widths_at tab k 0 i ≡ i
  count_scalars i n h e =
      let z : n ≡ i + (n - i) = omega arith in
      omega (arith, sym e ∙ ap (widths_at tab k 0) z ∙ count_split 0 i (n - i), count_least tab k 0 i, count_least tab k (0 + i) (n - i))
