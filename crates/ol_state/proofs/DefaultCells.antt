-- Default cells, as they are stored and as the tables tell them.
use Prim.Native.Nat.{ℕ, zero, suc, max, ◌+◌, ◌-◌, ◌*◌, ◌%◌, ◌≤◌, ◌<◌}
use mathlib.Core.List.{List, [], ◌∷◌, ◌++◌, append_assoc, append-nil}
use mathlib.Core.Path.{◌≡◌, refl, sym, ap, ◌∙◌}
use native.Mathlib.Omega.{arith}
use lib.ListN.{length, take, drop, get_or, set, length-append, length-drop}
use lib.Seq.{take-length, drop-length}
use Rattle.ol_spec.specs.Types.{default}
use Rattle.ol_spec.proofs.Cells.{length_cell}
use Rattle.ol_value.specs.Codes.{ty_of}
use Rattle.ol_tables.specs.Tables.{code_in, enum_in, code_at, enum_at, first_at, row_at}
use Rattle.ol_state.specs.Defaults.{default_cell, default_cells, width_of, widths_at, cell_at, cells_at, width_at}
use Rattle.ol_state.proofs.Filling.{put_part, Filling, fill_left, fill_tail, fill_at, fill_done}
use Rattle.ol_tables.specs.Table.{rows_of, tab_of, types_at}
use Rattle.ol_tables.proofs.Lending.{tail_of}
use Rattle.ol_tables.proofs.TableLaws.{code_is, enum_is, length_is}

pub length_default : (code first : ℕ) → length (default_cell code first) ≡ 9
unfolding default_cell
length_default code first = length_cell (default ((first % 65536 ∷ []) ∷ []) (ty_of code 0))

-- ---- the cells of one type's default

module _ (code first : ℕ) where
  pub length_defaults : (n : ℕ) → length (default_cells code first n) ≡ 9 * n
  unfolding default_cells
  length_defaults zero = refl
  length_defaults (suc n) = length-append (default_cell code first) (default_cells code first n) ∙ omega (arith, length_default code first, length_defaults n)

  -- the first of those that are left
  pub defaults_next : (i n : ℕ) → i < n → default_cells code first (n - i) ≡ default_cell code first ++ default_cells code first (n - (i + 1))
  unfolding default_cells
  defaults_next i n h = let e : n - i ≡ suc (n - (i + 1)) = omega arith in ap (default_cells code first) e

  pub defaults_none : (i n : ℕ) → n ≤ i → default_cells code first (n - i) ≡ []
  unfolding default_cells
  defaults_none i n h = let e : n - i ≡ 0 = omega arith in ap (default_cells code first) e

  -- of n cells i are written
  pub record Repeating (n : ℕ) (base : List ℕ) (i : ℕ) (out : List ℕ) : Type 0 where
    pub most : i ≤ n
    pub filled : Filling (default_cells code first n ++ drop (9 * n) base) base (9 * i) out (default_cells code first (n - i) ++ drop (9 * n) base)

  module _ {n : ℕ} {base : List ℕ} {i : ℕ} {out : List ℕ} (w : Repeating n base i out) where
    -- one more is written
    pub repeat_turn : (x : List ℕ) → i < n → 9 * n ≤ length base → x ≡ default_cell code first ++ drop 9 (tail_of (9 * i) out) → Repeating n base (i + 1) (put_part (9 * i) (length out - 9 * i) out x)
    repeat_turn x h room e =
        let c = default_cell code first in
        let rest = drop (9 * n) base in
        record {
          most = omega arith;
          filled = fill_at (omega arith) (fill_tail c _ 9 (length_default code first) (omega arith) x e (fill_left (ap (λ l. l ++ rest) (defaults_next i n h) ∙ append_assoc c _ rest) w.filled));
        }

    pub repeat_done : n ≤ i → out ≡ default_cells code first n ++ drop (9 * n) base
    repeat_done h =
        let e : n ≡ i = omega (arith, w.most) in
        fill_done w.filled (ap (λ l. l ++ drop (9 * n) base) (defaults_none i n h) ∙ ap (λ m. drop (9 * m) base) e)

-- ---- those of a node's variables

module _ (tab : List ℕ) (k : ℕ) where
  -- the cells of the first of the variables that are left, and of the others
  pub count_next : (i n : ℕ) → i < n → widths_at tab k i (n - i) ≡ width_of tab k i + widths_at tab k (i + 1) (n - (i + 1))
  unfolding widths_at
  count_next i n h = let e : n - i ≡ suc (n - (i + 1)) = omega arith in ap (widths_at tab k i) e

  pub count_none : (i n : ℕ) → n ≤ i → widths_at tab k i (n - i) ≡ 0
  unfolding widths_at
  count_none i n h = let e : n - i ≡ 0 = omega arith in ap (widths_at tab k i) e

  -- each has at least one
  pub count_least : (i n : ℕ) → n ≤ widths_at tab k i n
  unfolding widths_at
  count_least i zero = omega arith
  count_least i (suc n) = omega (arith, count_least (i + 1) n)

-- there are no more variables than cells
pub few_variables : (t : List ℕ) (k : ℕ) {n len : ℕ} → n ≡ row_at (rows_of t) k 4 → 9 * width_at t k ≤ len → 9 * n ≤ len
few_variables t k {n} e room = omega (arith, count_least (tab_of t) k 0 n, ap (widths_at (tab_of t) k 0) e)

-- variable i of node k, as it was read of the table: its code, its enum's first variant and how many cells it has
pub record VariableRead (tab rows : List ℕ) (k i code first count : ℕ) : Type 0 where
  pub code_is : code ≡ code_at tab k i
  pub first_is : first ≡ first_at rows (enum_at tab k i)
  pub count_is : count ≡ width_of tab k i

-- by the table's own bytes
module _ (t : List ℕ) (k i : ℕ) {p : ℕ} (start : p ≡ types_at t k) where
  pub code_read : {b : ℕ} → b ≡ code_in t (p + 2 * i) → b ≡ code_at (tab_of t) k i
  code_read is = is ∙ code_is t k i (ap (λ q. q + 2 * i) start)

  pub enum_read : {z : ℕ} → z ≡ enum_in t (p + 2 * i) → z ≡ enum_at (tab_of t) k i
  enum_read is = is ∙ enum_is t k i (ap (λ q. q + 2 * i) start)

  pub count_read : {m : ℕ} → m ≡ max (get_or t (p + 2 * i + 1) 0) 1 → m ≡ width_of (tab_of t) k i
  count_read is = is ∙ ap (λ n. max n 1) (length_is t k i (ap (λ q. q + 2 * i + 1) start))

  pub variable_read : {b z e m : ℕ} → b ≡ code_in t (p + 2 * i) → z ≡ enum_in t (p + 2 * i) → e ≡ first_at (rows_of t) z → m ≡ max (get_or t (p + 2 * i + 1) 0) 1 → VariableRead (tab_of t) (rows_of t) k i b e m
  variable_read code number first count = record { code_is = code_read code; first_is = first ∙ ap (first_at (rows_of t)) (enum_read number); count_is = count_read count }

module _ (tab rows : List ℕ) (k : ℕ) where
  pub length_cells_at : (i n : ℕ) → length (cells_at tab rows k i n) ≡ 9 * widths_at tab k i n
  unfolding cells_at widths_at
  length_cells_at i zero = refl
  length_cells_at i (suc n) =
      length-append (cell_at tab rows k i) (cells_at tab rows k (i + 1) n)
      ∙ omega (arith, length_defaults (code_at tab k i) (first_at rows (enum_at tab k i)) (width_of tab k i), length_cells_at (i + 1) n)

  -- the first of those that are left
  pub cells_next : (i n : ℕ) → i < n → cells_at tab rows k i (n - i) ≡ cell_at tab rows k i ++ cells_at tab rows k (i + 1) (n - (i + 1))
  unfolding cells_at
  cells_next i n h = let e : n - i ≡ suc (n - (i + 1)) = omega arith in ap (cells_at tab rows k i) e

  pub cells_none : (i n : ℕ) → n ≤ i → cells_at tab rows k i (n - i) ≡ []
  unfolding cells_at
  cells_none i n h = let e : n - i ≡ 0 = omega arith in ap (cells_at tab rows k i) e

  pub cell_told : {i b e m : ℕ} → VariableRead tab rows k i b e m → default_cells b e m ≡ cell_at tab rows k i
  cell_told v = λ j. default_cells (v.code_is j) (v.first_is j) (v.count_is j)

  -- of n variables i are written, which have so many cells
  pub record Writing (n : ℕ) (base : List ℕ) (i cell : ℕ) (out : List ℕ) : Type 0 where
    pub most : i ≤ n
    pub count : cell + widths_at tab k i (n - i) ≡ widths_at tab k 0 n
    pub filled : Filling (cells_at tab rows k 0 n ++ drop (9 * widths_at tab k 0 n) base) base (9 * cell) out (cells_at tab rows k i (n - i) ++ drop (9 * widths_at tab k 0 n) base)

  module _ {n : ℕ} {base : List ℕ} {i cell : ℕ} {out : List ℕ} (w : Writing n base i cell out) where
    module _ {b e m : ℕ} (v : VariableRead tab rows k i b e m) (h : i < n) where
      -- it has room for the next
      pub write_room : cell + m ≤ widths_at tab k 0 n
      write_room = omega (arith, w.count, count_next tab k i n h, v.count_is)

      -- it is written
      pub write_turn : (x : List ℕ) → 9 * widths_at tab k 0 n ≤ length base → x ≡ default_cells b e m ++ drop (9 * m) (tail_of (9 * cell) out) → Writing n base (i + 1) (cell + m) (put_part (9 * cell) (length out - 9 * cell) out x)
      write_turn x room is =
          let c = cell_at tab rows k i in
          let rest = drop (9 * widths_at tab k 0 n) base in
          record {
            most = omega arith;
            count = omega (arith, w.count, count_next tab k i n h, v.count_is);
            filled = fill_at (omega arith) (fill_tail c _ (9 * m) (sym (ap length (cell_told v)) ∙ length_defaults b e m) (omega (arith, write_room)) x (is ∙ ap (λ l. l ++ drop (9 * m) (tail_of (9 * cell) out)) (cell_told v)) (fill_left (ap (λ l. l ++ rest) (cells_next i n h) ∙ append_assoc c _ rest) w.filled));
          }

    pub write_done : n ≤ i → out ≡ cells_at tab rows k 0 n ++ drop (9 * widths_at tab k 0 n) base
    write_done h =
        let e : widths_at tab k 0 n ≡ cell = omega (arith, w.count, count_none tab k i n h) in
        fill_done w.filled (ap (λ l. l ++ drop (9 * widths_at tab k 0 n) base) (cells_none i n h) ∙ ap (λ m. drop (9 * m) base) e)

-- a byte 0, and then cells, which a callee wrote
pub own_written : (out cells x : List ℕ) (n : ℕ) → 1 + n ≤ length out → x ≡ cells ++ drop n (tail_of 1 (set out 0 0)) → put_part 1 (length (set out 0 0) - 1) (set out 0 0) x ≡ 0 ∷ cells ++ drop (1 + n) out
own_written [] cells x n h e = absurd (omega arith)
own_written (y ∷ out) cells x n h e =
    let m : suc (length out) - 1 ≡ length out = omega arith in
    let k : 1 + n ≡ suc n = omega arith in
    ap (λ l. 0 ∷ x ++ l) (ap (λ i. drop i out) m ∙ drop-length out)
    ∙ ap {B = List ℕ} (λ l. 0 ∷ l) (append-nil x ∙ e ∙ ap (λ l. cells ++ drop n l) (ap (λ i. take i out) m ∙ take-length out))
    ∙ ap (λ i. 0 ∷ cells ++ drop i (y ∷ out)) (sym k)

pub own_long : (out cells : List ℕ) (n : ℕ) → 1 + n ≤ length out → length cells ≡ n → length (0 ∷ cells ++ drop (1 + n) out) ≡ length out
own_long out cells n h e = omega (arith, length-append cells (drop (1 + n) out), length-drop (1 + n) out, e)
