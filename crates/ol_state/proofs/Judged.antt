-- Tests over cells and bytes, one after the other.
use Prim.Native.Nat.{ℕ, suc, ◌+◌, ◌-◌, ◌*◌, ◌<◌, ◌≤◌}
use mathlib.Core.Bool.{Bool, true, false, not, ◌&&◌, and_assoc}
use mathlib.Core.List.{List, [], ◌∷◌, ◌++◌, append-nil}
use mathlib.Core.Path.{◌≡◌, refl, sym, ap, ◌∙◌}
use native.Mathlib.Omega.{arith}
use lib.Dec.{eqb, leb}
use Rattle.std.proofs.lemmas.Bool.{not-false, not-true}
use Rattle.std.specs.Prelude.{nat_eq}
use Rattle.std.specs.Cmp.Lexicographic.{pointwise}
use lib.ListN.{length, take, drop, get_or, length-drop}
use lib.Seq.{length-take-le, take-add, drop-drop}
use Rattle.ol_spec.specs.Lists.{same}
use Rattle.ol_spec.specs.Cell.{good_cell, good_cells}
use Rattle.ol_tables.proofs.Lending.{tail_of, tail_all}
use Rattle.ol_state.specs.Own.{good_bytes}
use Rattle.ol_state.specs.Defaults.{default_cell, default_cells, widths_at, cells_at}
use Rattle.ol_state.proofs.DefaultCells as DC
use Rattle.ol_state.proofs.DefaultCells.{VariableRead, length_default, length_defaults, defaults_next, defaults_none, count_next, count_none, cell_told}

pub and_pass : {a b : Bool} → a ≡ true → a && b ≡ b
and_pass {a} {b} e = ap (λ x. x && b) e

pub and_stop : {a : Bool} (b : Bool) → a ≡ false → a && b ≡ false
and_stop b e = ap (λ x. x && b) e

-- ---- cells

module _ (names : List ℕ) (n i : ℕ) (s : List ℕ) where
  -- the first of those that are left
  pub cells_next : i < n → good_cells names (n - i) (drop (9 * i) s) ≡ good_cell names (take 9 (drop (9 * i) s)) && good_cells names (n - (i + 1)) (drop (9 * (i + 1)) s)
  cells_next h =
      let e : n - i ≡ suc (n - (i + 1)) = omega arith in
      let q : 9 * i + 9 ≡ 9 * (i + 1) = omega arith in
      ap (λ m. good_cells names m (drop (9 * i) s)) e ∙ ap (λ l. good_cell names (take 9 (drop (9 * i) s)) && good_cells names (n - (i + 1)) l) (drop-drop 9 (9 * i) s ∙ ap (λ m. drop m s) q)

  pub cells_none : n ≤ i → good_cells names (n - i) (drop (9 * i) s) ≡ true
  cells_none h = let e : n - i ≡ 0 = omega arith in ap (λ m. good_cells names m (drop (9 * i) s)) e

-- ---- bytes

-- what `==` at bytes answers
pub same_is : (a b : List ℕ) → pointwise nat_eq a b ≡ same a b
same_is [] [] = refl
same_is [] (y ∷ b) = refl
same_is (x ∷ a) [] = refl
same_is (x ∷ a) (y ∷ b) = ap (λ c. eqb x y && c) (same_is a b)

pub same_append : (a b c d : List ℕ) → length a ≡ length c → same (a ++ b) (c ++ d) ≡ same a c && same b d
same_append [] b [] d e = refl
same_append [] b (y ∷ c) d e = absurd (omega arith)
same_append (x ∷ a) b [] d e = absurd (omega arith)
same_append (x ∷ a) b (y ∷ c) d e = ap (λ t. eqb x y && t) (same_append a b c d (omega arith)) ∙ sym (and_assoc (eqb x y) (same a c) (same b d))

-- the first m bytes, and the n behind them
pub same_parts : (c d l : List ℕ) (m n : ℕ) → length c ≡ m → m + n ≤ length l → same (take (m + n) l) (c ++ d) ≡ same (take m l) c && same (take n (drop m l)) d
same_parts c d l m n e room =
    ap (λ t. same t (c ++ d)) (take-add m n l) ∙ same_append (take m l) (take n (drop m l)) c d (length-take-le m l (omega arith) ∙ sym e)

-- ---- default cells

-- of n cells of one type the first i are the default: the others decide
pub record Repeated (code first n : ℕ) (cells : List ℕ) (i : ℕ) : Type 0 where
  pub most : i ≤ n
  pub left : same (take (9 * n) cells) (default_cells code first n) ≡ same (take (9 * (n - i)) (drop (9 * i) cells)) (default_cells code first (n - i))

module _ {code first n : ℕ} {cells : List ℕ} {i : ℕ} (r : Repeated code first n cells i) where
  -- the next cell, and those behind it
  repeated_next : i < n → 9 * n ≤ length cells → same (take (9 * n) cells) (default_cells code first n) ≡ same (take 9 (drop (9 * i) cells)) (default_cell code first) && same (take (9 * (n - (i + 1))) (drop (9 * (i + 1)) cells)) (default_cells code first (n - (i + 1)))
  repeated_next h room =
      let m = n - (i + 1) in
      let e : 9 * (n - i) ≡ 9 + 9 * m = omega arith in
      let q : 9 * i + 9 ≡ 9 * (i + 1) = omega arith in
      let l = drop (9 * i) cells in
      r.left ∙ (λ j. same (take (e j) l) (defaults_next code first i n h j))
      ∙ same_parts (default_cell code first) (default_cells code first m) l 9 (9 * m) (length_default code first) (omega (arith, length-drop (9 * i) cells))
      ∙ ap (λ t. same (take 9 l) (default_cell code first) && same (take (9 * m) t) (default_cells code first m)) (drop-drop 9 (9 * i) cells ∙ ap (λ p. drop p cells) q)

  module _ (h : i < n) (room : 9 * n ≤ length cells) {b : Bool} {first_cell : List ℕ} (d : first_cell ≡ default_cell code first ++ []) (is : b ≡ not (pointwise nat_eq (take (9 * i + 9 - 9 * i) (drop (9 * i) cells)) first_cell)) where
    -- the next cell was judged
    cell_is_lem : b ≡ not (same (take 9 (drop (9 * i) cells)) (default_cell code first))
    cell_is_lem =
        let e : 9 * i + 9 - 9 * i ≡ 9 = omega arith in
        is ∙ ap not (same_is _ first_cell) ∙ (λ j. not (same (take (e j) (drop (9 * i) cells)) ((d ∙ append-nil (default_cell code first)) j)))

    pub repeated_on : b ≡ false → Repeated code first n cells (i + 1)
    repeated_on t = record { most = omega arith; left = repeated_next h room ∙ and_pass (not-false _ (sym cell_is_lem ∙ t)) }

    pub repeated_stop : b ≡ true → false ≡ same (take (9 * n) cells) (default_cells code first n)
    repeated_stop t = sym (repeated_next h room ∙ and_stop _ (not-true _ (sym cell_is_lem ∙ t)))

  pub repeated_done : n ≤ i → true ≡ same (take (9 * n) cells) (default_cells code first n)
  repeated_done h =
      let z : 9 * (n - i) ≡ 0 = omega arith in
      sym (r.left ∙ (λ j. same (take (z j) (drop (9 * i) cells)) (defaults_none code first i n h j)))

-- of n variables of node k the first i, which have so many cells, have their defaults: the others decide
pub record Defaulted (tab rows : List ℕ) (k n : ℕ) (cells : List ℕ) (i cell : ℕ) : Type 0 where
  pub most : i ≤ n
  pub count : cell + widths_at tab k i (n - i) ≡ widths_at tab k 0 n
  pub left : same (take (9 * widths_at tab k 0 n) cells) (cells_at tab rows k 0 n) ≡ same (take (9 * widths_at tab k i (n - i)) (drop (9 * cell) cells)) (cells_at tab rows k i (n - i))

module _ {tab rows : List ℕ} {k n : ℕ} {cells : List ℕ} {i cell : ℕ} (d : Defaulted tab rows k n cells i cell) where
  module _ {b e m : ℕ} (v : VariableRead tab rows k i b e m) (h : i < n) where
    pub defaulted_room : cell + m ≤ widths_at tab k 0 n
    defaulted_room = omega (arith, d.count, count_next tab k i n h, v.count_is)

    module _ (room : 9 * widths_at tab k 0 n ≤ length cells) where
      -- the next variable's cells, and those behind them
      defaulted_next : same (take (9 * widths_at tab k 0 n) cells) (cells_at tab rows k 0 n) ≡ same (take (9 * m) (tail_of (9 * cell) cells)) (default_cells b e m) && same (take (9 * widths_at tab k (i + 1) (n - (i + 1))) (drop (9 * (cell + m)) cells)) (cells_at tab rows k (i + 1) (n - (i + 1)))
      defaulted_next =
          let u = widths_at tab k (i + 1) (n - (i + 1)) in
          let rest = cells_at tab rows k (i + 1) (n - (i + 1)) in
          let p : 9 * widths_at tab k i (n - i) ≡ 9 * m + 9 * u = omega (arith, count_next tab k i n h, v.count_is) in
          let q : 9 * cell + 9 * m ≡ 9 * (cell + m) = omega arith in
          let l = drop (9 * cell) cells in
          let c : cells_at tab rows k i (n - i) ≡ default_cells b e m ++ rest = DC.cells_next tab rows k i n h ∙ ap (λ t. t ++ rest) (sym (cell_told tab rows k v)) in
          d.left ∙ (λ j. same (take (p j) l) (c j))
          ∙ same_parts (default_cells b e m) rest l (9 * m) (9 * u) (length_defaults b e m) (omega (arith, length-drop (9 * cell) cells, d.count, p, room))
          ∙ (λ j. same (take (9 * m) (sym (tail_all (9 * cell) cells) j)) (default_cells b e m) && same (take (9 * u) ((drop-drop (9 * m) (9 * cell) cells ∙ ap (λ t. drop t cells) q) j)) rest)

      module _ {r : Bool} (is : r ≡ same (take (9 * m) (tail_of (9 * cell) cells)) (default_cells b e m)) where
        pub defaulted_on : r ≡ true → Defaulted tab rows k n cells (i + 1) (cell + m)
        defaulted_on t =
            record {
              most = omega arith;
              count = omega (arith, d.count, count_next tab k i n h, v.count_is);
              left = defaulted_next ∙ and_pass (sym is ∙ t);
            }

        pub defaulted_stop : r ≡ false → false ≡ same (take (9 * widths_at tab k 0 n) cells) (cells_at tab rows k 0 n)
        defaulted_stop t = sym (defaulted_next ∙ and_stop _ (sym is ∙ t))

  pub defaulted_done : n ≤ i → true ≡ same (take (9 * widths_at tab k 0 n) cells) (cells_at tab rows k 0 n)
  defaulted_done h =
      let z : 9 * widths_at tab k i (n - i) ≡ 0 = omega (arith, count_none tab k i n h) in
      sym (d.left ∙ (λ j. same (take (z j) (drop (9 * cell) cells)) (DC.cells_none tab rows k i n h j)))

-- ---- a record's own bytes: the started byte, the cells, and whether it is not started, or else has the defaults

module _ (names ds : List ℕ) (n : ℕ) (r : List ℕ) where
  pub own_defaults : leb (get_or r 0 0) 1 ≡ true → good_cells names n (drop 1 r) ≡ true → eqb (get_or r 0 0) 0 ≡ true → same (take (9 * n) (drop 1 r)) ds ≡ good_bytes names ds n r
  own_defaults p q z = rw (p, q, z)

  pub own_started : leb (get_or r 0 0) 1 ≡ true → good_cells names n (drop 1 r) ≡ true → eqb (get_or r 0 0) 0 ≡ false → true ≡ good_bytes names ds n r
  own_started p q z = rw (p, q, z)

  pub own_cells_lem : leb (get_or r 0 0) 1 ≡ true → good_cells names n (drop 1 r) ≡ false → false ≡ good_bytes names ds n r
  own_cells_lem p q = rw (p, q)

  pub own_byte : leb (get_or r 0 0) 1 ≡ false → false ≡ good_bytes names ds n r
  own_byte p = rw p
