-- Laws of copying cells.
use Prim.Native.Nat.{ℕ, zero, suc, ◌+◌, ◌*◌, ◌<◌, ◌≤◌, min}
use mathlib.Core.List.{List, [], ◌∷◌, ◌++◌, append_assoc, append-nil}
use mathlib.Core.Path.{◌≡◌, refl, sym, ap, ◌∙◌}
use native.Mathlib.Omega.{arith}
use native.Mathlib.Decide.{dec_le}
use mathlib.Core.Logic.{by_cases}
use lib.ListN.{length, take, drop, set, get_or, length-append, length-drop, drop_of_length-le}
use lib.Seq.{take_at, drop_at, drop-drop, drop-cons, set_at, take-suc, take_all, length-take-le}
use Rattle.ol_spec.specs.Cell.{cell, cells, value_of, values_of}
use Rattle.ol_spec.specs.declared.Value.{Value}
use Rattle.ol_spec.proofs.Cells.{length_cells}
use Rattle.ol_spec.proofs.CellLengths.{length_values}

-- one byte more is copied
pub byte_copied : (i : ℕ) (from to₀ to : List ℕ) → to ≡ take i from ++ drop i to₀ → i < length from → i < length to₀ → set to i (get_or from i 0) ≡ take (suc i) from ++ drop (suc i) to₀
byte_copied i from to₀ to e f t =
    let x = get_or from i 0 in
    ap (λ (l : List ℕ). set l i x) (e ∙ ap (λ (l : List ℕ). take i from ++ l) (drop-cons to₀ i 0 t))
    ∙ set_at (take i from) (get_or to₀ i 0) (drop (suc i) to₀) x i (length-take-le i from (omega arith))
    ∙ sym (append_assoc (take i from) (x ∷ []) (drop (suc i) to₀)) ∙ ap (λ (l : List ℕ). l ++ drop (suc i) to₀) (sym (take-suc from i 0 f))

-- as many are copied as both have
pub bytes_copied : (i : ℕ) (from to₀ to : List ℕ) → to ≡ take i from ++ drop i to₀ → i ≡ min (length from) (length to₀) → to ≡ take (length to₀) from ++ drop (length from) to₀
bytes_copied i from to₀ to e m =
    by_cases (dec_le (length from) (length to₀))
    (λ l. let k : i ≡ length from = omega arith in
    e ∙ (λ j. (take_all i from (omega arith) ∙ sym (take_all (length to₀) from l)) j ++ drop (k j) to₀))
    (λ n. let k : i ≡ length to₀ = omega arith in
    e ∙ (λ j. take (k j) from ++ (drop_of_length-le to₀ {i = i} (omega arith) ∙ sym (drop_of_length-le to₀ {i = length from} (omega arith))) j))

-- all are, where both have as many
pub all_copied : (from to x : List ℕ) → length to ≡ length from → x ≡ take (length to) from ++ drop (length from) to → x ≡ from
all_copied from to x l e =
    e ∙ (λ j. take_all (length to) from (omega arith) j ++ drop_of_length-le to {i = length from} (omega arith) j) ∙ append-nil from

-- the bytes of one cell more
pub cells_append : (vs : List Value) (w : Value) → cells (vs ++ w ∷ []) ≡ cells vs ++ cell w
cells_append [] w = append-nil (cell w)
cells_append (v ∷ vs) w = ap (λ (l : List ℕ). cell v ++ l) (cells_append vs w) ∙ sym (append_assoc (cell v) (cells vs) (cell w))

-- the values of one cell more
pub values_snoc : (i : ℕ) (s : List ℕ) → values_of (suc i) s ≡ values_of i s ++ value_of (take 9 (drop (9 * i) s)) ∷ []
values_snoc zero s = refl
values_snoc (suc i) s =
    let k : 9 + 9 * i ≡ 9 * suc i = omega arith in
    ap (λ (vs : List Value). value_of (take 9 s) ∷ vs) (values_snoc i (drop 9 s) ∙ ap (λ (l : List ℕ). values_of i (drop 9 s) ++ value_of (take 9 l) ∷ []) (drop-drop (9 * i) 9 s ∙ ap (λ (m : ℕ). drop m s) k))

pub cells_length : (i : ℕ) (s : List ℕ) → length (cells (values_of i s)) ≡ 9 * i
cells_length i s = length_cells (values_of i s) ∙ ap (λ (n : ℕ). 9 * n) (length_values i s)

-- one cell more is written
pub copied_turn : (i : ℕ) (from to₀ to new : List ℕ) (v : Value) → to ≡ cells (values_of i from) ++ drop (9 * i) to₀ → v ≡ value_of (take 9 (drop (9 * i) from)) → new ≡ take (9 * i) to ++ (cell v ++ drop (9 * i + 9) to) → new ≡ cells (values_of (i + 1) from) ++ drop (9 * (i + 1)) to₀
copied_turn i from to₀ to new v e w h =
    let C = cells (values_of i from) in
    let lc = cells_length i from in
    let a : take (9 * i) to ≡ C = ap (take (9 * i)) e ∙ take_at C (drop (9 * i) to₀) (9 * i) lc in
    let m : 9 * i + 9 ≡ 9 * (i + 1) = omega arith in
    let b : drop (9 * i + 9) to ≡ drop (9 * (i + 1)) to₀ = sym (drop-drop 9 (9 * i) to) ∙ ap (drop 9) (ap (drop (9 * i)) e ∙ drop_at C (drop (9 * i) to₀) (9 * i) lc) ∙ drop-drop 9 (9 * i) to₀ ∙ ap (λ (n : ℕ). drop n to₀) m in
    let s : suc i ≡ i + 1 = omega arith in
    h ∙ (λ j. a j ++ (cell (w j) ++ b j)) ∙ sym (append_assoc C (cell (value_of (take 9 (drop (9 * i) from)))) (drop (9 * (i + 1)) to₀))
    ∙ ap (λ (l : List ℕ). l ++ drop (9 * (i + 1)) to₀) (sym (cells_append (values_of i from) (value_of (take 9 (drop (9 * i) from)))) ∙ ap cells (sym (values_snoc i from)) ∙ ap (λ (n : ℕ). cells (values_of n from)) s)

pub copied_length : (i : ℕ) (from to₀ to : List ℕ) → 9 * i ≤ length to₀ → to ≡ cells (values_of i from) ++ drop (9 * i) to₀ → length to ≡ length to₀
copied_length i from to₀ to l e = ap length e ∙ length-append (cells (values_of i from)) (drop (9 * i) to₀) ∙ omega (arith, cells_length i from, length-drop (9 * i) to₀)
