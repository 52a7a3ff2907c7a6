-- Laws of copying cells, passing values on and storing them.
use Prim.Native.Nat.{ℕ, zero, suc, ◌+◌, ◌-◌, ◌*◌, ◌<◌, ◌≤◌, max}
use mathlib.Core.List.{List, [], ◌∷◌, ◌++◌, map, append_assoc, append-nil}
use mathlib.Core.Logic.{by_cases}
use mathlib.Core.Option.{Option, none, some}
use Rattle.std.specs.Prelude.{Option as Callee, Some, None}
use mathlib.Core.Path.{◌≡◌, refl, sym, ap, ◌∙◌}
use native.Mathlib.Omega.{arith}
use native.Mathlib.Decide.{dec_le}
use lib.ListN.{length, take, drop, get_or, set, length-append, length-drop, length-replicate, get_or-map}
use lib.Seq.{take_at, drop_at, drop-drop, take-add, take-suc, take_all, length-take-le}
use Rattle.ol_spec.specs.Lists.{from, position, positions}
use Rattle.ol_spec.specs.Syntax.{Ty, bool, VarTy, scalar, array, Variable, Node, name_of, variables, variable_names, variable_cells, cell_types, cell_names, type_cells}
use Rattle.ol_spec.specs.Cell.{cell, cells, value_of, values_of}
use Rattle.ol_spec.specs.Types.{fit}
use Rattle.ol_spec.specs.Eval.{Outcomes, values, failure, overflow, several, single}
use Rattle.ol_spec.specs.Step.{cell_count, put_all, slots_of, assign, fit_all}
use Rattle.ol_spec.specs.declared.Value.{Value}
use Rattle.ol_spec.specs.declared.Outcome.{Outcome}
use Rattle.ol_spec.specs.declared.Outcome.TheVariants as Out
use Rattle.ol_spec.specs.declared.Cause.{Cause}
use Rattle.ol_spec.specs.declared.Cause.TheVariants as Why
use Rattle.ol_spec.proofs.CellLengths.{length_values}
use Rattle.ol_spec.proofs.Cells.{length_cell as cell_length}
use Rattle.ol_value.specs.Codes.{ty_of}
use Rattle.ol_tables.specs.At.{node_in}
use Rattle.ol_tables.specs.Tables.{slots_from, slot_at, slot_by, code_at, enum_at, length_at, row_at, element_of, array_length, var_ty_of, var_ty_at, HasSlot}
use Rattle.ol_tables.proofs.Cells.{first, cells_in as types_in, first_next, cell_type, positions_own}
use Rattle.ol_state.specs.Defaults.{width_of, widths_at}
use Rattle.ol_frame.specs.Walk.{nodes_in}
use Rattle.ol_frame.specs.Plans.{Program}
use Rattle.ol_frame.specs.declared.outcomes.Ending.{Ending}
use Rattle.ol_frame.specs.declared.outcomes.Ending.TheVariants as End
use Rattle.ol_frame.proofs.Endings.{failed_values, over_values, over_failed, one_cause}
use Rattle.ol_frame.specs.Stores.{PassedOn, cells_in, Typed, Storable, Stores, StoresOut, Assignable, Assigns, Leaves, passed_with, cells_under, cells_under_all, over_all, StoresCells, Slots, Puts, Fitted, FitsPart}
use Rattle.ol_frame.proofs.Copying.{values_snoc, all_copied}
use Rattle.ol_frame.proofs.RealKinds.{proper_type}
use Rattle.ol_frame.proofs.Programs.{laid}
use Rattle.ol_frame.proofs.Tabling.{count_last, count_none, count_split}

-- ---- values of cells

-- the first of so many values
pub values_append : (m n : ℕ) (s : List ℕ) → values_of (m + n) s ≡ values_of m s ++ values_of n (drop (9 * m) s)
values_append zero n s = let e : 0 + n ≡ n = omega arith in ap (λ (k : ℕ). values_of k s) e
values_append (suc m) n s =
    let e : suc m + n ≡ suc (m + n) = omega arith in
    let k : 9 + 9 * m ≡ 9 * suc m = omega arith in
    ap (λ (j : ℕ). values_of j s) e
    ∙ ap (λ (vs : List Value). value_of (take 9 s) ∷ vs) (values_append m n (drop 9 s) ∙ ap (λ (l : List ℕ). values_of m (drop 9 s) ++ values_of n l) (drop-drop (9 * m) 9 s ∙ ap (λ (j : ℕ). drop j s) k))

pub values_take : (m n : ℕ) (s : List ℕ) → m ≤ n → values_of m s ≡ take m (values_of n s)
values_take m n s h =
    let e : n ≡ m + (n - m) = omega arith in
    sym (take_at (values_of m s) (values_of (n - m) (drop (9 * m) s)) m (length_values m s)) ∙ ap (take m) (sym (values_append m (n - m) s) ∙ ap (λ (k : ℕ). values_of k s) (sym e))

pub values_drop : (m n : ℕ) (s : List ℕ) → m ≤ n → values_of (n - m) (drop (9 * m) s) ≡ drop m (values_of n s)
values_drop m n s h =
    let e : n ≡ m + (n - m) = omega arith in
    sym (drop_at (values_of m s) (values_of (n - m) (drop (9 * m) s)) m (length_values m s)) ∙ ap (drop m) (sym (values_append m (n - m) s) ∙ ap (λ (k : ℕ). values_of k s) (sym e))

-- they depend on the bytes of their cells only
pub values_front : (n : ℕ) (p q : List ℕ) → 9 * n ≤ length p → values_of n (p ++ q) ≡ values_of n p
values_front zero p q h = refl
values_front (suc n) p q h =
    λ i. value_of (lib.Seq.take-append-le 9 p q (omega arith) i) ∷ (ap (values_of n) (lib.Seq.drop-append-le 9 p q (omega arith)) ∙ values_front n (drop 9 p) q (omega (arith, length-drop 9 p))) i

-- cell i, written
pub values_put : (n i : ℕ) (s : List ℕ) (v : Value) → 9 * i + 9 ≤ length s → value_of (cell v) ≡ v → values_of n (take (9 * i) s ++ (cell v ++ drop (9 * i + 9) s)) ≡ set (values_of n s) i v
values_put zero i s v h b = refl
values_put (suc n) zero s v h b = ap (λ (u : Value). u ∷ values_of n (drop 9 s)) b
values_put (suc n) (suc i) s v h b =
    let a : 9 * suc i ≡ 9 + 9 * i = omega arith in
    let c : 9 * suc i + 9 ≡ 9 + (9 * i + 9) = omega arith in
    let F = take 9 s in
    let R = take (9 * i) (drop 9 s) ++ (cell v ++ drop (9 * i + 9) (drop 9 s)) in
    let e : take (9 * suc i) s ++ (cell v ++ drop (9 * suc i + 9) s) ≡ F ++ R =
    (λ j. (ap (λ (k : ℕ). take k s) a ∙ take-add 9 (9 * i) s) j ++ (cell v ++ (ap (λ (k : ℕ). drop k s) c ∙ sym (drop-drop (9 * i + 9) 9 s)) j)) ∙ append_assoc F (take (9 * i) (drop 9 s)) (cell v ++ drop (9 * i + 9) (drop 9 s)) in
    let l : length F ≡ 9 = length-take-le 9 s (omega arith) in
    ap (values_of (suc n)) e
    ∙ (λ j. value_of (take_at F R 9 l j) ∷ values_of n (drop_at F R 9 l j))
    ∙ ap (λ (vs : List Value). value_of F ∷ vs) (values_put n i (drop 9 s) v (omega (arith, length-drop 9 s)) b)

-- cell i, written behind i others
pub values_next : (i : ℕ) (s : List ℕ) (v : Value) → 9 * i + 9 ≤ length s → value_of (cell v) ≡ v → values_of (i + 1) (take (9 * i) s ++ (cell v ++ drop (9 * i + 9) s)) ≡ values_of i s ++ v ∷ []
values_next i s v h b =
    let e : i + 1 ≡ suc i = omega arith in
    let w = value_of (take 9 (drop (9 * i) s)) in
    values_put (i + 1) i s v h b ∙ ap (λ (k : ℕ). set (values_of k s) i v) e ∙ ap (λ (vs : List Value). set vs i v) (values_snoc i s)
    ∙ lib.Seq.set_at (values_of i s) w [] v i (length_values i s)

-- the cells from `first` up to `last`, copied
pub values_copied : (first last : ℕ) (from to new : List ℕ) → first ≤ last → 9 * last ≤ length from → 9 * last ≤ length to
    → new ≡ take (9 * first) to ++ (take (9 * last - 9 * first) (drop (9 * first) from) ++ drop (9 * last) to) → values_of last new ≡ values_of first to ++ drop first (values_of last from)
values_copied first last from to new h lf lt e =
    let A = take (9 * first) to in
    let B = take (9 * last - 9 * first) (drop (9 * first) from) in
    let C = drop (9 * last) to in
    let la : length A ≡ 9 * first = length-take-le (9 * first) to (omega arith) in
    let lb : length B ≡ 9 * last - 9 * first = length-take-le (9 * last - 9 * first) (drop (9 * first) from) (omega (arith, length-drop (9 * first) from)) in
    let n : last ≡ first + (last - first) = omega arith in
    let m : 9 * (last - first) ≡ 9 * last - 9 * first = omega arith in
    ap (values_of last) e ∙ ap (λ (k : ℕ). values_of k (A ++ (B ++ C))) n ∙ values_append first (last - first) (A ++ (B ++ C))
    ∙ (λ j. (values_front first A (B ++ C) (omega (arith, la)) ∙ sym (values_front first A (drop (9 * first) to) (omega (arith, la))) ∙ ap (values_of first) (lib.ListN.take-append-drop (9 * first) to)) j
    ++ (ap (values_of (last - first)) (drop_at A (B ++ C) (9 * first) la) ∙ values_front (last - first) B C (omega (arith, lb, m))
    ∙ sym (values_front (last - first) B (drop (9 * last - 9 * first) (drop (9 * first) from)) (omega (arith, lb, m))) ∙ ap (values_of (last - first)) (lib.ListN.take-append-drop (9 * last - 9 * first) (drop (9 * first) from)) ∙ values_drop first last from h) j)

-- the first values are written over
pub values_over : (i n : ℕ) (from to new : List ℕ) → i ≤ n → 9 * i ≤ length from → 9 * n ≤ length to
    → new ≡ take (9 * 0) to ++ (take (9 * i - 9 * 0) (drop (9 * 0) from) ++ drop (9 * i) to) → values_of n new ≡ values_of i from ++ drop i (values_of n to)
values_over i n from to new h lf lt e =
    let z : 9 * i - 9 * 0 ≡ 9 * i = omega arith in
    let front = take (9 * i - 9 * 0) (drop (9 * 0) from) in
    let la : length front ≡ 9 * i = length-take-le (9 * i - 9 * 0) from (omega arith) ∙ z in
    let m : n ≡ i + (n - i) = omega arith in
    let b : drop (9 * i) new ≡ drop (9 * i) to = ap (drop (9 * i)) e ∙ drop_at front (drop (9 * i) to) (9 * i) la in
    ap (λ (k : ℕ). values_of k new) m ∙ values_append i (n - i) new
    ∙ (λ j. values_copied 0 i from to new (omega arith) lf (omega arith) e j ++ (ap (values_of (n - i)) b ∙ values_drop i n to h) j)

-- the copy as the loan leaves it
pub copied_part : (a b : ℕ) (from to x : List ℕ) → a ≤ b → b ≤ length from → b ≤ length to → x ≡ take (length (take (b - a) (drop a to))) (take (b - a) (drop a from)) ++ drop (length (take (b - a) (drop a from))) (take (b - a) (drop a to))
    → take a to ++ (x ++ drop (b - a) (drop a to)) ≡ take a to ++ (take (b - a) (drop a from) ++ drop b to)
copied_part a b from to x h lf lt e =
    let k : a + (b - a) ≡ b = omega arith in
    let n = length-take-le (b - a) (drop a to) (omega (arith, length-drop a to)) ∙ sym (length-take-le (b - a) (drop a from) (omega (arith, length-drop a from))) in
    λ j. take a to ++ (all_copied (take (b - a) (drop a from)) (take (b - a) (drop a to)) x n e j ++ (drop-drop (b - a) a to ∙ ap (λ (m : ℕ). drop m to) k) j)

-- ---- types by the table

-- a node's types are as the table has them
pub typed : {file tab rows : List ℕ} (k : ℕ) → Program file tab rows → k < nodes_in file → Typed tab rows k (node_in file k)
typed {file} {tab} k p h =
    let l = laid p k in
    let t = p.table.tabs_of k h in
    record {
      few = l.few;
      count = (p.sized.table.rows_of k h).variables;
      cells = t.cells;
      types = λ i b. (λ j. ty_of (t.codes i b j) (t.enums i b j)) ∙ proper_type (element_of (var_ty_at (variables (node_in file k)) i)) (l.proper i);
      lengths = t.lengths;
      filled = l.filled;
      distinct = l.distinct;
    }

-- a value that was passed on to a node
pub passed_as : {tab rows : List ℕ} {k : ℕ} {n : Node} (i : ℕ) (v r : Value) → Typed tab rows k n → i < length (variables n) → PassedOn tab (Some k) i v r → r ≡ fit (element_of (var_ty_at (variables n) i)) v
passed_as {tab} {rows} {k} i v r t l h = h (enum_at tab k i) ∙ ap (λ (u : Ty). fit u v) (t.types i l)

-- one argument more, fitted to its cell
pub fit_snoc : (ts : List Ty) (vs : List Value) (v : Value) → length vs < length ts → fit_all ts (vs ++ v ∷ []) ≡ fit_all ts vs ++ fit (get_or ts (length vs) bool) v ∷ []
unfolding fit_all
fit_snoc [] vs v h = absurd (omega arith)
fit_snoc (t ∷ []) [] v h = refl
fit_snoc (t ∷ u ∷ ts) [] v h = refl
fit_snoc (t ∷ ts) (w ∷ vs) v h = ap (λ (us : List Value). fit t w ∷ us) (fit_snoc ts vs v (omega arith))

-- a value that was kept is had back from its cell
pub kept_back : (r v : Value) → r ≡ v → value_of (cell v) ≡ v → value_of (cell r) ≡ r
kept_back r v e h = ap (λ (u : Value). value_of (cell u)) e ∙ h ∙ sym e

-- ---- the cells of a name

no_variable : Variable
no_variable = record { name = 0; ty = scalar bool }

-- by the length that the table has
cells_told : (t : VarTy) → 1 ≤ length (type_cells t) → max (array_length t) 1 ≡ length (type_cells t)
cells_told (scalar t) h = refl
cells_told (array n t) h = omega (arith, h, length-replicate n t)

each_at : (vs : List Variable) (i : ℕ) → Rattle.ol_tables.specs.Tables.Each (λ v. 1 ≤ length (variable_cells v)) vs → i < length vs → 1 ≤ length (type_cells (var_ty_at vs i))
each_at [] i f h = absurd (omega arith)
each_at (v ∷ vs) zero f h = f.0
each_at (v ∷ vs) (suc i) f h = each_at vs i f.1 (omega arith)

type_at_lem : (vs : List Variable) (i : ℕ) (d : Variable) → i < length vs → var_ty_at vs i ≡ var_ty_of (get_or vs i d)
type_at_lem [] i d h = absurd (omega arith)
type_at_lem (v ∷ vs) zero d h = refl
type_at_lem (v ∷ vs) (suc i) d h = type_at_lem vs i d (omega arith)

module _ {tab rows : List ℕ} {k : ℕ} {n : Node} (t : Typed tab rows k n) where
  abbrev vars : List Variable
  vars = variables n

  -- how many cells variable i has
  pub own_count_lem : (i : ℕ) → i < length vars → width_of tab k i ≡ length (type_cells (var_ty_at vars i))
  own_count_lem i l = ap (λ m. max m 1) (t.lengths i l) ∙ cells_told (var_ty_at vars i) (each_at vars i t.filled l)

  -- where its cells start
  pub first_told : (i : ℕ) → i ≤ length vars → widths_at tab k 0 i ≡ first name_of var_ty_of vars i
  first_told zero l = count_none tab k 0
  first_told (suc i) l =
      let e : suc i ≡ i + 1 = omega arith in
      let z : 0 + i ≡ i = omega arith in
      let b : i < length vars = omega arith in
      ap (widths_at tab k 0) e ∙ count_last tab k 0 i
      ∙ omega (arith, first_told i (omega arith), ap (width_of tab k) z, own_count_lem i b, ap (λ u. length (type_cells u)) (type_at_lem vars i no_variable b), first_next name_of var_ty_of no_variable vars i b)

  -- a slot that is a variable's
  pub slot_variable : (at x : ℕ) (cs : List ℕ) → HasSlot tab (variable_names n) cs (at, x) → slot_at tab at < row_at rows k 4 → position x (variable_names n) ≡ some (slot_at tab at)
  slot_variable at x cs h l = go (position x (variable_names n)) (position x cs) h
    where
      go : (p q : Option ℕ) → slot_at tab at ≡ slot_by p q → p ≡ some (slot_at tab at)
      go (some i) q e = ap some (sym e)
      go none none e = absurd (omega (arith, t.count, t.few))
      go none (some j) e = absurd (omega (arith, t.count, t.few))

  -- the cells of its name
  pub positions_told : (x i : ℕ) → position x (variable_names n) ≡ some i → i < length vars → positions x (cell_names vars) ≡ from (widths_at tab k 0 i) (width_of tab k i)
  positions_told x i e l =
      positions_own name_of var_ty_of no_variable 0 vars x i t.distinct e
      ∙ (λ j. from (starts j) (counts j))
    where
      starts : 0 + first name_of var_ty_of vars i ≡ widths_at tab k 0 i
      starts = omega (arith, first_told i (omega arith))

      counts : length (types_in name_of var_ty_of (get_or vars i no_variable)) ≡ width_of tab k i
      counts = ap (λ u. length (type_cells u)) (sym (type_at_lem vars i no_variable l)) ∙ sym (own_count_lem i l)

  -- their types
  pub types_told : (i j : ℕ) → i < length vars → j < width_of tab k i → get_or (cell_types vars) (widths_at tab k 0 i + j) bool ≡ element_of (var_ty_at vars i)
  types_told i j l h =
      ap (λ c. get_or (cell_types vars) (c + j) bool) (first_told i (omega arith))
      ∙ cell_type name_of var_ty_of no_variable bool vars i j l (omega (arith, h, own_count_lem i l, ap (λ u. length (type_cells u)) (type_at_lem vars i no_variable l)))
      ∙ ap element_of (sym (type_at_lem vars i no_variable l))

-- ---- values stored in sequence

-- one value more
over_snoc : (cs : List Value) (i : ℕ) (vs : List Value) (v : Value) → over_all cs i (vs ++ v ∷ []) ≡ set (over_all cs i vs) (i + length vs) v
over_snoc cs i [] v = let z : i ≡ i + 0 = omega arith in ap (λ j. set cs j v) z
over_snoc cs i (w ∷ vs) v = let z : suc i + length vs ≡ i + suc (length vs) = omega arith in over_snoc (set cs i w) (suc i) vs v ∙ ap (λ j. set (over_all (set cs i w) (suc i) vs) j v) z

-- as storing in these cells is
put_over : (n : Node) (u : Ty) (m c : ℕ) (vs cs : List Value) → length vs ≡ m → ((j : ℕ) → j < m → get_or (cell_types (variables n)) (c + j) bool ≡ u) → put_all n (from c m) vs cs ≡ over_all cs c (map (fit u) vs)
unfolding put_all
put_over n u zero c [] cs e h = refl
put_over n u zero c (v ∷ vs) cs e h = absurd (omega arith)
put_over n u (suc m) c [] cs e h = absurd (omega arith)
put_over n u (suc m) c (v ∷ vs) cs e h =
    let z : c + 0 ≡ c = omega arith in
    ap (λ w. put_all n (from (suc c) m) vs (set cs c (fit w v))) (ap (λ j. get_or (cell_types (variables n)) j bool) (sym z) ∙ h 0 (omega arith))
    ∙ put_over n u m (suc c) vs (set cs c (fit u v)) (omega arith) (λ j l. let y : suc c + j ≡ c + suc j = omega arith in ap (λ i. get_or (cell_types (variables n)) i bool) y ∙ h (suc j) (omega arith))

-- one value, in the first of some cells
put_first : (n : Node) (m c : ℕ) (v : Value) (cs : List Value) → 1 ≤ m → put_all n (from c m) (v ∷ []) cs ≡ set cs c (fit (get_or (cell_types (variables n)) c bool) v)
unfolding put_all
put_first n zero c v cs h = absurd (omega arith)
put_first n (suc zero) c v cs h = refl
put_first n (suc (suc m)) c v cs h = refl

-- ---- one name stored

module _ (tab rows : List ℕ) (k at : ℕ) (cells : List ℕ) (h : Storable tab rows k at cells) where
  first_room : (s : ℕ) → s ≡ slot_at tab at → widths_at tab k 0 s + width_of tab k s ≤ widths_at tab k 0 (row_at rows k 4)
  first_room s e =
      let z : row_at rows k 4 ≡ s + 1 + (row_at rows k 4 - (s + 1)) = omega (arith, e, h.variable) in
      let y : 0 + s ≡ s = omega arith in
      omega (arith, ap (widths_at tab k 0) z, count_split tab k 0 (s + 1) (row_at rows k 4 - (s + 1)), count_last tab k 0 s, ap (width_of tab k) y)

  -- all its cells are there, and the first is
  pub cells_room : (s c : ℕ) → s ≡ slot_at tab at → c ≡ widths_at tab k 0 s → 9 * (c + width_of tab k s) ≤ length cells
  cells_room s c e f = omega (arith, f, first_room s e, h.room)

  pub cell_room : (s c : ℕ) → s ≡ slot_at tab at → c ≡ widths_at tab k 0 s → 9 * c + 9 ≤ length cells
  cell_room s c e f = omega (arith, cells_room s c e f)

module _ (tab rows : List ℕ) (k at : ℕ) where
  -- in the first of its cells
  pub stored : (s d c : ℕ) (v u : Value) (old new : List ℕ) → Storable tab rows k at old → s ≡ slot_at tab at → d ≡ code_at tab k s → c ≡ widths_at tab k 0 s → ((e : ℕ) → u ≡ fit (ty_of d e) v) → value_of (cell u) ≡ u
      → new ≡ take (9 * c) old ++ (cell u ++ drop (9 * c + 9) old) → Stores tab rows k at (v ∷ []) old new
  stored s d c v u old new st is id ic f b e n x cs t h =
      let l : s < length (variables n) = omega (arith, is, st.variable, t.count) in
      let some : 1 ≤ width_of tab k s = omega arith in
      let pos : position x (variable_names n) ≡ some' s = slot_variable t at x cs h st.variable ∙ ap some' (sym is) in
      let same : u ≡ fit (get_or (cell_types (variables n)) c bool) v = f (enum_at tab k s) ∙ ap (λ w. fit (ty_of w (enum_at tab k s)) v) id ∙ ap (λ w. fit w v) (t.types s l ∙ sym (types_told t s 0 l some) ∙ ap (λ j. get_or (cell_types (variables n)) j bool) (let z : widths_at tab k 0 s + 0 ≡ c = omega (arith, ic) in z)) in
      ap (cells_in n) e ∙ values_put (cell_count n) c old u (cell_room tab rows k at old st s c is ic) b
      ∙ ap (set (cells_in n old) c) same
      ∙ sym (ap (λ is. put_all n is (v ∷ []) (cells_in n old)) (positions_told t x s pos l ∙ ap (λ j. from j (width_of tab k s)) (sym ic)) ∙ put_first n (width_of tab k s) c v (cells_in n old) some)
    where
      some' : {A : Type 0} → A → Option A
      some' a = some a

  -- in all of them, an array's
  pub array_stored : (s d c m : ℕ) (from' old new : List ℕ) → Storable tab rows k at old → s ≡ slot_at tab at → d ≡ code_at tab k s → c ≡ widths_at tab k 0 s → m ≡ width_of tab k s → StoresCells d c m from' old new → Stores tab rows k at (values_of m from') old new
  array_stored s d c m from' old new st is id ic im h n x cs t hs =
      let l : s < length (variables n) = omega (arith, is, st.variable, t.count) in
      let pos = slot_variable t at x cs hs st.variable ∙ ap (λ (j : ℕ). some j) (sym is) in
      let u = element_of (var_ty_at (variables n) s) in
      h (enum_at tab k s) (cell_count n)
      ∙ ap (λ w. over_all (cells_in n old) c (map (fit w) (values_of m from'))) (ap (λ j. ty_of j (enum_at tab k s)) id ∙ t.types s l)
      ∙ sym (ap (λ is. put_all n is (values_of m from') (cells_in n old)) (positions_told t x s pos l ∙ (λ j. from (sym ic j) (sym im j)))
      ∙ put_over n u m c (values_of m from') (cells_in n old) (length_values m from')
      (λ j b. ap (λ i. get_or (cell_types (variables n)) (i + j) bool) ic ∙ types_told t s j l (omega (arith, im))))

map_snoc : (g : Value → Value) (vs : List Value) (v : Value) → map g (vs ++ v ∷ []) ≡ map g vs ++ g v ∷ []
map_snoc g [] v = refl
map_snoc g (w ∷ vs) v = ap (λ l. g w ∷ l) (map_snoc g vs v)

-- a cell more is stored
pub stores_none : (code first : ℕ) (from' old : List ℕ) → StoresCells code first 0 from' old old
stores_none code first from' old e m = refl

pub stores_turn : (code first i : ℕ) (from' old mid new : List ℕ) (v u : Value) → StoresCells code first i from' old mid → v ≡ value_of (take 9 (drop (9 * i) from')) → ((e : ℕ) → u ≡ fit (ty_of code e) v) → value_of (cell u) ≡ u
    → 9 * (first + i) + 9 ≤ length mid → new ≡ take (9 * (first + i)) mid ++ (cell u ++ drop (9 * (first + i) + 9) mid) → StoresCells code first (i + 1) from' old new
stores_turn code first i from' old mid new v u h iv f b room w e m =
    let p : suc i ≡ i + 1 = omega arith in
    let z : length (map (fit (ty_of code e)) (values_of i from')) ≡ i = lib.ListN.length-map (values_of i from') (fit (ty_of code e)) ∙ length_values i from' in
    ap (values_of m) w ∙ values_put m (first + i) mid u room b ∙ (λ j. set (h e m j) (first + i) ((f e ∙ ap (fit (ty_of code e)) iv) j))
    ∙ ap (λ j. set (over_all (values_of m old) first (map (fit (ty_of code e)) (values_of i from'))) (first + j) (fit (ty_of code e) (value_of (take 9 (drop (9 * i) from'))))) (sym z)
    ∙ sym (over_snoc (values_of m old) first (map (fit (ty_of code e)) (values_of i from')) (fit (ty_of code e) (value_of (take 9 (drop (9 * i) from')))))
    ∙ ap (over_all (values_of m old) first) (sym (map_snoc (fit (ty_of code e)) (values_of i from') (value_of (take 9 (drop (9 * i) from')))) ∙ ap (map (fit (ty_of code e))) (sym (values_snoc i from') ∙ ap (λ q. values_of q from') p))

-- without values nothing is stored
put_none : (n : Node) (is : List ℕ) (cs : List Value) → put_all n is [] cs ≡ cs
unfolding put_all
put_none n [] cs = refl
put_none n (i ∷ is) cs = refl

-- one value stops at the first cell
one_more : (n : Node) (c m : ℕ) (is js : List ℕ) (v : Value) (cs : List Value) → is ≡ from c m → 1 ≤ m → put_all n (is ++ js) (v ∷ []) cs ≡ put_all n is (v ∷ []) cs
unfolding put_all
one_more n c zero is js v cs e h = absurd (omega arith)
one_more n c (suc m) is js v cs e h =
    let w = set cs c (fit (get_or (cell_types (variables n)) c bool) v) in
    ap (λ l. put_all n (l ++ js) (v ∷ []) cs) e ∙ put_none n (from (suc c) m ++ js) w ∙ sym (put_none n (from (suc c) m) w) ∙ ap (λ l. put_all n l (v ∷ []) cs) (sym e)

-- two lists of cells in turn
put_append : (n : Node) (is js : List ℕ) (vs ws cs : List Value) → length vs ≡ length is → put_all n (is ++ js) (vs ++ ws) cs ≡ put_all n js ws (put_all n is vs cs)
unfolding put_all
put_append n [] js [] ws cs e = refl
put_append n [] js (v ∷ vs) ws cs e = absurd (omega arith)
put_append n (i ∷ is) js [] ws cs e = absurd (omega arith)
put_append n (i ∷ is) js (v ∷ vs) ws cs e = put_append n is js vs ws (set cs i (fit (get_or (cell_types (variables n)) i bool) v)) (omega arith)

slots_snoc : (n : Node) (xs : List ℕ) (y : ℕ) → slots_of n (xs ++ y ∷ []) ≡ slots_of n xs ++ positions y (cell_names (variables n))
slots_snoc n [] y = append-nil (positions y (cell_names (variables n)))
slots_snoc n (x ∷ xs) y =
    ap (λ l. positions x (cell_names (variables n)) ++ l) (slots_snoc n xs y) ∙ sym (append_assoc (positions x (cell_names (variables n))) (slots_of n xs) (positions y (cell_names (variables n))))

-- an outcome's value
pub out_stored : (tab rows : List ℕ) (k at : ℕ) (o : Outcome) (v : Value) (old new : List ℕ) → Storable tab rows k at old → o ≡ Out.Value v → Stores tab rows k at (v ∷ []) old new → StoresOut tab rows k at o old new
out_stored tab rows k at o v old new st e h n x xs cs t s vs w =
    let same : v ∷ [] ≡ vs = inside (sym (ap several e) ∙ w) in
    let l : slot_at tab at < length (variables n) = omega (arith, st.variable, t.count) in
    let pos = positions_told t x (slot_at tab at) (slot_variable t at x cs s st.variable) l in
    h n x cs t s ∙ sym (one_more n (widths_at tab k 0 (slot_at tab at)) (width_of tab k (slot_at tab at)) (positions x (cell_names (variables n))) (slots_of n xs) v (cells_in n old) pos (omega arith))
    ∙ ap (λ (us : List Value). assign n (x ∷ xs) us (cells_in n old)) same
  where
    inside : {a b : List Value} → values a ≡ values b → a ≡ b
    inside e = cc

pub out_none : (tab rows : List ℕ) (k at : ℕ) (o : Outcome) (old : List ℕ) → ((v : Value) → ¬ (o ≡ Out.Value v)) → StoresOut tab rows k at o old old
out_none tab rows k at (Out.Value v) old ne n x xs cs t s vs w = absurd (ne v refl)
out_none tab rows k at (Out.Failure c) old ne n x xs cs t s vs w = absurd (let z : ◌≡◌ {A = ℕ} 0 1 = cc in omega arith)
out_none tab rows k at Out.Overflow old ne n x xs cs t s vs w = absurd (let z : ◌≡◌ {A = ℕ} 0 1 = cc in omega arith)

-- ---- several names stored

-- one name more
pub under_snoc : (tab : List ℕ) (k at i : ℕ) → cells_under_all tab k at (i + 1) ≡ cells_under_all tab k at i + cells_under tab k (at + 2 * i)
under_snoc tab k at zero = let z : at ≡ at + 2 * 0 = omega arith in omega (arith, ap (cells_under tab k) z)
under_snoc tab k at (suc i) =
    let e : suc i + 1 ≡ suc (i + 1) = omega arith in
    let z : at + 2 + 2 * i ≡ at + 2 * suc i = omega arith in
    ap (cells_under_all tab k at) e ∙ omega (arith, under_snoc tab k (at + 2) i, ap (cells_under tab k) z)

under_front : (tab : List ℕ) (k at i n : ℕ) → i ≤ n → cells_under_all tab k at i ≤ cells_under_all tab k at n
under_front tab k at i zero h = let z : i ≡ 0 = omega arith in omega (arith, ap (cells_under_all tab k at) z)
under_front tab k at i (suc n) h =
    by_cases (dec_le i n)
    (λ l. let e : suc n ≡ n + 1 = omega arith in omega (arith, under_front tab k at i n l, ap (cells_under_all tab k at) e, under_snoc tab k at n))
    (λ g. let e : i ≡ suc n = omega arith in omega (arith, ap (cells_under_all tab k at) e))

length_from : (c m : ℕ) → length (from c m) ≡ m
length_from c zero = refl
length_from c (suc m) = ap suc (length_from (suc c) m)

-- the first i names were stored
pub AssignedTo : List ℕ → List ℕ → ℕ → ℕ → ℕ → ℕ → List ℕ → List ℕ → List ℕ → Type 0
AssignedTo tab rows k at n i from' old new =
    (node : Node) (xs cs : List ℕ) → Typed tab rows k node → n ≡ length xs → Slots tab at n node xs cs
    → (cells_in node new ≡ assign node (take i xs) (values_of (cells_under_all tab k at i) from') (cells_in node old)) × (length (slots_of node (take i xs)) ≡ cells_under_all tab k at i)

module _ (tab rows : List ℕ) (k at n : ℕ) (from' old : List ℕ) where
  pub assigned_none : AssignedTo tab rows k at n 0 from' old old
  unfolding AssignedTo
  assigned_none node xs cs t l s = (sym (put_none node [] (cells_in node old)), refl)

  pub assigned_turn : (i c : ℕ) (mid new from₂ : List ℕ) → Assignable tab rows k at n from' old → i < n → c ≡ cells_under_all tab k at i → AssignedTo tab rows k at n i from' old mid → from₂ ≡ drop (9 * c) from'
      → Stores tab rows k (at + 2 * i) (values_of (cells_under tab k (at + 2 * i)) from₂) mid new → AssignedTo tab rows k at n (i + 1) from' old new
  unfolding AssignedTo
  assigned_turn i c mid new from₂ a l ec h ef st node xs cs t len s =
      let y = get_or xs i 0 in
      let w = h node xs cs t len s in
      let m = cells_under tab k (at + 2 * i) in
      let N = cell_names (variables node) in
      let p : suc i ≡ i + 1 = omega arith in
      let v = (a.each i l).variable in
      let b : slot_at tab (at + 2 * i) < length (variables node) = omega (arith, v, t.count) in
      let pos = positions_told t y (slot_at tab (at + 2 * i)) (slot_variable t (at + 2 * i) y cs (s i l) v) b in
      let count : length (positions y N) ≡ m = ap length pos ∙ length_from (widths_at tab k 0 (slot_at tab (at + 2 * i))) m in
      let names : take (i + 1) xs ≡ take i xs ++ y ∷ [] = ap (λ j. take j xs) (sym p) ∙ take-suc xs i 0 (omega (arith, len)) in
      let slots : slots_of node (take (i + 1) xs) ≡ slots_of node (take i xs) ++ positions y N = ap (slots_of node) names ∙ slots_snoc node (take i xs) y in
      let taken : values_of (cells_under_all tab k at (i + 1)) from' ≡ values_of c from' ++ values_of m from₂ =
      ap (λ j. values_of j from') (under_snoc tab k at i ∙ ap (λ j. j + m) (sym ec)) ∙ values_append c m from' ∙ ap (λ l. values_of c from' ++ values_of m l) (sym ef) in
      let at_c : values_of c from' ≡ values_of (cells_under_all tab k at i) from' = ap (λ j. values_of j from') ec in (
        st node y cs t (s i l) ∙ ap (put_all node (positions y N) (values_of m from₂)) (w.0 ∙ ap (λ vs. put_all node (slots_of node (take i xs)) vs (cells_in node old)) (sym at_c))
            ∙ sym (put_append node (slots_of node (take i xs)) (positions y N) (values_of c from') (values_of m from₂) (cells_in node old) (length_values c from' ∙ ec ∙ sym w.1))
            ∙ (λ j. put_all node (sym slots j) (sym taken j) (cells_in node old)),
        ap length slots ∙ length-append (slots_of node (take i xs)) (positions y N) ∙ omega (arith, w.1, count, under_snoc tab k at i),
      )

  pub assigned_all : (new : List ℕ) → AssignedTo tab rows k at n n from' old new → Assigns tab rows k at n from' old new
  unfolding AssignedTo
  assigned_all new h node xs cs t len s =
      (h node xs cs t len s).0 ∙ ap (λ l. assign node l (values_of (cells_under_all tab k at n) from') (cells_in node old)) (take_all n xs (omega (arith, len)))

pub assign_room : {tab rows : List ℕ} {k at n : ℕ} {from' cells : List ℕ} (i c : ℕ) → Assignable tab rows k at n from' cells → i < n → c ≡ cells_under_all tab k at i → 9 * (c + cells_under tab k (at + 2 * i)) ≤ length from'
assign_room {tab} {rows} {k} {at} {n} i c a l e = omega (arith, a.given, e, under_snoc tab k at i, under_front tab k at (i + 1) n (omega arith))

pub assign_storable : {tab rows : List ℕ} {k at n : ℕ} {from' cells : List ℕ} (i : ℕ) (now : List ℕ) → Assignable tab rows k at n from' cells → i < n → length now ≡ length cells → Storable tab rows k (at + 2 * i) now
assign_storable i now a l e =
    let s = a.each i l in
    record { inside = s.inside; node = s.node; few = s.few; variable = s.variable; counted = s.counted; room = omega (arith, s.room, e) }

-- ---- parts

-- a value put in the first cell
pub part_put : (tab : List ℕ) (callee : Callee ℕ) (i : ℕ) (o : Outcome) (v u : Value) (old new : List ℕ) → o ≡ Out.Value v → PassedOn tab callee i v u → value_of (cell u) ≡ u → 9 ≤ length old → new ≡ cell u ++ drop 9 old → Puts tab callee i o old new
part_put tab callee i o v u old new ev f b room w =
    record {
      long = ap length w ∙ length-append (cell u) (drop 9 old) ∙ omega (arith, cell_length u, length-drop 9 old);
      behind = ap (drop 9) w ∙ drop_at (cell u) (drop 9 old) 9 (cell_length u);
      value = λ v' e' e. ap (λ (s : List ℕ). value_of (take 9 s)) w ∙ ap value_of (take_at (cell u) (drop 9 old) 9 (cell_length u)) ∙ b ∙ f e ∙ ap (passed_with tab callee i e) (same (sym ev ∙ e'));
    }
  where
    same : {a b : Value} → Out.Value a ≡ Out.Value b → a ≡ b
    same e = cc

pub part_none : (tab : List ℕ) (callee : Callee ℕ) (i : ℕ) (o : Outcome) (old : List ℕ) → ((v : Value) → ¬ (o ≡ Out.Value v)) → Puts tab callee i o old old
part_none tab callee i o old h = record { long = refl; behind = refl; value = λ v e _. absurd (h v e) }

-- cells fitted one after the other
pub fitted_none : (code : ℕ) (old : List ℕ) → Fitted code 0 old old
fitted_none code old = record { long = refl; behind = refl; values = λ e. refl }

pub fitted_turn : {code i : ℕ} {old mid : List ℕ} (new : List ℕ) (v u : Value) → Fitted code i old mid → 9 * i + 9 ≤ length old → v ≡ value_of (take 9 (drop (9 * i) mid)) → ((e : ℕ) → u ≡ fit (ty_of code e) v) → value_of (cell u) ≡ u
    → new ≡ take (9 * i) mid ++ (cell u ++ drop (9 * i + 9) mid) → Fitted code (i + 1) old new
fitted_turn {code} {i} {old} {mid} new v u h room iv f b w =
    let A = take (9 * i) mid in
    let C = drop (9 * i + 9) mid in
    let p : suc i ≡ i + 1 = omega arith in
    let k : 9 * i + 9 ≡ 9 * (i + 1) = omega arith in
    let la : length A ≡ 9 * i = length-take-le (9 * i) mid (omega (arith, h.long)) in
    let d : drop (9 * i) new ≡ cell u ++ C = ap (drop (9 * i)) w ∙ drop_at A (cell u ++ C) (9 * i) la in
    record {
      long = ap length w ∙ length-append A (cell u ++ C) ∙ omega (arith, la, length-append (cell u) C, cell_length u, length-drop (9 * i + 9) mid, h.long);
      behind = ap (λ n. drop n new) (sym k) ∙ sym (drop-drop 9 (9 * i) new) ∙ ap (drop 9) d ∙ drop_at (cell u) C 9 (cell_length u) ∙ sym (drop-drop 9 (9 * i) mid) ∙ ap (drop 9) h.behind ∙ drop-drop 9 (9 * i) old ∙ ap (λ n. drop n old) k;
      values = λ e. ap (values_of (i + 1)) w ∙ values_next i mid u (omega (arith, h.long)) b
          ∙ (λ j. h.values e j ++ (f e ∙ ap (fit (ty_of code e)) (iv ∙ ap (λ l. value_of (take 9 l)) h.behind)) j ∷ [])
          ∙ sym (map_snoc (fit (ty_of code e)) (values_of i old) (value_of (take 9 (drop (9 * i) old)))) ∙ ap (map (fit (ty_of code e))) (sym (values_snoc i old) ∙ ap (λ q. values_of q old) p);
    }

-- or not at all
pub fits_all : (tab : List ℕ) (k i m : ℕ) {old new : List ℕ} → Fitted (code_at tab k i) m old new → FitsPart tab (Some k) i m old new
fits_all tab k i m h = record { long = h.long; behind = h.behind; values = h.values }

pub fits_none : (tab : List ℕ) (i m : ℕ) (old : List ℕ) → FitsPart tab None i m old old
fits_none tab i m old = record { long = refl; behind = refl; values = λ e. sym (map_same (values_of m old)) }
  where
    map_same : (vs : List Value) → map (λ v. v) vs ≡ vs
    map_same [] = refl
    map_same (v ∷ vs) = ap (λ l. v ∷ l) (map_same vs)

-- ---- the value of a call

-- it has one output
pub one_output : (os : Outcomes) (end : Ending) (v : Value) (cells : List ℕ) → end ≡ End.Values → v ≡ value_of (take 9 cells) → Leaves os end 1 cells → Out.Value v ≡ single os
one_output (values vs) end v cells e w h = ap Out.Value w ∙ ap (λ (us : List Value). single (values us)) h.1
one_output (failure c) end v cells e w h = failed_values h e
one_output overflow end v cells e w h = over_values h e

pub other_outputs : (os : Outcomes) (end : Ending) (n : ℕ) (cells : List ℕ) → end ≡ End.Values → ¬ (n ≡ 1) → Leaves os end n cells → Out.Failure Why.Other ≡ single os
other_outputs (values []) end n cells e w h = refl
other_outputs (values (v ∷ [])) end n cells e w h = absurd (w (sym (length_values n cells) ∙ ap length h.1))
other_outputs (values (v ∷ u ∷ vs)) end n cells e w h = refl
other_outputs (failure c) end n cells e w h = failed_values h e
other_outputs overflow end n cells e w h = over_values h e

pub failed_call : (os : Outcomes) (end : Ending) (c : Cause) (n : ℕ) (cells : List ℕ) → end ≡ End.Failed c → Leaves os end n cells → Out.Failure c ≡ single os
failed_call (values vs) end c n cells e h = failed_values e h.0
failed_call (failure d) end c n cells e h = ap Out.Failure (one_cause e h)
failed_call overflow end c n cells e h = over_failed h e

pub overflowed_call : (os : Outcomes) (end : Ending) (n : ℕ) (cells : List ℕ) → end ≡ End.Overflowed → Leaves os end n cells → Out.Overflow ≡ single os
overflowed_call (values vs) end n cells e h = over_values e h.0
overflowed_call (failure c) end n cells e h = over_failed e h
overflowed_call overflow end n cells e h = refl
