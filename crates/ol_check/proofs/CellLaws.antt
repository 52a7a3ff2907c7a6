-- How many cells variables and constants have, by their types in two bytes.
use Prim.Native.Nat.{ℕ, zero, suc, ◌+◌, ◌*◌, ◌-◌, ◌≤◌, ◌<◌}
use mathlib.Core.Bool.{Bool, true, false, cond}
use mathlib.Core.List.{List, [], ◌∷◌, ◌++◌, map, append_assoc}
use mathlib.Core.Logic.{by_cases}
use mathlib.Core.Path.{◌≡◌, refl, sym, ap, subst, ◌∙◌}
use native.Mathlib.Omega.{arith}
use native.Mathlib.Decide.{dec_lt}
use native.Mathlib.Numerals.{add-one}
use lib.ListN.{length, get_or, take, drop, length-append, length-replicate, get_or-append, drop_of_length-le}
use lib.Seq.{get_or-append-add, get_or-take, length-take-le, take_at, take-length, drop-cons}
use lib.Dec.{T, eqb}
use borrow.Author.Tests.{ne_eqb}
use Rattle.ol_spec.specs.Lists.{concat, all_of}
use Rattle.ol_spec.specs.Syntax.{Ty, bool, int, float32, float64, char, enum, VarTy, scalar, array, Variable, Constant, Node, File, variables, type_cells, variable_cells, cell_types, constant_cells, nil, cons}
use Rattle.ol_spec.specs.Places.{ty_size, constant_size}
use Rattle.ol_spec.specs.Encode.{constant_bytes}
use Rattle.ol_spec.specs.Limits.{base}
use Rattle.ol_spec.specs.Within.{name_fits, ty_fits, var_ty_fits, variable_fits, constant_fits}
use Rattle.ol_spec.specs.Step.{cell_count, input_count, output_count}
use Rattle.ol_spec.proofs.CellLengths.{types_append, cells_length}
use Rattle.ol_spec.proofs.Tests.{T_and}
use Rattle.ol_spec.proofs.RoundTrip.Parts.{here_inside}
use Rattle.ol_spec.proofs.RoundTrip.Items.{constant_size_lem}
use Rattle.ol_tables.specs.Heads.{ty_size_at, ty_length_at, VarTyIs}
use Rattle.ol_tables.specs.Stands.{Listed, NodeStands, FileStands}
use Rattle.ol_tables.specs.Tables.{array_length, first_cell, first_constant_cell, row_at, node_of, place_of}
use Rattle.ol_tables.specs.Walks.{skip_at}
use Rattle.ol_tables.proofs.HeadsFile.{Passing, passing_start, passing_item, constant_stands, node_at_lem}
use Rattle.ol_tables.proofs.Skipping.{skip_stands}
use Rattle.ol_spec.specs.Places.{placed_nodes}
use Rattle.ol_check.specs.RowsDone.{cells_for, cells_from, counts_put, node_counted, counted_from, SmallRows, no_variable, no_constant, NodeRow, NodeTypes, Typed, CountedBy, CellsCounted, AllCounted}
use Rattle.ol_check.proofs.RowLoops.{array_some, array_few, type_same, counts_other, counts_length, counts_told, counts_stay, types_stay, few_variables}
use Rattle.ol_check.specs.Spans.{behind_variable}
use Rattle.ol_check.specs.Arrays.{is_array, declares_arrays}
use Rattle.ol_check.proofs.ArrayLaws.{variable_scalar, constant_scalar}

-- ---- one type

-- a type's cells are those that its array's length tells
abbrev pub CellsTold : VarTy → Type 0
CellsTold t = cells_for (array_length t) ≡ length (type_cells t)

pub cells_of_ty : (enums : ℕ) (t : VarTy) → T (var_ty_fits base enums t) → CellsTold t
cells_of_ty enums (scalar t) f = refl
cells_of_ty enums (array n t) f = rw (ne_eqb n 0 (λ q. omega (arith, array_some enums n t f))) (sym (length-replicate n t))

pub cells_some : (enums : ℕ) (t : VarTy) → T (var_ty_fits base enums t) → 1 ≤ length (type_cells t)
cells_some enums (scalar t) f = omega arith
cells_some enums (array n t) f = omega (arith, array_some enums n t f, length-replicate n t)

pub cells_few : (enums : ℕ) (t : VarTy) → T (var_ty_fits base enums t) → length (type_cells t) ≤ 32
cells_few enums (scalar t) f = omega arith
cells_few enums (array n t) f = omega (arith, array_few enums n t f, length-replicate n t)

-- whether a type is an array's, by its first byte
scalar_small : (enums : ℕ) (t : Ty) → T (ty_fits enums t) → ty_size t ≤ 2
scalar_small enums bool f = omega arith
scalar_small enums (int c) f = omega arith
scalar_small enums float32 f = omega arith
scalar_small enums float64 f = omega arith
scalar_small enums char f = omega arith
scalar_small enums (enum e) f = omega arith

pub array_told : {s : List ℕ} {at : ℕ} (enums : ℕ) (t : VarTy) → T (var_ty_fits base enums t) → VarTyIs s at t → eqb (get_or s at 0) 13 ≡ is_array t
array_told {s} {at} enums (scalar t) f h = go (eqb (get_or s at 0) 13) refl
  where
    some_bytes : (b : Bool) → 1 ≤ cond b 2 1
    some_bytes true = omega arith
    some_bytes false = omega arith

    go : (b : Bool) → eqb (get_or s at 0) 13 ≡ b → b ≡ false
    go false e = refl
    go true e =
        let three : 3 ≤ ty_size_at s at = rw e (omega (arith, some_bytes (eqb (get_or s (at + 2) 0) 12))) in
        absurd (omega (arith, h.size, three, scalar_small enums t f))
array_told {s} {at} enums (array n t) f h = go (eqb (get_or s at 0) 13) refl
  where
    go : (b : Bool) → eqb (get_or s at 0) 13 ≡ b → b ≡ true
    go true e = refl
    go false e =
        let none : ty_length_at s at ≡ 0 = rw e refl in
        absurd (omega (arith, array_some enums n t f, h.length, none))

-- ---- so many types, one behind the other

pub cells_on_lem : (types : List ℕ) (p i j : ℕ) → j < i → cells_from types (p + 2 * j) (i - j) ≡ cells_for (get_or types (p + 2 * j + 1) 0) + cells_from types (p + 2 * (j + 1)) (i - (j + 1))
unfolding cells_from
cells_on_lem types p i j lt =
    let less : i - j ≡ suc (i - (j + 1)) = omega arith in
    let place : p + 2 * j + 2 ≡ p + 2 * (j + 1) = omega arith in
    ap (cells_from types (p + 2 * j)) less ∙ ap (λ q. cells_for (get_or types (p + 2 * j + 1) 0) + cells_from types q (i - (j + 1))) place

pub cells_none : (types : List ℕ) (p i j : ℕ) → i ≤ j → cells_from types p (i - j) ≡ 0
unfolding cells_from
cells_none types p i j le = let none_left : i - j ≡ 0 = omega arith in ap (cells_from types p) none_left

-- those from number j on are left
pub record CellsGoing (types : List ℕ) (p i cells j : ℕ) : Type 0 where
  pub small : cells ≤ 256 * j
  pub few : j ≤ i
  pub left : cells + cells_from types (p + 2 * j) (i - j) ≡ cells_from types p i

pub cells_start : {types : List ℕ} {p i : ℕ} → CellsGoing types p i 0 0
cells_start {types} {p} {i} =
    let a : p + 2 * 0 ≡ p = omega arith in
    let b : i - 0 ≡ i = omega arith in
    record { small = omega arith; few = omega arith; left = rw (a, b) (omega arith) }

cells_cap : (n : ℕ) → n < 256 → cells_for n ≤ 256
cells_cap n lt = go (eqb n 0)
  where
    go : (b : Bool) → cond b 1 n ≤ 256
    go true = omega arith
    go false = omega arith

pub cells_turn : {types : List ℕ} {p i cells j n c : ℕ} → CellsGoing types p i cells j → j < i → n ≡ get_or types (p + 2 * j + 1) 0 → n < 256 → c ≡ cells_for n → CellsGoing types p i (cells + c) (j + 1)
cells_turn {types} {p} {i} {cells} {j} {n} {c} g lt en low ec =
    record {
      small = omega (arith, g.small, ec, cells_cap n low);
      few = omega arith;
      left = omega (arith, g.left, cells_on_lem types p i j lt, ec ∙ ap cells_for en);
    }

pub cells_done : {types : List ℕ} {p i cells j : ℕ} → CellsGoing types p i cells j → i ≤ j → cells ≡ cells_from types p i
cells_done {types} {p} {i} {cells} {j} g over = omega (arith, g.left, cells_none types (p + 2 * j) i j over)

pub cells_least : (n c : ℕ) → n < 256 → c ≡ cells_for n → c ≤ 256
cells_least n c lt e = omega (arith, e, cells_cap n lt)

-- the bytes decide
pub cells_same : (types types' : List ℕ) (p n : ℕ) → ((x : ℕ) → p ≤ x → x < p + 2 * n → get_or types' x 0 ≡ get_or types x 0) → cells_from types' p n ≡ cells_from types p n
unfolding cells_from
cells_same types types' p zero same = refl
cells_same types types' p (suc n) same =
    ap (λ m. cells_for m + cells_from types' (p + 2) n) (same (p + 1) (omega arith) (omega arith)) ∙ ap (λ m. cells_for (get_or types (p + 1) 0) + m) (cells_same types types' (p + 2) n (λ x a b. same x (omega arith) (omega arith)))

-- ---- variables

pub record LengthsTold (types : List ℕ) (p : ℕ) (vs : List Variable) : Type 0 where
  pub each : (i : ℕ) → i < length vs → get_or types (p + 2 * i + 1) 0 ≡ array_length (get_or vs i no_variable).ty
  pub cells : (i : ℕ) → i < length vs → CellsTold (get_or vs i no_variable).ty

pub cells_told : (types : List ℕ) (p : ℕ) (vs : List Variable) → LengthsTold types p vs → (n : ℕ) → n ≤ length vs → cells_from types p n ≡ length (cell_types (take n vs))
unfolding cells_from
cells_told types p vs h zero le = refl
cells_told types p [] h (suc n) le = absurd (omega arith)
cells_told types p (v ∷ vs) h (suc n) le =
    let first : get_or types (p + 1) 0 ≡ array_length v.ty = ap (λ q. get_or types q 0) (omega arith) ∙ h.each 0 (omega arith) in
    let rest : LengthsTold types (p + 2) vs =
    record { each = λ i lt. ap (λ q. get_or types q 0) (omega arith) ∙ h.each (suc i) (omega arith); cells = λ i lt. h.cells (suc i) (omega arith) } in
    ap (λ m. cells_for m + cells_from types (p + 2) n) first ∙ ap (λ m. m + cells_from types (p + 2) n) (h.cells 0 (omega arith))
    ∙ ap (λ m. length (variable_cells v) + m) (cells_told types (p + 2) vs rest n (omega arith)) ∙ sym (length-append (variable_cells v) (cell_types (take n vs)))

each_told : (enums : ℕ) (vs : List Variable) → T (all_of (variable_fits base enums) vs) → (i : ℕ) → i < length vs → T (var_ty_fits base enums (get_or vs i no_variable).ty)
each_told enums [] f i lt = absurd (omega arith)
each_told enums (v ∷ vs) f zero lt = (T_and (name_fits v.name) _ (T_and (variable_fits base enums v) _ f).0).1
each_told enums (v ∷ vs) f (suc i) lt = each_told enums vs (T_and (variable_fits base enums v) _ f).1 i (omega arith)

each_append : (P : VarTy → Type 0) (vs ws : List Variable) → ((i : ℕ) → i < length vs → P (get_or vs i no_variable).ty) → ((i : ℕ) → i < length ws → P (get_or ws i no_variable).ty) → (i : ℕ) → i < length (vs ++ ws) → P (get_or (vs ++ ws) i no_variable).ty
each_append P vs ws a b i lt =
    by_cases (dec_lt i (length vs))
    (λ low. rw (get_or-append vs ws no_variable i low) (a i low))
    (λ high.
    let j = i - length vs in
    let e : length vs + j ≡ i = omega arith in
    subst (λ m. P (get_or (vs ++ ws) m no_variable).ty) e (rw (get_or-append-add vs ws j no_variable) (b j (omega (arith, length-append vs ws)))))

-- the types of a node's variables are within the limits
pub node_fits_lem : {s : List ℕ} {enums at : ℕ} (n : Node) → NodeStands s enums at n → (i : ℕ) → i < length (variables n) → T (var_ty_fits base enums (get_or (variables n) i no_variable).ty)
node_fits_lem {s} {enums} n st =
    each_append (λ t. T (var_ty_fits base enums t)) (n.inputs ++ n.outputs) n.locals
    (each_append (λ t. T (var_ty_fits base enums t)) n.inputs n.outputs (each_told enums n.inputs st.inputs.fit) (each_told enums n.outputs st.outputs.fit))
    (each_told enums n.locals st.locals.fit)

pub node_told : {s : List ℕ} {enums at : ℕ} (types : List ℕ) (p : ℕ) (n : Node) → NodeStands s enums at n → ((i : ℕ) → i < length (variables n) → get_or types (p + 2 * i + 1) 0 ≡ array_length (get_or (variables n) i no_variable).ty) → LengthsTold types p (variables n)
node_told {s} {enums} types p n st each = record { each = each; cells = λ i lt. cells_of_ty enums _ (node_fits_lem n st i lt) }

cells_append : (a b : List Variable) → length (cell_types (a ++ b)) ≡ length (cell_types a) + length (cell_types b)
cells_append a b = ap length (types_append a b) ∙ length-append (cell_types a) (cell_types b)

-- the three counts of a node
pub counts_are : (types : List ℕ) (p : ℕ) (n : Node) → LengthsTold types p (variables n)
    → (cells_from types p (length n.inputs) ≡ input_count n) × (cells_from types p (length n.inputs + length n.outputs) ≡ input_count n + output_count n) × (cells_from types p (length (variables n)) ≡ cell_count n)
counts_are types p n h =
    let io = n.inputs ++ n.outputs in
    let lio : length io ≡ length n.inputs + length n.outputs = length-append n.inputs n.outputs in
    let lall : length (variables n) ≡ length io + length n.locals = length-append io n.locals in
    let whole : cells_from types p (length io) ≡ length (cell_types io) = cells_told types p (variables n) h (length io) (omega arith) ∙ ap (λ l. length (cell_types l)) (take_at io n.locals (length io) refl) in
    let assoc : variables n ≡ n.inputs ++ (n.outputs ++ n.locals) = append_assoc n.inputs n.outputs n.locals in (
      cells_told types p (variables n) h (length n.inputs) (omega arith) ∙ ap (λ l. length (cell_types (take (length n.inputs) l))) assoc ∙ ap (λ l. length (cell_types l)) (take_at n.inputs (n.outputs ++ n.locals) (length n.inputs) refl),
      ap (cells_from types p) (sym lio) ∙ whole ∙ cells_append n.inputs n.outputs,
      cells_told types p (variables n) h (length (variables n)) (omega arith) ∙ ap (λ l. length (cell_types l)) (take-length (variables n)),
    )

-- ---- the constants

pub record ConstantCells (s : List ℕ) (enums : ℕ) (cs : List Constant) (at cells i next : ℕ) : Type 0 where
  pub passing : Passing constant_bytes (constant_fits base enums) constant_size s at cs i next
  pub small : cells ≤ 256 * i
  pub left : cells + length (concat (map constant_cells (drop i cs))) ≡ length (concat (map constant_cells cs))

module _ {s : List ℕ} {enums : ℕ} {cs : List Constant} {at : ℕ} where
  pub constants_start_lem : Listed constant_bytes (constant_fits base enums) s at cs → ConstantCells s enums cs at 0 0 at
  constants_start_lem st = record { passing = passing_start constant_bytes (constant_fits base enums) constant_size st; small = omega arith; left = omega arith }

  module _ {cells i next : ℕ} (w : ConstantCells s enums cs at cells i next) where
    pub constants_in_lem : i < length cs → next < length s
    constants_in_lem lt =
        let it = passing_item constant_size_lem no_constant w.passing lt in
        let c = get_or cs i no_constant in
        omega (arith, here_inside it.here (omega (arith, constant_size_lem c)), constant_size_lem c)

    pub constants_turn : i < length cs → {m c n next' : ℕ} → m ≡ ty_length_at s (next + 2) → c ≡ cells_for m → n ≡ behind_variable s next → next' ≡ skip_at s 1 n → ConstantCells s enums cs at (cells + c) (i + 1) next'
    constants_turn lt {m} {c} {n} {next'} em ec en er =
        let it = passing_item constant_size_lem no_constant w.passing lt in
        let k = get_or cs i no_constant in
        let st = constant_stands k it.fit it.here in
        let fits : T (var_ty_fits base enums k.ty) = (T_and (var_ty_fits base enums k.ty) _ (T_and (name_fits k.name) _ it.fit).1).0 in
        let behind : next' ≡ next + constant_size k =
        er ∙ ap (skip_at s 1) (en ∙ ap (λ x. next + 2 + x) st.ty.size) ∙ skip_stands {es = cons k.value nil} refl st.value ∙ omega arith in
        let mine : c ≡ length (constant_cells k) = ec ∙ ap cells_for (em ∙ st.ty.length) ∙ cells_of_ty enums k.ty fits in
        let on : drop i cs ≡ k ∷ drop (i + 1) cs = drop-cons cs i no_constant lt ∙ ap (λ x. k ∷ drop x cs) (sym (add-one i)) in
        record {
          passing = subst (Passing constant_bytes (constant_fits base enums) constant_size s at cs (i + 1)) (sym behind) it.on;
          small = omega (arith, w.small, mine, cells_few enums k.ty fits);
          left = omega (arith, mine, w.left, ap (λ l. length (concat (map constant_cells l))) on, length-append (constant_cells k) (concat (map constant_cells (drop (i + 1) cs))));
        }

    pub constants_done : length cs ≤ i → cells ≡ length (concat (map constant_cells cs))
    constants_done over = omega (arith, w.left, ap (λ l. length (concat (map constant_cells l))) (drop_of_length-le cs over))

-- the types of the constants are within the limits
fits_each : (enums : ℕ) (cs : List Constant) → T (all_of (constant_fits base enums) cs) → (i : ℕ) → i < length cs → T (var_ty_fits base enums (get_or cs i no_constant).ty)
fits_each enums [] f i lt = absurd (omega arith)
fits_each enums (c ∷ cs) f zero lt = (T_and (var_ty_fits base enums c.ty) _ (T_and (name_fits c.name) _ (T_and (constant_fits base enums c) _ f).0).1).0
fits_each enums (c ∷ cs) f (suc i) lt = fits_each enums cs (T_and (constant_fits base enums c) _ f).1 i (omega arith)

pub constant_fits_lem : {s : List ℕ} {f : File} → FileStands s f → (i : ℕ) → i < length f.constants → T (var_ty_fits base (length f.enums) (get_or f.constants i no_constant).ty)
constant_fits_lem {s} {f} st i lt = fits_each (length f.enums) f.constants st.constants.fit i lt

-- so many constants have the cells that their lengths tell
pub constant_cells_told : (types : List ℕ) (p : ℕ) (cs : List Constant) (n : ℕ) → n ≤ length cs → ((i : ℕ) → i < n → (get_or types (p + 2 * i + 1) 0 ≡ array_length (get_or cs i no_constant).ty) × (CellsTold (get_or cs i no_constant).ty))
    → cells_from types p n ≡ length (concat (map constant_cells (take n cs)))
unfolding cells_from
constant_cells_told types p cs zero le h = refl
constant_cells_told types p [] (suc n) le h = absurd (omega arith)
constant_cells_told types p (c ∷ cs) (suc n) le h =
    let one = h 0 (omega arith) in
    let first : get_or types (p + 1) 0 ≡ array_length c.ty = ap (λ q. get_or types q 0) (omega arith) ∙ one.0 in
    ap (λ m. cells_for m + cells_from types (p + 2) n) first ∙ ap (λ m. m + cells_from types (p + 2) n) one.1
    ∙ ap (λ m. length (constant_cells c) + m) (constant_cells_told types (p + 2) cs n (omega arith) (λ i lt. let w = h (suc i) (omega arith) in (ap (λ q. get_or types q 0) (omega arith) ∙ w.0, w.1))) ∙ sym (length-append (constant_cells c) (concat (map constant_cells (take n cs))))

-- ---- the nodes' counts

pub record CountGoing (rows : List ℕ) (plans count : ℕ) (tab₀ tab : List ℕ) (k : ℕ) : Type 0 where
  pub long : length tab ≡ length tab₀
  pub left : counted_from rows plans k (count - k) tab ≡ counted_from rows plans 0 count tab₀

module _ {rows : List ℕ} {plans count : ℕ} {tab₀ : List ℕ} where
  pub count_start : CountGoing rows plans count tab₀ tab₀ 0
  count_start = let z : count - 0 ≡ count = omega arith in record { long = refl; left = rw z refl }

  module _ {tab : List ℕ} {k : ℕ} (g : CountGoing rows plans count tab₀ tab k) where
    pub count_turn : k < count → {at i o v a b c : ℕ} {tab' : List ℕ} → at ≡ row_at rows k 7 → i ≡ row_at rows k 2 → o ≡ row_at rows k 3 → a ≡ cells_from tab (plans + at) i → b ≡ cells_from tab (plans + at) (i + o) → v ≡ row_at rows k 4
        → c ≡ cells_from tab (plans + at) v → tab' ≡ counts_put tab (8 * k) at a b c → CountGoing rows plans count tab₀ tab' (k + 1)
    unfolding counted_from
    count_turn lt {at} {i} {o} {v} {a} {b} {c} {tab'} eat ei eo ea eb ev ec et =
        let less : count - k ≡ suc (count - (k + 1)) = omega arith in
        let put : tab' ≡ node_counted rows plans k tab = et ∙ rw (ea, eb, ec, ev, eo, ei, eat) refl in
        record {
          long = ap length et ∙ counts_length tab (8 * k) at a b c ∙ g.long;
          left = ap (counted_from rows plans (k + 1) (count - (k + 1))) put ∙ ap (λ n. counted_from rows plans k n tab) (sym less) ∙ g.left;
        }

    pub count_done : count ≤ k → tab ≡ counted_from rows plans 0 count tab₀
    unfolding counted_from
    count_done over = let none_left : count - k ≡ 0 = omega arith in ap (λ n. counted_from rows plans k n tab) (sym none_left) ∙ g.left

-- so many variables have at most 32 cells each
cells_most : (vs : List Variable) → ((i : ℕ) → i < length vs → length (type_cells (get_or vs i no_variable).ty) ≤ 32) → length (cell_types vs) ≤ 32 * length vs
cells_most [] h = omega arith
cells_most (v ∷ vs) h = omega (arith, h 0 (omega arith), cells_most vs (λ i lt. h (suc i) (omega arith)), length-append (variable_cells v) (cell_types vs))

pub cells_limit : {s : List ℕ} {enums at : ℕ} {n : Node} → NodeStands s enums at n → cell_count n ≤ 3584
cells_limit {s} {enums} {at} {n} st = omega (arith, cells_most (variables n) (λ i lt. cells_few enums _ (node_fits_lem n st i lt)), few_variables st)

-- the first cells are among all
pub first_least : (vs : List Variable) (i : ℕ) → first_cell vs i ≤ length (cell_types vs)
first_least vs zero = omega arith
first_least [] (suc i) = omega arith
first_least (v ∷ vs) (suc i) = omega (arith, first_least vs i, length-append (variable_cells v) (cell_types (take i vs)), length-append (variable_cells v) (cell_types vs))

constants_most : (cs : List Constant) (i : ℕ) → ((j : ℕ) → j < length cs → length (constant_cells (get_or cs j no_constant)) ≤ 32) → first_constant_cell cs i ≤ 32 * length cs
constants_most cs zero h = omega arith
constants_most [] (suc i) h = omega arith
constants_most (c ∷ cs) (suc i) h = omega (arith, h 0 (omega arith), constants_most cs i (λ j lt. h (suc j) (omega arith)), length-append (constant_cells c) (concat (map constant_cells (take i cs))))

pub constants_limit : {s : List ℕ} {f : File} → FileStands s f → (i : ℕ) → first_constant_cell f.constants i ≤ 2048
constants_limit {s} {f} st i = omega (arith, constants_most f.constants i (λ j lt. cells_few (length f.enums) _ (constant_fits_lem st j lt)), st.few_constants)

-- the counts of a file's nodes are those of their cells
module _ {s : List ℕ} {f : File} (st : FileStands s f) {rows : List ℕ} (row : (k : ℕ) → k < length f.nodes → NodeRow (node_of f k) (place_of (placed_nodes f) k) k rows) {plans : ℕ} (front : 256 ≤ plans) where
  record CountsTo (tab₀ tab : List ℕ) (k : ℕ) : Type 0 where
    long : length tab ≡ length tab₀
    kept : (x : ℕ) → 256 ≤ x → get_or tab x 0 ≡ get_or tab₀ x 0
    typed : Typed f plans tab
    done : (j : ℕ) → j < k → CellsCounted (node_of f j) j tab

  counts_step : (tab₀ tab : List ℕ) (k : ℕ) → k < length f.nodes → 256 ≤ length tab₀ → CountsTo tab₀ tab k → CountsTo tab₀ (node_counted rows plans k tab) (k + 1)
  counts_step tab₀ tab k lt room g =
      let n = node_of f k in
      let r = row k lt in
      let ns = node_at_lem st k lt in
      let at = place_of (placed_nodes f) k in
      let told : LengthsTold tab (plans + at) (variables n) = node_told tab (plans + at) n ns (λ i low. ((g.typed k lt).are i low).length) in
      let are = counts_are tab (plans + at) n told in
      let ea : cells_from tab (plans + row_at rows k 7) (row_at rows k 2) ≡ input_count n = rw (r.place, r.inputs) are.0 in
      let eb : cells_from tab (plans + row_at rows k 7) (row_at rows k 2 + row_at rows k 3) ≡ input_count n + output_count n = rw (r.place, r.inputs, r.outputs) are.1 in
      let ec : cells_from tab (plans + row_at rows k 7) (row_at rows k 4) ≡ cell_count n = rw (r.place, r.variables) are.2 in
      let put : node_counted rows plans k tab ≡ counts_put tab (8 * k) at (input_count n) (input_count n + output_count n) (cell_count n) = rw (ea, eb, ec, r.place) refl in
      let many = cells_limit ns in
      let few : k < 32 = omega (arith, st.few_nodes) in
      let w = counts_told tab (8 * k) at (input_count n) (input_count n + output_count n) (cell_count n) (omega (arith, g.long)) (omega (arith, ns.inside, st.short)) (omega (arith, many, cells_length n)) (omega (arith, many, cells_length n)) (omega (arith, many)) in
      let tab' = counts_put tab (8 * k) at (input_count n) (input_count n + output_count n) (cell_count n) in
      let other : (x : ℕ) → (8 * k ≤ x → x < 8 * k + 8 → ⊥) → get_or tab' x 0 ≡ get_or tab x 0 = λ x out. counts_other tab (8 * k) at (input_count n) (input_count n + output_count n) (cell_count n) x out in
      subst (λ t. CountsTo tab₀ t (k + 1)) (sym put)
      (record {
        long = counts_length tab (8 * k) at (input_count n) (input_count n + output_count n) (cell_count n) ∙ g.long;
        kept = λ x h. other x (λ a b. omega arith) ∙ g.kept x h;
        typed = λ j h. by_cases (dec_lt j k)
            (λ old. types_stay (plans + place_of (placed_nodes f) j + 2 * length (variables (node_of f j))) (omega arith) (λ i a b. other i (λ u v. omega arith)) (other (8 * j) (λ u v. omega arith)) (other (8 * j + 1) (λ u v. omega arith)) (g.typed j h))
            (λ later. by_cases (dec_lt k j)
            (λ old. types_stay (plans + place_of (placed_nodes f) j + 2 * length (variables (node_of f j))) (omega arith) (λ i a b. other i (λ u v. omega arith)) (other (8 * j) (λ u v. omega arith)) (other (8 * j + 1) (λ u v. omega arith)) (g.typed j h))
            (λ here. let e : k ≡ j = omega arith in
            subst (λ m. NodeTypes (node_of f m) (place_of (placed_nodes f) m) m plans tab') e
            (record { place = w.0; are = λ i low. type_same (plans + at + 2 * i) (other _ (λ u v. omega arith)) (other _ (λ u v. omega arith)) ((g.typed k lt).are i low) })));
        done = λ j h. by_cases (dec_lt j k)
            (λ old. counts_stay j (λ x a b. other x (λ u v. omega arith)) (g.done j old))
            (λ new. let e : k ≡ j = omega arith in subst (λ m. CellsCounted (node_of f m) m tab') e (record { first = w.1; second = w.2; third = w.3 }));
      })

  counts_through : (tab₀ : List ℕ) → 256 ≤ length tab₀ → (n k : ℕ) (tab : List ℕ) → k + n ≡ length f.nodes → CountsTo tab₀ tab k → CountsTo tab₀ (counted_from rows plans k n tab) (length f.nodes)
  unfolding counted_from
  counts_through tab₀ room zero k tab eq g = let e : k ≡ length f.nodes = omega arith in subst (CountsTo tab₀ tab) e g
  counts_through tab₀ room (suc n) k tab eq g = counts_through tab₀ room n (k + 1) (node_counted rows plans k tab) (omega arith) (counts_step tab₀ tab k (omega arith) room g)

  pub all_counted : (tab : List ℕ) → 256 ≤ length tab → Typed f plans tab → AllCounted f plans tab (counted_from rows plans 0 (length f.nodes) tab)
  all_counted tab room typed =
      let g = counts_through tab room (length f.nodes) 0 tab (omega arith) (record { long = refl; kept = λ x h. refl; typed = typed; done = λ j h. absurd (omega arith) }) in
      record { counted = g.done; typed = g.typed; kept = g.kept }

  -- what the code asks of the rows
  pub small_rows : SmallRows rows (length f.nodes)
  small_rows k lt =
      let r = row k lt in
      let ns = node_at_lem st k lt in
      (omega (arith, r.inputs, ns.few_inputs), omega (arith, r.outputs, ns.few_outputs), omega (arith, r.variables, few_variables ns), omega (arith, r.place, ns.inside, st.short))

-- ---- where no array is declared

-- each variable has one cell
cells_ones : (vs : List Variable) → ((i : ℕ) → i < length vs → (CellsTold (get_or vs i no_variable).ty) × (array_length (get_or vs i no_variable).ty ≡ 0)) → length (cell_types vs) ≡ length vs
cells_ones [] h = refl
cells_ones (v ∷ vs) h =
    let a = h 0 (omega arith) in
    let one : length (variable_cells v) ≡ 1 = sym a.0 ∙ ap cells_for a.1 in
    omega (arith, one, length-append (variable_cells v) (cell_types vs), cells_ones vs (λ i lt. h (suc i) (omega arith)))

module _ {s : List ℕ} {f : File} (st : FileStands s f) (none : declares_arrays f ≡ false) (k : ℕ) (lt : k < length f.nodes) where
  each_one : (i : ℕ) → i < length (variables (node_of f k)) → (CellsTold (get_or (variables (node_of f k)) i no_variable).ty) × (array_length (get_or (variables (node_of f k)) i no_variable).ty ≡ 0)
  each_one i low = (cells_of_ty (length f.enums) _ (node_fits_lem (node_of f k) (node_at_lem st k lt) i low), variable_scalar f none k lt i low)

  -- the first i variables have i cells
  pub cells_plain : (i : ℕ) → i ≤ length (variables (node_of f k)) → length (cell_types (take i (variables (node_of f k)))) ≡ i
  cells_plain i le =
      let vs = variables (node_of f k) in
      cells_ones (take i vs) (λ j h.
      let low : j < i = omega (arith, length-take-le i vs le) in
      let same : get_or (take i vs) j no_variable ≡ get_or vs j no_variable = get_or-take i vs j no_variable low in
      rw same (each_one j (omega arith))) ∙ length-take-le i vs le

  pub cell_count_lem : cell_count (node_of f k) ≡ length (variables (node_of f k))
  cell_count_lem = cells_ones (variables (node_of f k)) each_one

  -- the counts of variables are those of cells
  pub plain_counted : {tab : List ℕ} → CountedBy (node_of f k) k tab → CellsCounted (node_of f k) k tab
  plain_counted {tab} h =
      let n = node_of f k in
      let io = n.inputs ++ n.outputs in
      let li = length-append n.inputs n.outputs in
      let la = length-append io n.locals in
      let assoc : variables n ≡ n.inputs ++ (n.outputs ++ n.locals) = append_assoc n.inputs n.outputs n.locals in
      let ins : input_count n ≡ length n.inputs =
      ap (λ l. length (cell_types l)) (sym (take_at n.inputs (n.outputs ++ n.locals) (length n.inputs) refl)) ∙ ap (λ l. length (cell_types (take (length n.inputs) l))) (sym assoc) ∙ cells_plain (length n.inputs) (omega arith) in
      let both : length (cell_types io) ≡ length io = ap (λ l. length (cell_types l)) (sym (take_at io n.locals (length io) refl)) ∙ cells_plain (length io) (omega arith) in
      record { first = h.first ∙ sym ins; second = h.second ∙ omega (arith, both, li, cells_append n.inputs n.outputs); third = h.third ∙ sym cell_count_lem }

-- the first i constants have i cells
module _ {s : List ℕ} {f : File} (st : FileStands s f) (none : declares_arrays f ≡ false) where
  constant_ones : (cs : List Constant) → ((i : ℕ) → i < length cs → (CellsTold (get_or cs i no_constant).ty) × (array_length (get_or cs i no_constant).ty ≡ 0)) → (i : ℕ) → i ≤ length cs → length (concat (map constant_cells (take i cs))) ≡ i
  constant_ones cs h zero le = refl
  constant_ones [] h (suc i) le = absurd (omega arith)
  constant_ones (c ∷ cs) h (suc i) le =
      let a = h 0 (omega arith) in
      let one : length (constant_cells c) ≡ 1 = sym a.0 ∙ ap cells_for a.1 in
      omega (arith, one, length-append (constant_cells c) (concat (map constant_cells (take i cs))), constant_ones cs (λ j lt. h (suc j) (omega arith)) i (omega arith))

  pub constants_plain : (i : ℕ) → i ≤ length f.constants → length (concat (map constant_cells (take i f.constants))) ≡ i
  constants_plain i le = constant_ones f.constants (λ j lt. (cells_of_ty (length f.enums) _ (constant_fits_lem st j lt), constant_scalar f none j lt)) i le
