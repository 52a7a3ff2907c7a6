-- The cells of an array's name: where they stand, and that evaluation means them.
use Prim.Native.Nat.{ℕ, zero, suc, ◌+◌, ◌-◌, ◌*◌, ◌<◌, ◌≤◌}
use mathlib.Core.Bool.{Bool, true, false, cond}
use mathlib.Core.List.Memᴰ.{cases_cons as in-cons}
use mathlib.Core.List.Memᴰ.{head as here}
use mathlib.Core.List.Memᴰ.{not-nil as in-nil}
use mathlib.Core.List.Memᴰ.{tail as there}
use mathlib.Core.List.{List, [], ◌∷◌, map}
use mathlib.Core.Logic.{⊎_elim}
use mathlib.Core.Option.{Option, none, some}
use mathlib.Core.Path.{◌≡◌, refl, sym, ap, subst, ◌∙◌}
use native.Mathlib.Omega.{arith}
use native.Mathlib.Nat.{div-mul-le_self}
use lib.Dec.{T, eqb, eqb→eq}
use lib.ListN.{length, take, drop, get_or, get_elem?, length-drop, length-map}
use lib.Seq.{drop-drop}
use borrow.Author.Tests.{lt-ltb, le-ltb}
use Rattle.ol_theory.specs.Member.{◌∈◌, Distinct}
use Rattle.ol_spec.specs.Lists.{maybe, or_else, from, position_if, position, positions}
use Rattle.ol_spec.specs.Syntax.{Variable, Constant, scalar, bool, bool_lit, name_of, constant_name, variables, length_in}
use Rattle.ol_spec.specs.Shapes.{arrays_in, constant_arrays, length_for}
use Rattle.ol_spec.specs.Cell.{value_of, values_of}
use Rattle.ol_spec.specs.Eval.{values, no_value_of, picked, picked_some, cells_named, or_failures}
use Rattle.ol_spec.specs.Admission.{variants, constant_cell_names}
use Rattle.ol_spec.specs.declared.Value.{Value}
use Rattle.ol_spec.proofs.Tests.{T_true, eq_eqb, member_in}
use Rattle.ol_spec.proofs.Slots.{rest, no_length, in_slotted, positions_none, type_cells_lem}
use Rattle.ol_spec.proofs.RustNames.{constant_no_variant}
use Rattle.ol_tables.specs.At.{file_at, node_in}
use Rattle.ol_tables.specs.Tables.{var_ty_of, cell_of, cell_by, name_cell_at}
use Rattle.ol_tables.proofs.Cells.{Filled, constant_ty, cells_in, first, position_some, position_none, first_inside, positions_own, length_own, names_before}
use Rattle.ol_frame.specs.Arrays.{named_from, var_length, var_bytes, var_values, Array}
use Rattle.ol_frame.specs.Plans.{Program, Constants, Named, Nameable, Cells, known_in, constants_in, width_in, names_in, long_in, name_at}
use Rattle.ol_frame.proofs.Naming.{get_value, position_in}
use Rattle.ol_frame.proofs.Programs.{laid, name_long, known_few, constants_some, constants_distinct, names_other}

-- ---- positions of names

no_some : {A B : Type 0} {x : A} → none ≡ some x → B
no_some e = let z : ◌≡◌ {A = ℕ} 0 1 = cc in absurd (omega arith)

same_some : {A : Type 0} {x y : A} → some x ≡ some y → x ≡ y
same_some e = cc

position_out : (x : ℕ) (ns : List ℕ) → position x ns ≡ none → ¬ (x ∈ ns)
position_out x [] e m = in-nil m
position_out x (n ∷ ns) e m = go (eqb x n) (position x ns) refl refl e (λ g k. position_out x ns g k)
  where
    go : (b : Bool) (o : Option ℕ) → eqb x n ≡ b → position x ns ≡ o → position_if b o ≡ none → (position x ns ≡ none → ¬ (x ∈ ns)) → ⊥
    go true o f g h r = no_some (sym h)
    go false (some i) f g h r = no_some (sym h)
    go false none f g h r = ⊎_elim (λ q. let z : false ≡ true = sym f ∙ T_true (eqb x n) (eq_eqb x n q) in let w : ◌≡◌ {A = ℕ} 0 1 = cc in omega arith) (λ k. r g k) (in-cons m)

position_member : (x : ℕ) (ns : List ℕ) (i : ℕ) → position x ns ≡ some i → x ∈ ns
position_member x [] i e = no_some e
position_member x (n ∷ ns) i e = go (eqb x n) (position x ns) refl refl e (λ j g. position_member x ns j g)
  where
    go : (b : Bool) (o : Option ℕ) → eqb x n ≡ b → position x ns ≡ o → position_if b o ≡ some i → ((j : ℕ) → position x ns ≡ some j → x ∈ ns) → x ∈ (n ∷ ns)
    go true o f g h r = here (eqb→eq x n (subst T (sym f) tt))
    go false none f g h r = no_some h
    go false (some j) f g h r = there (r j g)

-- ---- values at positions in sequence

picked_values : (n c w : ℕ) (s : List ℕ) → c + n ≤ w → picked (values_of w s) (from c n) ≡ values_of n (drop (9 * c) s)
picked_values zero c w s h = refl
picked_values (suc n) c w s h =
    let e : 9 + 9 * c ≡ 9 * suc c = omega arith in
    let v = value_of (take 9 (drop (9 * c) s)) in
    (λ i. got (get_elem? (values_of w s) c) (values_of w s) c refl i ∷ picked (values_of w s) (from (suc c) n))
    ∙ (λ i. looked i ∷ picked_values n (suc c) w s (omega arith) i)
    ∙ ap (λ l. v ∷ values_of n l) (sym (drop-drop 9 (9 * c) s ∙ ap (λ m. drop m s) (let z : 9 * c + 9 ≡ 9 * suc c = omega arith in z)))
  where
    or_none : Option Value → Value
    or_none none = no_value_of
    or_none (some v) = v

    got : (o : Option Value) (vs : List Value) (c : ℕ) → get_elem? vs c ≡ o → get_or vs c no_value_of ≡ or_none (get_elem? vs c)
    got o [] zero e = refl
    got o [] (suc c) e = refl
    got o (v ∷ vs) zero e = refl
    got o (v ∷ vs) (suc c) e = got o vs c e

    looked : or_none (get_elem? (values_of w s) c) ≡ value_of (take 9 (drop (9 * c) s))
    looked = ap or_none (get_value w c s (omega arith))

-- some positions in sequence
picked_some_lem : (vs : List Value) (c n : ℕ) → 1 ≤ n → picked_some vs (from c n) ≡ some (picked vs (from c n))
picked_some_lem vs c zero h = absurd (omega arith)
picked_some_lem vs c (suc n) h = refl

-- ---- where the cells of an array's name stand

abbrev no_variable : Variable
no_variable = record { name = 0; ty = scalar bool }

abbrev no_constant : Constant
no_constant = record { name = 0; ty = scalar bool; value = bool_lit false }

-- the array of n whose Var is at `at`, of the name x
pub record ArrayIs (file tab consts : List ℕ) (node at x n : ℕ) : Type 0 where
  pub long : var_length tab at ≡ n
  pub named : name_cell_at tab (at + 1) < 65535
  pub room : (cells : List ℕ) → Cells file node cells → 9 * n ≤ length (var_bytes tab consts cells at)
  pub are : (cells : List ℕ)
      → or_failures (or_else (cells_named x (names_in file node) (values_of (width_in file node) cells)) (cells_named x (constants_in file consts) (values_of (known_in consts) consts))) ≡ values (var_values tab consts cells at)

from_variable : (cells consts : List ℕ) (c : ℕ) → c < 3584 → named_from cells consts c ≡ drop (9 * c) cells
from_variable cells consts c h = ap (λ b. cond b (drop (9 * c) cells) (drop (9 * (c - 3584)) consts)) (lt-ltb c 3584 h)

from_constant : (cells consts : List ℕ) (c : ℕ) → 3584 ≤ c → named_from cells consts c ≡ drop (9 * (c - 3584)) consts
from_constant cells consts c h = ap (λ b. cond b (drop (9 * c) cells) (drop (9 * (c - 3584)) consts)) (le-ltb c 3584 h)

-- an array among the constants has its name there
length_position : (cs : List Constant) (x m : ℕ) → length_for x (constant_arrays cs) ≡ some m → (j : ℕ) × (position x (map constant_name cs) ≡ some j)
length_position cs x m e = go (position x (map constant_name cs)) refl
  where
    go : (o : Option ℕ) → position x (map constant_name cs) ≡ o → (j : ℕ) × (position x (map constant_name cs) ≡ some j)
    go none f = no_some (sym (no_length constant_name constant_ty cs x (position_out x (map constant_name cs) f)) ∙ e)
    go (some j) f = (j, f)

-- the first constants
take_position : (m : ℕ) (cs : List Constant) (x i : ℕ) → position x (map constant_name (take m cs)) ≡ some i → (position x (map constant_name cs) ≡ some i) × (get_or (take m cs) i no_constant ≡ get_or cs i no_constant)
take_position zero [] x i e = no_some e
take_position (suc m) [] x i e = no_some e
take_position zero (c ∷ cs) x i e = no_some e
take_position (suc m) (c ∷ cs) x i e = go (eqb x c.name) (position x (map constant_name (take m cs))) refl i e (λ j g. take_position m cs x j g)
  where
    go : (b : Bool) (o : Option ℕ) → position x (map constant_name (take m cs)) ≡ o → (i : ℕ) → position_if b o ≡ some i
        → ((j : ℕ) → position x (map constant_name (take m cs)) ≡ some j → (position x (map constant_name cs) ≡ some j) × (get_or (take m cs) j no_constant ≡ get_or cs j no_constant))
        → (position_if b (position x (map constant_name cs)) ≡ some i) × (get_or (take (suc m) (c ∷ cs)) i no_constant ≡ get_or (c ∷ cs) i no_constant)
    go true o f i k r = let z : 0 ≡ i = same_some k in (k, subst (λ j. get_or (take (suc m) (c ∷ cs)) j no_constant ≡ get_or (c ∷ cs) j no_constant) z refl)
    go false none f i k r = no_some k
    go false (some j) f i k r =
        let z : suc j ≡ i = same_some k in
        let w = r j f in
        (ap (position_if false) w.0 ∙ k, subst (λ j. get_or (take (suc m) (c ∷ cs)) j no_constant ≡ get_or (c ∷ cs) j no_constant) z w.1)

kept_filled : (cs : List Constant) (m : ℕ) → Filled constant_name constant_ty cs → Filled constant_name constant_ty (take m cs)
kept_filled [] zero f = tt
kept_filled [] (suc m) f = tt
kept_filled (c ∷ cs) zero f = tt
kept_filled (c ∷ cs) (suc m) f = (f.0, kept_filled cs m f.1)

in_take : (m y : ℕ) (cs : List Constant) → y ∈ map constant_name (take m cs) → y ∈ map constant_name cs
in_take zero y [] k = k
in_take (suc m) y [] k = k
in_take zero y (c ∷ cs) k = absurd (in-nil k)
in_take (suc m) y (c ∷ cs) k = ⊎_elim (λ e. here e) (λ w. there (in_take m y cs w)) (in-cons k)

distinct_take : (m : ℕ) (cs : List Constant) → Distinct (map constant_name cs) → Distinct (map constant_name (take m cs))
distinct_take zero [] d = tt
distinct_take (suc m) [] d = tt
distinct_take zero (c ∷ cs) d = tt
distinct_take (suc m) (c ∷ cs) d = (λ k. d.0 (in_take m c.name cs k), distinct_take m cs d.1)

module _ {file tab rows consts : List ℕ} (P : Program file tab rows) (C : Constants file consts) (node at x n : ℕ) (named : Named file tab consts node (at + 1, x)) (h : long_in file node x ≡ some n) where
  abbrev vars : List Variable
  vars = variables (node_in file node)

  abbrev cons : List Constant
  cons = (file_at file).constants

  few : (1 ≤ n) × (n ≤ 32)
  few = name_long P node x n h

  length_is : var_length tab at ≡ n
  length_is = named.cell.length ∙ ap (maybe 0 (λ n. n)) h

  -- a variable
  array_variable : (i : ℕ) → position x (map name_of vars) ≡ some i → i < length vars → length_in (var_ty_of (get_or vars i no_variable)) ≡ some n → ArrayIs file tab consts node at x n
  array_variable i e l t =
      let c = first name_of var_ty_of vars i in
      let filled = (laid P node).filled in
      let cells-n : length (cells_in name_of var_ty_of (get_or vars i no_variable)) ≡ n = type_cells_lem (var_ty_of (get_or vars i no_variable)) ∙ ap (maybe 1 (λ n. n)) t in
      let inside : c + n ≤ width_in file node = omega (arith, first_inside name_of var_ty_of no_variable vars i l, cells-n) in
      let is : name_cell_at tab (at + 1) ≡ c = named.cell.cell ∙ ap (λ o. cell_by o (position x (constants_in file consts))) (position_some name_of var_ty_of vars x i filled e) in
      let low : c < 3584 = omega (arith, inside, few.0, (laid P node).most) in
      let bytes : (cells : List ℕ) → var_bytes tab consts cells at ≡ drop (9 * c) cells = λ cells. ap (named_from cells consts) is ∙ from_variable cells consts c low in
      let z : 0 + c ≡ c = omega arith in
      let where-are : positions x (names_in file node) ≡ from c n = positions_own name_of var_ty_of no_variable 0 vars x i (laid P node).distinct e ∙ (λ j. from (z j) (cells-n j)) in
      record {
        long = length_is;
        named = omega (arith, is, low);
        room = λ cells k. omega (arith, inside, k.long, ap length (bytes cells), length-drop (9 * c) cells);
        are = λ cells.
            let vs = values_of (width_in file node) cells in
            let own : cells_named x (names_in file node) vs ≡ some (values_of n (drop (9 * c) cells)) = ap (picked_some vs) where-are ∙ picked_some_lem vs c n few.0 ∙ ap some (picked_values n c (width_in file node) cells inside) in
            ap (λ o. or_failures (or_else o (cells_named x (constants_in file consts) (values_of (known_in consts) consts)))) own
            ∙ (λ j. values (values_of (sym length_is j) (sym (bytes cells) j)));
      }

  -- the constants that are known
  abbrev kept : List Constant
  kept = take C.count cons

  kept_names : constants_in file consts ≡ rest constant_name constant_ty kept
  kept_names = ap (λ m. take m (constant_cell_names (file_at file))) C.cells ∙ sym (names_before (file_at file) C.count)

  -- a constant
  array_constant : (i : ℕ) → position x (map name_of vars) ≡ none → position x (map constant_name kept) ≡ some i → i < length kept → length_in (constant_ty (get_or kept i no_constant)) ≡ some n → ArrayIs file tab consts node at x n
  array_constant i o e l t =
      let c = first constant_name constant_ty kept i in
      let filled = kept_filled cons C.count (constants_some P) in
      let cells-n : length (cells_in constant_name constant_ty (get_or kept i no_constant)) ≡ n = type_cells_lem (constant_ty (get_or kept i no_constant)) ∙ ap (maybe 1 (λ n. n)) t in
      let inside : c + n ≤ known_in consts = omega (arith, first_inside constant_name constant_ty no_constant kept i l, cells-n, C.cells) in
      let none_here : position x (names_in file node) ≡ none = position_none name_of var_ty_of vars x (laid P node).filled o in
      let is : name_cell_at tab (at + 1) ≡ 3584 + c = named.cell.cell ∙ (λ j. cell_by (none_here j) (position x (kept_names j))) ∙ ap (cell_by none) (position_some constant_name constant_ty kept x i filled e) in
      let back : 3584 + c - 3584 ≡ c = omega arith in
      let bytes : (cells : List ℕ) → var_bytes tab consts cells at ≡ drop (9 * c) consts =
      λ cells. ap (named_from cells consts) is ∙ from_constant cells consts (3584 + c) (omega arith) ∙ ap (λ m. drop (9 * m) consts) back in
      let z : 0 + c ≡ c = omega arith in
      let where-are : positions x (constants_in file consts) ≡ from c n = ap (positions x) kept_names ∙ positions_own constant_name constant_ty no_constant 0 kept x i (distinct_take C.count cons (constants_distinct P)) e ∙ (λ j. from (z j) (cells-n j)) in
      let nowhere : positions x (names_in file node) ≡ [] = positions_none 0 x (names_in file node) (λ m. position_out x (map name_of vars) o (in_slotted name_of var_ty_of vars x m)) in
      record {
        long = length_is;
        named = omega (arith, is, inside, few.0, known_few P C);
        room = λ cells k. omega (arith, inside, ap length (bytes cells), length-drop (9 * c) consts, div-mul-le_self (length consts) 9);
        are = λ cells.
            let vs = values_of (known_in consts) consts in
            let own : cells_named x (constants_in file consts) vs ≡ some (values_of n (drop (9 * c) consts)) = ap (picked_some vs) where-are ∙ picked_some_lem vs c n few.0 ∙ ap some (picked_values n c (known_in consts) consts inside) in
            ap (λ is. or_failures (or_else (picked_some (values_of (width_in file node) cells) is) (cells_named x (constants_in file consts) vs))) nowhere
            ∙ ap or_failures own ∙ (λ j. values (values_of (sym length_is j) (sym (bytes cells) j)));
      }

  -- the array's own length, where it is a variable, or else a constant
  own_variable : (i : ℕ) → position x (map name_of vars) ≡ some i → length_in (var_ty_of (get_or vars i no_variable)) ≡ some n
  own_variable i e = go (length_for x (arrays_in vars)) (length_for x (constant_arrays cons)) refl refl h
    where
      go : (a b : Option ℕ) → length_for x (arrays_in vars) ≡ a → length_for x (constant_arrays cons) ≡ b → or_else a b ≡ some n → length_in (var_ty_of (get_or vars i no_variable)) ≡ some n
      go (some m) b f g k = sym (length_own name_of var_ty_of no_variable vars x i (laid P node).distinct e) ∙ f ∙ k
      go none none f g k = no_some k
      go none (some m) f g k =
          let w = length_position cons x m g in
          absurd (names_other P node x (position_member x (map name_of vars) i e) (position_member x (map constant_name cons) w.0 w.1))

  own_constant : position x (map name_of vars) ≡ none → length_for x (constant_arrays cons) ≡ some n
  own_constant o = sym (ap (λ a. or_else a (length_for x (constant_arrays cons))) (no_length name_of var_ty_of vars x (position_out x (map name_of vars) o))) ∙ h

  constant_known : position x (map name_of vars) ≡ none → (m : ℕ) → length_for x (constant_arrays cons) ≡ some m → ¬ (position x (map constant_name kept) ≡ none)
  constant_known o m g k =
      let w = length_position cons x m g in
      let none_here : position x (names_in file node) ≡ none = position_none name_of var_ty_of vars x (laid P node).filled o in
      let none-there : position x (constants_in file consts) ≡ none = ap (position x) kept_names ∙ position_none constant_name constant_ty kept x (kept_filled cons C.count (constants_some P)) k in
      let is : cell_of (names_in file node) (constants_in file consts) x ≡ 65535 = λ j. cell_by (none_here j) (none-there j) in
      constant_no_variant (file_at file) P.no6 x (position_member x (map constant_name cons) w.0 w.1) (member_in x (variants (file_at file)) (named.variant is))

  pub array_is : ArrayIs file tab consts node at x n
  array_is = go (position x (map name_of vars)) (position x (map constant_name kept)) refl refl
    where
      go : (a b : Option ℕ) → position x (map name_of vars) ≡ a → position x (map constant_name kept) ≡ b → ArrayIs file tab consts node at x n
      go (some i) b e f = array_variable i e (omega (arith, position_in x (map name_of vars) i e, length-map vars name_of)) (own_variable i e)
      go none none e f = absurd (constant_known e n (own_constant e) f)
      go none (some i) e f =
          let w = take_position C.count cons x i f in
          array_constant i e f (omega (arith, position_in x (map constant_name kept) i f, length-map kept constant_name))
          (ap (λ c. length_in (constant_ty c)) w.1 ∙ sym (length_own constant_name constant_ty no_constant cons x i (constants_distinct P) w.0) ∙ own_constant e)

-- ---- an array's Var

-- its cells are there, and evaluation means them
module _ {file tab rows consts : List ℕ} {node : ℕ} (P : Program file tab rows) (C : Constants file consts) (at : ℕ) (p : Nameable file tab consts node (at + 1)) where
  -- a scalar's name has no array
  pub array_there : (cells : List ℕ) → Cells file node cells → Array tab consts cells at
  array_there cells k =
      record {
        inside = omega (arith, p.inside, p.long);
        named = named (long_in file node (name_at file (at + 1))) refl;
        room = go (long_in file node (name_at file (at + 1))) refl;
      }
    where
      named : (o : Option ℕ) → long_in file node (name_at file (at + 1)) ≡ o → 1 ≤ var_length tab at → name_cell_at tab (at + 1) < 65535
      named none e l = absurd (omega (arith, p.named.cell.length ∙ ap (maybe 0 (λ n. n)) e))
      named (some n) e l = (array_is P C node at (name_at file (at + 1)) n p.named e).named

      go : (o : Option ℕ) → long_in file node (name_at file (at + 1)) ≡ o → 9 * var_length tab at ≤ length (var_bytes tab consts cells at)
      go none e = omega (arith, p.named.cell.length ∙ ap (maybe 0 (λ n. n)) e)
      go (some n) e = let a = array_is P C node at (name_at file (at + 1)) n p.named e in omega (arith, a.long, a.room cells k)

  pub array_means : (n : ℕ) → long_in file node (name_at file (at + 1)) ≡ some n → (cells : List ℕ)
      → or_failures (or_else (cells_named (name_at file (at + 1)) (names_in file node) (values_of (width_in file node) cells)) (cells_named (name_at file (at + 1)) (constants_in file consts) (values_of (known_in consts) consts))) ≡ values (var_values tab consts cells at)
  array_means n e cells = (array_is P C node at (name_at file (at + 1)) n p.named e).are cells
