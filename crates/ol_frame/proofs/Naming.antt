-- Names by their cells: a variable's, a constant's, or a variant.
use Prim.Native.Nat.{ℕ, zero, suc, ◌+◌, ◌-◌, ◌*◌, ◌<◌, ◌≤◌}
use mathlib.Core.Bool.{Bool, true, false}
use mathlib.Core.List.{List, [], ◌∷◌}
use mathlib.Core.Option.{Option, none, some}
use mathlib.Core.Path.{◌≡◌, refl, sym, ap, ◌∙◌}
use native.Mathlib.Omega.{arith}
use native.Mathlib.Nat.{div-mul-le_self}
use lib.ListN.{length, get_or, get_elem?, take, drop, length-take}
use lib.Seq.{drop-cons, drop-drop}
use lib.Dec.{eqb}
use Rattle.ol_spec.specs.Lists.{maybe, concat, member, position_if, position, lookup}
use Rattle.ol_spec.specs.Syntax.{Expr, variables, name_in}
use Rattle.ol_spec.specs.Numbers.{number_of}
use Rattle.ol_spec.specs.Cell.{value_of, value_by, values_of}
use Rattle.ol_spec.specs.Eval.{Globals, Scope, or_failure, present_of, before_of, pre_of}
use Rattle.ol_spec.specs.declared.Value.{Value}
use Rattle.ol_spec.specs.declared.Value.TheVariants as Val
use Rattle.ol_spec.specs.declared.Outcome.TheVariants as Out
use Rattle.ol_spec.specs.declared.Cause.TheVariants as Why
use Rattle.ol_spec.proofs.Tests.{T_true}
use Rattle.ol_spec.proofs.Slots.{names_length}
use Rattle.ol_tables.specs.At.{file_at, node_in, expr_at, Reads}
use Rattle.ol_tables.specs.Tables.{name_cell_at, cell_of, cell_by}
use Rattle.ol_tables.proofs.Forms.{by_form, var_form}
use Rattle.ol_frame.specs.Plans.{known_in, constants_in, globals_in, width_in, names_in, scope_in, name_at, Nameable, Cells}

no_some : {A : Type 0} {x : A} → none ≡ some x → ⊥
no_some e = let z : ◌≡◌ {A = ℕ} 0 1 = cc in omega arith

pub position_in : (x : ℕ) (ns : List ℕ) (i : ℕ) → position x ns ≡ some i → i < length ns
position_in x [] i h = absurd (no_some h)
position_in x (n ∷ ns) i h = go (eqb x n) (position x ns) i (position_in x ns) h
  where
    go : (b : Bool) (r : Option ℕ) (i : ℕ) → ((j : ℕ) → r ≡ some j → j < length ns) → position_if b r ≡ some i → i < suc (length ns)
    go true r i f e = let z : 0 ≡ i = cc in omega arith
    go false none i f e = absurd (no_some e)
    go false (some j) i f e = let z : suc j ≡ i = cc in omega (arith, f j refl)

-- what a cell says of the two positions
module _ (vs cs : List ℕ) (x : ℕ) where
  by_cell : (p q : Option ℕ) (s : ℕ) → cell_by p q ≡ s → s < 3584 → p ≡ some s
  by_cell (some i) q s e l = ap some e
  by_cell none none s e l = absurd (omega arith)
  by_cell none (some j) s e l = absurd (omega arith)

  pub cell_variable : (s : ℕ) → cell_of vs cs x ≡ s → s < 3584 → position x vs ≡ some s
  cell_variable s e l = by_cell (position x vs) (position x cs) s e l

  pub cell_constant : (s : ℕ) → length vs ≤ 3584 → cell_of vs cs x ≡ s → 3584 ≤ s → s < 65535 → (position x vs ≡ none) × (position x cs ≡ some (s - 3584))
  cell_constant s w e l m = go (position x vs) (position x cs) refl e
    where
      go : (p q : Option ℕ) → position x vs ≡ p → cell_by p q ≡ s → (p ≡ none) × (q ≡ some (s - 3584))
      go (some i) q h e = absurd (omega (arith, position_in x vs i h))
      go none none h e = absurd (omega arith)
      go none (some j) h e = (refl, ap some (omega arith))

  pub cell_variant : length vs ≤ 3584 → length cs ≤ 2048 → ¬ (cell_of vs cs x < 65535) → (position x vs ≡ none) × (position x cs ≡ none) × (cell_of vs cs x ≡ 65535)
  cell_variant w k n = go (position x vs) (position x cs) refl refl (λ l. n l)
    where
      go : (p q : Option ℕ) → position x vs ≡ p → position x cs ≡ q → ¬ (cell_by p q < 65535) → (p ≡ none) × (q ≡ none) × (cell_by p q ≡ 65535)
      go (some i) q h g n = absurd (n (omega (arith, position_in x vs i h)))
      go none none h g n = (refl, refl, refl)
      go none (some j) h g n = absurd (n (omega (arith, position_in x cs j g)))

-- a value among those of so many cells
pub get_value : (n i : ℕ) (s : List ℕ) → i < n → get_elem? (values_of n s) i ≡ some (value_of (take 9 (drop (9 * i) s)))
get_value zero i s h = absurd (omega arith)
get_value (suc n) zero s h = refl
get_value (suc n) (suc i) s h =
    let k : 9 + 9 * i ≡ 9 * suc i = omega arith in
    let e : drop (9 * i) (drop 9 s) ≡ drop (9 * suc i) s = drop-drop (9 * i) 9 s ∙ ap (λ (m : ℕ). drop m s) k in
    get_value n i (drop 9 s) (omega arith) ∙ ap (λ (l : List ℕ). some (value_of (take 9 l))) e

pub look_up : (x : ℕ) (ns : List ℕ) (n : ℕ) (s : List ℕ) (i : ℕ) → position x ns ≡ some i → i < n → lookup x ns (values_of n s) ≡ some (value_of (take 9 (drop (9 * i) s)))
look_up x ns n s i e h = ap (maybe none (get_elem? (values_of n s))) e ∙ get_value n i s h

pub look_none : (x : ℕ) (ns : List ℕ) (vs : List Value) → position x ns ≡ none → lookup x ns vs ≡ none
look_none x ns vs e = ap (maybe none (get_elem? vs)) e

known_fits : (consts : List ℕ) (i : ℕ) → i < known_in consts → 9 * i + 9 ≤ length consts
known_fits consts i h = omega (arith, div-mul-le_self (length consts) 9)

module _ (file tab consts : List ℕ) (node at : ℕ) (p : Nameable file tab consts node at) (s : ℕ) (is : s ≡ name_cell_at tab at) where
  abbrev vars : List ℕ
  vars = names_in file node

  abbrev cons : List ℕ
  cons = constants_in file consts

  abbrev x : ℕ
  x = name_at file at

  width : length vars ≤ 3584
  width = omega (arith, names_length (variables (node_in file node)), p.width)

  few : length cons ≤ 2048
  few = omega (arith, length-take (known_in consts) (Rattle.ol_spec.specs.Admission.constant_cell_names (file_at file)), p.known)

  shorter : length cons ≤ known_in consts
  shorter = omega (arith, length-take (known_in consts) (Rattle.ol_spec.specs.Admission.constant_cell_names (file_at file)))

  cell_is_lem : cell_of vars cons x ≡ s
  cell_is_lem = sym p.named.cell.cell ∙ sym is

  pub cell_inside : s < 3584 → s < width_in file node
  cell_inside l = omega (arith, position_in x vars s (cell_variable vars cons x s cell_is_lem l), names_length (variables (node_in file node)))

  pub cell_known : ¬ (s < 3584) → s < 65535 → s - 3584 < known_in consts
  cell_known n l = omega (arith, position_in x cons (s - 3584) (cell_constant vars cons x s width cell_is_lem (omega arith) l).1, shorter)

  -- a variable
  pub is_variable : (first : Bool) (cells before : List ℕ) → s < 3584 → present_of (globals_in file consts) (scope_in file node first cells before) (name_at file at) ≡ some (value_of (take 9 (drop (9 * s) cells)))
  is_variable first cells before l =
      rw (look_up x vars (width_in file node) cells s (cell_variable vars cons x s cell_is_lem l) (cell_inside l))

  pub was_variable : (first : Bool) (cells before : List ℕ) → s < 3584 → before_of (globals_in file consts) (scope_in file node first cells before) (name_at file at) ≡ some (value_of (take 9 (drop (9 * s) before)))
  was_variable first cells before l =
      rw (look_up x vars (width_in file node) before s (cell_variable vars cons x s cell_is_lem l) (cell_inside l))

  -- a constant
  pub is_constant : (first : Bool) (cells before : List ℕ) → ¬ (s < 3584) → s < 65535 → present_of (globals_in file consts) (scope_in file node first cells before) (name_at file at) ≡ some (value_of (take 9 (drop (9 * (s - 3584)) consts)))
  is_constant first cells before n l =
      let c = cell_constant vars cons x s width cell_is_lem (omega arith) l in
      rw (look_none x vars (values_of (width_in file node) cells) c.0, look_up x cons (known_in consts) consts (s - 3584) c.1 (cell_known n l))

  pub was_constant : (first : Bool) (cells before : List ℕ) → ¬ (s < 3584) → s < 65535 → before_of (globals_in file consts) (scope_in file node first cells before) (name_at file at) ≡ some (value_of (take 9 (drop (9 * (s - 3584)) consts)))
  was_constant first cells before n l =
      let c = cell_constant vars cons x s width cell_is_lem (omega arith) l in
      rw (look_none x vars (values_of (width_in file node) before) c.0, look_up x cons (known_in consts) consts (s - 3584) c.1 (cell_known n l))

  none_of : ¬ (s < 65535) → (position x vars ≡ none) × (position x cons ≡ none) × (cell_of vars cons x ≡ 65535)
  none_of n = cell_variant vars cons x width few (λ l. n (omega (arith, cell_is_lem)))

  -- a variant
  pub is_variant_lem : (first : Bool) (cells before : List ℕ) → ¬ (s < 65535) → present_of (globals_in file consts) (scope_in file node first cells before) (name_at file at) ≡ some (Val.Enum (name_at file at))
  is_variant_lem first cells before n =
      let c = none_of n in
      let m = T_true (member x (concat (file_at file).enums)) (p.named.variant c.2) in
      rw (look_none x vars (values_of (width_in file node) cells) c.0, look_none x cons (values_of (known_in consts) consts) c.1, m)

  pub was_variant : (first : Bool) (cells before : List ℕ) → ¬ (s < 65535) → before_of (globals_in file consts) (scope_in file node first cells before) (name_at file at) ≡ none
  was_variant first cells before n =
      let c = none_of n in
      rw (look_none x vars (values_of (width_in file node) before) c.0, look_none x cons (values_of (known_in consts) consts) c.1)

  pub cell_room : (cells : List ℕ) → Cells file node cells → s < 3584 → 9 * s + 9 ≤ length cells
  cell_room cells c l = omega (arith, cell_inside l, c.long)

  pub known_room : ¬ (s < 3584) → s < 65535 → 9 * (s - 3584) + 9 ≤ length consts
  known_room n l = known_fits consts (s - 3584) (cell_known n l)

-- the nine bytes at a place are a tag and a payload
pub value_at_lem : (s : List ℕ) (at : ℕ) → at < length s → value_of (take 9 (drop at s)) ≡ value_by (get_or s at 0) (number_of 0 (take 8 (drop (at + 1) s)))
value_at_lem s at h =
    let e : suc at ≡ at + 1 = omega arith in
    ap (λ (l : List ℕ). value_of (take 9 l)) (drop-cons s at 0 h) ∙ ap (λ (k : ℕ). value_by (get_or s at 0) (number_of 0 (take 8 (drop k s)))) e

-- two bytes as a name
pub name_bytes_lem : (s : List ℕ) (at : ℕ) → at + 2 ≤ length s → get_or s at 0 * 256 + get_or s (at + 1) 0 ≡ name_at s at
name_bytes_lem s at h =
    let e : suc at ≡ at + 1 = omega arith in
    sym (ap (λ (l : List ℕ). number_of 0 (take 2 l)) (drop-cons s at 0 (omega arith) ∙ ap (λ (l : List ℕ). get_or s at 0 ∷ l) (ap (λ (k : ℕ). drop k s) e ∙ drop-cons s (at + 1) 0 (omega arith)))
    ∙ omega arith)

-- another expression than a Var is no name
pub no_name : (s : List ℕ) (level at : ℕ) → Reads s level at → ¬ (get_or s at 0 ≡ 4) → name_in (expr_at s level at) ≡ none
no_name s level at h =
    by_form s (λ c e. ¬ (c ≡ 4) → name_in e ≡ none) (λ b n. refl) (λ i n. refl) (λ b n. refl) (λ c n. refl) (λ x n. absurd (n refl)) (λ op e n. refl) (λ op l r n. refl)
    (λ c t e n. refl) (λ e n. refl) (λ a b n. refl) (λ t e n. refl) (λ k es n. refl) (λ es n. refl) (λ a i n. refl) (λ es n. refl) (λ k es n. refl) (λ k e es n. refl) level at h

pub is_name : (s : List ℕ) (level at : ℕ) → Reads s level at → get_or s at 0 ≡ 4 → name_in (expr_at s level at) ≡ some (name_at s (at + 1))
is_name s level at h e = ap name_in (var_form s level at h e).tree

-- Pre of a name after the first cycle
pub pre_is : (g : Globals) (c : Scope) (first : Bool) (e : Expr) (x : ℕ) (o : Option Value) → first ≡ false → name_in e ≡ some x → before_of g c x ≡ o → pre_of g c first e ≡ or_failure o
pre_is g c first e x o f n b = (λ i. pre_of g c (f i) e) ∙ ap (λ (m : Option ℕ). or_failure (maybe none (before_of g c) m)) n ∙ ap or_failure b

pub pre_none : (g : Globals) (c : Scope) (first : Bool) (e : Expr) → first ≡ false → name_in e ≡ none → pre_of g c first e ≡ Out.Failure Why.Other
pre_none g c first e f n = (λ i. pre_of g c (f i) e) ∙ ap (λ (m : Option ℕ). or_failure (maybe none (before_of g c) m)) n
