-- Laws of the names that an equation defines: how many cells they have, and that its right side has as many.
use Prim.Native.Nat.{ℕ, zero, suc, ◌+◌, ◌*◌, ◌<◌, ◌≤◌}
use mathlib.Core.List.{List, [], ◌∷◌, map}
use mathlib.Core.Option.{Option, none, some}
use mathlib.Core.Path.{◌≡◌, refl, sym, ap, ◌∙◌}
use native.Mathlib.Omega.{arith}
use lib.Dec.{T, eqb→eq}
use lib.ListN.{length, get_or, length-append, length-map}
use Rattle.ol_theory.specs.Member.{◌∈◌}
use Rattle.ol_spec.specs.Lists.{maybe, or_else, position}
use Rattle.ol_spec.specs.Syntax.{Expr, Exprs, nil, cons, count, scalar, bool, Variable, File, name_of, constant_name, variables, variable_names, variable_cells, cell_types, length_in}
use Rattle.ol_spec.specs.Places.{placed_names}
use Rattle.ol_spec.specs.Shapes.{arrays_in, constant_arrays, length_for, length_of}
use Rattle.ol_spec.specs.Admission.{takes, under, under_name, suit_all, anything, shape_in}
use Rattle.ol_spec.proofs.Tests.{T_and}
use Rattle.ol_spec.proofs.Forms.{cells_in, cells_all}
use Rattle.ol_spec.proofs.MainSystem.{position_in}
use Rattle.ol_spec.proofs.Slots.{type_cells_lem, no_length}
use Rattle.ol_tables.specs.At.{file_at, node_in}
use Rattle.ol_tables.specs.Tables.{Each, HasSlot, var_ty_of, var_ty_at, slot_at, slot_by}
use Rattle.ol_tables.proofs.Cells.{constant_ty, length_own}
use Rattle.ol_state.specs.Defaults.{width_of}
use Rattle.ol_frame.specs.Walk.{nodes_in}
use Rattle.ol_frame.specs.Plans.{Program, long_in}
use Rattle.ol_frame.specs.Shapes.{takes_in, takes_all_of}
use Rattle.ol_frame.specs.Stores.{cells_under, cells_under_all}
use Rattle.ol_frame.proofs.Naming.{position_in as position_inside}
use Rattle.ol_frame.proofs.Programs.{laid, name_long, names_other, Long}
use Rattle.ol_frame.proofs.Storing.{typed, own_count_lem}

-- what a place under a name takes has the name's shape
under_takes : (a b : Option ℕ) → T (takes (under a) b) → b ≡ a
under_takes none none t = refl
under_takes none (some n) t = absurd t
under_takes (some m) none t = absurd t
under_takes (some m) (some n) t = ap some (sym (eqb→eq m n t))

or_none : (o : Option ℕ) → or_else o none ≡ o
or_none none = refl
or_none (some n) = refl

no_variable : Variable
no_variable = record { name = 0; ty = scalar bool }

type_at_lem : (vs : List Variable) (i : ℕ) (d : Variable) → i < length vs → var_ty_at vs i ≡ var_ty_of (get_or vs i d)
type_at_lem [] i d h = absurd (omega arith)
type_at_lem (v ∷ vs) zero d h = refl
type_at_lem (v ∷ vs) (suc i) d h = type_at_lem vs i d (omega arith)

few_for : (o : Option ℕ) → Long o → maybe 1 (λ n. n) o ≤ 32
few_for none l = omega arith
few_for (some n) l = (l n refl).1

module _ (f : File) (vs : List Variable) where
  abbrev long : ℕ → Option ℕ
  long x = length_of f.nodes (arrays_in vs) (constant_arrays f.constants) x

  -- how many cells names have
  abbrev pub cells_named : List ℕ → ℕ
  cells_named [] = 0
  cells_named (x ∷ xs) = maybe 1 (λ n. n) (long x) + cells_named xs

  -- a call's outputs have as many
  pub outputs_cells : (xs : List ℕ) (os : List Variable) → T (suit_all (map (under_name f (arrays_in vs)) xs) os) → length os ≡ length xs → length (cell_types os) ≡ cells_named xs
  outputs_cells [] [] t e = refl
  outputs_cells [] (v ∷ os) t e = absurd (omega arith)
  outputs_cells (x ∷ xs) [] t e = absurd (omega arith)
  outputs_cells (x ∷ xs) (v ∷ os) t e =
      let w = T_and (takes (under_name f (arrays_in vs) x) (length_in v.ty)) _ t in
      let own = ap (maybe 1 (λ n. n)) (under_takes (long x) (length_in v.ty) w.0) in
      length-append (variable_cells v) (cell_types os) ∙ omega (arith, type_cells_lem v.ty, own, outputs_cells xs os w.1 (omega arith))

  -- and so have a Tuple's items
  pub items_cells : (xs : List ℕ) (es : Exprs) → T (takes_all_of f (arrays_in vs) (map (under_name f (arrays_in vs)) xs) es) → count es ≡ length xs → cells_all f.nodes (arrays_in vs) (constant_arrays f.constants) es ≡ cells_named xs
  items_cells [] nil t e = refl
  items_cells [] (cons y es) t e = absurd (omega arith)
  items_cells (x ∷ xs) nil t e = absurd (omega arith)
  items_cells (x ∷ xs) (cons y es) t e =
      let w = T_and (takes_in f (arrays_in vs) (under_name f (arrays_in vs) x) y) _ t in
      let own = ap (maybe 1 (λ n. n)) (under_takes (long x) (shape_in f (arrays_in vs) y) w.0) in
      omega (arith, own, items_cells xs es w.1 (omega arith))

  -- and so has one expression
  pub one_cells : (xs : List ℕ) (y : Expr) → T (takes_in f (arrays_in vs) (get_or (map (under_name f (arrays_in vs)) xs) 0 anything) y) → 1 ≡ length xs → cells_in f.nodes (arrays_in vs) (constant_arrays f.constants) y ≡ cells_named xs
  one_cells [] y t e = absurd (omega arith)
  one_cells (x ∷ []) y t e = let own = ap (maybe 1 (λ n. n)) (under_takes (long x) (shape_in f (arrays_in vs) y) t) in omega (arith, own)
  one_cells (x ∷ z ∷ xs) y t e = absurd (omega arith)

module _ {file tab rows : List ℕ} {k : ℕ} (p : Program file tab rows) (b : k < nodes_in file) where
  abbrev vars : List Variable
  vars = variables (node_in file k)

  -- the length of a variable's array
  own_long : (x i : ℕ) → x ∈ variable_names (node_in file k) → position x (variable_names (node_in file k)) ≡ some i → i < length vars → long_in file k x ≡ length_in (var_ty_at vars i)
  own_long x i m e l =
      ap (λ o. or_else o (length_for x (constant_arrays (file_at file).constants))) (length_own name_of var_ty_of no_variable vars x i (laid p k).distinct e)
      ∙ ap (or_else (length_in (var_ty_of (get_or vars i no_variable)))) (no_length constant_name constant_ty (file_at file).constants x (names_other p k x m))
      ∙ or_none (length_in (var_ty_of (get_or vars i no_variable))) ∙ ap length_in (sym (type_at_lem vars i no_variable l))

  -- its slot, and its cells
  pub slot_own : (at x : ℕ) (cs : List ℕ) → x ∈ variable_names (node_in file k) → HasSlot tab (variable_names (node_in file k)) cs (at, x) → (slot_at tab at < length vars) × (cells_under tab k at ≡ maybe 1 (λ n. n) (long_in file k x))
  slot_own at x cs m h =
      let w = position_in x (variable_names (node_in file k)) m in
      let e : slot_at tab at ≡ w.0 = h ∙ ap (λ o. slot_by o (position x cs)) w.1 in
      let l : w.0 < length vars = omega (arith, position_inside x (variable_names (node_in file k)) w.0 w.1, length-map vars name_of) in
      (omega (arith, e, l), ap (width_of tab k) e ∙ own_count_lem (typed k p b) w.0 l ∙ type_cells_lem (var_ty_at vars w.0) ∙ ap (maybe 1 (λ n. n)) (sym (own_long x w.0 m w.1 l)))

  -- the cells under names that stand one after the other
  pub under_named : (at : ℕ) (xs cs : List ℕ) → Each (HasSlot tab (variable_names (node_in file k)) cs) (placed_names at xs) → Each (λ x. x ∈ variable_names (node_in file k)) xs → cells_under_all tab k at (length xs) ≡ cells_named (file_at file) vars xs
  under_named at [] cs h m = refl
  under_named at (x ∷ xs) cs h m = omega (arith, (slot_own at x cs m.0 h.0).1, under_named (at + 2) xs cs h.1 m.1)

  pub few_named : (xs : List ℕ) → cells_named (file_at file) vars xs ≤ 32 * length xs
  few_named [] = omega arith
  few_named (x ∷ xs) = omega (arith, few_for (long_in file k x) (name_long p k x), few_named xs)
