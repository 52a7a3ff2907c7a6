-- A file without the faults 6 to 11 and 22, with right tables, is what evaluating its constants asks.
use Prim.Native.Nat.{ℕ, suc, zero, ◌+◌, ◌<◌, ◌≤◌, max}
use mathlib.Core.List.{List, [], ◌∷◌, ◌++◌, map, append-nil}
use mathlib.Core.Logic.{inr}
use mathlib.Core.Option.{none}
use mathlib.Core.Path.{◌≡◌, refl, sym, ap, subst, ◌∙◌}
use native.Mathlib.Omega.{arith}
use lib.ListN.{length, take, get_or}
use lib.Dec.{T}
use Rattle.std.proofs.lemmas.List.{length-replicate}
use Rattle.ol_spec.specs.Lists.{concat}
use Rattle.ol_spec.specs.Syntax.{VarTy, scalar, array, type_cells, length_in, Constant, constant_name, File, Node, variables, cell_names, Expr, bool_lit, int_lit, float_lit, char_lit, var, unary, binary, if_then_else, pre, arrow, cast, call, tuple, index, literal, map_over, fold_over}
use Rattle.ol_spec.specs.Places.{constant_size, constants_start, expr_size, placed, placed_constants, placed_nodes, collect, var_ty_size}
use Rattle.ol_spec.specs.Encode.{constant_bytes}
use Rattle.ol_spec.specs.Limits.{base, relay_loader}
use Rattle.ol_spec.specs.Within.{name_fits, var_ty_fits, root_fits, constant_fits}
use Rattle.ol_spec.specs.Shapes.{arrays_in, constant_arrays, shape}
use Rattle.ol_spec.specs.Demand3.{Bytes}
use Rattle.ol_spec.specs.Admission.{variants, constant_names, constant_cell_names, used_at, used, constant_uses, node_uses, fault7, in_constant, uses_where, bad_call, bad_iterator, node_calls, fault9, numbered, under, first_some, constant_misplaced, fault22}
use Rattle.ol_spec.proofs.Tests.{T_and}
use Rattle.ol_spec.proofs.Lists.{All}
use Rattle.ol_spec.proofs.Forms.{uses, uses_all}
use Rattle.ol_spec.proofs.ReadFacts.{file_read}
use Rattle.ol_spec.proofs.Admits.{Clean, first_clean, clean_parts, clean_each, or_else_none, first_some_none}
use Rattle.ol_spec.proofs.Admitted.{ConstantOk, constants_ok}
use Rattle.ol_spec.proofs.RoundTrip.Parts.{Here, here_inside}
use Rattle.ol_spec.proofs.RoundTrip.Items.{constant_size_lem, expr_size_lem}
use Rattle.ol_spec.proofs.RoundTrip.Placed.{placed_here, constant_here}
use Rattle.ol_tables.specs.At.{file_at, node_in, expr_at, exprs_at, ReadsAll}
use Rattle.ol_tables.specs.Tables.{Each, Sound, HasCell, array_length, cell_of, lengths_in, first_constant_cell, constant_names_to}
use Rattle.ol_tables.specs.Table.{tab_of, rows_of}
use Rattle.ol_tables.proofs.Cells.{Filled, constant_ty, names_before}
use Rattle.ol_tables.proofs.Forms.{type_some, one_tree}
use Rattle.ol_tables.proofs.HeadLaws.{here_var_ty}
use Rattle.ol_tables.proofs.Skipping.{some_size}
use Rattle.ol_frame.specs.Walk.{nodes_in}
use Rattle.ol_frame.specs.Plans.{known_in, constants_in, Named}
use Rattle.ol_frame.specs.Shapes.{Suited, head_item}
use Rattle.ol_frame.proofs.Programs.{Long, element_proper, type_long, constants_some, known_few}
use Rattle.ol_frame.proofs.Running.{each_in}
use Rattle.ol_run.specs.Constants.{Never, no_constant, constant_at, value_at, ConstantReady, Holding, ConstantsReady}
use Rattle.ol_run.specs.Admitted.{Admitted}
use Rattle.ol_run.proofs.Constant.{beyond, names_many}
use Rattle.ol_run.proofs.Placing.{all_each, each_two, fits_all, pair_at}
use Rattle.ol_run.proofs.Standing.{root_read, read_collected}
use Rattle.ol_run.proofs.Seen.{Before, uses_before, cell_free, any_use, no_faults}
use Rattle.ol_run.proofs.Suits.{all_suited}
use Rattle.ol_run.proofs.Admitted.{program}

-- ---- what 7, 9 and 22 say of constants

constants_seen : (f : File) → fault7 f ≡ none → Clean (constant_uses (variants f) (placed_constants f))
unfolding fault7
constants_seen f e =
    let a = constant_uses (variants f) (placed_constants f) in
    let bs = concat (map (node_uses (constant_names f ++ variants f)) (placed_nodes f)) in
    (clean_parts a bs (first_clean (a ++ bs) e)).0

constants_called : (f : File) → fault9 f ≡ none → All (λ c. Clean (in_constant any_use c)) (placed_constants f)
unfolding fault9
constants_called f e =
    let a = concat (map (in_constant any_use) (placed_constants f)) in
    let bs = concat (map (node_calls f) (numbered 0 (placed_nodes f))) in
    clean_each (in_constant any_use) (placed_constants f) (clean_parts a bs (first_clean (a ++ bs) e)).0

constants_shaped : (f : File) → fault22 f ≡ none → All (λ c. constant_misplaced f c ≡ none) (placed_constants f)
unfolding fault22
constants_shaped f e = first_some_none (constant_misplaced f) (placed_constants f) (or_else_none (first_some (map (constant_misplaced f) (placed_constants f))) _ e).0

-- what holds of all constants holds of them with their places
placed_fits : (P : Constant → Type 0) (at : ℕ) (cs : List Constant) → All P cs → All (λ p. P p.1) (placed constant_size at cs)
placed_fits P at [] h = tt
placed_fits P at (c ∷ cs) h = (h.0, placed_fits P (at + constant_size c) cs h.1)

-- and of the first of them
first_filled : (cs : List Constant) (i : ℕ) → Filled constant_name constant_ty cs → Filled constant_name constant_ty (take i cs)
first_filled [] zero h = tt
first_filled [] (suc i) h = tt
first_filled (c ∷ cs) zero h = tt
first_filled (c ∷ cs) (suc i) h = (h.0, first_filled cs i h.1)

-- the first constant stands where the section starts
first_place_lem : (at : ℕ) (cs : List Constant) → 0 < length cs → at ≡ (get_or (placed constant_size at cs) 0 no_constant).0
first_place_lem at [] h = absurd (omega arith)
first_place_lem at (c ∷ cs) h = refl

-- ---- types and expressions

short_type : (t : VarTy) → Long (length_in t) → array_length t ≤ 32
short_type (scalar t) l = omega arith
short_type (array n t) l = (l n refl).1

cells_filled : (t : VarTy) → Long (length_in t) → length (type_cells t) ≡ max (array_length t) 1
cells_filled (scalar t) l = refl
cells_filled (array n t) l = length-replicate n t ∙ omega (arith, (l n refl).0)

some_type : (t : VarTy) → 1 ≤ var_ty_size t
some_type (scalar t) = type_some t
some_type (array n t) = omega arith

-- an expression has two bytes or more
two_bytes : (e : Expr) → 2 ≤ expr_size e
two_bytes (bool_lit b) = omega arith
two_bytes (int_lit i) = omega arith
two_bytes (float_lit b) = omega arith
two_bytes (char_lit c) = omega arith
two_bytes (var x) = omega arith
two_bytes (unary op e) = omega arith
two_bytes (binary op l r) = omega arith
two_bytes (if_then_else c t e) = omega (arith, some_size c, some_size t)
two_bytes (pre e) = omega (arith, some_size e)
two_bytes (arrow a b) = omega (arith, some_size a)
two_bytes (cast t e) = omega (arith, some_size e)
two_bytes (call k es) = omega arith
two_bytes (tuple es) = omega arith
two_bytes (index a i) = omega (arith, some_size a)
two_bytes (literal es) = omega arith
two_bytes (map_over k es) = omega arith
two_bytes (fold_over k s es) = omega arith

-- ---- the constants

module _ {s rows tab : List ℕ} (a : Admitted s rows tab) (bytes : Bytes s) where
  abbrev f : File
  f = file_at s

  module _ (i : ℕ) (lt : i < length (file_at s).constants) where
    abbrev c : Constant
    c = (constant_at s i).1

    abbrev place : ℕ
    place = (constant_at s i).0

    is_here : Here s (constant_at s i).0 (constant_bytes (constant_at s i).1)
    is_here = pair_at constant_size (λ p. Here s p.0 (constant_bytes p.1)) no_constant (constants_start f) f.constants i lt (placed_here constant_bytes constant_size constant_size_lem (constants_start f) f.constants a.stands.constants.here)

    is_fit : T (constant_fits base (length (file_at s).enums) (constant_at s i).1)
    is_fit =
        let ok = constant_fits base (length f.enums) in
        pair_at constant_size (λ p. T (ok p.1)) no_constant (constants_start f) f.constants i lt (placed_fits (λ c. T (ok c)) (constants_start f) f.constants (fits_all ok f.constants a.stands.constants.fit))

    ty_root : T (var_ty_fits base (length (file_at s).enums) (constant_at s i).1.ty) × T (root_fits base (length (file_at s).enums) (constant_at s i).1.value)
    ty_root = T_and (var_ty_fits base (length f.enums) c.ty) (root_fits base (length f.enums) c.value) (T_and (name_fits c.name) _ is_fit).1

    is_read : ReadsAll s 24 1 (value_at s i) × (expr_at s 24 (value_at s i) ≡ (constant_at s i).1.value)
    is_read = root_read s c.value (value_at s i) (omega (arith, a.stands.few_enums)) ty_root.1 (constant_here place c is_here).2

    is_called : Clean (collect any_use (value_at s i) (constant_at s i).1.value)
    is_called = pair_at constant_size (λ p. Clean (in_constant any_use p)) no_constant (constants_start f) f.constants i lt (constants_called f a.ordered.shaped.sound.no9)

    is_ok : ConstantOk (file_at s) (constant_at s i).1
    is_ok =
        pair_at constant_size (λ p. ConstantOk f p.1) no_constant (constants_start f) f.constants i lt
        (constants_ok f a.ordered.shaped.sound.no9 a.ordered.shaped.no22 (file_read s bytes relay_loader f a.reads.end a.reads.is).constants_read)

    is_suited : Each (Suited (file_at s) []) (collect head_item (value_at s i) (constant_at s i).1.value)
    is_suited = all_suited f [] (under (length_in c.ty)) (value_at s i) c.value (pair_at constant_size (λ p. constant_misplaced f p ≡ none) no_constant (constants_start f) f.constants i lt (constants_shaped f a.ordered.shaped.no22))

    is_seen : All (Before (map constant_name (take i (file_at s).constants)) (variants (file_at s))) (used (value_at s i) (constant_at s i).1.value)
    is_seen = uses_before (variants f) (constants_start f) f.constants i lt (constants_seen f a.ordered.shaped.sound.no7)

    is_named : (consts : List ℕ) → known_in consts ≡ first_constant_cell (file_at s).constants i → Each (Named s tab consts (nodes_in s)) (used (value_at s i) (constant_at s i).1.value)
    is_named consts e =
        let uses = used (value_at s i) c.value in
        let xs = constant_names_to f i in
        let p = program a bytes in
        let before = map constant_name (take i f.constants) in
        let same : constants_in s consts ≡ xs = ap (λ (n : ℕ). take n (constant_cell_names f)) e ∙ sym (names_before f i) in
        let few : length xs ≤ 2048 = omega (arith, names_many (take i f.constants), e, known_few p {consts = consts} (record { count = i; cells = e })) in
        each_two (HasCell tab [] xs (lengths_in f [])) (Before before (variants f)) (Named s tab consts (nodes_in s))
        (λ q h t. record {
          cell = subst (λ (n : Node). HasCell tab (cell_names (variables n)) (constants_in s consts) (lengths_in f (variables n)) q) (sym (beyond s)) (subst (λ cs. HasCell tab [] cs (lengths_in f []) q) (sym same) h);
          variant = λ z.
              cell_free [] (take i f.constants) (variants f) q.1 tt (first_filled f.constants i (constants_some p)) (omega arith) few (inr t)
              (subst (λ cs. cell_of [] cs q.1 ≡ 65535) same (subst (λ (n : Node). cell_of (cell_names (variables n)) (constants_in s consts) q.1 ≡ 65535) (beyond s) z));
        })
        uses (a.tabled.constants i lt) (all_each (Before before (variants f)) uses is_seen)

    no_uses : uses_all (exprs_at s 24 1 (value_at s i)) ≡ uses (constant_at s i).1.value
    no_uses = ap uses_all (one_tree s 24 (value_at s i) is_read.0).0 ∙ append-nil (uses (expr_at s 24 (value_at s i))) ∙ ap uses is_read.1

    constant_ready : ConstantReady s tab rows i
    constant_ready =
        let parts = constant_here place c is_here in
        let long = type_long (length f.enums) c.ty ty_root.0 in
        let bad = bad_call f (nodes_in s) (node_in s (nodes_in s)) in
        let worse = bad_iterator (nodes_in s) in
        record {
          program = program a bytes;
          below = lt;
          inside = omega (arith, here_inside parts.2 (omega (arith, expr_size_lem c.value, some_size c.value)), expr_size_lem c.value, two_bytes c.value, some_type c.ty);
          type_is = here_var_ty (length f.enums) c.ty ty_root.0 parts.1;
          proper = element_proper (length f.enums) c.ty ty_root.0;
          short = short_type c.ty long;
          filled = cells_filled c.ty long;
          reads = is_read.0;
          tree = is_read.1;
          shape = ap (λ (n : Node). shape f.nodes (arrays_in (variables n)) (constant_arrays f.constants) c.value) (beyond s) ∙ is_ok.shape;
          named = λ consts e. subst (Each (Named s tab consts (nodes_in s))) (sym (read_collected s used_at (value_at s i) c.value is_read.0 is_read.1)) (is_named consts e);
          sound = subst (Each Sound) (sym (read_collected s (uses_where bad worse) (value_at s i) c.value is_read.0 is_read.1)) (no_faults bad worse (value_at s i) c.value is_called);
          suited = subst (Each (Suited f [])) (sym (read_collected s head_item (value_at s i) c.value is_read.0 is_read.1)) is_suited;
          closed = subst (Each Never) (sym no_uses) (each_in Never (uses c.value) is_ok.no_use);
        }

-- all constants can be evaluated into their cells
pub constants_ready : {s : List ℕ} (t : List ℕ) → Admitted s (rows_of t) (tab_of t) → (nodes at count : ℕ) → nodes ≡ length (file_at s).nodes → at ≡ constants_start (file_at s) → count ≡ length (file_at s).constants
    → Holding t (length s) (length (constant_cell_names (file_at s))) → Bytes s → ConstantsReady s t nodes at count
constants_ready {s} t a nodes at count nodes_is begins counted holding bytes =
    record {
      stands = a.stands;
      each = constant_ready a bytes;
      counted = counted;
      begins = λ h. begins ∙ first_place_lem (constants_start (file_at s)) (file_at s).constants (omega arith);
      nodes_is = nodes_is;
      few = omega (arith, a.stands.few_constants);
      holding = holding;
    }
