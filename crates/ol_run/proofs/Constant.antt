-- Laws of the constants' values.
use Prim.Native.Nat.{ℕ, zero, suc, ◌+◌, ◌*◌, ◌<◌, ◌≤◌, max}
use mathlib.Core.Bool.{Bool, true}
use mathlib.Core.List.Memᴰ.{head as here}
use mathlib.Core.List.Memᴰ.{not-nil as in-nil}
use mathlib.Core.List.{List, [], ◌∷◌, ◌++◌, map, map-append, append-nil, append_assoc}
use mathlib.Core.Path.{◌≡◌, refl, sym, ap, subst, ◌∙◌}
use native.Mathlib.Omega.{arith}
use lib.ListN.{length, take, drop, get_or, replicate, get_or-eq_default, length-append, length-map, drop_of_length-le}
use lib.Seq.{take_all, take_at, take-nil, drop_at, drop-cons, drop-drop}
use Rattle.std.specs.Prelude.{Result, Ok, Err, None}
use Rattle.std.proofs.lemmas.List.{length-replicate}
use Rattle.ol_theory.specs.Member.{◌∈◌}
use Rattle.ol_spec.specs.Lists.{maybe, concat}
use Rattle.ol_spec.specs.Syntax.{Ty, VarTy, scalar, array, length_in, type_cells, Constant, constant_name, constant_cells, constant_slots, Node, no_node, variables, Expr, Exprs}
use Rattle.ol_spec.specs.Places.{placed, placed_constants, constant_size, constants_start, expr_size, collect_all}
use Rattle.ol_spec.specs.Shapes.{arrays_in}
use Rattle.ol_spec.specs.Cell.{value_of, values_of, cell, cells}
use Rattle.ol_spec.specs.Types.{fit}
use Rattle.ol_spec.specs.Eval.{Scope, Outcomes, values, failure, overflow, Evals, callees_all, sites_size, eval_cells}
use Rattle.ol_spec.specs.Step.{scope, calls, globals, fit_all, cell_count}
use Rattle.ol_spec.specs.Admission.{no_variables, no_calls, constants, constants_from, constant_cell_names, after_constant, Constants, stuck_at}
use Rattle.ol_spec.specs.declared.Value.{Value}
use Rattle.ol_spec.proofs.Admitted.{length_placed}
use Rattle.ol_spec.proofs.CellLengths.{length_values}
use Rattle.ol_spec.proofs.Cells.{length_cell, length_cells}
use Rattle.ol_spec.proofs.Congruence.{cells_same}
use Rattle.ol_spec.proofs.Forms.{uses, uses_all, callees_used}
use Rattle.ol_value.specs.Codes.{ty_of}
use Rattle.ol_tables.specs.At.{file_at, node_in, expr_at, end_at, exprs_at}
use Rattle.ol_tables.specs.Heads.{ty_size_at, ty_length_at}
use Rattle.ol_tables.specs.Tables.{Each, ty_code, ty_enum, element_of, first_constant_cell, constant_names_to, two_put}
use Rattle.ol_tables.specs.Table.{tab_of, rows_of, known_of, consts_from, consts_of}
use Rattle.ol_tables.proofs.Cells.{named_length, constant_ty, first_next, first_inside, names_before}
use Rattle.ol_tables.proofs.Forms.{parted, one_tree, reads_end, each_append, each_join, each_map}
use Rattle.ol_tables.proofs.Lending.{tail_of, put_tail, tail_all, put_tail_lem}
use Rattle.ol_frame.specs.Walk.{nodes_in, sizes_in}
use Rattle.ol_frame.specs.Plans.{known_in, constants_in, globals_in, scope_in, width_in, shape_in, seg_at, segs_at}
use Rattle.ol_frame.specs.Shapes.{Suited, head_item}
use Rattle.ol_frame.specs.Nodes.{Enters}
use Rattle.ol_frame.specs.Outcomes.{ending_of}
use Rattle.ol_frame.specs.declared.outcomes.Ending.{Ending}
use Rattle.ol_frame.specs.declared.outcomes.Ending.TheVariants as End
use Rattle.ol_frame.proofs.Copying.{cells_append, values_snoc}
use Rattle.ol_frame.proofs.Endings.{failed_values, over_values}
use Rattle.ol_frame.proofs.RealKinds.{proper_type}
use Rattle.ol_eval.specs.Post.{Ready}
use Rattle.ol_eval.specs.Calls.{Holds, as_is, RanTo, Part, passed_part, cells_at, cells_eval}
use Rattle.ol_eval.specs.declared.eval.Step.{Step}
use Rattle.ol_run.specs.Constants.{Never, ConstantReady, Turn, ConstantTo, Back, fitted_in, KeepsCells, Storing, Stores, ConstantsReady, ConstantsAre, Holding, SameTables, no_constant, constant_at, constant_width, value_at, code_at, constant_out}
use Rattle.ol_run.proofs.Placing.{item_is}
use Rattle.ol_run.proofs.Tabled.{same_onward, holding_on, put_at, known_put, count_same, consts_put, from_behind, space, many_few, stored_same, stored_cells}
use Rattle.ol_run.proofs.Telling.{ready_same}

-- ---- one constant's expression

-- behind the last node there is none
pub beyond : (file : List ℕ) → node_in file (nodes_in file) ≡ no_node
beyond file = get_or-eq_default (file_at file).nodes no_node {n = nodes_in file} (omega arith)

-- a list without entries
no_members : (xs : List ℕ) → ((x : ℕ) → x ∈ xs → ⊥) → xs ≡ []
no_members [] h = refl
no_members (x ∷ xs) h = absurd (h x (here refl))

never : (xs : List ℕ) → Each Never xs → xs ≡ []
never [] h = refl
never (x ∷ xs) h = absurd h.0

-- how many cells a declared type has
cells_many : (t : VarTy) → maybe 1 (λ n. n) (length_in t) ≡ length (type_cells t)
cells_many (scalar t) = refl
cells_many (array n t) = sym (length-replicate n t)

-- as many values, each fitted to its scalar type
fit_same : (t : Ty) (vs : List Value) → fit_all (replicate (length vs) t) vs ≡ map (fit t) vs
unfolding fit_all
fit_same t [] = refl
fit_same t (v ∷ vs) = ap (λ (ws : List Value). fit t v ∷ ws) (fit_same t vs)

fit_cells : (t : VarTy) (vs : List Value) → length vs ≡ length (type_cells t) → fit_all (type_cells t) vs ≡ map (fit (element_of t)) vs
unfolding fit_all
fit_cells (scalar t) [] e = absurd (omega (arith, e))
fit_cells (scalar t) (v ∷ vs) e = ap (λ (ws : List Value). fit t v ∷ ws) (none vs (omega (arith, e)))
  where
    none : (vs : List Value) → length vs ≡ 0 → [] ≡ map (fit t) vs
    none [] e = refl
    none (v ∷ vs) e = absurd (omega (arith, e))
fit_cells (array n t) vs e = ap (λ (k : ℕ). fit_all (replicate k t) vs) (sym (e ∙ length-replicate n t)) ∙ fit_same t vs

module _ {file tab rows consts : List ℕ} {at n i : ℕ} (p : Turn file tab rows consts at n i) where
  -- where it stands, by the type's size
  place_is : (e : ℕ) → e ≡ at + 2 + ty_size_at file (at + 2) → e ≡ value_at file i
  place_is e h = h ∙ (λ j. p.place j + 2 + ty_size_at file (p.place j + 2)) ∙ ap (λ (k : ℕ). (constant_at file i).0 + 2 + k) p.ready.type_is.size

  uncalled : callees_all (exprs_at file 24 1 (value_at file i)) ≡ []
  uncalled =
      let es = exprs_at file 24 1 (value_at file i) in
      no_members (callees_all es) (λ c m. in-nil (subst (λ (xs : List ℕ). c ∈ xs) (never (uses_all es) p.ready.closed) (callees_used es c m)))

  no_bytes : segs_at file 24 1 (value_at file i) ≡ 0
  unfolding sites_size
  no_bytes = ap (sites_size (sizes_in file)) uncalled

  constant_ready : (cells before : List ℕ) → Ready file tab rows consts 24 1 (value_at file i) (nodes_in file) cells before [] []
  constant_ready cells before =
      let w : width_in file (nodes_in file) ≡ 0 = ap cell_count (beyond file) in
      record {
        plan = record {
          program = p.ready.program;
          known = record { count = i; cells = p.known };
          node≤ = omega arith;
          level≤ = omega arith;
          reads = p.ready.reads;
          named = p.ready.named consts p.known;
          sound = p.ready.sound;
          suited = subst (λ (m : Node). Each (Suited (file_at file) (arrays_in (variables m))) (collect_all head_item (value_at file i) (exprs_at file 24 1 (value_at file i)))) (sym (beyond file)) p.ready.suited;
        };
        present = record { long = omega (arith, w) };
        previous = record { long = omega (arith, w) };
        same = refl;
        room = omega (arith, no_bytes);
        small = omega arith;
        calls = each_map Never (Enters file tab rows consts (nodes_in file)) (λ c h. absurd h) (uses_all (exprs_at file 24 1 (value_at file i))) p.ready.closed;
      }

  constant_part : (free : ℕ) → 288 ≤ free → Part file None 0 (nodes_in file) 24 (value_at file i) n free
  constant_part free l =
      let s = ap (shape_in file (nodes_in file)) p.ready.tree ∙ p.ready.shape in
      record {
        long = p.long ∙ sym (ap (maybe 0 (λ m. m)) s);
        few = omega arith;
        short = omega (arith, p.long, p.ready.short);
        given = omega (arith, p.long, p.ready.short);
        small = tt;
        called = tt;
      }

  -- it can be evaluated as a part
  pub part_ready : (e node free : ℕ) (cells before : List ℕ) → e ≡ at + 2 + ty_size_at file (at + 2) → node ≡ nodes_in file → 288 ≤ free → Ready file tab rows consts 24 1 e node cells before [] [] × Part file None 0 node 24 e n free
  part_ready e node free cells before h f l =
      rw (place_is e h, f) (constant_ready cells before, constant_part free l)

  -- what it gives is what the definition gives
  as_meant : (cells before : List ℕ) → (cells_eval file consts 24 (value_at file i) (nodes_in file) true cells before (take (seg_at file 24 (value_at file i)) [])).out ≡ constant_out file consts i
  as_meant cells before =
      let E = expr_at file 24 (value_at file i) in
      let g = globals_in file consts in
      let sc : scope_in file (nodes_in file) true cells before ≡ no_variables = ap (λ (m : Node). scope m true (values_of (cell_count m) before) (values_of (cell_count m) cells)) (beyond file) in
      let t = (one_tree file 24 (value_at file i) p.ready.reads).0 in
      let none = never (uses E) (each_append Never (uses E) [] (subst (λ (es : Exprs). Each Never (uses_all es)) t p.ready.closed)).0 in
      ap (λ (sg : List ℕ). (cells_eval file consts 24 (value_at file i) (nodes_in file) true cells before sg).out) (take-nil (seg_at file 24 (value_at file i)))
      ∙ ap (λ (x : Scope). (eval_cells g x (calls g) E []).out) sc
      ∙ ap (λ (x : Evals). x.out) (cells_same g g.nodes g.sizes refl (λ k. refl) [] [] [] true [] [] (λ x. refl) (calls g) no_calls E (λ x m. (refl, refl)) (λ c m. absurd (in-nil (subst (λ (xs : List ℕ). c ∈ xs) none m))) [])
      ∙ ap (λ (e : Expr). (eval_cells g no_variables no_calls e []).out) p.ready.tree

  width_is : cells_at file (nodes_in file) 24 (value_at file i) ≡ constant_width file i
  width_is = ap (maybe 1 (λ m. m)) (ap (shape_in file (nodes_in file)) p.ready.tree ∙ p.ready.shape) ∙ cells_many (constant_at file i).1.ty

  -- it was evaluated
  pub part_ran : (e node : ℕ) (first : Bool) (cells before room new : List ℕ) (r : Step Ending) → e ≡ at + 2 + ty_size_at file (at + 2) → node ≡ nodes_in file → first ≡ true
      → RanTo (passed_part file None 0) (cells_eval file consts 24 e node first cells before (take (seg_at file 24 e) [])) (end_at file 24 e) (seg_at file 24 e) [] r (values_of (cells_at file node 24 e) room) new → ConstantTo file consts i r room
  part_ran e node first cells before room new r h f b m =
      let R : ℕ → ℕ → Bool → Type 0 = λ e node first. RanTo (passed_part file None 0) (cells_eval file consts 24 e node first cells before (take (seg_at file 24 e) [])) (end_at file 24 e) (seg_at file 24 e) [] r (values_of (cells_at file node 24 e) room) new in
      let w = subst (λ (x : Bool). R (value_at file i) (nodes_in file) x) b (subst (λ (x : ℕ). R (value_at file i) x first) f (subst (λ (x : ℕ). R x node first) (place_is e h) m)) in
      let o = as_meant cells before in
      record {
        ends = w.end_is ∙ ap ending_of o;
        values = subst (λ (k : ℕ). Holds as_is (constant_out file consts i) (values_of k room)) width_is (subst (λ (x : Outcomes). Holds as_is x (values_of (cells_at file (nodes_in file) 24 (value_at file i)) room)) o (held _ _ w.values_are));
        next = w.next_is;
      }
    where
      held : (x : Outcomes) (got : List Value) → Holds (passed_part file None 0) x got → Holds as_is x got
      held (values vs) got k = k
      held (failure c) got k = k
      held overflow got k = k

-- ---- its cells in the table

-- one more is fitted and stored
pub kept_turn : (code i : ℕ) (from to₀ to new : List ℕ) (w : Value) → KeepsCells code i from to₀ to → ((e : ℕ) → w ≡ fit (ty_of code e) (value_of (take 9 (drop (9 * i) from)))) → Back w
    → new ≡ take (9 * i) to ++ (cell w ++ drop (9 * i + 9) to) → KeepsCells code (i + 1) from to₀ new
kept_turn code i from to₀ to new w k f b h =
    record {
      bytes = λ e.
          let C = cells (fitted_in code i from e) in
          let lc = kept_length e in
          let a : take (9 * i) to ≡ C = ap (take (9 * i)) (k.bytes e) ∙ take_at C (drop (9 * i) to₀) (9 * i) lc in
          let m : 9 * i + 9 ≡ 9 * (i + 1) = omega arith in
          let d : drop (9 * i + 9) to ≡ drop (9 * (i + 1)) to₀ = sym (drop-drop 9 (9 * i) to) ∙ ap (drop 9) (ap (drop (9 * i)) (k.bytes e) ∙ drop_at C (drop (9 * i) to₀) (9 * i) lc) ∙ drop-drop 9 (9 * i) to₀ ∙ ap (λ (n : ℕ). drop n to₀) m in
          h ∙ (λ j. a j ++ (cell w ++ d j)) ∙ sym (append_assoc C (cell w) (drop (9 * (i + 1)) to₀)) ∙ ap (λ (l : List ℕ). l ++ drop (9 * (i + 1)) to₀) (sym (cells_append (fitted_in code i from e) w) ∙ ap cells (sym (one_more e)));
      back = λ e. subst (Each Back) (sym (one_more e)) (each_join Back (fitted_in code i from e) (w ∷ []) (k.back e) (b, tt));
    }
  where
    kept_length : (e : ℕ) → length (cells (fitted_in code i from e)) ≡ 9 * i
    kept_length e = length_cells (fitted_in code i from e) ∙ ap (λ (n : ℕ). 9 * n) (length-map (values_of i from) (fit (ty_of code e)) ∙ length_values i from)

    one_more : (e : ℕ) → fitted_in code (i + 1) from e ≡ fitted_in code i from e ++ w ∷ []
    one_more e =
        let F = fit (ty_of code e) in
        let v = value_of (take 9 (drop (9 * i) from)) in
        let s : i + 1 ≡ suc i = omega arith in
        ap (λ (n : ℕ). map F (values_of n from)) s ∙ ap (map F) (values_snoc i from) ∙ map-append F (values_of i from) (v ∷ []) ∙ ap (λ (u : Value). map F (values_of i from) ++ u ∷ []) (sym (f e))

-- they were stored from a place of the table on
pub stored : (code count n at : ℕ) (from t x t' : List ℕ) → at ≡ consts_from t + 9 * n → KeepsCells code count from (tail_of at t) x → t' ≡ two_put (put_tail at t x) 816 (n + count) → Stores code count n from t t'
stored code count n at from t x t' e k h =
    record {
      bytes = λ y.
          h ∙ ap (λ (l : List ℕ). two_put l 816 (n + count))
          (put_tail_lem at t x ∙ ap (λ (l : List ℕ). take at t ++ l) (k.bytes y ∙ ap (λ (l : List ℕ). cells (fitted_in code count from y) ++ l) (ap (drop (9 * count)) (tail_all at t) ∙ drop-drop (9 * count) at t))
          ∙ ap (λ (a : ℕ). take a t ++ (cells (fitted_in code count from y) ++ drop (a + 9 * count) t)) e);
      back = k.back;
    }

-- ---- all constants, one after the other

pub values_back : (vs : List Value) (t : List ℕ) → Each Back vs → values_of (length vs) (cells vs ++ t) ≡ vs
values_back [] t h = refl
values_back (v ∷ vs) t h =
    let e : cells (v ∷ vs) ++ t ≡ cell v ++ (cells vs ++ t) = append_assoc (cell v) (cells vs) t in
    (λ i. value_of (take 9 (e i)) ∷ values_of (length vs) (drop 9 (e i)))
    ∙ (λ i. value_of (take_at (cell v) (cells vs ++ t) 9 (length_cell v) i) ∷ values_of (length vs) (drop_at (cell v) (cells vs ++ t) 9 (length_cell v) i))
    ∙ (λ i. h.0 i ∷ values_back vs t h.1 i)

cells_join : (vs ws : List Value) → cells (vs ++ ws) ≡ cells vs ++ cells ws
cells_join [] ws = refl
cells_join (v ∷ vs) ws = ap (λ (l : List ℕ). cell v ++ l) (cells_join vs ws) ∙ sym (append_assoc (cell v) (cells vs) (cells ws))

-- the items of a section and their places
placed_next : {A : Type 0} (size : A → ℕ) (at i : ℕ) (xs : List A) (d : ℕ × A) → suc i < length xs → (get_or (placed size at xs) (suc i) d).0 ≡ (get_or (placed size at xs) i d).0 + size (get_or (placed size at xs) i d).1
placed_next size at i [] d h = absurd (omega arith)
placed_next size at zero (x ∷ []) d h = absurd (omega arith)
placed_next size at zero (x ∷ y ∷ xs) d h = refl
placed_next size at (suc i) (x ∷ xs) d h = placed_next size (at + size x) i xs d (omega arith)

-- the names of the constants' cells are as many as the cells
pub names_many : (cs : List Constant) → length (concat (map constant_slots cs)) ≡ length (concat (map constant_cells cs))
names_many [] = refl
names_many (c ∷ cs) = length-append (constant_slots c) (concat (map constant_slots cs)) ∙ (λ j. named_length c.name c.ty j + names_many cs j) ∙ sym (length-append (constant_cells c) (concat (map constant_cells cs)))

-- the names of the cells of one constant more
names_more : (cs : List Constant) (i : ℕ) (d : Constant) → i < length cs → concat (map constant_slots (take (suc i) cs)) ≡ concat (map constant_slots (take i cs)) ++ constant_slots (get_or cs i d)
names_more [] i d h = absurd (omega arith)
names_more (c ∷ cs) zero d h = append-nil (constant_slots c)
names_more (c ∷ cs) (suc i) d h = ap (λ (l : List ℕ). constant_slots c ++ l) (names_more cs i d (omega arith)) ∙ sym (append_assoc (constant_slots c) (concat (map constant_slots (take i cs))) (constant_slots (get_or cs i d)))

-- what follows a constant's outcome
stuck_after : (at : ℕ) (k : List Value → Constants) (o : Outcomes) (end : Ending) → end ≡ ending_of o → (end ≡ End.Values → ⊥) → after_constant at k o ≡ stuck_at at
stuck_after at k (values vs) end e h = absurd (h e)
stuck_after at k (failure c) end e h = refl
stuck_after at k overflow end e h = refl

next_after : (at : ℕ) (k : List Value → Constants) (o : Outcomes) (got : List Value) → ending_of o ≡ End.Values → Holds as_is o got → after_constant at k o ≡ k got
next_after at k (values vs) got e h = ap k (sym h)
next_after at k (failure c) got e h = failed_values refl e
next_after at k overflow got e h = over_values refl e

-- the constants from i on are still to be evaluated; those before it have `known` cells, and the table was t₀ at first
pub record Going (file t₀ t : List ℕ) (count pos known i : ℕ) : Type 0 where
  pub values : List Value
  pub back : Each Back values
  pub counted : length values ≡ first_constant_cell (file_at file).constants i
  pub tallied : known ≡ length values
  pub count_is : known_of t ≡ known
  pub bytes : consts_of t ≡ cells values
  pub same : SameTables (length file) t₀ t
  pub rest : constants (file_at file) ≡ constants_from (file_at file) (constant_names_to (file_at file) i) values (drop i (placed_constants (file_at file)))
  pub place : i < count → pos ≡ (constant_at file i).0

-- no constant has its cells yet
pub going_start : {file t t' : List ℕ} {nodes at count : ℕ} → ConstantsReady file t nodes at count → t' ≡ two_put t 816 0 → Going file t t' count at 0 0
unfolding constants
going_start {file} {t} {t'} {nodes} {at} {count} p e =
    subst (λ (x : List ℕ). Going file t x count at 0 0) (sym e) (record {
      values = [];
      back = tt;
      counted = refl;
      tallied = refl;
      count_is = known_put t 0 p.holding.long (omega arith);
      bytes = consts_put t 0 p.holding.long (omega arith) (from_behind p.holding);
      same = count_same t 0 p.holding.long (omega arith) (length file);
      rest = refl;
      place = p.begins;
    })

module _ {file t₀ : List ℕ} {nodes at count : ℕ} (p : ConstantsReady file t₀ nodes at count) where
  abbrev cs : List Constant
  cs = (file_at file).constants

  abbrev Ends : List ℕ → Result (Unit {0}) ℕ → Type 0
  Ends t r = ConstantsAre (length (constant_cell_names (file_at file))) (constants (file_at file)) r (consts_of t) × SameTables (length file) t₀ t × (r ≡ Ok tt → known_of t ≡ length (constant_cell_names (file_at file)))

  pub going_done : {t : List ℕ} {pos known i : ℕ} → Going file t₀ t count pos known i → i ≡ count → Ends t (Ok tt)
  going_done {t} {pos} {known} {i} g e =
      let none : drop i (placed_constants (file_at file)) ≡ [] = drop_of_length-le (placed_constants (file_at file)) {i = i} (omega (arith, length_placed constant_size (constants_start (file_at file)) cs, p.counted)) in
      let q = g.rest ∙ ap (λ (ps : List (ℕ × Constant)). constants_from (file_at file) (constant_names_to (file_at file) i) g.values ps) none in
      let n : length g.values ≡ length (constant_cell_names (file_at file)) = g.counted ∙ first_all cs i (omega (arith, e, p.counted)) ∙ sym (names_many cs) in
      (subst (λ (c : Constants). ConstantsAre (length (constant_cell_names (file_at file))) c (Ok tt) (consts_of t)) (sym q) (refl, g.bytes, ap (values_of (length g.values)) (g.bytes ∙ sym (append-nil (cells g.values))) ∙ values_back g.values [] g.back, n), g.same, λ o. g.count_is ∙ g.tallied ∙ n)
    where
      first_all : (cs : List Constant) (i : ℕ) → length cs ≤ i → first_constant_cell cs i ≡ length (concat (map constant_cells cs))
      first_all cs i h = ap (λ (l : List Constant). length (concat (map constant_cells l))) (take_all i cs h)

  module _ {t : List ℕ} {pos known i : ℕ} (g : Going file t₀ t count pos known i) (l : i < count) where
    inside : i < length cs
    inside = omega (arith, p.counted)

    ready : ConstantReady file (tab_of t) (rows_of t) i
    ready = ready_same p.stands g.same (p.each i inside)

    pub going_place : pos + 5 ≤ length file
    going_place = omega (arith, g.place l, ready.inside)

    known_is : known_in (consts_of t) ≡ first_constant_cell cs i
    known_is = omega (arith, ap length g.bytes ∙ length_cells g.values, g.counted)

    -- it is its turn
    pub going_turn : (n : ℕ) → n ≡ ty_length_at file (pos + 2) → Turn file (tab_of t) (rows_of t) (consts_of t) pos n i
    going_turn n e = record { ready = ready; place = g.place l; long = e ∙ ap (λ (x : ℕ). ty_length_at file (x + 2)) (g.place l) ∙ ready.type_is.length; known = known_is }

    constant_is : (constant_at file i).1 ≡ get_or cs i no_constant.1
    constant_is = item_is constant_size no_constant (constants_start (file_at file)) cs i inside

    -- it has so many cells, and there is room for them
    width_of : (n : ℕ) → n ≡ ty_length_at file (pos + 2) → max n 1 ≡ constant_width file i
    width_of n e = ap (λ (k : ℕ). max k 1) (going_turn n e).long ∙ sym ready.filled

    more : first_constant_cell cs (suc i) ≡ known + constant_width file i
    more = omega (arith, first_next constant_name constant_ty no_constant.1 cs i inside, ap (λ (c : Constant). length (constant_cells c)) constant_is, g.tallied, g.counted)

    held : Holding t (length file) (length (constant_cell_names (file_at file)))
    held = holding_on g.same p.holding

    room_left : known + constant_width file i ≤ length (constant_cell_names (file_at file))
    room_left = omega (arith, first_inside constant_name constant_ty no_constant.1 cs i inside, ap (λ (c : Constant). length (constant_cells c)) constant_is, names_many cs, g.tallied, g.counted)

    -- its cells can be stored
    pub going_storing : (n m : ℕ) (from : List ℕ) → n ≡ ty_length_at file (pos + 2) → m ≡ max n 1 → 288 ≤ length from → Storing t m known from
    going_storing n m from e w f =
        let z = w ∙ width_of n e in
        record {
          given = omega (arith, w, (going_turn n e).long, ready.short);
          few = omega (arith, z, room_left, many_few held);
          long = held.long;
          space = omega (arith, z, room_left, space held);
        }

    -- its outcome, with the values so far
    abbrev here_out : Outcomes
    here_out = (eval_cells (globals (file_at file) (constant_names_to (file_at file) i) g.values) no_variables no_calls (constant_at file i).1.value []).out

    abbrev onward : List Value → Constants
    onward ws = constants_from (file_at file) (constant_names_to (file_at file) i ++ constant_slots (constant_at file i).1) (g.values ++ fit_all (constant_cells (constant_at file i).1) ws) (drop (suc i) (placed_constants (file_at file)))

    out_is : constant_out file (consts_of t) i ≡ here_out
    out_is =
        let k = known_is in
        let names : constants_in file (consts_of t) ≡ constant_names_to (file_at file) i = ap (λ (n : ℕ). take n (constant_cell_names (file_at file))) k ∙ sym (names_before (file_at file) i) in
        let vals : values_of (known_in (consts_of t)) (consts_of t) ≡ g.values =
        ap (λ (n : ℕ). values_of n (consts_of t)) (k ∙ sym g.counted) ∙ ap (values_of (length g.values)) (g.bytes ∙ sym (append-nil (cells g.values))) ∙ values_back g.values [] g.back in
        λ j. (eval_cells (globals (file_at file) (names j) (vals j)) no_variables no_calls (constant_at file i).1.value []).out

    opened : constants (file_at file) ≡ after_constant (constant_at file i).0 onward here_out
    opened =
        let h : i < length (placed_constants (file_at file)) = omega (arith, length_placed constant_size (constants_start (file_at file)) cs, inside) in
        g.rest ∙ ap (λ (ps : List (ℕ × Constant)). constants_from (file_at file) (constant_names_to (file_at file) i) g.values ps) (drop-cons (placed_constants (file_at file)) i no_constant h)

    -- it has no values
    pub going_stuck : {r : Step Ending} {room : List ℕ} → ConstantTo file (consts_of t) i r room → (r.out ≡ End.Values → ⊥) → Ends t (Err pos)
    going_stuck {r} {room} c h =
        let e = opened ∙ stuck_after (constant_at file i).0 onward here_out r.out (c.ends ∙ ap ending_of out_is) h in
        (subst (λ (x : Constants). ConstantsAre (length (constant_cell_names (file_at file))) x (Err pos) (consts_of t)) (sym e) (ap Err (g.place l)), g.same, λ o. absurd (no_ok o))
      where
        no_ok : ◌≡◌ {A = Result (Unit {0}) ℕ} (Err pos) (Ok tt) → ⊥
        no_ok o = cc

    next_place : i + 1 < count → end_at file 24 (value_at file i) ≡ (constant_at file (i + 1)).0
    next_place h =
        let s : suc i ≡ i + 1 = omega arith in
        let r = reads_end file 24 (value_at file i) (parted file 24 0 (value_at file i) ready.reads).head in
        let n = placed_next constant_size (constants_start (file_at file)) i cs no_constant (omega (arith, p.counted)) in
        r ∙ ap (λ (e : Expr). value_at file i + expr_size e) ready.tree ∙ omega (arith, n) ∙ ap (λ (k : ℕ). (constant_at file k).0) s

    -- it has
    pub going_next : {r : Step Ending} {room t' : List ℕ} (n m code : ℕ) → n ≡ ty_length_at file (pos + 2) → m ≡ max n 1 → code ≡ code_at file (pos + 2) → ConstantTo file (consts_of t) i r room → r.out ≡ End.Values → Stores code m known room t t'
        → Going file t₀ t' count r.next (known + m) (i + 1)
    going_next {r} {room} {t'} n m code e w f c h s =
        let T = element_of (constant_at file i).1.ty in
        let W = values_of (constant_width file i) room in
        let F = fit_all (constant_cells (constant_at file i).1) W in
        let z : m ≡ constant_width file i = w ∙ width_of n e in
        let lw : length W ≡ constant_width file i = length_values (constant_width file i) room in
        let q : fitted_in code m room (ty_enum T) ≡ F =
        (λ j. map (fit (ty_of (code_is j) (ty_enum T))) (values_of (z j) room)) ∙ ap (λ (y : Ty). map (fit y) W) (proper_type T ready.proper) ∙ sym (fit_cells (constant_at file i).1.ty W lw) in
        let lf : length F ≡ m = ap length (sym q) ∙ length-map (values_of m room) (fit (ty_of code (ty_enum T))) ∙ length_values m room in
        let C = cells F in
        let lc : length C ≡ 9 * m = length_cells F ∙ ap (λ (k : ℕ). 9 * k) lf in
        let left : 9 * known + length C ≤ 9 * length (constant_cell_names (file_at file)) = omega (arith, lc, z, room_left) in
        let put = put_at t (consts_from t + 9 * known) C in
        let t-is : t' ≡ two_put put 816 (known + m) =
        s.bytes (ty_enum T) ∙ (λ j. two_put (take (consts_from t + 9 * known) t ++ (cells (q j) ++ drop (consts_from t + 9 * known + sym lc j) t)) 816 (known + m)) in
        let ss = stored_same held known C left in
        let long : 1394 ≤ length put = omega (arith, ss.long, held.long) in
        let fits : known + m < 65536 = omega (arith, z, room_left, many_few held) in
        subst (λ (x : List ℕ). Going file t₀ x count r.next (known + m) (i + 1)) (sym t-is)
        (record {
          values = g.values ++ F;
          back = each_join Back g.values F g.back (subst (Each Back) q (s.back (ty_enum T)));
          counted = length-append g.values F ∙ omega (arith, lf, z, more, g.tallied) ∙ ap (first_constant_cell cs) one;
          tallied = omega (arith, length-append g.values F, lf, g.tallied);
          count_is = known_put put (known + m) long fits;
          bytes = stored_cells held known C left m lc (omega (arith, room_left)) ∙ ap (λ (k : ℕ). take (9 * k) (drop (consts_from t) t) ++ C) (sym g.count_is) ∙ ap (λ (b : List ℕ). b ++ C) g.bytes ∙ sym (cells_join g.values F);
          same = same_onward g.same (same_onward ss (count_same put (known + m) long fits (length file)));
          rest = opened ∙ next_after (constant_at file i).0 onward here_out W (sym (ap ending_of out_is) ∙ sym c.ends ∙ h) (subst (λ (o : Outcomes). Holds as_is o W) out_is c.values)
              ∙ (λ j. constants_from (file_at file) (names_next j) (g.values ++ F) (drop (one j) (placed_constants (file_at file))));
          place = λ b. c.next ∙ next_place b;
        })
      where
        one : suc i ≡ i + 1
        one = omega arith

        code_is : code ≡ ty_code (element_of (constant_at file i).1.ty)
        code_is = f ∙ ap (λ (x : ℕ). code_at file (x + 2)) (g.place l) ∙ ready.type_is.element.code

        names_next : constant_names_to (file_at file) i ++ constant_slots (constant_at file i).1 ≡ constant_names_to (file_at file) (i + 1)
        names_next = ap (λ (x : Constant). constant_names_to (file_at file) i ++ constant_slots x) constant_is ∙ sym (names_more cs i no_constant.1 inside) ∙ ap (constant_names_to (file_at file)) one
