-- Laws of an equation: its right side is evaluated on its segment, and the values are stored under its names.
use Prim.Native.Nat.{ℕ, zero, suc, ◌+◌, ◌*◌, ◌<◌, ◌≤◌}
use mathlib.Core.Bool.{Bool, true, false, cond, not, ◌||◌}
use mathlib.Core.Logic.{by_cases}
use mathlib.Core.Option.{Option, none, some}
use mathlib.Core.List.{List, [], ◌∷◌, ◌++◌, map, append-nil}
use mathlib.Core.Path.{◌≡◌, refl, sym, ap, subst, ◌∙◌}
use native.Mathlib.Decide.{ℕ_discrete}
use native.Mathlib.Omega.{arith}
use borrow.Author.Tests.{ne_eqb}
use lib.Dec.{T, eqb, leb, leb→le}
use lib.ListN.{length, take, drop, get_or, drop_of_length-le}
use lib.Seq.{take_all, drop-cons}
use Rattle.std.specs.Prelude.{None, MatchOption}
use Rattle.ol_theory.specs.Member.{◌∈◌}
use Rattle.ol_spec.specs.Lists.{maybe, is_some, concat}
use Rattle.ol_spec.specs.Syntax.{Expr, call, tuple, no_node, Variable, variables, variable_names, variable_cells, Rhs, one, rhs_of}
use Rattle.ol_spec.specs.Places.{placed_names}
use Rattle.ol_spec.specs.Limits.{base}
use Rattle.ol_spec.specs.Within.{variable_fits, equation_fits, node_fits, section_fits, count_fits, byte_fits, name_fits}
use Rattle.ol_spec.specs.Admission.{constant_names, arity, under_name, callee_in}
use Rattle.ol_spec.specs.Shapes.{Sized, arrays_in, constant_arrays}
use Rattle.ol_spec.specs.Cell.{values_of}
use Rattle.ol_spec.specs.Eval.{Evals, Outcomes, values, failure, overflow, callees, sites_size, several, several_eval, eval_rhs, cells_by}
use Rattle.ol_spec.specs.Step.{assign, no_equation, eval_equation, calls, input_count, output_count}
use Rattle.ol_spec.specs.declared.Value.{Value}
use Rattle.ol_spec.specs.declared.Outcome.{Outcome}
use Rattle.ol_spec.specs.declared.Outcome.TheVariants as Out
use Rattle.ol_spec.proofs.Tests.{T_and}
use Rattle.ol_spec.proofs.Forms.{uses_all}
use Rattle.ol_tables.specs.At.{file_at, node_in, expr_at, exprs_at, Reads, ReadsAll}
use Rattle.ol_tables.specs.Tables.{Each, HasSlot, slot_at, row_at}
use Rattle.ol_state.specs.Defaults.{widths_at}
use Rattle.ol_tables.proofs.Cells.{few_cells}
use Rattle.ol_tables.proofs.Forms.{Formed, parted, one_tree, reads_in, by_form, call_form, tuple_form, each_map}
use Rattle.ol_state.proofs.Fits.{all_nth, fits}
use Rattle.ol_frame.specs.Walk.{nodes_in, sizes_in, Below}
use Rattle.ol_frame.specs.Plans.{Program, Plan, eval_in, array_in, globals_in, scope_in, shape_in, span_in, width_in, segs_at, seg_at}
use Rattle.ol_frame.specs.Nodes.{EquationPlan, Enters}
use Rattle.ol_frame.specs.Shapes.{suited_rhs}
use Rattle.ol_frame.specs.Equations.{place_in, rhs_in, equation_in, arrays_count, arrays_start}
use Rattle.ol_frame.specs.Stores.{cells_under_all, Storable, StoresOut, Assignable, Assigns, Slots}
use Rattle.ol_frame.specs.Outcomes.{ending_of}
use Rattle.ol_frame.specs.declared.outcomes.Ending.{Ending}
use Rattle.ol_frame.specs.declared.outcomes.Ending.TheVariants as End
use Rattle.ol_frame.proofs.Planning.{segs_one, segs_form, plan_call}
use Rattle.ol_frame.proofs.Programs.{node_fit}
use Rattle.ol_frame.proofs.Shaping.{count_read, span_long, span_some}
use Rattle.ol_frame.proofs.Storing.{typed, first_told}
use Rattle.ol_eval.specs.Post.{Ready, EvalsTo, ScalarsAt, array_at}
use Rattle.ol_eval.specs.Fitting.{Scalars}
use Rattle.ol_eval.specs.Calls.{Holds, as_is, Did, RanTo, passed_all, callee_cells, cells_at, all_cells, all_in, SuitAt, Several, AllTo, PassedTo, ArrayTo, rhs_eval, EntersTo, EquationReady, EquationTo, scalar_rhs, equation_cells}
use Rattle.ol_eval.specs.declared.eval.Step.{Step}
use Rattle.ol_eval.proofs.Lower.{plan_lower}
use Rattle.ol_eval.proofs.Named.{cells_named, outputs_cells, items_cells, one_cells, slot_own, under_named, few_named}
use Rattle.ol_eval.proofs.Listing.{Listed, tuple_listed}
use Rattle.ol_eval.proofs.Readying.{ready_parts}

-- what was evaluated, by equations
pub ran_as : (P : Ending → List ℕ → List ℕ → Type 0) {r r' : Step Ending} {x x' y y' : List ℕ} → r ≡ r' → x ≡ x' → y ≡ y' → P r'.out x' y' → P r.out x y
ran_as P {r} {r'} {x} {x'} {y} {y'} a b c h = subst (λ z. P z.out x y) (sym a) (subst (λ z. P r'.out z y) (sym b) (subst (P r'.out x') (sym c) h))

-- ---- numbers of cells of inputs and outputs

module _ {file tab rows : List ℕ} (p : Program file tab rows) {k : ℕ} (b : k < nodes_in file) where
  few_inputs : input_count (node_in file k) ≤ 1024
  few_inputs =
      let n = node_in file k in
      let enums = length (file_at file).enums in
      let t = all_nth (node_fits base enums) (file_at file).nodes no_node k (fits (file_at file) p.fits).node b in
      let s = (T_and (section_fits 0 32 (variable_fits base enums) n.inputs) _ t).0 in
      omega (arith, (node_fit p k b).inputs, few_cells enums n.inputs (T_and (count_fits 0 32 (length n.inputs)) _ s).1)

  few_outputs : output_count (node_in file k) ≤ 1024
  few_outputs =
      let n = node_in file k in
      let enums = length (file_at file).enums in
      let t = all_nth (node_fits base enums) (file_at file).nodes no_node k (fits (file_at file) p.fits).node b in
      let r = (T_and (section_fits 0 32 (variable_fits base enums) n.inputs) _ t).1 in
      let s = (T_and (section_fits 1 16 (variable_fits base enums) n.outputs) _ r).0 in
      omega (arith, (node_fit p k b).outputs, few_cells enums n.outputs (T_and (count_fits 1 16 (length n.outputs)) _ s).1)

-- ---- an equation's names

-- what holds of the names with their places holds of name j
pub names_at : (P : ℕ × ℕ → Type 0) (xs : List ℕ) (at j : ℕ) → Each P (placed_names at xs) → j < length xs → P (at + 2 * j, get_or xs j 0)
names_at P [] at j h l = absurd (omega arith)
names_at P (x ∷ xs) at zero h l = let e : at ≡ at + 2 * 0 = omega arith in subst (λ (a : ℕ). P (a, x)) e h.0
names_at P (x ∷ xs) at (suc j) h l =
    let e : at + 2 + 2 * j ≡ at + 2 * suc j = omega arith in
    subst (λ (a : ℕ). P (a, get_or xs j 0)) e (names_at P xs (at + 2) j h.1 (omega arith))

pub each_at : (P : ℕ → Type 0) (xs : List ℕ) (j : ℕ) → Each P xs → j < length xs → P (get_or xs j 0)
each_at P [] j h l = absurd (omega arith)
each_at P (x ∷ xs) zero h l = h.0
each_at P (x ∷ xs) (suc j) h l = each_at P xs j h.1 (omega arith)

-- a scalar right side's length
length_flag : (o : Option ℕ) → ((n : ℕ) → o ≡ some n → (1 ≤ n) × (n ≤ 32)) → eqb (maybe 0 (λ n. n) o) 0 ≡ not (is_some o)
length_flag none l = refl
length_flag (some n) l = ne_eqb n 0 (λ e. let z = (l n refl).0 in omega (arith, e))

pub length_scalar : (file : List ℕ) (node rhs : ℕ) {tab rows consts : List ℕ} → Plan file tab rows consts node 24 1 rhs → (n : ℕ) → n ≡ span_in file node (expr_at file 24 rhs) → ¬ (get_or file rhs 0 ≡ 11) → ¬ (get_or file rhs 0 ≡ 12) → eqb n 0 ≡ scalar_rhs file node rhs
length_scalar file node rhs p n e a b =
    ap (λ m. eqb m 0) e ∙ length_flag (shape_in file node (expr_at file 24 rhs)) (span_long file 24 rhs p)
    ∙ sym (λ j. not (ne_eqb (get_or file rhs 0) 11 a j || (ne_eqb (get_or file rhs 0) 12 b j || array_at file node 24 rhs)))

no_truth : {A : Type 0} → false ≡ true → A
no_truth h = let z : ◌≡◌ {A = ℕ} 0 1 = cc in absurd (omega arith)

-- what is no array's is a scalar
shape_none : (o : Option ℕ) → is_some o ≡ false → o ≡ none
shape_none none e = refl
shape_none (some n) e = no_truth (sym e)

shape_some : (o : Option ℕ) → is_some o ≡ true → ¬ (o ≡ none)
shape_some o e h = no_truth (ap is_some (sym h) ∙ e)

one_span : (o : Option ℕ) → is_some o ≡ true → maybe 0 (λ n. n) o ≡ maybe 1 (λ n. n) o
one_span none e = no_truth e
one_span (some n) e = refl

module _ {file tab rows consts : List ℕ} {k i at : ℕ} {cells before old new : List ℕ} (q : EquationReady file tab rows consts k i at cells before old new) where
  plan : EquationPlan file tab rows consts k i
  plan = (q.running.nodes k q.below).equations i q.index

  abbrev names : List ℕ
  names = (equation_in file k i).names

  abbrev place : ℕ
  place = rhs_in file k i

  abbrev E : Expr
  E = expr_at file 24 (rhs_in file k i)

  abbrev locals : List Sized
  locals = arrays_in (variables (node_in file k))

  -- ---- where its right side stands

  reads : Reads file 24 (rhs_in file k i)
  reads = (parted file 24 0 (rhs_in file k i) plan.plan.reads).head

  pub names_count : get_or file at 0 ≡ length (equation_in file k i).names
  names_count = ap (λ (a : ℕ). get_or file a 0) q.place ∙ plan.count

  -- its names stand in the file, before the right side
  pub names_inside : (n : ℕ) → n ≡ get_or file at 0 → (at + 1 + 2 * n < length file) × (length file ≤ 32768)
  names_inside n e =
      let c : n ≡ length names = e ∙ names_count in
      (omega (arith, reads_in file 24 place reads, q.place, c), q.running.program.sized.small)

  pub right_place : (n : ℕ) → n ≡ get_or file at 0 → at + 1 + 2 * n ≡ rhs_in file k i
  right_place n e = let c : n ≡ length names = e ∙ names_count in λ j. q.place j + 1 + 2 * c j

  -- ---- it can be evaluated

  seg_is : seg_at file 24 (rhs_in file k i) ≡ length old
  seg_is = ap (λ (e : Expr). sites_size (sizes_in file) (callees e)) plan.tree ∙ sym q.sized

  pub equation_ready : (rhs : ℕ) → rhs ≡ rhs_in file k i → Ready file tab rows consts 24 1 rhs k cells before old new
  equation_ready rhs e =
      subst (λ (p : ℕ). Ready file tab rows consts 24 1 p k cells before old new) (sym e)
      (record {
        plan = plan.plan;
        present = q.present;
        previous = q.previous;
        same = q.same;
        room = omega (arith, segs_one file 24 place plan.plan.reads, seg_is);
        small = q.small;
        calls = each_map (Below k) (Enters file tab rows consts k) (λ c l. record { lower = l; running = q.running }) (uses_all (exprs_at file 24 1 place)) (plan_lower plan.plan);
      })

  -- ---- its meaning, on its segment, which is the whole of `old`

  take_old : (rhs : ℕ) → rhs ≡ rhs_in file k i → take (seg_at file 24 rhs) old ≡ old
  take_old rhs e = take_all (seg_at file 24 rhs) old (omega (arith, ap (seg_at file 24) e, seg_is))

  drop_old : (m : ℕ) → m ≡ length old → drop m old ≡ []
  drop_old m e = drop_of_length-le old {i = m} (omega arith)

  module _ (first : Bool) where
    abbrev pub W : Evals
    W = eval_equation (globals_in file consts) (calls (globals_in file consts)) (node_in file k) first (values_of (width_in file k) before) (values_of (width_in file k) cells) i old

    right_eval : (rhs : ℕ) → rhs ≡ rhs_in file k i → rhs_eval file consts 24 rhs k first cells before (take (seg_at file 24 rhs) old) ≡ W
    right_eval rhs e =
        ap (rhs_eval file consts 24 rhs k first cells before) (take_old rhs e) ∙ ap (λ (p : ℕ). rhs_eval file consts 24 p k first cells before old) e
        ∙ ap (λ (x : Expr). eval_rhs (globals_in file consts) (scope_in file k first cells before) (calls (globals_in file consts)) (rhs_of x) old) plan.tree

    no_rest : {m : ℕ} {new' seg : List ℕ} → m ≡ length old → new' ≡ seg ++ drop m old → new' ≡ seg
    no_rest {m} {new'} {seg} e h = h ∙ ap (λ (l : List ℕ). seg ++ l) (drop_old m e) ∙ append-nil seg

    seg_used : (rhs : ℕ) → rhs ≡ rhs_in file k i → seg_at file 24 rhs ≡ length old
    seg_used rhs e = ap (seg_at file 24) e ∙ seg_is

  -- ---- its right side by its code

  call_tree : get_or file (rhs_in file k i) 0 ≡ 11 → Formed file 24 (rhs_in file k i) (call (get_or file (rhs_in file k i + 1) 0) (exprs_at file 23 (get_or file (rhs_in file k i + 2) 0) (rhs_in file k i + 3))) (get_or file (rhs_in file k i + 2) 0)
  call_tree c = (call_form file 24 place reads c).0

  tuple_tree : get_or file (rhs_in file k i) 0 ≡ 12 → Formed file 24 (rhs_in file k i) (tuple (exprs_at file 23 (get_or file (rhs_in file k i + 1) 0) (rhs_in file k i + 2))) (get_or file (rhs_in file k i + 1) 0) × (get_or file (rhs_in file k i + 1) 0 ≤ 16)
  tuple_tree c = tuple_form file 24 place reads c

  one_tree_lem : ¬ (get_or file (rhs_in file k i) 0 ≡ 11) → ¬ (get_or file (rhs_in file k i) 0 ≡ 12) → rhs_of (expr_at file 24 (rhs_in file k i)) ≡ one (expr_at file 24 (rhs_in file k i))
  one_tree_lem n m =
      by_form file (λ c x. ¬ (c ≡ 11) → ¬ (c ≡ 12) → rhs_of x ≡ one x) (λ b n m. refl) (λ j n m. refl) (λ b n m. refl) (λ c n m. refl) (λ x n m. refl) (λ op x n m. refl) (λ op l r n m. refl)
      (λ c t x n m. refl) (λ x n m. refl) (λ a b n m. refl) (λ t x n m. refl) (λ c es n m. absurd (n refl)) (λ es n m. absurd (m refl)) (λ a i n m. refl) (λ es n m. refl) (λ c es n m. refl) (λ c e es n m. refl) 24 place reads n m

  arity_told : {x : Rhs} → rhs_of (expr_at file 24 (rhs_in file k i)) ≡ x → arity (file_at file) x ≡ length (equation_in file k i).names
  arity_told {x} e = ap (arity (file_at file)) (sym e) ∙ ap (λ y. arity (file_at file) (rhs_of y)) plan.tree ∙ plan.arity_is

  suits_told : {x : Rhs} → rhs_of (expr_at file 24 (rhs_in file k i)) ≡ x → T (suited_rhs (file_at file) (arrays_in (variables (node_in file k))) (map (under_name (file_at file) (arrays_in (variables (node_in file k)))) (equation_in file k i).names) x)
  suits_told {x} e =
      subst (λ y. T (suited_rhs (file_at file) locals (map (under_name (file_at file) locals) names) y)) e
      (subst (λ y. T (suited_rhs (file_at file) locals (map (under_name (file_at file) locals) names) (rhs_of y))) (sym plan.tree) plan.suits)

  -- the callee of a call
  call_lower : get_or file (rhs_in file k i) 0 ≡ 11 → get_or file (rhs_in file k i + 1) 0 < nodes_in file
  call_lower c = omega (arith, (plan_call file plan.plan c).lower, q.below)

  -- ---- its names and their cells

  pub slot_told : (j : ℕ) → j < length (equation_in file k i).names → HasSlot tab (variable_names (node_in file k)) (constant_names (file_at file)) (at + 1 + 2 * j, get_or (equation_in file k i).names j 0)
  slot_told j h =
      subst (λ (a : ℕ). HasSlot tab (variable_names (node_in file k)) (constant_names (file_at file)) (a + 1 + 2 * j, get_or names j 0)) (sym q.place)
      (names_at (HasSlot tab (variable_names (node_in file k)) (constant_names (file_at file))) names (place_in file k i + 1) j plan.defined h)

  name_declared : (j : ℕ) → j < length (equation_in file k i).names → get_or (equation_in file k i).names j 0 ∈ variable_names (node_in file k)
  name_declared j h = each_at (λ x. x ∈ variable_names (node_in file k)) names j plan.declared h

  slot_below : (j : ℕ) → j < length (equation_in file k i).names → slot_at tab (at + 1 + 2 * j) < length (variables (node_in file k))
  slot_below j h = (slot_own q.running.program q.below (at + 1 + 2 * j) (get_or names j 0) (constant_names (file_at file)) (name_declared j h) (slot_told j h)).0

  -- the table counts all the node's cells
  all_told : widths_at tab k 0 (row_at rows k 4) ≡ width_in file k
  all_told =
      let t = typed k q.running.program q.below in
      let vs = variables (node_in file k) in
      ap (widths_at tab k 0) t.count ∙ first_told t (length vs) (omega arith) ∙ ap (λ (us : List Variable). length (concat (map variable_cells us))) (take_all (length vs) vs (omega arith))

  pub name_storable : (j : ℕ) → j < length (equation_in file k i).names → Storable tab rows k (at + 1 + 2 * j) cells
  name_storable j h =
      let p = q.running.program in
      let t = typed k p q.below in
      let s = names_inside (get_or file at 0) refl in
      record {
        inside = omega (arith, s.0, names_count, p.table.long);
        node = omega (arith, q.below, p.sized.few);
        few = omega (arith, t.count, t.few);
        variable = omega (arith, t.count, slot_below j h);
        counted = t.cells ∙ sym all_told;
        room = omega (arith, all_told, q.present.long);
      }

  names_some : 1 ≤ length (equation_in file k i).names
  names_some =
      let f = file_at file in
      let m = length f.enums in
      let n = node_fit q.running.program k q.below in
      let t = all_nth (equation_fits base m) (node_in file k).equations no_equation i n.equations q.index in
      let s = (T_and (section_fits 1 base.names name_fits names) _ t).0 in
      let c = (T_and (count_fits 1 base.names (length names)) _ s).0 in
      leb→le 1 (length names) (T_and (leb 1 (length names)) _ (T_and (byte_fits (length names)) _ c).1).0

  pub first_storable : Storable tab rows k (at + 1) cells
  first_storable =
      let e : at + 1 + 2 * 0 ≡ at + 1 = omega arith in
      subst (λ (a : ℕ). Storable tab rows k a cells) e (name_storable 0 names_some)

  -- there are at most as many as a call has outputs or a Tuple items
  names_few : length (equation_in file k i).names ≤ 16
  names_few =
      by_cases (ℕ_discrete (get_or file place 0) 11)
      (λ c. omega (arith, arity_told (ap rhs_of (call_tree c).tree), (node_fit q.running.program (get_or file (place + 1) 0) (call_lower c)).outputs))
      (λ n. by_cases (ℕ_discrete (get_or file place 0) 12)
      (λ c. let t = tuple_tree c in omega (arith, arity_told (ap rhs_of t.0.tree), count_read file 23 (get_or file (place + 1) 0) (place + 2) t.0.read, t.1))
      (λ m. omega (arith, arity_told (one_tree_lem n m))))

  -- how many cells they have
  under_told : cells_under_all tab k (at + 1) (length (equation_in file k i).names) ≡ cells_named (file_at file) (variables (node_in file k)) (equation_in file k i).names
  under_told = ap (λ a. cells_under_all tab k (a + 1) (length names)) q.place ∙ under_named q.running.program q.below (place_in file k i + 1) names (constant_names (file_at file)) plan.defined plan.declared

  -- as many as the right side
  call_told : get_or file (rhs_in file k i) 0 ≡ 11 → output_count (node_in file (get_or file (rhs_in file k i + 1) 0)) ≡ cells_under_all tab k (at + 1) (length (equation_in file k i).names)
  call_told c =
      let e = ap rhs_of (call_tree c).tree in
      outputs_cells (file_at file) (variables (node_in file k)) names (callee_in (file_at file) (get_or file (place + 1) 0)).outputs (suits_told e) (arity_told e) ∙ sym under_told

  tuple_told : get_or file (rhs_in file k i) 0 ≡ 12 → all_cells file k 23 (get_or file (rhs_in file k i + 1) 0) (rhs_in file k i + 2) ≡ cells_under_all tab k (at + 1) (length (equation_in file k i).names)
  tuple_told c =
      let e = ap rhs_of (tuple_tree c).0.tree in
      items_cells (file_at file) (variables (node_in file k)) names (exprs_at file 23 (get_or file (place + 1) 0) (place + 2)) (suits_told e) (arity_told e) ∙ sym under_told

  one_told : ¬ (get_or file (rhs_in file k i) 0 ≡ 11) → ¬ (get_or file (rhs_in file k i) 0 ≡ 12) → cells_at file k 24 (rhs_in file k i) ≡ cells_under_all tab k (at + 1) (length (equation_in file k i).names)
  one_told n m =
      let e = one_tree_lem n m in
      one_cells (file_at file) (variables (node_in file k)) names (expr_at file 24 place) (suits_told e) (arity_told e) ∙ sym under_told

  -- how many cells the right side takes
  cells_call : get_or file (rhs_in file k i) 0 ≡ 11 → equation_cells file tab k i ≡ callee_cells file (get_or file (rhs_in file k i + 1) 0)
  cells_call e = ap (λ c. cond (eqb c 11) (callee_cells file (get_or file (place + 1) 0)) (cells_under_all tab k (place_in file k i + 1) (length names))) e

  cells_other : ¬ (get_or file (rhs_in file k i) 0 ≡ 11) → equation_cells file tab k i ≡ cells_under_all tab k (at + 1) (length (equation_in file k i).names)
  cells_other n =
      ap (λ b. cond b (callee_cells file (get_or file (place + 1) 0)) (cells_under_all tab k (place_in file k i + 1) (length names))) (ne_eqb (get_or file place 0) 11 n)
      ∙ ap (λ a. cells_under_all tab k (a + 1) (length names)) (sym q.place)

  pub few_equation_cells : equation_cells file tab k i ≤ 1024
  few_equation_cells =
      by_cases (ℕ_discrete (get_or file place 0) 11)
      (λ c. omega (arith, cells_call c, few_inputs q.running.program (call_lower c), few_outputs q.running.program (call_lower c)))
      (λ n. omega (arith, cells_other n, under_told, few_named q.running.program q.below names, names_few))

  named_fits : cells_under_all tab k (at + 1) (length (equation_in file k i).names) ≤ equation_cells file tab k i
  named_fits =
      by_cases (ℕ_discrete (get_or file place 0) 11)
      (λ c. omega (arith, cells_call c, call_told c))
      (λ n. omega (arith, cells_other n))

  -- the values can be stored
  pub assignable : (n : ℕ) (from : List ℕ) → n ≡ get_or file at 0 → 9 * equation_cells file tab k i ≤ length from → Assignable tab rows k (at + 1) n from cells
  assignable n from e g =
      let c : n ≡ length names = e ∙ names_count in
      let s = names_inside n e in
      record {
        inside = omega (arith, s, q.running.program.table.long);
        small = omega (arith, s);
        few = omega (arith, c, names_few);
        given = omega (arith, ap (cells_under_all tab k (at + 1)) c, named_fits, g);
        each = λ j l. name_storable j (omega (arith, c));
      }

  slots_told : (n : ℕ) → n ≡ length (equation_in file k i).names → Slots tab (at + 1) n (node_in file k) (equation_in file k i).names (constant_names (file_at file))
  slots_told n e j l = slot_told j (omega (arith, e))

  -- ---- one value

  module _ (rhs : ℕ) (e : rhs ≡ rhs_in file k i) where
    no_call : scalar_rhs file k rhs ≡ true → ¬ (get_or file (rhs_in file k i) 0 ≡ 11)
    no_call s c =
        no_truth (ap (λ y. not (eqb y 11 || (eqb (get_or file rhs 0) 12 || array_at file k 24 rhs))) (sym (ap (λ a. get_or file a 0) e ∙ c)) ∙ s)

    no_tuple : scalar_rhs file k rhs ≡ true → ¬ (get_or file (rhs_in file k i) 0 ≡ 12)
    no_tuple s c =
        no_truth (go (eqb (get_or file rhs 0) 11) (ap (λ y. not (eqb (get_or file rhs 0) 11 || (eqb y 12 || array_at file k 24 rhs))) (sym (ap (λ a. get_or file a 0) e ∙ c)) ∙ s))
      where
        go : (b : Bool) → not (b || true) ≡ true → false ≡ true
        go true h = h
        go false h = h

    no_array : scalar_rhs file k rhs ≡ true → array_at file k 24 rhs ≡ false
    no_array s = go (eqb (get_or file rhs 0) 11) (eqb (get_or file rhs 0) 12) (array_at file k 24 rhs) s
      where
        go : (a b c : Bool) → not (a || (b || c)) ≡ true → c ≡ false
        go true b c h = no_truth h
        go false true c h = no_truth h
        go false false true h = no_truth h
        go false false false h = refl

    pub right_scalar : scalar_rhs file k rhs ≡ true → ScalarsAt file k 24 1 rhs
    right_scalar s =
        let r = subst (λ (a : ℕ). ReadsAll file 24 1 a) (sym e) plan.plan.reads in
        subst (λ es. Scalars (file_at file).nodes locals (constant_arrays (file_at file).constants) es) (sym (one_tree file 24 rhs r).0) (shape_none (shape_in file k (expr_at file 24 rhs)) (no_array s), tt)

    pub one_done : (first : Bool) (end : Ending) (cells' : List ℕ) {new' : List ℕ} {r : Step Outcome} → scalar_rhs file k rhs ≡ true → EvalsTo file consts 24 rhs k first cells before old r new'
        → end ≡ ending_of (several r.out) → StoresOut tab rows k (at + 1) r.out cells cells' → EquationTo file consts k i first cells before old end cells' new'
    unfolding cells_by
    one_done first end cells' {new'} {r} s h d st =
        let G = eval_in file consts k first cells before (expr_at file 24 rhs) (take (seg_at file 24 rhs) old) in
        let t : rhs_of (expr_at file 24 rhs) ≡ one (expr_at file 24 rhs) = subst (λ a. rhs_of (expr_at file 24 a) ≡ one (expr_at file 24 a)) (sym e) (one_tree_lem (no_call s) (no_tuple s)) in
        let A = array_in file consts k first cells before (expr_at file 24 rhs) in
        let w : several_eval G ≡ W first =
        ap (λ b. cells_by b A (eval_in file consts k first cells before (expr_at file 24 rhs)) (take (seg_at file 24 rhs) old)) (sym (no_array s))
        ∙ ap (λ (x : Rhs). eval_rhs (globals_in file consts) (scope_in file k first cells before) (calls (globals_in file consts)) x (take (seg_at file 24 rhs) old)) (sym t) ∙ right_eval first rhs e in
        subst (λ (x : Evals). Did (λ vs. assign (node_in file k) names vs (values_of (width_in file k) cells)) x end (values_of (width_in file k) cells') new') w
        (record {
          end_is = d ∙ ap (λ (o : Outcome). ending_of (several o)) h.out;
          values_are = go G.out h.out;
          state = no_rest first (seg_used first rhs e) h.state;
        })
      where
        go : (o : Outcome) → r.out ≡ o → Holds (λ vs. assign (node_in file k) (equation_in file k i).names vs (values_of (width_in file k) cells)) (several o) (values_of (width_in file k) cells')
        go (Out.Value v) f =
            let x = get_or names 0 0 in
            let z : at + 1 + 2 * 0 ≡ at + 1 = omega arith in
            st (node_in file k) x (drop 1 names) (constant_names (file_at file)) (typed k q.running.program q.below)
            (subst (λ (a : ℕ). HasSlot tab (variable_names (node_in file k)) (constant_names (file_at file)) (a, x)) z (slot_told 0 names_some)) (v ∷ []) (ap several f)
            ∙ ap (λ (l : List ℕ). assign (node_in file k) l (v ∷ []) (values_of (width_in file k) cells)) (sym (drop-cons names 0 0 names_some))
        go (Out.Failure c) f = tt
        go Out.Overflow f = tt

    -- ---- several values: a call's outputs, a Tuple's items, an array's cells

    -- the right side was evaluated, and its values are in `from`
    abbrev pub Ran : Bool → Ending → List ℕ → List ℕ → Type 0
    Ran first end from new' = Did as_is (W first) end (values_of (cells_under_all tab k (at + 1) (length (equation_in file k i).names)) from) new'

    ran_lem : (first : Bool) {want : Evals} {next used m : ℕ} {r : Step Ending} (from : List ℕ) {new' : List ℕ} → want ≡ W first → used ≡ length old → m ≡ cells_under_all tab k (at + 1) (length (equation_in file k i).names) → RanTo as_is want next used old r (values_of m from) new' → Ran first r.out from new'
    ran_lem first {want} {next} {used} {m} {r} from {new'} w u c h =
        subst (λ x. Did as_is x r.out (values_of (cells_under_all tab k (at + 1) (length names)) from) new') w
        (record { end_is = h.end_is; values_are = subst (λ n. Holds as_is want.out (values_of n from)) c h.values_are; state = no_rest first u h.state })

    -- all are there
    pub ran_done : (first : Bool) (end : Ending) (n : ℕ) (from cells' new' : List ℕ) → n ≡ get_or file at 0 → Ran first end from new' → end ≡ End.Values → Assigns tab rows k (at + 1) n from cells cells' → EquationTo file consts k i first cells before old End.Values cells' new'
    ran_done first end n from cells' new' ne h z a = record { end_is = sym z ∙ h.end_is; values_are = go (W first).out h.values_are (sym z ∙ h.end_is); state = h.state }
      where
        c : n ≡ length (equation_in file k i).names
        c = ne ∙ names_count

        go : (o : Outcomes) → Holds as_is o (values_of (cells_under_all tab k (at + 1) (length (equation_in file k i).names)) from) → End.Values ≡ ending_of o → Holds (λ vs. assign (node_in file k) (equation_in file k i).names vs (values_of (width_in file k) cells)) o (values_of (width_in file k) cells')
        go (values vs) v f =
            a (node_in file k) names (constant_names (file_at file)) (typed k q.running.program q.below) c (slots_told n c)
            ∙ ap (λ us. assign (node_in file k) names us (values_of (width_in file k) cells)) (ap (λ m. values_of (cells_under_all tab k (at + 1) m) from) c ∙ v)
        go (failure d) v f = tt
        go overflow v f = tt

    -- one failed or overflowed
    pub ran_stops : (first : Bool) (end : Ending) (from cells' new' : List ℕ) → Ran first end from new' → ¬ (end ≡ End.Values) → EquationTo file consts k i first cells before old end cells' new'
    ran_stops first end from cells' new' h z = record { end_is = h.end_is; values_are = go (W first).out h.end_is; state = h.state }
      where
        go : (o : Outcomes) → end ≡ ending_of o → Holds (λ vs. assign (node_in file k) (equation_in file k i).names vs (values_of (width_in file k) cells)) o (values_of (width_in file k) cells')
        go (values vs) n = absurd (z n)
        go (failure d) n = tt
        go overflow n = tt

    code_there : {c : ℕ} → get_or file rhs 0 ≡ c → get_or file (rhs_in file k i) 0 ≡ c
    code_there f = ap (λ a. get_or file a 0) (sym e) ∙ f

    code_apart : {c : ℕ} → ¬ (get_or file rhs 0 ≡ c) → ¬ (get_or file (rhs_in file k i) 0 ≡ c)
    code_apart n f = n (ap (λ a. get_or file a 0) e ∙ f)

    -- a call
    pub work_fits : (free : ℕ) → get_or file rhs 0 ≡ 11 → 9 * equation_cells file tab k i ≤ free → 9 * callee_cells file (get_or file (rhs + 1) 0) ≤ free
    work_fits free c g = omega (arith, cells_call (code_there c), ap (λ a. callee_cells file (get_or file (a + 1) 0)) e, g)

    pub call_ran : (first : Bool) {r : Step Ending} (from : List ℕ) {new' : List ℕ} → get_or file rhs 0 ≡ 11 → EntersTo file consts 24 rhs k first cells before old r from new' → Ran first r.out from new'
    call_ran first from c h =
        ran_lem first from (right_eval first rhs e) (seg_used first rhs e) (ap (λ a. output_count (node_in file (get_or file (a + 1) 0))) e ∙ call_told (code_there c)) h

    -- a Tuple: its parts are its items
    tuple_form_lem : get_or file rhs 0 ≡ 12 → Formed file 24 rhs (tuple (exprs_at file 23 (get_or file (rhs + 1) 0) (rhs + 2))) (get_or file (rhs + 1) 0) × (get_or file (rhs + 1) 0 ≤ 16)
    tuple_form_lem c = tuple_form file 24 rhs (subst (Reads file 24) (sym e) reads) c

    tuple_is_listed : get_or file rhs 0 ≡ 12 → Listed file rhs
    tuple_is_listed c = tuple_listed file rhs c (omega (arith, reads_in file 24 place reads, e))

    tuple_parts_are : get_or file rhs 0 ≡ 12 → (arrays_count file rhs ≡ get_or file (rhs + 1) 0) × (arrays_start file rhs ≡ rhs + 2)
    tuple_parts_are c = let t = tuple_is_listed c in (t.count, t.start)

    tuple_of : (P : ℕ → ℕ → Type 0) → get_or file rhs 0 ≡ 12 → P (get_or file (rhs + 1) 0) (rhs + 2) → P (arrays_count file rhs) (arrays_start file rhs)
    tuple_of P c h = let t = tuple_parts_are c in subst (λ m. P m (arrays_start file rhs)) (sym t.0) (subst (P (get_or file (rhs + 1) 0)) (sym t.1) h)

    pub tuple_ready : get_or file rhs 0 ≡ 12 → Ready file tab rows consts 23 (arrays_count file rhs) (arrays_start file rhs) k cells before old new
    tuple_ready c = tuple_of (λ m a. Ready file tab rows consts 23 m a k cells before old new) c (ready_parts (equation_ready rhs e) (tuple_form_lem c).0 refl)

    tuple_cells : get_or file rhs 0 ≡ 12 → all_cells file k 23 (get_or file (rhs + 1) 0) (rhs + 2) ≡ cells_under_all tab k (at + 1) (length (equation_in file k i).names)
    tuple_cells c = ap (λ a. all_cells file k 23 (get_or file (a + 1) 0) (a + 2)) e ∙ tuple_told (code_there c)

    pub tuple_several : (free : ℕ) → get_or file rhs 0 ≡ 12 → 9 * equation_cells file tab k i ≤ free → Several file k 23 rhs free
    tuple_several free c g =
        let t = tuple_form_lem c in
        let n = sym (tuple_is_listed c).callee in
        record {
          inside = omega (arith, t.0.inside);
          few = omega (arith, (tuple_parts_are c).0, t.1);
          given = tuple_of (λ m a. 9 * all_cells file k 23 m a ≤ free) c (omega (arith, tuple_cells c, cells_other (code_apart (λ f. let z : 12 ≡ 11 = sym c ∙ f in omega (arith, z))), g));
          small = subst (λ o. MatchOption o (Unit {0}) (λ k. k < 32)) n tt;
          called = subst (λ o. MatchOption o (Unit {0}) (λ j. (j < nodes_in file) × SuitAt file k 23 (arrays_count file rhs) (arrays_start file rhs) (node_in file j).inputs)) n tt;
        }

    pub tuple_ran : (first : Bool) {r : Step Ending} (from : List ℕ) {new' : List ℕ} → get_or file rhs 0 ≡ 12 → AllTo file consts 23 rhs k first cells before old r from new' → Ran first r.out from new'
    tuple_ran first {r} from {new'} c h =
        let t = (tuple_form_lem c).0 in
        let z = tuple_parts_are c in
        let m = get_or file (rhs + 1) 0 in
        let R = subst (λ (x : ℕ). ReadsAll file 24 1 x) (sym e) plan.plan.reads in
        let used : segs_at file 23 m (rhs + 2) ≡ seg_at file 24 rhs = sym (segs_form file R t refl) ∙ segs_one file 24 rhs R in
        let p : PassedTo file consts None (arrays_count file rhs) 23 (arrays_start file rhs) k first cells before old r from new' =
        subst (λ o. PassedTo file consts o (arrays_count file rhs) 23 (arrays_start file rhs) k first cells before old r from new') (tuple_is_listed c).callee h.0 in
        let p' : PassedTo file consts None m 23 (rhs + 2) k first cells before old r from new' =
        subst (λ n. PassedTo file consts None n 23 (rhs + 2) k first cells before old r from new') z.0 (subst (λ a. PassedTo file consts None (arrays_count file rhs) 23 a k first cells before old r from new') z.1 p) in
        let G = all_in file consts 23 m (rhs + 2) k first cells before (take (segs_at file 23 m (rhs + 2)) old) in
        ran_lem first from
        (ap (λ (y : ℕ). all_in file consts 23 m (rhs + 2) k first cells before (take y old)) used
        ∙ ap (λ (x : Expr). eval_rhs (globals_in file consts) (scope_in file k first cells before) (calls (globals_in file consts)) (rhs_of x) (take (seg_at file 24 rhs) old)) (sym t.tree) ∙ right_eval first rhs e)
        (used ∙ seg_used first rhs e) (tuple_cells c)
        (record { end_is = p'.end_is; next_is = p'.next_is; used_is = p'.used_is; values_are = plain G.out _ p'.values_are; state = p'.state })
      where
        plain : (o : Outcomes) (vs : List Value) → Holds (passed_all file None) o vs → Holds as_is o vs
        plain (values us) vs h = h
        plain (failure d) vs h = tt
        plain overflow vs h = tt

    -- an array
    array_there : scalar_rhs file k rhs ≡ false → ¬ (get_or file rhs 0 ≡ 11) → ¬ (get_or file rhs 0 ≡ 12) → array_at file k 24 rhs ≡ true
    array_there s n m =
        go (array_at file k 24 rhs) ((λ j. not (sym (ne_eqb (get_or file rhs 0) 11 n) j || (sym (ne_eqb (get_or file rhs 0) 12 m) j || array_at file k 24 rhs))) ∙ s)
      where
        go : (b : Bool) → not b ≡ false → b ≡ true
        go true h = refl
        go false h = no_truth (sym h)

    pub array_fits : (free : ℕ) → scalar_rhs file k rhs ≡ false → ¬ (get_or file rhs 0 ≡ 11) → ¬ (get_or file rhs 0 ≡ 12) → 9 * equation_cells file tab k i ≤ free
        → (0 < span_in file k (expr_at file 24 rhs)) × (9 * span_in file k (expr_at file 24 rhs) ≤ free)
    array_fits free s n m g =
        let a = array_there s n m in
        let o = shape_in file k (expr_at file 24 rhs) in
        let l = span_some o (span_long file 24 rhs (equation_ready rhs e).plan) (shape_some o a) in
        (omega (arith, l.0), omega (arith, one_span o a, ap (cells_at file k 24) e, one_told (code_apart n) (code_apart m), cells_other (code_apart n), g))

    pub array_ran : (first : Bool) {r : Step Ending} (from : List ℕ) {new' : List ℕ} → scalar_rhs file k rhs ≡ false → ¬ (get_or file rhs 0 ≡ 11) → ¬ (get_or file rhs 0 ≡ 12) → ArrayTo file consts 24 rhs k first cells before old r from new' → Ran first r.out from new'
    unfolding cells_by
    array_ran first {r} from {new'} s n m h =
        let a = array_there s n m in
        let t : rhs_of (expr_at file 24 rhs) ≡ one (expr_at file 24 rhs) = subst (λ y. rhs_of (expr_at file 24 y) ≡ one (expr_at file 24 y)) (sym e) (one_tree_lem (code_apart n) (code_apart m)) in
        ran_lem first from
        (ap (λ b. cells_by b (array_in file consts k first cells before (expr_at file 24 rhs)) (eval_in file consts k first cells before (expr_at file 24 rhs)) (take (seg_at file 24 rhs) old)) (sym a)
        ∙ ap (λ (x : Rhs). eval_rhs (globals_in file consts) (scope_in file k first cells before) (calls (globals_in file consts)) x (take (seg_at file 24 rhs) old)) (sym t) ∙ right_eval first rhs e)
        (seg_used first rhs e) (one_span (shape_in file k (expr_at file 24 rhs)) a ∙ ap (cells_at file k 24) e ∙ one_told (code_apart n) (code_apart m)) h
