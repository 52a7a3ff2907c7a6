-- Calls over bytes do what the Rust's do: what holds of an instance's record and the Rust's state of it, at every depth, and that a call keeps it.
use Prim.Native.Nat.{ℕ, zero, suc, ◌+◌, ◌<◌, ◌≤◌}
use mathlib.Core.Bool.{Bool, true, false, ◌&&◌}
use mathlib.Core.List.Memᴰ.{append_left as in_left}
use mathlib.Core.List.Memᴰ.{append_right as in_right}
use mathlib.Core.List.Memᴰ.{head as here}
use mathlib.Core.List.Memᴰ.{tail as there}
use mathlib.Core.List.{List, [], ◌∷◌, ◌++◌, map, map-append, append_assoc}
use mathlib.Core.Option.{Option, none, some}
use mathlib.Core.Path.{◌≡◌, refl, sym, ap, ap₂, subst, ◌∙◌}
use native.Mathlib.Omega.{arith}
use lib.ListN.{length, take, drop, get_or, get_elem?, length-append, length-drop, length-map, take-append-drop}
use lib.Seq.{drop_at, length-take-le}
use lib.Dec.{T, ltb, ltb→lt, eqb, eqb→eq}
use Rattle.ol_theory.specs.Member.{◌∈◌, Distinct}
use Rattle.ol_spec.specs.Lists.{maybe, or_else, concat, lookup, all_of}
use Rattle.ol_spec.specs.Syntax.{VarTy, scalar, array, length_in, cell_types, type_cells, variable_cells, NodeKind, Function, Operator, Imported, Variable, Node, File, no_node, variables, variable_names, name_of, rhs_of}
use Rattle.ol_spec.specs.Shapes.{arrays_in, constant_arrays}
use Rattle.ol_spec.specs.Cell.{cells, values_of}
use Rattle.ol_spec.specs.Types.{default, defaults}
use Rattle.ol_spec.specs.Order.{order}
use Rattle.ol_spec.specs.Eval.{Globals, Evals, node_at, values, single}
use Rattle.ol_spec.specs.Step.{sites, own_size, is_fresh, old_cells, outputs_in, started_record, fit_all, Ended, Run, run, fresh_instance, fresh_by, fresh_at, fresh_record, leave_on, leave, instance, call_by, calls_at, cell_count, input_count, output_count, scope, equation_at}
use Rattle.ol_spec.specs.Admission.{variants, constant_cell_names, is_function, is_scalar, takes, scalars}
use Rattle.ol_spec.specs.State.{globals_of}
use Rattle.ol_spec.specs.RustOrder.{evaluation_order}
use Rattle.ol_spec.specs.RustSim.{Env, get, Key, State, state, States, no_states, get_state, remove_state, past, child_calls, prev, default_state, RValue, plain, Given, tuple_unless_one, Ok, Res, first_tick, Ran, for_order, insert_fitted, insert_defaults, reseed, callee_env, extract_output, function_end, operator_end, end_function, end_operator, step_kind, step_ordered, call_ordered, values_arity, step_instance, call_function_values, LoopEnd, done, other_error}
use Rattle.ol_spec.specs.RustState.{cells_of, state_or}
use Rattle.ol_spec.specs.declared.Value.{Value}
use Rattle.ol_spec.specs.declared.Value.TheVariants as Val
use Rattle.ol_spec.proofs.Tests.{T_and, T_true, eq_eqb}
use Rattle.ol_spec.proofs.Lists.{All, all_drop, all_join, distinct_parts}
use Rattle.ol_spec.proofs.Values.{Fine}
use Rattle.ol_spec.proofs.Cells.{AllFine, length_cells, cells_back}
use Rattle.ol_spec.proofs.Forms.{RunnableEqs, may_iterate}
use Rattle.ol_spec.proofs.CellLengths.{types_append, length_values, length_fit_all, start_length}
use Rattle.ol_spec.proofs.Counts.{CountIs, NamesShaped, calls_count}
use Rattle.ol_spec.proofs.Segments.{Rec, Sound}
use Rattle.ol_spec.proofs.Runs.{all_fit_all, RunGood, step_meets, Instance, old_fine, inner_good}
use Rattle.ol_spec.proofs.Calls.{Callable, is_good, iterated, lower_site, calls_sound, to_instance, fresh_main, fresh_rec}
use Rattle.ol_spec.proofs.OneCycle.{NodeOk}
use Rattle.ol_spec.proofs.Names.{lookup_in}
use Rattle.ol_spec.proofs.RustLeaves.{Tells, errs}
use Rattle.ol_spec.proofs.RustOrder.{order_is}
use Rattle.ol_spec.proofs.RustMaps.{get_append, state_hit, state_miss, removed_hit, removed_miss}
use Rattle.ol_spec.proofs.RustShapes.{scalar_is, name_shapes}
use Rattle.ol_spec.proofs.RustEnv.{lookup_left, lookup_right, packs_length, pack_append, named_at_lem, held_fits, Block, block_append, block_over, fitted_block, defaults_block, reseed_block, reseed_none, values_read}
use Rattle.ol_spec.proofs.RustLeaves.{Single, fine_single}
use Rattle.ol_spec.proofs.RustPlaces.{Home, home}
use Rattle.ol_spec.proofs.RustEval.{Told, told, told_err, told_panic, bundled, pack_all, shapes_in, one_scalar, Going, FlatRight, Outside, Each, Sites, sites_none, sites_cons, Seen, Globally, Steps}
use Rattle.ol_spec.proofs.RustRun.{Rels, rels_split, rels_concat, Sorted, Constantly, EnvFor, Sees, GoingEnd, RunFollows, for_follows, TellsEnd, ends, errs_at, panics_at}

-- ---- what is known of a node of an admitted file, for the Rust

pub record NodeRust (f : File) (vs : List Value) (n : Node) : Type 0 where
  pub ok : NodeOk (globals_of f vs) n
  pub known : (i x : ℕ) → x ∈ (equation_at n i).names → x ∈ variable_names n
  pub runs : RunnableEqs f.nodes (arrays_in (variables n)) (constant_arrays f.constants) n.equations
  pub names : (first : Bool) (before cs : List Value) → NamesShaped (globals_of f vs) (scope n first before cs)
  pub seen : All (λ q. Seen (Sees f vs n) q.rhs) n.equations
  pub shaped : All (λ q. FlatRight f.nodes (arrays_in (variables n)) (constant_arrays f.constants) (name_shapes f n q.names) (rhs_of q.rhs) × (1 ≤ length q.names)) n.equations
  pub sorted : Sorted f n
  pub functional : n.kind ≡ Function → (c : ℕ) → c ∈ sites n → ¬ ((node_at (globals_of f vs) c).kind ≡ Operator)

pub record FileRust (f : File) (vs : List Value) : Type 0 where
  pub callable : Callable f vs
  pub constant : Constantly f vs
  pub nodes : (k : ℕ) → k < length f.nodes → NodeRust f vs (get_or f.nodes k no_node)

-- the values of a node's variables, by their cells
abbrev pub held : Node → List Value → List RValue
held n cs = pack_all (shapes_in (variables n)) cs

-- ---- the relation

module _ (f : File) (vs : List Value) where
  abbrev pub g : Globals
  g = globals_of f vs

  abbrev pub p : ℕ → List ℕ → Bool
  p = is_good f vs

  -- the step that was finished last left these cells under the variables' names
  abbrev pub LastIs : Node → List Value → List Env → Type 0
  LastIs n cs [] = Unit {0}
  LastIs n cs (e ∷ es) = (x : ℕ) → x ∈ variable_names n → get x e ≡ lookup x (variable_names n) (held n cs)

  -- what a finished step left under the variables' names has as many cells as they
  abbrev pub Fits : Node → Env → Type 0
  Fits n env = (i : ℕ) (v : Variable) → get_elem? (variables n) i ≡ some v → (u : RValue) → get v.name env ≡ some u → length (cells_of u) ≡ length (variable_cells v)

  -- An instance's record and the Rust's state of it. It is fresh exactly if it finished no step since; its cells are then defaults, and else what the steps that it finished
  -- left under the variables' names; and so for each call site inside. An absent state is the default one.
  pub record InstRel (R : ℕ → List ℕ → Option State → Type 0) (N : ℕ) (n : Node) (r : List ℕ) (st : State) (calls : States) : Type 0 where
    pub fresh : is_fresh r ≡ first_tick st
    pub new : first_tick st ≡ true → old_cells n r ≡ defaults f.enums (cell_types (variables n))
    pub old : first_tick st ≡ false → EnvFor f vs n (old_cells n r) (prev st)
    pub last : LastIs n (old_cells n r) (past st)
    pub fits : All (Fits n) (past st)
    pub inner : Each g p R (home N n) (sites n) 0 (drop (own_size n) r) calls

  abbrev pub RelBy : NodeKind → (ℕ → List ℕ → Option State → Type 0) → ℕ → List ℕ → Option State → Type 0
  RelBy Function R k r o = Unit {0}
  RelBy Operator R k r o = InstRel R k (node_at g k) r (state_or o) (child_calls (state_or o))
  RelBy Imported R k r o = Unit {0}

  -- of a call site of node k, so deep
  abbrev pub RelAt : ℕ → ℕ → List ℕ → Option State → Type 0
  RelAt zero k r o = Unit {0}
  RelAt (suc d) k r o = RelBy (node_at g k).kind (RelAt d) k r o

  rel_other : (d k : ℕ) (r : List ℕ) (o : Option State) → ¬ ((node_at g k).kind ≡ Operator) → RelAt d k r o
  rel_other zero k r o h = tt
  rel_other (suc d) k r o h = go (node_at g k).kind h
    where
      go : (t : NodeKind) → ¬ (t ≡ Operator) → RelBy t (RelAt d) k r o
      go Function h = tt
      go Operator h = absurd (h refl)
      go Imported h = tt

  -- ---- environments

  module _ (n : Node) where
    abbrev pub rest : List Variable
    rest = n.outputs ++ n.locals

    pub names_split : variable_names n ≡ map name_of n.inputs ++ map name_of rest
    names_split = ap (map name_of) (append_assoc n.inputs n.outputs n.locals) ∙ map-append name_of n.inputs rest

    pub split_variables : variables n ≡ n.inputs ++ rest
    split_variables = append_assoc n.inputs n.outputs n.locals

    cells_split : cell_count n ≡ input_count n + length (cell_types rest)
    cells_split = ap (λ l. length (cell_types l)) split_variables ∙ ap length (types_append n.inputs rest) ∙ length-append (cell_types n.inputs) (cell_types rest)

    pub rest_length : (cs : List Value) → length cs ≡ cell_count n → length (drop (input_count n) cs) ≡ length (cell_types rest)
    rest_length cs e = length-drop (input_count n) cs ∙ omega (arith, cells_split)

    pub inputs_length : (cs : List Value) → length cs ≡ cell_count n → length (take (input_count n) cs) ≡ input_count n
    inputs_length cs e = length-take-le (input_count n) cs (omega (arith, cells_split))

    -- the values of the inputs, then those of the others
    pub held_split : (cs ds : List Value) → length cs ≡ input_count n → held n (cs ++ ds) ≡ pack_all (shapes_in n.inputs) cs ++ pack_all (shapes_in rest) ds
    held_split cs ds e = ap (λ l. pack_all (shapes_in l) (cs ++ ds)) split_variables ∙ pack_append n.inputs rest cs ds e

    packs_names : (xs : List Variable) (cs : List Value) → length (pack_all (shapes_in xs) cs) ≡ length (map name_of xs)
    packs_names xs cs = packs_length (shapes_in xs) cs ∙ length-map xs _ ∙ sym (length-map xs name_of)

    module _ (distinct : Distinct (variable_names n)) where
      pub split_distinct : Distinct (map name_of n.inputs ++ map name_of rest)
      split_distinct = subst Distinct names_split distinct

      -- the old values of outputs and locals, by name
      pub old_rest : (cs : List Value) (env : Env) → length cs ≡ cell_count n → ((x : ℕ) → x ∈ variable_names n → get x env ≡ lookup x (variable_names n) (held n cs))
          → (y : ℕ) → y ∈ map name_of rest → get y env ≡ lookup y (map name_of rest) (pack_all (shapes_in rest) (drop (input_count n) cs))
      old_rest cs env e h y m =
          let k = input_count n in
          let a = map name_of n.inputs in
          let b = map name_of rest in
          h y (subst (λ l. y ∈ l) (sym names_split) (in_right a m))
          ∙ ap₂ (λ l c. lookup y l c) names_split (ap (held n) (sym (take-append-drop k cs)) ∙ held_split (take k cs) (drop k cs) (inputs_length cs e))
          ∙ lookup_right y a b (pack_all (shapes_in n.inputs) (take k cs)) (pack_all (shapes_in rest) (drop k cs)) (λ l. (distinct_parts a b split_distinct).2 y l m) (packs_names n.inputs (take k cs))

      -- what a callee reads of its outputs
      pub outputs_read : (cs : List Value) (env : Env) → length cs ≡ cell_count n → ((x : ℕ) → x ∈ variable_names n → get x env ≡ lookup x (variable_names n) (held n cs))
          → extract_output f n env ≡ bundled (shapes_in n.outputs) (outputs_in n cs)
      outputs_read cs env e h =
          let k = output_count n in
          let r = drop (input_count n) cs in
          let a = map name_of n.outputs in
          let b = map name_of n.locals in
          let ab : map name_of rest ≡ a ++ b = map-append name_of n.outputs n.locals in
          let lt : length (take k r) ≡ k = length-take-le k r (omega (arith, rest_length cs e, ap length (types_append n.outputs n.locals), length-append (cell_types n.outputs) (cell_types n.locals))) in
          let d : Distinct (a ++ b) = subst Distinct ab (distinct_parts (map name_of n.inputs) (map name_of rest) split_distinct).1 in
          ap tuple_unless_one (values_read f (λ v. plain (Val.Bool false)) n.outputs (pack_all (shapes_in n.outputs) (take k r)) env (packs_length (shapes_in n.outputs) (take k r) ∙ length-map n.outputs _) (distinct_parts a b d).0
          (λ y m.
          old_rest cs env e h y (subst (λ l. y ∈ l) (sym ab) (in_left b m))
          ∙ ap₂ (λ l c. lookup y l c) ab (ap (pack_all (shapes_in rest)) (sym (take-append-drop k r)) ∙ pack_append n.outputs n.locals (take k r) (drop k r) lt)
          ∙ lookup_left y a b (pack_all (shapes_in n.outputs) (take k r)) (pack_all (shapes_in n.locals) (drop k r)) m (packs_names n.outputs (take k r))))

      -- an environment in which the variables were inserted
      block_of : (cs ds : List Value) (e₀ e₁ e₂ : Env) → length cs ≡ input_count n → Block (map name_of n.inputs) (pack_all (shapes_in n.inputs) cs) e₀ e₁
          → Block (map name_of rest) (pack_all (shapes_in rest) ds) e₁ e₂ → Block (variable_names n) (held n (cs ++ ds)) e₀ e₂
      block_of cs ds e₀ e₁ e₂ l a b =
          let w = block_append split_distinct (packs_names n.inputs cs) a b in
          subst (λ rs. Block (variable_names n) rs e₀ e₂) (sym (held_split cs ds l))
          (subst (λ l. Block l (pack_all (shapes_in n.inputs) cs ++ pack_all (shapes_in rest) ds) e₀ e₂) (sym names_split) w)

      -- and so above what every node shares
      pub inserted : (sorted : Sorted f n) (constant : Constantly f vs) (cs ds : List Value) (e₀ e₁ e₂ : Env) → length cs ≡ input_count n → Globally f (constant_cell_names f) vs e₀
          → Block (map name_of n.inputs) (pack_all (shapes_in n.inputs) cs) e₀ e₁ → Block (map name_of rest) (pack_all (shapes_in rest) ds) e₁ e₂ → EnvFor f vs n (cs ++ ds) e₂
      inserted sorted constant cs ds e₀ e₁ e₂ l sh a b =
          let q = block_of cs ds e₀ e₁ e₂ l a b in
          record {
            vars = q.hit;
            shared = record {
              consts = λ x c. q.miss x (λ m. sorted.no_constant_lem x m (constant.of_cells x c)) ∙ sh.consts x c;
              variants = λ x c. q.miss x (λ m. sorted.no_variant x m c) ∙ sh.variants x c;
            };
          }

      insert_both : (a b : List Variable) (env : Env) → insert_defaults f (a ++ b) env ≡ insert_defaults f b (insert_defaults f a env)
      unfolding insert_defaults
      insert_both [] b env = refl
      insert_both (x ∷ a) b env = insert_both a b _

      defaults_rest : (env : Env) → Block (map name_of rest) (pack_all (shapes_in rest) (defaults f.enums (cell_types rest))) env (insert_defaults f n.locals (insert_defaults f n.outputs env))
      defaults_rest env =
          subst (Block (map name_of rest) (pack_all (shapes_in rest) (defaults f.enums (cell_types rest))) env) (insert_both n.outputs n.locals env)
          (defaults_block f rest env (distinct_parts (map name_of n.inputs) (map name_of rest) split_distinct).1)

      pub fresh_rest : drop (input_count n) (defaults f.enums (cell_types (variables n))) ≡ defaults f.enums (cell_types rest)
      fresh_rest =
          ap (λ l. drop (input_count n) (defaults f.enums l)) (ap cell_types split_variables ∙ types_append n.inputs rest)
          ∙ ap (drop (input_count n)) (map-append (default f.enums) (cell_types n.inputs) (cell_types rest))
          ∙ drop_at (defaults f.enums (cell_types n.inputs)) (defaults f.enums (cell_types rest)) (input_count n) (length-map (cell_types n.inputs) (default f.enums))

      module _ (sorted : Sorted f n) (constant : Constantly f vs) (ws : List Value) (lw : length ws ≡ input_count n) (consts : Env) (sh : Globally f (constant_cell_names f) vs consts) where
        abbrev given : List RValue
        given = pack_all (shapes_in n.inputs) ws

        inputs_block : Block (map name_of n.inputs) (pack_all (shapes_in n.inputs) (fit_all (cell_types n.inputs) ws)) consts (insert_fitted f n.inputs given consts)
        inputs_block = fitted_block f n.inputs ws consts lw (distinct_parts (map name_of n.inputs) (map name_of rest) split_distinct).0

        -- a fresh instance's, and a Function's
        fresh_env : EnvFor f vs n (fit_all (cell_types n.inputs) ws ++ drop (input_count n) (defaults f.enums (cell_types (variables n)))) (callee_env f n given consts)
        fresh_env =
            subst (λ l. EnvFor f vs n (fit_all (cell_types n.inputs) ws ++ l) (callee_env f n given consts)) (sym fresh_rest)
            (inserted sorted constant _ _ consts _ _ (length_fit_all (cell_types n.inputs) ws lw) sh inputs_block (defaults_rest _))

        -- a started instance's
        old_env : (cs : List Value) (before : Env) → length cs ≡ cell_count n → ((x : ℕ) → x ∈ variable_names n → get x before ≡ lookup x (variable_names n) (held n cs))
            → EnvFor f vs n (fit_all (cell_types n.inputs) ws ++ drop (input_count n) cs) (reseed f before rest (callee_env f n given consts))
        old_env cs before e h =
            inserted sorted constant _ _ consts _ _ (length_fit_all (cell_types n.inputs) ws lw) sh inputs_block
            (block_over (defaults_rest _)
            (reseed_block f before rest (pack_all (shapes_in rest) (drop (input_count n) cs)) _ (packs_length (shapes_in rest) (drop (input_count n) cs) ∙ length-map rest _)
            (distinct_parts (map name_of n.inputs) (map name_of rest) split_distinct).1 (old_rest cs before e h)))

      -- what a callee's variables start with, whatever its caller's environment has
      module _ (ws : List Value) (lw : length ws ≡ input_count n) (consts : Env) where
        abbrev put : List RValue
        put = pack_all (shapes_in n.inputs) ws

        fitted : Block (map name_of n.inputs) (pack_all (shapes_in n.inputs) (fit_all (cell_types n.inputs) ws)) consts (insert_fitted f n.inputs put consts)
        fitted = fitted_block f n.inputs ws consts lw (distinct_parts (map name_of n.inputs) (map name_of rest) split_distinct).0

        pub fresh_starts : Block (variable_names n) (held n (fit_all (cell_types n.inputs) ws ++ drop (input_count n) (defaults f.enums (cell_types (variables n))))) consts (callee_env f n put consts)
        fresh_starts =
            subst (λ l. Block (variable_names n) (held n (fit_all (cell_types n.inputs) ws ++ l)) consts (callee_env f n put consts)) (sym fresh_rest)
            (block_of _ _ consts _ _ (length_fit_all (cell_types n.inputs) ws lw) fitted (defaults_rest _))

        pub old_starts : (cs : List Value) (before : Env) → length cs ≡ cell_count n → ((x : ℕ) → x ∈ variable_names n → get x before ≡ lookup x (variable_names n) (held n cs))
            → Block (variable_names n) (held n (fit_all (cell_types n.inputs) ws ++ drop (input_count n) cs)) consts (reseed f before rest (callee_env f n put consts))
        old_starts cs before e h =
            block_of _ _ consts _ _ (length_fit_all (cell_types n.inputs) ws lw) fitted
            (block_over (defaults_rest _)
            (reseed_block f before rest (pack_all (shapes_in rest) (drop (input_count n) cs)) _ (packs_length (shapes_in rest) (drop (input_count n) cs) ∙ length-map rest _)
            (distinct_parts (map name_of n.inputs) (map name_of rest) split_distinct).1 (old_rest cs before e h)))

    -- what a finished step leaves to the next one's `pre`
    pub remembered : (cs : List Value) (env before : Env) → length cs ≡ cell_count n → Constantly f vs → ((x : ℕ) → x ∈ variants f → get x before ≡ none)
        → EnvFor f vs n cs env → EnvFor f vs n cs (env ++ before)
    remembered cs env before e constant h k =
        record {
          vars = λ x m.
              let w = lookup_in x (variable_names n) (held n cs) m (packs_names (variables n) cs) in
              get_append x env before ∙ ap (λ o. or_else o (get x before)) (k.vars x m ∙ w.1) ∙ sym w.1;
          shared = record {
            consts = λ x m.
                let w = constant.known x (constant.of_cells x m) in
                get_append x env before ∙ ap (λ o. or_else o (get x before)) (k.shared.consts x m ∙ w.1) ∙ sym w.1;
            variants = λ x m. get_append x env before ∙ ap (λ o. or_else o (get x before)) (k.shared.variants x m) ∙ h x m;
          };
        }

  -- ---- fresh and started records

  fresh_each : (R : ℕ → List ℕ → Option State → Type 0) (N : Home) (h : ℕ → List ℕ) (ks : List ℕ) (j : ℕ) → ((c : ℕ) → c ∈ ks → Rec g p c (h c) × R c (h c) none)
      → Sites g p R N ks j (concat (map h ks)) no_states
  unfolding get_state
  fresh_each R N h [] j q = sites_none
  fresh_each R N h (k ∷ ks) j q = sites_cons (q k (here refl)).0 (q k (here refl)).1 (fresh_each R N h ks (suc j) (λ c m. q c (there m)))

  true_false : {A : Type 0} → true ≡ false → A
  true_false e = let z : ◌≡◌ {A = ℕ} 0 1 = cc in absurd (omega arith)

  pub fresh_inst : (R : ℕ → List ℕ → Option State → Type 0) (N : ℕ) (n : Node) (h : ℕ → List ℕ) → AllFine (concat f.enums) (defaults f.enums (cell_types (variables n)))
      → ((c : ℕ) → c ∈ sites n → Rec g p c (h c) × R c (h c) none) → InstRel R N n (fresh_instance g h n) default_state no_states
  fresh_inst R N n h fine q =
      let ds = defaults f.enums (cell_types (variables n)) in
      let e : length ds ≡ cell_count n = length-map (cell_types (variables n)) (default f.enums) in
      record {
        fresh = refl;
        new = λ t. ap (λ m. values_of m (cells ds ++ concat (map h (sites n)))) (sym e) ∙ cells_back (concat f.enums) ds _ fine;
        old = λ t. true_false t;
        last = tt;
        fits = tt;
        inner = subst (λ l. Each g p R (home N n) (sites n) 0 l no_states) (sym (drop_at (0 ∷ cells ds) (concat (map h (sites n))) (own_size n) (omega (arith, length_cells ds))))
            (fresh_each R (home N n) h (sites n) 0 q).each;
      }

  pub started_inst : (R : ℕ → List ℕ → Option State → Type 0) (N : ℕ) (n : Node) (cs : List Value) (ss : List (List ℕ)) (env : Env) (st : State) (children calls : States)
      → Constantly f vs → AllFine (concat f.enums) cs → length cs ≡ cell_count n → ((x : ℕ) → x ∈ variants f → get x (prev st) ≡ none)
      → Distinct (variable_names n) → All (Fits n) (past st) → EnvFor f vs n cs env → Rels g p R (home N n) n.equations 0 ss calls → InstRel R N n (started_record cs ss) (state (env ∷ past st) children) calls
  started_inst R N n cs ss env st children calls l fine e h d fit k rels =
      let back : old_cells n (started_record cs ss) ≡ cs = ap (λ m. values_of m (cells cs ++ concat ss)) (sym e) ∙ cells_back (concat f.enums) cs (concat ss) fine in
      record {
        fresh = refl;
        new = λ t. true_false (sym t);
        old = λ t. subst (λ c. EnvFor f vs n c (env ++ prev st)) (sym back) (remembered n cs env (prev st) e l h k);
        last = λ x m. k.vars x m ∙ ap (λ c. lookup x (variable_names n) (held n c)) (sym back);
        fits = (λ i v q u w. held_fits (variables n) cs d e i v q u (sym (k.vars v.name (named_at_lem (variables n) i v q)) ∙ w), fit);
        inner = subst (λ l. Each g p R (home N n) (sites n) 0 l calls) (sym (drop_at (1 ∷ cells cs) (concat ss) (own_size n) (omega (arith, length_cells cs))))
            (rels_concat g p R (home N n) n.equations 0 ss calls rels).each;
      }

  -- what an Operator's variables start with
  pub starts_with : (R : ℕ → List ℕ → Option State → Type 0) (N : ℕ) (n : Node) (r : List ℕ) (st : State) (calls : States) → Distinct (variable_names n) → InstRel R N n r st calls
      → (ws : List Value) (consts : Env) → length ws ≡ input_count n → (x : ℕ) → x ∈ variable_names n
      → get x (reseed f (prev st) (n.outputs ++ n.locals) (callee_env f n (pack_all (shapes_in n.inputs) ws) consts))
      ≡ lookup x (variable_names n) (held n (fit_all (cell_types n.inputs) ws ++ drop (input_count n) (old_cells n r)))
  starts_with R N n r (state [] children) calls q i ws consts lw x m =
      ap (get x) (reseed_none f (n.outputs ++ n.locals) (callee_env f n (pack_all (shapes_in n.inputs) ws) consts)) ∙ (fresh_starts n q ws lw consts).hit x m
      ∙ ap (λ c. lookup x (variable_names n) (held n (fit_all (cell_types n.inputs) ws ++ drop (input_count n) c))) (sym (i.new refl))
  starts_with R N n r (state (e ∷ es) children) calls q i ws consts lw x m =
      (old_starts n q ws lw consts (old_cells n r) (prev (state (e ∷ es) children)) (length_values (cell_count n) (drop 1 r)) (i.old refl).vars).hit x m

  -- no instance remembers a variant's name
  pub no_variants : (R : ℕ → List ℕ → Option State → Type 0) (N : ℕ) (n : Node) (r : List ℕ) (st : State) (calls : States) → InstRel R N n r st calls
      → (x : ℕ) → x ∈ variants f → get x (prev st) ≡ none
  unfolding get
  no_variants R N n r (state [] children) calls i x m = refl
  no_variants R N n r (state (e ∷ es) children) calls i x m = (i.old refl).shared.variants x m

  module _ (F : FileRust f vs) where
    abbrev pub D : ℕ
    D = length f.nodes

    abbrev pub Q : Value → Type 0
    Q = Fine (concat f.enums)

    backs : (v : Value) → Q v → Single v
    backs = fine_single (concat f.enums)

    pub sound : (d : ℕ) → Sound Q g p (calls_at g d)
    sound d = calls_sound F.callable d

    lower : (k c : ℕ) → c ∈ sites (node_at g k) → c < k
    lower k c m = lower_site F.callable k c m

    pub fresh_rel : (d D' k : ℕ) → k < D' → k < D → RelAt d k (fresh_at g D' k) none
    unfolding fresh_at
    fresh_rel zero D' k h b = tt
    fresh_rel (suc d) zero k h b = absurd (omega arith)
    fresh_rel (suc d) (suc D') k h b =
        go (node_at g k).kind
        (λ c m. (fresh_rec F.callable D' c (omega (arith, lower k c m)) (omega (arith, lower k c m)), fresh_rel d D' c (omega (arith, lower k c m)) (omega (arith, lower k c m))))
      where
        go : (t : NodeKind) → ((c : ℕ) → c ∈ sites (node_at g k) → Rec g p c (fresh_at g D' c) × RelAt d c (fresh_at g D' c) none) → RelBy t (RelAt d) k (fresh_by g t (fresh_at g D') (node_at g k)) none
        go Function q = tt
        go Operator q = fresh_inst (RelAt d) k (node_at g k) (fresh_at g D') (F.callable.fresh_fine k) q
        go Imported q = tt

    pub fresh_site : (d k : ℕ) → k < D → InstRel (RelAt d) k (node_at g k) (fresh_record g (node_at g k)) default_state no_states
    fresh_site d k b =
        fresh_inst (RelAt d) k (node_at g k) (fresh_at g D) (F.callable.fresh_fine k)
        (λ c m. (fresh_rec F.callable D c (omega (arith, lower k c m)) (omega (arith, lower k c m)), fresh_rel d D c (omega (arith, lower k c m)) (omega (arith, lower k c m))))

    -- ---- a step of an instance

    module _ (d k : ℕ) (n : Node) (facts : NodeRust f vs n) (steps : Steps f (constant_cell_names f) vs p (RelAt d) Q (calls_at g d) (step_instance f d) (call_function_values f d)) where
      -- the equations, from these cells and this environment
      pub run_follows : (ins : List Value) (r : List ℕ) (st : State) (env : Env) (calls : States) → All Q ins → length ins ≡ input_count n → Instance g p n r
          → InstRel (RelAt d) k n r st calls → EnvFor f vs n (ins ++ drop (input_count n) (old_cells n r)) env
          → RunFollows f vs n facts.sorted F.constant p (RelAt d) Q k calls (run g (calls_at g d) n ins r)
          (for_order f (step_instance f d) (call_function_values f d) k n st (order n.equations) env calls)
      unfolding run
      run_follows ins r st env calls fi li inst i h =
          let old = old_fine F.callable.short inst in
          for_follows f vs n facts.sorted F.constant p (RelAt d) Q k (calls_at g d) (step_instance f d) (call_function_values f d) steps (sound d) facts.ok facts.known facts.runs facts.names facts.seen facts.shaped
          (is_fresh r) (old_cells n r) st (length_values (cell_count n) (drop 1 r)) (sym i.fresh) old backs (λ e. i.old (sym i.fresh ∙ e))
          (order n.equations) _ _ env calls facts.ok.placed.valid.inside (start_length n ins r li)
          (all_join Q ins _ fi (all_drop Q (input_count n) (old_cells n r) old)) h
          (rels_split g p (RelAt d) (home k n) n.equations 0 _ calls (record { good = inner_good inst; each = i.inner }))

    module _ (d k : ℕ) (b' : k < D) (steps : Steps f (constant_cell_names f) vs p (RelAt d) Q (calls_at g d) (step_instance f d) (call_function_values f d)) where
      abbrev n : Node
      n = node_at g k

      facts : NodeRust f vs n
      facts = F.nodes k b'

      abbrev args : List Value → List RValue
      args ws = pack_all (shapes_in n.inputs) ws

      ran_good : (ws : List Value) (r : List ℕ) → All Q ws → length ws ≡ input_count n → Instance g p n r
          → RunGood Q g p n (cell_count n) (run g (calls_at g d) n (fit_all (cell_types n.inputs) ws) r)
      ran_good ws r fw lw inst = step_meets (sound d) n (F.callable.plain k) (F.callable.shaped k) ws r fw lw (old_fine F.callable.short inst) (inner_good inst)

      -- the environment that an Operator starts with
      start_env : (ws : List Value) (r : List ℕ) (st : State) (calls : States) (consts : Env) → length ws ≡ input_count n → InstRel (RelAt d) k n r st calls
          → Globally f (constant_cell_names f) vs consts
          → EnvFor f vs n (fit_all (cell_types n.inputs) ws ++ drop (input_count n) (old_cells n r)) (reseed f (prev st) (n.outputs ++ n.locals) (callee_env f n (args ws) consts))
      start_env ws r (state [] children) calls consts lw i sh =
          subst (EnvFor f vs n (fit_all (cell_types n.inputs) ws ++ drop (input_count n) (old_cells n r))) (sym (reseed_none f (n.outputs ++ n.locals) (callee_env f n (args ws) consts)))
          (subst (λ c. EnvFor f vs n (fit_all (cell_types n.inputs) ws ++ drop (input_count n) c) (callee_env f n (args ws) consts)) (sym (i.new refl))
          (fresh_env n facts.sorted.distinct facts.sorted F.constant ws lw consts sh))
      start_env ws r (state (e ∷ es) children) calls consts lw i sh =
          old_env n facts.sorted.distinct facts.sorted F.constant ws lw consts sh (old_cells n r) (prev (state (e ∷ es) children)) (length_values (cell_count n) (drop 1 r)) (i.old refl).vars

      -- a call, by the callee's kind
      record StepBy (t : NodeKind) (key : Key) (calls : States) (x : Evals) (y : Res Given) : Type 0 where
        out : Told (bundled (shapes_in n.outputs)) x.out y.out
        rel : Going y.out → RelBy t (RelAt d) k x.seg (get_state key y.calls)
        others : (other : Key) → (t ≡ Operator → ¬ (other ≡ key)) → get_state other y.calls ≡ get_state other calls

      operator_step : (key : Key) (ws : List Value) (r : List ℕ) (states : States) (consts : Env) → All Q ws → length ws ≡ input_count n → Instance g p n r
          → InstRel (RelAt d) k n r (state_or (get_state key states)) (child_calls (state_or (get_state key states))) → Globally f (constant_cell_names f) vs consts
          → StepBy Operator key states (instance g (calls_at g d) n ws r) (step_kind f (step_instance f d) (call_function_values f d) Operator key k n (order n.equations) (callee_env f n (args ws) consts) states)
      unfolding instance leave end_operator
      operator_step key ws r states consts fw lw inst i sh =
          go u.end v.end w.end w.env w.segs
        where
          sub : State
          sub = state_or (get_state key states)

          env₀ : Env
          env₀ = reseed f (prev sub) (n.outputs ++ n.locals) (callee_env f n (args ws) consts)

          u : Run
          u = run g (calls_at g d) n (fit_all (cell_types n.inputs) ws) r

          v : Ran
          v = for_order f (step_instance f d) (call_function_values f d) k n sub (order n.equations) env₀ (child_calls sub)

          w : RunFollows f vs n facts.sorted F.constant p (RelAt d) Q k (child_calls sub) u v
          w =
              run_follows d k n facts steps (fit_all (cell_types n.inputs) ws) r sub env₀ (child_calls sub) (all_fit_all (sound d).closed (cell_types n.inputs) ws fw) (length_fit_all (cell_types n.inputs) ws lw) inst i
              (start_env ws r sub (child_calls sub) consts lw i sh)

          good : RunGood Q g p n (cell_count n) u
          good = ran_good ws r fw lw inst

          new : State
          new = state (v.env ∷ past sub) v.calls

          go : (e : Ended) (l : LoopEnd) → TellsEnd e l → (l ≡ done → EnvFor f vs n u.cells v.env) → (GoingEnd l → Rels g p (RelAt d) (home k n) n.equations 0 u.segs v.calls)
              → StepBy Operator key states (leave_on g n r e u.cells u.segs) (operator_end f n key sub l v.env v.calls (remove_state key states))
          go _ _ ends a b =
              record {
                out = subst (λ o. Told (bundled (shapes_in n.outputs)) (values (outputs_in n u.cells)) (Ok o)) (sym (outputs_read n facts.sorted.distinct u.cells v.env good.counted (a refl).vars)) (told _);
                rel = λ t.
                    subst (λ o. InstRel (RelAt d) k n (started_record u.cells u.segs) (state_or o) (child_calls (state_or o))) (sym (state_hit key new (remove_state key states)))
                    (started_inst (RelAt d) k n u.cells u.segs v.env sub v.calls v.calls F.constant good.fine good.counted
                    (no_variants (RelAt d) k n r sub (child_calls sub) i) facts.sorted.distinct i.fits (a refl) (b tt));
                others = λ other h. state_miss other key new (remove_state key states) (h refl) ∙ removed_miss other key states (h refl);
              }
          go _ _ (errs_at e j) a b =
              record {
                out = told_err e;
                rel = λ t. subst (λ o. InstRel (RelAt d) k n (fresh_record g n) (state_or o) (child_calls (state_or o))) (sym (removed_hit key states)) (fresh_site d k b');
                others = λ other h. removed_miss other key states (h refl);
              }
          go _ _ (panics_at j) a b = record { out = told_panic; rel = λ t. absurd t; others = λ other h. removed_miss other key states (h refl) }

      -- no Operator is called in a Function
      all_outside : (ks : List ℕ) (j : ℕ) (key : Key) → ((c : ℕ) → c ∈ ks → ¬ ((node_at g c).kind ≡ Operator)) → Outside g (home k n) ks j key
      all_outside [] j key h = tt
      all_outside (c ∷ ks) j key h = (λ o. absurd (h c (here refl) o), all_outside ks (suc j) key (λ c m. h c (there m)))

      all_rel : (ks : List ℕ) (j : ℕ) (s : List ℕ) (calls : States) → ((c : ℕ) → c ∈ ks → ¬ ((node_at g c).kind ≡ Operator)) → Each g p (RelAt d) (home k n) ks j s calls
      all_rel [] j s calls h = tt
      all_rel (c ∷ ks) j s calls h = (rel_other d c _ _ (h c (here refl)), all_rel ks (suc j) _ calls (λ c m. h c (there m)))

      function_step : (key : Key) (ws : List Value) (r : List ℕ) (states : States) (consts : Env) → n.kind ≡ Function → All Q ws → length ws ≡ input_count n
          → Globally f (constant_cell_names f) vs consts
          → StepBy Function key states (call_by g Function (calls_at g d) n ws r) (step_kind f (step_instance f d) (call_function_values f d) Function key k n (order n.equations) (callee_env f n (args ws) consts) states)
      unfolding instance leave end_function
      function_step key ws r states consts is_function_lem fw lw sh =
          go u.end v.end w.end w.env
        where
          none_inside : (c : ℕ) → c ∈ sites n → ¬ ((node_at g c).kind ≡ Operator)
          none_inside = facts.functional is_function_lem

          site : InstRel (RelAt d) k n (fresh_record g n) default_state no_states
          site = fresh_site d k b'

          -- in its caller's call states nothing is its own
          i : InstRel (RelAt d) k n (fresh_record g n) default_state states
          i = record { fresh = site.fresh; new = site.new; old = site.old; last = site.last; fits = site.fits; inner = all_rel (sites n) 0 _ states none_inside }

          u : Run
          u = run g (calls_at g d) n (fit_all (cell_types n.inputs) ws) (fresh_record g n)

          v : Ran
          v = for_order f (step_instance f d) (call_function_values f d) k n default_state (order n.equations) (callee_env f n (args ws) consts) states

          w : RunFollows f vs n facts.sorted F.constant p (RelAt d) Q k states u v
          w =
              run_follows d k n facts steps (fit_all (cell_types n.inputs) ws) (fresh_record g n) default_state (callee_env f n (args ws) consts) states (all_fit_all (sound d).closed (cell_types n.inputs) ws fw) (length_fit_all (cell_types n.inputs) ws lw)
              (fresh_main F.callable k b') i
              (subst (λ c. EnvFor f vs n (fit_all (cell_types n.inputs) ws ++ drop (input_count n) c) (callee_env f n (args ws) consts)) (sym (site.new refl))
              (fresh_env n facts.sorted.distinct facts.sorted F.constant ws lw consts sh))

          good : RunGood Q g p n (cell_count n) u
          good = ran_good ws (fresh_record g n) fw lw (fresh_main F.callable k b')

          kept : (other : Key) → get_state other v.calls ≡ get_state other states
          kept other = w.frame.same other (all_outside (sites n) 0 other none_inside)

          go : (e : Ended) (l : LoopEnd) → TellsEnd e l → (l ≡ done → EnvFor f vs n u.cells v.env)
              → StepBy Function key states (record { out = (leave_on g n (fresh_record g n) e u.cells u.segs).out; seg = r }) (function_end f n l v.env v.calls)
          go _ _ ends a =
              record {
                out = subst (λ o. Told (bundled (shapes_in n.outputs)) (values (outputs_in n u.cells)) (Ok o)) (sym (outputs_read n facts.sorted.distinct u.cells v.env good.counted (a refl).vars)) (told _);
                rel = λ t. tt;
                others = λ other h. kept other;
              }
          go _ _ (errs_at e j) a = record { out = told_err e; rel = λ t. tt; others = λ other h. kept other }
          go _ _ (panics_at j) a = record { out = told_panic; rel = λ t. tt; others = λ other h. kept other }

      ordered : evaluation_order n ≡ some (order n.equations)
      ordered = order_is n ∙ ap (maybe (some (order n.equations)) (λ i. none)) facts.ok.placed.none_left

      step_by : (key : Key) (ws : List Value) (r : List ℕ) (states : States) (consts : Env) → All Q ws → length ws ≡ input_count n → Rec g p k r
          → RelAt (suc d) k r (get_state key states) → Globally f (constant_cell_names f) vs consts
          → StepBy n.kind key states (call_by g n.kind (calls_at g d) n ws r) (step_ordered f (step_instance f d) (call_function_values f d) (evaluation_order n) key k n (callee_env f n (args ws) consts) states)
      step_by key ws r states consts fw lw rec i sh =
          subst (λ o. StepBy n.kind key states (call_by g n.kind (calls_at g d) n ws r) (step_ordered f (step_instance f d) (call_function_values f d) o key k n (callee_env f n (args ws) consts) states)) (sym ordered)
          (go n.kind refl i)
        where
          go : (t : NodeKind) → n.kind ≡ t → RelBy t (RelAt d) k r (get_state key states)
              → StepBy t key states (call_by g t (calls_at g d) n ws r) (step_kind f (step_instance f d) (call_function_values f d) t key k n (order n.equations) (callee_env f n (args ws) consts) states)
          go Function e i = function_step key ws r states consts e fw lw sh
          go Operator e i = operator_step key ws r states consts fw lw (to_instance F.callable k r b' e rec) i sh
          go Imported e i = record { out = told_err other_error; rel = λ t. tt; others = λ other h. refl }

      -- ---- one call of an iterator

      -- inputs and outputs that are scalars
      scalar_packs : (xs : List Variable) (ws : List Value) → T (all_of is_scalar xs) → length ws ≡ length xs → pack_all (shapes_in xs) ws ≡ map plain ws
      scalar_packs [] [] t e = refl
      scalar_packs [] (w ∷ ws) t e = absurd (omega arith)
      scalar_packs (x ∷ xs) [] t e = absurd (omega arith)
      scalar_packs (x ∷ xs) (w ∷ ws) t e =
          let v = T_and (is_scalar x) _ t in
          ap (λ o. pack_all (o ∷ shapes_in xs) (w ∷ ws)) (scalar_is (length_in x.ty) v.0) ∙ ap (λ l. plain w ∷ l) (scalar_packs xs ws v.1 (omega arith))

      one_shape : (xs : List Variable) → T (all_of is_scalar xs) → length xs ≡ 1 → (shapes_in xs ≡ none ∷ []) × (length (cell_types xs) ≡ 1)
      one_shape [] t e = absurd (omega arith)
      one_shape (x ∷ []) t e = go x.ty (T_and (is_scalar x) _ t).0
        where
          go : (y : VarTy) → T (takes scalars (length_in y)) → (length_in y ∷ [] ≡ none ∷ []) × (length (type_cells y ++ []) ≡ 1)
          go (scalar y) t = (refl, refl)
          go (array m y) t = absurd t
      one_shape (x ∷ y ∷ xs) t e = absurd (omega arith)

      iterate_by : (ws : List Value) (env : Env) → T (may_iterate f.nodes k (length ws)) → All Q ws → Globally f (constant_cell_names f) vs env
          → Tells (single (calls_at g (suc d) k ws []).out) (call_function_values f (suc d) k (map plain ws) env)
      unfolding calls_at call_function_values
      iterate_by ws env t fw sh =
          let w = iterated f k (length ws) t in
          let v = T_and (ltb k D) _ t in
          let a4 = T_and (is_function n.kind && eqb (length n.inputs) (length ws) && eqb (length n.outputs) 1 && all_of is_scalar n.inputs) _ v.1 in
          let a3 = T_and (is_function n.kind && eqb (length n.inputs) (length ws) && eqb (length n.outputs) 1) _ a4.0 in
          let a2 = T_and (is_function n.kind && eqb (length n.inputs) (length ws)) _ a3.0 in
          let a1 = T_and (is_function n.kind) _ a2.0 in
          let size : length n.inputs ≡ length ws = eqb→eq (length n.inputs) (length ws) a1.1 in
          let outs = one_shape n.outputs a4.1 (eqb→eq (length n.outputs) 1 a2.1) in
          let lw : length ws ≡ input_count n = eqb→eq (length ws) (input_count n) (T_and (ltb k D) _ w.2).1 in
          let arity : eqb (length (map plain ws)) (length n.inputs) ≡ true = T_true _ (eq_eqb (length (map plain ws)) (length n.inputs) (length-map ws plain ∙ sym size)) in
          let packs : pack_all (shapes_in n.inputs) ws ≡ map plain ws = scalar_packs n.inputs ws a3.1 (sym size) in
          let st = function_step (0, 0) ws [] no_states env w.1 fw lw sh in
          let count : CountIs 1 (call_by g Function (calls_at g d) n ws []).out = subst (λ m. CountIs m (call_by g Function (calls_at g d) n ws []).out) outs.1
          (subst (λ (t : NodeKind). CountIs (output_count n) (call_by g t (calls_at g d) n ws []).out) w.1 (calls_count g (suc d) k ws [] w.2)) in
          subst (λ t. Tells (single (call_by g t (calls_at g d) n ws []).out) (call_function_values f (suc d) k (map plain ws) env)) (sym w.1)
          (subst (λ b. Tells (single (call_by g Function (calls_at g d) n ws []).out) (values_arity f b (call_ordered f (step_instance f d) (call_function_values f d) (evaluation_order n) k n (callee_env f n (map plain ws) env)))) (sym arity)
          (subst (λ o. Tells (single (call_by g Function (calls_at g d) n ws []).out) (call_ordered f (step_instance f d) (call_function_values f d) o k n (callee_env f n (map plain ws) env))) (sym ordered)
          (subst (λ rs. Tells (single (call_by g Function (calls_at g d) n ws []).out) (end_function f n (for_order f (step_instance f d) (call_function_values f d) k n default_state (order n.equations) (callee_env f n rs env) no_states)).out) packs
          (one_scalar (shapes_in n.outputs) _ _ outs.0 count st.out))))

    -- ---- calls, so deep

    pub calls_follow : (d : ℕ) → Steps f (constant_cell_names f) vs p (RelAt d) Q (calls_at g d) (step_instance f d) (call_function_values f d)
    unfolding calls_at step_instance call_function_values
    calls_follow zero =
        record {
          steps = λ key k ws r states env t im fw rec i sh. record { out = told_err other_error; record_is = λ t. tt; others = λ other h. refl };
          iterates = λ k ws env t fw sh. errs other_error;
        }
    calls_follow (suc d) =
        record {
          steps = λ key k ws r states env t im fw rec i sh.
              let w = T_and (ltb k D) _ t in
              let u = step_by d k (ltb→lt k D w.0) (calls_follow d) key ws r states env fw (eqb→eq (length ws) (input_count (node_at g k)) w.1) rec i sh in
              record { out = u.out; record_is = u.rel; others = u.others };
          iterates = λ k ws env t fw sh. iterate_by d k (ltb→lt k D (T_and (ltb k D) _ t).0) (calls_follow d) ws env t fw sh;
        }
