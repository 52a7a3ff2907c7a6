-- The 1991 paper's `pre` and `->` in every instance: specs/Instances' claim.
use Prim.Native.Nat.{ℕ, zero, suc, ◌+◌, ◌-◌, ◌<◌}
use mathlib.Core.Bool.{Bool, false, cond}
use mathlib.Core.List.Memᴰ.{head as here}
use mathlib.Core.List.Memᴰ.{tail as there}
use mathlib.Core.List.{List, [], ◌∷◌, ◌++◌, map, append-nil, reverse, reverse-cons, reverse_aux}
use mathlib.Core.Logic.{◌↔◌, by_cases}
use mathlib.Core.Option.{Option, none, some}
use mathlib.Core.Path.{◌≡◌, refl, sym, ap, ap₂, subst, ◌∙◌}
use native.Mathlib.Omega.{arith}
use native.Mathlib.Decide.{ℕ_discrete}
use lib.ListN.{length, take, drop, get_elem?, length-map}
use lib.Dec.{T, eqb, eqb→eq}
use Rattle.ol_theory.specs.Member.{◌∈◌, Distinct}
use Rattle.ol_spec.specs.Lists.{member, maybe, or_else, concat, lookup}
use Rattle.ol_spec.specs.Syntax.{NodeKind, Function, Operator, Imported, Node, File, Expr, bool_lit, var, if_then_else, main, variables, variable_names, variable_cells, cell_types, cell_names, name_of, name_in, length_in, Variable, Constant, constant_name}
use Rattle.ol_spec.specs.Syntax as S
use Rattle.ol_spec.specs.Types.{defaults}
use Rattle.ol_spec.specs.Order.{order}
use Rattle.ol_spec.specs.Limits.{Loader}
use Rattle.ol_spec.specs.Eval.{Globals, Calls, Evals, no_value_of, cells_named, length_named, node_at, record_size}
use Rattle.ol_spec.specs.Step.{cell_count, input_count, sites, own_size, is_fresh, old_cells, old_segs, scope, fit_all, run_all, run, fresh_record, leave, instance, call_by, calls_at, calls}
use Rattle.ol_spec.specs.Admission.{constant_names, constant_cell_names, judge, admitted, head_size}
use Rattle.ol_spec.specs.State.{globals_of, fresh_state}
use Rattle.ol_spec.specs.Cycle.{main_run, cycle}
use Rattle.ol_spec.specs.Cell.{values_of}
use Rattle.ol_spec.specs.Demand3.{Turn, history}
use Rattle.ol_spec.specs.Lustre.{always, firstly, cells_before, Entries, run_at, answers, or_cold}
use Rattle.ol_spec.specs.RustOrder.{evaluation_order}
use Rattle.ol_spec.specs.RustSim.{width, RValue, plain, Env, get, State, state, States, get_state, remove_state, past, prev, child_calls, Err, uninitialized_pre, other_error, ok_or, first_tick, pre_value, choose, branch, StepInstance, CallValues, call_function_values, call_values, values_arity, call_ordered, Sim, for_order, reseed, callee_env, end_operator, step_kind, step_ordered, step_instance, step, seed, step_env}
use Rattle.ol_spec.specs.RustSim as Rust
use Rattle.ol_spec.specs.RustState.{cells_of, all_cells, state_or, calls_of}
use Rattle.ol_spec.specs.AsRust.{named}
use Rattle.ol_spec.specs.Instances.{valued, values_in, cells_or, constant_in, sequence_in, eval_on, AtPast, CallRuns, FunctionRuns, MainRuns, AtSites, AtKind, AtSite, Everywhere, AllAtPast, InstancesClaim}
use Rattle.ol_spec.specs.declared.Value.{Value}
use Rattle.ol_spec.proofs.Tests.{member_in, T_true, T_false, eq_eqb}
use Rattle.ol_spec.proofs.Lists.{All, all_get, all_join, or_nothing}
use Rattle.ol_spec.proofs.Slots.{type_cells_lem}
use Rattle.ol_spec.proofs.CellLengths.{length_values}
use Rattle.ol_spec.proofs.Calls.{lower_site}
use Rattle.ol_spec.proofs.Admitted.{Facts, constant_ty}
use Rattle.ol_spec.proofs.States.{is_main, made}
use Rattle.ol_spec.proofs.PreArrow.{arrow_is, get_next, defaults_each, cells_by_lem, constant_cells_lem, pre_cold, pre_found, cold_at}
use Rattle.ol_spec.proofs.RustOrder.{order_is}
use Rattle.ol_spec.proofs.RustEval.{pack_one, pack_all, size_of, shapes_in, name_is, Each}
use Rattle.ol_spec.proofs.RustRun.{Constantly, variable_name, constant_name_lem}
use Rattle.ol_spec.proofs.RustFile.{values_of_constants}
use Rattle.ol_spec.proofs.RustCalls.{NodeRust, FileRust, held, Fits, InstRel, RelBy, RelAt, p, fresh_site, fresh_starts, starts_with}
use Rattle.ol_spec.proofs.RustPlaces.{callee_of, sites_are, Home, home, key_at, Lie, lie_all}
use Rattle.ol_spec.proofs.RustEnv.{head_pack, packs_length, cells_back, held_is, lookup_here, lookup_skip, values_read}
use Rattle.ol_spec.proofs.AsRust.{named_is, named_block, MainRel, env_ok, past_of, main_facts, turn_tells, opened}

length_reverse : {A : Type 0} (l r : List A) → length (reverse_aux l r) ≡ length (reverse_aux l []) + length r
length_reverse [] r = omega arith
length_reverse (x ∷ l) r = length_reverse l (x ∷ r) ∙ omega (arith, length_reverse l (x ∷ []))

same_length : {A : Type 0} (l : List A) → length l ≡ length (reverse l)
same_length [] = refl
same_length (x ∷ l) = omega (arith, same_length l, length_reverse l (x ∷ []))

-- the last one, of a list that is kept newest first
newest : {A : Type 0} (e : A) (es : List A) → get_elem? (reverse (e ∷ es)) (length es) ≡ some e
newest e es = ap (λ l. get_elem? l (length es)) (reverse-cons e es) ∙ ap (get_elem? (reverse es ++ e ∷ [])) (same_length es) ∙ get_next (reverse es) e []

all_reverse : {A : Type 0} (P : A → Type 0) (l : List A) → All P l → All P (reverse l)
all_reverse P [] h = tt
all_reverse P (x ∷ l) h = subst (All P) (sym (reverse-cons x l)) (all_join P (reverse l) (x ∷ []) (all_reverse P l h.1) (h.0, tt))

module _ (f : File) (vs : List Value) where
  abbrev g : Globals
  g = globals_of f vs

  -- in the Rust a chosen side is a condition's
  rust_arrow : (k : ℕ) (st : State) (a b : Expr) (step : StepInstance) (values : CallValues) (env : Env) (at : ℕ) (calls : States)
      → Rust.eval f step values k env st at (S.arrow a b) calls
      ≡ choose (first_tick st) (branch f step values k env st a (Rust.eval f step values k env st (suc at) a)) (branch f step values k env st b (Rust.eval f step values k env st (suc at + width a) b)) calls
  unfolding Rust.eval
  rust_arrow k st a b step values env at calls = refl

  rust_pre : (k : ℕ) (x : ℕ) (st : State) (step : StepInstance) (values : CallValues) (env : Env) (at : ℕ) (calls : States)
      → (Rust.eval f step values k env st at (S.pre (var x)) calls).out ≡ pre_value st (first_tick st) (some x)
  unfolding Rust.eval
  rust_pre k x st step values env at calls = refl

  -- in the Rust a `pre` is uninitialized exactly at a first tick
  started : (st : State) (o : Option ℕ) → ¬ (pre_value st false o ≡ Err uninitialized_pre)
  started st none h = let z : ◌≡◌ {A = ℕ} 0 1 = cc in omega arith
  started st (some x) h = go (get x (prev st)) h
    where
      go : (o : Option RValue) → ¬ (ok_or other_error o ≡ Err uninitialized_pre)
      go none h = let z : ◌≡◌ {A = ℕ} 0 1 = cc in omega arith
      go (some v) h = let z : ◌≡◌ {A = ℕ} 0 1 = cc in omega arith

  rust_cold_is : (k : ℕ) (st : State) (e : Expr) (step : StepInstance) (values : CallValues) (env : Env) (at : ℕ) (calls : States)
      → ((Rust.eval f step values k env st at (S.pre e) calls).out ≡ Err uninitialized_pre) ↔ (Rust.cycle st ≡ 0)
  unfolding Rust.eval
  rust_cold_is k (state [] c) e step values env at calls = (λ h. refl, λ z. refl)
  rust_cold_is k (state (p ∷ ps) c) e step values env at calls = (λ h. absurd (started (state (p ∷ ps) c) (name_in e) h), λ z. absurd (omega arith))

  constant_in_lem : (cs : List Constant) (us : List Value) (x : ℕ) → constant_in cs us x ≡ lookup x (map constant_name cs) (values_of_constants cs us)
  constant_in_lem [] us x = refl
  constant_in_lem (c ∷ cs) us x =
      let o = length_in c.ty in
      ap₂ (λ v m. cond (eqb x c.name) (some v) (constant_in cs (drop m us) x)) (named_is c.ty us) (type_cells_lem c.ty)
      ∙ by_cases (ℕ_discrete x c.name)
      (λ q. ap (λ b. cond b (some (pack_one o (take (size_of o) us))) (constant_in cs (drop (size_of o) us) x)) (T_true (eqb x c.name) (eq_eqb x c.name q))
      ∙ sym (lookup_here x c.name (map constant_name cs) (pack_one o (take (size_of o) us)) (values_of_constants cs (drop (size_of o) us)) q))
      (λ q. ap (λ b. cond b (some (pack_one o (take (size_of o) us))) (constant_in cs (drop (size_of o) us) x)) (T_false (eqb x c.name) (λ t. q (eqb→eq x c.name t))) ∙ constant_in_lem cs (drop (size_of o) us) x
      ∙ sym (lookup_skip x c.name (map constant_name cs) (pack_one o (take (size_of o) us)) (values_of_constants cs (drop (size_of o) us)) q))
      ∙ sym (ap (lookup x (map constant_name (c ∷ cs))) (head_pack o (map (λ c. length_in c.ty) cs) us))

  module _ (A : Facts f vs) (constant : Constantly f vs) where
    -- the old cells are those that pre gives
    cells_past : (R : ℕ → List ℕ → Option State → Type 0) (N : ℕ) (n : Node) (r : List ℕ) (st : State) (calls : States) → NodeRust f vs n → InstRel f vs R N n r st calls
        → old_cells n r ≡ cells_before f.enums n (sequence_in st) (Rust.cycle st)
    cells_past R N n r (state [] c) calls facts i = i.new refl ∙ defaults_each f.enums (variables n)
    cells_past R N n r (state (e ∷ es) c) calls facts i =
        let old = old_cells n r in
        let l : length old ≡ cell_count n = length_values (cell_count n) (drop 1 r) in
        sym (cells_by_lem (variables n) (λ x. get x e) (λ x. cells_or (get x e)) (λ v. defaults f.enums (variable_cells v)) (λ v. plain no_value_of)
        (λ x m. let u = variable_name f vs n facts.sorted constant x old none l m in let q = i.last x m ∙ u.1 in (u.0, q, ap cells_or q))
        ∙ ap all_cells (values_read f (λ v. plain no_value_of) (variables n) (held n old) e (packs_length (shapes_in (variables n)) old ∙ length-map (variables n) _) facts.sorted.distinct i.last)
        ∙ cells_back (variables n) old l)
        ∙ ap (λ o. concat (map (λ v. maybe (defaults f.enums (variable_cells v)) (λ w. w) (cells_or (maybe none (get v.name) o))) (variables n))) (sym (newest e es))

    -- the entries of an instance's sequences are its variables' cells
    entries_past : (R : ℕ → List ℕ → Option State → Type 0) (N : ℕ) (n : Node) (r : List ℕ) (st : State) (calls : States) → InstRel f vs R N n r st calls → Entries n (sequence_in st)
    entries_past R N n r st calls h i v q k ws e = by_step (get_elem? (reverse (past st)) k) refl e
      where
        by_value : (env : Env) → Fits f vs n env → (u : Option RValue) → get v.name env ≡ u → cells_or u ≡ some ws → length ws ≡ length (variable_cells v)
        by_value env fit none g e = let z : ◌≡◌ {A = ℕ} 0 1 = cc in absurd (omega arith)
        by_value env fit (some u) g e = let z : cells_of u ≡ ws = cc in ap length (sym z) ∙ fit i v q u g

        by_step : (o : Option Env) → get_elem? (reverse (past st)) k ≡ o → cells_or (maybe none (get v.name) o) ≡ some ws → length ws ≡ length (variable_cells v)
        by_step none g e = let z : ◌≡◌ {A = ℕ} 0 1 = cc in absurd (omega arith)
        by_step (some env) g e = by_value env (all_get (Fits f vs n) (reverse (past st)) k env (all_reverse (Fits f vs n) (past st) h.fits) g) (get v.name env) refl e

    at_past : (R : ℕ → List ℕ → Option State → Type 0) (N : ℕ) (n : Node) (r : List ℕ) (st : State) (calls : States) → NodeRust f vs n → InstRel f vs R N n r st calls
        → AtPast f vs N n r st
    at_past R N n r (state [] c) calls facts i =
        record {
          first = i.fresh;
          entries = entries_past R N n r (state [] c) calls i;
          cells = cells_past R N n r (state [] c) calls facts i;
          before = λ x t calls cs seg. pre_cold g (scope n (is_fresh r) (old_cells n r) cs) calls (var x) seg i.fresh;
          constants = λ x t calls cs seg. pre_cold g (scope n (is_fresh r) (old_cells n r) cs) calls (var x) seg i.fresh;
          takes = λ a b calls cs seg.
              arrow_is g (scope n (is_fresh r) (old_cells n r) cs) calls a b seg ∙ ap (λ t. eval_on f vs n r calls cs (if_then_else (bool_lit t) a b) seg) i.fresh;
          rust_before = λ x t step values env at calls. rust_pre N x (state [] c) step values env at calls;
          rust_constants = λ x t step values env at calls. rust_pre N x (state [] c) step values env at calls;
          cold = λ d calls cs seg. cold_at g (scope n (is_fresh r) (old_cells n r) cs) calls (Rust.cycle (state [] c)) i.fresh d seg;
          rust_cold = rust_cold_is N (state [] c);
          rust_takes = rust_arrow N (state [] c);
        }
    at_past R N n r (state (e ∷ es) c) calls facts i =
        let old = old_cells n r in
        let old_length : length old ≡ cell_count n = length_values (cell_count n) (drop 1 r) in
        let last_is : (x : ℕ) → x ∈ variable_names n → (v : Option Value) → (u : RValue) × (get x (prev (state (e ∷ es) c)) ≡ some u) × (values_in (state (e ∷ es) c) x (length es) ≡ some u) × (name_is (length_named g (scope n (is_fresh r) old []) x) (or_else (lookup x (cell_names (variables n)) old) v) (or_else (cells_named x (cell_names (variables n)) old) (cells_named x (constant_cell_names f) vs)) ≡ some u) =
        λ x m v.
        let u = variable_name f vs n facts.sorted constant x old v old_length m in
        (u.0, (i.old refl).vars x m ∙ u.1, ap (maybe none (get x)) (newest e es) ∙ i.last x m ∙ u.1, u.3) in
        let constant_is_lem : (x : ℕ) → T (member x (constant_names f)) → (u : RValue) × (get x (prev (state (e ∷ es) c)) ≡ some u) × (constant_in f.constants vs x ≡ some u) × (cells_named x (constant_cell_names f) vs ≡ some (cells_of u)) × (name_is (length_named g (scope n (is_fresh r) old []) x) (or_else (lookup x (cell_names (variables n)) old) (lookup x (constant_cell_names f) vs)) (or_else (cells_named x (cell_names (variables n)) old) (cells_named x (constant_cell_names f) vs)) ≡ some u) =
        λ x t.
        let m = member_in x (constant_names f) t in
        let u = constant_name_lem f vs n facts.sorted constant x old none (λ k. facts.sorted.no_constant_lem x k m) m in
        let w = u.1 in (
          u.0,
          (i.old refl).shared.consts x (constant.in_cells x m) ∙ w,
          constant_in_lem f.constants vs x ∙ held_is constant_name constant_ty f.constants vs x constant.distinct_names A.constant_count constant.all_filled m ∙ w,
          constant_cells_lem f vs A constant x m u.0 w,
          ap (λ z. name_is (length_named g (scope n (is_fresh r) old []) x) (or_else (lookup x (cell_names (variables n)) old) z) (or_else (cells_named x (cell_names (variables n)) old) (cells_named x (constant_cell_names f) vs))) (sym (or_nothing (lookup x (constant_cell_names f) vs))) ∙ u.2,
        ) in
        record {
          first = i.fresh;
          entries = entries_past R N n r (state (e ∷ es) c) calls i;
          cells = cells_past R N n r (state (e ∷ es) c) calls facts i;
          before = λ x t calls cs seg.
              let u = last_is x (member_in x (variable_names n) t) (lookup x (constant_cell_names f) vs) in
              pre_found g (scope n (is_fresh r) old cs) calls x seg u.0 i.fresh u.3 ∙ ap (λ o. or_cold (cells_or o)) (sym u.2);
          constants = λ x t calls cs seg.
              let u = constant_is_lem x t in
              pre_found g (scope n (is_fresh r) old cs) calls x seg u.0 i.fresh u.4 ∙ ap or_cold (sym u.3);
          takes = λ a b calls cs seg.
              arrow_is g (scope n (is_fresh r) old cs) calls a b seg ∙ ap (λ t. eval_on f vs n r calls cs (if_then_else (bool_lit t) a b) seg) i.fresh;
          rust_before = λ x t step values env at calls.
              let u = last_is x (member_in x (variable_names n) t) none in
              rust_pre N x (state (e ∷ es) c) step values env at calls ∙ ap (ok_or other_error) u.1 ∙ ap (ok_or uninitialized_pre) (sym u.2);
          rust_constants = λ x t step values env at calls.
              let u = constant_is_lem x t in
              rust_pre N x (state (e ∷ es) c) step values env at calls ∙ ap (ok_or other_error) u.1 ∙ ap (ok_or uninitialized_pre) (sym u.2);
          cold = λ d calls cs seg. cold_at g (scope n (is_fresh r) old cs) calls (Rust.cycle (state (e ∷ es) c)) i.fresh d seg;
          rust_cold = rust_cold_is N (state (e ∷ es) c);
          rust_takes = rust_arrow N (state (e ∷ es) c);
        }

  valued_is : (xs : List Variable) (ws : List Value) → valued xs ws ≡ pack_all (shapes_in xs) ws
  unfolding named
  valued_is [] ws = refl
  valued_is (x ∷ xs) ws =
      let o = length_in x.ty in
      ap₂ (λ v k. v ∷ valued xs (drop k ws)) (named_is x.ty ws) (type_cells_lem x.ty) ∙ ap (λ l. pack_one o (take (size_of o) ws) ∷ l) (valued_is xs (drop (size_of o) ws)) ∙ sym (head_pack o (shapes_in xs) ws)

  named_get : (xs : List Variable) (ws : List Value) (x : ℕ) → Distinct (map name_of xs) → x ∈ map name_of xs → get x (named xs ws) ≡ lookup x (map name_of xs) (pack_all (shapes_in xs) ws)
  named_get xs ws x d m = ap (get x) (sym (append-nil (named xs ws))) ∙ (named_block xs ws [] d).hit x m

  -- ---- what is run

  ordered_of : (n : Node) → NodeRust f vs n → evaluation_order n ≡ some (order n.equations)
  ordered_of n facts = order_is n ∙ ap (maybe (some (order n.equations)) (λ i. none)) facts.ok.placed.none_left

  run_is : (calls : Calls) (n : Node) (ins : List Value) (r : List ℕ) (b : Bool) (cs : List Value) → is_fresh r ≡ b → old_cells n r ≡ cs
      → run g calls n ins r ≡ run_all g calls n b cs (order n.equations) (ins ++ drop (input_count n) cs) (old_segs g n r)
  unfolding run
  run_is calls n ins r b cs e q = ap₂ (λ b cs. run_all g calls n b cs (order n.equations) (ins ++ drop (input_count n) cs) (old_segs g n r)) e q

  module _ (A : Facts f vs) (F : FileRust f vs) where
    runs_past : (R : ℕ → List ℕ → Option State → Type 0) (N : ℕ) (n : Node) (r : List ℕ) (st : State) (calls : States) → NodeRust f vs n → InstRel f vs R N n r st calls
        → (inner : Calls) (ins : List Value) → run g inner n ins r ≡ run_at g inner n (sequence_in st) (Rust.cycle st) ins (old_segs g n r)
    runs_past R N n r st calls facts i inner ins =
        run_is inner n ins r (firstly (Rust.cycle st)) _ (at_past A F.constant R N n r st calls facts i).first (at_past A F.constant R N n r st calls facts i).cells

    call_runs : (R : ℕ → List ℕ → Option State → Type 0) (k : ℕ) (r : List ℕ) (o : Option State) → k < length f.nodes → (node_at g k).kind ≡ Operator
        → InstRel f vs R k (node_at g k) r (state_or o) (child_calls (state_or o)) → CallRuns f vs k (node_at g k) r o
    unfolding calls_at instance step_instance
    call_runs R k r o b e i =
        let n = node_at g k in
        let facts = F.nodes k b in
        record {
          bytes = λ d ws.
              ap (λ t. call_by g t (calls_at g d) n ws r) e
              ∙ ap (leave g n r) (runs_past R k n r (state_or o) (child_calls (state_or o)) facts i (calls_at g d) (fit_all (cell_types n.inputs) ws));
          rust = λ d key ws calls env q.
              ap (λ is. step_ordered f (step_instance f d) (call_function_values f d) is key k n (callee_env f n ws env) calls) (ordered_of n facts)
              ∙ ap (λ t. step_kind f (step_instance f d) (call_function_values f d) t key k n (order n.equations) (callee_env f n ws env) calls) e
              ∙ ap (λ o. end_operator f n key (state_or o)
              (for_order f (step_instance f d) (call_function_values f d) k n (state_or o) (order n.equations) (reseed f (prev (state_or o)) (n.outputs ++ n.locals) (callee_env f n ws env)) (child_calls (state_or o)))
              (remove_state key calls)) q;
          rust_starts = λ ws env l x t.
              let m = member_in x (variable_names n) t in
              ap (λ us. get x (reseed f (prev (state_or o)) (n.outputs ++ n.locals) (callee_env f n us env))) (valued_is n.inputs ws)
              ∙ starts_with f vs R k n r (state_or o) (child_calls (state_or o)) facts.sorted.distinct i ws env l x m
              ∙ ap (λ cs. lookup x (variable_names n) (held n (fit_all (cell_types n.inputs) ws ++ drop (input_count n) cs))) (cells_past A F.constant R k n r (state_or o) (child_calls (state_or o)) facts i)
              ∙ sym (named_get (variables n) _ x facts.sorted.distinct m);
        }

    function_runs : (k : ℕ) (r : List ℕ) → k < length f.nodes → (node_at g k).kind ≡ Function → FunctionRuns f vs k (node_at g k) r
    unfolding calls_at instance step_instance
    function_runs k r b e =
        let n = node_at g k in
        let facts = F.nodes k b in
        let i = fresh_site f vs F (length f.nodes) k b in
        record {
          bytes = λ d ws.
              ap (λ t. call_by g t (calls_at g d) n ws r) e
              ∙ ap {B = Evals} (λ u. record { out = (leave g n (fresh_record g n) u).out; seg = r })
              (run_is (calls_at g d) n (fit_all (cell_types n.inputs) ws) (fresh_record g n) (firstly 0) (cells_before f.enums n (λ x. always none) 0) i.fresh (i.new refl ∙ defaults_each f.enums (variables n)));
          rust = λ d key ws calls env.
              ap (λ is. step_ordered f (step_instance f d) (call_function_values f d) is key k n (callee_env f n ws env) calls) (ordered_of n facts)
              ∙ ap (λ t. step_kind f (step_instance f d) (call_function_values f d) t key k n (order n.equations) (callee_env f n ws env) calls) e;
          rust_starts = λ ws env l x t.
              let m = member_in x (variable_names n) t in
              ap (λ us. get x (callee_env f n us env)) (valued_is n.inputs ws) ∙ (fresh_starts f vs n facts.sorted.distinct ws l env).hit x m
              ∙ ap (λ cs. lookup x (variable_names n) (held n (fit_all (cell_types n.inputs) ws ++ drop (input_count n) cs))) (defaults_each f.enums (variables n))
              ∙ sym (named_get (variables n) _ x facts.sorted.distinct m);
          rust_iterated = λ d ws env.
              ap (λ is. values_arity f (eqb (length ws) (length n.inputs)) (call_ordered f (step_instance f d) (call_function_values f d) is k n (callee_env f n ws env))) (ordered_of n facts);
        }

    main_runs : (old : List ℕ) (sim : Sim) → MainRel f vs A F old sim → MainRuns f vs old sim
    unfolding main_run step_env
    main_runs old sim h =
        let D = length f.nodes in
        record {
          bytes = λ ins.
              runs_past (RelAt f vs D) (D - 1) (main f) (drop (head_size f) old) sim.state sim.call_states (main_facts f vs A F) h.inst (calls g) (values_of (input_count (main f)) ins);
          rust = λ ins.
              ap (λ is. for_order f (step f) (call_values f) (D - 1) (main f) sim.state is (seed f (prev sim.state) ((main f).outputs ++ (main f).locals) (ins ++ sim.consts)) sim.call_states) h.ordered;
          rust_starts = λ ins t x m.
              (env_ok f vs A F old sim h ins t).vars x (member_in x (variable_names (main f)) m)
              ∙ ap (λ cs. lookup x (variable_names (main f)) (held (main f) (values_of (input_count (main f)) ins ++ drop (input_count (main f)) cs)))
              (cells_past A F.constant (RelAt f vs D) (D - 1) (main f) (drop (head_size f) old) sim.state sim.call_states (main_facts f vs A F) h.inst)
              ∙ sym (named_get (variables (main f)) (values_of (input_count (main f)) ins ++ drop (input_count (main f)) (cells_before f.enums (main f) (sequence_in sim.state) (Rust.cycle sim.state))) x
              (main_facts f vs A F).sorted.distinct (member_in x (variable_names (main f)) m));
        }

    -- ---- everywhere

    abbrev Down : ℕ → Type 0
    Down d = (k : ℕ) (r : List ℕ) (o : Option State) → k < length f.nodes → RelAt f vs d k r o → AtSite f vs d k r o

    every_of : (d : ℕ) (N : Home) → Down d → (cs : List (ℕ × ℕ)) (j : ℕ) (s : List ℕ) (calls : States) → Lie N.addr j cs → ((c : ℕ) → c ∈ map callee_of cs → c < length f.nodes)
        → Each g (p f vs) (RelAt f vs d) N (map callee_of cs) j s calls → AtSites f vs (AtSite f vs d) N.number cs s calls
    every_of d N h [] j s calls l q e = tt
    every_of d N h (c ∷ cs) j s calls l q e = (
      subst (λ i. AtSite f vs d c.1 (take (record_size g c.1) s) (get_state (N.number, i) calls)) l.0
          (h c.1 (take (record_size g c.1) s) (get_state (key_at N j) calls) (q c.1 (here refl)) e.0),
      every_of d N h cs (suc j) _ calls l.1 (λ c m. q c (there m)) e.1,
    )

    -- the calls of node number k, which is n
    every_in : (d k : ℕ) (n : Node) → Down d → (s : List ℕ) (calls : States) → ((c : ℕ) → c ∈ sites n → c < length f.nodes)
        → Each g (p f vs) (RelAt f vs d) (home k n) (sites n) 0 s calls → AtSites f vs (AtSite f vs d) k (calls_of 0 n.equations) s calls
    every_in d k n h s calls q e =
        let same = sites_are n.equations 0 in
        every_of d (home k n) h (calls_of 0 n.equations) 0 s calls (lie_all k n) (λ c m. q c (subst (λ l. c ∈ l) same m))
        (subst (λ l. Each g (p f vs) (RelAt f vs d) (home k n) l 0 s calls) (sym same) e)

    every_site : (d : ℕ) → Down d
    every_site zero k r o b i = tt
    every_site (suc d) k r o b i = go (node_at g k).kind refl i (every_site d)
      where
        go : (t : NodeKind) → (node_at g k).kind ≡ t → RelBy f vs t (RelAt f vs d) k r o → Down d → AtKind f vs t (AtSite f vs d) k r o
        go Function e i h = function_runs k r b e
        go Operator e i h = (
          call_runs (RelAt f vs d) k r o b e i,
          (
            at_past A F.constant (RelAt f vs d) k (node_at g k) r (state_or o) (child_calls (state_or o)) (F.nodes k b) i,
            every_in d k (node_at g k) h (drop (own_size (node_at g k)) r) (child_calls (state_or o)) (λ c m. omega (arith, lower_site F.callable k c m)) i.inner,
          ),
        )
        go Imported e i h = tt

    pub everywhere : (old : List ℕ) (sim : Sim) → MainRel f vs A F old sim → Everywhere f vs old sim
    everywhere old sim h =
        let D = length f.nodes in
        let r = drop (head_size f) old in (
          main_runs old sim h,
          (
            at_past A F.constant (RelAt f vs D) (D - 1) (main f) r sim.state sim.call_states (main_facts f vs A F) h.inst,
            every_in D (D - 1) (main f) (every_site D) (drop (own_size (main f)) r) sim.call_states
                (λ c m. let q = lower_site F.callable (D - 1) c (subst (λ x. c ∈ sites x) (is_main f vs A) m) in omega (arith, A.some_node_lem)) h.inst.inner,
          ),
        )

    all_at_past : (ld : Loader) (s : List ℕ) → judge ld s ≡ admitted f vs → (ts : List Turn) (old : List ℕ) (sim : Sim) (ans : List (List Value)) → MainRel f vs A F old sim
        → past_of f vs A F sim ≡ ans → AllAtPast f vs ans sim (history ld s ts old)
    all_at_past ld s e [] old sim ans h q = tt
    all_at_past ld s e (t ∷ ts) old sim ans h q =
        let w = turn_tells f vs A F ld s e t old sim h in
        (q, everywhere old sim h, all_at_past ld s e ts _ _ _ w.1 (w.2 ∙ ap (λ l. l ++ answers f (made t old (cycle ld s old t.inputs t.new t.values) ∷ [])) q))

pub instances_claim : (ld : Loader) → InstancesClaim ld
unfolding InstancesClaim
instances_claim ld s f vs ts bytes e =
    let o = opened ld s f vs bytes e in
    (o.sim, o.is_new, all_at_past f vs o.facts o.rust ld s e ts (fresh_state f vs) o.sim [] o.start o.no_past)
