-- A list of cycles is a run of the Rust: specs/AsRust's claim.
use Prim.Native.Nat.{ℕ, ◌+◌, ◌-◌}
use mathlib.Core.Bool.{Bool, true, false, not, ◌&&◌, cond}
use mathlib.Core.List.Memᴰ.{append_right as in_right}
use mathlib.Core.List.Memᴰ.{cases_cons as in_cons}
use mathlib.Core.List.Memᴰ.{head as here}
use mathlib.Core.List.Memᴰ.{not-nil as in_nil}
use mathlib.Core.List.Memᴰ.{tail as there}
use mathlib.Core.List.{List, [], ◌∷◌, ◌++◌, map, map-append, append-nil, reverse, reverse-cons}
use mathlib.Core.Logic.{⊎_elim}
use mathlib.Core.Option.{none, some}
use mathlib.Core.Path.{◌≡◌, refl, sym, ap, ap₂, subst, ◌∙◌}
use native.Mathlib.Omega.{arith}
use lib.ListN.{length, take, drop, length-map, take-append-drop}
use lib.Seq.{drop_at}
use lib.Dec.{T, eqb}
use Rattle.ol_theory.specs.Member.{◌∈◌, Distinct}
use Rattle.ol_spec.specs.Lists.{maybe, concat, lookup}
use Rattle.ol_spec.specs.Syntax.{VarTy, scalar, array, length_in, type_cells, cell_types, Variable, Node, File, main, variables, variable_names, name_of, constant_name}
use Rattle.ol_spec.specs.Cell.{cells, values_of}
use Rattle.ol_spec.specs.Limits.{Loader}
use Rattle.ol_spec.specs.Order.{order}
use Rattle.ol_spec.specs.Eval.{Globals}
use Rattle.ol_spec.specs.Step.{sites, own_size, is_fresh, old_cells, Ended, Run, started_record, fresh_record, cell_count, input_count}
use Rattle.ol_spec.specs.Admission.{constant_names, judge, admitted, head_size, state_size, constant_cell_names}
use Rattle.ol_spec.specs.State.{globals_of, fresh_state, good_inputs}
use Rattle.ol_spec.specs.Cycle.{StartCall, start_fits, start_judged, start, CycleCall, end_on, main_run, end_run, cycle_unless, fits17, cycle}
use Rattle.ol_spec.specs.Answers.{fault_at}
use Rattle.ol_spec.specs.Demand3.{Bytes, Turn, Made, next_state, history}
use Rattle.ol_spec.specs.Lustre.{answers}
use Rattle.ol_spec.specs.RustOrder.{evaluation_order}
use Rattle.ol_spec.specs.RustSim.{Env, get, State, state, no_states, past, prev, default_state, Ran, Sim, Stepped, for_order, seed, step, step_env, step_full, step_end, report, default_value, new_on, new, LoopEnd, done, call_values}
use Rattle.ol_spec.specs.AsRust.{fitting, named, answer_of, written, told, refusal, step_on, call_on, sim_after, AsRust, RunsAsRust, of_cells}
use Rattle.ol_spec.specs.RustState.{constants_in, state_bytes, all_cells, answered_by}
use Rattle.ol_spec.specs.declared.Value.{Value}
use Rattle.std.specs.Prelude.{Ok}
use Rattle.ol_spec.specs.declared.Cycled.TheVariants as Cyc
use Rattle.ol_spec.proofs.Tests.{T_and, T_true, true_t, eq_eqb}
use Rattle.ol_spec.proofs.Lists.{distinct_parts}
use Rattle.ol_spec.proofs.Values.{Fine}
use Rattle.ol_spec.proofs.Slots.{type_cells_lem}
use Rattle.ol_spec.proofs.CellLengths.{length_values}
use Rattle.ol_spec.proofs.Runs.{fresh_front, RunGood}
use Rattle.ol_spec.proofs.Calls.{lower_site}
use Rattle.ol_spec.proofs.ReadFacts.{file_read}
use Rattle.ol_spec.proofs.Admits.{admits}
use Rattle.ol_spec.proofs.Admitted.{Facts, constant_ty, facts as facts_of}
use Rattle.ol_spec.proofs.States.{StateWell, is_main, start_ok, each, each_fine, ran, given_back, answered_well, failed_well, own_kept, own_length, failed_is, head_length, cycle_is, made}
use Rattle.ol_spec.proofs.Names.{lookup_out}
use Rattle.ol_spec.proofs.RustOrder.{order_is}
use Rattle.ol_spec.proofs.RustMaps.{get_hit, get_miss}
use Rattle.ol_spec.proofs.RustEnv.{head_pack, packs_length, cells_back, held_is, lookup_here, lookup_skip, Block, seed_block, seeds_fresh, seeds_old, Seeds, values_read}
use Rattle.ol_spec.proofs.RustPlaces.{home}
use Rattle.ol_spec.proofs.RustEval.{pack_one, pack_all, size_of, shapes_in, Each, Globally}
use Rattle.ol_spec.proofs.RustLeaves.{number_is}
use Rattle.ol_spec.proofs.RustRun.{GoingEnd, Rels, rels_concat, EnvFor, RunFollows, TellsEnd, ends, errs_at, panics_at}
use Rattle.ol_spec.proofs.RustCalls.{NodeRust, FileRust, held, LastIs, InstRel, RelAt, p, fresh_site, run_follows, calls_follow, started_inst, no_variants, inserted, split_distinct, names_split, old_rest, fresh_rest}
use Rattle.ol_spec.proofs.RustNames.{constants_distinct}
use Rattle.ol_spec.proofs.RustState.{instance_bytes_lem}
use Rattle.ol_spec.proofs.RustFile.{file_rust, Has, values_of_constants, constants_in_lem, consts_of}

-- the values of a list of variables above an environment
pub named_is : (t : VarTy) (ws : List Value) → of_cells t ws ≡ pack_one (length_in t) (take (size_of (length_in t)) ws)
named_is (scalar t) [] = refl
named_is (scalar t) (w ∷ ws) = refl
named_is (array n t) ws = refl

pub named_block : (xs : List Variable) (ws : List Value) (env : Env) → Distinct (map name_of xs) → Block (map name_of xs) (pack_all (shapes_in xs) ws) env (named xs ws ++ env)
unfolding named
named_block [] ws env d = record { hit = λ x m. absurd (in_nil m); miss = λ x h. refl }
named_block (x ∷ xs) ws env d =
    let o = length_in x.ty in
    let v = pack_one o (take (size_of o) ws) in
    let more = drop (size_of o) ws in
    let b = named_block xs more env d.1 in
    let ns = map name_of xs in
    let below = named xs more ++ env in
    subst (λ rs. Block (x.name ∷ ns) rs env ((x.name, of_cells x.ty ws) ∷ named xs (drop (length (type_cells x.ty)) ws) ++ env)) (sym (head_pack o (shapes_in xs) ws))
    (subst (λ w. Block (x.name ∷ ns) (v ∷ pack_all (shapes_in xs) more) env ((x.name, w) ∷ named xs (drop (length (type_cells x.ty)) ws) ++ env)) (sym (named_is x.ty ws))
    (subst (λ k. Block (x.name ∷ ns) (v ∷ pack_all (shapes_in xs) more) env ((x.name, v) ∷ named xs (drop k ws) ++ env)) (sym (type_cells_lem x.ty)) (record {
      hit = λ y m. ⊎_elim
          (λ q. get_hit y x.name v below q ∙ sym (lookup_here y x.name ns v (pack_all (shapes_in xs) more) q))
          (λ k. let q : ¬ (y ≡ x.name) = λ q. d.0 (subst (λ z. z ∈ ns) q k) in get_miss y x.name v below q ∙ b.hit y k ∙ sym (lookup_skip y x.name ns v (pack_all (shapes_in xs) more) q)) (in_cons m);
      miss = λ y h. get_miss y x.name v below (λ q. h (here q)) ∙ b.miss y (λ k. h (there k));
    })))

same_call : (a b : CycleCall) → a.answer ≡ b.answer → a.new ≡ b.new → a.values ≡ b.values → a ≡ b
same_call a b p q r =
    ap {B = CycleCall} (λ x. record { answer = x; new = a.new; values = a.values }) p
    ∙ ap {B = CycleCall} (λ x. record { answer = b.answer; new = x; values = a.values }) q
    ∙ ap {B = CycleCall} (λ x. record { answer = b.answer; new = b.new; values = x }) r

module _ (f : File) (vs : List Value) (A : Facts f vs) (F : FileRust f vs) where
  abbrev n : Node
  n = main f

  abbrev g : Globals
  g = globals_of f vs

  abbrev D : ℕ
  D = length f.nodes

  abbrev N : ℕ
  N = D - 1

  pub main_facts : NodeRust f vs n
  main_facts = subst (NodeRust f vs) (sym (is_main f vs A)) (F.nodes N (omega (arith, A.some_node_lem)))

  abbrev distinct : Distinct (variable_names n)
  distinct = main_facts.sorted.distinct

  abbrev rec : List ℕ → List ℕ
  rec old = drop (head_size f) old

  -- the state and the Rust's `Sim`
  pub record MainRel (old : List ℕ) (sim : Sim) : Type 0 where
    pub well : StateWell f vs A old
    pub inst : InstRel f vs (RelAt f vs D) N n (rec old) sim.state sim.call_states
    pub consts : Has (constant_names f) (values_of_constants f.constants vs) sim.consts
    pub in_order : constants_in f sim.consts ≡ vs
    pub ordered : sim.eq_order ≡ order n.equations

  -- ---- the start

  pub start_rel : (env : Env) → Has (constant_names f) (values_of_constants f.constants vs) env → constants_in f env ≡ vs → MainRel (fresh_state f vs) (record { consts = env; eq_order = order n.equations; state = default_state; call_states = no_states })
  unfolding fresh_state
  start_rel env h q =
      record {
        well = (start_ok f vs A).well;
        inst = subst (λ r. InstRel f vs (RelAt f vs D) N n r default_state no_states) (sym (drop_at (cells vs) (fresh_record g n) (head_size f) (head_length f vs A)))
            (subst (λ m. InstRel f vs (RelAt f vs D) N m (fresh_record g m) default_state no_states) (sym (is_main f vs A)) (fresh_site f vs F D N (omega (arith, A.some_node_lem))));
        consts = h;
        in_order = q;
        ordered = refl;
      }

  -- the state is the bytes of the `Sim`
  pub state_is : (old : List ℕ) (sim : Sim) → MainRel old sim → old ≡ state_bytes f sim
  unfolding state_bytes
  state_is old sim h =
      sym (take-append-drop (head_size f) old)
      ∙ ap₂ ◌++◌ (h.well.head ∙ ap cells (sym h.in_order))
      (instance_bytes_lem f vs F D N n (rec old) sim.state sim.call_states distinct h.well.inst h.inst
      (λ c m. let q = lower_site F.callable N c (subst (λ x. c ∈ sites x) (is_main f vs A) m) in (omega (arith, A.some_node_lem), omega (arith, A.some_node_lem))))

  -- the main instance's past, by its cells, and that a step adds what it answered
  abbrev pub past_of : Sim → List (List Value)
  past_of sim = map (answered_by f n) (reverse (past sim.state))

  abbrev pub Grows : Sim → Sim → Made → Type 0
  Grows a b m = past_of b ≡ past_of a ++ answers f (m ∷ [])

  -- ---- a step

  module _ (old : List ℕ) (sim : Sim) (h : MainRel old sim) (ins : List ℕ) (good-ins : T (good_inputs f ins)) where
    abbrev ws : List Value
    ws = values_of (input_count n) ins

    abbrev st : State
    st = sim.state

    abbrev env₁ : Env
    env₁ = named n.inputs ws ++ sim.consts

    abbrev env₂ : Env
    env₂ = seed f (prev st) (n.outputs ++ n.locals) env₁

    abbrev u : Run
    u = main_run f vs old ins

    abbrev v : Ran
    v = step_env f sim (named n.inputs ws)

    no_constant_here : (x : ℕ) → ¬ (x ∈ constant_names f) → get x sim.consts ≡ none
    no_constant_here x m = h.consts x ∙ lookup_out x (constant_names f) (values_of_constants f.constants vs) m

    shared : Globally f (constant_cell_names f) vs sim.consts
    shared =
        record {
          consts = λ x m. h.consts x ∙ held_is constant_name constant_ty f.constants vs x F.constant.distinct_names A.constant_count F.constant.all_filled (F.constant.of_cells x m);
          variants = λ x m. no_constant_here x (λ c. main_facts.sorted.constant_variant x c m);
        }

    inputs_in : Block (map name_of n.inputs) (pack_all (shapes_in n.inputs) ws) sim.consts env₁
    inputs_in =
        named_block n.inputs ws sim.consts
        (distinct_parts (map name_of n.inputs) (map name_of (n.outputs ++ n.locals)) (split_distinct f vs n distinct)).0

    -- an output or a local stands not yet in the environment
    absent : (y : ℕ) → y ∈ map name_of (n.outputs ++ n.locals) → get y env₁ ≡ none
    absent y m =
        let apart = (distinct_parts (map name_of n.inputs) (map name_of (n.outputs ++ n.locals)) (split_distinct f vs n distinct)).2 in
        inputs_in.miss y (λ k. apart y k m)
        ∙ no_constant_here y (main_facts.sorted.no_constant_lem y (subst (λ l. y ∈ l) (sym (names_split f vs n)) (in_right (map name_of n.inputs) m)))

    seeds : (s : State) → InstRel f vs (RelAt f vs D) N n (rec old) s sim.call_states → Seeds f (prev s) (n.outputs ++ n.locals) (pack_all (shapes_in (n.outputs ++ n.locals)) (drop (input_count n) (old_cells n (rec old))))
    seeds (state [] c) i =
        subst (λ c. Seeds f [] (n.outputs ++ n.locals) (pack_all (shapes_in (n.outputs ++ n.locals)) c)) (sym (ap (drop (input_count n)) (i.new refl) ∙ fresh_rest f vs n distinct)) (seeds_fresh f (n.outputs ++ n.locals))
    seeds (state (e ∷ es) c) i =
        let old_length : length (old_cells n (rec old)) ≡ cell_count n = length_values (cell_count n) (drop 1 (rec old)) in
        seeds_old f (prev (state (e ∷ es) c)) (n.outputs ++ n.locals) _ (packs_length (shapes_in (n.outputs ++ n.locals)) (drop (input_count n) (old_cells n (rec old))) ∙ length-map (n.outputs ++ n.locals) _)
        (distinct_parts (map name_of n.inputs) (map name_of (n.outputs ++ n.locals)) (split_distinct f vs n distinct)).1
        (old_rest f vs n distinct (old_cells n (rec old)) (prev (state (e ∷ es) c)) old_length (i.old refl).vars)

    pub env_ok : EnvFor f vs n (ws ++ drop (input_count n) (old_cells n (rec old))) env₂
    env_ok =
        inserted f vs n distinct main_facts.sorted F.constant _ _ sim.consts env₁ env₂ (length_values (input_count n) ins) shared inputs_in
        (seed_block f (prev st) (n.outputs ++ n.locals) _ env₁ (seeds st h.inst)
        (distinct_parts (map name_of n.inputs) (map name_of (n.outputs ++ n.locals)) (split_distinct f vs n distinct)).1 absent)

    follows : RunFollows f vs n main_facts.sorted F.constant (p f vs) (RelAt f vs D) (Fine (concat f.enums)) N sim.call_states u v
    unfolding main_run step_env
    follows =
        subst
        (λ is. RunFollows f vs n main_facts.sorted F.constant (p f vs) (RelAt f vs D) (Fine (concat f.enums)) N sim.call_states u
        (for_order f (step f) (call_values f) N n st is env₂ sim.call_states)) (sym h.ordered)
        (run_follows f vs F D N n main_facts (calls_follow f vs F D) ws (rec old) st env₂ sim.call_states
        (each_fine f.enums F.callable.short (cell_types n.inputs) ins (each f vs A old ins h.well good-ins)) (length_values (input_count n) ins) h.well.inst h.inst env_ok)

    good : RunGood (Fine (concat f.enums)) g (p f vs) n (cell_count n) u
    good = ran f vs A old ins h.well good-ins

    -- what a cycle that was run and the Rust's step have to do with each other
    abbrev pub Tells : Turn → CycleCall → Stepped → Type 0
    Tells t c r =
        (c.answer ≡ answer_of r.report) × (c.values ≡ written r.report t.values) × (next_state c.answer old c.new ≡ c.new)
        × MainRel (next_state c.answer old c.new) r.sim × Grows sim r.sim (made t old c)

    pub tells : (t : Turn) → Tells t (end_run f old t.values u) (step_full f sim (named n.inputs ws))
    unfolding step_full
    tells t =
        go u.end v.end follows.end follows.env follows.segs
      where
        -- the cells of what is reported
        reported : ((x : ℕ) → x ∈ variable_names n → get x v.env ≡ lookup x (variable_names n) (held n u.cells)) → all_cells (report f n v.env) ≡ u.cells
        reported q =
            ap all_cells (values_read f (λ x. default_value f x.ty) (variables n) (held n u.cells) v.env (packs_length (shapes_in (variables n)) u.cells ∙ length-map (variables n) _) distinct q)
            ∙ cells_back (variables n) u.cells good.counted

        own : List ℕ
        own = take (own_size n) (rec old)

        after : rec (take (head_size f + own_size n) old ++ concat u.segs) ≡ own ++ concat u.segs
        after = ap rec (failed_is f vs A old ins h.well good-ins) ∙ drop_at (cells vs) (own ++ concat u.segs) (head_size f) (head_length f vs A)

        is_fresh_lem : is_fresh (own ++ concat u.segs) ≡ is_fresh (rec old)
        is_fresh_lem =
            fresh_front own (concat u.segs) (drop (own_size n) (rec old)) (omega (arith, own_length f vs A old ins h.well good-ins)) ∙ ap is_fresh (take-append-drop (own_size n) (rec old))

        same_cells : old_cells n (own ++ concat u.segs) ≡ old_cells n (rec old)
        same_cells = sym (own_kept f vs A old ins h.well good-ins).1

        go : (e : Ended) (l : LoopEnd) → TellsEnd e l → (l ≡ done → EnvFor f vs n u.cells v.env) → (GoingEnd l → Rels g (p f vs) (RelAt f vs D) (home N n) n.equations 0 u.segs v.calls)
            → Tells t (end_on f old t.values e u.cells u.segs) (step_end f sim l v.env v.calls)
        go _ _ ends a b = (
          refl,
          ap cells (sym (reported (a refl).vars)),
          refl,
          record {
            well = answered_well f vs A old ins h.well good-ins;
            inst = subst (λ r. InstRel f vs (RelAt f vs D) N n r (state (v.env ∷ past st) no_states) v.calls)
                (sym (ap (λ l. rec (l ++ started_record u.cells u.segs)) h.well.head ∙ drop_at (cells vs) (started_record u.cells u.segs) (head_size f) (head_length f vs A)))
                (started_inst f vs (RelAt f vs D) N n u.cells u.segs v.env st no_states v.calls F.constant good.fine good.counted
                (no_variants f vs (RelAt f vs D) N n (rec old) st sim.call_states h.inst) main_facts.sorted.distinct h.inst.fits (a refl) (b tt));
            consts = h.consts;
            in_order = h.in_order;
            ordered = h.ordered;
          },
          ap (map (answered_by f n)) (reverse-cons v.env (past st)) ∙ map-append (answered_by f n) (reverse (past st)) (v.env ∷ [])
              ∙ ap (λ c. past_of sim ++ c ∷ []) (reported (a refl).vars ∙ sym (given_back f vs A old ins h.well good-ins)),
        )
        go _ _ (errs_at e i) a b = (
          ap (λ n. Cyc.Stopped (fault_at n i)) (number_is e),
          refl,
          refl,
          record {
            well = failed_well f vs A old ins h.well good-ins;
            inst = subst (λ r. InstRel f vs (RelAt f vs D) N n r st v.calls) (sym after)
                (record {
                  fresh = is_fresh_lem ∙ h.inst.fresh;
                  new = λ e. same_cells ∙ h.inst.new e;
                  old = λ e. subst (λ c. EnvFor f vs n c (prev st)) (sym same_cells) (h.inst.old e);
                  fits = h.inst.fits;
                  last = subst (λ c. LastIs f vs n c (past st)) (sym same_cells) h.inst.last;
                  inner = subst (λ l. Each g (p f vs) (RelAt f vs D) (home N n) (sites n) 0 l v.calls)
                      (sym (drop_at own (concat u.segs) (own_size n) (own_length f vs A old ins h.well good-ins)))
                      (rels_concat g (p f vs) (RelAt f vs D) (home N n) n.equations 0 u.segs v.calls (b tt)).each;
                });
            consts = h.consts;
            in_order = h.in_order;
            ordered = h.ordered;
          },
          sym (append-nil (past_of sim)),
        )
        go _ _ (panics_at i) a b = (refl, refl, refl, h, sym (append-nil (past_of sim)))

  -- ---- a list

  -- a fitting turn
  pub fit_tells : (ld : Loader) (s : List ℕ) → judge ld s ≡ admitted f vs → (t : Turn) → T (fitting f t) → (old : List ℕ) (sim : Sim) (h : MainRel old sim)
      → (fits : T (good_inputs f t.inputs))
      × Tells old sim h t.inputs fits t (cycle ld s old t.inputs t.new t.values) (step_full f sim (named n.inputs (values_of (input_count n) t.inputs)))
  fit_tells ld s e t q old sim h =
      let w = T_and (good_inputs f t.inputs) (fits17 f t.new t.values) q in
      let ran-is : cycle ld s old t.inputs t.new t.values ≡ end_run f old t.values (main_run f vs old t.inputs) =
      cycle_is f vs A ld s e old t.inputs t.new t.values h.well
      ∙ ap₂ (λ a b. cycle_unless false (not a) (not b) f vs old t.inputs t.new t.values) (T_true (good_inputs f t.inputs) w.0) (T_true (fits17 f t.new t.values) w.1) in (
        w.0,
        subst (λ c. Tells old sim h t.inputs w.0 t c (step_full f sim (named n.inputs (values_of (input_count n) t.inputs)))) (sym ran-is)
            (tells old sim h t.inputs w.0 t),
      )

  -- a turn that does not fit is refused
  pub unfit : (ld : Loader) (s : List ℕ) → judge ld s ≡ admitted f vs → (t : Turn) → fitting f t ≡ false → (old : List ℕ) → StateWell f vs A old
      → cycle ld s old t.inputs t.new t.values ≡ refusal f t
  unfit ld s e t q old h = cycle_is f vs A ld s e old t.inputs t.new t.values h ∙ go (good_inputs f t.inputs) (fits17 f t.new t.values) q
    where
      go : (a b : Bool) → a && b ≡ false
          → cycle_unless false (not a) (not b) f vs old t.inputs t.new t.values ≡ record { answer = Cyc.Refused (fault_at (cond a 17 16) 0); new = t.new; values = t.values }
      go false b q = refl
      go true false q = refl
      go true true q = let z : ◌≡◌ {A = ℕ} 0 1 = cc in absurd (omega arith)

  -- a turn
  pub turn_tells : (ld : Loader) (s : List ℕ) → judge ld s ≡ admitted f vs → (t : Turn) (old : List ℕ) (sim : Sim) → MainRel old sim
      → (cycle ld s old t.inputs t.new t.values ≡ call_on f sim t)
      × MainRel (next_state (cycle ld s old t.inputs t.new t.values).answer old (cycle ld s old t.inputs t.new t.values).new) (sim_after f sim t)
      × Grows sim (sim_after f sim t) (made t old (cycle ld s old t.inputs t.new t.values))
  turn_tells ld s e t old sim h = go (fitting f t) refl
    where
      c : CycleCall
      c = cycle ld s old t.inputs t.new t.values

      go : (b : Bool) → fitting f t ≡ b
          → (c ≡ cond b (told f t (step_on f sim t)) (refusal f t)) × MainRel (next_state c.answer old c.new) (cond b (step_on f sim t).sim sim)
          × Grows sim (cond b (step_on f sim t).sim sim) (made t old c)
      go true q =
          let w = (fit_tells ld s e t (true_t (fitting f t) q) old sim h).1 in
          (same_call c _ w.0 (sym w.2 ∙ state_is _ _ w.3) w.1, w.3, w.4)
      go false q = let z = unfit ld s e t q old h.well in
          (z, subst (λ c. MainRel (next_state c.answer old c.new) sim) (sym z) h, sym (append-nil (past_of sim)) ∙ ap (λ c. past_of sim ++ answers f (made t old c ∷ [])) (sym z))

  as_rust : (ld : Loader) (s : List ℕ) → judge ld s ≡ admitted f vs → (ts : List Turn) (old : List ℕ) (sim : Sim) → MainRel old sim → AsRust f sim (history ld s ts old)
  as_rust ld s e [] old sim h = tt
  as_rust ld s e (t ∷ ts) old sim h = let w = turn_tells ld s e t old sim h in (state_is old sim h, w.0, as_rust ld s e ts _ _ w.1)

  pub main_ordered : evaluation_order n ≡ some (order n.equations)
  main_ordered = order_is n ∙ ap (maybe (some (order n.equations)) (λ i. none)) main_facts.ok.placed.none_left

-- an admitted file, with what is known of it, and its `Sim`
pub record Opened (f : File) (vs : List Value) : Type 0 where
  pub facts : Facts f vs
  pub rust : FileRust f vs
  pub sim : Sim
  pub is_new : new f ≡ some sim
  pub start : MainRel f vs facts rust (fresh_state f vs) sim
  pub no_past : past_of f vs facts rust sim ≡ []

pub opened : (ld : Loader) (s : List ℕ) (f : File) (vs : List Value) → Bytes s → judge ld s ≡ admitted f vs → Opened f vs
unfolding new
opened ld s f vs bytes e =
    let a = admits ld s f vs e in
    let read = file_read s bytes ld f a.end a.read in
    let A = facts_of ld s f vs read a in
    let F = file_rust ld s f vs read a in
    let c = consts_of ld s f vs read a in
    record {
      facts = A;
      rust = F;
      sim = record { consts = c.0; eq_order = order (main f).equations; state = default_state; call_states = no_states };
      is_new = ap₂ (λ x y. new_on f x y) c.1 (main_ordered f vs A F);
      start = start_rel f vs A F c.0 c.2 (constants_in_lem f vs c.0 (constants_distinct f a.no6) A.constant_count c.2);
      no_past = refl;
    }

-- the start writes the bytes of `Sim::new`
pub start_is : (ld : Loader) (s : List ℕ) (f : File) (vs : List Value) (buf : List ℕ) → judge ld s ≡ admitted f vs → length buf ≡ state_size f
    → start ld s buf ≡ record { answer = (Ok tt); state = fresh_state f vs }
unfolding start
start_is ld s f vs buf e l = ap (λ j. start_judged j buf) e ∙ ap (λ b. start_fits b f vs buf) (T_true (eqb (length buf) (state_size f)) (eq_eqb _ _ l))

pub runs_as_rust : (ld : Loader) → RunsAsRust ld
unfolding RunsAsRust
runs_as_rust ld s f vs buf ts bytes e l =
    let o = opened ld s f vs bytes e in
    let z = start_is ld s f vs buf e l in (
      o.sim,
      o.is_new,
      z ∙ ap (λ st. record { answer = (Ok tt); state = st }) (state_is f vs o.facts o.rust (fresh_state f vs) o.sim o.start),
      subst (λ (c : StartCall). AsRust f o.sim (history ld s ts c.state)) (sym z) (as_rust f vs o.facts o.rust ld s e ts (fresh_state f vs) o.sim o.start),
    )
