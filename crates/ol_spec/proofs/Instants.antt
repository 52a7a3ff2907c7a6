-- The instants of an Operator's instance over a list of cycles: specs/Instants' claims.
use Prim.Native.Nat.{ℕ, zero, suc, ◌+◌, ◌-◌, ◌<◌}
use mathlib.Core.Bool.{Bool, true, false, cond}
use mathlib.Core.List.Memᴰ.{head as here}
use mathlib.Core.List.Memᴰ.{tail as there}
use mathlib.Core.List.{List, [], ◌∷◌, ◌++◌, map}
use mathlib.Core.Option.{Option, none, some}
use mathlib.Core.Path.{◌≡◌, refl, sym, ap, subst, ◌∙◌}
use native.Mathlib.Omega.{arith}
use lib.ListN.{length, take, drop}
use Rattle.ol_theory.specs.Member.{◌∈◌}
use Rattle.ol_spec.specs.Lists.{maybe}
use Rattle.ol_spec.specs.Syntax.{NodeKind, Function, Operator, Imported, Node, File, bool_lit, if_then_else, main}
use Rattle.ol_spec.specs.Limits.{Loader}
use Rattle.ol_spec.specs.Order.{order}
use Rattle.ol_spec.specs.Eval.{Globals, node_at, record_size}
use Rattle.ol_spec.specs.Step.{sites, own_size, old_cells}
use Rattle.ol_spec.specs.Admission.{judge, admitted}
use Rattle.ol_spec.specs.State.{globals_of, fresh_state}
use Rattle.ol_spec.specs.Answers.{cause_number}
use Rattle.ol_spec.specs.Cycle.{CycleCall}
use Rattle.ol_spec.specs.Demand3.{Turn, Made, history, main_record}
use Rattle.ol_spec.specs.Lustre.{firstly, cells_before}
use Rattle.ol_spec.specs.RustSim.{width, Env, Key, State, state, States, get_state, past, prev, child_calls, choose, branch, LoopEnd, done, err_at, panic_at, Ran, Sim, for_order, seed, step, call_values, step_env, step_full, step_end}
use Rattle.ol_spec.specs.RustLeaves.{SimError}
use Rattle.ol_spec.specs.RustSim as Rust
use Rattle.ol_spec.specs.RustState.{state_or, calls_of}
use Rattle.ol_spec.specs.AsRust.{error_number, fitting, input_map, told, refusal, step_on, call_on, sim_after}
use Rattle.ol_spec.specs.Instances.{sequence_in, eval_on, AtPast, AtSites, AtKind, AtSite}
use Rattle.ol_spec.specs.Sequences.{cells_at}
use Rattle.ol_spec.specs.Instants.{Stays, still, onward, Moves, stays, again, Instance, if_operator, site_at, inside, leads_to, instance_at, past_at, behind, Passes, Undone, AllPass, sim_behind, Finishes, NeverAgain, SecondSides, InstancesNeverReturn, InstantsClaim, StartNeverReturns}
use Rattle.ol_spec.specs.declared.Value.{Value}
use Rattle.ol_spec.specs.declared.Cause.{Cause}
use Rattle.ol_spec.specs.declared.Cause.TheVariants as Why
use Rattle.ol_spec.proofs.Admitted.{Facts}
use Rattle.ol_spec.proofs.States.{is_main}
use Rattle.ol_spec.proofs.RustPlaces.{callee_of, sites_are}
use Rattle.ol_spec.proofs.RustLeaves.{cause_of, number_is}
use Rattle.ol_spec.proofs.Calls.{lower_site}
use Rattle.ol_spec.proofs.RustCalls.{FileRust}
use Rattle.ol_spec.proofs.RustMoves.{Moved, same, longer, dropped, moved_to, operator_moves, steps_move}
use Rattle.ol_spec.proofs.AsRust.{MainRel, turn_tells, opened}
use Rattle.ol_spec.proofs.Instances.{everywhere}
use Rattle.ol_spec.proofs.Sequences.{never_returns}

-- no error has the overflow's number
error_no_overflow : (x : SimError) → ¬ (error_number x ≡ 19)
error_no_overflow x e = go (cause_of x) (number_is x ∙ e)
  where
    go : (c : Cause) → ¬ (cause_number c ≡ 19)
    go Why.Cold h = omega arith
    go Why.Range h = omega arith
    go Why.Other h = omega arith

-- ---- what becomes of a state, and of those inside it

children : {o o' : Option State} → Moved o o' → (key : Key) → Moved (get_state key (child_calls (state_or o))) (get_state key (child_calls (state_or o')))
unfolding get_state
children (same o o' e) key = same _ _ (ap (λ x. get_state key (child_calls (state_or x))) e)
children (longer o o' env calls e h) key = moved_to (sym (ap (λ x. get_state key (child_calls (state_or x))) e)) (h key)
children (dropped o o' e) key = dropped _ _ (ap (λ x. get_state key (child_calls (state_or x))) e)

own_moves : {o o' : Option State} → Moved o o' → Moves (past (state_or o)) (past (state_or o'))
own_moves (same o o' e) = stays (still (ap (λ x. past (state_or x)) e))
own_moves (longer o o' env calls e h) = stays (onward env (ap (λ x. past (state_or x)) e))
own_moves (dropped o o' e) = again (ap (λ x. past (state_or x)) e)

abbrev Below : States → States → Type 0
Below calls calls' = (key : Key) → Moved (get_state key calls) (get_state key calls')

abbrev inst : ℕ → List ℕ → Option State → Instance
inst k r o = record { number = k; bytes = r; state = state_or o }

none_some : {A B : Type 0} {a : A} → none ≡ some a → B
none_some e = let z : ◌≡◌ {A = ℕ} 0 1 = cc in absurd (omega arith)

some_one : {A : Type 0} {a b : A} → some a ≡ some b → a ≡ b
some_one e = cc

module _ (f : File) (vs : List Value) where
  abbrev g : Globals
  g = globals_of f vs

  -- ---- a call site

  -- the instance at a call site, by its key; with other records and states there is another at the same
  record Site (A : ℕ → List ℕ → Option State → Type 0) (k j : ℕ) (cs : List (ℕ × ℕ)) (calls : States) (x : Instance) : Type 0 where
    callee : ℕ
    bytes : List ℕ
    key : Key
    is : inst callee bytes (get_state key calls) ≡ x
    operator : (node_at g callee).kind ≡ Operator
    among : callee ∈ map callee_of cs
    has : A callee bytes (get_state key calls)
    else_where : (s' : List ℕ) (calls' : States) → (r : List ℕ) × (site_at f vs k j cs s' calls' ≡ some (inst callee r (get_state key calls')))

  site : (A : ℕ → List ℕ → Option State → Type 0) (k j : ℕ) (cs : List (ℕ × ℕ)) (s : List ℕ) (calls : States) (x : Instance) → AtSites f vs A k cs s calls
      → site_at f vs k j cs s calls ≡ some x → Site A k j cs calls x
  site A k j [] s calls x a e = none_some e
  site A k zero (c ∷ cs) s calls x a e = go (node_at g c.1).kind refl e
    where
      go : (t : NodeKind) → (node_at g c.1).kind ≡ t → if_operator t (inst c.1 (take (record_size g c.1) s) (get_state (k, c.0) calls)) ≡ some x → Site A k zero (c ∷ cs) calls x
      go Function q e = none_some e
      go Operator q e =
          record {
            callee = c.1;
            bytes = take (record_size g c.1) s;
            key = (k, c.0);
            is = some_one e;
            operator = q;
            among = here refl;
            has = a.0;
            else_where = λ s' calls'.
                (take (record_size g c.1) s', ap (λ t. if_operator t (inst c.1 (take (record_size g c.1) s') (get_state (k, c.0) calls'))) q);
          }
      go Imported q e = none_some e
  site A k (suc j) (c ∷ cs) s calls x a e =
      let w = site A k j cs (drop (record_size g c.1) s) calls x a.1 e in
      record {
        callee = w.callee;
        bytes = w.bytes;
        key = w.key;
        is = w.is;
        operator = w.operator;
        among = there w.among;
        has = w.has;
        else_where = λ s' calls'. w.else_where (drop (record_size g c.1) s') calls';
      }

  -- ---- a way of call sites

  -- an instance at its end, before and behind
  record Pair (i i' : Instance) : Type 0 where
    number : i'.number ≡ i.number
    moves : Moves (past i.state) (past i'.state)

  abbrev Lower : Type 0
  Lower = (k c : ℕ) → c ∈ sites (node_at g k) → c < k

  called_below : Lower → (k c : ℕ) → c ∈ map callee_of (calls_of 0 (node_at g k).equations) → c < k
  called_below low k c m = low k c (subst (λ l. c ∈ l) (sites_are (node_at g k).equations 0) m)

  -- what is known of the instance there
  lead_at : Lower → (d : ℕ) (p : List ℕ) (k : ℕ) (r : List ℕ) (o : Option State) (i : Instance) → k < d → (node_at g k).kind ≡ Operator → AtSite f vs d k r o
      → leads_to f vs p (inst k r o) ≡ some i → AtPast f vs i.number (node_at g i.number) i.bytes i.state
  lead_at low zero p k r o i b q a e = absurd (omega arith)
  lead_at low (suc d) [] k r o i b q a e =
      subst (λ (x : Instance). AtPast f vs x.number (node_at g x.number) x.bytes x.state) (some_one e) (subst (λ t. AtKind f vs t (AtSite f vs d) k r o) q a).1.0
  lead_at low (suc d) (j ∷ p) k r o i b q a e = go (inside f vs j (inst k r o)) refl e (λ c r o m t a e. lead_at low d p c r o i (omega (arith, called_below low k c m)) t a e)
    where
      n : Node
      n = node_at g k

      cs : List (ℕ × ℕ)
      cs = calls_of 0 n.equations

      go : (x : Option Instance) → inside f vs j (inst k r o) ≡ x → maybe none (leads_to f vs p) x ≡ some i
          → ((c : ℕ) (r : List ℕ) (o : Option State) → c ∈ map callee_of cs → (node_at g c).kind ≡ Operator → AtSite f vs d c r o → leads_to f vs p (inst c r o) ≡ some i
          → AtPast f vs i.number (node_at g i.number) i.bytes i.state)
          → AtPast f vs i.number (node_at g i.number) i.bytes i.state
      go none h e more = none_some e
      go (some x) h e more =
          let w = site (AtSite f vs d) k j cs (drop (own_size n) r) (child_calls (state_or o)) x (subst (λ t. AtKind f vs t (AtSite f vs d) k r o) q a).1.1 h in
          more w.callee w.bytes (get_state w.key (child_calls (state_or o))) w.among w.operator w.has (ap (leads_to f vs p) w.is ∙ e)

  -- where it is behind the cycle
  nothing : (k : ℕ) (cs : List (ℕ × ℕ)) (s : List ℕ) (calls : States) → AtSites f vs (λ k r o. Unit {0}) k cs s calls
  nothing k [] s calls = tt
  nothing k (c ∷ cs) s calls = (tt, nothing k cs _ calls)

  lead_moves : (p : List ℕ) (k : ℕ) (r r' : List ℕ) (o o' : Option State) → Moved o o' → (i : Instance) → leads_to f vs p (inst k r o) ≡ some i
      → (i' : Instance) × (leads_to f vs p (inst k r' o') ≡ some i') × Pair i i'
  lead_moves [] k r r' o o' h i e =
      (inst k r' o', refl, subst (λ x. Pair x (inst k r' o')) (some_one e) (record { number = refl; moves = own_moves h }))
  lead_moves (j ∷ p) k r r' o o' h i e = go (inside f vs j (inst k r o)) refl e (λ c r r' o o' h e. lead_moves p c r r' o o' h i e)
    where
      n : Node
      n = node_at g k

      cs : List (ℕ × ℕ)
      cs = calls_of 0 n.equations

      go : (x : Option Instance) → inside f vs j (inst k r o) ≡ x → maybe none (leads_to f vs p) x ≡ some i
          → ((c : ℕ) (r r' : List ℕ) (o o' : Option State) → Moved o o' → leads_to f vs p (inst c r o) ≡ some i → (i' : Instance) × (leads_to f vs p (inst c r' o') ≡ some i') × Pair i i')
          → (i' : Instance) × (maybe none (leads_to f vs p) (inside f vs j (inst k r' o')) ≡ some i') × Pair i i'
      go none q e more = none_some e
      go (some x) q e more =
          let w = site (λ k r o. Unit {0}) k j cs (drop (own_size n) r) (child_calls (state_or o)) x (nothing k cs _ _) q in
          let y = w.else_where (drop (own_size n) r') (child_calls (state_or o')) in
          let z = more w.callee w.bytes y.0 (get_state w.key (child_calls (state_or o))) (get_state w.key (child_calls (state_or o'))) (children h w.key) (ap (leads_to f vs p) w.is ∙ e) in
          (z.0, ap (maybe none (leads_to f vs p)) y.1 ∙ z.1, z.2)

  -- ---- a turn

  module _ (A : Facts f vs) (F : FileRust f vs) where
    abbrev D : ℕ
    D = length f.nodes

    main_moves : (st : State) (env : Env) (c : States) → Below c (for_order f (step f) (call_values f) (D - 1) (main f) st (order (main f).equations) env c).calls
    main_moves st env c =
        subst (λ (n : Node). Below c (for_order f (step f) (call_values f) (D - 1) n st (order n.equations) env c).calls) (sym (is_main f vs A))
        (operator_moves f vs F D (steps_move f vs F D) (D - 1) (omega (arith, A.some_node_lem)) st env c)

    -- the `Sim` that a step leaves
    step_moves : (sim : Sim) (ins : Env) → sim.eq_order ≡ order (main f).equations → Below sim.call_states (step_full f sim ins).sim.call_states
    unfolding step_full step_env
    step_moves sim ins e = by_end v.end
      where
        v : Ran
        v = step_env f sim ins

        moved : Below sim.call_states v.calls
        moved =
            subst (λ is. Below sim.call_states (for_order f (step f) (call_values f) (D - 1) (main f) sim.state is (seed f (prev sim.state) ((main f).outputs ++ (main f).locals) (ins ++ sim.consts)) sim.call_states).calls) (sym e)
            (main_moves sim.state (seed f (prev sim.state) ((main f).outputs ++ (main f).locals) (ins ++ sim.consts)) sim.call_states)

        by_end : (t : LoopEnd) → Below sim.call_states (step_end f sim t v.env v.calls).sim.call_states
        by_end done = moved
        by_end (err_at x i) = moved
        by_end (panic_at i) = λ key. same _ _ refl

    turn_moves : (old : List ℕ) (sim : Sim) → MainRel f vs A F old sim → (t : Turn) → Below sim.call_states (sim_after f sim t).call_states
    turn_moves old sim h t = go (fitting f t)
      where
        go : (b : Bool) → Below sim.call_states (cond b (step_on f sim t).sim sim).call_states
        go true = step_moves sim (input_map f t) h.ordered
        go false = λ key. same _ _ refl

    -- a turn that is refused or overflows leaves the `Sim`
    undone : (sim : Sim) (t : Turn) → Undone f vs (call_on f sim t).answer → sim_after f sim t ≡ sim
    unfolding step_full
    undone sim t = go (fitting f t)
      where
        v : Ran
        v = step_env f sim (input_map f t)

        by_end : (e : LoopEnd) → Undone f vs (told f t (step_end f sim e v.env v.calls)).answer → (step_end f sim e v.env v.calls).sim ≡ sim
        by_end done u = absurd u
        by_end (err_at x i) u = absurd (error_no_overflow x u)
        by_end (panic_at i) u = refl

        go : (b : Bool) → Undone f vs (cond b (told f t (step_on f sim t)) (refusal f t)).answer → cond b (step_on f sim t).sim sim ≡ sim
        go true u = by_end v.end u
        go false u = refl

    -- ---- the instances of a state

    instance_past : (old : List ℕ) (sim : Sim) → MainRel f vs A F old sim → (j : ℕ) (p : List ℕ) (i : Instance) → instance_at f vs j p old sim ≡ some i
        → AtPast f vs i.number (node_at g i.number) i.bytes i.state
    instance_past old sim h j p i e = go (site_at f vs (D - 1) j cs s sim.call_states) refl e
      where
        cs : List (ℕ × ℕ)
        cs = calls_of 0 (main f).equations

        s : List ℕ
        s = drop (own_size (main f)) (main_record f vs old)

        below : (c : ℕ) → c ∈ map callee_of cs → c < D
        below c m =
            let q = lower_site F.callable (D - 1) c (subst (λ n. c ∈ sites n) (is_main f vs A) (subst (λ l. c ∈ l) (sites_are (main f).equations 0) m)) in omega (arith, A.some_node_lem)

        go : (x : Option Instance) → site_at f vs (D - 1) j cs s sim.call_states ≡ x → maybe none (leads_to f vs p) x ≡ some i
            → AtPast f vs i.number (node_at g i.number) i.bytes i.state
        go none q e = none_some e
        go (some x) q e =
            let w = site (AtSite f vs D) (D - 1) j cs s sim.call_states x (everywhere f vs A F old sim h).1.1 q in
            lead_at (lower_site F.callable) D p w.callee w.bytes (get_state w.key sim.call_states) i (below w.callee w.among) w.operator w.has
            (ap (leads_to f vs p) w.is ∙ e)

    instance_moves : (old old' : List ℕ) (sim sim' : Sim) → Below sim.call_states sim'.call_states → (j : ℕ) (p : List ℕ) (i : Instance) → instance_at f vs j p old sim ≡ some i
        → (i' : Instance) × (instance_at f vs j p old' sim' ≡ some i') × Pair i i'
    instance_moves old old' sim sim' h j p i e = go (site_at f vs (D - 1) j cs s sim.call_states) refl e
      where
        cs : List (ℕ × ℕ)
        cs = calls_of 0 (main f).equations

        s : List ℕ
        s = drop (own_size (main f)) (main_record f vs old)

        go : (x : Option Instance) → site_at f vs (D - 1) j cs s sim.call_states ≡ x → maybe none (leads_to f vs p) x ≡ some i
            → (i' : Instance) × (instance_at f vs j p old' sim' ≡ some i') × Pair i i'
        go none q e = none_some e
        go (some x) q e =
            let w = site (λ k r o. Unit {0}) (D - 1) j cs s sim.call_states x (nothing (D - 1) cs s sim.call_states) q in
            let y = w.else_where (drop (own_size (main f)) (main_record f vs old')) sim'.call_states in
            let z = lead_moves p w.callee w.bytes y.0 (get_state w.key sim.call_states) (get_state w.key sim'.call_states) (h w.key) i (ap (leads_to f vs p) w.is ∙ e) in
            (z.0, ap (maybe none (leads_to f vs p)) y.1 ∙ z.1, z.2)

    -- an instance passes a cycle
    passes : (old old' : List ℕ) (sim sim' : Sim) → MainRel f vs A F old sim → MainRel f vs A F old' sim' → Below sim.call_states sim'.call_states
        → (j : ℕ) (p : List ℕ) (i : Instance) → instance_at f vs j p old sim ≡ some i → (i' : Instance) × (instance_at f vs j p old' sim' ≡ some i') × Passes f vs i i'
    passes old old' sim sim' h h' m j p i e =
        let w = instance_moves old old' sim sim' m j p i e in
        let i' = w.0 in
        let at = instance_past old' sim' h' j p i' w.1 in (
          i',
          w.1,
          record {
            same = w.2.number;
            here = instance_past old sim h j p i e;
            moves = w.2.moves;
            next = λ env q.
                subst (λ k. old_cells (node_at g k) i'.bytes ≡ cells_at f.enums (node_at g k) (sequence_in i'.state) (length (past i.state))) w.2.number
                (subst (λ l. old_cells (node_at g i'.number) i'.bytes ≡ cells_before f.enums (node_at g i'.number) (sequence_in i'.state) (length l)) q at.cells);
          },
        )

    -- ---- a list

    -- each cycle stands on the state that the one before it left, and so does the `Sim`
    abbrev Threaded : List ℕ → Sim → List Made → Type 0
    Threaded old sim [] = Unit {0}
    Threaded old sim (m ∷ ms) =
        (m.old ≡ old) × MainRel f vs A F old sim × (m.result ≡ call_on f sim m.turn) × MainRel f vs A F (behind f vs m) (sim_after f sim m.turn)
        × Threaded (behind f vs m) (sim_after f sim m.turn) ms

    threaded : (ld : Loader) (s : List ℕ) → judge ld s ≡ admitted f vs → (ts : List Turn) (old : List ℕ) (sim : Sim) → MainRel f vs A F old sim → Threaded old sim (history ld s ts old)
    threaded ld s e [] old sim h = tt
    threaded ld s e (t ∷ ts) old sim h = let w = turn_tells f vs A F ld s e t old sim h in (refl, h, w.0, w.1, threaded ld s e ts _ _ w.1)

    all_pass : (ms : List Made) (old : List ℕ) (sim : Sim) → Threaded old sim ms → AllPass f vs sim ms
    all_pass [] old sim t = tt
    all_pass (m ∷ ms) old sim t = (
      λ j p i e. passes old (behind f vs m) sim (sim_after f sim m.turn) t.1 t.3 (turn_moves old sim t.1 m.turn) j p i
          (ap (λ o. instance_at f vs j p o sim) (sym t.0) ∙ e),
      λ u. undone sim m.turn (subst (λ (c : CycleCall). Undone f vs c.answer) t.2 u),
      all_pass ms (behind f vs m) (sim_after f sim m.turn) t.4,
    )

    -- ---- a start value does not come back

    abbrev Past : List Env → Type 0
    Past l = firstly (length l) ≡ false

    past_stays : (a b : List Env) → Stays a b → Past a → Past b
    past_stays a b (still e) h = subst Past (sym e) h
    past_stays a b (onward env e) h = subst Past (sym e) refl

    -- a cycle m that stands so far behind, with its state and `Sim`
    record Reached (j : ℕ) (p : List ℕ) (m : Made) (sim : Sim) : Type 0 where
      rel : MainRel f vs A F m.old sim
      started : Past (past_at f vs j p m.old sim)

    reach : (j : ℕ) (p : List ℕ) (between : List Made) (m : Made) (later : List Made) (old : List ℕ) (sim : Sim) → Threaded old sim (between ++ m ∷ later) → NeverAgain f vs j p sim between
        → Past (past_at f vs j p old sim) → Reached j p m (sim_behind f vs sim between)
    reach j p [] m later old sim t n h =
        record { rel = subst (λ o. MainRel f vs A F o sim) (sym t.0) t.1; started = subst (λ o. Past (past_at f vs j p o sim)) (sym t.0) h }
    reach j p (y ∷ ys) m later old sim t n h =
        reach j p ys m later (behind f vs y) (sim_after f sim y.turn) t.4 n.1 (past_stays _ _ n.0 (subst (λ o. Past (past_at f vs j p o sim)) (sym t.0) h))

    abbrev behind_all : Sim → List Made → Made → List Made → Sim
    behind_all sim earlier x between = sim_behind f vs sim (earlier ++ x ∷ between)

    returns : (j : ℕ) (p : List ℕ) (earlier : List Made) (x : Made) (between : List Made) (m : Made) (later : List Made) (old : List ℕ) (sim : Sim)
        → Threaded old sim (earlier ++ x ∷ (between ++ m ∷ later)) → Finishes f vs j p (sim_behind f vs sim earlier) x → NeverAgain f vs j p (sim_behind f vs sim (earlier ++ x ∷ [])) between
        → Reached j p m (behind_all sim earlier x between)
    returns j p [] x between m later old sim t h n = reach j p between m later (behind f vs x) (sim_after f sim x.turn) t.4 n (subst Past (sym h.1) refl)
    returns j p (y ∷ ys) x between m later old sim t h n = returns j p ys x between m later (behind f vs y) (sim_after f sim y.turn) t.4 h n

    second_sides : (i : Instance) → AtPast f vs i.number (node_at g i.number) i.bytes i.state → Past (past i.state) → SecondSides f vs i
    second_sides i a h =
        record {
          started = a.first ∙ h;
          takes = λ x y calls cs seg. a.takes x y calls cs seg ∙ ap (λ t. eval_on f vs (node_at g i.number) i.bytes calls cs (if_then_else (bool_lit t) x y) seg) h;
          rust_takes = λ x y step values env at calls.
              a.rust_takes x y step values env at calls
              ∙ ap (λ t. choose t (branch f step values i.number env i.state x (Rust.eval f step values i.number env i.state (suc at) x))
              (branch f step values i.number env i.state y (Rust.eval f step values i.number env i.state (suc at + width x) y)) calls) h;
        }

    never_return : (ms : List Made) (old : List ℕ) (sim : Sim) → Threaded old sim ms → InstancesNeverReturn f vs sim ms
    never_return ms old sim t earlier x between m later e j p i q h n =
        let w = returns j p earlier x between m later old sim (subst (Threaded old sim) e t) h n in
        second_sides i (instance_past m.old _ w.rel j p i q) (subst (λ (o : Option Instance). Past (maybe [] (λ i. past i.state) o)) q w.started)

pub instants_claim : (ld : Loader) → InstantsClaim ld
unfolding InstantsClaim
instants_claim ld s f vs ts bytes e =
    let o = opened ld s f vs bytes e in
    let t = threaded f vs o.facts o.rust ld s e ts (fresh_state f vs) o.sim o.start in
    (o.sim, o.is_new, all_pass f vs o.facts o.rust (history ld s ts (fresh_state f vs)) (fresh_state f vs) o.sim t)

pub start_never_returns : (ld : Loader) → StartNeverReturns ld
unfolding StartNeverReturns
start_never_returns ld s f vs ts bytes e =
    let o = opened ld s f vs bytes e in
    let t = threaded f vs o.facts o.rust ld s e ts (fresh_state f vs) o.sim o.start in (
      never_returns ld s f vs ts bytes e,
      (o.sim, o.is_new, never_return f vs o.facts o.rust (history ld s ts (fresh_state f vs)) (fresh_state f vs) o.sim t),
    )
