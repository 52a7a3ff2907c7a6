-- The 1991 paper's `pre` and `->` in every instance, at every depth. Types only: proofs/Instances proves the claim.
-- An instance's instants are the steps that it finished since its record was last fresh. The Rust of specs/RustSim keeps them, as `past`: a finished step adds its environment,
-- and an error in the instance drops its state.
use Rattle.std.specs.Prelude.{ℕ, zero, suc, ◌+◌, ◌-◌, cond, List, [], ◌∷◌, ◌++◌, map, reverse, ◌↔◌, ◌≡◌, length, take, drop, T, eqb}
use Rattle.std.proofs.Math.Option.{Option, none, some}
use Rattle.std.proofs.Math.ListN.{get_elem?}
use Rattle.ol_spec.specs.Lists.{maybe, member}
use Rattle.ol_spec.specs.Syntax.{Variable, NodeKind, Function, Operator, Imported, Node, File, Expr, bool_lit, var, if_then_else, main, variables, variable_names, cell_types, Constant, constant_cells}
use Rattle.ol_spec.specs.Syntax as S
use Rattle.ol_spec.specs.Limits.{Loader}
use Rattle.ol_spec.specs.Cell.{values_of}
use Rattle.ol_spec.specs.Order.{order}
use Rattle.ol_spec.specs.Eval.{Globals, Calls, failure, Eval, Evals, eval, eval_cells, cells_named, node_at, record_size}
use Rattle.ol_spec.specs.Step.{input_count, own_size, is_fresh, old_cells, old_segs, scope, fit_all, fresh_record, leave, calls_at, calls}
use Rattle.ol_spec.specs.Admission.{constant_names, constant_cell_names, judge, admitted}
use Rattle.ol_spec.specs.State.{globals_of, fresh_state, good_inputs}
use Rattle.ol_spec.specs.Cycle.{main_run}
use Rattle.ol_spec.specs.Demand3.{Bytes, Turn, Made, history, main_record}
use Rattle.ol_spec.specs.Lustre.{pre, always, or_cold, firstly, cells_before, Entries, run_at, answers}
use Rattle.ol_spec.specs.RustSim.{width, RValue, Env, get, Key, State, States, get_state, remove_state, past, prev, child_calls, cycle, default_state, Err, uninitialized_pre, ok_or, no_states, StepInstance, CallValues, call_function_values, call_values, values_arity, Sim, for_order, reseed, callee_env, end_function, end_operator, step_instance, step, seed, step_env, new}
use Rattle.ol_spec.specs.RustSim as Rust
use Rattle.ol_spec.specs.RustState.{cells_of, answered_by, state_or, calls_of}
use Rattle.ol_spec.specs.AsRust.{of_cells, named, sim_after}
use Rattle.ol_spec.specs.declared.Value.{Value}
use Rattle.ol_spec.specs.declared.Cause.TheVariants as Why

-- the sequence of x over an instance's instants: its values, and their cells
abbrev pub values_in : State → ℕ → ℕ → Option RValue
values_in st x n = maybe none (get x) (get_elem? (reverse (past st)) n)

abbrev pub cells_or : Option RValue → Option (List Value)
cells_or none = none
cells_or (some v) = some (cells_of v)

abbrev pub sequence_in : State → ℕ → ℕ → Option (List Value)
sequence_in st x n = cells_or (values_in st x n)

-- a constant's value, among constants whose cells follow one another
abbrev pub constant_in : List Constant → List Value → ℕ → Option RValue
constant_in [] vs x = none
constant_in (c ∷ cs) vs x = cond (eqb x c.name) (some (of_cells c.ty vs)) (constant_in cs (drop (length (constant_cells c)) vs) x)

-- the values that these cells are, one for each variable
abbrev pub valued : List Variable → List Value → List RValue
valued xs ws = map (λ p. p.1) (named xs ws)

module _ (f : File) (vs : List Value) where
  abbrev g : Globals
  g = globals_of f vs

  -- an expression in a cycle of an instance of n on the record r, whatever its present cells and the meaning of calls
  abbrev pub eval_on : Node → List ℕ → Calls → List Value → Expr → List ℕ → Eval
  eval_on n r calls cs e seg = eval g (scope n (is_fresh r) (old_cells n r) cs) calls e seg

  -- and its cells, be it a scalar or an array
  abbrev pub cells_on : Node → List ℕ → Calls → List Value → Expr → List ℕ → Evals
  cells_on n r calls cs e seg = eval_cells g (scope n (is_fresh r) (old_cells n r) cs) calls e seg

  -- On the record of an instance that finished so many steps: it is at a first cycle exactly if these are none; an entry of a variable's sequence has as many cells as the variable; its cells are those that the paper's pre gives; `pre x` has the cells that the paper's pre gives the
  -- sequence of x at the next instant, nil being cold, a constant's sequence being its value always; `pre` of whatever is cold exactly if these are none; and `a -> b` evaluates as `if c then a else b`, where c is what the
  -- paper's true -> false is then. In the Rust as over the bytes.
  pub record AtPast (k : ℕ) (n : Node) (r : List ℕ) (st : State) : Type 0 where
    pub first : is_fresh r ≡ firstly (cycle st)
    pub entries : Entries n (sequence_in st)
    pub cells : old_cells n r ≡ cells_before f.enums n (sequence_in st) (cycle st)
    pub before : (x : ℕ) → T (member x (variable_names n)) → (calls : Calls) (cs : List Value) (seg : List ℕ)
        → (cells_on n r calls cs (S.pre (var x)) seg).out ≡ or_cold (pre (sequence_in st x) (cycle st))
    pub constants : (x : ℕ) → T (member x (constant_names f)) → (calls : Calls) (cs : List Value) (seg : List ℕ)
        → (cells_on n r calls cs (S.pre (var x)) seg).out ≡ or_cold (pre (always (cells_named x (constant_cell_names f) vs)) (cycle st))
    pub cold : (e : Expr) (calls : Calls) (cs : List Value) (seg : List ℕ) → ((cells_on n r calls cs (S.pre e) seg).out ≡ failure Why.Cold) ↔ (cycle st ≡ 0)
    pub takes : (a b : Expr) (calls : Calls) (cs : List Value) (seg : List ℕ)
        → eval_on n r calls cs (S.arrow a b) seg ≡ eval_on n r calls cs (if_then_else (bool_lit (firstly (cycle st))) a b) seg
    pub rust_before : (x : ℕ) → T (member x (variable_names n)) → (step : StepInstance) (values : CallValues) (env : Env) (at : ℕ) (calls : States)
        → (Rust.eval f step values k env st at (S.pre (var x)) calls).out ≡ ok_or uninitialized_pre (pre (values_in st x) (cycle st))
    pub rust_constants : (x : ℕ) → T (member x (constant_names f)) → (step : StepInstance) (values : CallValues) (env : Env) (at : ℕ) (calls : States)
        → (Rust.eval f step values k env st at (S.pre (var x)) calls).out ≡ ok_or uninitialized_pre (pre (always (constant_in f.constants vs x)) (cycle st))
    pub rust_cold : (e : Expr) (step : StepInstance) (values : CallValues) (env : Env) (at : ℕ) (calls : States) → ((Rust.eval f step values k env st at (S.pre e) calls).out ≡ Err uninitialized_pre) ↔ (cycle st ≡ 0)
    pub rust_takes : (a b : Expr) (step : StepInstance) (values : CallValues) (env : Env) (at : ℕ) (calls : States)
        → Rust.eval f step values k env st at (S.arrow a b) calls
        ≡ Rust.choose (firstly (cycle st)) (Rust.branch f step values k env st a (Rust.eval f step values k env st (suc at) a)) (Rust.branch f step values k env st b (Rust.eval f step values k env st (suc at + width a) b)) calls

  -- ---- what is run

  -- A call of an Operator on its record runs its equations at the instant that its past says. The Rust's runs them on the state at the call's key, whose `first_tick`, `prev`
  -- and past are those that `AtPast` speaks of; an absent state is the default one. There its variables start from the fitted arguments and the cells that the paper's pre gives.
  pub record CallRuns (k : ℕ) (n : Node) (r : List ℕ) (o : Option State) : Type 0 where
    pub bytes : (d : ℕ) (ws : List Value)
        → calls_at g (suc d) k ws r ≡ leave g n r (run_at g (calls_at g d) n (sequence_in (state_or o)) (cycle (state_or o)) (fit_all (cell_types n.inputs) ws) (old_segs g n r))
    pub rust : (d : ℕ) (key : Key) (ws : List RValue) (calls : States) (env : Env) → get_state key calls ≡ o
        → step_instance f (suc d) key k ws calls env
        ≡ end_operator f n key (state_or o)
        (for_order f (step_instance f d) (call_function_values f d) k n (state_or o) (order n.equations) (reseed f (prev (state_or o)) (n.outputs ++ n.locals) (callee_env f n ws env)) (child_calls (state_or o)))
        (remove_state key calls)
    pub rust_starts : (ws : List Value) (env : Env) → length ws ≡ input_count n → (x : ℕ) → T (member x (variable_names n))
        → get x (reseed f (prev (state_or o)) (n.outputs ++ n.locals) (callee_env f n (valued n.inputs ws) env))
        ≡ get x (named (variables n) (fit_all (cell_types n.inputs) ws ++ drop (input_count n) (cells_before f.enums n (sequence_in (state_or o)) (cycle (state_or o)))))

  -- a Function's sequences have one instant: every call runs its equations at instant 0, and leaves the site as it was; and so every call of an iterator
  pub record FunctionRuns (k : ℕ) (n : Node) (r : List ℕ) : Type 0 where
    pub bytes : (d : ℕ) (ws : List Value)
        → calls_at g (suc d) k ws r
        ≡ record { out = (leave g n (fresh_record g n) (run_at g (calls_at g d) n (λ x. always none) 0 (fit_all (cell_types n.inputs) ws) (old_segs g n (fresh_record g n)))).out; seg = r }
    pub rust : (d : ℕ) (key : Key) (ws : List RValue) (calls : States) (env : Env)
        → step_instance f (suc d) key k ws calls env ≡ end_function f n (for_order f (step_instance f d) (call_function_values f d) k n default_state (order n.equations) (callee_env f n ws env) calls)
    pub rust_starts : (ws : List Value) (env : Env) → length ws ≡ input_count n → (x : ℕ) → T (member x (variable_names n))
        → get x (callee_env f n (valued n.inputs ws) env)
        ≡ get x (named (variables n) (fit_all (cell_types n.inputs) ws ++ drop (input_count n) (cells_before f.enums n (λ x. always none) 0)))
    pub rust_iterated : (d : ℕ) (ws : List RValue) (env : Env)
        → call_function_values f (suc d) k ws env
        ≡ values_arity f (eqb (length ws) (length n.inputs))
        (end_function f n (for_order f (step_instance f d) (call_function_values f d) k n default_state (order n.equations) (callee_env f n ws env) no_states)).out

  -- The main instance. In the Rust its variables start from the inputs and from the cells that the paper's pre gives.
  pub record MainRuns (old : List ℕ) (sim : Sim) : Type 0 where
    pub bytes : (ins : List ℕ)
        → main_run f vs old ins
        ≡ run_at g (calls g) (main f) (sequence_in sim.state) (cycle sim.state) (values_of (input_count (main f)) ins) (old_segs g (main f) (main_record f vs old))
    pub rust : (ins : Env)
        → step_env f sim ins
        ≡ for_order f (step f) (call_values f) (length f.nodes - 1) (main f) sim.state (order (main f).equations) (seed f (prev sim.state) ((main f).outputs ++ (main f).locals) (ins ++ sim.consts)) sim.call_states
    pub rust_starts : (ins : List ℕ) → T (good_inputs f ins) → (x : ℕ) → T (member x (variable_names (main f)))
        → get x (seed f (prev sim.state) ((main f).outputs ++ (main f).locals) (named (main f).inputs (values_of (input_count (main f)) ins) ++ sim.consts))
        ≡ get x (named (variables (main f))
        (values_of (input_count (main f)) ins ++ drop (input_count (main f)) (cells_before f.enums (main f) (sequence_in sim.state) (cycle sim.state))))

  -- ---- every instance: a node, its record and its state

  -- these calls of node number k, their records one after the other, by what is asked of a call site
  abbrev pub AtSites : (ℕ → List ℕ → Option State → Type 0) → ℕ → List (ℕ × ℕ) → List ℕ → States → Type 0
  AtSites A k [] s kept = Unit {0}
  AtSites A k (c ∷ cs) s kept = A c.1 (take (record_size g c.1) s) (get_state (k, c.0) kept) × AtSites A k cs (drop (record_size g c.1) s) kept

  -- an instance of n, which is node number k, and those of its call sites
  abbrev pub InInstance : (ℕ → List ℕ → Option State → Type 0) → ℕ → Node → List ℕ → State → States → Type 0
  InInstance A k n r st calls = AtPast k n r st × AtSites A k (calls_of 0 n.equations) (drop (own_size n) r) calls

  abbrev pub AtKind : NodeKind → (ℕ → List ℕ → Option State → Type 0) → ℕ → List ℕ → Option State → Type 0
  AtKind Function A k r o = FunctionRuns k (node_at g k) r
  AtKind Operator A k r o = CallRuns k (node_at g k) r o × InInstance A k (node_at g k) r (state_or o) (child_calls (state_or o))
  AtKind Imported A k r o = Unit {0}

  -- a call site of node k and what is in it, so deep
  abbrev pub AtSite : ℕ → ℕ → List ℕ → Option State → Type 0
  AtSite zero k r o = Unit {0}
  AtSite (suc d) k r o = AtKind (node_at g k).kind (AtSite d) k r o

  -- the main instance on a state, and all in it: as deep as there are nodes is as deep as calls go
  abbrev pub Everywhere : List ℕ → Sim → Type 0
  Everywhere old sim =
      MainRuns old sim × InInstance (AtSite (length f.nodes)) (length f.nodes - 1) (main f) (main_record f vs old) sim.state sim.call_states

  -- ---- a list of cycles

  -- after cycles that answered these values: the main instance's past is these answers, and so everywhere
  abbrev pub AllAtPast : List (List Value) → Sim → List Made → Type 0
  AllAtPast ans sim [] = Unit {0}
  AllAtPast ans sim (m ∷ ms) =
      (map (answered_by f (main f)) (reverse (past sim.state)) ≡ ans) × Everywhere m.old sim × AllAtPast (ans ++ answers f (m ∷ [])) (sim_after f sim m.turn) ms

-- for any admitted file of bytes and any list of cycles from its start, with refused and stopped ones among them. A cycle that overflows leaves the state as it was
unfoldable pub InstancesClaim : Loader → Type 0
InstancesClaim ld =
    (s : List ℕ) (f : File) (vs : List Value) (ts : List Turn) → Bytes s → judge ld s ≡ admitted f vs
    → (sim : Sim) × (new f ≡ some sim) × AllAtPast f vs [] sim (history ld s ts (fresh_state f vs))
