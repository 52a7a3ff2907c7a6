-- The instants of an Operator's instance over a list of cycles, and that its start values do not come back. Types only: proofs/Instants proves the claims.
-- An instance's instants are the steps that it finished, in cycles not stopped with 19, since its record was last fresh. `past` of its state has them (specs/Instances).
use Rattle.std.specs.Prelude.{ℕ, zero, suc, ◌+◌, ◌-◌, false, List, [], ◌∷◌, ◌++◌, ◌≡◌, length, take, drop}
use Rattle.std.proofs.Math.Option.{Option, none, some}
use Rattle.ol_spec.specs.Lists.{maybe}
use Rattle.ol_spec.specs.Syntax.{NodeKind, Function, Operator, Imported, File, Expr, bool_lit, if_then_else, main}
use Rattle.ol_spec.specs.Syntax as S
use Rattle.ol_spec.specs.Limits.{Loader}
use Rattle.ol_spec.specs.Eval.{Globals, Calls, node_at, record_size}
use Rattle.ol_spec.specs.Step.{own_size, is_fresh, old_cells}
use Rattle.ol_spec.specs.Admission.{judge, admitted}
use Rattle.ol_spec.specs.State.{globals_of, fresh_state}
use Rattle.ol_spec.specs.Demand3.{Bytes, Turn, Made, next_state, history, main_record}
use Rattle.ol_spec.specs.RustSim.{width, Env, State, States, get_state, past, child_calls, cycle, StepInstance, CallValues, Sim, new}
use Rattle.ol_spec.specs.RustSim as Rust
use Rattle.ol_spec.specs.RustState.{state_or, calls_of}
use Rattle.ol_spec.specs.AsRust.{sim_after}
use Rattle.ol_spec.specs.Instances.{sequence_in, eval_on, AtPast}
use Rattle.ol_spec.specs.Sequences.{cells_at, NeverReturns}
use Rattle.ol_spec.specs.declared.Value.{Value}
use Rattle.ol_spec.specs.declared.Cycled.{Cycled}
use Rattle.ol_spec.specs.declared.Cycled.TheVariants as Cyc

-- what a cycle does to an instance's past while its record does not go back to fresh: nothing, or a step that it finished is one instant more
pub data Stays (before after : List Env) : Type 0 where
  still : after ≡ before → Stays before after
  onward : (env : Env) → after ≡ env ∷ before → Stays before after

-- or it is fresh again: a step of it, or of an instance that it is in, failed
pub data Moves (before after : List Env) : Type 0 where
  stays : Stays before after → Moves before after
  again : after ≡ [] → Moves before after

-- an instance of the node of this number: its record, and its state in the Rust
pub record Instance : Type 0 where
  pub number : ℕ
  pub bytes : List ℕ
  pub state : State

-- an Operator's call site has one
abbrev pub if_operator : NodeKind → Instance → Option Instance
if_operator Function i = none
if_operator Operator i = some i
if_operator Imported i = none

module _ (f : File) (vs : List Value) where
  abbrev g : Globals
  g = globals_of f vs

  -- the instance at the j-th of these calls of node number k, whose records stand one after the other
  abbrev pub site_at : ℕ → ℕ → List (ℕ × ℕ) → List ℕ → States → Option Instance
  site_at k j [] s calls = none
  site_at k zero (c ∷ cs) s calls =
      if_operator (node_at g c.1).kind (record { number = c.1; bytes = take (record_size g c.1) s; state = state_or (get_state (k, c.0) calls) })
  site_at k (suc j) (c ∷ cs) s calls = site_at k j cs (drop (record_size g c.1) s) calls

  -- the instance at the call site j of an instance
  abbrev pub inside : ℕ → Instance → Option Instance
  inside j i =
      let n = node_at g i.number in
      site_at i.number j (calls_of 0 n.equations) (drop (own_size n) i.bytes) (child_calls i.state)

  -- the instance that this way of call sites leads to from here
  abbrev pub leads_to : List ℕ → Instance → Option Instance
  leads_to [] i = some i
  leads_to (j ∷ p) i = maybe none (leads_to p) (inside j i)

  -- and from the call site j of the main node, on this state and `Sim`
  abbrev pub instance_at : ℕ → List ℕ → List ℕ → Sim → Option Instance
  instance_at j p old sim =
      maybe none (leads_to p) (site_at (length f.nodes - 1) j (calls_of 0 (main f).equations) (drop (own_size (main f)) (main_record f vs old)) sim.call_states)

  abbrev pub past_at : ℕ → List ℕ → List ℕ → Sim → List Env
  past_at j p old sim = maybe [] (λ i. past i.state) (instance_at j p old sim)

  -- the state behind a cycle
  abbrev pub behind : Made → List ℕ
  behind m = next_state m.result.answer m.old m.result.new

  -- An instance in a cycle, and the same one behind it. It is at the instant of which its finished steps are the number, and the cycle leaves them, adds one, or makes it fresh. If it finished a step, the cells that
  -- this step left are the entries of its sequences at that instant.
  pub record Passes (i i' : Instance) : Type 0 where
    pub same : i'.number ≡ i.number
    pub here : AtPast f vs i.number (node_at g i.number) i.bytes i.state
    pub moves : Moves (past i.state) (past i'.state)
    pub next : (env : Env) → past i'.state ≡ env ∷ past i.state
        → old_cells (node_at g i.number) i'.bytes ≡ cells_at f.enums (node_at g i.number) (sequence_in i'.state) (cycle i.state)

  -- a cycle that was refused or stopped with 19
  abbrev pub Undone : Cycled → Type 0
  Undone Cyc.Answered = ⊥
  Undone (Cyc.Stopped x) = x.number ≡ 19
  Undone (Cyc.Refused x) = Unit {0}

  -- every instance passes every cycle; one that is undone changes nothing
  abbrev pub AllPass : Sim → List Made → Type 0
  AllPass sim [] = Unit {0}
  AllPass sim (m ∷ ms) =
      ((j : ℕ) (p : List ℕ) (i : Instance) → instance_at j p m.old sim ≡ some i
      → (i' : Instance) × (instance_at j p (behind m) (sim_after f sim m.turn) ≡ some i') × Passes i i')
      × (Undone m.result.answer → sim_after f sim m.turn ≡ sim)
      × AllPass (sim_after f sim m.turn) ms

  -- ---- a start value does not come back

  -- the `Sim` behind these cycles
  abbrev pub sim_behind : Sim → List Made → Sim
  sim_behind sim [] = sim
  sim_behind sim (m ∷ ms) = sim_behind (sim_after f sim m.turn) ms

  -- the instance finished a step in this cycle
  abbrev pub Finishes : ℕ → List ℕ → Sim → Made → Type 0
  Finishes j p sim m = (env : Env) × (past_at j p (behind m) (sim_after f sim m.turn) ≡ env ∷ past_at j p m.old sim)

  -- in none of these cycles its record goes back to fresh
  abbrev pub NeverAgain : ℕ → List ℕ → Sim → List Made → Type 0
  NeverAgain j p sim [] = Unit {0}
  NeverAgain j p sim (m ∷ ms) =
      Stays (past_at j p m.old sim) (past_at j p (behind m) (sim_after f sim m.turn)) × NeverAgain j p (sim_after f sim m.turn) ms

  -- an instance at no first instant: each of its arrows takes its second side, over the bytes and in the Rust
  pub record SecondSides (i : Instance) : Type 0 where
    pub started : is_fresh i.bytes ≡ false
    pub takes : (a b : Expr) (calls : Calls) (cs : List Value) (seg : List ℕ)
        → let n = node_at g i.number in eval_on f vs n i.bytes calls cs (S.arrow a b) seg ≡ eval_on f vs n i.bytes calls cs (if_then_else (bool_lit false) a b) seg
    pub rust_takes : (a b : Expr) (step : StepInstance) (values : CallValues) (env : Env) (at : ℕ) (calls : States)
        → let k = i.number in
        let st = i.state in
        Rust.eval f step values k env st at (S.arrow a b) calls
        ≡ Rust.choose false (Rust.branch f step values k env st a (Rust.eval f step values k env st (suc at) a)) (Rust.branch f step values k env st b (Rust.eval f step values k env st (suc at + width a) b)) calls

  -- Behind a cycle in which an instance finished a step, a cycle of the list meets it at no first instant, unless its record went back to fresh between them.
  abbrev pub InstancesNeverReturn : Sim → List Made → Type 0
  InstancesNeverReturn sim ms =
      (earlier : List Made) (x : Made) (between : List Made) (m : Made) (later : List Made) → ms ≡ earlier ++ x ∷ (between ++ m ∷ later)
      → (j : ℕ) (p : List ℕ) (i : Instance) → instance_at j p m.old (sim_behind sim (earlier ++ x ∷ between)) ≡ some i
      → Finishes j p (sim_behind sim earlier) x → NeverAgain j p (sim_behind sim (earlier ++ x ∷ [])) between → SecondSides i

-- for any admitted file of bytes and any list of cycles from its start, with refused and stopped ones among them
unfoldable pub InstantsClaim : Loader → Type 0
InstantsClaim ld =
    (s : List ℕ) (f : File) (vs : List Value) (ts : List Turn) → Bytes s → judge ld s ≡ admitted f vs
    → (sim : Sim) × (new f ≡ some sim) × AllPass f vs sim (history ld s ts (fresh_state f vs))

-- So a start value never comes back, at any length of service: in the main instance behind an answered cycle; in another behind a step that it finished, until its record goes back to fresh.
unfoldable pub StartNeverReturns : Loader → Type 0
StartNeverReturns ld =
    (s : List ℕ) (f : File) (vs : List Value) (ts : List Turn) → Bytes s → judge ld s ≡ admitted f vs
    → NeverReturns f vs (history ld s ts (fresh_state f vs)) × ((sim : Sim) × (new f ≡ some sim) × InstancesNeverReturn f vs sim (history ld s ts (fresh_state f vs)))
