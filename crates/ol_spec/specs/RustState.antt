-- The state's bytes of a `Sim` of specs/RustSim: what document 01's state keeps of it. A state of the public calls is these bytes, and nothing else (specs/AsRust).
use Rattle.std.specs.Prelude.{ℕ, zero, suc, ◌+◌, ◌-◌, List, [], ◌∷◌, ◌++◌, map, length}
use Rattle.std.proofs.Math.Option.{Option}
use Rattle.ol_spec.specs.Lists.{maybe, concat}
use Rattle.ol_spec.specs.Syntax.{NodeKind, Function, Operator, Imported, Equation, Node, File, main, variables, cell_types}
use Rattle.ol_spec.specs.Syntax.{Expr, bool_lit, int_lit, float_lit, char_lit, var, unary, binary, if_then_else, pre, arrow, cast, call, tuple, index, literal, map_over, fold_over, Exprs, nil, cons}
use Rattle.ol_spec.specs.Cell.{cells}
use Rattle.ol_spec.specs.Types.{defaults}
use Rattle.ol_spec.specs.RustSim.{width, RValue, plain, Array, Env, get, State, States, get_state, past, child_calls, default_state, Sim, find_node, default_value, report}
use Rattle.ol_spec.specs.declared.Value.{Value}

-- 1 once a step was finished
abbrev pub started_byte : List Env → ℕ
started_byte [] = 0
started_byte (env ∷ envs) = 1

-- the cells that a value fills: an Array has one for each element, in their order
abbrev pub cells_of : RValue → List Value
cells_of (plain v) = v ∷ []
cells_of (Array vs) = vs

abbrev pub all_cells : List RValue → List Value
all_cells rs = concat (map cells_of rs)

-- an absent state is the default one
abbrev pub state_or : Option State → State
state_or o = maybe default_state (λ s. s) o

-- the calls in an expression at this address, as they are read: each one's address and callee
abbrev mutual
  pub rust_calls_in : ℕ → Expr → List (ℕ × ℕ)
  rust_calls_in at (bool_lit b) = []
  rust_calls_in at (int_lit i) = []
  rust_calls_in at (float_lit b) = []
  rust_calls_in at (char_lit c) = []
  rust_calls_in at (var x) = []
  rust_calls_in at (unary op e) = rust_calls_in (suc at) e
  rust_calls_in at (binary op l r) = rust_calls_in (suc at) l ++ rust_calls_in (suc at + width l) r
  rust_calls_in at (if_then_else c t e) = rust_calls_in (suc at) c ++ (rust_calls_in (suc at + width c) t ++ rust_calls_in (suc at + width c + width t) e)
  rust_calls_in at (pre e) = rust_calls_in (suc at) e
  rust_calls_in at (arrow a b) = rust_calls_in (suc at) a ++ rust_calls_in (suc at + width a) b
  rust_calls_in at (cast t e) = rust_calls_in (suc at) e
  rust_calls_in at (call k es) = (at, k) ∷ calls_all (suc at) es
  rust_calls_in at (tuple es) = calls_all (suc at) es
  rust_calls_in at (index a i) = rust_calls_in (suc at) a ++ rust_calls_in (suc at + width a) i
  rust_calls_in at (literal es) = calls_all (suc at) es
  rust_calls_in at (map_over k es) = calls_all (suc at) es
  rust_calls_in at (fold_over k s es) = rust_calls_in (suc at) s ++ calls_all (suc at + width s) es

  pub calls_all : ℕ → Exprs → List (ℕ × ℕ)
  calls_all at nil = []
  calls_all at (cons e es) = rust_calls_in at e ++ calls_all (at + width e) es

-- and in equations, the first of them at this address
abbrev pub calls_of : ℕ → List Equation → List (ℕ × ℕ)
calls_of at [] = []
calls_of at (q ∷ qs) = rust_calls_in at q.rhs ++ calls_of (at + width q.rhs) qs

module _ (f : File) where
  -- the cells of what a step that left this environment reports
  abbrev pub answered_by : Node → Env → List Value
  answered_by n env = all_cells (report f n env)

  -- what the step that was finished last left in the variables; before the first one, the defaults
  abbrev pub left_in : Node → List Env → List Value
  left_in n [] = defaults f.enums (cell_types (variables n))
  left_in n (env ∷ envs) = answered_by n env

  -- these calls of node number k, by the bytes of a call site
  abbrev pub sites_bytes : (ℕ → Option State → List ℕ) → ℕ → List (ℕ × ℕ) → States → List ℕ
  sites_bytes site k [] calls = []
  sites_bytes site k (c ∷ cs) calls = site c.1 (get_state (k, c.0) calls) ++ sites_bytes site k cs calls

  -- an instance of n, which is node number k: the started byte, the cells, and its call sites
  abbrev pub instance_bytes : (ℕ → Option State → List ℕ) → ℕ → Node → State → States → List ℕ
  instance_bytes site k n st calls = started_byte (past st) ∷ cells (left_in n (past st)) ++ sites_bytes site k (calls_of 0 n.equations) calls

  -- an Operator's call site has a record, another has none
  abbrev pub site_bytes_by : NodeKind → (ℕ → Option State → List ℕ) → ℕ → Option State → List ℕ
  site_bytes_by Function site k o = []
  site_bytes_by Operator site k o = instance_bytes site k (find_node f k) (state_or o) (child_calls (state_or o))
  site_bytes_by Imported site k o = []

  -- a call site of node k, so deep
  abbrev pub site_bytes : ℕ → ℕ → Option State → List ℕ
  site_bytes zero k o = []
  site_bytes (suc d) k o = site_bytes_by (find_node f k).kind (site_bytes d) k o

  -- the cells of the constants' values, in file order
  abbrev pub constants_in : Env → List Value
  constants_in env = all_cells (map (λ c. maybe (default_value f c.ty) (λ v. v) (get c.name env)) f.constants)

  -- the constants, then the main instance; as deep as there are nodes is as deep as calls go
  unfoldable pub state_bytes : Sim → List ℕ
  state_bytes sim =
      let d = length f.nodes in
      cells (constants_in sim.consts) ++ instance_bytes (site_bytes d) (d - 1) (main f) sim.state sim.call_states
