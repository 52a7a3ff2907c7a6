-- Nodes: their records, the running of their equations, and calls. Document 01, "The state".
-- A record is a started byte, the cells of the inputs, outputs and locals, then the segments of the equations in file order.
use Rattle.std.specs.Prelude.{ℕ, zero, suc, ◌+◌, ◌*◌, Bool, false, List, [], ◌∷◌, ◌++◌, map, length, take, drop, get_or, set, eqb}
use Rattle.ol_spec.specs.Lists.{concat, positions}
use Rattle.ol_spec.specs.Syntax.{Ty, bool, NodeKind, Function, Operator, Imported, Equation, Node, File, variables, cell_types, cell_names, bool_lit}
use Rattle.ol_spec.specs.Syntax.{rhs_of}
use Rattle.ol_spec.specs.Cell.{cells, values_of}
use Rattle.ol_spec.specs.Types.{defaults, fit}
use Rattle.ol_spec.specs.Order.{order}
use Rattle.ol_spec.specs.Shapes.{arrays_in, constant_arrays}
use Rattle.ol_spec.specs.Eval.{Globals, Scope, Outcomes, values, failure, overflow, Evals, Calls, callees, sites_size, node_at, seg_size, eval_rhs}
use Rattle.ol_spec.specs.declared.Value.{Value}
use Rattle.ol_spec.specs.declared.Cause.{Cause}
use Rattle.ol_spec.specs.declared.Cause.TheVariants as Why

-- ---- sizes

abbrev pub equation_sites : Equation → List ℕ
equation_sites q = callees q.rhs

-- the nodes called in a node's equations, one entry for each call site, in file order
abbrev pub sites : Node → List ℕ
sites n = concat (map equation_sites n.equations)

-- a node's cells, those of its inputs and those of its outputs
abbrev pub cell_count : Node → ℕ
cell_count n = length (cell_types (variables n))

abbrev pub input_count : Node → ℕ
input_count n = length (cell_types n.inputs)

abbrev pub output_count : Node → ℕ
output_count n = length (cell_types n.outputs)

-- the bytes of a started byte and the cells
abbrev pub own_size : Node → ℕ
own_size n = 1 + 9 * cell_count n

-- the bytes of an instance, by the sizes of call sites
abbrev pub instance_size : List ℕ → Node → ℕ
instance_size sizes n = own_size n + sites_size sizes (sites n)

-- the bytes of a call site: an Operator's has a record
abbrev pub site_size_by : NodeKind → List ℕ → Node → ℕ
site_size_by Function sizes n = 0
site_size_by Operator sizes n = instance_size sizes n
site_size_by Imported sizes n = 0

abbrev pub site_size : List ℕ → Node → ℕ
site_size sizes n = site_size_by n.kind sizes n

abbrev pub no_size : Node → ℕ
no_size n = 0

-- the sizes of all nodes' call sites, for calls at most so deep; as many as there are nodes suffice
unfoldable pub sizes_at : ℕ → List Node → List ℕ
sizes_at zero ns = map no_size ns
sizes_at (suc d) ns = let sizes = sizes_at d ns in map (site_size sizes) ns

-- what evaluation knows of a file, with the names and values of the cells of the constants evaluated so far
abbrev pub globals : File → List ℕ → List Value → Globals
globals f xs vs =
    record { enums = f.enums; arrays = constant_arrays f.constants; constant_names = xs; constant_values = vs; nodes = f.nodes; sizes = sizes_at (length f.nodes) f.nodes }

-- ---- the parts of a record

abbrev pub is_fresh : List ℕ → Bool
is_fresh r = eqb (get_or r 0 0) 0

abbrev pub old_cells : Node → List ℕ → List Value
old_cells n r = values_of (cell_count n) (drop 1 r)

-- the segments of the equations, which follow one another in s
unfoldable pub split : Globals → List Equation → List ℕ → List (List ℕ)
split g [] s = []
split g (q ∷ qs) s = take (seg_size g q.rhs) s ∷ split g qs (drop (seg_size g q.rhs) s)

abbrev pub old_segs : Globals → Node → List ℕ → List (List ℕ)
old_segs g n r = split g n.equations (drop (own_size n) r)

abbrev pub outputs_in : Node → List Value → List Value
outputs_in n cs = take (output_count n) (drop (input_count n) cs)

-- the record of a finished cycle
abbrev pub started_record : List Value → List (List ℕ) → List ℕ
started_record cs segs = 1 ∷ cells cs ++ concat segs

-- ---- storing

-- values fitted to the types of their cells
unfoldable pub fit_all : List Ty → List Value → List Value
fit_all [] vs = []
fit_all (t ∷ ts) [] = []
fit_all (t ∷ ts) (v ∷ vs) = fit t v ∷ fit_all ts vs

-- the positions of the cells of these names, in turn
abbrev pub slots_of : Node → List ℕ → List ℕ
slots_of n [] = []
slots_of n (x ∷ xs) = positions x (cell_names (variables n)) ++ slots_of n xs

-- each of these cells gets its value, fitted to its type
unfoldable pub put_all : Node → List ℕ → List Value → List Value → List Value
put_all n [] vs cs = cs
put_all n (i ∷ is) [] cs = cs
put_all n (i ∷ is) (v ∷ vs) cs = put_all n is vs (set cs i (fit (get_or (cell_types (variables n)) i bool) v))

-- the names' cells get their values in turn
abbrev pub assign : Node → List ℕ → List Value → List Value → List Value
assign n xs vs cs = put_all n (slots_of n xs) vs cs

-- ---- running equations

-- how a run ended: an equation that failed or overflowed is given by its index in the file, a failure also by its cause
pub data Ended : Type 0 where
  finished : Ended
  failed_at : Cause → ℕ → Ended
  overflowed_at : ℕ → Ended

-- how it ended, the cells, and the equations' segments
pub record Run : Type 0 where
  pub end : Ended
  pub cells : List Value
  pub segs : List (List ℕ)

abbrev pub no_equation : Equation
no_equation = record { names = []; rhs = bool_lit false }

abbrev pub equation_at : Node → ℕ → Equation
equation_at n i = get_or n.equations i no_equation

-- the values of an equation's right side are stored and the run goes on; a failure or an overflow ends it
abbrev pub store_on : Node → ℕ → Outcomes → List ℕ → (List Value → List (List ℕ) → Run) → List Value → List (List ℕ) → Run
store_on n i (values vs) seg k cs segs = k (assign n (equation_at n i).names vs cs) (set segs i seg)
store_on n i (failure c) seg k cs segs = record { end = failed_at c i; cells = cs; segs = set segs i seg }
store_on n i overflow seg k cs segs = record { end = overflowed_at i; cells = cs; segs = set segs i seg }

unfoldable pub store : Node → ℕ → Evals → (List Value → List (List ℕ) → Run) → List Value → List (List ℕ) → Run
store n i r k cs segs = store_on n i r.out r.seg k cs segs

abbrev pub scope : Node → Bool → List Value → List Value → Scope
scope n first before cs = record { arrays = arrays_in (variables n); names = cell_names (variables n); present = cs; before = before; first = first }

module _ (g : Globals) (calls : Calls) (n : Node) where
  -- the right side of equation i, with these cells
  abbrev pub eval_equation : Bool → List Value → List Value → ℕ → List ℕ → Evals
  eval_equation first before cs i seg = eval_rhs g (scope n first before cs) calls (rhs_of (equation_at n i).rhs) seg

  -- the equations of these indices, one after the other
  unfoldable pub run_all : Bool → List Value → List ℕ → List Value → List (List ℕ) → Run
  run_all first before [] cs segs = record { end = finished; cells = cs; segs = segs }
  run_all first before (i ∷ is) cs segs = store n i (eval_equation first before cs i (get_or segs i [])) (run_all first before is) cs segs

  -- All equations in evaluation order, on the inputs' values and the old record. Outputs and locals start from their old cells.
  unfoldable pub run : List Value → List ℕ → Run
  run ins r = run_all (is_fresh r) (old_cells n r) (order n.equations) (ins ++ drop (input_count n) (old_cells n r)) (old_segs g n r)

module _ (g : Globals) where
  -- ---- fresh records

  -- byte 0 and default cells, where a call site of node k has `f k`
  abbrev pub fresh_instance : (ℕ → List ℕ) → Node → List ℕ
  fresh_instance f n = 0 ∷ cells (defaults g.enums (cell_types (variables n))) ++ concat (map f (sites n))

  abbrev pub fresh_by : NodeKind → (ℕ → List ℕ) → Node → List ℕ
  fresh_by Function f n = []
  fresh_by Operator f n = fresh_instance f n
  fresh_by Imported f n = []

  unfoldable pub fresh_at : ℕ → ℕ → List ℕ
  fresh_at zero k = []
  fresh_at (suc d) k = fresh_by (node_at g k).kind (fresh_at d) (node_at g k)

  abbrev pub fresh_record : Node → List ℕ
  fresh_record n = fresh_instance (fresh_at (length g.nodes)) n

  -- ---- calls

  -- A finished instance is started. A failure inside, whatever its cause, returns its record, children included, to fresh.
  abbrev pub leave_on : Node → List ℕ → Ended → List Value → List (List ℕ) → Evals
  leave_on n r finished cs segs = record { out = values (outputs_in n cs); seg = started_record cs segs }
  leave_on n r (failed_at c i) cs segs = record { out = failure c; seg = fresh_record n }
  leave_on n r (overflowed_at i) cs segs = record { out = overflow; seg = r }

  unfoldable pub leave : Node → List ℕ → Run → Evals
  leave n r u = leave_on n r u.end u.cells u.segs

  -- a step of an instance on its record, the arguments fitted to the inputs
  unfoldable pub instance : Calls → Node → List Value → List ℕ → Evals
  instance calls n vs r = leave n r (run g calls n (fit_all (cell_types n.inputs) vs) r)

  -- A Function runs as on a fresh record and keeps none: it is always at its first cycle, and its undefined outputs and locals are defaults.
  abbrev pub call_by : NodeKind → Calls → Node → List Value → List ℕ → Evals
  call_by Function calls n vs r = record { out = (instance calls n vs (fresh_record n)).out; seg = r }
  call_by Operator calls n vs r = instance calls n vs r
  call_by Imported calls n vs r = record { out = failure Why.Other; seg = r }

  -- calls at most so deep; as deep as there are nodes suffices
  unfoldable pub calls_at : ℕ → Calls
  calls_at zero k vs r = record { out = failure Why.Other; seg = r }
  calls_at (suc d) k vs r = call_by (node_at g k).kind (calls_at d) (node_at g k) vs r

  abbrev pub calls : Calls
  calls k vs r = calls_at (length g.nodes) k vs r
