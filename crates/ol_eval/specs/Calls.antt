-- What the members of the cycle that call, iterate, step and run nodes ask and give, and those that evaluate arrays.
use Rattle.std.specs.Prelude.{ℕ, ◌+◌, ◌*◌, ◌-◌, ◌<◌, ◌≤◌, Bool, true, false, not, ◌||◌, cond, max, Option, Some, None, MatchOption, List, [], ◌++◌, map, ◌≡◌, T, eqb, length, take, drop, get_or}
use Rattle.ol_spec.specs.Lists.{concat}
use Rattle.ol_spec.specs.Syntax.{Imported, Variable, rhs_of, variables, cell_types, length_in}
use Rattle.ol_spec.specs.Shapes.{arrays_in, constant_arrays}
use Rattle.ol_spec.specs.Cell.{values_of}
use Rattle.ol_spec.specs.Types.{fit}
use Rattle.ol_spec.specs.Order.{order}
use Rattle.ol_spec.specs.Eval.{Outcomes, values, failure, overflow, Evals, callees, sites_size, eval_all, eval_rhs, cells_by, single, map_from, fold_from, then_out}
use Rattle.ol_spec.specs.Step.{sites, input_count, output_count, fit_all, assign, split, Run, finished, failed_at, overflowed_at, eval_equation, run_all, calls}
use Rattle.ol_spec.specs.Step.{Ended as RunEnd}
use Rattle.ol_spec.specs.Admission.{iterable}
use Rattle.ol_spec.specs.declared.Value.{Value}
use Rattle.ol_spec.specs.declared.Outcome.{Outcome}
use Rattle.ol_spec.proofs.Counts.{EachIs}
use Rattle.ol_spec.proofs.Forms.{cells_in, cell_counts, cells_all}
use Rattle.ol_tables.specs.At.{file_at, node_in, expr_at, end_at, exprs_at, ends_at}
use Rattle.ol_tables.specs.Tables.{site_bytes, element_of, var_ty_at}
use Rattle.ol_tables.specs.Table.{tab_of, rows_of, consts_of}
use Rattle.ol_frame.specs.Walk.{nodes_in, sizes_in}
use Rattle.ol_frame.specs.Plans.{Cells, globals_in, width_in, scope_in, shape_in, span_in, segs_at, seg_at, array_in, each_in, eval_in}
use Rattle.ol_frame.specs.Equations.{count_in, place_in, equation_in, rhs_in, arrays_count, arrays_start}
use Rattle.ol_frame.specs.Stores.{groups, cells_under_all}
use Rattle.ol_frame.specs.Nodes.{Running}
use Rattle.ol_frame.specs.declared.frame.Frame.{Frame}
use Rattle.ol_frame.specs.Outcomes.{ending_of}
use Rattle.ol_frame.specs.declared.outcomes.Ending.{Ending}
use Rattle.ol_frame.specs.declared.outcomes.Ending.TheVariants as End
use Rattle.ol_eval.specs.Fitting.{Suit}
use Rattle.ol_eval.specs.Post.{array_at}
use Rattle.ol_eval.specs.declared.eval.Step.{Step}
use Rattle.ol_eval.specs.declared.eval.Ended.{Ended}

-- if there are values, `got` is what is made of them; else it is free: of a failure or an overflow nobody reads the values
abbrev pub Holds : (List Value → List Value) → Outcomes → List Value → Type 0
Holds make (values vs) got = got ≡ make vs
Holds make (failure c) got = Unit {0}
Holds make overflow got = Unit {0}

abbrev pub as_is : List Value → List Value
as_is vs = vs

-- what evaluating several values gives: how it ended, where the expressions end, the bytes of their records, the values, and the new state
pub record RanTo (make : List Value → List Value) (want : Evals) (next used : ℕ) (old : List ℕ) (r : Step Ending) (got : List Value) (new : List ℕ) : Type 0 where
  pub end_is : r.out ≡ ending_of want.out
  pub next_is : r.next ≡ next
  pub used_is : r.used ≡ used
  pub values_are : Holds make want.out got
  pub state : new ≡ want.seg ++ drop used old

-- the same on just a segment: how it ended, the values, and the new segment
pub record Did (make : List Value → List Value) (want : Evals) (end : Ending) (got : List Value) (new : List ℕ) : Type 0 where
  pub end_is : end ≡ ending_of want.out
  pub values_are : Holds make want.out got
  pub state : new ≡ want.seg

-- ---- arrays

-- the array at `at`, whose cells are left at the front of the room
abbrev pub ArrayTo : List ℕ → List ℕ → ℕ → ℕ → ℕ → Bool → List ℕ → List ℕ → List ℕ → Step Ending → List ℕ → List ℕ → Type 0
ArrayTo file consts level at node first cells before old r room new =
    RanTo as_is (array_in file consts node first cells before (expr_at file level at) (take (seg_at file level at) old)) (end_at file level at) (seg_at file level at) old r
    (values_of (span_in file node (expr_at file level at)) room) new

-- ---- several expressions

-- the node that is called, if it is a call that stands there
abbrev pub callee_at : List ℕ → ℕ → Option ℕ
callee_at file at = cond (eqb (get_or file at 0) 11) (Some (get_or file (at + 1) 0)) None

-- how many cells the expression at `at` has, and n expressions from `at` on
abbrev pub cells_at : List ℕ → ℕ → ℕ → ℕ → ℕ
cells_at file node level at = cells_in (file_at file).nodes (arrays_in (variables (node_in file node))) (constant_arrays (file_at file).constants) (expr_at file level at)

abbrev pub all_cells : List ℕ → ℕ → ℕ → ℕ → ℕ → ℕ
all_cells file node level n at = cells_all (file_at file).nodes (arrays_in (variables (node_in file node))) (constant_arrays (file_at file).constants) (exprs_at file level n at)

-- n expressions from `at` on are as these variables are declared, one for each
abbrev pub SuitAt : List ℕ → ℕ → ℕ → ℕ → ℕ → List Variable → Type 0
SuitAt file node level n at vs = Suit (file_at file).nodes (arrays_in (variables (node_in file node))) (constant_arrays (file_at file).constants) vs (exprs_at file level n at)

-- values as they are passed on: fitted to input i of the node that is called, or to its inputs' cells, or as they are where none is called
abbrev pub passed_part : List ℕ → Option ℕ → ℕ → List Value → List Value
passed_part file (Some k) i vs = map (fit (element_of (var_ty_at (node_in file k).inputs i))) vs
passed_part file None i vs = vs

abbrev pub passed_all : List ℕ → Option ℕ → List Value → List Value
passed_all file (Some k) vs = fit_all (cell_types (node_in file k).inputs) vs
passed_all file None vs = vs

-- the part at `at`, an array of m or a scalar where m is 0, is input i of the node that is called, if one is; its cells have room in so many bytes
pub record Part (file : List ℕ) (callee : Option ℕ) (i node level at m free : ℕ) : Type 0 where
  pub long : m ≡ span_in file node (expr_at file level at)
  pub few : i < 32
  pub short : m ≤ 32
  pub given : 9 * max m 1 ≤ free
  pub small : MatchOption callee (Unit {0}) (λ k. k < 32)
  pub called : MatchOption callee (Unit {0}) (λ k. (k < nodes_in file) × (i < length (node_in file k).inputs) × (shape_in file node (expr_at file level at) ≡ length_in (var_ty_at (node_in file k).inputs i)))

-- the cells of the expression at `at`, scalar or array
abbrev pub cells_eval : List ℕ → List ℕ → ℕ → ℕ → ℕ → Bool → List ℕ → List ℕ → List ℕ → Evals
cells_eval file consts level at node first cells before seg =
    cells_by (array_at file node level at) (λ q. array_in file consts node first cells before (expr_at file level at) q) (λ q. eval_in file consts node first cells before (expr_at file level at) q) seg

abbrev pub PartTo : List ℕ → List ℕ → Option ℕ → ℕ → ℕ → ℕ → ℕ → Bool → List ℕ → List ℕ → List ℕ → Step Ending → List ℕ → List ℕ → Type 0
PartTo file consts callee i level at node first cells before old r room new =
    RanTo (passed_part file callee i) (cells_eval file consts level at node first cells before (take (seg_at file level at) old)) (end_at file level at) (seg_at file level at) old r
    (values_of (cells_at file node level at) room) new

-- n expressions from `at` on
abbrev pub all_in : List ℕ → List ℕ → ℕ → ℕ → ℕ → ℕ → Bool → List ℕ → List ℕ → List ℕ → Evals
all_in file consts level n at node first cells before seg =
    eval_all (globals_in file consts) (scope_in file node first cells before) (calls (globals_in file consts)) (exprs_at file level n at) seg

abbrev pub PassedTo : List ℕ → List ℕ → Option ℕ → ℕ → ℕ → ℕ → ℕ → Bool → List ℕ → List ℕ → List ℕ → Step Ending → List ℕ → List ℕ → Type 0
PassedTo file consts callee n level at node first cells before old r room new =
    RanTo (passed_all file callee) (all_in file consts level n at node first cells before (take (segs_at file level n at) old)) (ends_at file level n at) (segs_at file level n at) old r
    (values_of (all_cells file node level n at) room) new

-- the parts of the form at `at`, without a fold's seed: a call's are its callee's inputs. Their cells have room in so many bytes
pub record Several (file : List ℕ) (node level at free : ℕ) : Type 0 where
  pub inside : at + 1 < length file
  pub few : arrays_count file at ≤ 32
  pub given : 9 * all_cells file node level (arrays_count file at) (arrays_start file at) ≤ free
  pub small : MatchOption (callee_at file at) (Unit {0}) (λ k. k < 32)
  pub called : MatchOption (callee_at file at) (Unit {0}) (λ k. (k < nodes_in file) × SuitAt file node level (arrays_count file at) (arrays_start file at) (node_in file k).inputs)

-- each of n expressions from `at` on has as many values as it has cells, if all have values
abbrev pub EachTo : List ℕ → List ℕ → ℕ → ℕ → ℕ → ℕ → Bool → List ℕ → List ℕ → List ℕ → Type 0
EachTo file consts n level at node first cells before old =
    EachIs (cell_counts (file_at file).nodes (arrays_in (variables (node_in file node))) (constant_arrays (file_at file).constants) (exprs_at file level n at))
    (each_in file consts node first cells before (exprs_at file level n at) (take (segs_at file level n at) old)).out

abbrev pub AllTo : List ℕ → List ℕ → ℕ → ℕ → ℕ → Bool → List ℕ → List ℕ → List ℕ → Step Ending → List ℕ → List ℕ → Type 0
AllTo file consts level at node first cells before old r room new =
    PassedTo file consts (callee_at file at) (arrays_count file at) level (arrays_start file at) node first cells before old r room new
    × EachTo file consts (arrays_count file at) level (arrays_start file at) node first cells before old

-- ---- a call

-- the values of the outputs of node k, which were left at the front of the room
abbrev pub outputs_at : List ℕ → ℕ → List ℕ → List Value
outputs_at file k room = values_of (output_count (node_in file k)) room

-- the expression at `at` as a right side
abbrev pub rhs_eval : List ℕ → List ℕ → ℕ → ℕ → ℕ → Bool → List ℕ → List ℕ → List ℕ → Evals
rhs_eval file consts level at node first cells before seg =
    eval_rhs (globals_in file consts) (scope_in file node first cells before) (calls (globals_in file consts)) (rhs_of (expr_at file level at)) seg

abbrev pub EntersTo : List ℕ → List ℕ → ℕ → ℕ → ℕ → Bool → List ℕ → List ℕ → List ℕ → Step Ending → List ℕ → List ℕ → Type 0
EntersTo file consts level at node first cells before old r room new =
    RanTo as_is (rhs_eval file consts level at node first cells before (take (seg_at file level at) old)) (end_at file level at) (seg_at file level at) old r (outputs_at file (get_or file (at + 1) 0) room) new

-- ---- a call of a node on its record

-- a call site of node k, whose record is `old`, with room in so many bytes for the cells of its inputs and of its outputs
pub record Steppable (file tab rows consts : List ℕ) (k free : ℕ) (old new : List ℕ) : Type 0 where
  pub running : Running file tab rows consts
  pub below : k < nodes_in file
  pub kind : ¬ ((node_in file k).kind ≡ Imported)
  pub given : 9 * input_count (node_in file k) ≤ free
  pub taken : 9 * output_count (node_in file k) ≤ free
  pub sized : length old ≡ site_bytes (file_at file) k
  pub small : length old ≤ 32768
  pub same : new ≡ old

abbrev pub CanStep : List ℕ → List ℕ → ℕ → List ℕ → List ℕ → List ℕ → Type 0
CanStep file tab k args old new = Steppable file (tab_of tab) (rows_of tab) (consts_of tab) k (length args) old new

-- so many bytes have room for node k's cells
abbrev pub Wide : List ℕ → ℕ → ℕ → Type 0
Wide file k free = 9 * width_in file k ≤ free

abbrev pub SiteTo : List ℕ → List ℕ → ℕ → List ℕ → List ℕ → Ending → List ℕ → List ℕ → Type 0
SiteTo file consts k room old end room' new =
    (vs : List Value) → values_of (input_count (node_in file k)) room ≡ fit_all (cell_types (node_in file k).inputs) vs → Did as_is (calls (globals_in file consts) k vs old) end (outputs_at file k room') new

-- ---- iterators

-- node k is iterated
pub record Iterated (file tab rows consts : List ℕ) (k : ℕ) : Type 0 where
  pub running : Running file tab rows consts
  pub below : k < nodes_in file
  pub function : T (iterable (length (node_in file k).inputs) (node_in file k))

abbrev pub CanIterate : List ℕ → List ℕ → ℕ → Type 0
CanIterate file tab k = Iterated file (tab_of tab) (rows_of tab) (consts_of tab) k

-- one call of it, on no record
abbrev pub applied_in : List ℕ → List ℕ → ℕ → List Value → Outcome
applied_in file consts k vs = single (calls (globals_in file consts) k vs []).out

-- the arguments are in `args`
abbrev pub AppliesTo : List ℕ → List ℕ → ℕ → List ℕ → Outcome → Type 0
AppliesTo file consts k args out = (vs : List Value) → values_of (input_count (node_in file k)) args ≡ fit_all (cell_types (node_in file k).inputs) vs → out ≡ applied_in file consts k vs

-- c arrays of n cells are in `arrays`, one behind the other, one for each input of node k; a map over them leaves its elements in `to`
pub record Mapped (file : List ℕ) (k n c : ℕ) (arrays to : List ℕ) : Type 0 where
  pub few : n ≤ 32
  pub inputs : c ≡ length (node_in file k).inputs
  pub given : 9 * n * c ≤ length arrays
  pub taken : 9 * n ≤ length to

pub record MapsTo (want : Outcomes) (end : Ending) (got : List Value) : Type 0 where
  pub end_is : end ≡ ending_of want
  pub values_are : Holds as_is want got

abbrev pub MapTo : List ℕ → List ℕ → ℕ → ℕ → ℕ → List ℕ → Ending → List ℕ → Type 0
MapTo file consts k n c arrays end to = MapsTo (map_from (applied_in file consts k) (groups n c arrays) 0 n) end (values_of n to)

-- an array of n cells is in `array`
abbrev pub FoldTo : List ℕ → List ℕ → ℕ → ℕ → List ℕ → Outcome → Outcome → Type 0
FoldTo file consts k n array seed out = out ≡ then_out (λ v. fold_from (applied_in file consts k) v (values_of n array)) seed

-- ---- the work on a call or an iterator

-- it is a call or an iterator that stands there
abbrev pub is_work : List ℕ → ℕ → Bool
is_work file at = eqb (get_or file at 0) 11 || eqb (get_or file at 0) 15

-- how many cells the work on the call or iterator at `at` takes: a call's arguments, and its outputs; an iterator's arrays
abbrev pub callee_cells : List ℕ → ℕ → ℕ
callee_cells file k = max (input_count (node_in file k)) (output_count (node_in file k))

abbrev pub work_cells : List ℕ → ℕ → ℕ → ℕ → ℕ
work_cells file node level at =
    cond (eqb (get_or file at 0) 11) (callee_cells file (get_or file (at + 1) 0)) (arrays_count file at * span_in file node (expr_at file (level - 1) (arrays_start file at)))

-- and how many it yields: a call's outputs, an array's elements, or one value
abbrev pub work_yields : List ℕ → ℕ → ℕ → ℕ → ℕ
work_yields file node level at = cond (eqb (get_or file at 0) 11) (output_count (node_in file (get_or file (at + 1) 0))) (cells_at file node level at)

-- how many outputs the call at `at` has; an iterator counts as one
abbrev pub work_outputs : List ℕ → ℕ → ℕ
work_outputs file at = cond (eqb (get_or file at 0) 11) (length (node_in file (get_or file (at + 1) 0)).outputs) 1

-- an iterator's are left in `to`, of so many bytes; a call's as many of its outputs' as it has room for
pub record Works (file : List ℕ) (node level at free : ℕ) : Type 0 where
  pub form : is_work file at ≡ true
  pub given : eqb (get_or file at 0) 11 ≡ false → 9 * cells_at file node level at ≤ free

-- the first n of them were, and so many there are
abbrev pub WorkTo : List ℕ → List ℕ → ℕ → ℕ → ℕ → Bool → List ℕ → List ℕ → List ℕ → Step Ending → List ℕ → List ℕ → Type 0
WorkTo file consts level at node first cells before old r to new =
    ((n : ℕ) → n ≤ work_yields file node level at → 9 * n ≤ length to
    → RanTo (take n) (rhs_eval file consts level at node first cells before (take (seg_at file level at) old)) (end_at file level at) (seg_at file level at) old r (values_of n to) new)
    × ((vs : List Value) → (rhs_eval file consts level at node first cells before (take (seg_at file level at) old)).out ≡ values vs → length vs ≡ work_yields file node level at)

-- an iterator's cells, all of them
abbrev pub IteratedTo : List ℕ → List ℕ → ℕ → ℕ → ℕ → Bool → List ℕ → List ℕ → List ℕ → Step Ending → List ℕ → List ℕ → Type 0
IteratedTo file consts level at node first cells before old r to new =
    RanTo as_is (cells_eval file consts level at node first cells before (take (seg_at file level at) old)) (end_at file level at) (seg_at file level at) old r (values_of (cells_at file node level at) to) new

-- ---- a node's equations

-- node k can be run on these cells, where `old` has the segments of its equations
pub record Runnable (file tab rows consts : List ℕ) (k : ℕ) (cells before old new : List ℕ) : Type 0 where
  pub running : Running file tab rows consts
  pub below : k < nodes_in file
  pub present : Cells file k cells
  pub previous : Cells file k before
  pub sized : length old ≡ sites_size (sizes_in file) (sites (node_in file k))
  pub small : length old ≤ 32768
  pub same : new ≡ old

-- the node of the frame fr can, on its cells
abbrev pub CanRun : List ℕ → List ℕ → Frame → List ℕ → List ℕ → Type 0
CanRun file tab fr old new = Runnable file (tab_of tab) (rows_of tab) (consts_of tab) fr.node fr.cells.now fr.before.now old new

abbrev pub run_in : List ℕ → List ℕ → ℕ → Bool → List ℕ → List ℕ → List ℕ → Run
run_in file consts k first cells before old =
    run_all (globals_in file consts) (calls (globals_in file consts)) (node_in file k) first (values_of (width_in file k) before) (order (node_in file k).equations) (values_of (width_in file k) cells) (split (globals_in file consts) (node_in file k).equations old)

-- how a run ended, and the equation that ended it
abbrev pub EndsAs : RunEnd → Ended → Type 0
EndsAs finished r = r.end ≡ End.Values
EndsAs (failed_at c i) r = (r.end ≡ End.Failed c) × (r.index ≡ i)
EndsAs (overflowed_at i) r = (r.end ≡ End.Overflowed) × (r.index ≡ i)

-- what a run gives: how it ended, its cells where it finished, and the new segments. The cells of a run that failed or overflowed are free: a failed instance goes back to fresh, and the others keep the cells before
pub record RunMeets (want : Run) (r : Ended) (got : List Value) (new : List ℕ) : Type 0 where
  pub ends : EndsAs want.end r
  pub cells_are : want.end ≡ finished → got ≡ want.cells
  pub state : new ≡ concat want.segs

abbrev pub RunTo : List ℕ → List ℕ → ℕ → Bool → List ℕ → List ℕ → List ℕ → Ended → List ℕ → List ℕ → Type 0
RunTo file consts k first cells before old r cells' new =
    RunMeets (run_in file consts k first cells before old) r (values_of (width_in file k) cells') new

-- equation i of node k, which stands at `at`, on its segment
pub record EquationReady (file tab rows consts : List ℕ) (k i at : ℕ) (cells before old new : List ℕ) : Type 0 where
  pub running : Running file tab rows consts
  pub below : k < nodes_in file
  pub index : i < count_in file k
  pub place : at ≡ place_in file k i
  pub present : Cells file k cells
  pub previous : Cells file k before
  pub sized : length old ≡ sites_size (sizes_in file) (callees (equation_in file k i).rhs)
  pub small : length old ≤ 32768
  pub same : new ≡ old

-- equation i of the node of the frame fr can, where it stands at `at`
abbrev pub CanEquate : List ℕ → List ℕ → ℕ → ℕ → Frame → List ℕ → List ℕ → Type 0
CanEquate file tab i at fr old new = EquationReady file (tab_of tab) (rows_of tab) (consts_of tab) fr.node i at fr.cells.now fr.before.now old new

-- the right side at `rhs` is evaluated as a scalar: it is no call, no Tuple and no array
abbrev pub scalar_rhs : List ℕ → ℕ → ℕ → Bool
scalar_rhs file node rhs = not (eqb (get_or file rhs 0) 11 || (eqb (get_or file rhs 0) 12 || array_at file node 24 rhs))

-- how many cells the right side of equation i of node k takes: a call's arguments, and its outputs; else its names' cells
abbrev pub equation_cells : List ℕ → List ℕ → ℕ → ℕ → ℕ
equation_cells file tab k i =
    cond (eqb (get_or file (rhs_in file k i) 0) 11) (callee_cells file (get_or file (rhs_in file k i + 1) 0)) (cells_under_all tab k (place_in file k i + 1) (length (equation_in file k i).names))

abbrev pub EquationTo : List ℕ → List ℕ → ℕ → ℕ → Bool → List ℕ → List ℕ → List ℕ → Ending → List ℕ → List ℕ → Type 0
EquationTo file consts k i first cells before old end cells' new =
    Did (λ vs. assign (node_in file k) (equation_in file k i).names vs (values_of (width_in file k) cells))
    (eval_equation (globals_in file consts) (calls (globals_in file consts)) (node_in file k) first (values_of (width_in file k) before) (values_of (width_in file k) cells) i old)
    end (values_of (width_in file k) cells') new
