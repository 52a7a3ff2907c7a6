-- What the members of the cycle ask and give.
use Rattle.std.specs.Prelude.{ℕ, ◌+◌, ◌≤◌, Bool, false, ◌||◌, List, ◌++◌, ◌≡◌, eqb, length, take, drop, get_or}
use Rattle.ol_spec.specs.Lists.{is_some}
use Rattle.ol_spec.specs.Syntax.{variables}
use Rattle.ol_spec.specs.Shapes.{arrays_in, constant_arrays}
use Rattle.ol_spec.specs.Eval.{Eval, Branch, next, map_eval, choose, branch, condition, arrays_or, next_cells, map_cells, cells_by, equal_cells, index_of}
use Rattle.ol_spec.proofs.Forms.{uses_all}
use Rattle.ol_value.specs.Codes.{binary_by}
use Rattle.ol_tables.specs.At.{file_at, node_in, expr_at, end_at, exprs_at, ends_at}
use Rattle.ol_tables.specs.Table.{tab_of, rows_of, consts_of}
use Rattle.ol_tables.specs.Tables.{Each}
use Rattle.ol_frame.specs.declared.frame.Frame.{Frame}
use Rattle.ol_frame.specs.Plans.{Plan, Cells, segs_at, seg_at, eval_in, array_in, globals_in, scope_in, shape_in}
use Rattle.ol_frame.specs.Arrays.{compared_by}
use Rattle.ol_frame.specs.Nodes.{Enters}
use Rattle.ol_frame.specs.Outcomes.{overflow_of}
use Rattle.ol_eval.specs.Fitting.{Scalars}
use Rattle.ol_spec.specs.declared.Outcome.{Outcome}
use Rattle.ol_eval.specs.declared.eval.Step.{Step}

-- n expressions from `at` on can be evaluated on the parts `old` and `new` of the two states
pub record Ready (file tab rows consts : List ℕ) (level n at node : ℕ) (cells before old new : List ℕ) : Type 0 where
  pub plan : Plan file tab rows consts node level n at
  pub present : Cells file node cells
  pub previous : Cells file node before
  pub same : new ≡ old
  pub room : segs_at file level n at ≤ length old
  pub small : length old ≤ 32768
  pub calls : Each (Enters file tab rows consts node) (uses_all (exprs_at file level n at))

-- they can be on the frame fr, by the tables tab
abbrev pub CanEval : List ℕ → List ℕ → ℕ → ℕ → ℕ → Frame → List ℕ → List ℕ → Type 0
CanEval file tab level n at fr old new = Ready file (tab_of tab) (rows_of tab) (consts_of tab) level n at fr.node fr.cells.now fr.before.now old new

-- what is said of a node, of whether it is its first cycle, of its cells and of the cells before, said of those of the frame fr
abbrev pub on : {X : Type 1} → (ℕ → Bool → List ℕ → List ℕ → X) → Frame → X
on P fr = P fr.node fr.first fr.cells.now fr.before.now

-- whether the expression at `at` of node's scope is an array
abbrev pub array_at : List ℕ → ℕ → ℕ → ℕ → Bool
array_at file node level at = is_some (shape_in file node (expr_at file level at))

-- n expressions from `at` on are scalars in node's scope
abbrev pub ScalarsAt : List ℕ → ℕ → ℕ → ℕ → ℕ → Type 0
ScalarsAt file node level n at = Scalars (file_at file).nodes (arrays_in (variables (node_in file node))) (constant_arrays (file_at file).constants) (exprs_at file level n at)

-- what an evaluation gives: its outcome, where the expression ends, the bytes of its records, and the new state
pub record Meets (want : Eval) (next used : ℕ) (old : List ℕ) (r : Step Outcome) (new : List ℕ) : Type 0 where
  pub out : r.out ≡ want.out
  pub next_is : r.next ≡ next
  pub used_is : r.used ≡ used
  pub state : new ≡ want.seg ++ drop used old

-- the expression at `at`
abbrev pub EvalsTo : List ℕ → List ℕ → ℕ → ℕ → ℕ → Bool → List ℕ → List ℕ → List ℕ → Step Outcome → List ℕ → Type 0
EvalsTo file consts level at node first cells before old r new =
    Meets (eval_in file consts node first cells before (expr_at file level at) (take (seg_at file level at) old)) (end_at file level at) (seg_at file level at) old r new

-- the branch that is not taken, evaluated for its records: whether it overflowed, and the new state
pub record Untaken (want : Eval) (used : ℕ) (old : List ℕ) (over : Bool) (new : List ℕ) : Type 0 where
  pub over_is : over ≡ overflow_of want.out
  pub state : new ≡ want.seg ++ drop used old

abbrev pub UntakenTo : List ℕ → List ℕ → ℕ → ℕ → ℕ → Bool → List ℕ → List ℕ → List ℕ → Bool → List ℕ → Type 0
UntakenTo file consts level at node first cells before old over new =
    Untaken (eval_in file consts node first cells before (expr_at file level at) (take (seg_at file level at) old)) (seg_at file level at) old over new

-- two arrays, the first of which is at `at`, on their segment: the operator's code tells what is made of them
abbrev pub equal_sides : List ℕ → List ℕ → ℕ → ℕ → ℕ → ℕ → Bool → List ℕ → List ℕ → List ℕ → Eval
equal_sides file consts op level at node first cells before seg =
    next_cells (array_in file consts node first cells before (expr_at file level at) (take (seg_at file level at) seg))
    (λ vs rest. map_cells (λ ws. compared_by op (equal_cells vs ws)) (array_in file consts node first cells before (expr_at file level (end_at file level at)) rest))
    (drop (seg_at file level at) seg)

abbrev pub EqualTo : List ℕ → List ℕ → ℕ → ℕ → ℕ → ℕ → Bool → List ℕ → List ℕ → List ℕ → Step Outcome → List ℕ → Type 0
EqualTo file consts op level at node first cells before old r new =
    Meets (equal_sides file consts op level at node first cells before (take (segs_at file level 2 at) old)) (ends_at file level 2 at) (segs_at file level 2 at) old r new

-- two scalar operands
abbrev pub two_scalars : List ℕ → List ℕ → ℕ → ℕ → ℕ → ℕ → Bool → List ℕ → List ℕ → List ℕ → Eval
two_scalars file consts op level at node first cells before seg =
    next (eval_in file consts node first cells before (expr_at file level at) (take (seg_at file level at) seg))
    (λ v rest. map_eval (binary_by op v) (eval_in file consts node first cells before (expr_at file level (end_at file level at)) rest))
    (drop (seg_at file level at) seg)

-- two operands, the first of which is at `at`, on their segment
abbrev pub two_in : List ℕ → List ℕ → ℕ → ℕ → ℕ → ℕ → Bool → List ℕ → List ℕ → List ℕ → Eval
two_in file consts op level at node first cells before seg =
    arrays_or (array_at file node level at) (equal_sides file consts op level at node first cells before) (two_scalars file consts op level at node first cells before) seg

abbrev pub TwoTo : List ℕ → List ℕ → ℕ → ℕ → ℕ → ℕ → Bool → List ℕ → List ℕ → List ℕ → Step Outcome → List ℕ → Type 0
TwoTo file consts op level at node first cells before old r new =
    Meets (two_in file consts op level at node first cells before (take (segs_at file level 2 at) old)) (ends_at file level 2 at) (segs_at file level 2 at) old r new

-- both are arrays, or neither is
abbrev pub Alike : List ℕ → ℕ → ℕ → ℕ → Type 0
Alike file node level at = array_at file node level at ≡ array_at file node level (end_at file level at)

-- arrays stand beside each other in Eq and Neq alone, by the operator's code
abbrev pub equality_code : ℕ → Bool
equality_code op = eqb op 4 || eqb op 5

abbrev pub Equated : List ℕ → ℕ → ℕ → ℕ → Type 0
Equated file node level at = equality_code (get_or file (at + 1) 0) ≡ false → array_at file node level (at + 2) ≡ false

-- two branches, the first of which is at `at`, on their segment: the first is taken where the test is true
abbrev pub branch_in : List ℕ → List ℕ → ℕ → ℕ → ℕ → Bool → List ℕ → List ℕ → List ℕ → Branch
branch_in file consts level at node first cells before seg =
    branch (globals_in file consts) (scope_in file node first cells before) (expr_at file level at) (eval_in file consts node first cells before (expr_at file level at)) seg

abbrev pub choose_in : List ℕ → List ℕ → Bool → ℕ → ℕ → ℕ → Bool → List ℕ → List ℕ → List ℕ → Eval
choose_in file consts test level at node first cells before seg =
    choose test (branch_in file consts level at node first cells before (take (seg_at file level at) seg)) (branch_in file consts level (end_at file level at) node first cells before (drop (seg_at file level at) seg))

abbrev pub ChooseTo : List ℕ → List ℕ → Bool → ℕ → ℕ → ℕ → Bool → List ℕ → List ℕ → List ℕ → Step Outcome → List ℕ → Type 0
ChooseTo file consts test level at node first cells before old r new =
    Meets (choose_in file consts test level at node first cells before (take (segs_at file level 2 at) old)) (ends_at file level 2 at) (segs_at file level 2 at) old r new

-- IfThenElse, whose condition is at `at`, on its segment
abbrev pub if_in : List ℕ → List ℕ → ℕ → ℕ → ℕ → Bool → List ℕ → List ℕ → List ℕ → Eval
if_in file consts level at node first cells before seg =
    next (eval_in file consts node first cells before (expr_at file level at) (take (seg_at file level at) seg))
    (condition (λ test rest. choose_in file consts test level (end_at file level at) node first cells before rest))
    (drop (seg_at file level at) seg)

abbrev pub IfTo : List ℕ → List ℕ → ℕ → ℕ → ℕ → Bool → List ℕ → List ℕ → List ℕ → Step Outcome → List ℕ → Type 0
IfTo file consts level at node first cells before old r new =
    Meets (if_in file consts level at node first cells before (take (segs_at file level 3 at) old)) (ends_at file level 3 at) (segs_at file level 3 at) old r new

-- an index, whose base is at `at`, on its segment
abbrev pub index_in : List ℕ → List ℕ → ℕ → ℕ → ℕ → Bool → List ℕ → List ℕ → List ℕ → Eval
index_in file consts level at node first cells before seg =
    next_cells
    (cells_by (array_at file node level at) (λ q. array_in file consts node first cells before (expr_at file level at) q) (eval_in file consts node first cells before (expr_at file level at)) (take (seg_at file level at) seg))
    (λ vs rest. map_eval (index_of (array_at file node level at) vs) (eval_in file consts node first cells before (expr_at file level (end_at file level at)) rest))
    (drop (seg_at file level at) seg)

abbrev pub IndexTo : List ℕ → List ℕ → ℕ → ℕ → ℕ → Bool → List ℕ → List ℕ → List ℕ → Step Outcome → List ℕ → Type 0
IndexTo file consts level at node first cells before old r new =
    Meets (index_in file consts level at node first cells before (take (segs_at file level 2 at) old)) (ends_at file level 2 at) (segs_at file level 2 at) old r new
