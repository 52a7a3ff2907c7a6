-- What evaluation asks of a file and of the expressions in it.
use Rattle.std.specs.Prelude.{ℕ, ◌+◌, ◌*◌, ◌/◌, ◌≤◌, Bool, false, List, ◌≡◌, length, take, drop, get_or, T}
use Rattle.std.proofs.Math.Option.{Option, none}
use Rattle.ol_spec.specs.Lists.{concat, member, maybe}
use Rattle.ol_spec.specs.Syntax.{Expr, Exprs, variables, cell_names}
use Rattle.ol_spec.specs.Places.{collect_all}
use Rattle.ol_spec.specs.Limits.{relay_loader}
use Rattle.ol_spec.specs.Within.{within}
use Rattle.ol_spec.specs.Cell.{values_of}
use Rattle.ol_spec.specs.Numbers.{number_of}
use Rattle.ol_spec.specs.Shapes.{arrays_in, constant_arrays, shape}
use Rattle.ol_spec.specs.Eval.{Globals, Scope, Calls, Eval, Evals, Evaluated, RealKind, callees_all, callees, sites_size, eval, eval_array, eval_each, real_kind}
use Rattle.ol_spec.specs.Step.{globals, scope, calls, cell_count}
use Rattle.ol_spec.specs.Admission.{constant_cell_names, used_at, uses_where, bad_call, bad_iterator, fault6}
use Rattle.ol_spec.specs.declared.Value.{Value}
use Rattle.ol_tables.specs.At.{file_at, node_in, expr_at, exprs_at, Reads, ReadsAll}
use Rattle.ol_tables.specs.Tables.{Each, Tab, HasCell, cell_of, lengths_in, first_constant_cell, Sound, slots_from}
use Rattle.ol_tables.specs.Table.{consts_of}
use Rattle.ol_frame.specs.declared.frame.Frame.{Frame}
use Rattle.ol_frame.specs.Walk.{nodes_in, sizes_in, Sized}
use Rattle.ol_frame.specs.Shapes.{Suited, head_item}

-- how many cells of constants are there, and the names that they bear
abbrev pub known_in : List ℕ → ℕ
known_in consts = length consts / 9

abbrev pub constants_in : List ℕ → List ℕ → List ℕ
constants_in file consts = take (known_in consts) (constant_cell_names (file_at file))

-- what evaluation knows of the file
abbrev pub globals_in : List ℕ → List ℕ → Globals
globals_in file consts = globals (file_at file) (constants_in file consts) (values_of (known_in consts) consts)

-- the cells of node's variables: how many, and the names that they bear
abbrev pub width_in : List ℕ → ℕ → ℕ
width_in file node = cell_count (node_in file node)

abbrev pub names_in : List ℕ → ℕ → List ℕ
names_in file node = cell_names (variables (node_in file node))

abbrev pub scope_in : List ℕ → ℕ → Bool → List ℕ → List ℕ → Scope
scope_in file node first cells before = scope (node_in file node) first (values_of (width_in file node) before) (values_of (width_in file node) cells)

-- the array's length of a name in node's scope, if it is one
abbrev pub long_in : List ℕ → ℕ → ℕ → Option ℕ
long_in file node x = lengths_in (file_at file) (variables (node_in file node)) x

-- the shape of an expression of node's scope, and its array's length; 0 for a scalar
abbrev pub shape_in : List ℕ → ℕ → Expr → Option ℕ
shape_in file node e = shape (file_at file).nodes (arrays_in (variables (node_in file node))) (constant_arrays (file_at file).constants) e

abbrev pub span_in : List ℕ → ℕ → Expr → ℕ
span_in file node e = maybe 0 (λ n. n) (shape_in file node e)

-- a file that reads without fault, of which 6 does not hold, and its tables
pub record Program (file tab rows : List ℕ) : Type 0 where
  pub sized : Sized file rows
  pub table : Tab (file_at file) (length file) tab
  pub fits : T (within relay_loader (file_at file))
  pub no6 : fault6 (file_at file) ≡ none

-- a name that is used at p.0: its cell and length, and it is a variant where it is neither variable nor constant
pub record Named (file tab consts : List ℕ) (node : ℕ) (p : ℕ × ℕ) : Type 0 where
  pub cell : HasCell tab (names_in file node) (constants_in file consts) (long_in file node) p
  pub variant : cell_of (names_in file node) (constants_in file consts) p.1 ≡ 65535 → T (member p.1 (concat (file_at file).enums))

-- the cells of the first constants are there, so many of them
pub record Constants (file consts : List ℕ) : Type 0 where
  pub count : ℕ
  pub cells : known_in consts ≡ first_constant_cell (file_at file).constants count

-- n expressions of node's scope from `at` on, of at most `level` levels
pub record Plan (file tab rows consts : List ℕ) (node level n at : ℕ) : Type 0 where
  pub program : Program file tab rows
  pub known : Constants file consts
  pub node≤ : node ≤ nodes_in file
  pub level≤ : level ≤ 24
  pub reads : ReadsAll file level n at
  pub named : Each (Named file tab consts node) (collect_all used_at at (exprs_at file level n at))
  pub sound : Each Sound (collect_all (uses_where (bad_call (file_at file) node (node_in file node)) (bad_iterator node)) at (exprs_at file level n at))
  pub suited : Each (Suited (file_at file) (arrays_in (variables (node_in file node)))) (collect_all head_item at (exprs_at file level n at))

-- one expression, of some node's scope
pub record Planned (file tab rows consts : List ℕ) (level at : ℕ) : Type 0 where
  pub node : ℕ
  pub plan : Plan file tab rows consts node level 1 at

-- the bytes of their records
abbrev pub segs_at : List ℕ → ℕ → ℕ → ℕ → ℕ
segs_at file level n at = sites_size (sizes_in file) (callees_all (exprs_at file level n at))

abbrev pub seg_at : List ℕ → ℕ → ℕ → ℕ
seg_at file level at = sites_size (sizes_in file) (callees (expr_at file level at))

-- node's cells are there
pub record Cells (file : List ℕ) (node : ℕ) (cells : List ℕ) : Type 0 where
  pub long : 9 * width_in file node ≤ length cells

-- the name that stands at a place
abbrev pub name_at : List ℕ → ℕ → ℕ
name_at file at = number_of 0 (take 2 (drop at file))

-- it can be looked up
pub record Nameable (file tab consts : List ℕ) (node at : ℕ) : Type 0 where
  pub inside : at + 2 ≤ length file
  pub long : slots_from + length file ≤ length tab
  pub width : width_in file node ≤ 3584
  pub known : known_in consts ≤ 2048
  pub named : Named file tab consts node (at, name_at file at)

-- the operand of a Pre can be looked at
pub record Looked (file tab consts : List ℕ) (node level at : ℕ) : Type 0 where
  pub reads : Reads file level at
  pub named : get_or file at 0 ≡ 4 → Nameable file tab consts node (at + 1)

-- a form of which no part is evaluated where a scalar is wanted: a literal, a Var, a Pre, a Tuple, an array's literal
pub record Leaf (code : ℕ) : Type 0 where
  pub no_unary : ¬ (code ≡ 5)
  pub no_binary : ¬ (code ≡ 6)
  pub no_if : ¬ (code ≡ 7)
  pub no_arrow : ¬ (code ≡ 9)
  pub no_cast : ¬ (code ≡ 10)
  pub no_call : ¬ (code ≡ 11)
  pub no_index : ¬ (code ≡ 13)
  pub no_iterator : ¬ (code ≡ 15)

-- an expression, evaluated on its segment: as a scalar where calls mean this, and where they mean what they do
abbrev pub eval_by : List ℕ → List ℕ → ℕ → Bool → List ℕ → List ℕ → Calls → Expr → List ℕ → Eval
eval_by file consts node first cells before c e seg = eval (globals_in file consts) (scope_in file node first cells before) c e seg

abbrev pub eval_in : List ℕ → List ℕ → ℕ → Bool → List ℕ → List ℕ → Expr → List ℕ → Eval
eval_in file consts node first cells before e seg = eval_by file consts node first cells before (calls (globals_in file consts)) e seg

-- as an array; several expressions; and one that is a scalar or an array
abbrev pub array_in : List ℕ → List ℕ → ℕ → Bool → List ℕ → List ℕ → Expr → List ℕ → Evals
array_in file consts node first cells before e seg =
    eval_array (globals_in file consts) (scope_in file node first cells before) (calls (globals_in file consts)) e seg

abbrev pub each_in : List ℕ → List ℕ → ℕ → Bool → List ℕ → List ℕ → Exprs → List ℕ → Evaluated (List (List Value))
each_in file consts node first cells before es seg =
    eval_each (globals_in file consts) (scope_in file node first cells before) (calls (globals_in file consts)) es seg

-- how the expression at a place of the file counts as real, by the table and on a frame
abbrev pub kind_at : List ℕ → List ℕ → Frame → ℕ → ℕ → RealKind
kind_at file tab frame level at =
    real_kind (globals_in file (consts_of tab)) (scope_in file frame.node false frame.cells.now frame.cells.now) (expr_at file level at)
