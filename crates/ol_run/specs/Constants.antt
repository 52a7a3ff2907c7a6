-- The constants' values: what evaluating them asks and gives.
use Rattle.std.specs.Prelude.{ℕ, ◌+◌, ◌*◌, ◌<◌, ◌≤◌, max, false, List, [], ◌++◌, map, ◌≡◌, length, take, drop, get_or, Result, Ok, Err}
use Rattle.ol_spec.specs.Syntax.{scalar, bool, bool_lit, Constant, constant_cells, length_in}
use Rattle.ol_spec.specs.Places.{collect_all}
use Rattle.ol_spec.specs.Cell.{cell, cells, value_of, values_of}
use Rattle.ol_spec.specs.Types.{fit}
use Rattle.ol_spec.specs.Eval.{Outcomes, eval_cells}
use Rattle.ol_spec.specs.Admission.{used_at, uses_where, bad_call, bad_iterator, value_place, no_variables, no_calls, constant_cell_names, Constants, all, stuck_at}
use Rattle.ol_spec.specs.declared.Value.{Value}
use Rattle.ol_spec.proofs.Forms.{uses_all}
use Rattle.ol_value.specs.Codes.{ty_of}
use Rattle.ol_tables.specs.At.{file_at, node_in, expr_at, end_at, exprs_at, ReadsAll}
use Rattle.ol_tables.specs.Stands.{FileStands}
use Rattle.ol_tables.specs.Heads.{element_at, VarTyIs}
use Rattle.ol_tables.specs.Tables.{Each, Sound, element_of, array_length, first_constant_cell, constant_of, plans_from, two_put}
use Rattle.ol_tables.specs.Parts.{Proper}
use Rattle.ol_tables.specs.Table.{tab_of, rows_of, consts_from}
use Rattle.ol_frame.specs.Walk.{nodes_in}
use Rattle.ol_frame.specs.Plans.{Program, Named, known_in, globals_in, shape_in}
use Rattle.ol_frame.specs.Shapes.{Suited, head_item}
use Rattle.ol_frame.specs.Outcomes.{ending_of}
use Rattle.ol_frame.specs.declared.outcomes.Ending.{Ending}
use Rattle.ol_eval.specs.Calls.{Holds, as_is}
use Rattle.ol_eval.specs.declared.eval.Step.{Step}

-- ---- one constant

-- no callee
abbrev pub Never : ℕ → Type 0
Never c = ⊥

abbrev pub no_constant : ℕ × Constant
no_constant = (0, record { name = 0; ty = scalar bool; value = bool_lit false })

-- constant i with its place, the place of its type, and that of its expression
abbrev pub constant_at : List ℕ → ℕ → ℕ × Constant
constant_at file i = constant_of (file_at file) i

abbrev pub type_place : List ℕ → ℕ → ℕ
type_place file i = (constant_at file i).0 + 2

abbrev pub value_at : List ℕ → ℕ → ℕ
value_at file i = value_place (constant_at file i).0 (constant_at file i).1

-- how many cells it has
abbrev pub constant_width : List ℕ → ℕ → ℕ
constant_width file i = length (constant_cells (constant_at file i).1)

-- the code of the type at `at`, an array's that of its elements
abbrev pub code_at : List ℕ → ℕ → ℕ
code_at s at = get_or s (element_at s at) 0

-- constant i can be evaluated once those before it have their cells
pub record ConstantReady (file tab rows : List ℕ) (i : ℕ) : Type 0 where
  pub program : Program file tab rows
  pub below : i < length (file_at file).constants
  pub inside : (constant_at file i).0 + 5 ≤ length file
  pub type_is : VarTyIs file (type_place file i) (constant_at file i).1.ty
  pub proper : Proper (element_of (constant_at file i).1.ty)
  pub short : array_length (constant_at file i).1.ty ≤ 32
  pub filled : constant_width file i ≡ max (array_length (constant_at file i).1.ty) 1
  pub reads : ReadsAll file 24 1 (value_at file i)
  pub tree : expr_at file 24 (value_at file i) ≡ (constant_at file i).1.value
  -- it is a scalar or an array as its type is
  pub shape : shape_in file (nodes_in file) (constant_at file i).1.value ≡ length_in (constant_at file i).1.ty
  pub named : (consts : List ℕ) → known_in consts ≡ first_constant_cell (file_at file).constants i → Each (Named file tab consts (nodes_in file)) (collect_all used_at (value_at file i) (exprs_at file 24 1 (value_at file i)))
  pub sound : Each Sound (collect_all (uses_where (bad_call (file_at file) (nodes_in file) (node_in file (nodes_in file))) (bad_iterator (nodes_in file))) (value_at file i) (exprs_at file 24 1 (value_at file i)))
  pub suited : Each (Suited (file_at file) []) (collect_all head_item (value_at file i) (exprs_at file 24 1 (value_at file i)))
  pub closed : Each Never (uses_all (exprs_at file 24 1 (value_at file i)))

-- it is the turn of constant i, which stands at `at` and whose array has so many elements: those before it have their cells
pub record Turn (file tab rows consts : List ℕ) (at n i : ℕ) : Type 0 where
  pub ready : ConstantReady file tab rows i
  pub place : at ≡ (constant_at file i).0
  pub long : n ≡ array_length (constant_at file i).1.ty
  pub known : known_in consts ≡ first_constant_cell (file_at file).constants i

-- it is the turn of some constant
pub record Due (file tab rows consts : List ℕ) (at n : ℕ) : Type 0 where
  pub index : ℕ
  pub turn : Turn file tab rows consts at n index

-- its values: at a first cycle with no variables
abbrev pub constant_out : List ℕ → List ℕ → ℕ → Outcomes
constant_out file consts i = (eval_cells (globals_in file consts) no_variables no_calls (constant_at file i).1.value []).out

-- what evaluating it gives: how it ended, its values where there are any, in as many cells as its type has, and where it ends
pub record ConstantTo (file consts : List ℕ) (i : ℕ) (r : Step Ending) (room : List ℕ) : Type 0 where
  pub ends : r.out ≡ ending_of (constant_out file consts i)
  pub values : Holds as_is (constant_out file consts i) (values_of (constant_width file i) room)
  pub next : r.next ≡ end_at file 24 (value_at file i)

-- ---- their cells in the table

-- a value is had back from its cell
abbrev pub Back : Value → Type 0
Back v = value_of (cell v) ≡ v

-- so many values, each fitted to the type with this code
abbrev pub fitted_in : ℕ → ℕ → List ℕ → ℕ → List Value
fitted_in code count from e = map (fit (ty_of code e)) (values_of count from)

-- they are stored as cells
pub record KeepsCells (code count : ℕ) (from old new : List ℕ) : Type 0 where
  pub bytes : (e : ℕ) → new ≡ cells (fitted_in code count from e) ++ drop (9 * count) old
  pub back : (e : ℕ) → Each Back (fitted_in code count from e)

-- so many cells can be stored in the table behind n others
pub record Storing (t : List ℕ) (count n : ℕ) (from : List ℕ) : Type 0 where
  pub given : 9 * count ≤ length from
  pub few : n + count ≤ 2048
  pub long : 1394 ≤ length t
  pub space : consts_from t + 9 * n + 9 * count ≤ length t

-- they were, and are counted
pub record Stores (code count n : ℕ) (from t t' : List ℕ) : Type 0 where
  pub bytes : (e : ℕ) → t' ≡ two_put (take (consts_from t + 9 * n) t ++ (cells (fitted_in code count from e) ++ drop (consts_from t + 9 * n + 9 * count) t)) 816 (n + count)
  pub back : (e : ℕ) → Each Back (fitted_in code count from e)

-- ---- all constants

-- the table t of a file of so many bytes has room for so many cells of constants outside of what it tells: before it, or in a wide table behind it
pub record Holding (t : List ℕ) (bytes many : ℕ) : Type 0 where
  pub long : 1394 ≤ length t
  pub narrow : length t < 69747 → many ≤ 64
  pub wide : 69747 ≤ length t → (many ≤ 2048) × (1394 + plans_from (tab_of t) + bytes + 18432 ≤ length t)

-- all constants can be evaluated, the first of which is at `at`; t is the table of the file
pub record ConstantsReady (file t : List ℕ) (nodes at count : ℕ) : Type 0 where
  pub stands : FileStands file (file_at file)
  pub each : (i : ℕ) → i < length (file_at file).constants → ConstantReady file (tab_of t) (rows_of t) i
  pub counted : count ≡ length (file_at file).constants
  pub begins : 0 < count → at ≡ (constant_at file 0).0
  pub nodes_is : nodes ≡ nodes_in file
  pub few : count ≤ 64
  pub holding : Holding t (length file) (length (constant_cell_names (file_at file)))

-- what evaluating constants of n cells gives: their cells, or the place of the first that has no value
abbrev pub ConstantsAre : ℕ → Constants → Result (Unit {0}) ℕ → List ℕ → Type 0
ConstantsAre n (all vs) r cs = (r ≡ Ok tt) × (cs ≡ cells vs) × (values_of (length vs) cs ≡ vs) × (length vs ≡ n)
ConstantsAre n (stuck_at p) r cs = r ≡ Err p

-- the rows stay, and what the table tells of a file of so many bytes: its orders, the nodes' numbers, the slots and the plans
pub record SameTables (bytes : ℕ) (t t' : List ℕ) : Type 0 where
  pub long : length t' ≡ length t
  pub rows : rows_of t' ≡ rows_of t
  pub tab : (x : ℕ) → x < plans_from (tab_of t) + bytes → get_or (tab_of t') x 0 ≡ get_or (tab_of t) x 0
