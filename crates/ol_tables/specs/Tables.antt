-- The tables that every public call builds of a file that reads without fault: what each entry is, in terms of the file's tree.
-- `rows` has eight numbers for each of 32 nodes, then one for each of 16 enums. `tab` has bytes: the nodes' evaluation orders (80 entries for each of 32 nodes); four numbers of two bytes for each of 32 nodes: where
-- it starts, and how many cells its inputs have, its inputs and outputs, and all its variables; the slots, one for each place of the file; and, in as many bytes as the slots, the plans of the nodes, each of which
-- begins with the types of its node's variables (two bytes each), and the types of the constants.
use Rattle.std.specs.Prelude.{ℕ, ◌+◌, ◌-◌, ◌*◌, ◌/◌, ◌%◌, ◌<◌, ◌≤◌, min, false, List, [], ◌∷◌, map, ◌≡◌, eqb, length, take, drop, get_or, set}
use Rattle.std.proofs.Math.Option.{Option, none, some}
use Rattle.ol_spec.specs.Lists.{concat, maybe, position, member}
use Rattle.ol_spec.specs.Syntax.{Ty, bool, int, float32, float64, char, enum, VarTy, scalar, array, length_in, Variable, Constant, Node, File, no_node, variables, variable_names, cell_types, cell_names, constant_cells, constant_slots}
use Rattle.ol_spec.specs.Syntax.{Expr, bool_lit}
use Rattle.ol_spec.specs.Places.{constants_start, placed_constants, placed_nodes, placed_equations, placed_names, equations_start, rhs_place, collect}
use Rattle.ol_spec.specs.Encode.{kind_code}
use Rattle.ol_spec.specs.Order.{order}
use Rattle.ol_spec.specs.Shapes.{arrays_in, constant_arrays, length_of}
use Rattle.ol_spec.specs.Eval.{size_in, sites_size}
use Rattle.ol_spec.specs.Step.{cell_count, input_count, output_count, sizes_at, sites, equation_sites}
use Rattle.ol_spec.specs.Admission.{Item, constant_names, constant_cell_names, used, value_place, uses_where, bad_call, bad_iterator, variants}

-- ---- types

-- a scalar type as bytes: the type code, and an enum's number (0 for another type)
abbrev pub ty_code : Ty → ℕ
ty_code bool = 0
ty_code (int c) = c
ty_code float32 = 9
ty_code float64 = 10
ty_code char = 11
ty_code (enum e) = 12

abbrev pub ty_enum : Ty → ℕ
ty_enum bool = 0
ty_enum (int c) = 0
ty_enum float32 = 0
ty_enum float64 = 0
ty_enum char = 0
ty_enum (enum e) = e

-- a declared type's scalar type: its own, or that of an array's elements
abbrev pub element_of : VarTy → Ty
element_of (scalar t) = t
element_of (array n t) = t

-- an array's length, 0 for a scalar
abbrev pub array_length : VarTy → ℕ
array_length t = maybe 0 (λ n. n) (length_in t)

-- the declared type of a variable, and of variable i of these
abbrev pub var_ty_of : Variable → VarTy
var_ty_of v = v.ty

abbrev pub var_ty_at : List Variable → ℕ → VarTy
var_ty_at vs i = get_or (map var_ty_of vs) i (scalar bool)

-- the first cell of variable i of these, and of constant i
abbrev pub first_cell : List Variable → ℕ → ℕ
first_cell vs i = length (cell_types (take i vs))

abbrev pub first_constant_cell : List Constant → ℕ → ℕ
first_constant_cell cs i = length (concat (map constant_cells (take i cs)))

-- ---- rows

abbrev pub rows_length : ℕ
rows_length = 272

-- entry j of node k's row
abbrev pub row_at : List ℕ → ℕ → ℕ → ℕ
row_at rows k j = get_or rows (k * 8 + j) 0

-- the first variant of enum e
abbrev pub first_at : List ℕ → ℕ → ℕ
first_at rows e = get_or rows (256 + e) 0

-- a record's length, as the tables have it: exact up to this, which is above every state's limit
abbrev pub size_cap : ℕ
size_cap = 65536

abbrev pub node_of : File → ℕ → Node
node_of f k = get_or f.nodes k no_node

-- the bytes of a record at a call site of node k
abbrev pub site_bytes : File → ℕ → ℕ
site_bytes f k = size_in (sizes_at (length f.nodes) f.nodes) k

-- node k's place; 0 where there is none
abbrev pub place_of : List (ℕ × Node) → ℕ → ℕ
place_of ps k = get_or (map (λ p. p.0) ps) k 0

pub record RowOf (f : File) (rows : List ℕ) (k : ℕ) : Type 0 where
  pub kind : row_at rows k 0 ≡ kind_code (node_of f k).kind
  -- where the first equation starts
  pub equations : row_at rows k 1 ≡ equations_start (place_of (placed_nodes f) k) (node_of f k) + 1
  pub inputs : row_at rows k 2 ≡ length (node_of f k).inputs
  pub outputs : row_at rows k 3 ≡ length (node_of f k).outputs
  pub variables : row_at rows k 4 ≡ length (variables (node_of f k))
  pub count : row_at rows k 5 ≡ length (node_of f k).equations
  pub size : row_at rows k 6 ≡ min (site_bytes f k) size_cap
  -- where the node starts
  pub place : row_at rows k 7 ≡ place_of (placed_nodes f) k

pub record Rows (f : File) (rows : List ℕ) : Type 0 where
  pub long : length rows ≡ rows_length
  pub rows_of : (k : ℕ) → k < length f.nodes → RowOf f rows k
  pub firsts : (e : ℕ) → e < length f.enums → first_at rows e ≡ get_or (get_or f.enums e []) 0 0

-- ---- bytes

-- two bytes as a number
abbrev pub two_at : List ℕ → ℕ → ℕ
two_at t p = get_or t p 0 * 256 + get_or t (p + 1) 0

-- a number is stored in two bytes from p on
unfoldable pub two_put : List ℕ → ℕ → ℕ → List ℕ
two_put t p n = set (set t p (n / 256 % 256)) (p + 1) (n % 256)

abbrev pub nodes_from : ℕ
nodes_from = 2560

abbrev pub slots_from : ℕ
slots_from = 2816

-- where the plans start: the slots have half of the bytes behind slots_from
abbrev pub plans_from : List ℕ → ℕ
plans_from tab = slots_from + (length tab - slots_from) / 2

abbrev pub plans_of : List ℕ → List ℕ
plans_of tab = drop (plans_from tab) tab

-- which equation of node k runs j-th
abbrev pub order_at : List ℕ → ℕ → ℕ → ℕ
order_at tab k j = get_or tab (k * 80 + j) 0

-- number j of node k: where it starts, in the file and among the plans; how many cells its inputs have, its inputs and outputs, and all its variables
abbrev pub count_at : List ℕ → ℕ → ℕ → ℕ
count_at tab k j = two_at tab (nodes_from + 8 * k + 2 * j)

abbrev pub start_at : List ℕ → ℕ → ℕ
start_at tab k = two_at tab (nodes_from + 8 * k)

-- a type in two bytes among the plans, from p on: its scalar type's code and 16 times its enum's number, then its array's length
abbrev pub code_in : List ℕ → ℕ → ℕ
code_in plans p = get_or plans p 0 % 16

abbrev pub enum_in : List ℕ → ℕ → ℕ
enum_in plans p = get_or plans p 0 / 16

-- the type code, the enum's number, and the array's length, of variable i of node k
abbrev pub code_at : List ℕ → ℕ → ℕ → ℕ
code_at tab k i = code_in (plans_of tab) (start_at tab k + 2 * i)

abbrev pub enum_at : List ℕ → ℕ → ℕ → ℕ
enum_at tab k i = enum_in (plans_of tab) (start_at tab k + 2 * i)

abbrev pub length_at : List ℕ → ℕ → ℕ → ℕ
length_at tab k i = get_or (plans_of tab) (start_at tab k + 2 * i + 1) 0

-- the type t stands among the plans from p on
pub record Told (plans : List ℕ) (p : ℕ) (t : VarTy) : Type 0 where
  pub code : code_in plans p ≡ ty_code (element_of t)
  pub number : enum_in plans p ≡ ty_enum (element_of t)
  pub length : get_or plans (p + 1) 0 ≡ array_length t

-- ---- slots

-- the slot of a place
abbrev pub slot_at : List ℕ → ℕ → ℕ
slot_at tab at = get_or tab (slots_from + at) 0

-- of the name of a Var, which stands at a place: the cell, in its slots, and the array's length, in the slot before them
abbrev pub name_cell_at : List ℕ → ℕ → ℕ
name_cell_at tab at = two_at tab (slots_from + at)

abbrev pub name_length_at : List ℕ → ℕ → ℕ
name_length_at tab at = get_or tab (slots_from - 1 + at) 0

-- The slot of a name that an equation defines: a variable's index; 112 and a constant's index; 255 for a variant
abbrev pub constant_slot : Option ℕ → ℕ
constant_slot none = 255
constant_slot (some i) = 112 + i

abbrev pub slot_by : Option ℕ → Option ℕ → ℕ
slot_by (some i) c = i
slot_by none c = constant_slot c

abbrev pub slot_of : List ℕ → List ℕ → ℕ → ℕ
slot_of variables constants x = slot_by (position x variables) (position x constants)

-- The cell of a Var's name, by the names that the cells of the variables and of the constants bear: a variable's first cell; 3584 and a constant's first cell; 65535 for a variant
abbrev pub constant_cell_by : Option ℕ → ℕ
constant_cell_by none = 65535
constant_cell_by (some i) = 3584 + i

abbrev pub cell_by : Option ℕ → Option ℕ → ℕ
cell_by (some i) c = i
cell_by none c = constant_cell_by c

abbrev pub cell_of : List ℕ → List ℕ → ℕ → ℕ
cell_of variables constants x = cell_by (position x variables) (position x constants)

-- the array's length of a name that is one of these variables or a constant, as evaluation has it
abbrev pub lengths_in : File → List Variable → ℕ → Option ℕ
lengths_in f vs x = length_of f.nodes (arrays_in vs) (constant_arrays f.constants) x

-- the names that the cells of the constants before number i bear
abbrev pub constant_names_to : File → ℕ → List ℕ
constant_names_to f i = concat (map constant_slots (take i f.constants))

-- all entries of a list have a property
abbrev pub Each : {A : Type 0} → (A → Type 0) → List A → Type 0
Each P [] = Unit {0}
Each P (x ∷ xs) = P x × Each P xs

-- a name that an equation defines, at p.0, has its slot there
abbrev pub HasSlot : List ℕ → List ℕ → List ℕ → ℕ × ℕ → Type 0
HasSlot tab variables constants p = slot_at tab p.0 ≡ slot_of variables constants p.1

-- the name of a Var, which stands at p.0, has its cell and its array's length there
pub record HasCell (tab variables constants : List ℕ) (long : ℕ → Option ℕ) (p : ℕ × ℕ) : Type 0 where
  pub cell : name_cell_at tab p.0 ≡ cell_of variables constants p.1
  pub length : name_length_at tab p.0 ≡ maybe 0 (λ n. n) (long p.1)

-- every name in the expression at `at` has them
abbrev pub Slotted : List ℕ → List ℕ → List ℕ → (ℕ → Option ℕ) → ℕ → Expr → Type 0
Slotted tab variables constants long at e = Each (HasCell tab variables constants long) (used at e)

-- no call and no iterator in the expression at `at` of node k is faulted: 9 does not hold of it
abbrev pub Sound : Item → Type 0
Sound i = i.1 ≡ false

abbrev pub Callable : File → ℕ → ℕ → Expr → Type 0
Callable f k at e = Each Sound (collect (uses_where (bad_call f k (node_of f k)) (bad_iterator k)) at e)

pub record TabOf (f : File) (tab : List ℕ) (k : ℕ) : Type 0 where
  pub orders : (j : ℕ) → j < length (node_of f k).equations → order_at tab k j ≡ get_or (order (node_of f k).equations) j 0
  pub start : start_at tab k ≡ place_of (placed_nodes f) k
  pub input_cells : count_at tab k 1 ≡ input_count (node_of f k)
  pub output_cells : count_at tab k 2 ≡ input_count (node_of f k) + output_count (node_of f k)
  pub cells : count_at tab k 3 ≡ cell_count (node_of f k)
  pub codes : (i : ℕ) → i < length (variables (node_of f k)) → code_at tab k i ≡ ty_code (element_of (var_ty_at (variables (node_of f k)) i))
  pub enums : (i : ℕ) → i < length (variables (node_of f k)) → enum_at tab k i ≡ ty_enum (element_of (var_ty_at (variables (node_of f k)) i))
  pub lengths : (i : ℕ) → i < length (variables (node_of f k)) → length_at tab k i ≡ array_length (var_ty_at (variables (node_of f k)) i)
  pub slots : Each (λ q. Slotted tab (cell_names (variables (node_of f k))) (constant_cell_names f) (lengths_in f (variables (node_of f k))) (rhs_place q.0 q.1) q.1.rhs) (placed_equations (place_of (placed_nodes f) k) (node_of f k))
  -- the names that the equations define
  pub defined : Each (λ q. Each (HasSlot tab (variable_names (node_of f k)) (constant_names f)) (placed_names (q.0 + 1) q.1.names)) (placed_equations (place_of (placed_nodes f) k) (node_of f k))

-- ---- plans

-- where node k's plan goes on behind the types of its variables, two bytes each from its own place on. A variable has at least three bytes in the file and an equation five, so that the plans of two nodes do not meet
abbrev pub plan_in : File → ℕ → ℕ
plan_in f k = place_of (placed_nodes f) k + 2 * length (variables (node_of f k))

-- where equation i of node k stands
abbrev pub equation_place : File → ℕ → ℕ → ℕ
equation_place f k i = get_or (map (λ q. q.0) (placed_equations (place_of (placed_nodes f) k) (node_of f k))) i 0

-- the bytes of the records of the equations of node k, and of those before equation i
abbrev pub record_bytes : File → ℕ → ℕ
record_bytes f k = sites_size (sizes_at (length f.nodes) f.nodes) (sites (node_of f k))

abbrev pub bytes_before : File → ℕ → ℕ → ℕ
bytes_before f k i = sites_size (sizes_at (length f.nodes) f.nodes) (concat (map equation_sites (take i (node_of f k).equations)))

-- node k's plan: where each of its equations stands, and where the records of each start among those of all
pub record PlanOf (f : File) (plans : List ℕ) (k : ℕ) : Type 0 where
  pub places : (i : ℕ) → i < length (node_of f k).equations → two_at plans (plan_in f k + 2 * i) ≡ equation_place f k i
  pub offsets : record_bytes f k ≤ 32768 → (i : ℕ) → i < length (node_of f k).equations → two_at plans (plan_in f k + 2 * length (node_of f k).equations + 2 * i) ≡ bytes_before f k i

-- constant i with its place
abbrev pub constant_of : File → ℕ → ℕ × Constant
constant_of f i = get_or (placed_constants f) i (0, record { name = 0; ty = scalar bool; value = bool_lit false })

pub record Tab (f : File) (size : ℕ) (tab : List ℕ) : Type 0 where
  pub long : slots_from + size ≤ length tab
  pub tabs_of : (k : ℕ) → k < length f.nodes → TabOf f tab k
  pub plans : (k : ℕ) → k < length f.nodes → PlanOf f (plans_of tab) k
  pub constant_types : (i : ℕ) → i < length f.constants → Told (plans_of tab) (constants_start f + 2 * i) (constant_of f i).1.ty
  -- a constant's expression sees the constants before it
  pub constants : (i : ℕ) → i < length f.constants → Slotted tab [] (constant_names_to f i) (lengths_in f []) (value_place (constant_of f i).0 (constant_of f i).1) (constant_of f i).1.value

-- ---- variants

-- a table of bytes by name: 255 for these names, another byte for every other
abbrev pub Tells : List ℕ → List ℕ → Type 0
Tells table names = (x : ℕ) → eqb (get_or table x 0) 255 ≡ member x names

-- of the variants of all enums
pub record Variants (f : File) (table : List ℕ) : Type 0 where
  pub tells : Tells table (variants f)
