-- What judging a file that reads without fault gives: the first of the faults that are still to be asked, or the file's tables.
use Rattle.std.specs.Prelude.{ℕ, suc, ◌+◌, ◌*◌, ◌≤◌, ◌<◌, min, Bool, true, List, [], ◌∷◌, map, ◌≡◌, length, get_or, take, drop, Result, Ok, Err}
use Rattle.std.specs.Prelude as Std
use Rattle.std.proofs.Math.Option.{Option, none, some}
use Rattle.ol_spec.specs.Lists.{concat}
use Rattle.ol_spec.specs.Syntax.{File, constant_cells}
use Rattle.ol_spec.specs.Places.{constants_start, placed_nodes}
use Rattle.ol_spec.specs.Limits.{relay_loader}
use Rattle.ol_spec.specs.Cell.{cells, values_of}
use Rattle.ol_spec.specs.Admission as Adm
use Rattle.ol_spec.specs.Demand3.{Bytes}
use Rattle.ol_spec.specs.declared.Value.{Value}
use Rattle.ol_tables.specs.At.{file_at}
use Rattle.ol_tables.specs.Tables.{Each, Rows, node_of, place_of, first_at, size_cap, PlanOf, Told, constant_of}
use Rattle.ol_tables.specs.Stands.{FileReads, FileStands}
use Rattle.ol_tables.specs.Table.{tab_of, rows_of, known_of, consts_of, half_of}
use Rattle.ol_ir.specs.Walks as Walks
use Rattle.ol_check.specs.Founds as Founds
use Rattle.ol_check.specs.Arrays.{declares_arrays, about_arrays}
use Rattle.ol_check.specs.RowsDone.{NodeRow, Typed, SectionsAre, CountedBy, CellsCounted}
use Rattle.ol_check.specs.FileJudged.{NamesWithin, FileJudged, global_table}
use Rattle.ol_check.specs.Sizes.{MainSized}
use Rattle.ol_check.specs.declared.rows.Sections.{Sections}
use Rattle.ol_check.specs.declared.clash.Sorting.{Sorting}
use Rattle.ol_check.specs.declared.Faults.{Faults}
use Rattle.ol_order.specs.Tables.{entries_for}
use Rattle.ol_run.specs.Admitted.{Sound, Shaped, Admitted}
use Rattle.ol_run.specs.Constants.{Holding}
use Rattle.ol_spec.specs.declared.Fault.{Fault}
use Rattle.ol_sim.specs.declared.judge.Admitted.{Admitted as Passed}
use Rattle.ol_sim.specs.declared.program.Project.{Project}

-- the faults from a number on, in their order: 22 comes after 10
abbrev pub from13 : File → List (ℕ × Option ℕ)
from13 f = (13, Adm.fault13 relay_loader f) ∷ (14, Adm.fault14 f) ∷ []

abbrev pub from12 : File → List (ℕ × Option ℕ)
from12 f = (12, Adm.fault12 f) ∷ from13 f

abbrev pub from11 : File → List (ℕ × Option ℕ)
from11 f = (11, Adm.fault11 f) ∷ from12 f

abbrev pub from22 : File → List (ℕ × Option ℕ)
from22 f = (22, Adm.fault22 f) ∷ from11 f

abbrev pub from7 : File → List (ℕ × Option ℕ)
from7 f = (7, Adm.fault7 f) ∷ (8, Adm.fault8 f) ∷ (9, Adm.fault9 f) ∷ (10, Adm.fault10 f) ∷ from22 f

abbrev pub from6 : File → List (ℕ × Option ℕ)
from6 f = (6, Adm.fault6 f) ∷ from7 f

-- every declared name is below a number
abbrev pub Below : ℕ → File → Type 0
Below n f = Each (λ d. d.name < n) (Adm.declared f)

-- the declared names of the file s are below the number of entries that its table of definers has, where this says so
abbrev pub Low : List ℕ → Bool → Type 0
Low s low = low ≡ true → Below (entries_for s) (file_at s)

-- the constants' values, none where one is stuck
abbrev pub values_in : File → List Value
values_in f = Adm.constant_values (Adm.constants f)

-- how many cells the constants have
abbrev pub cells_in : File → ℕ
cells_in f = length (concat (map constant_cells f.constants))

-- the constants' cells, so many, of which the values are read back: all of them
pub record Held (f : File) (known : ℕ) (consts : List ℕ) : Type 0 where
  pub is : consts ≡ cells (values_in f)
  pub back : values_of (length (values_in f)) consts ≡ values_in f
  pub many : length (values_in f) ≡ length (Adm.constant_cell_names f)
  pub counted : known ≡ length (values_in f)

-- a file without the faults 13 and 14: the length of its state, and its main node's number
pub record Measured (s : List ℕ) (size main : ℕ) : Type 0 where
  pub sized : size ≡ Adm.state_size (file_at s)
  pub small : size ≤ 32768
  pub last : suc main ≡ length (file_at s).nodes
  pub operator : Adm.fault14 (file_at s) ≡ none

-- a file that is admitted: besides, its table t
pub record Admits (s t : List ℕ) (size main : ℕ) : Type 0 where
  pub measured : Measured s size main
  pub tables : Admitted s (rows_of t) (tab_of t)
  pub held : Held (file_at s) (known_of t) (consts_of t)

-- the file with its constants' values
abbrev pub whole : File → Adm.Judged
whole f = Adm.admitted f (values_in f)

-- the fault of this number, where it holds at a place
abbrev pub refused_if : ℕ → Std.Option ℕ → Result (Unit {0}) Fault
refused_if n (Std.Some p) = Err (record { number = n; place = p })
refused_if n Std.None = Ok tt

-- what judging gives, where the faults xs are still to be asked and P holds of an admitted file
abbrev pub JudgesBy : List ℕ → List (ℕ × Option ℕ) → (ℕ → ℕ → Type 0) → Result Passed Fault → Type 0
JudgesBy s xs P (Err x) = Adm.refuse_first xs (whole (file_at s)) ≡ Adm.refused x.number x.place
JudgesBy s xs P (Ok a) = (Adm.refuse_first xs (whole (file_at s)) ≡ whole (file_at s)) × P a.size a.main

pub record Judges (s : List ℕ) (xs : List (ℕ × Option ℕ)) (P : ℕ → ℕ → Type 0) (r : Result Passed Fault) : Type 0 where
  pub is : JudgesBy s xs P r

-- the table by name after the walk over the file, which a fault 6 keeps from being made
abbrev pub names_after : Option ℕ → File → List ℕ → List ℕ
names_after (some p) f names = names
names_after none f names = global_table names f

-- ---- what each step of judging is told

-- the file, of bytes, reads without fault, with so many enums and its nodes at these places
pub record Loads (p : Project) : Type 0 where
  pub bytes : Bytes p.file.now
  pub reads : FileReads p.file.now
  pub counted : length (file_at p.file.now).enums ≡ p.enums
  pub placed : p.places.now ≡ map Walks.place_of (placed_nodes (file_at p.file.now))

-- the slots in the table t, behind which as many bytes have the plans
abbrev pub slots_of : List ℕ → List ℕ
slots_of t = take (half_of t) (drop 4210 t)

abbrev pub plans_of : List ℕ → List ℕ
plans_of t = drop (half_of t) (drop 4210 t)

-- the constants have so many cells, and the table t has room for them
pub record CellsFit (s t : List ℕ) (cells : ℕ) : Type 0 where
  pub many : cells ≡ cells_in (file_at s)
  pub holding : Holding t (length s) cells

-- a table t for a file whose constants have so many cells; from the orders on it is 0
pub record FileReady (s t : List ℕ) (cells : ℕ) : Type 0 where
  pub reads : FileReads s
  pub stands : FileStands s (file_at s)
  pub tab_long : 4210 + 2 * length s ≤ length t
  pub blank : (x : ℕ) → get_or (drop 1394 t) x 0 ≡ 0
  pub fit : CellsFit s t cells

-- the rows but for the sizes, and the sections
pub record Rowed (s rows : List ℕ) (c : Sections) : Type 0 where
  pub reads : FileReads s
  pub stands : FileStands s (file_at s)
  pub sections : SectionsAre (file_at s) c
  pub row : (k : ℕ) → k < length (file_at s).nodes → NodeRow (node_of (file_at s) k) (place_of (placed_nodes (file_at s)) k) k rows
  pub firsts : (e : ℕ) → e < length (file_at s).enums → first_at rows e ≡ get_or (get_or (file_at s).enums e []) 0 0

-- the nodes' places and, among the plans, the types of their variables
abbrev pub TypedIn : File → List ℕ → Type 0
TypedIn f t = Typed f (256 + half_of t) (drop 3954 t)

-- besides, how many cells the nodes have
pub record TypesIn (f : File) (t : List ℕ) : Type 0 where
  pub typed : TypedIn f t
  pub counted : (k : ℕ) → k < length f.nodes → CellsCounted (node_of f k) k (drop 3954 t)

-- the table t before cells are counted: each variable counts once; and whether arrays are declared
pub record Countable (s rows t : List ℕ) (arrays : Bool) : Type 0 where
  pub stands : FileStands s (file_at s)
  pub row : (k : ℕ) → k < length (file_at s).nodes → NodeRow (node_of (file_at s) k) (place_of (placed_nodes (file_at s)) k) k rows
  pub typed : TypedIn (file_at s) t
  pub counted : (k : ℕ) → k < length (file_at s).nodes → CountedBy (node_of (file_at s) k) k (drop 3954 t)
  pub long : 4210 ≤ length t
  pub declared : arrays ≡ declares_arrays (file_at s)

-- the table is as long as before
pub record CountsOnly (t t' : List ℕ) : Type 0 where
  pub long : length t' ≡ length t

pub record SectionsReady (s rows t : List ℕ) (c : Sections) (cells : ℕ) : Type 0 where
  pub rowed : Rowed s rows c
  pub typed : TypesIn (file_at s) t
  pub tab_long : 4210 + 2 * length s ≤ length t
  pub fit : CellsFit s t cells

-- 6, and whether an array is declared
pub record Found (f : File) (r : Sorting) : Type 0 where
  pub clash : Founds.place_of r.found ≡ Adm.fault6 f
  pub arrays : r.arrays ≡ declares_arrays f

-- the table by name is 0 everywhere, and longer than every declared name
pub record Empty (f : File) (names : List ℕ) : Type 0 where
  pub zero : (x : ℕ) → get_or names x 0 ≡ 0
  pub within : NamesWithin (length names) f

pub record NamesReady (s rows t names : List ℕ) (c : Sections) (cells : ℕ) (low : Bool) : Type 0 where
  pub sections : SectionsReady s rows t c cells
  pub empty : Empty (file_at s) names
  pub lows : Low s low

-- the slots of all names, as the walk over the file leaves them
pub record Slots (s : List ℕ) (f : File) (slots : List ℕ) : Type 0 where
  pub names : List ℕ
  pub names' : List ℕ
  pub before : List ℕ
  pub rows : List ℕ
  pub rows' : List ℕ
  pub found : Faults
  pub empty : Empty f names
  pub long : length s ≤ length before
  pub judged : FileJudged s f names names' before slots rows rows' found

-- the plans of all nodes, where 9 does not hold, and the constants' types
pub record Plans (f : File) (plans : List ℕ) : Type 0 where
  pub planned : Adm.fault9 f ≡ none → (k : ℕ) → k < length f.nodes → PlanOf f plans k
  pub constants : (i : ℕ) → i < length f.constants → Told plans (constants_start f + 2 * i) (constant_of f i).1.ty

-- 7 to 10, and whether anything is about arrays
pub record FaultsAre (f : File) (r : Faults) : Type 0 where
  pub unseen : Founds.place_of r.unseen ≡ Adm.fault7 f
  pub again : Adm.fault7 f ≡ none → Founds.place_of r.again ≡ Adm.fault8 f
  pub called : Founds.place_of r.called ≡ Adm.fault9 f
  pub shaped : Founds.place_of r.shaped ≡ Adm.fault10 f
  pub arrays : r.arrays ≡ about_arrays f

-- what the walk over the file leaves: slots and plans; and whether every declared name is low
pub record Walked (s rows t : List ℕ) (c : Sections) (cells : ℕ) (low : Bool) : Type 0 where
  pub sections : SectionsReady s rows t c cells
  pub slots : Slots s (file_at s) (slots_of t)
  pub plans : Plans (file_at s) (plans_of t)
  pub lows : Low s low

pub record ShapesReady (s rows t : List ℕ) (c : Sections) (cells : ℕ) (low : Bool) (found : Faults) : Type 0 where
  pub walked : Walked s rows t c cells low
  pub no6 : Adm.fault6 (file_at s) ≡ none
  pub are : FaultsAre (file_at s) found
  pub sized : Adm.fault9 (file_at s) ≡ none → Rows (file_at s) rows × MainSized (file_at s) found.size

-- 6 to 10 do not hold, and the main instance has so many bytes
pub record ArraysReady (s rows t : List ℕ) (c : Sections) (cells : ℕ) (low : Bool) (found : Faults) : Type 0 where
  pub walked : Walked s rows t c cells low
  pub rows_are : Rows (file_at s) rows
  pub main_is : MainSized (file_at s) found.size
  pub sound : Sound (file_at s)
  pub about : found.arrays ≡ about_arrays (file_at s)

-- neither does 22
pub record OrderReady (s rows t : List ℕ) (c : Sections) (cells main : ℕ) (low : Bool) : Type 0 where
  pub walked : Walked s rows t c cells low
  pub rows_are : Rows (file_at s) rows
  pub main_is : MainSized (file_at s) main
  pub shaped : Shaped (file_at s)

-- neither does 11; the rows are to be stored in the table t, and then the constants' cells
pub record ConstantsReady (s rows t : List ℕ) (c : Sections) (size : ℕ) : Type 0 where
  pub bytes : Bytes s
  pub tables : Admitted s rows (tab_of t)
  pub sections : SectionsAre (file_at s) c
  pub sized : size ≡ min (Adm.state_size (file_at s)) size_cap
  pub holding : Holding t (length s) (cells_in (file_at s))

pub record MainReady (s rows : List ℕ) (size main : ℕ) : Type 0 where
  pub reads : FileReads s
  pub stands : FileStands s (file_at s)
  pub rowed : Rows (file_at s) rows
  pub sized : size ≡ min (Adm.state_size (file_at s)) size_cap
  pub last : suc main ≡ length (file_at s).nodes
