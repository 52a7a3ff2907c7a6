-- Shapes, places and answers as the code has them.
use Rattle.std.specs.Prelude.{ℕ, zero, suc, ◌+◌, ◌*◌, ◌≤◌, Bool, true, cond, ◌&&◌, List, Some, None, Result, Ok, Err, eqb, get_or}
use Rattle.std.specs.Prelude.{Option as RustOption}
use Rattle.std.proofs.Math.Option.{Option, none, some}
use Rattle.ol_spec.specs.Admission as Adm
use Rattle.ol_spec.specs.Admission.{scalars, anything, arrays, arrays_of, takes}
use Rattle.ol_tables.specs.Tables.{row_at}
use Rattle.ol_shapes.specs.declared.places.Place.{Place}
use Rattle.ol_shapes.specs.declared.places.Place.TheVariants as Plc
use Rattle.ol_shapes.specs.declared.places.Misplaced.{Misplaced}

-- the code's Option, and its Place, as the definitions have them
abbrev pub option_of : RustOption ℕ → Option ℕ
option_of (Some n) = some n
option_of None = none

abbrev pub place_in : Place → Adm.Place
place_in Plc.Scalars = scalars
place_in Plc.Anything = anything
place_in Plc.Arrays = arrays
place_in (Plc.ArraysOf n) = arrays_of n

-- the place of the first faulted expression, if there is one
abbrev pub fault_of : {A : Type 0} → Result A Misplaced → Option ℕ
fault_of (Ok a) = none
fault_of (Err m) = some m.at

-- an array has an element or more
abbrev pub ArrayFits : Option ℕ → Type 0
ArrayFits none = Unit {0}
ArrayFits (some n) = 1 ≤ n

-- ---- shapes, as the tables tell them

-- the shape of an array of this length; 0 is a scalar's
abbrev pub length_shape : ℕ → Option ℕ
length_shape n = cond (eqb n 0) none (some n)

-- the shape of variable i of node k, by the types among the plans
abbrev pub type_shape : List ℕ → List ℕ → ℕ → ℕ → Option ℕ
type_shape rows plans k i = length_shape (get_or plans (row_at rows k 7 + 2 * i + 1) 0)

-- the shape of a call of node k: its one output's
abbrev pub call_shape : List ℕ → List ℕ → ℕ → Option ℕ
call_shape rows plans k = cond (eqb (row_at rows k 3) 1) (type_shape rows plans k (row_at rows k 2)) none

-- these shapes are scalars', so many from number i on
abbrev pub all_scalar : (ℕ → Option ℕ) → ℕ → ℕ → Bool
all_scalar g i zero = true
all_scalar g i (suc n) = takes scalars (g i) && all_scalar g (i + 1) n
