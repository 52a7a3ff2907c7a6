-- What storing values in a node's cells, and passing values on, asks and gives.
use Rattle.std.specs.Prelude.{ℕ, zero, suc, ◌+◌, ◌*◌, ◌<◌, ◌≤◌, Option, Some, None, List, [], ◌∷◌, map, ◌≡◌, length, take, drop, get_or, set}
use Rattle.ol_theory.specs.Member.{Distinct}
use Rattle.ol_spec.specs.Lists.{positions}
use Rattle.ol_spec.specs.Syntax.{Ty, Variable, Node, variables, variable_names, variable_cells, cell_names}
use Rattle.ol_spec.specs.Cell.{value_of, values_of}
use Rattle.ol_spec.specs.Types.{fit}
use Rattle.ol_spec.specs.Eval.{Outcomes, values, failure, overflow, several, elements_at}
use Rattle.ol_spec.specs.Step.{cell_count, put_all, assign, fit_all}
use Rattle.ol_spec.specs.declared.Value.{Value}
use Rattle.ol_spec.specs.declared.Outcome.{Outcome}
use Rattle.ol_spec.specs.declared.Outcome.TheVariants as Out
use Rattle.ol_value.specs.Codes.{ty_of}
use Rattle.ol_tables.specs.Tables.{Each, slots_from, slot_at, code_at, enum_at, length_at, count_at, row_at, element_of, array_length, var_ty_at, HasSlot}
use Rattle.ol_state.specs.Defaults.{width_of, widths_at}
use Rattle.ol_frame.specs.declared.outcomes.Ending.{Ending}
use Rattle.ol_frame.specs.declared.outcomes.Ending.TheVariants as End

-- a value as it is passed on: fitted to variable i of the node that is called, by the code of its type or of its elements', or as it is where none is called
abbrev pub passed_with : List ℕ → Option ℕ → ℕ → ℕ → Value → Value
passed_with tab (Some k) i e v = fit (ty_of (code_at tab k i) e) v
passed_with tab None i e v = v

abbrev pub PassedOn : List ℕ → Option ℕ → ℕ → Value → Value → Type 0
PassedOn tab callee i v r = (e : ℕ) → r ≡ passed_with tab callee i e v

-- the values of node n's cells
abbrev pub cells_in : Node → List ℕ → List Value
cells_in n cells = values_of (cell_count n) cells

-- the table tells the types of n's variables, as those of node k, and no two of them have one name
pub record Typed (tab rows : List ℕ) (k : ℕ) (n : Node) : Type 0 where
  pub few : length (variables n) ≤ 112
  pub count : row_at rows k 4 ≡ length (variables n)
  pub cells : count_at tab k 3 ≡ cell_count n
  pub types : (i : ℕ) → i < length (variables n) → ty_of (code_at tab k i) (enum_at tab k i) ≡ element_of (var_ty_at (variables n) i)
  pub lengths : (i : ℕ) → i < length (variables n) → length_at tab k i ≡ array_length (var_ty_at (variables n) i)
  pub filled : Each (λ v. 1 ≤ length (variable_cells v)) (variables n)
  pub distinct : Distinct (variable_names n)

-- how many cells the name that stands at `at` has, a variable of node k; and n names, which stand from `at` on
abbrev pub cells_under : List ℕ → ℕ → ℕ → ℕ
cells_under tab k at = width_of tab k (slot_at tab at)

abbrev pub cells_under_all : List ℕ → ℕ → ℕ → ℕ → ℕ
cells_under_all tab k at zero = 0
cells_under_all tab k at (suc n) = cells_under tab k at + cells_under_all tab k (at + 2) n

-- values can be stored under the name that stands at `at`, a variable of node k
pub record Storable (tab rows : List ℕ) (k at : ℕ) (cells : List ℕ) : Type 0 where
  pub inside : slots_from + at < length tab
  pub node : k < 32
  pub few : row_at rows k 4 ≤ 112
  pub variable : slot_at tab at < row_at rows k 4
  pub counted : count_at tab k 3 ≡ widths_at tab k 0 (row_at rows k 4)
  pub room : 9 * widths_at tab k 0 (row_at rows k 4) ≤ length cells

-- the entries from i on are these
abbrev pub over_all : List Value → ℕ → List Value → List Value
over_all cs i [] = cs
over_all cs i (v ∷ vs) = over_all (set cs i v) (suc i) vs

-- they were: in the first of its cells, or in all
abbrev pub Stores : List ℕ → List ℕ → ℕ → ℕ → List Value → List ℕ → List ℕ → Type 0
Stores tab rows k at vs old new =
    (n : Node) (x : ℕ) (cs : List ℕ) → Typed tab rows k n → HasSlot tab (variable_names n) cs (at, x) → cells_in n new ≡ put_all n (positions x (cell_names (variables n))) vs (cells_in n old)

-- cells were, from cell `first` on, each fitted to a type with this code
abbrev pub StoresCells : ℕ → ℕ → ℕ → List ℕ → List ℕ → List ℕ → Type 0
StoresCells code first count from old new =
    (e m : ℕ) → values_of m new ≡ over_all (values_of m old) first (map (fit (ty_of code e)) (values_of count from))

-- an outcome's value was stored, under the first name
abbrev pub StoresOut : List ℕ → List ℕ → ℕ → ℕ → Outcome → List ℕ → List ℕ → Type 0
StoresOut tab rows k at o old new =
    (n : Node) (x : ℕ) (xs cs : List ℕ) → Typed tab rows k n → HasSlot tab (variable_names n) cs (at, x) → (vs : List Value) → several o ≡ values vs → cells_in n new ≡ assign n (x ∷ xs) vs (cells_in n old)

-- the names that stand from `at` on have their slots
abbrev pub Slots : List ℕ → ℕ → ℕ → Node → List ℕ → List ℕ → Type 0
Slots tab at n node xs cs = (i : ℕ) → i < n → HasSlot tab (variable_names node) cs (at + 2 * i, get_or xs i 0)

-- values can be stored under n names, which stand from `at` on
pub record Assignable (tab rows : List ℕ) (k at n : ℕ) (from cells : List ℕ) : Type 0 where
  pub inside : slots_from + at + 2 * n ≤ length tab
  pub small : at + 2 * n ≤ 65536
  pub few : n ≤ 112
  pub given : 9 * cells_under_all tab k at n ≤ length from
  pub each : (i : ℕ) → i < n → Storable tab rows k (at + 2 * i) cells

-- they were, each name's as many as it has
abbrev pub Assigns : List ℕ → List ℕ → ℕ → ℕ → ℕ → List ℕ → List ℕ → List ℕ → Type 0
Assigns tab rows k at n from old new =
    (node : Node) (xs cs : List ℕ) → Typed tab rows k node → n ≡ length xs → Slots tab at n node xs cs → cells_in node new ≡ assign node xs (values_of (cells_under_all tab k at n) from) (cells_in node old)

-- what a call left: how it ended, and n output values in `cells`
abbrev pub Leaves : Outcomes → Ending → ℕ → List ℕ → Type 0
Leaves (values vs) end n cells = (end ≡ End.Values) × (values_of n cells ≡ vs)
Leaves (failure c) end n cells = end ≡ End.Failed c
Leaves overflow end n cells = end ≡ End.Overflowed

-- ---- the parts of a call, a Tuple, a literal or an iterator

-- a value was put in the first cell, if the outcome has one: passed on as variable i of the node that is called
pub record Puts (tab : List ℕ) (callee : Option ℕ) (i : ℕ) (o : Outcome) (old new : List ℕ) : Type 0 where
  pub long : length new ≡ length old
  pub behind : drop 9 new ≡ drop 9 old
  pub value : (v : Value) → o ≡ Out.Value v → (e : ℕ) → value_of (take 9 new) ≡ passed_with tab callee i e v

-- the first m cells were fitted to a type with this code
pub record Fitted (code m : ℕ) (old new : List ℕ) : Type 0 where
  pub long : length new ≡ length old
  pub behind : drop (9 * m) new ≡ drop (9 * m) old
  pub values : (e : ℕ) → values_of m new ≡ map (fit (ty_of code e)) (values_of m old)

-- or passed on as the elements of variable i of the node that is called
pub record FitsPart (tab : List ℕ) (callee : Option ℕ) (i m : ℕ) (old new : List ℕ) : Type 0 where
  pub long : length new ≡ length old
  pub behind : drop (9 * m) new ≡ drop (9 * m) old
  pub values : (e : ℕ) → values_of m new ≡ map (passed_with tab callee i e) (values_of m old)

-- c arrays of n cells each, one behind the other
abbrev pub groups : ℕ → ℕ → List ℕ → List (List Value)
groups n zero s = []
groups n (suc c) s = values_of n s ∷ groups n c (drop (9 * n) s)

abbrev pub element_type : Variable → Ty
element_type v = element_of v.ty

-- element j of each of c arrays of n cells was put into args, fitted to the inputs of node k
abbrev pub Gathers : List ℕ → List ℕ → ℕ → ℕ → ℕ → ℕ → List ℕ → List ℕ → Type 0
Gathers tab rows k n c j arrays args =
    (node : Node) → Typed tab rows k node → c ≤ length (variables node) → values_of c args ≡ fit_all (map element_type (take c (variables node))) (elements_at j (groups n c arrays))
