-- The slots of a file, as ol_tables's tables say them: where 6 does not hold, every name that an equation defines has its slot, and every name in an equation's right side has its cell and length; where 7 does not hold either, also every name in a constant's expression.
use Prim.Native.Nat.{ℕ, ◌+◌, ◌<◌, ◌≤◌}
use mathlib.Core.List.{List, [], ◌∷◌}
use mathlib.Core.Option.{none}
use mathlib.Core.Path.{◌≡◌, ap, subst, ◌∙◌}
use native.Mathlib.Nat.{zero-add}
use native.Mathlib.Omega.{arith}
use lib.ListN.{length, get_or, take, length-map}
use Rattle.ol_spec.specs.Syntax.{Node, File, variables, variable_names, name_of, constant_name, cell_names, type_cells}
use Rattle.ol_spec.specs.Lists.{maybe, member, position}
use Rattle.ol_spec.specs.Places.{placed_names, placed_nodes, placed_equations, placed_constants, constants_start, nodes_start, rhs_place}
use Rattle.ol_spec.specs.Admission.{variants, constant_names, constant_cell_names, constant_uses, value_place, used, fault6, fault7}
use Rattle.ol_spec.proofs.MainFacts.{distinct_names, distinct_constants}
use Rattle.ol_tables.specs.At.{file_at}
use Rattle.ol_tables.specs.Tables.{Each, HasSlot, HasCell, Slotted, slot_of, cell_of, slots_from, node_of, lengths_in, constant_names_to}
use Rattle.ol_tables.specs.Stands.{FileStands}
use Rattle.ol_tables.proofs.HeadsFile.{node_at_lem}
use Rattle.ol_check.specs.Judging.{slot_of_entry, entry_cell, entry_length}
use Rattle.ol_check.specs.RowsDone.{no_variable, no_constant}
use Rattle.ol_check.proofs.CellLaws.{cells_some, node_fits_lem, constant_fits_lem}
use Rattle.ol_check.proofs.KnownLaws.{cells_small}
use Rattle.ol_check.proofs.HeadLaws.{CellIs}
use Rattle.ol_check.proofs.Definitions.{clean_both}
use Rattle.ol_check.specs.Entries.{declare_all, constant_entries}
use Rattle.ol_check.specs.NodesJudged.{place_in, node_table, slot_nodes}
use Rattle.ol_check.specs.ConstantsJudged.{slot_constants}
use Rattle.ol_check.specs.FileJudged.{NamesWithin, variant_table, global_table, FileJudged}
use Rattle.ol_check.specs.declared.Faults.{Faults}
use Rattle.ol_check.proofs.RowLoops.{few_variables}
use Rattle.ol_check.proofs.SlotLaws.{NodeSlotted, nodes_below, nodes_length, slotted_at, file_slotted}
use Rattle.ol_check.proofs.SlotEntries.{entry_by, entry_told, entry_slot, entry_cell_told, entry_length_told}
use Rattle.ol_check.proofs.Sorts.{constants_apart, variables_apart}
use Rattle.ol_check.proofs.TabLaws.{cell_there, slots_told, defined_told}
use Rattle.ol_check.proofs.ConstantSlots.{SeenAt, placed_constant, constants_length, constants_held, constants_seen, constant_cell_lem, constant_length_lem}

-- what two properties of each entry give
each_both : {A : Type 0} (P Q R : A → Type 0) → ((x : A) → P x → Q x → R x) → (xs : List A) → Each P xs → Each Q xs → Each R xs
each_both P Q R f [] p q = tt
each_both P Q R f (x ∷ xs) p q = (f x p.0 q.0, each_both P Q R f xs p.1 q.1)

-- `slots` is what the walk found before the nodes, `tab` has what it left behind from slots_from on
module _ {s : List ℕ} (names slots tab : List ℕ) (st : FileStands s (file_at s)) (no6 : fault6 (file_at s) ≡ none) (empty : (x : ℕ) → get_or names x 0 ≡ 0) (within : NamesWithin (length names) (file_at s)) (room : length s ≤ length slots)
    (there : (j : ℕ) → j < length (slot_nodes s (global_table names (file_at s)) slots 0 (placed_nodes (file_at s))) → get_or tab (slots_from + j) 0 ≡ get_or (slot_nodes s (global_table names (file_at s)) slots 0 (placed_nodes (file_at s))) j 0)
    (k : ℕ) (lt : k < length (file_at s).nodes) where
  abbrev f : File
  f = file_at s

  abbrev n : Node
  n = node_of f k

  few_names : length (variable_names n) ≤ 112
  few_names = omega (arith, length-map (variables n) name_of, few_variables (node_at_lem st k lt))

  few_globals : length (constant_names f) ≤ 64
  few_globals = omega (arith, length-map f.constants constant_name, st.few_constants)

  entry_is : (x : ℕ) → get_or (node_table (global_table names f) n) x 0 ≡ entry_by (position x (variable_names n)) (position x (constant_names f)) (member x (variants f))
  entry_is = entry_told names f n empty within (within.nodes k lt) few_names few_globals (variables_apart f no6 k lt) (constants_apart f no6)

  slot_is : (x : ℕ) → slot_of_entry (get_or (node_table (global_table names f) n) x 0) ≡ slot_of (variable_names n) (constant_names f) x
  slot_is = entry_slot names f n empty within (within.nodes k lt) few_names few_globals (variables_apart f no6 k lt) (constants_apart f no6)

  filled : (i : ℕ) → i < length (variables n) → 1 ≤ length (type_cells (get_or (variables n) i no_variable).ty)
  filled i low = cells_some (length f.enums) _ (node_fits_lem n (node_at_lem st k lt) i low)

  filled_constants : (i : ℕ) → i < length f.constants → 1 ≤ length (type_cells (get_or f.constants i no_constant).ty)
  filled_constants i low = cells_some (length f.enums) _ (constant_fits_lem st i low)

  cell_is : (x : ℕ) → entry_cell f k (get_or (node_table (global_table names f) n) x 0) ≡ cell_of (cell_names (variables n)) (constant_cell_names f) x
  cell_is x = ap (entry_cell f k) (entry_is x) ∙ entry_cell_told f k few_names few_globals (λ y m. (variables_apart f no6 k lt y m).0) filled filled_constants (distinct_names f no6 k lt) (distinct_constants f no6) x

  length_is : (x : ℕ) → entry_length f k (get_or (node_table (global_table names f) n) x 0) ≡ maybe 0 (λ m. m) (lengths_in f (variables n) x)
  length_is x = ap (entry_length f k) (entry_is x) ∙ entry_length_told f k few_names few_globals (λ y m. (variables_apart f no6 k lt y m).0) filled filled_constants (distinct_names f no6 k lt) (distinct_constants f no6) x

  all_held : NodeSlotted f (global_table names f) (slot_nodes s (global_table names f) slots 0 (placed_nodes f)) k (place_in f k, n)
  all_held =
      subst (λ m. NodeSlotted f (global_table names f) (slot_nodes s (global_table names f) slots 0 (placed_nodes f)) m (place_in f k, n)) (zero-add k)
      (slotted_at f (global_table names f) (slot_nodes s (global_table names f) slots 0 (placed_nodes f)) f.nodes (nodes_start f) 0 k lt (file_slotted st (cells_small st) (global_table names f) slots room))

  -- the names that node k's equations use
  pub node_slots : Each (λ q. Slotted tab (cell_names (variables n)) (constant_cell_names f) (lengths_in f (variables n)) (rhs_place q.0 q.1) q.1.rhs) (placed_equations (place_in f k) n)
  node_slots =
      slots_told f k (node_table (global_table names f) n) (slot_nodes s (global_table names f) slots 0 (placed_nodes f)) tab (cell_names (variables n)) (constant_cell_names f) (lengths_in f (variables n)) there cell_is length_is
      (placed_equations (place_in f k) n) all_held

  -- and those that they define
  pub node_defined : Each (λ q. Each (HasSlot tab (variable_names n) (constant_names f)) (placed_names (q.0 + 1) q.1.names)) (placed_equations (place_in f k) n)
  node_defined =
      defined_told f k (node_table (global_table names f) n) (slot_nodes s (global_table names f) slots 0 (placed_nodes f)) tab (variable_names n) (constant_names f) (lengths_in f (variables n)) there slot_is (placed_equations (place_in f k) n)
      all_held

-- a file that was judged: `tab` has the slots that were left behind from slots_from on
module _ {s names names' slots slots' rows rows' : List ℕ} {r : Faults} (judged : FileJudged s (file_at s) names names' slots slots' rows rows' r) (tab : List ℕ) (st : FileStands s (file_at s)) (no6 : fault6 (file_at s) ≡ none)
    (empty : (x : ℕ) → get_or names x 0 ≡ 0) (within : NamesWithin (length names) (file_at s)) (room : length s ≤ length slots) (there : (j : ℕ) → j < length slots' → get_or tab (slots_from + j) 0 ≡ get_or slots' j 0) where
  abbrev file : File
  file = file_at s

  abbrev mid : List ℕ
  mid = slot_constants s (variant_table names file) slots 0 (placed_constants file)

  there_nodes : (j : ℕ) → j < length (slot_nodes s (global_table names file) mid 0 (placed_nodes file)) → get_or tab (slots_from + j) 0 ≡ get_or (slot_nodes s (global_table names file) mid 0 (placed_nodes file)) j 0
  there_nodes j lt = there j (omega (arith, lt, ap length judged.slotted)) ∙ ap (λ l. get_or l j 0) judged.slotted

  room_nodes : length s ≤ length mid
  room_nodes = omega (arith, constants_length s (length file.enums) (placed_constants file) 0 (variant_table names file) slots)

  -- the names that node k's equations use
  pub judged_slots : (k : ℕ) → k < length file.nodes
      → Each (λ q. Slotted tab (cell_names (variables (node_of file k))) (constant_cell_names file) (lengths_in file (variables (node_of file k))) (rhs_place q.0 q.1) q.1.rhs) (placed_equations (place_in file k) (node_of file k))
  judged_slots k lt = node_slots names mid tab st no6 empty within room_nodes there_nodes k lt

  -- and those that they define
  pub judged_defined : (k : ℕ) → k < length file.nodes → Each (λ q. Each (HasSlot tab (variable_names (node_of file k)) (constant_names file)) (placed_names (q.0 + 1) q.1.names)) (placed_equations (place_in file k) (node_of file k))
  judged_defined k lt = node_defined names mid tab st no6 empty within room_nodes there_nodes k lt

  -- the names in constant i's expression, which sees the constants before it, where 7 does not hold
  pub judged_constants : fault7 file ≡ none → (i : ℕ) → i < length file.constants
      → Slotted tab [] (constant_names_to file i) (lengths_in file []) (value_place (placed_constant (placed_constants file) i).0 (placed_constant (placed_constants file) i).1) (placed_constant (placed_constants file) i).1.value
  unfolding fault7
  judged_constants no7 i lt =
      let c = placed_constant (placed_constants file) i in
      let final = slot_nodes s (global_table names file) mid 0 (placed_nodes file) in
      let table = declare_all (variant_table names file) (constant_entries 0 (take i file.constants)) in
      let held = constants_held s (length file.enums) (cells_small st 0) file.constants (constants_start file) 0 st.constants (variant_table names file) slots final room
      (omega (arith, room_nodes, nodes_length s (global_table names file) (length file.enums) file.nodes (nodes_start file) 0 st.nodes mid))
      (λ j less. nodes_below s (global_table names file) (length file.enums) file.nodes (nodes_start file) 0 st.nodes mid j (omega arith)) i lt in
      let seen = constants_seen file.constants (constants_start file) (variants file) (clean_both (constant_uses (variants file) (placed_constants file)) _ no7).0 i lt in
      let few : length (constant_names file) ≤ 64 = omega (arith, length-map file.constants constant_name, st.few_constants) in
      let filled_all : (j : ℕ) → j < length file.constants → 1 ≤ length (type_cells (get_or file.constants j no_constant).ty) = λ j low. cells_some (length file.enums) _ (constant_fits_lem st j low) in
      each_both (CellIs file 0 table final) (SeenAt (variants file) (take i (constant_names file))) (HasCell tab [] (constant_names_to file i) (lengths_in file []))
      (λ x e h. cell_there file 0 table final tab [] (constant_names_to file i) (lengths_in file []) there_nodes x e (constant_cell_lem names file empty within few (constants_apart file no6) filled_all (distinct_constants file no6) i x.1)
      (constant_length_lem names file empty within few (constants_apart file no6) filled_all (distinct_constants file no6) i x.1 h))
      (used (value_place c.0 c.1) c.1.value) held seen
