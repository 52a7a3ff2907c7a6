-- The slots, as ol_tables's tables say them, and as ol_shapes asks for them: those of the names that equations use and define, and of those in constants.
use Prim.Native.Nat.{ℕ, ◌+◌, ◌<◌}
use mathlib.Core.List.{List, [], ◌++◌}
use mathlib.Core.Option.{Option, none}
use mathlib.Core.Path.{◌≡◌, sym, ap, ◌∙◌}
use native.Mathlib.Omega.{arith}
use lib.ListN.{length, get_or, take, drop, length-take}
use lib.Seq.{get_or-drop, get_or-take, get_or-append-add}
use Rattle.ol_spec.specs.Syntax.{Expr}
use Rattle.ol_spec.specs.Syntax.{Equation, variables, variable_names, cell_names}
use Rattle.ol_spec.specs.Places.{placed_nodes, placed_equations, placed_names, rhs_place}
use Rattle.ol_spec.specs.Admission.{constant_names, constant_cell_names, fault6, fault7, used, value_place}
use Rattle.ol_tables.specs.At.{file_at}
use Rattle.ol_tables.specs.Stands.{FileStands}
use Rattle.ol_tables.specs.Tables.{Each, HasSlot, HasCell, Slotted, node_of, place_of, slots_from, constant_of, constant_names_to, lengths_in}
use Rattle.ol_tables.proofs.Forms.{each_map}
use Rattle.ol_check.proofs.FileSlots.{judged_slots, judged_defined, judged_constants}
use Rattle.ol_shapes.specs.Sits.{HasLength}
use Rattle.ol_shapes.specs.Laid.{Defined}
use Rattle.ol_sim.specs.Judging.{Slots}

-- ---- in the table

module _ (s tab : List ℕ) (st : FileStands s (file_at s)) (no6 : fault6 (file_at s) ≡ none) (m : ℕ) (h : Slots s (file_at s) (take m (drop 2816 tab))) where
  there : (j : ℕ) → j < length (take m (drop 2816 tab)) → get_or tab (slots_from + j) 0 ≡ get_or (take m (drop 2816 tab)) j 0
  there j lt = sym (get_or-take m (drop 2816 tab) j 0 (omega (arith, length-take m (drop 2816 tab))) ∙ get_or-drop slots_from tab j 0)

  pub slots_in : (k : ℕ) → k < length (file_at s).nodes
      → Each (λ q. Slotted tab (cell_names (variables (node_of (file_at s) k))) (constant_cell_names (file_at s)) (lengths_in (file_at s) (variables (node_of (file_at s) k))) (rhs_place q.0 q.1) q.1.rhs) (placed_equations (place_of (placed_nodes (file_at s)) k) (node_of (file_at s) k))
  slots_in k lt = judged_slots h.judged tab st no6 h.empty.zero h.empty.within h.long there k lt

  pub defined_in : (k : ℕ) → k < length (file_at s).nodes → Each (λ q. Each (HasSlot tab (variable_names (node_of (file_at s) k)) (constant_names (file_at s))) (placed_names (q.0 + 1) q.1.names)) (placed_equations (place_of (placed_nodes (file_at s)) k) (node_of (file_at s) k))
  defined_in k lt = judged_defined h.judged tab st no6 h.empty.zero h.empty.within h.long there k lt

  pub constants_in_lem : fault7 (file_at s) ≡ none → (i : ℕ) → i < length (file_at s).constants
      → Slotted tab [] (constant_names_to (file_at s) i) (lengths_in (file_at s) []) (value_place (constant_of (file_at s) i).0 (constant_of (file_at s) i).1) (constant_of (file_at s) i).1.value
  constants_in_lem no7 i lt = judged_constants h.judged tab st no6 h.empty.zero h.empty.within h.long there no7 i lt

-- ---- alone

-- the slots are those of a table that has only these behind bytes b
module _ (s slots b : List ℕ) (many : length b ≡ 2816) (st : FileStands s (file_at s)) (no6 : fault6 (file_at s) ≡ none) (h : Slots s (file_at s) slots) where
  abbrev lone : List ℕ
  lone = b ++ slots

  lone_byte : (j : ℕ) → get_or lone (slots_from + j) 0 ≡ get_or slots j 0
  lone_byte j = ap (λ i. get_or lone (i + j) 0) (sym many) ∙ get_or-append-add b slots j 0

  length_told : (vs cs : List ℕ) (long : ℕ → Option ℕ) (p : ℕ × ℕ) → HasCell lone vs cs long p → HasLength s slots long p
  length_told vs cs long p c =
      record {
        length = λ at e lt.
            let n : 2815 + p.0 ≡ slots_from + at = omega (arith, e) in
            sym (ap (λ i. get_or lone i 0) n ∙ lone_byte at) ∙ c.length;
      }

  lengths_told : (vs cs : List ℕ) (long : ℕ → Option ℕ) (at : ℕ) (e : Expr) → Slotted lone vs cs long at e → Each (HasLength s slots long) (used at e)
  lengths_told vs cs long at e c = each_map (HasCell lone vs cs long) (HasLength s slots long) (length_told vs cs long) (used at e) c

  pub lengths_in_lem : (k : ℕ) → k < length (file_at s).nodes → Each (λ q. Each (HasLength s slots (lengths_in (file_at s) (variables (node_of (file_at s) k)))) (used (rhs_place q.0 q.1) q.1.rhs)) (placed_equations (place_of (placed_nodes (file_at s)) k) (node_of (file_at s) k))
  lengths_in_lem k lt =
      let n = node_of (file_at s) k in
      let vs = cell_names (variables n) in
      let cs = constant_cell_names (file_at s) in
      let long = lengths_in (file_at s) (variables n) in
      each_map (λ (q : ℕ × Equation). Slotted lone vs cs long (rhs_place q.0 q.1) q.1.rhs) (λ (q : ℕ × Equation). Each (HasLength s slots long) (used (rhs_place q.0 q.1) q.1.rhs)) (λ q c. lengths_told vs cs long (rhs_place q.0 q.1) q.1.rhs c) (placed_equations (place_of (placed_nodes (file_at s)) k) n)
      (judged_slots h.judged lone st no6 h.empty.zero h.empty.within h.long (λ j lt. lone_byte j) k lt)

  pub defined_lem : (k : ℕ) → k < length (file_at s).nodes → Each (λ q. Each (Defined s slots (variable_names (node_of (file_at s) k)) (constant_names (file_at s))) (placed_names (q.0 + 1) q.1.names)) (placed_equations (place_of (placed_nodes (file_at s)) k) (node_of (file_at s) k))
  defined_lem k lt =
      let n = node_of (file_at s) k in
      let vs = variable_names n in
      let cs = constant_names (file_at s) in
      each_map (λ (q : ℕ × Equation). Each (HasSlot lone vs cs) (placed_names (q.0 + 1) q.1.names)) (λ (q : ℕ × Equation). Each (Defined s slots vs cs) (placed_names (q.0 + 1) q.1.names))
      (λ q c. each_map (HasSlot lone vs cs) (Defined s slots vs cs) (λ p e. record { slot = λ lt. sym (lone_byte p.0) ∙ e }) (placed_names (q.0 + 1) q.1.names) c) (placed_equations (place_of (placed_nodes (file_at s)) k) n)
      (judged_defined h.judged lone st no6 h.empty.zero h.empty.within h.long (λ j lt. lone_byte j) k lt)

  pub constant_lengths : fault7 (file_at s) ≡ none → (i : ℕ) → i < length (file_at s).constants → Each (HasLength s slots (lengths_in (file_at s) [])) (used (value_place (constant_of (file_at s) i).0 (constant_of (file_at s) i).1) (constant_of (file_at s) i).1.value)
  constant_lengths no7 i lt =
      let c = constant_of (file_at s) i in
      lengths_told [] (constant_names_to (file_at s) i) (lengths_in (file_at s) []) (value_place c.0 c.1) c.1.value (judged_constants h.judged lone st no6 h.empty.zero h.empty.within h.long (λ j lt. lone_byte j) no7 i lt)
