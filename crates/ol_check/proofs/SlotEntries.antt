-- The slot that an entry of a node's table gives is the name's slot, where no name is of two sorts.
use Prim.Native.Nat.{ℕ, ◌+◌, ◌-◌, ◌≤◌, ◌<◌}
use mathlib.Core.Bool.{Bool, true, false, cond}
use mathlib.Core.List.{List, map}
use mathlib.Core.Option.{Option, none, some}
use mathlib.Core.Path.{◌≡◌, refl, sym, ap, subst, ◌∙◌}
use native.Mathlib.Omega.{arith}
use native.Mathlib.Nat.{zero-add}
use lib.ListN.{length, get_or}
use borrow.Author.Tests.{ne_eqb, le-leb, lt-leb}
use Rattle.ol_spec.specs.Lists.{maybe, or_else, member, position}
use Rattle.ol_theory.specs.Member.{Distinct}
use Rattle.ol_spec.specs.Shapes.{arrays_in, constant_arrays, length_for}
use Rattle.ol_spec.specs.Syntax.{Variable, Constant, Node, File, variables, variable_names, name_of, constant_name, type_cells, cell_names}
use Rattle.ol_spec.specs.Admission.{variants, constant_names, constant_cell_names}
use Rattle.ol_tables.specs.Tables.{Each, node_of, slot_of, slot_by, cell_of, cell_by, constant_cell_by, first_cell, first_constant_cell, array_length, lengths_in}
use Rattle.ol_check.specs.Judging.{slot_of_entry, entry_cell, entry_length}
use Rattle.ol_check.specs.RowsDone.{no_variable, no_constant}
use Rattle.ol_check.proofs.NamedCells.{cell_position, cell_absent, own_length, absent_length}
use Rattle.ol_check.specs.Entries.{variable_entries, constant_entries, variant_entry}
use Rattle.ol_check.specs.NodesJudged.{node_table, Covered}
use Rattle.ol_check.specs.FileJudged.{NamesWithin, variant_table, global_table}
use Rattle.ol_check.proofs.EntryLaws.{Enterable, eq_cases, declare_high, declare_length}
use Rattle.ol_check.proofs.EntryPlaces.{declare_free, variable_entry, constant_entry, variant_entry_lem, position_at, position_none}
use Rattle.ol_check.proofs.NodeLaws.{entries_ok}
use Rattle.ol_check.proofs.FileLaws.{variants_ok, constants_ok}

-- the entry of a name by its position among the variables and among the constants, and whether it is a variant
abbrev pub entry_by : Option ℕ → Option ℕ → Bool → ℕ
entry_by (some i) q b = i + 1
entry_by none (some i) b = i + 113
entry_by none none b = cond b 255 0

pub slot_small : (i : ℕ) → i < 254 → slot_of_entry (i + 1) ≡ i
slot_small i lt = rw (ne_eqb (i + 1) 0 (λ q. omega arith), ne_eqb (i + 1) 255 (λ q. omega arith)) (omega arith)

module _ (names : List ℕ) (f : File) (empty : (x : ℕ) → get_or names x 0 ≡ 0) (within : NamesWithin (length names) f) where
  pub variant_told : (x : ℕ) → get_or (variant_table names f) x 0 ≡ cond (member x (variants f)) 255 0
  variant_told x = declare_free x names (map variant_entry (variants f)) (variants_ok (length names) (variants f) within.variants) (empty x) ∙ variant_entry_lem x (variants f)

  same_room : length names ≡ length (variant_table names f)
  same_room = sym (declare_length names (map variant_entry (variants f)))

  pub constant_told : (x : ℕ) → member x (variants f) ≡ false → get_or (global_table names f) x 0 ≡ maybe 0 (λ i. 0 + i + 113) (position x (constant_names f))
  constant_told x free =
      declare_free x (variant_table names f) (constant_entries 0 f.constants) (subst (λ m. Each (Enterable m) (constant_entries 0 f.constants)) same_room (constants_ok (length names) 0 f.constants within.constants))
      (variant_told x ∙ ap (λ b. cond b 255 0) free) ∙ constant_entry x 0 f.constants

module _ (names : List ℕ) (f : File) (n : Node) (empty : (x : ℕ) → get_or names x 0 ≡ 0) (within : NamesWithin (length names) f) (covered : Covered (length names) n) where
  variable_told : (x : ℕ) → get_or (global_table names f) x 0 ≡ 0 → get_or (node_table (global_table names f) n) x 0 ≡ maybe 0 (λ i. 0 + i + 1) (position x (variable_names n))
  variable_told x z =
      let room : length names ≡ length (global_table names f) = same_room names f empty within ∙ sym (declare_length (variant_table names f) (constant_entries 0 f.constants)) in
      declare_free x (global_table names f) (variable_entries 0 (variables n)) (subst (λ m. Each (Enterable m) (variable_entries 0 (variables n))) room (entries_ok (length names) 0 (variables n) covered)) z ∙ variable_entry x 0 (variables n)

  module _ (few : length (variable_names n) ≤ 112) (few_constants : length (constant_names f) ≤ 64)
      (apart : (x : ℕ) → member x (variable_names n) ≡ true → (member x (constant_names f) ≡ false) × (member x (variants f) ≡ false))
      (apartConstants : (x : ℕ) → member x (constant_names f) ≡ true → member x (variants f) ≡ false) where
    -- a name that is no variable has the entry of the table outside the node
    outside : (x : ℕ) → position x (variable_names n) ≡ none → get_or (node_table (global_table names f) n) x 0 ≡ get_or (global_table names f) x 0
    outside x free =
        eq_cases (get_or (global_table names f) x 0) 0
        (λ z. variable_told x z ∙ ap (maybe 0 (λ i. 0 + i + 1)) free ∙ sym z)
        (λ nz. declare_high x (global_table names f) (variable_entries 0 (variables n)) (omega arith))

    -- a name's entry, by its position among the variables and among the constants
    pub entry_told : (x : ℕ) → get_or (node_table (global_table names f) n) x 0 ≡ entry_by (position x (variable_names n)) (position x (constant_names f)) (member x (variants f))
    entry_told x = go (position x (variable_names n)) refl (position x (constant_names f)) refl (member x (variants f)) refl
      where
        go : (p : Option ℕ) → position x (variable_names n) ≡ p → (q : Option ℕ) → position x (constant_names f) ≡ q → (b : Bool) → member x (variants f) ≡ b → get_or (node_table (global_table names f) n) x 0 ≡ entry_by p q b
        go (some i) ep q eq b eb =
            let w = position_at x i (variable_names n) ep in
            let a = apart x w.1 in
            let z : get_or (global_table names f) x 0 ≡ 0 = constant_told names f empty within x a.1 ∙ ap (maybe 0 (λ j. 0 + j + 113)) (position_none x (constant_names f) a.0) in
            variable_told x z ∙ ap (maybe 0 (λ j. 0 + j + 1)) ep ∙ ap (λ m. m + 1) (zero-add i)
        go none ep none eq true eb =
            let v : get_or (variant_table names f) x 0 ≡ 255 = variant_told names f empty within x ∙ ap (λ c. cond c 255 0) eb in
            outside x ep ∙ declare_high x (variant_table names f) (constant_entries 0 f.constants) (omega arith) ∙ v
        go none ep none eq false eb = outside x ep ∙ constant_told names f empty within x eb ∙ ap (maybe 0 (λ i. 0 + i + 113)) eq
        go none ep (some i) eq b eb =
            let w = position_at x i (constant_names f) eq in
            outside x ep ∙ constant_told names f empty within x (apartConstants x w.1) ∙ ap (maybe 0 (λ j. 0 + j + 113)) eq ∙ ap (λ m. m + 113) (zero-add i)

    -- the slot that the table gives is the name's slot
    pub entry_slot : (x : ℕ) → slot_of_entry (get_or (node_table (global_table names f) n) x 0) ≡ slot_of (variable_names n) (constant_names f) x
    entry_slot x = ap slot_of_entry (entry_told x) ∙ go (position x (variable_names n)) refl (position x (constant_names f)) refl (member x (variants f))
      where
        go : (p : Option ℕ) → position x (variable_names n) ≡ p → (q : Option ℕ) → position x (constant_names f) ≡ q → (b : Bool) → slot_of_entry (entry_by p q b) ≡ slot_by p q
        go (some i) ep q eq b = let w = position_at x i (variable_names n) ep in slot_small i (omega (arith, w.0))
        go none ep none eq true = refl
        go none ep none eq false = refl
        go none ep (some i) eq b =
            let w = position_at x i (constant_names f) eq in
            let e : i + 113 ≡ 112 + i + 1 = omega arith in
            ap slot_of_entry e ∙ slot_small (112 + i) (omega (arith, w.0))

-- ---- cells and lengths

or_none : (o : Option ℕ) → or_else o none ≡ o
or_none none = refl
or_none (some n) = refl

-- what an entry tells, where its index is small
variable_cell : (f : File) (k i : ℕ) → i < 112 → entry_cell f k (i + 1) ≡ first_cell (variables (node_of f k)) i
variable_cell f k i lt = let back : i + 1 - 1 ≡ i = omega arith in rw (ne_eqb (i + 1) 0 (λ q. omega arith), ne_eqb (i + 1) 255 (λ q. omega arith), le-leb (i + 1) 112 (omega arith), back) refl

variable_length : (f : File) (k i : ℕ) → i < 112 → entry_length f k (i + 1) ≡ array_length (get_or (variables (node_of f k)) i no_variable).ty
variable_length f k i lt = let back : i + 1 - 1 ≡ i = omega arith in rw (ne_eqb (i + 1) 0 (λ q. omega arith), ne_eqb (i + 1) 255 (λ q. omega arith), le-leb (i + 1) 112 (omega arith), back) refl

pub constant_cell : (f : File) (k i : ℕ) → i < 64 → entry_cell f k (i + 113) ≡ 3584 + first_constant_cell f.constants i
constant_cell f k i lt = let back : i + 113 - 113 ≡ i = omega arith in rw (ne_eqb (i + 113) 0 (λ q. omega arith), ne_eqb (i + 113) 255 (λ q. omega arith), lt-leb (i + 113) 112 (omega arith), back) refl

pub constant_length : (f : File) (k i : ℕ) → i < 64 → entry_length f k (i + 113) ≡ array_length (get_or f.constants i no_constant).ty
constant_length f k i lt = let back : i + 113 - 113 ≡ i = omega arith in rw (ne_eqb (i + 113) 0 (λ q. omega arith), ne_eqb (i + 113) 255 (λ q. omega arith), lt-leb (i + 113) 112 (omega arith), back) refl

module _ (f : File) (k : ℕ) (few : length (variable_names (node_of f k)) ≤ 112) (few_constants : length (constant_names f) ≤ 64)
    (apart : (x : ℕ) → member x (variable_names (node_of f k)) ≡ true → member x (constant_names f) ≡ false)
    (filled : (i : ℕ) → i < length (variables (node_of f k)) → 1 ≤ length (type_cells (get_or (variables (node_of f k)) i no_variable).ty)) (filled_constants : (i : ℕ) → i < length f.constants → 1 ≤ length (type_cells (get_or f.constants i no_constant).ty))
    (distinct : Distinct (variable_names (node_of f k))) (distinct_constants : Distinct (constant_names f)) where
  abbrev vs : List Variable
  vs = variables (node_of f k)

  -- the cell that an entry gives is the name's cell
  pub entry_cell_told : (x : ℕ) → entry_cell f k (entry_by (position x (variable_names (node_of f k))) (position x (constant_names f)) (member x (variants f))) ≡ cell_of (cell_names vs) (constant_cell_names f) x
  entry_cell_told x = go (position x (variable_names (node_of f k))) refl (position x (constant_names f)) refl (member x (variants f))
    where
      go : (p : Option ℕ) → position x (variable_names (node_of f k)) ≡ p → (q : Option ℕ) → position x (constant_names f) ≡ q → (b : Bool) → entry_cell f k (entry_by p q b) ≡ cell_of (cell_names vs) (constant_cell_names f) x
      go (some i) ep q eq b =
          let w = position_at x i (variable_names (node_of f k)) ep in
          variable_cell f k i (omega (arith, w.0)) ∙ sym (ap (λ o. cell_by o (position x (constant_cell_names f))) (cell_position name_of (λ (v : Variable). v.ty) no_variable x vs filled i ep))
      go none ep (some i) eq b =
          let w = position_at x i (constant_names f) eq in
          constant_cell f k i (omega (arith, w.0))
          ∙ sym (ap (λ o. cell_by o (position x (constant_cell_names f))) (cell_absent name_of (λ (v : Variable). v.ty) no_variable x vs ep) ∙ ap constant_cell_by (cell_position constant_name (λ (c : Constant). c.ty) no_constant x f.constants filled_constants i eq))
      go none ep none eq true =
          sym (ap (λ o. cell_by o (position x (constant_cell_names f))) (cell_absent name_of (λ (v : Variable). v.ty) no_variable x vs ep) ∙ ap constant_cell_by (cell_absent constant_name (λ (c : Constant). c.ty) no_constant x f.constants eq))
      go none ep none eq false =
          sym (ap (λ o. cell_by o (position x (constant_cell_names f))) (cell_absent name_of (λ (v : Variable). v.ty) no_variable x vs ep) ∙ ap constant_cell_by (cell_absent constant_name (λ (c : Constant). c.ty) no_constant x f.constants eq))

  -- and the length its array's
  pub entry_length_told : (x : ℕ) → entry_length f k (entry_by (position x (variable_names (node_of f k))) (position x (constant_names f)) (member x (variants f))) ≡ maybe 0 (λ n. n) (lengths_in f vs x)
  entry_length_told x = go (position x (variable_names (node_of f k))) refl (position x (constant_names f)) refl (member x (variants f))
    where
      globals : Option ℕ
      globals = length_for x (constant_arrays f.constants)

      go : (p : Option ℕ) → position x (variable_names (node_of f k)) ≡ p → (q : Option ℕ) → position x (constant_names f) ≡ q → (b : Bool) → entry_length f k (entry_by p q b) ≡ maybe 0 (λ n. n) (or_else (length_for x (arrays_in vs)) (length_for x (constant_arrays f.constants)))
      go (some i) ep q eq b =
          let w = position_at x i (variable_names (node_of f k)) ep in
          let own = own_length name_of (λ (v : Variable). v.ty) no_variable x vs distinct i ep in
          let none-there = absent_length constant_name (λ (c : Constant). c.ty) no_constant x f.constants (position_none x (constant_names f) (apart x w.1)) in
          variable_length f k i (omega (arith, w.0)) ∙ sym (ap (maybe 0 (λ n. n)) (ap (or_else (length_for x (arrays_in vs))) none-there ∙ or_none (length_for x (arrays_in vs)) ∙ own))
      go none ep (some i) eq b =
          let w = position_at x i (constant_names f) eq in
          constant_length f k i (omega (arith, w.0))
          ∙ sym (ap (λ o. maybe 0 (λ n. n) (or_else o (length_for x (constant_arrays f.constants)))) (absent_length name_of (λ (v : Variable). v.ty) no_variable x vs ep) ∙ ap (maybe 0 (λ n. n)) (own_length constant_name (λ (c : Constant). c.ty) no_constant x f.constants distinct_constants i eq))
      go none ep none eq true =
          sym (ap (λ o. maybe 0 (λ n. n) (or_else o (length_for x (constant_arrays f.constants)))) (absent_length name_of (λ (v : Variable). v.ty) no_variable x vs ep) ∙ ap (maybe 0 (λ n. n)) (absent_length constant_name (λ (c : Constant). c.ty) no_constant x f.constants eq))
      go none ep none eq false =
          sym (ap (λ o. maybe 0 (λ n. n) (or_else o (length_for x (constant_arrays f.constants)))) (absent_length name_of (λ (v : Variable). v.ty) no_variable x vs ep) ∙ ap (maybe 0 (λ n. n)) (absent_length constant_name (λ (c : Constant). c.ty) no_constant x f.constants eq))
