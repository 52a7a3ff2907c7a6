-- The slots of the names in constants' expressions: each constant sees the variants and the constants before it.
use Prim.Native.Nat.{ℕ, zero, suc, ◌+◌, ◌≤◌, ◌<◌}
use mathlib.Core.Bool.{Bool, true, false, not, ◌||◌, cond}
use mathlib.Core.Logic.{◌⊎◌, inl, inr, ⊎_elim}
use mathlib.Core.List.{List, [], ◌∷◌, map}
use mathlib.Core.Option.{Option, none, some}
use mathlib.Core.Path.{◌≡◌, refl, sym, ap, subst, ◌∙◌}
use native.Mathlib.Omega.{arith}
use lib.ListN.{length, get_or, take, length-map}
use lib.Seq.{get_or-take}
use native.Mathlib.Nat.{zero-add}
use lib.Dec.{eqb}
use Rattle.ol_spec.specs.Lists.{sum, concat, maybe, member, position, position_if}
use Rattle.ol_theory.specs.Member.{Distinct}
use Rattle.ol_spec.specs.Shapes.{constant_arrays, length_for}
use Rattle.ol_spec.specs.Syntax.{nil, cons, Constant, File, constant_name, constant_cells, type_cells}
use Rattle.ol_spec.specs.Places.{constant_size, placed}
use Rattle.ol_spec.specs.Encode.{constant_bytes}
use Rattle.ol_spec.specs.Limits.{base}
use Rattle.ol_spec.specs.Within.{constant_fits}
use Rattle.ol_spec.specs.Admission.{first, unseen, variants, constant_names, constant_uses, value_place, used_at, used}
use Rattle.ol_spec.proofs.RoundTrip.Items.{constant_size_lem}
use Rattle.ol_tables.specs.Tables.{Each, cell_of, constant_cell_by, constant_names_to, lengths_in}
use Rattle.ol_tables.specs.At.{file_at}
use Rattle.ol_tables.proofs.Forms.{each_map}
use Rattle.ol_tables.specs.Stands.{Listed, ConstantStands}
use Rattle.ol_tables.proofs.HeadLaws.{walk_one}
use Rattle.ol_tables.proofs.HeadsFile.{passing_start, passing_item, constant_stands}
use Rattle.ol_check.specs.Judging.{entry_cell, entry_length, heads, slot_heads}
use Rattle.ol_check.specs.RowsDone.{no_constant}
use Rattle.ol_check.specs.Entries.{declared, declare_all, constant_entries, variant_entry}
use Rattle.ol_check.specs.ConstantsJudged.{slot_constants}
use Rattle.ol_check.specs.FileJudged.{NamesWithin, variant_table}
use Rattle.ol_check.proofs.Truths.{no_truth, never, or_behind}
use Rattle.ol_check.proofs.Definitions.{clean_step, clean_both}
use Rattle.ol_check.proofs.NamedCells.{cell_position, cell_absent, own_length, absent_length}
use Rattle.ol_check.proofs.HeadLaws.{flat, CellIs, slots_below, slots_length, slots_held}
use Rattle.ol_check.proofs.EntryLaws.{Enterable, declare_high, declare_length}
use Rattle.ol_check.proofs.EntryPlaces.{declare_free, constant_entry, position_at, position_none}
use Rattle.ol_check.proofs.FileLaws.{constants_ok}
use Rattle.ol_check.proofs.SlotEntries.{entry_by, variant_told, constant_cell, constant_length}

-- constant i of a list, with its place
abbrev pub placed_constant : List (ℕ × Constant) → ℕ → ℕ × Constant
placed_constant cs i = get_or cs i (0, no_constant)

-- ---- what the walk over constants leaves

module _ (s : List ℕ) (enums : ℕ) where
  constants_cons : (at : ℕ) (c : Constant) (cs : List Constant) → Listed constant_bytes (constant_fits base enums) s at (c ∷ cs)
      → ConstantStands s enums at c × Listed constant_bytes (constant_fits base enums) s (at + constant_size c) cs
  constants_cons at c cs h =
      let it = passing_item constant_size_lem no_constant (passing_start constant_bytes (constant_fits base enums) constant_size h) (omega arith) in
      (constant_stands c it.fit it.here, it.on.left)

  pub constants_below : (cs : List Constant) (at i : ℕ) → Listed constant_bytes (constant_fits base enums) s at cs → (names slots : List ℕ) (j : ℕ) → j ≤ at
      → get_or (slot_constants s names slots i (placed constant_size at cs)) j 0 ≡ get_or slots j 0
  unfolding slot_constants
  constants_below [] at i h names slots j le = refl
  constants_below (c ∷ cs) at i h names slots j le =
      let w = constants_cons at c cs h in
      constants_below cs (at + constant_size c) (i + 1) w.1 (declared names c.name (i + 113)) (slot_heads s names 0 slots (heads (value_place at c) (cons c.value nil))) j (omega arith)
      ∙ slots_below s names 0 (flat w.0.value) slots j (omega arith)

  pub constants_length : (cs : List (ℕ × Constant)) (i : ℕ) (names slots : List ℕ) → length (slot_constants s names slots i cs) ≡ length slots
  unfolding slot_constants
  constants_length [] i names slots = refl
  constants_length (c ∷ cs) i names slots =
      constants_length cs (i + 1) (declared names c.1.name (i + 113)) (slot_heads s names 0 slots (heads (value_place c.0 c.1) (cons c.1.value nil)))
      ∙ slots_length s names 0 (heads (value_place c.0 c.1) (cons c.1.value nil)) slots

  -- every name in the expression of constant m has what its entry in the table before it tells
  pub constants_held : ((e : ℕ) → entry_cell (file_at s) 0 e < 65536) → (cs : List Constant) (at i : ℕ) → Listed constant_bytes (constant_fits base enums) s at cs → (names slots final : List ℕ) → length s ≤ length slots → length s ≤ length final
      → ((j : ℕ) → j < at + sum (map constant_size cs) → get_or final j 0 ≡ get_or (slot_constants s names slots i (placed constant_size at cs)) j 0) → (m : ℕ) → m < length cs
      → Each (CellIs (file_at s) 0 (declare_all names (constant_entries i (take m cs))) final) (used (value_place (placed_constant (placed constant_size at cs) m).0 (placed_constant (placed constant_size at cs) m).1) (placed_constant (placed constant_size at cs) m).1.value)
  unfolding slot_constants declare_all
  constants_held small [] at i h names slots final room far same m lt = absurd (omega arith)
  constants_held small (c ∷ cs) at i h names slots final room far same zero lt =
      let w = constants_cons at c cs h in
      let p = value_place at c in
      let next = slot_heads s names 0 slots (heads p (cons c.value nil)) in
      subst (Each (CellIs (file_at s) 0 names final)) (walk_one used_at p c.value)
      (slots_held s names 0 small (flat w.0.value) slots final room far (λ j a b. same j (omega arith) ∙ constants_below cs (at + constant_size c) (i + 1) w.1 (declared names c.name (i + 113)) next j (omega arith)))
  constants_held small (c ∷ cs) at i h names slots final room far same (suc m) lt =
      let w = constants_cons at c cs h in
      let next = slot_heads s names 0 slots (heads (value_place at c) (cons c.value nil)) in
      constants_held small cs (at + constant_size c) (i + 1) w.1 (declared names c.name (i + 113)) next final (omega (arith, slots_length s names 0 (heads (value_place at c) (cons c.value nil)) slots)) far (λ j less. same j (omega arith)) m (omega arith)

-- ---- where 7 does not hold, a name in a constant's expression is a variant or a constant before it

-- a name that is seen: one of `visible`, or of those before constant m
abbrev pub SeenAt : List ℕ → List ℕ → ℕ × ℕ → Type 0
SeenAt visible before p = (member p.1 visible ≡ true) ⊎ (member p.1 before ≡ true)

seen_names : (visible before : List ℕ) (ps : List (ℕ × ℕ)) → first (unseen visible ps) ≡ none → Each (SeenAt visible before) ps
seen_names visible before [] e = tt
seen_names visible before (p ∷ ps) e =
    let w = clean_step (not (member p.1 visible)) p.0 (first (unseen visible ps)) e in
    (go (member p.1 visible) w.0, seen_names visible before ps w.1)
  where
    go : (b : Bool) → not b ≡ false → (b ≡ true) ⊎ (member p.1 before ≡ true)
    go true h = inl refl
    go false h = let z : ◌≡◌ {A = ℕ} 0 1 = cc in absurd (omega arith)

seen_on : (c : ℕ) (visible before : List ℕ) (p : ℕ × ℕ) → SeenAt (c ∷ visible) before p → SeenAt visible (c ∷ before) p
seen_on c visible before p h = ⊎_elim (λ a. go (eqb p.1 c) (member p.1 visible) a) (λ b. inr (or_behind (eqb p.1 c) (member p.1 before) b)) h
  where
    go : (a b : Bool) → a || b ≡ true → (b ≡ true) ⊎ (a || member p.1 before ≡ true)
    go true b h = inr refl
    go false b h = inl h

pub constants_seen : (cs : List Constant) (at : ℕ) (visible : List ℕ) → first (constant_uses visible (placed constant_size at cs)) ≡ none → (m : ℕ) → m < length cs
    → Each (SeenAt visible (take m (map constant_name cs))) (used (value_place (placed_constant (placed constant_size at cs) m).0 (placed_constant (placed constant_size at cs) m).1) (placed_constant (placed constant_size at cs) m).1.value)
constants_seen [] at visible e m lt = absurd (omega arith)
constants_seen (c ∷ cs) at visible e zero lt = seen_names visible [] (used (value_place at c) c.value) (clean_both (unseen visible (used (value_place at c) c.value)) _ e).0
constants_seen (c ∷ cs) at visible e (suc m) lt =
    let w = constants_seen cs (at + constant_size c) (c.name ∷ visible) (clean_both (unseen visible (used (value_place at c) c.value)) _ e).1 m (omega arith) in
    each_map (SeenAt (c.name ∷ visible) (take m (map constant_name cs))) (SeenAt visible (c.name ∷ take m (map constant_name cs))) (λ p h. seen_on c.name visible (take m (map constant_name cs)) p h) _ w

-- ---- the entries in the table before a constant

take_names : (i : ℕ) (cs : List Constant) → map constant_name (take i cs) ≡ take i (map constant_name cs)
take_names zero cs = refl
take_names (suc i) [] = refl
take_names (suc i) (c ∷ cs) = ap (λ l. c.name ∷ l) (take_names i cs)

each_take : (P : Constant → Type 0) (i : ℕ) (cs : List Constant) → Each P cs → Each P (take i cs)
each_take P zero cs h = tt
each_take P (suc i) [] h = tt
each_take P (suc i) (c ∷ cs) h = (h.0, each_take P i cs h.1)

member_take : (x i : ℕ) (xs : List ℕ) → member x (take i xs) ≡ true → member x xs ≡ true
member_take x zero xs m = let z : ◌≡◌ {A = ℕ} 0 1 = cc in absurd (omega arith)
member_take x (suc i) [] m = let z : ◌≡◌ {A = ℕ} 0 1 = cc in absurd (omega arith)
member_take x (suc i) (y ∷ xs) m = go (eqb x y) (member_take x i xs) m
  where
    go : (b : Bool) → (member x (take i xs) ≡ true → member x xs ≡ true) → b || member x (take i xs) ≡ true → b || member x xs ≡ true
    go true f h = refl
    go false f h = f h

-- a name that has no position is no member
position_absent : (x : ℕ) (xs : List ℕ) → position x xs ≡ none → member x xs ≡ false
position_absent x [] e = refl
position_absent x (y ∷ xs) e = go (position_absent x xs) (eqb x y) (position x xs) refl e
  where
    go : (position x xs ≡ none → member x xs ≡ false) → (b : Bool) (o : Option ℕ) → position x xs ≡ o → position_if b o ≡ none → b || member x xs ≡ false
    go on true o eo q = let z : ◌≡◌ {A = ℕ} 0 1 = cc in absurd (omega arith)
    go on false none eo q = on eo
    go on false (some m) eo q = let z : ◌≡◌ {A = ℕ} 0 1 = cc in absurd (omega arith)

take_most : {A : Type 0} (i : ℕ) (xs : List A) → length (take i xs) ≤ i
take_most zero xs = omega arith
take_most (suc i) [] = omega arith
take_most (suc i) (x ∷ xs) = omega (arith, take_most i xs)

take_few : {A : Type 0} (i : ℕ) (xs : List A) → length (take i xs) ≤ length xs
take_few zero xs = omega arith
take_few (suc i) [] = omega arith
take_few (suc i) (x ∷ xs) = omega (arith, take_few i xs)

take_take : {A : Type 0} (j i : ℕ) (xs : List A) → j ≤ i → take j (take i xs) ≡ take j xs
take_take zero i xs le = refl
take_take (suc j) zero xs le = absurd (omega arith)
take_take (suc j) (suc i) [] le = refl
take_take (suc j) (suc i) (x ∷ xs) le = ap (λ l. x ∷ l) (take_take j i xs (omega arith))

position_take : (x i j : ℕ) (xs : List ℕ) → position x (take i xs) ≡ some j → position x xs ≡ some j
position_take x zero j xs e = let z : ◌≡◌ {A = ℕ} 0 1 = cc in absurd (omega arith)
position_take x (suc i) j [] e = e
position_take x (suc i) j (y ∷ xs) e = go (λ m q. position_take x i m xs q) (eqb x y) (position x (take i xs)) refl e
  where
    go : ((m : ℕ) → position x (take i xs) ≡ some m → position x xs ≡ some m) → (b : Bool) (o : Option ℕ) → position x (take i xs) ≡ o → position_if b o ≡ some j → position_if b (position x xs) ≡ some j
    go on true o eo q = q
    go on false none eo q = let z : ◌≡◌ {A = ℕ} 0 1 = cc in absurd (omega arith)
    go on false (some m) eo q = ap (position_if false) (on m eo) ∙ q

module _ (names : List ℕ) (f : File) (empty : (x : ℕ) → get_or names x 0 ≡ 0) (within : NamesWithin (length names) f) (few : length (constant_names f) ≤ 64)
    (apart : (x : ℕ) → member x (constant_names f) ≡ true → member x (variants f) ≡ false) where
  -- a name's entry in the table before constant i, by its position among the constants before it
  pub constant_told_lem : (i x : ℕ) → get_or (declare_all (variant_table names f) (constant_entries 0 (take i f.constants))) x 0 ≡ entry_by none (position x (take i (constant_names f))) (member x (variants f))
  constant_told_lem i x = go (member x (variants f)) refl
    where
      variant : get_or (variant_table names f) x 0 ≡ cond (member x (variants f)) 255 0
      variant = variant_told names f empty within x

      plain : (o : Option ℕ) → maybe 0 (λ j. 0 + j + 113) o ≡ entry_by none o false
      plain none = refl
      plain (some j) = ap (λ m. m + 113) (zero-add j)

      go : (b : Bool) → member x (variants f) ≡ b → get_or (declare_all (variant_table names f) (constant_entries 0 (take i f.constants))) x 0 ≡ entry_by none (position x (take i (constant_names f))) b
      go true e =
          let v : get_or (variant_table names f) x 0 ≡ 255 = variant ∙ ap (λ c. cond c 255 0) e in
          let none-there : position x (take i (constant_names f)) ≡ none =
          position_none x (take i (constant_names f)) (never (member x (take i (constant_names f))) (λ t. no_truth e (apart x (member_take x i (constant_names f) t)))) in
          declare_high x (variant_table names f) (constant_entries 0 (take i f.constants)) (omega arith) ∙ v ∙ sym (ap (λ o. entry_by none o true) none-there)
      go false e =
          let room : length names ≡ length (variant_table names f) = sym (declare_length names (map variant_entry (variants f))) in
          declare_free x (variant_table names f) (constant_entries 0 (take i f.constants))
          (subst (λ m. Each (Enterable m) (constant_entries 0 (take i f.constants))) room (constants_ok (length names) 0 (take i f.constants) (each_take (λ c. c.name < length names) i f.constants within.constants)))
          (variant ∙ ap (λ c. cond c 255 0) e) ∙ constant_entry x 0 (take i f.constants) ∙ ap (λ l. maybe 0 (λ j. 0 + j + 113) (position x l)) (take_names i f.constants)
          ∙ plain (position x (take i (constant_names f)))

  module _ (filled : (i : ℕ) → i < length f.constants → 1 ≤ length (type_cells (get_or f.constants i no_constant).ty)) (distinct : Distinct (constant_names f)) where
    -- the cell that the table before constant i gives is the name's cell there
    pub constant_cell_lem : (i x : ℕ) → entry_cell f 0 (get_or (declare_all (variant_table names f) (constant_entries 0 (take i f.constants))) x 0) ≡ cell_of [] (constant_names_to f i) x
    constant_cell_lem i x = ap (entry_cell f 0) (constant_told_lem i x) ∙ go (position x (take i (constant_names f))) refl (member x (variants f))
      where
        absent : position x (take i (constant_names f)) ≡ none → position x (constant_names_to f i) ≡ none
        absent e = cell_absent constant_name (λ (c : Constant). c.ty) no_constant x (take i f.constants) (ap (position x) (take_names i f.constants) ∙ e)

        go : (o : Option ℕ) → position x (take i (constant_names f)) ≡ o → (b : Bool) → entry_cell f 0 (entry_by none o b) ≡ constant_cell_by (position x (constant_names_to f i))
        go none e true = sym (ap constant_cell_by (absent e))
        go none e false = sym (ap constant_cell_by (absent e))
        go (some j) e b =
            let w = position_at x j (take i (constant_names f)) e in
            let low : j < i = omega (arith, w.0, take_most i (constant_names f)) in
            let many : j < length f.constants = omega (arith, w.0, take_few i (constant_names f), length-map f.constants constant_name) in
            let at : position x (constant_names_to f i) ≡ some (length (concat (map constant_cells (take j (take i f.constants))))) =
            cell_position constant_name (λ (c : Constant). c.ty) no_constant x (take i f.constants)
            (λ m lt. let inside : m < i = omega (arith, lt, take_most i f.constants) in rw (get_or-take i f.constants m no_constant inside) (filled m (omega (arith, lt, take_few i f.constants)))) j (ap (position x) (take_names i f.constants) ∙ e) in
            constant_cell f 0 j (omega (arith, few, w.0, take_few i (constant_names f))) ∙ sym (ap constant_cell_by (at ∙ ap (λ l. some (length (concat (map constant_cells l)))) (take_take j i f.constants (omega arith))))

    -- and the length its array's, if the name is seen there
    pub constant_length_lem : (i x : ℕ) → (member x (variants f) ≡ true) ⊎ (member x (take i (constant_names f)) ≡ true)
        → entry_length f 0 (get_or (declare_all (variant_table names f) (constant_entries 0 (take i f.constants))) x 0) ≡ maybe 0 (λ n. n) (lengths_in f [] x)
    constant_length_lem i x seen = ap (entry_length f 0) (constant_told_lem i x) ∙ go (position x (take i (constant_names f))) refl (member x (variants f)) refl
      where
        absent : member x (variants f) ≡ true → position x (constant_names f) ≡ none
        absent e = position_none x (constant_names f) (never (member x (constant_names f)) (λ t. no_truth e (apart x t)))

        go : (o : Option ℕ) → position x (take i (constant_names f)) ≡ o → (b : Bool) → member x (variants f) ≡ b → entry_length f 0 (entry_by none o b) ≡ maybe 0 (λ n. n) (length_for x (constant_arrays f.constants))
        go none e true eb = sym (ap (maybe 0 (λ n. n)) (absent_length constant_name (λ (c : Constant). c.ty) no_constant x f.constants (absent eb)))
        go none e false eb = absurd (⊎_elim (λ t. no_truth t eb) (λ t. here_then t e) seen)
          where
            here_then : member x (take i (constant_names f)) ≡ true → position x (take i (constant_names f)) ≡ none → ⊥
            here_then t q = no_truth t (position_absent x (take i (constant_names f)) q)
        go (some j) e b eb =
            let w = position_at x j (take i (constant_names f)) e in
            constant_length f 0 j (omega (arith, few, w.0, take_few i (constant_names f)))
            ∙ sym (ap (maybe 0 (λ n. n)) (own_length constant_name (λ (c : Constant). c.ty) no_constant x f.constants distinct j (position_take x i j (constant_names f) e)))
