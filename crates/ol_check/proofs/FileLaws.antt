-- A whole file: variants, constants, nodes.
use Prim.Native.Nat.{ℕ, ◌+◌, ◌≤◌, ◌<◌}
use mathlib.Core.Bool.{Bool, true, false, cond}
use mathlib.Core.List.{List, [], ◌∷◌, ◌++◌, map}
use mathlib.Core.Option.{none}
use mathlib.Core.Logic.{by_cases}
use mathlib.Core.Path.{◌≡◌, refl, sym, ap, subst, ◌∙◌}
use native.Mathlib.Omega.{arith}
use native.Mathlib.Decide.{dec_le}
use lib.ListN.{length, get_or, set}
use lib.Seq.{get_or-set_same, get_or-set_other, set_out}
use lib.Dec.{eqb}
use Rattle.ol_spec.specs.Lists.{concat, sum}
use Rattle.ol_spec.specs.Syntax.{Constant, File, constant_name}
use Rattle.ol_spec.specs.Places.{constant_size, constants_start, placed, placed_constants, placed_nodes}
use Rattle.ol_spec.specs.Encode.{constant_bytes}
use Rattle.ol_spec.specs.Limits.{base}
use Rattle.ol_spec.specs.Within.{constant_fits}
use Rattle.ol_spec.specs.Admission.{first, variants, constant_names, constant_uses, node_uses, node_calls, node_shape, in_constant, uses_where, shape_item, numbered, fault7, fault8, fault9, fault10}
use Rattle.ol_spec.proofs.Walks.{first_append}
use Rattle.ol_tables.specs.At.{file_at}
use Rattle.ol_tables.specs.Tables.{Each}
use Rattle.ol_tables.specs.Stands.{Listed, FileStands}
use Rattle.ol_check.specs.Founds.{place_of}
use Rattle.ol_tables.specs.Heads.{Byte}
use Rattle.ol_check.specs.Spans.{variants_from}
use Rattle.ol_check.specs.Entries.{declared, declare_all, variant_entry, constant_entries, Global}
use Rattle.ol_check.specs.Judging.{findings, Findings, found_in, Knows, global_names}
use Rattle.ol_check.specs.NodesJudged.{RowsReady, AllCovered, NamesReady, node_again, NodesJudged, slot_nodes}
use Rattle.ol_check.specs.ConstantsJudged.{ConstantsJudged, ConstantsReady, slot_constants}
use Rattle.ol_check.specs.Sizes.{NodesSized}
use Rattle.ol_check.specs.FileJudged.{FileReady, NamesWithin, variant_table, global_table, FileJudged}
use Rattle.ol_check.specs.declared.Faults.{Faults}
use Rattle.ol_check.specs.declared.rows.Sections.{Sections}
use Rattle.ol_check.proofs.EntryLoops.{enums_told}
use Rattle.ol_check.proofs.EntryLaws.{Enterable, knows_all, declare_length}
use Rattle.ol_check.proofs.NodeLaws.{outputs_told, ready_at}
use Rattle.ol_check.proofs.SizeTable.{last_any}
use Rattle.ol_check.proofs.Definitions.{nodes_defined}
use Rattle.ol_check.specs.Arrays.{or_all, constant_forms, node_forms, declares_arrays}
use Rattle.ol_check.proofs.EquationLaws.{or_append}
use Rattle.ol_check.proofs.KnownLaws.{EntryWithin, within_all, within_constants, within_variants}

pub few_enums_lem : {s : List ℕ} {f : File} → FileStands s f → {n : ℕ} → Byte s 1 n → n ≤ 16
few_enums_lem st b = omega (arith, b.is ∙ st.enum_count, st.few_enums)

-- ---- the table outside the nodes

-- entries above a variable's leave the table so
global_step : (names : List ℕ) (x e : ℕ) → Global names → 113 ≤ e → Global (declared names x e)
global_step names x e g high y low = go (eqb (get_or names x 0) 0) low
  where
    go : (b : Bool) → get_or (cond b (set names x e) names) y 0 ≤ 112 → get_or (cond b (set names x e) names) y 0 ≡ 0
    go false low = g y low
    go true low =
        by_cases (dec_le (length names) x) (λ out. rw (set_out names x e out) (g y (subst (λ l. get_or l y 0 ≤ 112) (set_out names x e out) low)))
        (λ lt. by_cases (dec_le y x) (λ a. by_cases (dec_le x y)
        (λ b. let same : y ≡ x = omega arith in absurd (omega (arith, low, ap (λ n. get_or (set names x e) n 0) same, get_or-set_same names x e 0 (omega arith))))
        (λ nb. let o = get_or-set_other names x y e 0 (λ q. omega arith) in o ∙ g y (omega arith)))
        (λ na. let o = get_or-set_other names x y e 0 (λ q. omega arith) in o ∙ g y (omega arith)))

global_all : (names : List ℕ) (ds : List (ℕ × ℕ)) → Global names → Each (λ d. 113 ≤ d.1) ds → Global (declare_all names ds)
unfolding declare_all
global_all names [] g h = g
global_all names (d ∷ ds) g h = global_all (declared names d.0 d.1) ds (global_step names d.0 d.1 g h.0) h.1

variants_high : (xs : List ℕ) → Each (λ d. 113 ≤ d.1) (map variant_entry xs)
variants_high [] = tt
variants_high (x ∷ xs) = (omega arith, variants_high xs)

constants_high : (i : ℕ) (cs : List Constant) → Each (λ d. 113 ≤ d.1) (constant_entries i cs)
constants_high i [] = tt
constants_high i (c ∷ cs) = (omega arith, constants_high (i + 1) cs)

pub variants_ok : (room : ℕ) (xs : List ℕ) → Each (λ x. x < room) xs → Each (Enterable room) (map variant_entry xs)
variants_ok room [] h = tt
variants_ok room (x ∷ xs) h = ((h.0, omega arith), variants_ok room xs h.1)

pub constants_ok : (room i : ℕ) (cs : List Constant) → Each (λ c. c.name < room) cs → Each (Enterable room) (constant_entries i cs)
constants_ok room i [] h = tt
constants_ok room i (c ∷ cs) h = ((h.0, omega arith), constants_ok room (i + 1) cs h.1)

variant_names : (xs : List ℕ) → map (λ d. d.0) (map variant_entry xs) ++ [] ≡ xs
variant_names [] = refl
variant_names (x ∷ xs) = ap (λ l. x ∷ l) (variant_names xs)

constant_names_lem : (i : ℕ) (cs : List Constant) → map (λ d. d.0) (constant_entries i cs) ≡ map constant_name cs
constant_names_lem i [] = refl
constant_names_lem i (c ∷ cs) = ap (λ l. c.name ∷ l) (constant_names_lem (i + 1) cs)

module _ (names : List ℕ) (f : File) (empty : (x : ℕ) → get_or names x 0 ≡ 0) (within : NamesWithin (length names) f) where
  pub variants_known : Knows (variant_table names f) (variants f)
  variants_known =
      subst (Knows (variant_table names f)) (variant_names (variants f))
      (knows_all names [] (map variant_entry (variants f)) (λ x. rw (empty x) refl) (variants_ok (length names) (variants f) within.variants))

  pub globals_known : Knows (global_table names f) (constant_names f ++ variants f)
  globals_known =
      subst (λ l. Knows (global_table names f) (l ++ variants f)) (constant_names_lem 0 f.constants)
      (knows_all (variant_table names f) (variants f) (constant_entries 0 f.constants) variants_known
      (subst (λ n. Each (Enterable n) (constant_entries 0 f.constants)) (sym (declare_length names (map variant_entry (variants f)))) (constants_ok (length names) 0 f.constants within.constants)))

  pub globals_global : Global (global_table names f)
  globals_global = global_all (variant_table names f) (constant_entries 0 f.constants) (global_all names (map variant_entry (variants f)) (λ y low. empty y) (variants_high (variants f))) (constants_high 0 f.constants)

-- ---- the file

module _ {s rows names : List ℕ} {at : Sections} (rd : FileReady s rows names at) (within : NamesWithin (length names) (file_at s)) (st : FileStands s (file_at s)) where
  pub rows_ready : {nodes : ℕ} → Byte s at.nodes nodes → RowsReady s rows nodes
  rows_ready b =
      let place : at.nodes ≡ constants_start (file_at s) + sum (map constant_size (file_at s).constants) = omega (arith, rd.sections.nodes) in
      let many = b.is ∙ ap (λ p. get_or s p 0) place ∙ st.node_count in
      record { reads = rd.reads; row = rd.row; many = many; few = omega (arith, st.few_nodes) }

  pub constant_count_lem : {n : ℕ} → Byte s at.constants n → n ≡ length (file_at s).constants
  constant_count_lem b = b.is ∙ ap (λ p. get_or s p 0) (omega (arith, rd.sections.constants)) ∙ st.constant_count

  pub enum_count_lem : {n : ℕ} → Byte s 1 n → length (file_at s).enums ≡ n
  enum_count_lem b = sym (b.is ∙ st.enum_count)

  module _ {nodes ec cc : ℕ} {names₁ : List ℕ} (nb : Byte s at.nodes nodes) (eb : Byte s 1 ec) (cb : Byte s at.constants cc)
      (entered : names₁ ≡ declare_all names (map variant_entry (variants_from s ec 2))) where
    pub table_is : names₁ ≡ variant_table names (file_at s)
    table_is = enums_told s names entered (file_at s).enums (enum_count_lem eb) st.enums

    pub constants_ready : ConstantsReady s names₁ rows nodes (file_at s) (variants (file_at s)) (length (file_at s).enums) (at.constants + 1) (file_at s).constants
    constants_ready =
        let f = file_at s in
        let rr = rows_ready nb in
        let same : length names ≡ length names₁ = sym (ap length table_is ∙ declare_length names (map variant_entry (variants f))) in
        record {
          knows = subst (λ l. Knows l (variants f)) (sym table_is) (variants_known names f rd.empty within);
          outputs = outputs_told (ready_at rr 0 (omega (arith, rr.many, st.some_node)));
          covered = subst (λ n. Each (λ c. c.name < n) f.constants) same within.constants;
          stand = subst (λ p. Listed constant_bytes (constant_fits base (length f.enums)) s p f.constants) (sym rd.sections.constants) st.constants;
        }

    module _ {names₂ slots slots₁ : List ℕ} {g₀ g : Findings} (en : g₀.next ≡ at.constants + 1) (eu : g₀.unseen ≡ none) (eg : g₀.again ≡ none) (ec₀ : g₀.called ≡ none) (eh : g₀.shaped ≡ none) (ea₀ : g₀.arrays ≡ declares_arrays (file_at s))
        (cj : ConstantsJudged s names₁ (file_at s) (variants (file_at s)) g₀.next (file_at s).constants slots slots₁ names₂ g₀ g) where
      pub global_is : names₂ ≡ global_table names (file_at s)
      global_is = cj.entered ∙ ap (λ l. declare_all l (constant_entries 0 (file_at s).constants)) table_is

      global_within : (y : ℕ) → EntryWithin 0 (length (file_at s).constants) (get_or names₂ y 0)
      global_within y =
          rw global_is
          (within_all (constant_entries 0 (file_at s).constants) (variant_table names (file_at s)) (within_constants 0 (file_at s).constants 0 (omega arith))
          (within_all (map variant_entry (variants (file_at s))) names (within_variants 0 (length (file_at s).constants) (variants (file_at s))) (λ z. let e = rd.empty z in record { variable = λ a b. absurd (omega arith); constant = λ a b. absurd (omega arith) })) y)

      pub names_ready : NamesReady names₂ (file_at s)
      names_ready =
          let f = file_at s in
          let same : length names ≡ length names₂ = sym (ap length global_is ∙ declare_length (variant_table names f) (constant_entries 0 f.constants) ∙ declare_length names (map variant_entry (variants f))) in
          record {
            global = subst Global (sym global_is) (globals_global names f rd.empty within);
            knows = subst (λ l. Knows l (global_names f)) (sym global_is) (globals_known names f rd.empty within);
            constants = λ y a b. (global_within y).constant a b;
            covered = subst (λ n. AllCovered n f) same within.nodes;
          }

      module _ {names₃ slots₂ rows' : List ℕ} {r : Faults} (same : names₃ ≡ names₂) (nj : NodesJudged s names₂ (file_at s) slots₁ slots₂ g (findings r)) (ns : NodesSized (file_at s) rows rows' g.size r.size) where
        pub file_judged : FileJudged s (file_at s) names names₃ slots slots₂ rows rows' r
        unfolding fault7 fault8 fault9 fault10
        file_judged =
            let f = file_at s in
            let table-again : place_of r.again ≡ first (concat (map (node_again names₂) (placed_nodes f))) = nj.again ∙ ap (λ o. found_in o (concat (map (node_again names₂) (placed_nodes f)))) (cj.again ∙ eg) in
            let start : g₀.next ≡ constants_start f = en ∙ rd.sections.constants in
            let cs = f.constants in
            record {
              unseen = nj.unseen ∙ ap (λ o. found_in o (concat (map (node_uses (constant_names f ++ variants f)) (placed_nodes f)))) (cj.unseen ∙ ap (λ o. found_in o (constant_uses (variants f) (placed constant_size g₀.next cs))) eu ∙ ap (λ p. first (constant_uses (variants f) (placed constant_size p cs))) start)
                  ∙ sym (first_append (constant_uses (variants f) (placed_constants f)) (concat (map (node_uses (constant_names f ++ variants f)) (placed_nodes f))));
              taken = table-again ∙ ap (λ l. first (concat (map (node_again l) (placed_nodes f)))) global_is;
              again = λ no7. table-again ∙ ap first (nodes_defined st names₂ names_ready.global names_ready.knows names_ready.covered no7);
              called = nj.called ∙ ap (λ o. found_in o (concat (map (node_calls f) (numbered 0 (placed_nodes f))))) (cj.called ∙ ap (λ o. found_in o (concat (map (in_constant (uses_where (λ x n. true) (λ x. true))) (placed constant_size g₀.next cs)))) ec₀ ∙ ap (λ p. first (concat (map (in_constant (uses_where (λ x n. true) (λ x. true))) (placed constant_size p cs)))) start)
                  ∙ sym (first_append (concat (map (in_constant (uses_where (λ x n. true) (λ x. true))) (placed_constants f))) (concat (map (node_calls f) (numbered 0 (placed_nodes f)))));
              shaped = nj.shaped ∙ ap (λ o. found_in o (concat (map (node_shape f) (placed_nodes f)))) (cj.shaped ∙ ap (λ o. found_in o (concat (map (in_constant (shape_item f)) (placed constant_size g₀.next cs)))) eh ∙ ap (λ p. first (concat (map (in_constant (shape_item f)) (placed constant_size p cs)))) start)
                  ∙ sym (first_append (concat (map (in_constant (shape_item f)) (placed_constants f))) (concat (map (node_shape f) (placed_nodes f))));
              arrays = nj.arrays ∙ ap (λ b. or_all b (concat (map node_forms (placed_nodes f)))) (cj.arrays ∙ ap (λ b. or_all b (concat (map constant_forms (placed constant_size g₀.next cs)))) ea₀ ∙ ap (λ p. or_all (declares_arrays f) (concat (map constant_forms (placed constant_size p cs)))) start)
                  ∙ or_append (declares_arrays f) (concat (map constant_forms (placed_constants f))) (concat (map node_forms (placed_nodes f)));
              entered = same ∙ global_is;
              slotted = nj.slotted ∙ ap (λ l. slot_nodes s l slots₁ 0 (placed_nodes f)) global_is
                  ∙ ap (λ l. slot_nodes s (global_table names f) l 0 (placed_nodes f)) (cj.slotted ∙ ap (λ p. slot_constants s names₁ slots 0 (placed constant_size p cs)) start ∙ ap (λ l. slot_constants s l slots 0 (placed_constants f)) table_is);
              stored = ns.stored;
              last = ns.last ∙ last_any g.size 0 rows (length f.nodes) 0 f.nodes st.some_node;
              sized = ns.done;
              main = ns.main st.some_node;
            }
