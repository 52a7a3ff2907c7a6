-- The rows, stored in the table of a file.
use Prim.Native.Nat.{ℕ, zero, suc, ◌+◌, ◌-◌, ◌*◌, ◌/◌, ◌%◌, ◌<◌, ◌≤◌}
use mathlib.Core.List.{List, [], ◌∷◌, map}
use mathlib.Core.Path.{◌≡◌, ap, sym, subst, ◌∙◌}
use native.Mathlib.Omega.{arith}
use lib.ListN.{length, get_or, drop, length-drop}
use lib.Seq.{drop-drop}
use Rattle.ol_spec.specs.Lists.{sum}
use Rattle.ol_spec.specs.Syntax.{Ty, bool, int, float32, float64, char, enum, VarTy, scalar, array, NodeKind, Function, Operator, Imported, Variable, File}
use Rattle.ol_spec.specs.Places.{ty_size, var_ty_size, variable_size}
use Rattle.ol_spec.specs.Encode.{kind_code}
use Rattle.ol_tables.specs.At.{file_at}
use Rattle.ol_tables.specs.Stands.{FileStands}
use Rattle.ol_tables.specs.Tables.{Rows, Tab, node_of, row_at, first_at}
use Rattle.ol_tables.proofs.HeadsFile.{node_at_lem}
use Rattle.ol_state.proofs.Told.{first_short}
use Rattle.ol_run.specs.Admitted.{Admitted}
use Rattle.ol_run.specs.Constants.{SameTables, Holding}
use Rattle.ol_run.proofs.Telling.{tab_kept}
use Rattle.ol_tables.specs.Table.{rows_of, tab_of, Packs}
use Rattle.ol_tables.proofs.TableLaws.{rows_long_lem, rows_get}
use Rattle.ol_sim.proofs.Tables.{width}

-- ---- the numbers of the rows are small

scalar_few : (t : Ty) → ty_size t ≤ 2
scalar_few bool = omega arith
scalar_few (int c) = omega arith
scalar_few float32 = omega arith
scalar_few float64 = omega arith
scalar_few char = omega arith
scalar_few (enum e) = omega arith

type_few : (t : VarTy) → var_ty_size t ≤ 4
type_few (scalar t) = omega (arith, scalar_few t)
type_few (array n t) = omega (arith, scalar_few t)

sizes_few : (vs : List Variable) → sum (map variable_size vs) ≤ 6 * length vs
sizes_few [] = omega arith
sizes_few (v ∷ vs) = omega (arith, type_few v.ty, sizes_few vs)

kind_few : (k : NodeKind) → kind_code k ≤ 2
kind_few Function = omega arith
kind_few Operator = omega arith
kind_few Imported = omega arith

module _ {s rows : List ℕ} (st : FileStands s (file_at s)) (rowed : Rows (file_at s) rows) where
  abbrev f : File
  f = file_at s

  -- entry j of node k's row
  entry_small : (k : ℕ) → k < length f.nodes → (j : ℕ) → j < 8 → row_at rows k j < 16777216
  entry_small k lt zero l = omega (arith, (rowed.rows_of k lt).kind, kind_few (node_of f k).kind)
  entry_small k lt (suc zero) l =
      let n = node_of f k in
      let a = node_at_lem st k lt in
      omega (arith, (rowed.rows_of k lt).equations, a.inside, st.short, a.few_inputs, a.few_outputs, a.few_locals, sizes_few n.inputs, sizes_few n.outputs, sizes_few n.locals)
  entry_small k lt (suc (suc zero)) l = omega (arith, (rowed.rows_of k lt).inputs, (node_at_lem st k lt).few_inputs)
  entry_small k lt (suc (suc (suc zero))) l = omega (arith, (rowed.rows_of k lt).outputs, (node_at_lem st k lt).few_outputs)
  entry_small k lt (suc (suc (suc (suc zero)))) l = omega (arith, (rowed.rows_of k lt).variables, width st k lt)
  entry_small k lt (suc (suc (suc (suc (suc zero))))) l = omega (arith, (rowed.rows_of k lt).count, (node_at_lem st k lt).few_equations)
  entry_small k lt (suc (suc (suc (suc (suc (suc zero)))))) l = omega (arith, (rowed.rows_of k lt).size)
  entry_small k lt (suc (suc (suc (suc (suc (suc (suc zero))))))) l = omega (arith, (rowed.rows_of k lt).place, (node_at_lem st k lt).inside, st.short)
  entry_small k lt (suc (suc (suc (suc (suc (suc (suc (suc j)))))))) l = absurd (omega arith)

  pub rows_small : (i : ℕ) → 0 ≤ i → i < length f.nodes * 8 → get_or rows i 0 < 16777216
  rows_small i o lt =
      let e : i / 8 * 8 + i % 8 ≡ i = omega arith in
      subst (λ n. get_or rows n 0 < 16777216) e (entry_small (i / 8) (omega (arith, lt)) (i % 8) (omega arith))

  pub firsts_small : (i : ℕ) → 256 ≤ i → i < 256 + length f.enums → get_or rows i 0 < 16777216
  firsts_small i lo hi =
      let e = i - 256 in
      let d : 256 + e ≡ i = omega arith in
      let b : e < length f.enums = omega (arith, hi, d) in
      subst (λ n. get_or rows n 0 < 16777216) d (omega (arith, rowed.firsts e b, first_short f.enums rows rowed.firsts st.enums.fit e b))

  -- ---- stored, they are the table's rows
  module _ {t t₁ t₂ : List ℕ} (p : Packs rows 0 (length f.nodes * 8) t t₁) (q : Packs rows 256 (256 + length f.enums) t₁ t₂) where
    entry_is : (k : ℕ) → k < length f.nodes → (j : ℕ) → j < 8 → row_at (rows_of t₂) k j ≡ row_at rows k j
    entry_is k lt j l =
        rows_get t₂ (k * 8 + j) (omega (arith, lt, st.few_nodes)) ∙ q.before (k * 8 + j) (omega (arith, lt, st.few_nodes)) ∙ p.put (k * 8 + j) (omega arith) (omega (arith, lt))

    first_is : (e : ℕ) → e < length f.enums → first_at (rows_of t₂) e ≡ first_at rows e
    first_is e lt = rows_get t₂ (256 + e) (omega (arith, lt, st.few_enums)) ∙ q.put (256 + e) (omega arith) (omega (arith, lt))

    rows_packed : Rows f (rows_of t₂)
    rows_packed =
        record {
          long = rows_long_lem t₂;
          rows_of = λ k lt.
              let r = rowed.rows_of k lt in
              record {
                kind = entry_is k lt 0 (omega arith) ∙ r.kind;
                equations = entry_is k lt 1 (omega arith) ∙ r.equations;
                inputs = entry_is k lt 2 (omega arith) ∙ r.inputs;
                outputs = entry_is k lt 3 (omega arith) ∙ r.outputs;
                variables = entry_is k lt 4 (omega arith) ∙ r.variables;
                count = entry_is k lt 5 (omega arith) ∙ r.count;
                size = entry_is k lt 6 (omega arith) ∙ r.size;
                place = entry_is k lt 7 (omega arith) ∙ r.place;
              };
          firsts = λ e lt. first_is e lt ∙ rowed.firsts e lt;
        }

    tab_packed : tab_of t₂ ≡ tab_of t
    tab_packed = sym (drop-drop 578 816 t₂) ∙ ap (drop 578) (q.rest ∙ p.rest) ∙ drop-drop 578 816 t

-- the table of an admitted file has its rows too
pub admitted_packed : {s rows t t₁ t₂ : List ℕ} → Admitted s rows (tab_of t) → Packs rows 0 (length (file_at s).nodes * 8) t t₁ → Packs rows 256 (256 + length (file_at s).enums) t₁ t₂ → Admitted s (rows_of t₂) (tab_of t₂)
admitted_packed {s} {rows} {t} {t₁} {t₂} a p q =
    record {
      reads = a.reads;
      stands = a.stands;
      ordered = a.ordered;
      rowed = rows_packed a.stands a.rowed p q;
      tabled = subst (λ l. Tab (file_at s) (length s) l) (sym (tab_packed a.stands a.rowed p q)) a.tabled;
    }

-- storing the constants' cells keeps them
pub admitted_same : {s t t' : List ℕ} → Admitted s (rows_of t) (tab_of t) → SameTables (length s) t t' → Admitted s (rows_of t') (tab_of t')
admitted_same {s} {t} {t'} a h =
    record {
      reads = a.reads;
      stands = a.stands;
      ordered = a.ordered;
      rowed = subst (λ l. Rows (file_at s) l) (sym h.rows) a.rowed;
      tabled = tab_kept a.stands (tab_of t) (tab_of t') (length-drop 1394 t' ∙ ap (λ n. n - 1394) h.long ∙ sym (length-drop 1394 t)) h.tab a.tabled;
    }

-- the constants' cells have room in a table of that length
pub holding_same : {t t' : List ℕ} {bytes many : ℕ} → length t' ≡ length t → Holding t bytes many → Holding t' bytes many
holding_same {t} {t'} e h =
    record {
      long = omega (arith, e, h.long);
      narrow = λ lt. h.narrow (omega (arith, e, lt));
      wide = λ le. let w = h.wide (omega (arith, e, le)) in (w.0, omega (arith, w.1, e, length-drop 1394 t, length-drop 1394 t'));
    }
