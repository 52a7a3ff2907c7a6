-- What the builders leave, as ol_tables's tables say it: a row but for its size, the types, and the slots.
use Prim.Native.Nat.{ℕ, ◌+◌, ◌-◌, ◌*◌, ◌<◌, min}
use mathlib.Core.List.{List}
use mathlib.Core.Option.{Option}
use mathlib.Core.Path.{◌≡◌, ap, ◌∙◌}
use native.Mathlib.Omega.{arith}
use lib.ListN.{length, get_or}
use Rattle.ol_spec.specs.Syntax.{Equation, File}
use Rattle.ol_spec.specs.Lists.{maybe}
use Rattle.ol_spec.specs.Places.{placed_names, rhs_place}
use Rattle.ol_spec.specs.Admission.{used}
use Rattle.ol_tables.specs.Tables.{row_at, size_cap, site_bytes, node_of, RowOf, slots_from, slot_of, cell_of, Each, HasSlot, HasCell, Slotted}
use Rattle.ol_tables.proofs.Forms.{each_map}
use Rattle.ol_check.specs.RowsDone.{NodeRow}
use Rattle.ol_check.specs.Judging.{slot_of_entry, SlotIs, entry_cell, entry_length}
use Rattle.ol_check.proofs.HeadLaws.{CellIs}
use Rattle.ol_check.proofs.EquationLaws.{EquationHeld}
use Rattle.ol_check.specs.NodesJudged.{place_in}

-- a node's row, with its size
pub row_of : {f : File} {rows : List ℕ} {k : ℕ} → NodeRow (node_of f k) (place_in f k) k rows → row_at rows k 6 ≡ min (site_bytes f k) size_cap → RowOf f rows k
row_of r size =
    record { kind = r.kind; equations = r.equations; inputs = r.inputs; outputs = r.outputs; variables = r.variables; count = r.count; size = size; place = r.place }

-- where the slots stand in `tab`, and the table by name gives the names' slots
module _ (f : File) (k : ℕ) (table slots tab variables constants : List ℕ) (long : ℕ → Option ℕ) (there : (j : ℕ) → j < length slots → get_or tab (slots_from + j) 0 ≡ get_or slots j 0) where
  pub cell_there : (p : ℕ × ℕ) → CellIs f k table slots p → entry_cell f k (get_or table p.1 0) ≡ cell_of variables constants p.1 → entry_length f k (get_or table p.1 0) ≡ maybe 0 (λ n. n) (long p.1) → HasCell tab variables constants long p
  cell_there p e cell len =
      let front : slots_from - 1 + p.0 ≡ slots_from + (p.0 - 1) = omega (arith, e.some) in
      let next : slots_from + p.0 + 1 ≡ slots_from + (p.0 + 1) = omega arith in
      record {
        cell = ap (λ n. n * 256 + get_or tab (slots_from + p.0 + 1) 0) (there p.0 (omega (arith, e.inside))) ∙ ap (λ q. get_or slots p.0 0 * 256 + get_or tab q 0) next
            ∙ ap (λ n. get_or slots p.0 0 * 256 + n) (there (p.0 + 1) e.inside) ∙ e.cell_is ∙ cell;
        length = ap (λ q. get_or tab q 0) front ∙ there (p.0 - 1) (omega (arith, e.inside)) ∙ e.length_is ∙ len;
      }

  pub slots_told : ((x : ℕ) → entry_cell f k (get_or table x 0) ≡ cell_of variables constants x) → ((x : ℕ) → entry_length f k (get_or table x 0) ≡ maybe 0 (λ n. n) (long x))
      → (ps : List (ℕ × Equation)) → Each (EquationHeld f k table slots) ps → Each (λ q. Slotted tab variables constants long (rhs_place q.0 q.1) q.1.rhs) ps
  slots_told cell len ps h =
      each_map (EquationHeld f k table slots) (λ q. Slotted tab variables constants long (rhs_place q.0 q.1) q.1.rhs)
      (λ p w. each_map (CellIs f k table slots) (HasCell tab variables constants long) (λ x e. cell_there x e (cell x.1) (len x.1)) (used (rhs_place p.0 p.1) p.1.rhs) w.used) ps h

  -- the same of the names that equations define
  pub defined_told : ((x : ℕ) → slot_of_entry (get_or table x 0) ≡ slot_of variables constants x) → (ps : List (ℕ × Equation)) → Each (EquationHeld f k table slots) ps
      → Each (λ q. Each (HasSlot tab variables constants) (placed_names (q.0 + 1) q.1.names)) ps
  defined_told slot ps h =
      each_map (EquationHeld f k table slots) (λ q. Each (HasSlot tab variables constants) (placed_names (q.0 + 1) q.1.names))
      (λ p w. each_map (SlotIs table slots) (HasSlot tab variables constants) (λ x e. there x.0 e.inside ∙ e.is ∙ slot x.1) (placed_names (p.0 + 1) p.1.names) w.defined) ps h
