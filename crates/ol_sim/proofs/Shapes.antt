-- Fault 22, judged with what the walk over the file leaves.
use Prim.Native.Nat.{ℕ, ◌+◌, ◌*◌, ◌/◌, ◌%◌}
use mathlib.Core.List.{List}
use mathlib.Core.Path.{◌≡◌, refl, sym, ap, ◌∙◌}
use native.Mathlib.Omega.{arith}
use lib.ListN.{get_or, drop, replicate, length-replicate, get_or-map}
use lib.Seq.{get_or-drop}
use Rattle.ol_spec.specs.Syntax.{variables}
use Rattle.ol_spec.specs.Places.{placed_nodes}
use Rattle.ol_tables.specs.At.{file_at}
use Rattle.ol_tables.specs.Tables.{node_of, place_of, var_ty_of, var_ty_at, ty_code, ty_enum, element_of, array_length}
use Rattle.ol_tables.specs.Table.{half_of}
use Rattle.ol_check.specs.RowsDone.{no_variable}
use Rattle.ol_check.specs.declared.rows.Sections.{Sections}
use Rattle.ol_check.specs.declared.Faults.{Faults}
use Rattle.std.specs.Prelude as Std
use Rattle.ol_check.specs.Founds as Founds
use Rattle.ol_shapes.specs.Codes.{option_of}
use Rattle.ol_shapes.specs.Sits as Sits
use Rattle.ol_shapes.specs.Laid.{Laid}
use Rattle.ol_sim.specs.Judging.{ArraysReady, slots_of, plans_of}
use Rattle.ol_sim.proofs.Slotting.{lengths_in_lem, defined_lem, constant_lengths}

module _ {s rows t : List ℕ} {c : Sections} {cells : ℕ} {low : mathlib.Core.Bool.Bool} {found : Faults} (h : ArraysReady s rows t c cells low found) where
  -- a byte of the plans
  plan_byte : (x : ℕ) → get_or (plans_of t) x 0 ≡ get_or (drop 3954 t) (256 + half_of t + x) 0
  plan_byte x =
      let n : 4210 + (half_of t + x) ≡ 3954 + (256 + half_of t + x) = omega arith in
      get_or-drop (half_of t) (drop 4210 t) x 0 ∙ get_or-drop 4210 t (half_of t + x) 0 ∙ ap (λ i. get_or t i 0) n ∙ sym (get_or-drop 3954 t (256 + half_of t + x) 0)

  typed : Sits.Typed s rows (plans_of t)
  typed =
      record {
        row = λ k lt.
            let r = h.rows_are.rows_of k lt in
            record { kind = r.kind; inputs = r.inputs; outputs = r.outputs; variables = r.variables; count = r.count; place = r.place };
        types = λ k lt i l.
            let n = node_of (file_at s) k in
            let at = place_of (placed_nodes (file_at s)) k in
            let told = (h.walked.sections.typed.typed k lt).are i l in
            let same : var_ty_of (get_or (variables n) i no_variable) ≡ var_ty_at (variables n) i = sym (get_or-map var_ty_of (variables n) i no_variable) in
            let a : 256 + half_of t + (at + 2 * i) ≡ 256 + half_of t + at + 2 * i = omega arith in
            let b : 256 + half_of t + (at + 2 * i + 1) ≡ 256 + half_of t + at + 2 * i + 1 = omega arith in
            let first = plan_byte (at + 2 * i) ∙ ap (λ x. get_or (drop 3954 t) x 0) a in
            record {
              code = ap (λ x. x % 16) first ∙ told.code ∙ ap (λ y. ty_code (element_of y)) same;
              number = ap (λ x. x / 16) first ∙ told.number ∙ ap (λ y. ty_enum (element_of y)) same;
              length = plan_byte (at + 2 * i + 1) ∙ ap (λ x. get_or (drop 3954 t) x 0) b ∙ told.length ∙ ap array_length same;
            };
      }

  -- the slots and plans are the file's
  pub laid : Laid s rows (slots_of t) (plans_of t)
  laid =
      let st = h.walked.sections.rowed.stands in
      let b = replicate 2816 0 in
      let many = length-replicate {A = ℕ} 2816 0 in
      let o = h.sound in
      record {
        reads = h.walked.sections.rowed.reads;
        clear = record { no6 = o.no6; no7 = o.no7; no8 = o.no8; no9 = o.no9; no10 = o.no10 };
        typed = typed;
        nodes = λ k lt. record {
          lengths = lengths_in_lem s (slots_of t) b many st o.no6 h.walked.slots k lt;
          defined = defined_lem s (slots_of t) b many st o.no6 h.walked.slots k lt;
          places = (h.walked.plans.planned o.no9 k lt).places;
        };
        constants = λ i lt. constant_lengths s (slots_of t) b many st o.no6 h.walked.slots o.no7 i lt;
      }

-- a found place, as each of the crates tells it
pub found_same : (r : Std.Option ℕ) → Founds.place_of r ≡ option_of r
found_same Std.None = refl
found_same (Std.Some p) = refl
