-- The table of bytes, put together from its parts: orders, places, slots and plans.
use Prim.Native.Nat.{ℕ, ◌+◌, ◌-◌, ◌*◌, ◌/◌, ◌%◌, ◌<◌, ◌≤◌}
use mathlib.Core.List.{List, ◌++◌}
use mathlib.Core.Option.{none}
use mathlib.Core.Path.{◌≡◌, refl, ap, sym, ◌∙◌}
use native.Mathlib.Omega.{arith}
use lib.Dec.{T}
use lib.ListN.{length, get_or, take, drop, length-append, get_or-map}
use lib.Seq.{get_or-drop}
use Rattle.ol_spec.specs.Syntax.{Node, no_node, variables}
use Rattle.ol_spec.specs.Limits.{base}
use Rattle.ol_spec.specs.Within.{section_fits, variable_fits, node_fits}
use Rattle.ol_spec.specs.Admission.{fault6, fault7}
use Rattle.ol_spec.proofs.Tests.{T_and}
use Rattle.ol_tables.specs.At.{file_at}
use Rattle.ol_tables.specs.Stands.{FileStands}
use Rattle.ol_spec.specs.Places.{constants_start, placed_nodes}
use Rattle.ol_tables.specs.Tables.{Tab, PlanOf, Told, slots_from, plans_from, plans_of, start_at, place_of, node_of, ty_code, ty_enum, element_of, array_length, var_ty_of, var_ty_at, constant_of}
use Rattle.ol_tables.proofs.TableLaws.{two_drop}
use Rattle.ol_tables.proofs.HeadsFile.{section_few}
use Rattle.ol_state.proofs.Fits.{all_nth}
use Rattle.ol_check.specs.RowsDone.{no_variable, Typed, CellsCounted}
use Rattle.ol_order.specs.Orders.{OrderOf}
use Rattle.ol_sim.specs.Judging.{Slots}
use Rattle.ol_sim.proofs.Slotting.{slots_in, defined_in, constants_in_lem}

-- a node has at most 112 variables
node_width : (enums : ℕ) (n : Node) → T (node_fits base enums n) → length (variables n) ≤ 112
node_width enums n t =
    let w = T_and (section_fits 0 32 (variable_fits base enums) n.inputs) _ t in
    let v = T_and (section_fits 1 16 (variable_fits base enums) n.outputs) _ w.1 in
    let u = T_and (section_fits 0 64 (variable_fits base enums) n.locals) _ v.1 in
    omega (arith, (section_few (variable_fits base enums) 0 32 n.inputs w.0).1, (section_few (variable_fits base enums) 1 16 n.outputs v.0).1, (section_few (variable_fits base enums) 0 64 n.locals u.0).1, length-append (n.inputs ++ n.outputs) n.locals, length-append n.inputs n.outputs)

pub width : {s : List ℕ} → FileStands s (file_at s) → (k : ℕ) → k < length (file_at s).nodes → length (variables (node_of (file_at s) k)) ≤ 112
width {s} st k h = node_width (length (file_at s).enums) (node_of (file_at s) k) (all_nth (node_fits base (length (file_at s).enums)) (file_at s).nodes no_node k st.nodes.fit h)

-- all of `tab`
pub tab_whole : (s tab : List ℕ) → FileStands s (file_at s) → fault6 (file_at s) ≡ none → fault7 (file_at s) ≡ none → (m : ℕ) → m ≡ (length tab - slots_from) / 2 → Typed (file_at s) (256 + m) (drop 2560 tab)
    → ((k : ℕ) → k < length (file_at s).nodes → CellsCounted (node_of (file_at s) k) k (drop 2560 tab)) → Slots s (file_at s) (take m (drop 2816 tab)) → ((k : ℕ) → k < length (file_at s).nodes → PlanOf (file_at s) (plans_of tab) k)
    → ((i : ℕ) → i < length (file_at s).constants → Told (plans_of tab) (constants_start (file_at s) + 2 * i) (constant_of (file_at s) i).1.ty) → ((k : ℕ) → k < length (file_at s).nodes → OrderOf (file_at s) tab k) → 2816 + length s ≤ length tab → Tab (file_at s) (length s) tab
tab_whole s tab st no6 no7 m em ty counted sl plans types orders long =
    record {
      long = long;
      tabs_of = λ k lt.
          let n = node_of (file_at s) k in
          let at = place_of (placed_nodes (file_at s)) k in
          let start : start_at tab k ≡ at = sym (two_drop 2560 tab (8 * k) (2560 + 8 * k) refl) ∙ (ty k lt).place in
          let byte : (x y : ℕ) → x ≡ 256 + m + y → get_or (plans_of tab) y 0 ≡ get_or (drop 2560 tab) x 0 = λ x y e.
          let a : plans_from tab + y ≡ 2560 + x = omega (arith, em, e) in
          get_or-drop (plans_from tab) tab y 0 ∙ ap (λ n. get_or tab n 0) a ∙ sym (get_or-drop 2560 tab x 0) in
          let type_is : (i : ℕ) → var_ty_of (get_or (variables n) i no_variable) ≡ var_ty_at (variables n) i = λ i. sym (get_or-map var_ty_of (variables n) i no_variable) in
          record {
            orders = orders k lt;
            start = start;
            input_cells = sym (two_drop 2560 tab (8 * k + 2) (2560 + 8 * k + 2) (omega arith)) ∙ (counted k lt).first;
            output_cells = sym (two_drop 2560 tab (8 * k + 4) (2560 + 8 * k + 4) (omega arith)) ∙ (counted k lt).second;
            cells = sym (two_drop 2560 tab (8 * k + 6) (2560 + 8 * k + 6) (omega arith)) ∙ (counted k lt).third;
            codes = λ i l.
                ap (λ b. b % 16) (byte (256 + m + at + 2 * i) (start_at tab k + 2 * i) (omega (arith, start))) ∙ ((ty k lt).are i l).code ∙ ap (λ t. ty_code (element_of t)) (type_is i);
            enums = λ i l.
                ap (λ b. b / 16) (byte (256 + m + at + 2 * i) (start_at tab k + 2 * i) (omega (arith, start))) ∙ ((ty k lt).are i l).number ∙ ap (λ t. ty_enum (element_of t)) (type_is i);
            lengths = λ i l.
                byte (256 + m + at + 2 * i + 1) (start_at tab k + 2 * i + 1) (omega (arith, start)) ∙ ((ty k lt).are i l).length ∙ ap array_length (type_is i);
            slots = slots_in s tab st no6 m sl k lt;
            defined = defined_in s tab st no6 m sl k lt;
          };
      plans = plans;
      constant_types = types;
      constants = constants_in_lem s tab st no6 m sl no7;
    }
