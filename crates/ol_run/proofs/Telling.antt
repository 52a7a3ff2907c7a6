-- What the table of a file tells does not depend on bytes behind its plans.
use Prim.Native.Nat.{ℕ, ◌+◌, ◌-◌, ◌*◌, ◌/◌, ◌%◌, ◌<◌, ◌≤◌}
use mathlib.Core.List.{List, [], ◌∷◌, ◌++◌, map}
use mathlib.Core.Option.{Option}
use mathlib.Core.Path.{◌≡◌, sym, ap, subst, ◌∙◌}
use native.Mathlib.Omega.{arith}
use lib.Dec.{T}
use lib.ListN.{length, get_or, length-append, length-drop}
use lib.Seq.{get_or-drop}
use Rattle.ol_spec.specs.Lists.{sum, all_of}
use Rattle.ol_spec.specs.Syntax.{Variable, Constant, Equation, Expr, File, no_node, variables, variable_names, cell_names}
use Rattle.ol_spec.specs.Places.{equation_size, variable_size, constant_size, node_size, constants_start, nodes_start, equations_start, placed_nodes, placed_equations, placed_names, rhs_place, collect_all}
use Rattle.ol_spec.specs.Encode.{expr_bytes, equation_bytes, constant_bytes, node_bytes}
use Rattle.ol_spec.specs.Limits.{base}
use Rattle.ol_spec.specs.Within.{name_fits, section_fits, equation_fits}
use Rattle.ol_spec.specs.Admission.{used_at, used, constant_names, constant_cell_names, value_place}
use Rattle.ol_spec.proofs.Tests.{T_and}
use Rattle.ol_spec.proofs.RoundTrip.Parts.{Here, here_inside}
use Rattle.ol_spec.proofs.RoundTrip.Items.{expr_size_lem, equation_size_lem, constant_size_lem, node_size_lem}
use Rattle.ol_spec.proofs.RoundTrip.Placed.{placed_here, constant_here, equation_here}
use Rattle.ol_tables.specs.At.{file_at, exprs_at}
use Rattle.ol_tables.specs.Stands.{FileStands}
use Rattle.ol_tables.specs.Tables.{Each, Tab, TabOf, PlanOf, Told, HasCell, HasSlot, Slotted, lengths_in, two_at, plans_from, plans_of, slots_from, node_of, place_of, plan_in, start_at, count_at, constant_of, constant_names_to}
use Rattle.ol_tables.proofs.HeadsFile.{node_at_lem, section_few}
use Rattle.ol_tables.proofs.Skipping.{some_size}
use Rattle.ol_tables.specs.Table.{tab_of, rows_of}
use Rattle.ol_frame.specs.Walk.{Sized, nodes_in}
use Rattle.ol_frame.specs.Plans.{Named, names_in, constants_in, long_in}
use Rattle.ol_run.specs.Constants.{ConstantReady, SameTables, no_constant, constant_at, value_at}
use Rattle.ol_run.proofs.Inside.{Before, used_before}
use Rattle.ol_run.proofs.Placing.{all_each, each_two, place_at_lem, pair_at}
use Rattle.ol_run.proofs.Standing.{read_collected}

module _ (tab tab' : List ℕ) (n : ℕ) (long : length tab' ≡ length tab) (same : (x : ℕ) → x < plans_from tab + n → get_or tab' x 0 ≡ get_or tab x 0) where
  -- the plans start at one place
  pub from_plans : plans_from tab' ≡ plans_from tab
  from_plans = ap (λ (m : ℕ). slots_from + (m - slots_from) / 2) long

  pub plan_byte : (x : ℕ) → x < n → get_or (plans_of tab') x 0 ≡ get_or (plans_of tab) x 0
  plan_byte x l =
      get_or-drop (plans_from tab') tab' x 0 ∙ ap (λ (m : ℕ). get_or tab' (m + x) 0) from_plans ∙ same (plans_from tab + x) (omega arith) ∙ sym (get_or-drop (plans_from tab) tab x 0)

  pub plan_two : (x : ℕ) → x + 1 < n → two_at (plans_of tab') x ≡ two_at (plans_of tab) x
  plan_two x l = λ i. plan_byte x (omega arith) i * 256 + plan_byte (x + 1) l i

  pub two_kept : (x : ℕ) → x + 1 < plans_from tab + n → two_at tab' x ≡ two_at tab x
  two_kept x l = λ i. same x (omega arith) i * 256 + same (x + 1) l i

  pub told_kept : (p : ℕ) {t : _} → p + 1 < n → Told (plans_of tab) p t → Told (plans_of tab') p t
  told_kept p l h =
      record {
        code = ap (λ (b : ℕ). b % 16) (plan_byte p (omega arith)) ∙ h.code;
        number = ap (λ (b : ℕ). b / 16) (plan_byte p (omega arith)) ∙ h.number;
        length = plan_byte (p + 1) l ∙ h.length;
      }

-- ---- places inside the file

names_before : (n at : ℕ) (xs : List ℕ) → at + 2 * length xs ≤ n → Each (Before n) (placed_names at xs)
names_before n at [] l = tt
names_before n at (x ∷ xs) l = (omega arith, names_before n (at + 2) xs (omega arith))

variables_some : (vs : List Variable) → 2 * length vs ≤ sum (map variable_size vs)
variables_some [] = omega arith
variables_some (v ∷ vs) = omega (arith, variables_some vs)

constants_some : (cs : List Constant) → 2 * length cs ≤ sum (map constant_size cs)
constants_some [] = omega arith
constants_some (c ∷ cs) = omega (arith, constants_some cs)

equations_some : (enums : ℕ) (qs : List Equation) → T (all_of (equation_fits base enums) qs) → 4 * length qs ≤ sum (map equation_size qs)
equations_some enums [] t = omega arith
equations_some enums (q ∷ qs) t =
    let w = T_and (equation_fits base enums q) _ t in
    let one = (section_few name_fits 1 16 q.names (T_and (section_fits 1 16 name_fits q.names) _ w.0).0).0 in
    omega (arith, one, some_size q.rhs, equations_some enums qs w.1)

module _ {s : List ℕ} (st : FileStands s (file_at s)) where
  abbrev f : File
  f = file_at s

  node_inside : (k : ℕ) → k < length f.nodes → place_of (placed_nodes f) k + node_size (node_of f k) ≤ length s
  node_inside k lt =
      let h = place_at_lem node_size (λ p. Here s p.0 (node_bytes p.1)) no_node (nodes_start f) f.nodes k lt (placed_here node_bytes node_size node_size_lem (nodes_start f) f.nodes st.nodes.here) in
      omega (arith, here_inside h (omega (arith, node_size_lem (node_of f k))), node_size_lem (node_of f k))

  pub plan_inside : (k : ℕ) → k < length f.nodes → plan_in f k + 4 * length (node_of f k).equations ≤ length s
  plan_inside k lt =
      let n = node_of f k in
      omega (arith, node_inside k lt, variables_some n.inputs, variables_some n.outputs, variables_some n.locals, length-append (n.inputs ++ n.outputs) n.locals, length-append n.inputs n.outputs, equations_some (length f.enums) n.equations (node_at_lem st k lt).equations.fit)

  -- the names that a node's equations use and define
  equations_inside : (k : ℕ) → k < length f.nodes → Each (λ q. Here s q.0 (equation_bytes q.1)) (placed_equations (place_of (placed_nodes f) k) (node_of f k))
  equations_inside k lt =
      let start = equations_start (place_of (placed_nodes f) k) (node_of f k) + 1 in
      all_each (λ q. Here s q.0 (equation_bytes q.1)) (placed_equations (place_of (placed_nodes f) k) (node_of f k)) (placed_here equation_bytes equation_size equation_size_lem start (node_of f k).equations (node_at_lem st k lt).equations.here)

  used_inside : (at : ℕ) (e : Expr) → Here s at (expr_bytes e) → Each (Before (length s)) (used at e)
  used_inside at e h = used_before (length s) at e (omega (arith, here_inside h (omega (arith, expr_size_lem e, some_size e)), expr_size_lem e))

  module _ (tab tab' : List ℕ) (long : length tab' ≡ length tab) (same : (x : ℕ) → x < plans_from tab + length s → get_or tab' x 0 ≡ get_or tab x 0) where
    cell_kept : (vs cs : List ℕ) (g : ℕ → Option ℕ) (p : ℕ × ℕ) → HasCell tab vs cs g p → Before (length s) p → HasCell tab' vs cs g p
    cell_kept vs cs g p h b =
        record {
          cell = two_kept tab tab' (length s) long same (slots_from + p.0) (omega arith) ∙ h.cell;
          length = same (slots_from - 1 + p.0) (omega arith) ∙ h.length;
        }

    slot_kept : (vs cs : List ℕ) (p : ℕ × ℕ) → HasSlot tab vs cs p → Before (length s) p → HasSlot tab' vs cs p
    slot_kept vs cs p h b = same (slots_from + p.0) (omega arith) ∙ h

    slotted_kept : (vs cs : List ℕ) (g : ℕ → Option ℕ) (at : ℕ) (e : Expr) → Here s at (expr_bytes e) → Slotted tab vs cs g at e → Slotted tab' vs cs g at e
    slotted_kept vs cs g at e h t = each_two (HasCell tab vs cs g) (Before (length s)) (HasCell tab' vs cs g) (cell_kept vs cs g) (used at e) t (used_inside at e h)

    defined_kept : (vs cs : List ℕ) (q : ℕ × Equation) → Here s q.0 (equation_bytes q.1) → Each (HasSlot tab vs cs) (placed_names (q.0 + 1) q.1.names) → Each (HasSlot tab' vs cs) (placed_names (q.0 + 1) q.1.names)
    defined_kept vs cs q h t =
        let i = here_inside h (omega (arith, equation_size_lem q.1)) in
        each_two (HasSlot tab vs cs) (Before (length s)) (HasSlot tab' vs cs) (slot_kept vs cs) (placed_names (q.0 + 1) q.1.names) t (names_before (length s) (q.0 + 1) q.1.names (omega (arith, i, equation_size_lem q.1)))

    module _ (h : Tab f (length s) tab) (k : ℕ) (lt : k < length f.nodes) where
      few : k < 32
      few = omega (arith, lt, st.few_nodes)

      start_kept : start_at tab' k ≡ start_at tab k
      start_kept = two_kept tab tab' (length s) long same (2560 + 8 * k) (omega (arith, few))

      count_kept : (j : ℕ) → j < 4 → count_at tab' k j ≡ count_at tab k j
      count_kept j l = two_kept tab tab' (length s) long same (2560 + 8 * k + 2 * j) (omega (arith, few, l))

      type_byte : (x : ℕ) → place_of (placed_nodes f) k + x < length s → get_or (plans_of tab') (start_at tab' k + x) 0 ≡ get_or (plans_of tab) (start_at tab k + x) 0
      type_byte x l =
          ap (λ (m : ℕ). get_or (plans_of tab') (m + x) 0) start_kept ∙ plan_byte tab tab' (length s) long same (start_at tab k + x) (omega (arith, l, (h.tabs_of k lt).start))

      inside : (i : ℕ) → i < length (variables (node_of f k)) → place_of (placed_nodes f) k + 2 * i + 1 < length s
      inside i l = omega (arith, l, plan_inside k lt)

      node_kept : TabOf f tab' k
      node_kept =
          let a = h.tabs_of k lt in
          let n = node_of f k in
          let qs = placed_equations (place_of (placed_nodes f) k) n in
          let P : ℕ × Equation → Type 0 = λ q. Here s q.0 (equation_bytes q.1) in
          let S : List ℕ → ℕ × Equation → Type 0 = λ t q. Slotted t (cell_names (variables n)) (constant_cell_names f) (lengths_in f (variables n)) (rhs_place q.0 q.1) q.1.rhs in
          let D : List ℕ → ℕ × Equation → Type 0 = λ t q. Each (HasSlot t (variable_names n) (constant_names f)) (placed_names (q.0 + 1) q.1.names) in
          record {
            orders = λ j l. same (k * 80 + j) (omega (arith, few, l, (node_at_lem st k lt).few_equations)) ∙ a.orders j l;
            start = start_kept ∙ a.start;
            input_cells = count_kept 1 (omega arith) ∙ a.input_cells;
            output_cells = count_kept 2 (omega arith) ∙ a.output_cells;
            cells = count_kept 3 (omega arith) ∙ a.cells;
            codes = λ i l. ap (λ (b : ℕ). b % 16) (type_byte (2 * i) (omega (arith, inside i l))) ∙ a.codes i l;
            enums = λ i l. ap (λ (b : ℕ). b / 16) (type_byte (2 * i) (omega (arith, inside i l))) ∙ a.enums i l;
            lengths = λ i l.
                let e : (m : ℕ) → m + 2 * i + 1 ≡ m + (2 * i + 1) = λ m. omega arith in
                ap (λ (m : ℕ). get_or (plans_of tab') m 0) (e (start_at tab' k)) ∙ type_byte (2 * i + 1) (omega (arith, inside i l)) ∙ ap (λ (m : ℕ). get_or (plans_of tab) m 0) (sym (e (start_at tab k))) ∙ a.lengths i l;
            slots = each_two (S tab) P (S tab') (λ q t p. slotted_kept (cell_names (variables n)) (constant_cell_names f) (lengths_in f (variables n)) (rhs_place q.0 q.1) q.1.rhs (equation_here q.0 q.1 p).1 t) qs a.slots (equations_inside k lt);
            defined = each_two (D tab) P (D tab') (λ q t p. defined_kept (variable_names n) (constant_names f) q p t) qs a.defined (equations_inside k lt);
          }

      plan_kept : PlanOf f (plans_of tab') k
      plan_kept =
          let a = h.plans k lt in
          let c = length (node_of f k).equations in
          let two = plan_two tab tab' (length s) long same in
          record {
            places = λ i l. two (plan_in f k + 2 * i) (omega (arith, l, plan_inside k lt)) ∙ a.places i l;
            offsets = λ r i l. two (plan_in f k + 2 * c + 2 * i) (omega (arith, l, plan_inside k lt)) ∙ a.offsets r i l;
          }

    -- the table tells the same
    pub tab_kept : Tab f (length s) tab → Tab f (length s) tab'
    tab_kept h =
        record {
          long = omega (arith, h.long, long);
          tabs_of = node_kept h;
          plans = plan_kept h;
          constant_types = λ i l. told_kept tab tab' (length s) long same (constants_start f + 2 * i) (omega (arith, l, constants_some f.constants, st.inside)) (h.constant_types i l);
          constants = λ i l.
              let c = constant_of f i in
              let here = pair_at constant_size (λ p. Here s p.0 (constant_bytes p.1)) no_constant (constants_start f) f.constants i l (placed_here constant_bytes constant_size constant_size_lem (constants_start f) f.constants st.constants.here) in
              slotted_kept [] (constant_names_to f i) (lengths_in f []) (value_place c.0 c.1) c.1.value (constant_here c.0 c.1 here).2 (h.constants i l);
        }

-- a constant can be evaluated by a table that tells the same
pub ready_same : {file t t' : List ℕ} {i : ℕ} → FileStands file (file_at file) → SameTables (length file) t t' → ConstantReady file (tab_of t) (rows_of t) i → ConstantReady file (tab_of t') (rows_of t') i
ready_same {file} {t} {t'} {i} st s h =
    let c = constant_at file i in
    let at = value_at file i in
    let x = pair_at constant_size (λ p. Here file p.0 (constant_bytes p.1)) no_constant (constants_start (file_at file)) (file_at file).constants i h.below (placed_here constant_bytes constant_size constant_size_lem (constants_start (file_at file)) (file_at file).constants st.constants.here) in
    let u = subst (Each (Before (length file))) (sym (read_collected file used_at at c.1.value h.reads h.tree)) (used_inside st at c.1.value (constant_here c.0 c.1 x).2) in
    let tab = tab_of t in
    let tab' = tab_of t' in
    let long = length-drop 1394 t' ∙ ap (λ (n : ℕ). n - 1394) s.long ∙ sym (length-drop 1394 t) in
    let r = h.program in
    record {
      program = record { sized = subst (Sized file) (sym s.rows) r.sized; table = tab_kept st tab tab' long s.tab r.table; fits = r.fits; no6 = r.no6 };
      below = h.below;
      inside = h.inside;
      type_is = h.type_is;
      proper = h.proper;
      short = h.short;
      filled = h.filled;
      reads = h.reads;
      tree = h.tree;
      shape = h.shape;
      named = λ consts e.
          each_two (Named file tab consts (nodes_in file)) (Before (length file)) (Named file tab' consts (nodes_in file))
          (λ p n b. record { cell = cell_kept st tab tab' long s.tab (names_in file (nodes_in file)) (constants_in file consts) (long_in file (nodes_in file)) p n.cell b; variant = n.variant })
          (collect_all used_at at (exprs_at file 24 1 at)) (h.named consts e) u;
      sound = h.sound;
      suited = h.suited;
      closed = h.closed;
    }
