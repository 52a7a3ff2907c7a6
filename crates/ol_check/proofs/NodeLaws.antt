-- A node: its variables entered and taken back, and its equations judged.
use Prim.Native.Nat.{ℕ, zero, suc, ◌+◌, ◌*◌, ◌≤◌, ◌<◌, min}
use mathlib.Core.Bool.{Bool, true, false, not, ◌&&◌}
use mathlib.Core.List.{List, [], ◌∷◌, ◌++◌, map, map-append}
use mathlib.Core.Logic.{by_cases}
use mathlib.Core.Path.{◌≡◌, refl, sym, ap, subst, ◌∙◌}
use native.Mathlib.Omega.{arith}
use native.Mathlib.Decide.{dec_lt}
use lib.ListN.{length, get_or, set, take, drop, replicate, length-append, get_or-eq_default, drop_of_length-le}
use lib.Seq.{drop-cons, get_or-take}
use native.Mathlib.Numerals.{add-one}
use mathlib.Core.Option.{Option}
use lib.Dec.{ltb, eqb}
use borrow.Author.Tests.{lt-ltb, le-ltb}
use Rattle.ol_spec.specs.Lists.{sum, concat}
use Rattle.ol_spec.specs.Syntax.{NodeKind, Function, Operator, Imported, Variable, Node, File, variables, variable_names, name_of, no_node}
use Rattle.ol_spec.specs.Places.{variable_size, outputs_start, locals_start, equations_start, placed_nodes, placed, equation_size, node_size, nodes_start}
use Rattle.ol_spec.specs.Encode.{kind_code, variable_bytes, equation_bytes}
use Rattle.ol_spec.specs.Limits.{base}
use Rattle.ol_spec.specs.Within.{variable_fits, equation_fits}
use Rattle.ol_spec.specs.Admission.{callee_in, bad_call, may_call, equation_uses, in_equation, uses_where, bad_iterator, equation_shape, Item, defined_by, node_uses, node_calls, node_shape, numbered}
use Rattle.ol_spec.specs.Step.{sites, own_size, cell_count}
use Rattle.ol_spec.proofs.Admitted.{length_placed}
use Rattle.ol_check.proofs.WalkLoop.{found_none, found_append}
use Rattle.ol_check.proofs.EntryLoops.{Entered, Forgotten, entered_told, forgotten_told, enter_visits, forget_visits}
use Rattle.ol_check.specs.Spans.{end_from, behind_variable}
use Rattle.ol_check.proofs.SpanLaws.{variables_near, variables_end}
use Rattle.ol_tables.specs.At.{file_at}
use Rattle.ol_tables.specs.Tables.{row_at, node_of, Each, plan_in, array_length}
use Rattle.ol_tables.specs.Stands.{Listed, Variables, NodeStands, FileStands}
use Rattle.ol_tables.proofs.HeadsFile.{node_at_lem}
use Rattle.ol_tables.specs.Heads.{name_at}
use Rattle.ol_check.specs.Arrays.{or_all, equation_forms, node_forms}
use Rattle.ol_check.proofs.EquationLaws.{or_append}
use Rattle.ol_check.specs.RowsDone.{NodeRow, cells_by, no_variable, no_constant}
use Rattle.ol_check.specs.Records.{callee_b, record_by}
use Rattle.ol_check.specs.Entries.{declared, forgot, declare_all, forget_all, variable_entries, Global}
use Rattle.ol_check.specs.Judging.{Findings, may_b, bad_b, outputs_b, Knows, Context, EquationsJudged, found_in, slot_equations, again_b, global_names, seen_in, EquationsReady, Looks, Undeclared}
use Rattle.ol_check.specs.NodesJudged.{place_in, NodeReady, NodeVisited, node_table, Covered, node_again, NodeJudged, RowsReady, slot_nodes, NodesJudged, NamesReady, PlansReady}
use Rattle.ol_check.proofs.PlanLaws.{constants_apart}
use Rattle.ol_check.proofs.RowLoops.{few_variables}
use Rattle.ol_check.proofs.CellLaws.{counts_are, node_told as cells_node, cell_count_lem}
use Rattle.ol_check.proofs.KnownLaws.{EntryWithin, within_all, within_variables, known_from, variable_known, constant_known}
use Rattle.ol_check.proofs.EntryLaws.{declare_append, forget_append, entries_append, Enterable, knows_all, restored}

-- ---- the sections of variables

-- a row's counts and places are those of the node that stands there
module _ {s rows : List ℕ} {nodes k : ℕ} (rd : NodeReady s rows nodes k) (st : FileStands s (file_at s)) where
  abbrev the : Node
  the = node_of (file_at s) k

  abbrev pub ready_row : NodeRow (node_of (file_at s) k) (place_in (file_at s) k) k rows
  ready_row = rd.row k (omega (arith, rd.low, rd.many))

  abbrev pub ready_node : NodeStands s (length (file_at s).enums) (place_in (file_at s) k) (node_of (file_at s) k)
  ready_node = node_at_lem st k (omega (arith, rd.low, rd.many))

  module _ {at i oc : ℕ} (ea : at ≡ get_or rows (k * 8 + 7) 0) (ei : i ≡ get_or rows (k * 8 + 2) 0) (eo : oc ≡ get_or rows (k * 8 + 3) 0) where
    pub at_is : at ≡ place_in (file_at s) k
    at_is = ea ∙ ready_row.place

    pub inputs_are : i ≡ length the.inputs
    inputs_are = ei ∙ ready_row.inputs

    pub outputs_are : oc ≡ length the.outputs
    outputs_are = eo ∙ ready_row.outputs

    -- the sections of the variables, where the code finds them
    pub inputs_there : Variables s (length (file_at s).enums) (at + 2) the.inputs
    inputs_there = subst (λ a. Listed variable_bytes (variable_fits base (length (file_at s).enums)) s (a + 2) the.inputs) (sym at_is) ready_node.inputs

    module _ {o : ℕ} (oe : o ≡ at + 2 + sum (map variable_size the.inputs)) where
      pub outputs_there : Variables s (length (file_at s).enums) (o + 1) the.outputs
      outputs_there =
          let e : o ≡ outputs_start (place_in (file_at s) k) the = omega (arith, at_is) in
          subst (λ a. Listed variable_bytes (variable_fits base (length (file_at s).enums)) s (a + 1) the.outputs) (sym e) ready_node.outputs

      module _ {l : ℕ} (le : l ≡ o + 1 + sum (map variable_size the.outputs)) where
        locals_at_lem : l ≡ locals_start (place_in (file_at s) k) the
        locals_at_lem = omega (arith, at_is)

        pub locals_there : Variables s (length (file_at s).enums) (l + 1) the.locals
        locals_there = subst (λ a. Listed variable_bytes (variable_fits base (length (file_at s).enums)) s (a + 1) the.locals) (sym locals_at_lem) ready_node.locals

-- where the sections that the code walks stand, and how long they are
pub record Sectioned (s : List ℕ) (k at i oc o l lc : ℕ) : Type 0 where
  pub few : i + oc + lc ≤ 112
  pub inside : at < 32768
  pub second : o ≡ at + 2 + sum (map variable_size (node_of (file_at s) k).inputs)
  pub third : l ≡ o + 1 + sum (map variable_size (node_of (file_at s) k).outputs)
  pub locals : lc ≡ length (node_of (file_at s) k).locals
  pub near : o ≤ at + 2 + 6 * i
  pub far : l ≤ o + 1 + 6 * oc

pub sectioned : {s rows : List ℕ} {nodes k : ℕ} (rd : NodeReady s rows nodes k) (st : FileStands s (file_at s)) {at i oc o l lc : ℕ} → at ≡ get_or rows (k * 8 + 7) 0 → i ≡ get_or rows (k * 8 + 2) 0 → oc ≡ get_or rows (k * 8 + 3) 0
    → o ≡ end_from (behind_variable s) i (at + 2) → l ≡ end_from (behind_variable s) oc (o + 1) → lc ≡ get_or s l 0 → Sectioned s k at i oc o l lc
sectioned {s} {rows} {nodes} {k} rd st {at} {i} {oc} {o} {l} {lc} ea ei eo e₁ e₂ el =
    let n = ready_node rd st in
    let second = e₁ ∙ ap (λ m. end_from (behind_variable s) m (at + 2)) (inputs_are rd st ea ei eo) ∙ variables_end (length (file_at s).enums) (node_of (file_at s) k).inputs (inputs_there rd st ea ei eo) in
    let third = e₂ ∙ ap (λ m. end_from (behind_variable s) m (o + 1)) (outputs_are rd st ea ei eo) ∙ variables_end (length (file_at s).enums) (node_of (file_at s) k).outputs (outputs_there rd st ea ei eo second) in
    let here : l ≡ locals_start (place_in (file_at s) k) (node_of (file_at s) k) = omega (arith, at_is rd st ea ei eo, second, third) in
    let locals : lc ≡ length (node_of (file_at s) k).locals = el ∙ ap (λ p. get_or s p 0) here ∙ n.local_count in
    record {
      few = omega (arith, inputs_are rd st ea ei eo, outputs_are rd st ea ei eo, locals, n.few_inputs, n.few_outputs, n.few_locals);
      inside = omega (arith, at_is rd st ea ei eo, n.inside, st.short);
      second = second;
      third = third;
      locals = locals;
      near = omega (arith, e₁, variables_near s i (at + 2));
      far = omega (arith, e₂, variables_near s oc (o + 1));
    }

-- three sections of variables, one after the other
pub entered_three : {a b c : List Variable} {names n₁ n₂ n₃ : List ℕ} {i j x y z p q r : ℕ} → i ≡ length a → j ≡ length b → Entered a names n₁ 0 x p → Entered b n₁ n₂ i y q → Entered c n₂ n₃ (i + j) z r
    → n₃ ≡ declare_all names (variable_entries 0 (a ++ b ++ c))
entered_three {a} {b} {c} {names} {n₁} {n₂} {n₃} {i} {j} ei ej u v w =
    let second : variable_entries 0 a ++ variable_entries i b ≡ variable_entries 0 (a ++ b) = ap (λ n. variable_entries 0 a ++ variable_entries n b) (omega arith) ∙ sym (entries_append 0 a b) in
    let third : variable_entries 0 (a ++ b) ++ variable_entries (i + j) c ≡ variable_entries 0 (a ++ b ++ c) = ap (λ n. variable_entries 0 (a ++ b) ++ variable_entries n c) (omega (arith, length-append a b)) ∙ sym (entries_append 0 (a ++ b) c) in
    w.entered ∙ ap (λ l. declare_all l (variable_entries (i + j) c)) (v.entered ∙ ap (λ l. declare_all l (variable_entries i b)) u.entered ∙ sym (declare_append names (variable_entries 0 a) (variable_entries i b)) ∙ ap (declare_all names) second)
    ∙ sym (declare_append names (variable_entries 0 (a ++ b)) (variable_entries (i + j) c)) ∙ ap (declare_all names) third

pub forgotten_three : {a b c : List Variable} {names n₁ n₂ n₃ : List ℕ} {x y z p q r : ℕ} → Forgotten a names n₁ x p → Forgotten b n₁ n₂ y q → Forgotten c n₂ n₃ z r → n₃ ≡ forget_all names (map name_of (a ++ b ++ c))
forgotten_three {a} {b} {c} {names} u v w =
    w.forgotten ∙ ap (λ l. forget_all l (map name_of c)) (v.forgotten ∙ ap (λ l. forget_all l (map name_of b)) u.forgotten ∙ sym (forget_append names (map name_of a) (map name_of b)) ∙ ap (forget_all names) (sym (map-append name_of a b)))
    ∙ sym (forget_append names (map name_of (a ++ b)) (map name_of c)) ∙ ap (forget_all names) (sym (map-append name_of (a ++ b) c))

-- a node's variables are entered, or taken back, where that is what is done at each
module _ {R : List ℕ → ℕ → ℕ → List ℕ → Type 0} {s rows : List ℕ} {nodes k : ℕ} {t u : List ℕ} (rd : NodeReady s rows nodes k) (st : FileStands s (file_at s)) (v : NodeVisited R s rows k t u) where
  node_sections : Sectioned s k v.at v.ins v.outs v.o v.l v.locs
  node_sections = sectioned rd st v.place v.inputs v.outputs v.second v.third v.locals

  pub node_entered : ((t : List ℕ) (i p : ℕ) (u : List ℕ) → R t i p u → u ≡ declared t (name_at s p) (i + 1)) → u ≡ node_table t (node_of (file_at s) k)
  node_entered told =
      let w = node_sections in
      let n = node_of (file_at s) k in
      let a = entered_told (record { ends = v.second; entered = enter_visits s told 0 _ t v.t₁ v.first_visits }) _ n.inputs (sym (inputs_are rd st v.place v.inputs v.outputs)) (inputs_there rd st v.place v.inputs v.outputs) in
      let b = entered_told (record { ends = v.third; entered = enter_visits s told v.ins _ v.t₁ v.t₂ v.second_visits }) _ n.outputs (sym (outputs_are rd st v.place v.inputs v.outputs)) (outputs_there rd st v.place v.inputs v.outputs w.second) in
      let c = entered_told (record { ends = refl; entered = enter_visits s told (v.ins + v.outs) _ v.t₂ u v.third_visits }) _ n.locals (sym w.locals) (locals_there rd st v.place v.inputs v.outputs w.second w.third) in
      entered_three (inputs_are rd st v.place v.inputs v.outputs) (outputs_are rd st v.place v.inputs v.outputs) a b c

  pub node_forgotten : ((t : List ℕ) (i p : ℕ) (u : List ℕ) → R t i p u → u ≡ forgot t (name_at s p)) → u ≡ forget_all t (map name_of (variables (node_of (file_at s) k)))
  node_forgotten told =
      let w = node_sections in
      let n = node_of (file_at s) k in
      let a = forgotten_told (record { ends = v.second; forgotten = forget_visits s told 0 _ t v.t₁ v.first_visits }) _ n.inputs (sym (inputs_are rd st v.place v.inputs v.outputs)) (inputs_there rd st v.place v.inputs v.outputs) in
      let b = forgotten_told (record { ends = v.third; forgotten = forget_visits s told v.ins _ v.t₁ v.t₂ v.second_visits }) _ n.outputs (sym (outputs_are rd st v.place v.inputs v.outputs)) (outputs_there rd st v.place v.inputs v.outputs w.second) in
      let c = forgotten_told (record { ends = refl; forgotten = forget_visits s told (v.ins + v.outs) _ v.t₂ u v.third_visits }) _ n.locals (sym w.locals) (locals_there rd st v.place v.inputs v.outputs w.second w.third) in
      forgotten_three a b c

-- ---- the context of a node's equations

may_told : (a b : NodeKind) → may_b (kind_code a) (kind_code b) ≡ may_call a b
may_told Function Function = refl
may_told Function Operator = refl
may_told Function Imported = refl
may_told Operator Function = refl
may_told Operator Operator = refl
may_told Operator Imported = refl
may_told Imported Function = refl
may_told Imported Operator = refl
may_told Imported Imported = refl

-- entries of variables, within the table
pub entries_ok : (room first : ℕ) (vs : List Variable) → Each (λ v. v.name < room) vs → Each (Enterable room) (variable_entries first vs)
entries_ok room first [] h = tt
entries_ok room first (v ∷ vs) h = ((h.0, omega arith), entries_ok room (first + 1) vs h.1)

entries_names : (first : ℕ) (vs : List Variable) → map (λ d. d.0) (variable_entries first vs) ≡ map name_of vs
entries_names first [] = refl
entries_names first (v ∷ vs) = ap (λ l. v.name ∷ l) (entries_names (first + 1) vs)

-- a node's table knows the node's variables and what is visible outside
pub node_knows : (names visible : List ℕ) → Knows names visible → (n : Node) → Covered (length names) n → Knows (node_table names n) (variable_names n ++ visible)
node_knows names visible knows n covered =
    subst (λ l. Knows (node_table names n) (l ++ visible)) (entries_names 0 (variables n)) (knows_all names visible (variable_entries 0 (variables n)) knows (entries_ok (length names) 0 (variables n) covered))

module _ {s rows : List ℕ} {nodes k : ℕ} (rd : NodeReady s rows nodes k) where
  calls_told : (c n : ℕ) → bad_b rows k c n ≡ bad_call (file_at s) k (node_of (file_at s) k) c n
  calls_told c n =
      by_cases (dec_lt c k)
      (λ lt.
      let mine = rd.row k (omega (arith, rd.low, rd.many)) in
      let its = rd.row c (omega (arith, rd.low, rd.many)) in
      let may : may_b (row_at rows k 0) (row_at rows c 0) ≡ may_call (node_of (file_at s) k).kind (node_of (file_at s) c).kind =
      ap (λ x. may_b x (row_at rows c 0)) mine.kind ∙ ap (may_b (kind_code (node_of (file_at s) k).kind)) its.kind ∙ may_told (node_of (file_at s) k).kind (node_of (file_at s) c).kind in
      ap (λ b. not (ltb c k && b && eqb n (row_at rows c 2))) may ∙ ap (λ m. not (ltb c k && may_call (node_of (file_at s) k).kind (node_of (file_at s) c).kind && eqb n m)) its.inputs)
      (λ no. let high : ltb c k ≡ false = le-ltb c k (omega arith) in rw high refl)

  pub outputs_told : (c : ℕ) → outputs_b rows nodes c ≡ length (callee_in (file_at s) c).outputs
  outputs_told c =
      by_cases (dec_lt c nodes)
      (λ lt. rw (lt-ltb c nodes lt) (rd.row c (omega (arith, rd.many))).outputs)
      (λ no. rw (le-ltb c nodes (omega arith)) (ap (λ n. length n.outputs) (sym (get_or-eq_default (file_at s).nodes no_node {n = c} (omega (arith, rd.many))))))

  entries_low : (first : ℕ) (vs : List Variable) → first + length vs ≤ 112 → Each (λ d. d.1 ≤ 112) (variable_entries first vs)
  entries_low first [] h = tt
  entries_low first (v ∷ vs) h = (omega arith, entries_low (first + 1) vs (omega arith))

  pub node_context : (names visible : List ℕ) → Knows names visible → Covered (length names) (node_of (file_at s) k)
      → Context (file_at s) k (node_table names (node_of (file_at s) k)) rows nodes (variable_names (node_of (file_at s) k) ++ visible) (bad_call (file_at s) k (node_of (file_at s) k))
  node_context names visible knows covered =
      record { knows = node_knows names visible knows (node_of (file_at s) k) covered; calls = calls_told; outputs = outputs_told }

  pub node_restored : (names : List ℕ) → FileStands s (file_at s) → Global names → forget_all (node_table names (node_of (file_at s) k)) (map name_of (variables (node_of (file_at s) k))) ≡ names
  node_restored names st global =
      let n = node_of (file_at s) k in
      let ns = node_at_lem st k (omega (arith, rd.low, rd.many)) in
      let few : length (variables n) ≤ 112 = omega (arith, ns.few_inputs, ns.few_outputs, ns.few_locals, length-append (n.inputs ++ n.outputs) n.locals, length-append n.inputs n.outputs) in
      ap (forget_all (node_table names n)) (sym (entries_names 0 (variables n))) ∙ restored names (variable_entries 0 (variables n)) global (entries_low 0 (variables n) (omega arith))

-- ---- a node

-- its equations stand where its row says
pub equations_ready : {s rows : List ℕ} {nodes k : ℕ} → NodeReady s rows nodes k → FileStands s (file_at s) → (names : List ℕ) {n₁ : List ℕ} {m a : ℕ} → NamesReady names (file_at s) → n₁ ≡ node_table names (node_of (file_at s) k) → m ≡ row_at rows k 5
    → a ≡ row_at rows k 1 → EquationsReady s n₁ rows nodes k m a
equations_ready {s} {rows} {nodes} {k} rd st names {n₁} {m} {a} nr en em ea =
    let f = file_at s in
    let n = node_of f k in
    let row = rd.row k (omega (arith, rd.low, rd.many)) in
    record {
      context = subst (λ l. Context f k l rows nodes (seen_in f k) (bad_call f k n)) (sym en) (node_context rd names (global_names f) nr.knows (nr.covered k (omega (arith, rd.low, rd.many))));
      count = em ∙ row.count;
      stand = subst (λ x. Listed equation_bytes (equation_fits base (length f.enums)) s x n.equations) (sym (ea ∙ row.equations)) (node_at_lem st k (omega (arith, rd.low, rd.many))).equations;
    }

module _ {s rows : List ℕ} {nodes k : ℕ} (rd : NodeReady s rows nodes k) (st : FileStands s (file_at s)) (names : List ℕ) {n₁ slots slots' : List ℕ} {defined' : List Bool} {m a i z : ℕ} {g r : Findings}
    (en : n₁ ≡ node_table names (node_of (file_at s) k)) (em : m ≡ get_or rows (k * 8 + 5) 0) (ea : a ≡ get_or rows (k * 8 + 1) 0) (ei : i ≡ get_or rows (k * 8 + 2) 0) (ez : z ≡ own_size (node_of (file_at s) k))
    (w : EquationsJudged s n₁ rows nodes k (file_at s) (seen_in (file_at s) k) (bad_call (file_at s) k (node_of (file_at s) k)) i a (node_of (file_at s) k).equations slots slots' (replicate 256 false) defined'
    (record { unseen = g.unseen; again = g.again; called = g.called; shaped = g.shaped; arrays = g.arrays; size = z; next = a }) r) where
  pub node_judged : NodeJudged s names rows nodes (file_at s) k slots slots' g r
  node_judged =
      let f = file_at s in
      let n = node_of f k in
      let p = place_in f k in
      let row = rd.row k (omega (arith, rd.low, rd.many)) in
      let ns = node_at_lem st k (omega (arith, rd.low, rd.many)) in
      let visible = global_names f in
      let here : a ≡ equations_start p n + 1 = ea ∙ row.equations in
      record {
        unseen = w.unseen ∙ ap (λ x. found_in g.unseen (concat (map (equation_uses (variable_names n ++ visible)) (placed equation_size x n.equations)))) here;
        again = w.again ∙ ap (λ x. found_in g.again (again_b n₁ i (replicate 256 false) (concat (map defined_by (placed equation_size x n.equations))))) here
            ∙ ap (λ l. found_in g.again (again_b l i (replicate 256 false) (concat (map defined_by (placed equation_size (equations_start p n + 1) n.equations))))) en
            ∙ ap (λ x. found_in g.again (again_b (node_table names n) x (replicate 256 false) (concat (map defined_by (placed equation_size (equations_start p n + 1) n.equations))))) (ei ∙ row.inputs);
        called = w.called ∙ ap (λ x. found_in g.called (concat (map (in_equation (uses_where (bad_call f k n) (bad_iterator k))) (placed equation_size x n.equations)))) here;
        shaped = w.shaped ∙ ap (λ x. found_in g.shaped (concat (map (equation_shape f) (placed equation_size x n.equations)))) here;
        arrays = w.arrays ∙ ap (λ x. or_all g.arrays (concat (map equation_forms (placed equation_size x n.equations)))) here;
        slotted = w.slotted ∙ ap (λ x. slot_equations s n₁ k slots (placed equation_size x n.equations)) here ∙ ap (λ l. slot_equations s l k slots (placed equation_size (equations_start p n + 1) n.equations)) en;
        sized = w.sized ∙ ap (λ x. min (x + sum (map (callee_b rows nodes) (sites n))) 65536) ez;
      }

-- the table by name in a node tells the types that stand before its plan, and how many cells its variables have
module _ {s rows : List ℕ} {nodes k : ℕ} (rd : NodeReady s rows nodes k) (st : FileStands s (file_at s)) (names : List ℕ) {n₁ plans : List ℕ} {constants p place : ℕ} {arrays : Bool} (nr : NamesReady names (file_at s))
    (en : n₁ ≡ node_table names (node_of (file_at s) k)) (pr : PlansReady s constants arrays plans) (ep : p ≡ plan_in (file_at s) k) (ea : place ≡ place_in (file_at s) k) where
  low : k < length (file_at s).nodes
  low = omega (arith, rd.low, rd.many)

  ahead : (x : ℕ) → x < p → get_or (take p plans) x 0 ≡ get_or plans x 0
  ahead x lt = get_or-take p plans x 0 lt

  lengths_there : (i : ℕ) → i < length (variables (node_of (file_at s) k)) → get_or (take p plans) (place + 2 * i + 1) 0 ≡ array_length (get_or (variables (node_of (file_at s) k)) i no_variable).ty
  lengths_there i lt = ahead (place + 2 * i + 1) (omega (arith, ep, ea)) ∙ ap (λ a. get_or plans (a + 2 * i + 1) 0) ea ∙ pr.typed.lengths k low i lt

  constants_there : (i : ℕ) → i < length (file_at s).constants → get_or (take p plans) (constants + 2 * i + 1) 0 ≡ array_length (get_or (file_at s).constants i no_constant).ty
  constants_there i lt = ahead (constants + 2 * i + 1) (omega (arith, pr.place, ep, constants_apart st k low)) ∙ ap (λ a. get_or plans (a + 2 * i + 1) 0) pr.place ∙ pr.lengths i lt

  looks_ahead : Looks (file_at s) k n₁ (take p plans) place constants
  looks_ahead x =
      let n = node_of (file_at s) k in
      let few = few_variables (node_at_lem st k low) in
      let outside : (y : ℕ) → EntryWithin (length (variables n)) (length (file_at s).constants) (get_or names y 0) = λ y. record { variable = λ a b. let z = nr.global y b in absurd (omega arith); constant = nr.constants y } in
      rw en (known_from (variable_known st k low lengths_there) (constant_known st (length (file_at s).constants) (omega arith) constants_there) (within_all (variable_entries 0 (variables n)) names (within_variables (length (file_at s).constants) (variables n) 0 (omega arith) few) outside x))

  pub node_looks : {types : List ℕ} → types ≡ take p plans → Looks (file_at s) k n₁ types place constants
  node_looks et x = rw et (looks_ahead x)

  pub node_cells : {types : List ℕ} {v c : ℕ} → types ≡ take p plans → v ≡ length (variables (node_of (file_at s) k)) → c ≡ cells_by arrays types place v → c ≡ cell_count (node_of (file_at s) k)
  node_cells {types} {v} {c} et ev ec = ec ∙ ap (λ l. cells_by arrays l place v) et ∙ ap (cells_by arrays (take p plans) place) ev ∙ go arrays pr.scalars
    where
      go : (b : Bool) → Undeclared b (file_at s) → cells_by b (take p plans) place (length (variables (node_of (file_at s) k))) ≡ cell_count (node_of (file_at s) k)
      go true h = (counts_are (take p plans) place (node_of (file_at s) k) (cells_node (take p plans) place (node_of (file_at s) k) (node_at_lem st k low) lengths_there)).2
      go false h = sym (cell_count_lem st (h refl) k low)

-- the length of the node's records is stored
pub size_stored : (rows : List ℕ) (k : ℕ) {rows' : List ℕ} {kind size : ℕ} (z : ℕ) → kind ≡ row_at rows k 0 → size ≡ record_by kind z → rows' ≡ set rows (k * 8 + 6) size → rows' ≡ set rows (k * 8 + 6) (record_by (row_at rows k 0) z)
size_stored rows k {rows'} {kind} {size} z ek es er = er ∙ ap (set rows (k * 8 + 6)) (es ∙ ap (λ x. record_by x z) ek)

-- entered and taken back
pub node_back : {s rows : List ℕ} {nodes k : ℕ} → NodeReady s rows nodes k → FileStands s (file_at s) → (names : List ℕ) {n₁ n₂ : List ℕ} → Global names → n₁ ≡ node_table names (node_of (file_at s) k)
    → n₂ ≡ forget_all n₁ (map name_of (variables (node_of (file_at s) k))) → n₂ ≡ names
node_back {s} {rows} {nodes} {k} rd st names global e₁ e₂ = e₂ ∙ ap (λ l. forget_all l (map name_of (variables (node_of (file_at s) k)))) e₁ ∙ node_restored rd names st global

-- ---- all nodes

-- an item of a list, with its place
pub placed_get : {A : Type 0} (size : A → ℕ) (d : A) (xs : List A) (at k : ℕ) → k < length xs → get_or (placed size at xs) k (0, d) ≡ (get_or (map (λ p. p.0) (placed size at xs)) k 0, get_or xs k d)
placed_get size d [] at k lt = absurd (omega arith)
placed_get size d (x ∷ xs) at zero lt = refl
placed_get size d (x ∷ xs) at (suc k) lt = placed_get size d xs (at + size x) k (omega arith)

-- node k is the first of those that are left
pub nodes_on : (f : File) (k : ℕ) → k < length f.nodes → drop k (placed_nodes f) ≡ (place_in f k, node_of f k) ∷ drop (k + 1) (placed_nodes f)
nodes_on f k lt =
    drop-cons (placed_nodes f) k (0, no_node) (omega (arith, length_placed node_size (nodes_start f) f.nodes))
    ∙ ap (λ x. x ∷ drop (suc k) (placed_nodes f)) (placed_get node_size no_node f.nodes (nodes_start f) k lt)
    ∙ ap (λ n. (place_in f k, node_of f k) ∷ drop n (placed_nodes f)) (sym (add-one k))

-- the items of an element, and of those that are left after it
left_on : {A : Type 0} (g : A → List Item) (l rest : List A) (x : A) (o o' z : Option ℕ) → l ≡ x ∷ rest → o' ≡ found_in o (g x) → found_in o (concat (map g l)) ≡ z → found_in o' (concat (map g rest)) ≡ z
left_on g l rest x o o' z el eo ez = ap (λ y. found_in y (concat (map g rest))) eo ∙ found_append o (g x) (concat (map g rest)) ∙ ap (λ m. found_in o (concat (map g m))) (sym el) ∙ ez

pub record NodesGoing (s names : List ℕ) (f : File) (slots₀ : List ℕ) (g₀ : Findings) (slots : List ℕ) (g : Findings) (k : ℕ) : Type 0 where
  pub unseen : found_in g.unseen (concat (map (node_uses (global_names f)) (drop k (placed_nodes f)))) ≡ found_in g₀.unseen (concat (map (node_uses (global_names f)) (placed_nodes f)))
  pub again : found_in g.again (concat (map (node_again names) (drop k (placed_nodes f)))) ≡ found_in g₀.again (concat (map (node_again names) (placed_nodes f)))
  pub called : found_in g.called (concat (map (node_calls f) (numbered k (drop k (placed_nodes f))))) ≡ found_in g₀.called (concat (map (node_calls f) (numbered 0 (placed_nodes f))))
  pub shaped : found_in g.shaped (concat (map (node_shape f) (drop k (placed_nodes f)))) ≡ found_in g₀.shaped (concat (map (node_shape f) (placed_nodes f)))
  pub arrays : or_all g.arrays (concat (map node_forms (drop k (placed_nodes f)))) ≡ or_all g₀.arrays (concat (map node_forms (placed_nodes f)))
  pub slotted : slot_nodes s names slots k (drop k (placed_nodes f)) ≡ slot_nodes s names slots₀ 0 (placed_nodes f)

module _ {s names : List ℕ} {f : File} {slots₀ : List ℕ} {g₀ : Findings} where
  pub nodes_start_lem : NodesGoing s names f slots₀ g₀ slots₀ g₀ 0
  nodes_start_lem = record { unseen = refl; again = refl; called = refl; shaped = refl; arrays = refl; slotted = refl }

  module _ {slots : List ℕ} {g : Findings} {k : ℕ} (w : NodesGoing s names f slots₀ g₀ slots g k) where
    pub nodes_turn : k < length f.nodes → (slots' : List ℕ) (r : Findings) {rows : List ℕ} {nodes : ℕ} → NodeJudged s names rows nodes f k slots slots' g r → NodesGoing s names f slots₀ g₀ slots' r (k + 1)
    unfolding slot_nodes
    nodes_turn lt slots' r j =
        let x : ℕ × Node = (place_in f k, node_of f k) in
        let on = nodes_on f k lt in
        let rest = drop (k + 1) (placed_nodes f) in
        let counted : numbered k (drop k (placed_nodes f)) ≡ (k, x) ∷ numbered (k + 1) rest = ap (numbered k) on ∙ ap (λ n. (k, x) ∷ numbered n rest) (sym (add-one k)) in
        record {
          unseen = left_on (node_uses (global_names f)) (drop k (placed_nodes f)) rest x g.unseen _ _ on j.unseen w.unseen;
          again = left_on (node_again names) (drop k (placed_nodes f)) rest x g.again _ _ on j.again w.again;
          called = left_on (node_calls f) (numbered k (drop k (placed_nodes f))) (numbered (k + 1) rest) (k, x) g.called _ _ counted j.called w.called;
          shaped = left_on (node_shape f) (drop k (placed_nodes f)) rest x g.shaped _ _ on j.shaped w.shaped;
          arrays = ap (λ b. or_all b (concat (map node_forms rest))) j.arrays ∙ or_append g.arrays (node_forms x) (concat (map node_forms rest)) ∙ ap (λ l. or_all g.arrays (concat (map node_forms l))) (sym on) ∙ w.arrays;
          slotted = ap (λ l. slot_nodes s names l (k + 1) rest) j.slotted ∙ ap (slot_nodes s names slots k) (sym on) ∙ w.slotted;
        }

    pub nodes_judged : length f.nodes ≤ k → NodesJudged s names f slots₀ slots g₀ g
    unfolding slot_nodes or_all
    nodes_judged over =
        let empty : drop k (placed_nodes f) ≡ [] = drop_of_length-le (placed_nodes f) {i = k} (omega (arith, length_placed node_size (nodes_start f) f.nodes)) in
        record {
          unseen = sym (found_none g.unseen) ∙ ap (λ l. found_in g.unseen (concat (map (node_uses (global_names f)) l))) (sym empty) ∙ w.unseen;
          again = sym (found_none g.again) ∙ ap (λ l. found_in g.again (concat (map (node_again names) l))) (sym empty) ∙ w.again;
          called = sym (found_none g.called) ∙ ap (λ l. found_in g.called (concat (map (node_calls f) (numbered k l)))) (sym empty) ∙ w.called;
          shaped = sym (found_none g.shaped) ∙ ap (λ l. found_in g.shaped (concat (map (node_shape f) l))) (sym empty) ∙ w.shaped;
          arrays = ap (λ l. or_all g.arrays (concat (map node_forms l))) (sym empty) ∙ w.arrays;
          slotted = ap (slot_nodes s names slots k) (sym empty) ∙ w.slotted;
        }

-- there are as many nodes as the file has
pub ready_counted : {s rows : List ℕ} {nodes k : ℕ} → NodeReady s rows nodes k → NodeReady s rows (length (file_at s).nodes) k
ready_counted rd = record { reads = rd.reads; row = rd.row; many = refl; low = omega (arith, rd.low, rd.many); few = omega (arith, rd.few, rd.many) }

pub ready_at : {s rows : List ℕ} {nodes : ℕ} → RowsReady s rows nodes → (k : ℕ) → k < nodes → NodeReady s rows nodes k
ready_at rd k lt = record { reads = rd.reads; row = rd.row; many = rd.many; low = lt; few = rd.few }

-- the table is the one at the start
pub judged_same : {s names names₀ rows : List ℕ} {nodes : ℕ} {f : File} {k : ℕ} {slots slots' : List ℕ} {g r : Findings} → names ≡ names₀ → NodeJudged s names rows nodes f k slots slots' g r → NodeJudged s names₀ rows nodes f k slots slots' g r
judged_same {s} {names} {names₀} {rows} {nodes} {f} {k} {slots} {slots'} {g} {r} e h = subst (λ l. NodeJudged s l rows nodes f k slots slots' g r) e h
