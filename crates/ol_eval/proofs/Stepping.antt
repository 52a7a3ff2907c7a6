-- Laws of calling a node on its record: an Operator's instance steps, a Function runs as on a fresh record.
use Prim.Native.Nat.{ℕ, suc, ◌+◌, ◌-◌, ◌*◌, ◌<◌, ◌≤◌}
use mathlib.Core.Bool.{Bool, false}
use mathlib.Core.List.{List, [], ◌∷◌, ◌++◌, map}
use mathlib.Core.Path.{◌≡◌, refl, sym, ap, subst, ◌∙◌}
use native.Mathlib.Omega.{arith}
use lib.ListN.{length, take, drop, get_or, length-append, length-drop, length-map}
use lib.Seq.{take_all}
use lib.Dec.{T}
use Rattle.ol_spec.specs.Lists.{concat}
use Rattle.ol_spec.specs.Syntax.{NodeKind, Function, Operator, Imported, Equation, Node, File, variables, cell_types, Expr, bool_lit, int_lit, float_lit, char_lit, var, unary, binary, if_then_else, pre, arrow, cast, call, tuple, index, literal, map_over, fold_over, Exprs, nil, cons, count, no_node}
use Rattle.ol_spec.specs.Cell.{cells as cell_bytes, values_of}
use Rattle.ol_spec.specs.Types.{defaults}
use Rattle.ol_spec.specs.Order.{order}
use Rattle.ol_spec.specs.Eval.{Globals, Evals, callees, sites_size, size_in, seg_size}
use Rattle.ol_spec.specs.Step.{equation_sites, sites, own_size, cell_count, input_count, output_count, is_fresh, old_cells, split, outputs_in, fit_all, Run, finished, failed_at, overflowed_at, no_equation, run_all, run, fresh_at, fresh_record, globals, leave_on, leave, instance, call_by, calls}
use Rattle.ol_spec.specs.Step.{Ended as RunEnd}
use Rattle.ol_spec.specs.State.{globals_of}
use Rattle.ol_spec.specs.Admission.{Item, may_call, bad_call, bad_iterator, uses_where, constant_cell_names}
use Rattle.ol_spec.specs.declared.Value.{Value}
use Rattle.ol_spec.specs.declared.Cause.{Cause}
use Rattle.ol_spec.proofs.Cells.{length_cells}
use Rattle.ol_spec.proofs.Segments.{sites_append}
use Rattle.ol_tables.specs.At.{file_at, node_in, exprs_at}
use Rattle.ol_tables.specs.Tables.{Each, Sound, row_at, count_at}
use Rattle.ol_tables.specs.Tables.{node_of as file_node}
use Rattle.ol_tables.proofs.Forms.{each_append, each_join}
use Rattle.ol_state.specs.Defaults.{own_count, own_cells}
use Rattle.ol_state.proofs.Instances.{is_operator_lem as fresh_operator, no_operator, operator_size, no_size_lem, default_cells_lem, own_count_lem}
use Rattle.ol_frame.specs.Walk.{nodes_in, sizes_in, Below}
use Rattle.ol_frame.specs.Plans.{known_in, globals_in, width_in}
use Rattle.ol_frame.specs.Equations.{count_in, equation_in, rhs_in}
use Rattle.ol_frame.specs.Nodes.{Running}
use Rattle.ol_eval.specs.Calls.{as_is, Did, outputs_at, Steppable, SiteTo, Runnable, run_in, EndsAs, RunMeets, RunTo}
use Rattle.ol_eval.specs.declared.eval.Ended.{Ended}
use Rattle.ol_frame.specs.declared.outcomes.Ending.{Ending}
use Rattle.ol_frame.specs.declared.outcomes.Ending.TheVariants as End
use Rattle.ol_tables.proofs.Lending.{tail_of, put_tail, tail_all, drop_put, length_put}
use Rattle.ol_frame.proofs.Endings.{failed_values, over_values, over_failed, one_cause}
use Rattle.ol_frame.proofs.Planning.{sound_call, sounds_each}
use Rattle.ol_frame.proofs.Passing.{callees_one}
use Rattle.ol_frame.proofs.Depth.{calls_of}
use Rattle.ol_state.proofs.FreshRecords.{fresh_record_lem}
use Rattle.ol_frame.specs.Frame.{Opened, Freshened}
use Rattle.ol_frame.specs.declared.frame.Frame.{Frame}
use Rattle.ol_frame.proofs.Tabling.{rows_room}
use Rattle.ol_frame.proofs.Programs.{narrow as narrow_in}
use Rattle.ol_spec.specs.Places.{collect, collect_all, expr_size}
use Rattle.ol_spec.proofs.Forms.{uses, uses_all, uses_in, used_by}
use Rattle.ol_spec.proofs.CellLengths.{types_append}
use Rattle.ol_spec.proofs.Tests.{not_false}
use Rattle.ol_theory.specs.Member.{◌∈◌}
use mathlib.Core.List.Memᴰ.{cases_cons as in_cons}
use mathlib.Core.List.Memᴰ.{not-nil as in_nil}
use mathlib.Core.Logic.{⊎_elim, by_cases}
use native.Mathlib.Decide.{dec_lt}
use lib.Dec.{ltb, ltb→lt}
use lib.ListN.{get_or-eq_default}
use Rattle.ol_tables.specs.Table.{tab_of}
use Rattle.ol_frame.proofs.Storing.{values_take, values_drop, values_front}
use Rattle.ol_eval.proofs.Uses.{uses_one}

-- ---- lists

-- what holds of each equation by its number
each_index : (P : Equation → Type 0) (qs : List Equation) → ((i : ℕ) → i < length qs → P (get_or qs i no_equation)) → Each P qs
each_index P [] f = tt
each_index P (q ∷ qs) f = (f 0 (omega arith), each_index P qs (λ i l. f (suc i) (omega arith)))

-- of lists joined, and of a member
each_concat : (P : ℕ → Type 0) (qs : List Equation) → Each (λ q. Each P (uses q.rhs)) qs → Each P (concat (map uses_in qs))
each_concat P [] h = tt
each_concat P (q ∷ qs) h = each_join P (uses q.rhs) (concat (map uses_in qs)) h.0 (each_concat P qs h.1)

each_member : (P : ℕ → Type 0) (xs : List ℕ) → Each P xs → (x : ℕ) → x ∈ xs → P x
each_member P [] h x m = absurd (in_nil m)
each_member P (y ∷ xs) h x m = ⊎_elim (λ e. subst P (sym e) h.0) (λ n. each_member P xs h.1 x n) (in_cons m)

both_empty : (s t : List ℕ) → length s ≡ 0 → length t ≡ 0 → s ≡ t
both_empty [] [] a b = refl
both_empty [] (x ∷ t) a b = absurd (omega arith)
both_empty (x ∷ s) t a b = absurd (omega arith)

-- call sites without records
no_bytes : (sizes ks : List ℕ) → Each (λ c. size_in sizes c ≡ 0) ks → sites_size sizes ks ≡ 0
unfolding sites_size
no_bytes sizes [] h = refl
no_bytes sizes (k ∷ ks) h = omega (arith, h.0, no_bytes sizes ks h.1)

sites_none : (sizes : List ℕ) (qs : List Equation) → Each (λ q. sites_size sizes (callees q.rhs) ≡ 0) qs → sites_size sizes (concat (map equation_sites qs)) ≡ 0
unfolding sites_size
sites_none sizes [] h = refl
sites_none sizes (q ∷ qs) h = omega (arith, sites_append sizes (callees q.rhs) (concat (map equation_sites qs)), h.0, sites_none sizes qs h.1)

-- equations without records have empty segments
split_none : (g : Globals) (qs : List Equation) (s t : List ℕ) → Each (λ q. seg_size g q.rhs ≡ 0) qs → split g qs s ≡ split g qs t
unfolding split
split_none g [] s t h = refl
split_none g (q ∷ qs) s t h =
    let a = h.0 in
    λ j. (ap (λ (n : ℕ). take n s) a ∙ sym (ap (λ (n : ℕ). take n t) a)) j ∷ split_none g qs (drop (seg_size g q.rhs) s) (drop (seg_size g q.rhs) t) h.1 j

-- ---- the nodes that an expression without fault uses

module _ (f : File) (k : ℕ) (n : Node) where
  abbrev found : ℕ → Expr → List Item
  found = uses_where (bad_call f k n) (bad_iterator k)

  abbrev under : ℕ → Type 0
  under c = c < k

  mutual
    unfolding collect

    uses_lower : (at : ℕ) (e : Expr) → Each Sound (collect (uses_where (bad_call f k n) (bad_iterator k)) at e) → Each (λ c. c < k) (uses e)
    uses_lower at (bool_lit b) h = tt
    uses_lower at (int_lit i) h = tt
    uses_lower at (float_lit b) h = tt
    uses_lower at (char_lit c) h = tt
    uses_lower at (var x) h = tt
    uses_lower at (unary op e) h = uses_lower (at + 2) e h
    uses_lower at (binary op l r) h =
        let t = each_append Sound (collect found (at + 2) l) (collect found (at + 2 + expr_size l) r) h in
        each_join under (uses l) (uses r) (uses_lower _ l t.0) (uses_lower _ r t.1)
    uses_lower at (if_then_else c t e) h =
        let C = collect found (at + 1) c in
        let D = collect found (at + 1 + expr_size c) t in
        let E = collect found (at + 1 + expr_size c + expr_size t) e in
        let u = each_append Sound C (D ++ E) h in
        let v = each_append Sound D E u.1 in
        each_join under (uses c) (uses t ++ uses e) (uses_lower _ c u.0) (each_join under (uses t) (uses e) (uses_lower _ t v.0) (uses_lower _ e v.1))
    uses_lower at (pre e) h = uses_lower (at + 1) e h
    uses_lower at (arrow a b) h =
        let t = each_append Sound (collect found (at + 1) a) (collect found (at + 1 + expr_size a) b) h in
        each_join under (uses a) (uses b) (uses_lower _ a t.0) (uses_lower _ b t.1)
    uses_lower at (cast t e) h = uses_lower _ e h
    uses_lower at (call c es) h = ((sound_call f k n c (count es) h.0).lower, all_lower (at + 3) es h.1)
    uses_lower at (tuple es) h = all_lower (at + 2) es h
    uses_lower at (index a i) h =
        let t = each_append Sound (collect found (at + 1) a) (collect found (at + 1 + expr_size a) i) h in
        each_join under (uses a) (uses i) (uses_lower _ a t.0) (uses_lower _ i t.1)
    uses_lower at (literal es) h = all_lower (at + 2) es h
    uses_lower at (map_over c es) h = (ltb→lt c k (not_false (ltb c k) h.0), all_lower (at + 4) es h.1)
    uses_lower at (fold_over c s es) h =
        let t = each_append Sound (collect found (at + 4) s) (collect_all found (at + 4 + expr_size s) es) h.1 in
        (ltb→lt c k (not_false (ltb c k) h.0), each_join under (uses s) (uses_all es) (uses_lower _ s t.0) (all_lower _ es t.1))

    all_lower : (at : ℕ) (es : Exprs) → Each Sound (collect_all (uses_where (bad_call f k n) (bad_iterator k)) at es) → Each (λ c. c < k) (uses_all es)
    all_lower at nil h = tt
    all_lower at (cons e es) h =
        let t = each_append Sound (collect found at e) (collect_all found (at + expr_size e) es) h in
        each_join under (uses e) (uses_all es) (uses_lower at e t.0) (all_lower _ es t.1)

-- ---- what calls mean

module _ {file tab rows consts : List ℕ} (ready : Running file tab rows consts) where
  abbrev g : Globals
  g = globals_in file consts

  equation_lower : (k i : ℕ) → k < nodes_in file → i < count_in file k → Each (Below k) (uses (equation_in file k i).rhs)
  equation_lower k i h l =
      let p = (ready.nodes k h).equations i l in
      subst (Each (Below k)) (uses_one file 24 (rhs_in file k i) p.plan.reads ∙ ap uses p.tree) (all_lower (file_at file) k (node_in file k) (rhs_in file k i) (exprs_at file 24 1 (rhs_in file k i)) p.plan.sound)

  -- the nodes that a node calls or iterates are of lower numbers
  used_lower : (k c : ℕ) → c ∈ used_by (node_in file k) → c < k
  used_lower k c m =
      by_cases (dec_lt k (nodes_in file))
      (λ h. each_member (Below k) (used_by (node_in file k)) (each_concat (Below k) (node_in file k).equations (each_index (λ q. Each (Below k) (uses q.rhs)) (node_in file k).equations (λ i l. equation_lower k i h l))) c m)
      (λ h. absurd (in_nil (subst (λ (n : Node). c ∈ used_by n) (get_or-eq_default (file_at file).nodes no_node (omega arith)) m)))

  -- of an Operator
  pub operator_call : (k : ℕ) (vs : List Value) (r : List ℕ) → k < nodes_in file → (node_in file k).kind ≡ Operator → calls g k vs r ≡ instance g (calls g) (node_in file k) vs r
  operator_call k vs r h e = calls_of g used_lower k vs r h ∙ ap (λ (t : NodeKind). call_by g t (calls g) (node_in file k) vs r) e

  -- of a Function
  pub function_call : (k : ℕ) (vs : List Value) (r : List ℕ) → k < nodes_in file → (node_in file k).kind ≡ Function
      → calls g k vs r ≡ record { out = (instance g (calls g) (node_in file k) vs (fresh_record g (node_in file k))).out; seg = r }
  function_call k vs r h e = calls_of g used_lower k vs r h ∙ ap (λ (t : NodeKind). call_by g t (calls g) (node_in file k) vs r) e

  -- a Function calls no Operator
  function_calls : (k c m : ℕ) → (node_in file k).kind ≡ Function → bad_call (file_at file) k (node_in file k) c m ≡ false → (c < k) × ¬ ((file_node (file_at file) c).kind ≡ Operator)
  function_calls k c m e h =
      let s = sound_call (file_at file) k (node_in file k) c m h in
      (s.lower, λ o. subst T (λ j. may_call (e j) (o j)) s.kinds)

  equation_none : (k i : ℕ) → k < nodes_in file → (node_in file k).kind ≡ Function → i < count_in file k → sites_size (sizes_in file) (callees (equation_in file k i).rhs) ≡ 0
  equation_none k i h e l =
      let p = (ready.nodes k h).equations i l in
      let P : ℕ → Type 0 = λ c. size_in (sizes_in file) c ≡ 0 in
      let w = sounds_each (file_at file) k (node_in file k) P (λ c m b. let t = function_calls k c m e b in no_size_lem ready.known {k = c} (omega (arith, t.0)) t.1) (rhs_in file k i) (exprs_at file 24 1 (rhs_in file k i)) p.plan.sound in
      no_bytes (sizes_in file) (callees (equation_in file k i).rhs) (subst (Each P) (callees_one file 24 (rhs_in file k i) p.plan.reads ∙ ap callees p.tree) w)

  no_records : (k : ℕ) → k < nodes_in file → (node_in file k).kind ≡ Function → Each (λ q. sites_size (sizes_in file) (callees q.rhs) ≡ 0) (node_in file k).equations
  no_records k h e = each_index (λ q. sites_size (sizes_in file) (callees q.rhs) ≡ 0) (node_in file k).equations (λ i l. equation_none k i h e l)

  pub function_size : (k : ℕ) → k < nodes_in file → (node_in file k).kind ≡ Function → sites_size (sizes_in file) (sites (node_in file k)) ≡ 0
  function_size k h e = sites_none (sizes_in file) (node_in file k).equations (no_records k h e)

  pub function_split : (k : ℕ) (s t : List ℕ) → k < nodes_in file → (node_in file k).kind ≡ Function → split g (node_in file k).equations s ≡ split g (node_in file k).equations t
  function_split k s t h e = split_none g (node_in file k).equations s t (no_records k h e)

  -- all constants are known
  pub all_known : globals_in file consts ≡ globals_of (file_at file) (values_of (known_in consts) consts)
  all_known =
      let e = take_all (known_in consts) (constant_cell_names (file_at file)) (omega (arith, ready.constants)) in
      ap (λ (xs : List ℕ). globals (file_at file) xs (values_of (known_in consts) consts)) e

  -- an Operator's fresh record
  pub fresh_here : (k : ℕ) → k < nodes_in file → (node_in file k).kind ≡ Operator → fresh_at g (nodes_in file) k ≡ fresh_record g (node_in file k)
  fresh_here k h e = subst (λ (x : Globals). fresh_at x (nodes_in file) k ≡ fresh_record x (node_in file k)) (sym all_known) (fresh_record_lem (file_at file) (values_of (known_in consts) consts) ready.known.lower k h e)

-- ---- how a call ends

module _ (g : Globals) (n : Node) where
  -- a finished run
  pub left_finished : (old : List ℕ) (U : Run) (r : Ended) (got outs : List Value) (segs new : List ℕ) → RunMeets U r got segs → r.end ≡ End.Values → outs ≡ outputs_in n got → new ≡ 1 ∷ cell_bytes got ++ segs → Did as_is (leave g n old U) End.Values outs new
  unfolding leave
  left_finished old U r got outs segs new m z o w = go U.end m.ends m.cells_are
    where
      go : (e : RunEnd) → EndsAs e r → (e ≡ finished → got ≡ U.cells) → Did as_is (leave_on g n old e U.cells U.segs) End.Values outs new
      go finished s c = record { end_is = refl; values_are = o ∙ ap (outputs_in n) (c refl); state = w ∙ (λ j. 1 ∷ cell_bytes (c refl j) ++ m.state j) }
      go (failed_at d i) s c = failed_values s.0 z
      go (overflowed_at i) s c = over_values s.0 z

  -- a failed one
  pub left_failed : (d : Cause) (old : List ℕ) (U : Run) (r : Ended) (got outs : List Value) (segs new : List ℕ) → RunMeets U r got segs → r.end ≡ End.Failed d → new ≡ fresh_record g n → Did as_is (leave g n old U) (End.Failed d) outs new
  unfolding leave
  left_failed d old U r got outs segs new m z w = go U.end m.ends
    where
      go : (e : RunEnd) → EndsAs e r → Did as_is (leave_on g n old e U.cells U.segs) (End.Failed d) outs new
      go finished s = failed_values z s
      go (failed_at c i) s = record { end_is = ap End.Failed (one_cause z s.0); values_are = tt; state = w }
      go (overflowed_at i) s = over_failed s.0 z

  -- one that overflowed
  pub left_overflowed : (old : List ℕ) (U : Run) (r : Ended) (got outs : List Value) (segs new : List ℕ) → RunMeets U r got segs → r.end ≡ End.Overflowed → new ≡ old → Did as_is (leave g n old U) End.Overflowed outs new
  unfolding leave
  left_overflowed old U r got outs segs new m z w = go U.end m.ends
    where
      go : (e : RunEnd) → EndsAs e r → Did as_is (leave_on g n old e U.cells U.segs) End.Overflowed outs new
      go finished s = over_values z s
      go (failed_at d i) s = over_failed z s.0
      go (overflowed_at i) s = record { end_is = refl; values_are = tt; state = w }

  -- a Function's, on a record that is not kept
  pub left_function : (fresh old : List ℕ) (U : Run) (r : Ended) (got outs : List Value) (segs new : List ℕ) → RunMeets U r got segs → outs ≡ outputs_in n got → new ≡ old → Did as_is (record { out = (leave g n fresh U).out; seg = old }) r.end outs new
  unfolding leave
  left_function fresh old U r got outs segs new m o w = go U.end m.ends m.cells_are
    where
      go : (e : RunEnd) → EndsAs e r → (e ≡ finished → got ≡ U.cells) → Did as_is (record { out = (leave_on g n fresh e U.cells U.segs).out; seg = old }) r.end outs new
      go finished s c = record { end_is = s; values_are = o ∙ ap (outputs_in n) (c refl); state = w }
      go (failed_at d i) s c = record { end_is = s.0; values_are = tt; state = w }
      go (overflowed_at i) s c = record { end_is = s.0; values_are = tt; state = w }

-- ---- the bytes of a record

-- the outputs among the cells
-- the cells of the inputs, the outputs and the locals
counts_add : (n : Node) → cell_count n ≡ input_count n + (output_count n + length (cell_types n.locals))
counts_add n =
    omega (arith, ap length (types_append (n.inputs ++ n.outputs) n.locals), length-append (cell_types (n.inputs ++ n.outputs)) (cell_types n.locals), ap length (types_append n.inputs n.outputs), length-append (cell_types n.inputs) (cell_types n.outputs))

pub outputs_among : (n : Node) (cs : List ℕ) → values_of (output_count n) (drop (9 * input_count n) cs) ≡ outputs_in n (values_of (cell_count n) cs)
outputs_among n cs =
    let i = input_count n in
    let w = cell_count n in
    values_take (output_count n) (w - i) (drop (9 * i) cs) (omega (arith, counts_add n)) ∙ ap (take (output_count n)) (values_drop i w cs (omega (arith, counts_add n)))

-- ---- a node's cells, by the table

module _ {file tab rows consts : List ℕ} {k : ℕ} (ready : Running file tab rows consts) (below : k < nodes_in file) where
  pub few : k < 32
  few = omega (arith, below, ready.program.sized.few)

  pub width_is : (n : ℕ) → n ≡ count_at tab k 3 → n ≡ width_in file k
  width_is n e = e ∙ (ready.program.table.tabs_of k below).cells

  pub inputs_are : (i : ℕ) → i ≡ count_at tab k 1 → i ≡ input_count (node_in file k)
  inputs_are i e = e ∙ (ready.program.table.tabs_of k below).input_cells

  pub outputs_are : (o i : ℕ) → o ≡ count_at tab k 2 → i ≡ count_at tab k 1 → o - i ≡ output_count (node_in file k)
  outputs_are o i e f = omega (arith, e, (ready.program.table.tabs_of k below).output_cells, inputs_are i f)

  pub narrow : (n : ℕ) → n ≡ count_at tab k 3 → n ≤ 3584
  narrow n e = omega (arith, width_is n e, narrow_in ready.program k)

  pub inputs_first : (n i : ℕ) → n ≡ count_at tab k 3 → i ≡ count_at tab k 1 → i ≤ n
  inputs_first n i e f = omega (arith, width_is n e, inputs_are i f, counts_add (node_in file k))

  pub outputs_first : (n o i : ℕ) → n ≡ count_at tab k 3 → o ≡ count_at tab k 2 → i ≡ count_at tab k 1 → i + (o - i) ≤ n
  outputs_first n o i e f g = omega (arith, width_is n e, inputs_are i g, outputs_are o i f g, counts_add (node_in file k))

  -- as many as the variables' lengths tell
  pub own_width : own_count tab rows k ≡ width_in file k
  own_width = own_count_lem ready.known below

-- the cells of any node have room in 32,256 bytes
pub widest : {file tab rows consts : List ℕ} → Running file tab rows consts → (k : ℕ) → 9 * width_in file k ≤ 32256
widest ready k = omega (arith, narrow_in ready.program k)

-- entry j of its row, and count j of its cells, can be read
pub row_room : (t : List ℕ) {file rows consts : List ℕ} {k : ℕ} → Running file (tab_of t) rows consts → k < nodes_in file → (j : ℕ) → j < 8 → (816 ≤ length t) × (k < 32) × (j < 8)
row_room t ready below j l = (rows_room t _ ready.program.table.long, few ready below, l)

-- ---- a node, by its rows

module _ {file tab rows consts old new : List ℕ} {k free : ℕ} (h : Steppable file tab rows consts k free old new) where
  -- its kind
  pub is_operator_lem : (c : ℕ) → c ≡ row_at rows k 0 → c ≡ 1 → (node_in file k).kind ≡ Operator
  is_operator_lem c e o = fresh_operator h.running.known h.below (sym e ∙ o)

  pub is_function : (c : ℕ) → c ≡ row_at rows k 0 → ¬ (c ≡ 1) → (node_in file k).kind ≡ Function
  is_function c e o = go (node_in file k).kind (no_operator h.running.known h.below (λ w. o (e ∙ w))) h.kind
    where
      go : (t : NodeKind) → ¬ (t ≡ Operator) → ¬ (t ≡ Imported) → t ≡ Function
      go Function a b = refl
      go Operator a b = absurd (a refl)
      go Imported a b = absurd (b refl)

  -- an Operator's record has its own bytes
  pub own_room : (n : ℕ) → (node_in file k).kind ≡ Operator → n ≡ count_at tab k 3 → 1 + 9 * n ≤ length old
  own_room n o e = omega (arith, h.sized, operator_size h.running.known h.below o, width_is h.running h.below n e)

  pub own_new : (n : ℕ) → (node_in file k).kind ≡ Operator → n ≡ count_at tab k 3 → 1 + 9 * n ≤ length new
  own_new n o e = omega (arith, own_room n o e, ap length h.same)

  pub put_length : (n : ℕ) (x : List ℕ) → (node_in file k).kind ≡ Operator → n ≡ count_at tab k 3 → length x ≡ length (tail_of (1 + 9 * n) new) → length (put_tail (1 + 9 * n) new x) ≡ length new
  put_length n x o e l = length_put (1 + 9 * n) new x (own_new n o e) l

  -- it runs on its cells and segments
  pub instance_runnable : (n : ℕ) (cells before : List ℕ) → (node_in file k).kind ≡ Operator → n ≡ count_at tab k 3 → 9 * width_in file k ≤ length cells → 9 * width_in file k ≤ length before → Runnable file tab rows consts k cells before (tail_of (1 + 9 * n) old) (tail_of (1 + 9 * n) new)
  instance_runnable n cells before o e l b =
      let w = width_is h.running h.below n e in
      let m = operator_size h.running.known h.below o in
      let z = ap length (tail_all (1 + 9 * n) old) ∙ length-drop (1 + 9 * n) old in
      record {
        running = h.running;
        below = h.below;
        present = record { long = l };
        previous = record { long = b };
        sized = omega (arith, z, h.sized, m, w);
        small = omega (arith, z, h.small);
        same = ap (tail_of (1 + 9 * n)) h.same;
      }

  -- the outputs are left from the front on
  outputs_left : (i o : ℕ) (cells' args' : List ℕ) → i ≡ count_at tab k 1 → o ≡ count_at tab k 2 → values_of (o - i) args' ≡ values_of (o - i) (drop (9 * i) cells') → outputs_at file k args' ≡ outputs_in (node_in file k) (values_of (width_in file k) cells')
  outputs_left i o cells' args' iE oE e =
      let wi = inputs_are h.running h.below i iE in
      let wo = outputs_are h.running h.below o i oE iE in
      ap (λ (m : ℕ). values_of m args') (sym wo) ∙ e ∙ (λ j. values_of (wo j) (drop (9 * wi j) cells')) ∙ outputs_among (node_in file k) cells'

-- ---- a step of an instance

-- what was done before the run: its cells are there, and those before
pub record Entered (file tab rows consts : List ℕ) (k free : ℕ) (args old new : List ℕ) (first : Bool) (n i : ℕ) (cells before : List ℕ) : Type 0 where
  pub site : Steppable file tab rows consts k free old new
  pub operator : (node_in file k).kind ≡ Operator
  pub width : n ≡ count_at tab k 3
  pub inputs : i ≡ count_at tab k 1
  pub fresh : first ≡ is_fresh old
  pub begun : values_of n cells ≡ values_of i args ++ drop i (values_of n (tail_of 1 old))
  pub earlier : values_of n before ≡ values_of n (tail_of 1 old)

pub entered : {file tab rows consts args old new : List ℕ} {fr : Frame} {k free n i : ℕ} → Steppable file tab rows consts k free old new → (node_in file k).kind ≡ Operator → n ≡ count_at tab k 3 → i ≡ count_at tab k 1 → Opened k n i args old fr → Entered file tab rows consts k free args old new fr.first n i fr.cells.now fr.before.now
entered {args = args} {old = old} {n = n} {i = i} h o w iw p =
    record {
      site = h;
      operator = o;
      width = w;
      inputs = iw;
      fresh = p.first;
      begun = p.cells ∙ ap (λ (c : List ℕ). values_of i args ++ drop i (values_of n c)) (sym (tail_all 1 old));
      earlier = ap (values_of n) (p.before ∙ sym (tail_all 1 old));
    }

module _ {file tab rows consts args old new : List ℕ} {k free : ℕ} {first : Bool} {n i : ℕ} {cells before : List ℕ} (h : Entered file tab rows consts k free args old new first n i cells before) where
  abbrev node : Node
  node = node_in file k

  abbrev glob : Globals
  glob = globals_in file consts

  abbrev ran : Run
  ran = run_in file consts k first cells before (tail_of (1 + 9 * n) old)

  runs_as : (vs : List Value) → values_of (input_count node) args ≡ fit_all (cell_types node.inputs) vs → ran ≡ run glob (calls glob) node (fit_all (cell_types node.inputs) vs) old
  unfolding run
  runs_as vs e =
      let s = h.site in
      let wn = width_is s.running s.below n h.width in
      let wi = inputs_are s.running s.below i h.inputs in
      let was : values_of n (tail_of 1 old) ≡ old_cells node old = (λ j. values_of (wn j) (tail_all 1 old j)) in
      let b : values_of (width_in file k) before ≡ old_cells node old = ap (λ (m : ℕ). values_of m before) (sym wn) ∙ h.earlier ∙ was in
      let own : 1 + 9 * n ≡ own_size node = ap (λ (m : ℕ). 1 + 9 * m) wn in
      let c = ap (λ (m : ℕ). values_of m cells) (sym wn) ∙ h.begun ∙ (λ j. (ap (λ (m : ℕ). values_of m args) wi ∙ e) j ++ drop (wi j) (was j)) in
      λ j. run_all glob (calls glob) node (h.fresh j) (b j) (order node.equations) (c j) (split glob node.equations ((tail_all (1 + 9 * n) old ∙ ap (λ (m : ℕ). drop m old) own) j))

  meant : (vs : List Value) → values_of (input_count node) args ≡ fit_all (cell_types node.inputs) vs → leave glob node old ran ≡ calls glob k vs old
  unfolding instance
  meant vs e = ap (leave glob node old) (runs_as vs e) ∙ sym (operator_call h.site.running k vs old h.site.below h.operator)

  ended : (end : Ending) (args' new' : List ℕ) → Did as_is (leave glob node old ran) end (outputs_at file k args') new' → SiteTo file consts k args old end args' new'
  ended end args' new' d vs e = subst (λ (w : Evals). Did as_is w end (outputs_at file k args') new') (meant vs e) d

  -- it finished
  pub instance_finished : (r : Ended) (cells' x y : List ℕ) (o : ℕ) (args' : List ℕ) → RunTo file consts k first cells before (tail_of (1 + 9 * n) old) r cells' x → r.end ≡ End.Values
      → y ≡ 1 ∷ cell_bytes (values_of n cells') ++ drop (1 + 9 * n) (put_tail (1 + 9 * n) new x) → o ≡ count_at tab k 2 → values_of (o - i) args' ≡ values_of (o - i) (drop (9 * i) cells') → SiteTo file consts k args old End.Values args' y
  instance_finished r cells' x y o args' m z w oE left =
      let s = h.site in
      let p =
      w
      ∙ ap (λ (l : List ℕ). 1 ∷ cell_bytes (values_of n cells') ++ l) (drop_put (1 + 9 * n) new x (own_new s n h.operator h.width))
      ∙ ap (λ (q : ℕ). 1 ∷ cell_bytes (values_of q cells') ++ x) (width_is s.running s.below n h.width) in
      ended End.Values args' y (left_finished glob node old ran r (values_of (width_in file k) cells') (outputs_at file k args') x _ m z (outputs_left s i o cells' args' h.inputs oE left) p)

  -- it failed
  pub instance_failed : (d : Cause) (r : Ended) (cells' x new' args' : List ℕ) → RunTo file consts k first cells before (tail_of (1 + 9 * n) old) r cells' x → r.end ≡ End.Failed d
      → ((vs : List Value) → new' ≡ fresh_at (globals_of (file_at file) vs) (nodes_in file) k) → SiteTo file consts k args old (End.Failed d) args' new'
  instance_failed d r cells' x new' args' m z w =
      let s = h.site in
      let f = w (values_of (known_in consts) consts) ∙ ap (λ (u : Globals). fresh_at u (nodes_in file) k) (sym (all_known s.running)) ∙ fresh_here s.running k s.below h.operator in
      ended (End.Failed d) args' new' (left_failed glob node d old ran r (values_of (width_in file k) cells') (outputs_at file k args') x new' m z f)

  -- it overflowed
  pub instance_overflowed : (r : Ended) (cells' x new' args' : List ℕ) → RunTo file consts k first cells before (tail_of (1 + 9 * n) old) r cells' x → r.end ≡ End.Overflowed → new' ≡ old → SiteTo file consts k args old End.Overflowed args' new'
  instance_overflowed r cells' x new' args' m z w =
      ended End.Overflowed args' new' (left_overflowed glob node old ran r (values_of (width_in file k) cells') (outputs_at file k args') x new' m z w)

-- ---- a call of a Function

module _ {file tab rows consts old new : List ℕ} {k free : ℕ} (h : Steppable file tab rows consts k free old new) (func : (node_in file k).kind ≡ Function) where
  abbrev fnode : Node
  fnode = node_in file k

  abbrev fglob : Globals
  fglob = globals_in file consts

  no_old : length old ≡ 0
  no_old = h.sized ∙ no_size_lem h.running.known h.below (λ o. not_both (sym func ∙ o))
    where
      not_both : Function ≡ Operator → ⊥
      not_both e = let z : ◌≡◌ {A = ℕ} 0 1 = cc in omega arith

  pub function_runnable : (cells before : List ℕ) → 9 * width_in file k ≤ length cells → 9 * width_in file k ≤ length before → Runnable file tab rows consts k cells before old new
  function_runnable cells before l m =
      record {
        running = h.running;
        below = h.below;
        present = record { long = l };
        previous = record { long = m };
        sized = no_old ∙ sym (function_size h.running k h.below func);
        small = h.small;
        same = h.same;
      }

  -- the default cells
  abbrev dcells : List ℕ
  dcells = cell_bytes (defaults (file_at file).enums (cell_types (variables fnode)))

  dlength : length dcells ≡ 9 * width_in file k
  dlength = length_cells (defaults (file_at file).enums (cell_types (variables fnode))) ∙ ap (λ (m : ℕ). 9 * m) (length-map (cell_types (variables fnode)) _)

  fresh_cells : (rest : List ℕ) → values_of (width_in file k) (dcells ++ rest) ≡ values_of (width_in file k) dcells
  fresh_cells rest = values_front (width_in file k) dcells rest (omega (arith, dlength))

  module _ {args : List ℕ} (i : ℕ) (fr : Frame) (inputs : i ≡ count_at tab k 1) (p : Freshened tab rows k i args fr) where
    -- the default cells are those of a fresh record
    defaults_as : values_of (own_count tab rows k) (own_cells tab rows k) ≡ old_cells fnode (fresh_record fglob fnode)
    defaults_as =
        let R = concat (map (fresh_at fglob (nodes_in file)) (sites fnode)) in
        (λ j. values_of (own_width h.running h.below j) (default_cells_lem h.running.known h.below j)) ∙ sym (fresh_cells R)

    runs_fresh : (vs : List Value) → values_of (input_count fnode) args ≡ fit_all (cell_types fnode.inputs) vs → run_in file consts k fr.first fr.cells.now fr.before.now old ≡ run fglob (calls fglob) fnode (fit_all (cell_types fnode.inputs) vs) (fresh_record fglob fnode)
    unfolding run
    runs_fresh vs e =
        let F = fresh_record fglob fnode in
        let wi = inputs_are h.running h.below i inputs in
        let wn = own_width h.running h.below in
        let b = ap (λ (m : ℕ). values_of m fr.before.now) (sym wn) ∙ p.before ∙ defaults_as in
        let c = ap (λ (m : ℕ). values_of m fr.cells.now) (sym wn) ∙ p.cells ∙ (λ j. (ap (λ (m : ℕ). values_of m args) wi ∙ e) j ++ drop (wi j) (defaults_as j)) in
        λ j. run_all fglob (calls fglob) fnode (p.first j) (b j) (order fnode.equations) (c j) (function_split h.running k old (drop (own_size fnode) F) h.below func j)

    pub function_done : (r : Ended) (cells' new' : List ℕ) (o : ℕ) (args' : List ℕ) → RunTo file consts k fr.first fr.cells.now fr.before.now old r cells' new' → length new' ≡ length new → o ≡ count_at tab k 2 → values_of (o - i) args' ≡ values_of (o - i) (drop (9 * i) cells') → SiteTo file consts k args old r.end args' new'
    unfolding instance
    function_done r cells' new' o args' m l oE left vs e =
        let U = run_in file consts k fr.first fr.cells.now fr.before.now old in
        let F = fresh_record fglob fnode in
        let q : record { out = (leave fglob fnode F U).out; seg = old } ≡ calls fglob k vs old = ap (λ (u : Run). record { out = (leave fglob fnode F u).out; seg = old }) (runs_fresh vs e) ∙ sym (function_call h.running k vs old h.below func) in
        subst (λ (w : Evals). Did as_is w r.end (outputs_at file k args') new') q
        (left_function fglob fnode F old U r (values_of (width_in file k) cells') (outputs_at file k args') new' new' m (outputs_left h i o cells' args' inputs oE left) (both_empty new' old (l ∙ ap length h.same ∙ no_old) no_old))

-- ---- on a frame

-- a run on a frame of node k
pub framed_runnable : (fr : Frame) {file tab rows consts : List ℕ} {k : ℕ} {old new : List ℕ} → fr.node ≡ k → Runnable file tab rows consts k fr.cells.now fr.before.now old new → Runnable file tab rows consts fr.node fr.cells.now fr.before.now old new
framed_runnable fr {file} {tab} {rows} {consts} {k} {old} {new} e p =
    subst (λ (n : ℕ). Runnable file tab rows consts n fr.cells.now fr.before.now old new) (sym e) p

pub framed_run : (file consts : List ℕ) (fr : Frame) (old cells' : List ℕ) {k : ℕ} {new : List ℕ} {r : Ended} → fr.node ≡ k → RunTo file consts fr.node fr.first fr.cells.now fr.before.now old r cells' new → RunTo file consts k fr.first fr.cells.now fr.before.now old r cells' new
framed_run file consts fr old cells' {k} {new} {r} e p =
    subst (λ (n : ℕ). RunTo file consts n fr.first fr.cells.now fr.before.now old r cells' new) e p
