-- Laws of the work on a call or an iterator: a call's outputs are copied, an iterator's arrays are evaluated and then its elements.
use Prim.Native.Nat.{ℕ, zero, suc, ◌+◌, ◌-◌, ◌*◌, ◌≤◌, ◌<◌}
use mathlib.Core.Bool.{Bool, true, false, cond, ◌||◌}
use mathlib.Core.List.{List, [], ◌∷◌, ◌++◌, map, append_assoc, append-nil}
use mathlib.Core.Logic.{by_cases}
use mathlib.Core.Option.{Option, none, some}
use mathlib.Core.Path.{◌≡◌, refl, sym, ap, subst, ◌∙◌}
use native.Mathlib.Decide.{ℕ_discrete}
use native.Mathlib.Omega.{arith}
use native.Mathlib.Nat.{suc-mul}
use lib.Dec.{T, eqb, eqb→eq}
use lib.ListN.{length, take, drop, get_or, length-append, length-drop, length-map}
use lib.Seq.{take-take, drop-drop, length-take-le}
use borrow.Author.Tests.{eqb-true, eqb-false, true-eqb}
use Rattle.ol_spec.specs.Lists.{maybe, is_some, concat, sum}
use Rattle.ol_spec.specs.Syntax.{Expr, map_over, fold_over, Exprs, nil, cons, count, File, Node, variables, Rhs, one, rhs_of}
use Rattle.ol_spec.specs.Shapes.{Sized, arrays_in, constant_arrays, shape, first_length}
use Rattle.ol_spec.specs.Cell.{values_of}
use Rattle.ol_spec.specs.Admission.{takes, scalars, arrays_of, all_long, alike, iterable}
use Rattle.ol_spec.specs.Eval.{Outcomes, Results, values, failure, overflow, Eval, Evals, Evaluated, several, single, several_eval, single_eval, cells_by, enter, enter_on, then_out, then_results, flat, flatten, map_evaluated, map_eval, map_from, fold_from, map_all, fold_all, eval, eval_array, eval_each, eval_rhs}
use Rattle.ol_spec.specs.Step.{output_count, calls}
use Rattle.ol_spec.specs.declared.Value.{Value}
use Rattle.ol_spec.specs.declared.Outcome.{Outcome}
use Rattle.ol_spec.specs.declared.Outcome.TheVariants as Out
use Rattle.ol_spec.proofs.Counts.{EachIs}
use Rattle.ol_spec.proofs.Forms.{cell_counts}
use Rattle.ol_spec.proofs.Tests.{T_and, and_t}
use Rattle.ol_spec.specs.Limits.{base}
use Rattle.ol_spec.specs.Within.{variable_fits}
use Rattle.ol_tables.proofs.Cells.{few_cells}
use Rattle.ol_frame.specs.Plans.{Program}
use Rattle.ol_frame.proofs.Programs.{node_fit}
use Rattle.ol_tables.specs.At.{file_at, node_in, expr_at, end_at, exprs_at, ends_at, Reads, ReadsAll}
use Rattle.ol_tables.proofs.Forms.{Formed, parted, none_read, one_tree, reads_in, iterator_kind, map_form, fold_form}
use Rattle.ol_frame.specs.Outcomes.{ending_of}
use Rattle.ol_frame.specs.Plans.{globals_in, scope_in, eval_in, array_in, each_in, span_in, seg_at, segs_at}
use Rattle.ol_frame.specs.Stores.{groups}
use Rattle.ol_frame.specs.declared.outcomes.Ending.{Ending}
use Rattle.ol_frame.specs.declared.outcomes.Ending.TheVariants as End
use Rattle.ol_frame.proofs.Endings.{failed_values, over_values}
use Rattle.ol_frame.proofs.Planning.{plan_head, plan_suited, plan_map, plan_fold}
use Rattle.ol_frame.proofs.Shaping.{count_read}
use Rattle.ol_frame.proofs.Storing.{values_take, values_front, values_append}
use Rattle.ol_eval.specs.Fitting.{Scalars}
use Rattle.ol_eval.specs.Post.{Ready, EvalsTo, ScalarsAt}
use Rattle.ol_ir.proofs.Skips.{walk_read}
use Rattle.ol_frame.specs.Shapes.{takes_in}
use Rattle.ol_frame.specs.Stores.{Puts}
use Rattle.ol_tables.proofs.Lending.{tail_of, put_tail, tail_all, put_tail_lem, drop_put, drop_take}
use Rattle.std.specs.Prelude.{Option as Callee, Some, None, MatchOption, ◌&&◌}
use Rattle.ol_spec.specs.Lists.{all_of}
use Rattle.ol_spec.specs.Admission.{is_function, is_scalar}
use Rattle.ol_spec.proofs.CellLengths.{length_values}
use Rattle.ol_frame.specs.Equations.{arrays_count, arrays_start}
use Rattle.ol_frame.specs.Nodes.{Enters}
use Rattle.ol_frame.specs.Plans.{Plan, shape_in}
use Rattle.ol_frame.specs.Walk.{nodes_in}
use Rattle.ol_frame.proofs.Planning.{plan_first, plan_rest, plan_parts, segs_one, segs_form, segs_cons}
use Rattle.ol_frame.proofs.Programs.{Long}
use Rattle.ol_frame.proofs.Shaping.{span_long, map_array}
use Rattle.ol_tables.specs.Tables.{count_at}
use Rattle.ol_eval.proofs.Calling.{parts_map, next_map, parts_fold, next_fold}
use Rattle.ol_eval.proofs.Listing.{callee_by}
use Rattle.ol_eval.proofs.Readying.{ready_parts, ready_first, ready_tail, calls_form}
use Rattle.ol_eval.specs.Calls.{callee_at, work_cells, Several, SuitAt, PassedTo, EachTo, AllTo, passed_all, Iterated, Mapped, MapTo, FoldTo}
use Rattle.ol_eval.specs.Calls.{Holds, as_is, RanTo, cells_at, all_cells, cells_eval, rhs_eval, EntersTo, callee_cells, work_yields, WorkTo, IteratedTo, applied_in}
use Rattle.ol_eval.specs.declared.eval.Step.{Step}

-- fewer of the values
fewer : (m n : ℕ) (o : Outcomes) (s t : List ℕ) → n ≤ m → values_of n t ≡ take n (values_of m s) → Holds as_is o (values_of m s) → Holds (take n) o (values_of n t)
fewer m n (values vs) s t le e h = e ∙ ap (take n) h
fewer m n (failure c) s t le e h = tt
fewer m n overflow s t le e h = tt

-- so many values there are
counted_values : (m : ℕ) (o : Outcomes) (s : List ℕ) → Holds as_is o (values_of m s) → (vs : List Value) → o ≡ values vs → length vs ≡ m
counted_values m o s h vs e = ap (λ (l : List Value). length l) (sym (subst (λ (x : Outcomes). Holds as_is x (values_of m s)) e h)) ∙ Rattle.ol_spec.proofs.CellLengths.length_values m s

-- the first cells, copied
copied_first : (n : ℕ) (s t x : List ℕ) → 9 * n ≤ length s → 9 * n ≤ length t → x ≡ take (length t) s ++ drop (length s) t → values_of n x ≡ values_of n s
copied_first n s t x a b e =
    by_cases (native.Mathlib.Decide.dec_le (length t) (length s))
    (λ l. ap (values_of n) e ∙ values_front n (take (length t) s) (drop (length s) t) (omega (arith, b, length-take-le (length t) s l)) ∙ sym (values_front n (take (length t) s) (drop (length t) s) (omega (arith, b, length-take-le (length t) s l))) ∙ ap (values_of n) (lib.ListN.take-append-drop (length t) s))
    (λ l. ap (values_of n) (e ∙ ap (λ (y : List ℕ). y ++ drop (length s) t) (lib.Seq.take_all (length t) s (omega arith))) ∙ values_front n s (drop (length s) t) a)

module _ (file consts : List ℕ) (level at node : ℕ) (first : Bool) (cells before : List ℕ) where
  -- a call's outputs
  pub work_call : {old new : List ℕ} {r : Step Ending} (work to to' : List ℕ) → get_or file at 0 ≡ 11 → 9 * callee_cells file (get_or file (at + 1) 0) ≤ length work → length to' ≡ length to → to' ≡ take (length to) work ++ drop (length work) to → EntersTo file consts level at node first cells before old r work new → WorkTo file consts level at node first cells before old r to' new
  work_call {old} {new} {r} work to to' b room l e h =
      let m = output_count (node_in file (get_or file (at + 1) 0)) in
      let y : work_yields file node level at ≡ m = ap (λ (c : ℕ). cond (eqb c 11) m (cells_at file node level at)) b in (
        λ n le fits.
            let c = copied_first n work to to' (omega (arith, room, le, y)) (omega (arith, fits, l)) e in
            record {
              end_is = h.end_is;
              next_is = h.next_is;
              used_is = h.used_is;
              values_are = fewer m n (rhs_eval file consts level at node first cells before (take (seg_at file level at) old)).out work to' (omega (arith, le, y)) (c ∙ values_take n m work (omega (arith, le, y))) h.values_are;
              state = h.state;
            },
        λ vs q. counted_values m (rhs_eval file consts level at node first cells before (take (seg_at file level at) old)).out work h.values_are vs q ∙ sym y,
      )

  -- an iterator's cells
  pub work_iterated : {old new : List ℕ} {r : Step Ending} (to : List ℕ) → get_or file at 0 ≡ 15 → Reads file level at → IteratedTo file consts level at node first cells before old r to new → WorkTo file consts level at node first cells before old r to new
  work_iterated {old} {new} {r} to b d h =
      let m = cells_at file node level at in
      let y : work_yields file node level at ≡ m = ap (λ (c : ℕ). cond (eqb c 11) (output_count (node_in file (get_or file (at + 1) 0))) m) b in
      let W = cells_eval file consts level at node first cells before (take (seg_at file level at) old) in
      subst (λ (w : Evals). ((n : ℕ) → n ≤ work_yields file node level at → 9 * n ≤ length to → RanTo (take n) w (end_at file level at) (seg_at file level at) old r (values_of n to) new) × ((vs : List Value) → w.out ≡ values vs → length vs ≡ work_yields file node level at))
      (sym (ap (λ (q : Rhs). eval_rhs (globals_in file consts) (scope_in file node first cells before) (calls (globals_in file consts)) q (take (seg_at file level at) old)) (one_of (get_or file (at + 1) 0) refl (iterator_kind file level at d b)))) (
        λ n le fits. record {
          end_is = h.end_is;
          next_is = h.next_is;
          used_is = h.used_is;
          values_are = fewer m n W.out to to (omega (arith, le, y)) (values_take n m to (omega (arith, le, y))) h.values_are;
          state = h.state;
        },
        λ vs q. counted_values m W.out to h.values_are vs q ∙ sym y,
      )
    where
      one_of : (j : ℕ) → get_or file (at + 1) 0 ≡ j → j < 2 → rhs_of (expr_at file level at) ≡ one (expr_at file level at)
      one_of zero z l = subst (λ (e : Expr). rhs_of e ≡ one e) (sym (map_form file level at d b z).0.tree) refl
      one_of (suc zero) z l = subst (λ (e : Expr). rhs_of e ≡ one e) (sym (fold_form file level at d b z).0.tree) refl
      one_of (suc (suc j)) z l = absurd (omega arith)

-- ---- arrays of one length

long_of : (m : ℕ) (o : Option ℕ) → T (takes (arrays_of m) o) → o ≡ some m
long_of m none t = absurd t
long_of m (some n) t = ap some (sym (eqb→eq m n t))

-- each of n cells
abbrev pub AllAre : ℕ → List ℕ → Type 0
AllAre n [] = Unit {0}
AllAre n (m ∷ ns) = (m ≡ n) × AllAre n ns

module _ (f : File) (locals : List Sized) where
  abbrev lengths : Exprs → List ℕ
  lengths es = cell_counts f.nodes locals (constant_arrays f.constants) es

  long_each : (n : ℕ) (es : Exprs) → T (all_long f locals n es) → AllAre n (cell_counts f.nodes locals (constant_arrays f.constants) es)
  long_each n nil t = tt
  long_each n (cons e es) t =
      let w = T_and (takes (arrays_of n) (shape f.nodes locals (constant_arrays f.constants) e)) _ t in
      (ap (maybe 1 (λ m. m)) (long_of n (shape f.nodes locals (constant_arrays f.constants) e) w.0), long_each n es w.1)

  -- arrays that are alike, of the first one's length
  pub alike_each : (es : Exprs) → T (alike f locals es) → AllAre (first_length f.nodes locals (constant_arrays f.constants) es) (cell_counts f.nodes locals (constant_arrays f.constants) es)
  alike_each nil t = absurd t
  alike_each (cons e es) t = go (shape f.nodes locals (constant_arrays f.constants) e) t
    where
      go : (o : Option ℕ) → T (maybe false (λ n. all_long f locals n es) o) → AllAre (maybe 0 (λ n. n) o) (maybe 1 (λ n. n) o ∷ cell_counts f.nodes locals (constant_arrays f.constants) es)
      go none t = absurd t
      go (some n) t = (refl, long_each n es t)

sum_each : (n : ℕ) (ns : List ℕ) → AllAre n ns → sum ns ≡ length ns * n
sum_each n [] a = omega arith
sum_each n (m ∷ ms) a = omega (arith, a.0, sum_each n ms a.1, suc-mul (length ms) n)

lengths_count : (nodes : List Node) (locals globals : List Sized) (es : Exprs) → length (cell_counts nodes locals globals es) ≡ count es
lengths_count nodes locals globals nil = refl
lengths_count nodes locals globals (cons e es) = ap suc (lengths_count nodes locals globals es)

-- the cells of all of them, apart again
pub grouped : (n : ℕ) (vss : List (List Value)) (s : List ℕ) → AllAre n (map (λ (l : List Value). length l) vss) → values_of (length vss * n) s ≡ concat vss → groups n (length vss) s ≡ vss
grouped n [] s a e = refl
grouped n (vs ∷ vss) s a e =
    let z : suc (length vss) * n ≡ n + length vss * n = omega (arith, suc-mul (length vss) n) in
    let both : values_of n s ++ values_of (length vss * n) (drop (9 * n) s) ≡ vs ++ concat vss = sym (values_append n (length vss * n) s) ∙ ap (λ (m : ℕ). values_of m s) (sym z) ∙ e in
    let ls : length (values_of n s) ≡ n = length_values n s in
    let a1 : values_of n s ≡ vs = sym (lib.Seq.take_at (values_of n s) (values_of (length vss * n) (drop (9 * n) s)) n ls) ∙ ap (take n) both ∙ lib.Seq.take_at vs (concat vss) n a.0 in
    let a2 : values_of (length vss * n) (drop (9 * n) s) ≡ concat vss = sym (lib.Seq.drop_at (values_of n s) (values_of (length vss * n) (drop (9 * n) s)) n ls) ∙ ap (drop n) both ∙ lib.Seq.drop_at vs (concat vss) n a.0 in
    λ i. a1 i ∷ grouped n vss (drop (9 * n) s) a.1 a2 i

-- ---- how several values end

with_values : {A : Type 0} (f : A → Outcomes) (o : Results A) → ((a : A) → (vs : List Value) × (f a ≡ values vs)) → ending_of (then_results f o) ≡ End.Values → (a : A) × (o ≡ values a)
with_values f (values a) h e = (a, refl)
with_values f (failure c) h e = failed_values refl e
with_values f overflow h e = over_values refl e

several_single : (o : Outcome) → several (single (several o)) ≡ several o
several_single (Out.Value v) = refl
several_single (Out.Failure c) = refl
several_single Out.Overflow = refl

-- the values of one that did not end with values are free
no_values : (make : List Value → List Value) (got : List Value) (o : Outcomes) → ¬ (ending_of o ≡ End.Values) → Holds make o got
no_values make got (values vs) h = absurd (h refl)
no_values make got (failure c) h = tt
no_values make got overflow h = tt

-- what is made of lists that are not there
results_not : (f g : List (List Value) → Outcomes) (o : Results (List (List Value))) → ((vss : List (List Value)) → (vs : List Value) × (f vss ≡ values vs)) → ¬ (ending_of (then_results f o) ≡ End.Values) → then_results g o ≡ then_results f o
results_not f g (values vss) h n = absurd (n (ap ending_of (h vss).1))
results_not f g (failure c) h n = refl
results_not f g overflow h n = refl

take_none : {A : Type 0} (s : List A) → take 0 s ≡ []
take_none [] = refl
take_none (x ∷ s) = refl

few_of : (o : Option ℕ) → Long o → (n : ℕ) → n ≡ maybe 0 (λ n. n) o → n ≤ 32
few_of none l n e = omega (arith, e)
few_of (some m) l n e = omega (arith, e, (l m refl).1)

-- an iterated node has so many inputs
inputs_told : (m : ℕ) (n : Node) → T (iterable m n) → m ≡ length n.inputs
inputs_told m n t =
    let a = T_and (is_function n.kind && eqb (length n.inputs) m && eqb (length n.outputs) 1 && all_of is_scalar n.inputs) (all_of is_scalar n.outputs) t in
    let b = T_and (is_function n.kind && eqb (length n.inputs) m && eqb (length n.outputs) 1) (all_of is_scalar n.inputs) a.0 in
    let c = T_and (is_function n.kind && eqb (length n.inputs) m) (eqb (length n.outputs) 1) b.0 in
    sym (eqb→eq (length n.inputs) m (T_and (is_function n.kind) (eqb (length n.inputs) m) c.0).1)

-- ---- the map at a place

module _ {file tab rows consts : List ℕ} {level at node : ℕ} {cells before old new : List ℕ} (p : Ready file tab rows consts level 1 at node cells before old new) (b : get_or file at 0 ≡ 15) where
  abbrev fnode : ℕ
  fnode = get_or file (at + 2) 0

  abbrev arity : ℕ
  arity = get_or file (at + 3) 0

  abbrev locals : List Sized
  locals = arrays_in (variables (node_in file node))

  iterator_in : at < length file
  iterator_in = reads_in file level at (plan_head file p.plan)

  -- the length of the arrays from `start` on
  abbrev span : ℕ → ℕ
  span start = span_in file node (expr_at file (level - 1) start)

  module _ (start : ℕ) (reads : ReadsAll file (level - 1) (get_or file (at + 3) 0) start) (t : T (alike (file_at file) (arrays_in (variables (node_in file node))) (exprs_at file (level - 1) (get_or file (at + 3) 0) start))) where
    abbrev es : Exprs
    es = exprs_at file (level - 1) arity start

    -- there is one
    some_array : 0 < get_or file (at + 3) 0
    some_array = go (get_or file (at + 3) 0) refl t
      where
        go : (n : ℕ) → get_or file (at + 3) 0 ≡ n → T (alike (file_at file) (arrays_in (variables (node_in file node))) (exprs_at file (level - 1) (get_or file (at + 3) 0) start)) → 0 < get_or file (at + 3) 0
        go zero f t = absurd (subst (λ es. T (alike (file_at file) (arrays_in (variables (node_in file node))) es)) (ap (λ n. exprs_at file (level - 1) n start) f ∙ (none_read file (level - 1) start).0) t)
        go (suc n) f t = omega arith

    first_span : first_length (file_at file).nodes (arrays_in (variables (node_in file node))) (constant_arrays (file_at file).constants) (exprs_at file (level - 1) (get_or file (at + 3) 0) start) ≡ span_in file node (expr_at file (level - 1) start)
    first_span = go (get_or file (at + 3) 0) some_array reads
      where
        go : (n : ℕ) → 0 < n → ReadsAll file (level - 1) n start → first_length (file_at file).nodes (arrays_in (variables (node_in file node))) (constant_arrays (file_at file).constants) (exprs_at file (level - 1) n start) ≡ span_in file node (expr_at file (level - 1) start)
        go zero l h = absurd (omega arith)
        go (suc n) l h = ap (first_length (file_at file).nodes (arrays_in (variables (node_in file node))) (constant_arrays (file_at file).constants)) (parted file (level - 1) n start h).trees

    each_long : AllAre (span_in file node (expr_at file (level - 1) start)) (cell_counts (file_at file).nodes (arrays_in (variables (node_in file node))) (constant_arrays (file_at file).constants) (exprs_at file (level - 1) (get_or file (at + 3) 0) start))
    each_long = subst (λ (n : ℕ). AllAre n (cell_counts (file_at file).nodes locals (constant_arrays (file_at file).constants) es)) first_span (alike_each (file_at file) locals es t)

    counts_long : length (cell_counts (file_at file).nodes (arrays_in (variables (node_in file node))) (constant_arrays (file_at file).constants) (exprs_at file (level - 1) (get_or file (at + 3) 0) start)) ≡ get_or file (at + 3) 0
    counts_long = lengths_count (file_at file).nodes locals (constant_arrays (file_at file).constants) es ∙ count_read file (level - 1) arity start reads

    -- their cells
    pub arrays_cells : all_cells file node (level - 1) (get_or file (at + 3) 0) start ≡ get_or file (at + 3) 0 * span_in file node (expr_at file (level - 1) start)
    arrays_cells = sum_each (span start) (cell_counts (file_at file).nodes locals (constant_arrays (file_at file).constants) es) each_long ∙ ap (λ (m : ℕ). m * span start) counts_long

    -- their values, apart again
    apart : (vss : List (List Value)) (s : List ℕ) → map (λ (l : List Value). length l) vss ≡ cell_counts (file_at file).nodes (arrays_in (variables (node_in file node))) (constant_arrays (file_at file).constants) (exprs_at file (level - 1) (get_or file (at + 3) 0) start)
        → values_of (all_cells file node (level - 1) (get_or file (at + 3) 0) start) s ≡ concat vss → groups (span_in file node (expr_at file (level - 1) start)) (get_or file (at + 3) 0) s ≡ vss
    apart vss s e h =
        let l : length vss ≡ arity = sym (length-map vss (λ (l : List Value). length l)) ∙ ap (λ (l : List ℕ). length l) e ∙ counts_long in
        ap (λ (m : ℕ). groups (span start) m s) (sym l)
        ∙ grouped (span start) vss s (subst (AllAre (span start)) (sym e) each_long) (ap (λ (m : ℕ). values_of m s) (ap (λ (m : ℕ). m * span start) l ∙ sym arrays_cells) ∙ h)

    -- the first of them has that length
    first_values : (vss : List (List Value)) (s : List ℕ) → groups (span_in file node (expr_at file (level - 1) start)) (get_or file (at + 3) 0) s ≡ vss → values_of (span_in file node (expr_at file (level - 1) start)) s ≡ get_or vss 0 []
    first_values vss s e = go (get_or file (at + 3) 0) some_array e
      where
        go : (c : ℕ) → 0 < c → groups (span_in file node (expr_at file (level - 1) start)) c s ≡ vss → values_of (span_in file node (expr_at file (level - 1) start)) s ≡ get_or vss 0 []
        go zero l e = absurd (omega arith)
        go (suc c) l e = ap (λ (w : List (List Value)). get_or w 0 []) e

  no_callee : callee_at file at ≡ None
  no_callee = ap (callee_by file at) b

  -- its arrays are told by their number and where they start
  all_told : (n start : ℕ) → arrays_count file at ≡ n → arrays_start file at ≡ start → (first : Bool) {old' : List ℕ} {a : Step Ending} (work : List ℕ) {new₁ : List ℕ} → AllTo file consts (level - 1) at node first cells before old' a work new₁
      → PassedTo file consts None n (level - 1) start node first cells before old' a work new₁ × EachTo file consts n (level - 1) start node first cells before old'
  all_told n start cE sE first {old'} {a} work {new₁} h =
      subst (λ (c : Callee ℕ). PassedTo file consts c n (level - 1) start node first cells before old' a work new₁ × EachTo file consts n (level - 1) start node first cells before old') no_callee
      (subst (λ (m : ℕ). PassedTo file consts (callee_at file at) m (level - 1) start node first cells before old' a work new₁ × EachTo file consts m (level - 1) start node first cells before old') cE
      (subst (λ (s : ℕ). PassedTo file consts (callee_at file at) (arrays_count file at) (level - 1) s node first cells before old' a work new₁ × EachTo file consts (arrays_count file at) (level - 1) s node first cells before old') sE h))

  -- they can be evaluated in turn
  several_arrays : (n start free : ℕ) → arrays_count file at ≡ n → arrays_start file at ≡ start → n ≤ 32 → at + 1 < length file → 9 * all_cells file node (level - 1) n start ≤ free → Several file node (level - 1) at free
  several_arrays n start free cE sE few inside room =
      record {
        inside = inside;
        few = omega (arith, cE, few);
        given = omega (arith, room, ap (λ (m : ℕ). all_cells file node (level - 1) m (arrays_start file at)) cE, ap (λ (s : ℕ). all_cells file node (level - 1) n s) sE);
        small = subst (λ (c : Callee ℕ). MatchOption c (Unit {0}) (λ k. k < 32)) (sym no_callee) tt;
        called = subst (λ (c : Callee ℕ). MatchOption c (Unit {0}) (λ k. (k < nodes_in file) × SuitAt file node (level - 1) (arrays_count file at) (arrays_start file at) (node_in file k).inputs)) (sym no_callee) tt;
      }

  iterated_of : (m : ℕ) → Enters file tab rows consts node (get_or file (at + 2) 0) → T (iterable m (node_in file (get_or file (at + 2) 0))) → Iterated file tab rows consts (get_or file (at + 2) 0) × (m ≡ length (node_in file (get_or file (at + 2) 0)).inputs)
  iterated_of m e t =
      let q = inputs_told m (node_in file fnode) t in
      (record { running = e.running; below = omega (arith, e.lower, p.plan.node≤); function = subst (λ (x : ℕ). T (iterable x (node_in file (get_or file (at + 2) 0)))) q t }, q)

  module _ (z : get_or file (at + 1) 0 ≡ 0) where
    map_at : Formed file level at (map_over (get_or file (at + 2) 0) (exprs_at file (level - 1) (get_or file (at + 3) 0) (at + 4))) (get_or file (at + 3) 0)
    map_at = (map_form file level at (plan_head file p.plan) b z).0

    map_suits : T (alike (file_at file) (arrays_in (variables (node_in file node))) (exprs_at file (level - 1) (get_or file (at + 3) 0) (at + 4))) × T (iterable (count (exprs_at file (level - 1) (get_or file (at + 3) 0) (at + 4))) (node_in file (get_or file (at + 2) 0)))
    map_suits = T_and (alike (file_at file) locals (exprs_at file (level - 1) arity (at + 4))) (iterable (count (exprs_at file (level - 1) arity (at + 4))) (node_in file fnode)) (plan_suited file p.plan map_at)

    map_count : arrays_count file at ≡ get_or file (at + 3) 0
    map_count = parts_map file at b z

    map_from_at : arrays_start file at ≡ at + 4
    map_from_at = next_map file at b z iterator_in

    -- its arrays can be evaluated
    pub map_ready : Ready file tab rows consts (level - 1) (arrays_count file at) (arrays_start file at) node cells before old new
    map_ready =
        subst (λ (m : ℕ). Ready file tab rows consts (level - 1) m (arrays_start file at) node cells before old new) (sym map_count)
        (subst (λ (s : ℕ). Ready file tab rows consts (level - 1) (get_or file (at + 3) 0) s node cells before old new) (sym map_from_at) (ready_parts p map_at refl))

    map_cells : all_cells file node (level - 1) (get_or file (at + 3) 0) (at + 4) ≡ get_or file (at + 3) 0 * span_in file node (expr_at file (level - 1) (at + 4))
    map_cells = arrays_cells (at + 4) map_at.read map_suits.0

    map_work : work_cells file node level at ≡ get_or file (at + 3) 0 * span_in file node (expr_at file (level - 1) (at + 4))
    map_work = ap (λ (c : ℕ). cond (eqb c 11) (callee_cells file (get_or file (at + 1) 0)) (arrays_count file at * span_in file node (expr_at file (level - 1) (arrays_start file at)))) b ∙ (λ j. map_count j * span_in file node (expr_at file (level - 1) (map_from_at j)))

    pub map_several : (free : ℕ) → 9 * work_cells file node level at ≤ free → Several file node (level - 1) at free
    map_several free room =
        several_arrays arity (at + 4) free map_count map_from_at (map_form file level at (plan_head file p.plan) b z).1 (omega (arith, map_at.inside)) (omega (arith, room, map_work, map_cells))

    -- its first array can be looked at
    pub map_first_plan : Plan file tab rows consts node (level - 1) 1 (at + 4)
    map_first_plan = go (get_or file (at + 3) 0) (some_array (at + 4) map_at.read map_suits.0) (plan_parts file p.plan map_at)
      where
        go : (n : ℕ) → 0 < n → Plan file tab rows consts node (level - 1) n (at + 4) → Plan file tab rows consts node (level - 1) 1 (at + 4)
        go zero l q = absurd (omega arith)
        go (suc n) l q = plan_first file q

    -- its elements
    map_long : cells_at file node level at ≡ span_in file node (expr_at file (level - 1) (at + 4))
    map_long = ap (λ (e : Expr). maybe 1 (λ n. n) (shape_in file node e)) map_at.tree ∙ first_span (at + 4) map_at.read map_suits.0

    pub map_iterated : Iterated file tab rows consts (get_or file (at + 2) 0) × (count (exprs_at file (level - 1) (get_or file (at + 3) 0) (at + 4)) ≡ length (node_in file (get_or file (at + 2) 0)).inputs)
    map_iterated = iterated_of (count (exprs_at file (level - 1) arity (at + 4))) (calls_form p map_at).0.0 map_suits.1

    pub map_mapped : (n k c : ℕ) (work to : List ℕ) → n ≡ span_in file node (expr_at file (level - 1) (at + 4)) → k ≡ get_or file (at + 2) 0 → c ≡ get_or file (at + 3) 0 → 9 * work_cells file node level at ≤ length work → 9 * cells_at file node level at ≤ length to → Iterated file tab rows consts k × Mapped file k n c work to
    map_mapped n k c work to nE kE cE room long =
        let few : n ≤ 32 = few_of (shape_in file node (expr_at file (level - 1) (at + 4))) (span_long file (level - 1) (at + 4) map_first_plan) n nE in
        let l : 9 * n * c ≤ length work = let y : arity * span (at + 4) ≡ c * n = (λ j. sym cE j * sym nE j) in omega (arith, room, map_work, y, native.Mathlib.Nat.mul_assoc 9 n c, native.Mathlib.Nat.mul_comm n c) in (
          subst (λ (x : ℕ). Iterated file tab rows consts x) (sym kE) map_iterated.0,
          record {
            few = few;
            inputs = cE ∙ sym (count_read file (level - 1) arity (at + 4) map_at.read) ∙ map_iterated.1 ∙ ap (λ (x : ℕ). length (node_in file x).inputs) (sym kE);
            given = l;
            taken = omega (arith, long, map_long, nE);
          },
        )

    module _ (first : Bool) where
      map_is : (seg : List ℕ) → cells_eval file consts level at node first cells before seg ≡ map_evaluated (map_all (globals_in file consts) (scope_in file node first cells before) (calls (globals_in file consts)) (get_or file (at + 2) 0)) (each_in file consts node first cells before (exprs_at file (level - 1) (get_or file (at + 3) 0) (at + 4)) seg)
      unfolding cells_by eval
      map_is seg =
          subst (λ (e : Expr). cells_by (is_some (shape_in file node e)) (λ q. array_in file consts node first cells before e q) (λ q. eval_in file consts node first cells before e q) seg ≡ map_evaluated (map_all (globals_in file consts) (scope_in file node first cells before) (calls (globals_in file consts)) (get_or file (at + 2) 0)) (each_in file consts node first cells before (exprs_at file (level - 1) (get_or file (at + 3) 0) (at + 4)) seg))
          (sym map_at.tree) refl

      map_segs : seg_at file level at ≡ segs_at file (level - 1) (get_or file (at + 3) 0) (at + 4)
      map_segs = sym (segs_one file level at p.plan.reads) ∙ segs_form file p.plan.reads map_at refl

      -- on its segment
      map_as : {r : Step Ending} {got : List Value} {new' : List ℕ} → RanTo as_is (map_evaluated (map_all (globals_in file consts) (scope_in file node first cells before) (calls (globals_in file consts)) (get_or file (at + 2) 0)) (each_in file consts node first cells before (exprs_at file (level - 1) (get_or file (at + 3) 0) (at + 4)) (take (segs_at file (level - 1) (get_or file (at + 3) 0) (at + 4)) old))) (ends_at file (level - 1) (get_or file (at + 3) 0) (at + 4)) (segs_at file (level - 1) (get_or file (at + 3) 0) (at + 4)) old r got new'
          → RanTo as_is (cells_eval file consts level at node first cells before (take (seg_at file level at) old)) (end_at file level at) (seg_at file level at) old r got new'
      map_as {r} {got} {new'} h =
          subst (λ (m : ℕ). RanTo as_is (cells_eval file consts level at node first cells before (take m old)) (end_at file level at) m old r got new') (sym map_segs)
          (subst (λ (x : ℕ). RanTo as_is (cells_eval file consts level at node first cells before (take (segs_at file (level - 1) (get_or file (at + 3) 0) (at + 4)) old)) x (segs_at file (level - 1) (get_or file (at + 3) 0) (at + 4)) old r got new') (sym map_at.ends)
          (subst (λ (w : Evals). RanTo as_is w (ends_at file (level - 1) (get_or file (at + 3) 0) (at + 4)) (segs_at file (level - 1) (get_or file (at + 3) 0) (at + 4)) old r got new') (sym (map_is (take (segs_at file (level - 1) (get_or file (at + 3) 0) (at + 4)) old))) h))

      -- an array failed or overflowed
      pub map_stop : {a : Step Ending} (work to : List ℕ) {new₁ : List ℕ} → AllTo file consts (level - 1) at node first cells before old a work new₁ → ¬ (a.out ≡ End.Values) → IteratedTo file consts level at node first cells before old a to new₁
      map_stop {a} work to {new₁} h n =
          let q = all_told arity (at + 4) map_count map_from_at first work h in
          let E = each_in file consts node first cells before (exprs_at file (level - 1) arity (at + 4)) (take (segs_at file (level - 1) arity (at + 4)) old) in
          let F = map_all (globals_in file consts) (scope_in file node first cells before) (calls (globals_in file consts)) fnode in
          let no : ¬ (ending_of (then_results flatten E.out) ≡ End.Values) = λ e. n (q.0.end_is ∙ e) in
          let same : then_results F E.out ≡ then_results flatten E.out = results_not flatten F E.out (λ vss. (concat vss, refl)) no in
          map_as (record {
            end_is = q.0.end_is ∙ ap ending_of (sym same);
            next_is = q.0.next_is;
            used_is = q.0.used_is;
            values_are = subst (λ (o : Outcomes). Holds as_is o (values_of (cells_at file node level at) to)) (sym same) (no_values as_is (values_of (cells_at file node level at) to) (then_results flatten E.out) no);
            state = q.0.state;
          })

      -- all have their values, and the elements were made
      pub map_ends : {a : Step Ending} (work to : List ℕ) {new₁ : List ℕ} {e : Ending} (n k c : ℕ) → n ≡ span_in file node (expr_at file (level - 1) (at + 4)) → k ≡ get_or file (at + 2) 0 → c ≡ get_or file (at + 3) 0 → AllTo file consts (level - 1) at node first cells before old a work new₁ → a.out ≡ End.Values → MapTo file consts k n c work e to
          → IteratedTo file consts level at node first cells before old (record { out = e; next = a.next; used = a.used }) to new₁
      map_ends {a} work to {new₁} {e} n k c nE kE cE h z m =
          let q = all_told arity (at + 4) map_count map_from_at first work h in
          let E = each_in file consts node first cells before (exprs_at file (level - 1) arity (at + 4)) (take (segs_at file (level - 1) arity (at + 4)) old) in
          let F = map_all (globals_in file consts) (scope_in file node first cells before) (calls (globals_in file consts)) fnode in
          let v = with_values flatten E.out (λ vss. (concat vss, refl)) (sym q.0.end_is ∙ z) in
          let vss = v.0 in
          let counts : map (λ (l : List Value). length l) vss ≡ cell_counts (file_at file).nodes (arrays_in (variables (node_in file node))) (constant_arrays (file_at file).constants) (exprs_at file (level - 1) (get_or file (at + 3) 0) (at + 4)) = subst (EachIs (cell_counts (file_at file).nodes (arrays_in (variables (node_in file node))) (constant_arrays (file_at file).constants) (exprs_at file (level - 1) (get_or file (at + 3) 0) (at + 4)))) v.1 q.1 in
          let held : values_of (all_cells file node (level - 1) (get_or file (at + 3) 0) (at + 4)) work ≡ concat vss = subst (λ (o : Results (List (List Value))). Holds (passed_all file None) (then_results flatten o) (values_of (all_cells file node (level - 1) (get_or file (at + 3) 0) (at + 4)) work)) v.1 q.0.values_are in
          let G = apart (at + 4) map_at.read map_suits.0 vss work counts held in
          let one : length (get_or vss 0 []) ≡ span_in file node (expr_at file (level - 1) (at + 4)) = ap (λ (l : List Value). length l) (sym (first_values (at + 4) map_at.read map_suits.0 vss work G)) ∙ length_values (span (at + 4)) work in
          let W : map_from (applied_in file consts k) (groups n c work) 0 n ≡ then_results F E.out = (λ j. map_from (applied_in file consts (kE j)) (groups (nE j) (cE j) work) 0 (nE j)) ∙ (λ j. map_from (applied_in file consts (get_or file (at + 2) 0)) (G j) 0 (sym one j)) ∙ ap (then_results F) (sym v.1) in
          map_as (record {
            end_is = m.end_is ∙ ap ending_of W;
            next_is = q.0.next_is;
            used_is = q.0.used_is;
            values_are = subst (λ (o : Outcomes). Holds as_is o (values_of (cells_at file node level at) to)) W (subst (λ (l : ℕ). Holds as_is (map_from (applied_in file consts k) (groups n c work) 0 n) (values_of l to)) (nE ∙ sym map_long) m.values_are);
            state = q.0.state;
          })

  module _ (z : get_or file (at + 1) 0 ≡ 1) where
    -- where its arrays start
    abbrev behind : ℕ
    behind = end_at file (level - 1) (at + 4)

    abbrev seed : Expr
    seed = expr_at file (level - 1) (at + 4)

    fold_at : Formed file level at (fold_over (get_or file (at + 2) 0) (expr_at file (level - 1) (at + 4)) (exprs_at file (level - 1) (get_or file (at + 3) 0) (end_at file (level - 1) (at + 4)))) (suc (get_or file (at + 3) 0))
    fold_at = (fold_form file level at (plan_head file p.plan) b z).0

    fold_parted : ReadsAll file (level - 1) (get_or file (at + 3) 0) (end_at file (level - 1) (at + 4))
    fold_parted = (parted file (level - 1) (get_or file (at + 3) 0) (at + 4) fold_at.read).tail

    after_seed : T (alike (file_at file) (arrays_in (variables (node_in file node))) (exprs_at file (level - 1) (get_or file (at + 3) 0) (end_at file (level - 1) (at + 4))) && iterable 2 (node_in file (get_or file (at + 2) 0)))
    after_seed = (T_and (takes_in (file_at file) locals scalars seed) (alike (file_at file) locals (exprs_at file (level - 1) arity behind) && iterable 2 (node_in file fnode)) (plan_suited file p.plan fold_at)).1

    fold_suits : T (alike (file_at file) (arrays_in (variables (node_in file node))) (exprs_at file (level - 1) (get_or file (at + 3) 0) (end_at file (level - 1) (at + 4)))) × T (iterable 2 (node_in file (get_or file (at + 2) 0)))
    fold_suits = T_and (alike (file_at file) locals (exprs_at file (level - 1) arity behind)) (iterable 2 (node_in file fnode)) after_seed

    seed_none : (o : Option ℕ) → T (takes scalars o) → o ≡ none
    seed_none none t = refl
    seed_none (some n) t = absurd t

    -- the seed and the arrays can be evaluated
    pub fold_ready : Ready file tab rows consts (level - 1) (suc (get_or file (at + 3) 0)) (at + 4) node cells before old new
    fold_ready = ready_parts p fold_at refl

    -- the seed is a scalar
    pub seed_scalar : ScalarsAt file node (level - 1) 1 (at + 4)
    seed_scalar =
        let o = one_tree file (level - 1) (at + 4) (ready_first fold_ready).plan.reads in
        subst (λ (es : Exprs). Scalars (file_at file).nodes (arrays_in (variables (node_in file node))) (constant_arrays (file_at file).constants) es) (sym o.0)
        (seed_none (shape_in file node seed) (T_and (takes_in (file_at file) locals scalars seed) (alike (file_at file) locals (exprs_at file (level - 1) arity behind) && iterable 2 (node_in file fnode)) (plan_suited file p.plan fold_at)).0, tt)

    fold_count : arrays_count file at ≡ get_or file (at + 3) 0
    fold_count = parts_fold file at b z

    fold_from_at : arrays_start file at ≡ end_at file (level - 1) (at + 4)
    fold_from_at =
        let r = (ready_first fold_ready).plan.reads in
        next_fold file at b z iterator_in ∙ (walk_read file (level - 1) 1 (at + 4) r).0 ∙ (one_tree file (level - 1) (at + 4) r).1

    pub fold_arrays : (u : ℕ) → u ≡ seg_at file (level - 1) (at + 4) → Ready file tab rows consts (level - 1) (arrays_count file at) (arrays_start file at) node cells before (tail_of u old) (tail_of u new)
    fold_arrays u e =
        subst (λ (m : ℕ). Ready file tab rows consts (level - 1) m (arrays_start file at) node cells before (tail_of u old) (tail_of u new)) (sym fold_count)
        (subst (λ (s : ℕ). Ready file tab rows consts (level - 1) (get_or file (at + 3) 0) s node cells before (tail_of u old) (tail_of u new)) (sym fold_from_at)
        (ready_tail u (tail_of u old) (tail_of u new) fold_ready e (tail_all u old) (tail_all u new ∙ ap (drop u) p.same)))

    fold_cells : all_cells file node (level - 1) (get_or file (at + 3) 0) (end_at file (level - 1) (at + 4)) ≡ get_or file (at + 3) 0 * span_in file node (expr_at file (level - 1) (end_at file (level - 1) (at + 4)))
    fold_cells = arrays_cells behind fold_parted fold_suits.0

    fold_work : work_cells file node level at ≡ get_or file (at + 3) 0 * span_in file node (expr_at file (level - 1) (end_at file (level - 1) (at + 4)))
    fold_work = ap (λ (c : ℕ). cond (eqb c 11) (callee_cells file (get_or file (at + 1) 0)) (arrays_count file at * span_in file node (expr_at file (level - 1) (arrays_start file at)))) b ∙ (λ j. fold_count j * span_in file node (expr_at file (level - 1) (fold_from_at j)))

    pub fold_several : (free : ℕ) → 9 * work_cells file node level at ≤ free → Several file node (level - 1) at free
    fold_several free room =
        several_arrays arity behind free fold_count fold_from_at (fold_form file level at (plan_head file p.plan) b z).1 (omega (arith, fold_at.inside)) (omega (arith, room, fold_work, fold_cells))

    pub fold_first_plan : Plan file tab rows consts node (level - 1) 1 (end_at file (level - 1) (at + 4))
    fold_first_plan = go (get_or file (at + 3) 0) (some_array behind fold_parted fold_suits.0) (plan_rest file fold_ready.plan)
      where
        go : (n : ℕ) → 0 < n → Plan file tab rows consts node (level - 1) n (end_at file (level - 1) (at + 4)) → Plan file tab rows consts node (level - 1) 1 (end_at file (level - 1) (at + 4))
        go zero l q = absurd (omega arith)
        go (suc n) l q = plan_first file q

    -- it is one value
    pub fold_long : cells_at file node level at ≡ 1
    fold_long = ap (λ (e : Expr). maybe 1 (λ n. n) (shape_in file node e)) fold_at.tree

    pub fold_iterated : Iterated file tab rows consts (get_or file (at + 2) 0) × (2 ≡ length (node_in file (get_or file (at + 2) 0)).inputs)
    fold_iterated = iterated_of 2 (calls_form p fold_at).0.0 fold_suits.1

    pub fold_room : (n : ℕ) (work : List ℕ) → n ≡ span_in file node (expr_at file (level - 1) (end_at file (level - 1) (at + 4))) → 9 * work_cells file node level at ≤ length work → (n ≤ 32) × (9 * n ≤ length work)
    fold_room n work nE room =
        let l : 1 * span behind ≤ arity * span behind = native.Mathlib.Nat.mul-le-mul_right (span behind) (some_array behind fold_parted fold_suits.0) in
        (few_of (shape_in file node (expr_at file (level - 1) behind)) (span_long file (level - 1) behind fold_first_plan) n nE, omega (arith, room, fold_work, nE, l))

    fold_segs : seg_at file level at ≡ seg_at file (level - 1) (at + 4) + segs_at file (level - 1) (get_or file (at + 3) 0) (end_at file (level - 1) (at + 4))
    fold_segs = sym (segs_one file level at p.plan.reads) ∙ segs_form file p.plan.reads fold_at refl ∙ segs_cons file (level - 1) arity (at + 4) fold_at.read

    pub fold_bytes : seg_at file (level - 1) (at + 4) + segs_at file (level - 1) (get_or file (at + 3) 0) (end_at file (level - 1) (at + 4)) ≤ length old
    fold_bytes = omega (arith, fold_segs, segs_one file level at p.plan.reads, p.room)

    module _ (first : Bool) where
      abbrev glob : Rattle.ol_spec.specs.Eval.Globals
      glob = globals_in file consts

      abbrev sc : Rattle.ol_spec.specs.Eval.Scope
      sc = scope_in file node first cells before

      abbrev arrays : List ℕ → Evaluated (List (List Value))
      arrays = each_in file consts node first cells before (exprs_at file (level - 1) arity behind)

      -- the seed is next, though its records stand first
      folds : List (List Value) → List ℕ → Evals
      folds vss own = several_eval (map_eval (fold_all (globals_in file consts) (scope_in file node first cells before) (calls (globals_in file consts)) (get_or file (at + 2) 0) vss) (eval_in file consts node first cells before (expr_at file (level - 1) (at + 4)) own))

      fold_is : (seg : List ℕ) → cells_eval file consts level at node first cells before seg ≡ several_eval (single_eval (enter folds (take (seg_at file (level - 1) (at + 4)) seg) (each_in file consts node first cells before (exprs_at file (level - 1) (get_or file (at + 3) 0) (end_at file (level - 1) (at + 4))) (drop (seg_at file (level - 1) (at + 4)) seg))))
      unfolding cells_by eval folds
      fold_is seg =
          subst (λ (e : Expr). cells_by (is_some (shape_in file node e)) (λ q. array_in file consts node first cells before e q) (λ q. eval_in file consts node first cells before e q) seg ≡ several_eval (single_eval (enter folds (take (seg_at file (level - 1) (at + 4)) seg) (each_in file consts node first cells before (exprs_at file (level - 1) (get_or file (at + 3) 0) (end_at file (level - 1) (at + 4))) (drop (seg_at file (level - 1) (at + 4)) seg)))))
          (sym fold_at.tree) refl

      -- on its segment
      fold_seg : (a m : ℕ) → a ≡ seg_at file (level - 1) (at + 4) → m ≡ segs_at file (level - 1) (get_or file (at + 3) 0) (end_at file (level - 1) (at + 4)) → cells_eval file consts level at node first cells before (take (seg_at file level at) old) ≡ several_eval (single_eval (enter folds (take a old) (each_in file consts node first cells before (exprs_at file (level - 1) (get_or file (at + 3) 0) (end_at file (level - 1) (at + 4))) (take m (drop a old)))))
      fold_seg a m ea em =
          let y : a + m - a ≡ m = omega arith in
          let d : drop a (take (a + m) old) ≡ take m (drop a old) = drop_take a (a + m) old ∙ ap (λ (j : ℕ). take j (drop a old)) y in
          ap (λ (j : ℕ). cells_eval file consts level at node first cells before (take j old)) (fold_segs ∙ (λ j. sym ea j + sym em j)) ∙ fold_is (take (a + m) old)
          ∙ (λ j. several_eval (single_eval (enter folds (take (sym ea j) (take (a + m) old)) (arrays (drop (sym ea j) (take (a + m) old))))))
          ∙ (λ j. several_eval (single_eval (enter folds (take-take a (a + m) old (omega arith) j) (arrays (d j)))))

      fold_in : {r : Step Ending} {got : List Value} {new' : List ℕ} (a m : ℕ) → a ≡ seg_at file (level - 1) (at + 4) → m ≡ segs_at file (level - 1) (get_or file (at + 3) 0) (end_at file (level - 1) (at + 4)) → RanTo as_is (several_eval (single_eval (enter folds (take a old) (each_in file consts node first cells before (exprs_at file (level - 1) (get_or file (at + 3) 0) (end_at file (level - 1) (at + 4))) (take m (drop a old)))))) (ends_at file (level - 1) (get_or file (at + 3) 0) (end_at file (level - 1) (at + 4))) (a + m) old r got new'
          → RanTo as_is (cells_eval file consts level at node first cells before (take (seg_at file level at) old)) (end_at file level at) (seg_at file level at) old r got new'
      fold_in {r} {got} {new'} a m ea em h =
          let W = cells_eval file consts level at node first cells before (take (seg_at file level at) old) in
          subst (λ (k : ℕ). RanTo as_is (cells_eval file consts level at node first cells before (take (seg_at file level at) old)) (end_at file level at) k old r got new') ((λ j. ea j + em j) ∙ sym fold_segs)
          (subst (λ (x : ℕ). RanTo as_is (cells_eval file consts level at node first cells before (take (seg_at file level at) old)) x (a + m) old r got new') (sym (fold_at.ends ∙ (parted file (level - 1) (get_or file (at + 3) 0) (at + 4) fold_at.read).ends))
          (subst (λ (w : Evals). RanTo as_is w (ends_at file (level - 1) (get_or file (at + 3) 0) (end_at file (level - 1) (at + 4))) (a + m) old r got new') (sym (fold_seg a m ea em)) h))

      -- the arrays, on what follows the seed's segment
      fold_told : (u : ℕ) → {a : Step Ending} (work : List ℕ) {new₁ : List ℕ} → AllTo file consts (level - 1) at node first cells before (tail_of u old) a work new₁
          → PassedTo file consts None (get_or file (at + 3) 0) (level - 1) (end_at file (level - 1) (at + 4)) node first cells before (drop u old) a work new₁ × EachTo file consts (get_or file (at + 3) 0) (level - 1) (end_at file (level - 1) (at + 4)) node first cells before (drop u old)
      fold_told u {a} work {new₁} h =
          subst (λ (s : List ℕ). PassedTo file consts None (get_or file (at + 3) 0) (level - 1) (end_at file (level - 1) (at + 4)) node first cells before s a work new₁ × EachTo file consts (get_or file (at + 3) 0) (level - 1) (end_at file (level - 1) (at + 4)) node first cells before s) (tail_all u old)
          (all_told arity behind fold_count fold_from_at first work h)

      entered_not : (own : List ℕ) (A : Evaluated (List (List Value))) → ¬ (ending_of (then_results flatten A.out) ≡ End.Values) → several_eval (single_eval (enter folds own A)) ≡ record { out = then_results flatten A.out; seg = own ++ A.seg }
      unfolding enter
      entered_not own A h = go A.out h
        where
          go : (o : Results (List (List Value))) → ¬ (ending_of (then_results flatten o) ≡ End.Values) → several_eval (single_eval (enter_on folds own o A.seg)) ≡ record { out = then_results flatten o; seg = own ++ A.seg }
          go (values vss) h = absurd (h refl)
          go (failure c) h = refl
          go overflow h = refl

      -- an array failed or overflowed
      pub fold_stop : (u : ℕ) → u ≡ seg_at file (level - 1) (at + 4) → {a : Step Ending} (work to : List ℕ) {new₁ : List ℕ} → AllTo file consts (level - 1) at node first cells before (tail_of u old) a work new₁ → ¬ (a.out ≡ End.Values)
          → IteratedTo file consts level at node first cells before old (record { out = a.out; next = a.next; used = u + a.used }) to (put_tail u new new₁)
      fold_stop u ue {a} work to {new₁} h n =
          let q = fold_told u work h in
          let m = segs_at file (level - 1) arity behind in
          let E = arrays (take m (drop u old)) in
          let no : ¬ (ending_of (then_results flatten E.out) ≡ End.Values) = λ e. n (q.0.end_is ∙ e) in
          let got = values_of (cells_at file node level at) to in
          fold_in u m ue refl (subst (λ (w : Evals). RanTo as_is w (ends_at file (level - 1) arity behind) (u + m) old (record { out = a.out; next = a.next; used = u + a.used }) got (put_tail u new new₁)) (sym (entered_not (take u old) E no))
          (record {
            end_is = q.0.end_is;
            next_is = q.0.next_is;
            used_is = (λ j. u + q.0.used_is j);
            values_are = no_values as_is got (then_results flatten E.out) no;
            state = put_tail_lem u new new₁ ∙ (λ j. take u (p.same j) ++ (q.0.state ∙ ap (λ (l : List ℕ). E.seg ++ l) (drop-drop m u old)) j) ∙ sym (append_assoc (take u old) E.seg (drop (u + m) old));
          }))

      entered_done : (own : List ℕ) (A : Evaluated (List (List Value))) (vss : List (List Value)) → A.out ≡ values vss → several_eval (single_eval (enter folds own A)) ≡ record { out = several (then_out (fold_all (globals_in file consts) (scope_in file node first cells before) (calls (globals_in file consts)) (get_or file (at + 2) 0) vss) (eval_in file consts node first cells before (expr_at file (level - 1) (at + 4)) own).out); seg = (eval_in file consts node first cells before (expr_at file (level - 1) (at + 4)) own).seg ++ A.seg }
      unfolding enter folds
      entered_done own A vss e =
          ap (λ (o : Results (List (List Value))). several_eval (single_eval (enter_on folds own o A.seg))) e
          ∙ (λ j. record { out = several_single (then_out (fold_all glob sc (calls glob) fnode vss) (eval_in file consts node first cells before seed own).out) j; seg = (eval_in file consts node first cells before seed own).seg ++ A.seg })

      -- all have their values, and so have the seed and the elements, or not
      pub fold_ends : (u k n : ℕ) → u ≡ seg_at file (level - 1) (at + 4) → k ≡ get_or file (at + 2) 0 → n ≡ span_in file node (expr_at file (level - 1) (end_at file (level - 1) (at + 4))) → {a : Step Ending} (work to to' : List ℕ) {new₁ new_s : List ℕ} {sd : Step Outcome} {o : Outcome} {e : Ending} → AllTo file consts (level - 1) at node first cells before (tail_of u old) a work new₁ → a.out ≡ End.Values
          → EvalsTo file consts (level - 1) (at + 4) node first cells before (take u old) sd new_s → FoldTo file consts k n work sd.out o → e ≡ ending_of (several o) → Puts tab None 0 o to to'
          → IteratedTo file consts level at node first cells before old (record { out = e; next = a.next; used = u + a.used }) to' (new_s ++ drop u (put_tail u new new₁))
      fold_ends u k n ue kE nE {a} work to to' {new₁} {new_s} {sd} {o} {e} h z s f ee w =
          let q = fold_told u work h in
          let m = segs_at file (level - 1) arity behind in
          let E = arrays (take m (drop u old)) in
          let v = with_values flatten E.out (λ vss. (concat vss, refl)) (sym q.0.end_is ∙ z) in
          let vss = v.0 in
          let counts : map (λ (l : List Value). length l) vss ≡ cell_counts (file_at file).nodes (arrays_in (variables (node_in file node))) (constant_arrays (file_at file).constants) (exprs_at file (level - 1) (get_or file (at + 3) 0) (end_at file (level - 1) (at + 4))) = subst (EachIs (cell_counts (file_at file).nodes (arrays_in (variables (node_in file node))) (constant_arrays (file_at file).constants) (exprs_at file (level - 1) (get_or file (at + 3) 0) (end_at file (level - 1) (at + 4))))) v.1 q.1 in
          let held : values_of (all_cells file node (level - 1) (get_or file (at + 3) 0) (end_at file (level - 1) (at + 4))) work ≡ concat vss = subst (λ (x : Results (List (List Value))). Holds (passed_all file None) (then_results flatten x) (values_of (all_cells file node (level - 1) (get_or file (at + 3) 0) (end_at file (level - 1) (at + 4))) work)) v.1 q.0.values_are in
          let G = apart behind fold_parted fold_suits.0 vss work counts held in
          let V : values_of n work ≡ get_or vss 0 [] = ap (λ (x : ℕ). values_of x work) nE ∙ first_values behind fold_parted fold_suits.0 vss work G in
          let S = eval_in file consts node first cells before seed (take u old) in
          let own : take (seg_at file (level - 1) (at + 4)) (take u old) ≡ take u old = ap (λ (x : ℕ). take x (take u old)) (sym ue) ∙ take-take u u old (omega arith) in
          let none : drop (seg_at file (level - 1) (at + 4)) (take u old) ≡ [] = ap (λ (x : ℕ). drop x (take u old)) (sym ue) ∙ drop_take u u old ∙ ap (λ (x : ℕ). take x (drop u old)) (let y : u - u ≡ 0 = omega arith in y) ∙ take_none (drop u old) in
          let S_out : sd.out ≡ S.out = s.out ∙ ap (λ (x : List ℕ). (eval_in file consts node first cells before seed x).out) own in
          let S_seg : new_s ≡ S.seg = s.state ∙ (λ j. (eval_in file consts node first cells before seed (own j)).seg ++ none j) ∙ append-nil S.seg in
          let O : o ≡ then_out (fold_all glob sc (calls glob) fnode vss) S.out = f ∙ (λ j. then_out (λ r. fold_from (applied_in file consts (kE j)) r (V j)) (S_out j)) in
          let W = entered_done (take u old) E vss v.1 in
          let le : u ≤ length old = omega (arith, ue, fold_bytes) in
          fold_in u m ue refl (subst (λ (x : Evals). RanTo as_is x (ends_at file (level - 1) arity behind) (u + m) old (record { out = e; next = a.next; used = u + a.used }) (values_of (cells_at file node level at) to') (new_s ++ drop u (put_tail u new new₁))) (sym W)
          (record {
            end_is = ee ∙ ap (λ (x : Outcome). ending_of (several x)) O;
            next_is = q.0.next_is;
            used_is = (λ j. u + q.0.used_is j);
            values_are = subst (λ (x : ℕ). Holds as_is (several (then_out (fold_all glob sc (calls glob) fnode vss) S.out)) (values_of x to')) (sym fold_long) (subst (λ (x : Outcome). Holds as_is (several x) (values_of 1 to')) O (one_put o to' w.value));
            state = (λ j. S_seg j ++ (drop_put u new new₁ (omega (arith, le, ap (λ (l : List ℕ). length l) p.same)) ∙ q.0.state ∙ ap (λ (l : List ℕ). E.seg ++ l) (drop-drop m u old)) j) ∙ sym (append_assoc S.seg E.seg (drop (u + m) old));
          }))
        where
          one_put : (o : Outcome) (to' : List ℕ) → ((v : Value) → o ≡ Out.Value v → (e : ℕ) → Rattle.ol_spec.specs.Cell.value_of (take 9 to') ≡ v) → Holds as_is (several o) (values_of 1 to')
          one_put (Out.Value v) to' w = ap (λ (x : Value). x ∷ []) (w v refl 0)
          one_put (Out.Failure c) to' w = tt
          one_put Out.Overflow to' w = tt

-- ---- the code

pub iterator_code : (file : List ℕ) (at : ℕ) → eqb (get_or file at 0) 11 || eqb (get_or file at 0) 15 ≡ true → ¬ (get_or file at 0 ≡ 11) → get_or file at 0 ≡ 15
iterator_code file at w n = eqb-true (get_or file at 0) 15 (sym (ap (λ (x : Bool). x || eqb (get_or file at 0) 15) (borrow.Author.Tests.ne_eqb (get_or file at 0) 11 n)) ∙ w)

-- an iterator's head is within the file
pub iterator_far : (file : List ℕ) (level at : ℕ) → Reads file level at → get_or file at 0 ≡ 15 → at + 4 ≤ length file
iterator_far file level at d b = go (get_or file (at + 1) 0) refl (iterator_kind file level at d b)
  where
    go : (j : ℕ) → get_or file (at + 1) 0 ≡ j → j < 2 → at + 4 ≤ length file
    go zero z l = (map_form file level at d b z).0.inside
    go (suc zero) z l = (fold_form file level at d b z).0.inside
    go (suc (suc j)) z l = absurd (omega arith)

-- one that is no map is a fold
pub fold_kind : (file : List ℕ) (level at : ℕ) → Reads file level at → get_or file at 0 ≡ 15 → eqb (get_or file (at + 1) 0) 0 ≡ false → get_or file (at + 1) 0 ≡ 1
fold_kind file level at d b n = let no : ¬ (get_or file (at + 1) 0 ≡ 0) = eqb-false (get_or file (at + 1) 0) 0 n in omega (arith, iterator_kind file level at d b, no)

-- how much of an iterator's cells there is room for
pub works_room : (file : List ℕ) (at : ℕ) (P : Type 0) → get_or file at 0 ≡ 15 → (eqb (get_or file at 0) 11 ≡ false → P) → P
works_room file at P b f = f (ap (λ (c : ℕ). eqb c 11) b)

-- there is room for a call's cells
pub work_call_room : (file : List ℕ) (node level at free : ℕ) → get_or file at 0 ≡ 11 → 9 * work_cells file node level at ≤ free → 9 * callee_cells file (get_or file (at + 1) 0) ≤ free
work_call_room file node level at free b room =
    let y : work_cells file node level at ≡ callee_cells file (get_or file (at + 1) 0) = ap (λ (c : ℕ). cond (eqb c 11) (callee_cells file (get_or file (at + 1) 0)) (arrays_count file at * span_in file node (expr_at file (level - 1) (arrays_start file at)))) b in
    omega (arith, room, y)

-- the bytes that a fold's arrays used
pub fold_used : {file tab rows consts : List ℕ} {level at node : ℕ} {cells before old new : List ℕ} (p : Ready file tab rows consts level 1 at node cells before old new) (b : get_or file at 0 ≡ 15) (z : get_or file (at + 1) 0 ≡ 1) (first : Bool) (u : ℕ) → {a : Step Ending} (work : List ℕ) {new₁ : List ℕ} → AllTo file consts (level - 1) at node first cells before (tail_of u old) a work new₁
    → a.used ≡ segs_at file (level - 1) (get_or file (at + 3) 0) (end_at file (level - 1) (at + 4))
fold_used p b z first u work h = (fold_told p b z first u work h).0.used_is

-- ---- how many cells the work takes

both_all : {A : Type 0} (q : A → Bool) (xs ys : List A) → T (all_of q (xs ++ ys)) → T (all_of q xs) × T (all_of q ys)
both_all q [] ys t = (tt, t)
both_all q (x ∷ xs) ys t = let w = T_and (q x) (all_of q (xs ++ ys)) t in let v = both_all q xs ys w.1 in (and_t (q x) (all_of q xs) w.0 v.0, v.1)

callee_most : {file tab rows : List ℕ} (k : ℕ) → Program file tab rows → k < nodes_in file → callee_cells file k ≤ 1024
callee_most {file} k p b =
    let n = node_in file k in
    let f = node_fit p k b in
    let enums = length (file_at file).enums in
    let v = both_all (variable_fits base enums) (n.inputs ++ n.outputs) n.locals f.vars in
    let u = both_all (variable_fits base enums) n.inputs n.outputs v.0 in
    omega (arith, few_cells enums n.inputs u.0, few_cells enums n.outputs u.1, f.inputs, f.outputs)

product_most : (a b : ℕ) → a ≤ 32 → b ≤ 32 → a * b ≤ 1024
product_most a b l m =
    let x : a * b ≤ 32 * b = native.Mathlib.Nat.mul-le-mul_right b l in
    omega (arith, x, m)

pub work_most : {file tab rows consts : List ℕ} {level at node : ℕ} {cells before old new : List ℕ} (p : Ready file tab rows consts level 1 at node cells before old new) → eqb (get_or file at 0) 11 || eqb (get_or file at 0) 15 ≡ true → work_cells file node level at ≤ 1024
work_most {file} {level = level} {at = at} {node = node} p w = by_cases (ℕ_discrete (get_or file at 0) 11) call (λ n. iterator (iterator_code file at w n))
  where
    call : get_or file at 0 ≡ 11 → work_cells file node level at ≤ 1024
    call b =
        let y : work_cells file node level at ≡ callee_cells file (get_or file (at + 1) 0) = ap (λ (c : ℕ). cond (eqb c 11) (callee_cells file (get_or file (at + 1) 0)) (arrays_count file at * span_in file node (expr_at file (level - 1) (arrays_start file at)))) b in
        omega (arith, y, callee_most (get_or file (at + 1) 0) p.plan.program (omega (arith, (Rattle.ol_frame.proofs.Planning.plan_call file p.plan b).lower, p.plan.node≤)))

    iterator : get_or file at 0 ≡ 15 → work_cells file node level at ≤ 1024
    iterator b = go (get_or file (at + 1) 0) refl (iterator_kind file level at (plan_head file p.plan) b)
      where
        go : (j : ℕ) → get_or file (at + 1) 0 ≡ j → j < 2 → work_cells file node level at ≤ 1024
        go zero z l =
            omega (arith, map_work p b z, product_most (get_or file (at + 3) 0) (span_in file node (expr_at file (level - 1) (at + 4))) (map_form file level at (plan_head file p.plan) b z).1 (few_of (shape_in file node (expr_at file (level - 1) (at + 4))) (span_long file (level - 1) (at + 4) (map_first_plan p b z)) _ refl))
        go (suc zero) z l =
            let s = end_at file (level - 1) (at + 4) in
            omega (arith, fold_work p b z, product_most (get_or file (at + 3) 0) (span_in file node (expr_at file (level - 1) s)) (fold_form file level at (plan_head file p.plan) b z).1 (few_of (shape_in file node (expr_at file (level - 1) s)) (span_long file (level - 1) s (fold_first_plan p b z)) _ refl))
        go (suc (suc j)) z l = absurd (omega arith)

-- ---- an iterator's first array, by its plan

module _ {file tab rows consts : List ℕ} {node level at : ℕ} (p : Plan file tab rows consts node level 1 at) (b : get_or file at 0 ≡ 15) where
  plan_in : at < length file
  plan_in = reads_in file level at (plan_head file p)

  fold_array : get_or file (at + 1) 0 ≡ 1 → Plan file tab rows consts node (level - 1) 1 (arrays_start file at)
  fold_array z =
      subst (λ (s : ℕ). Plan file tab rows consts node (level - 1) 1 s) (sym (next_fold file at b z plan_in ∙ (walk_read file (level - 1) 1 (at + 4) one.reads).0 ∙ (one_tree file (level - 1) (at + 4) one.reads).1))
      (go (get_or file (at + 3) 0) suits (plan_rest file parts))
    where
      w : Formed file level at (fold_over (get_or file (at + 2) 0) (expr_at file (level - 1) (at + 4)) (exprs_at file (level - 1) (get_or file (at + 3) 0) (end_at file (level - 1) (at + 4)))) (suc (get_or file (at + 3) 0))
      w = (fold_form file level at (plan_head file p) b z).0

      parts : Plan file tab rows consts node (level - 1) (suc (get_or file (at + 3) 0)) (at + 4)
      parts = plan_parts file p w

      one : Plan file tab rows consts node (level - 1) 1 (at + 4)
      one = plan_first file parts

      vars : List Sized
      vars = arrays_in (variables (node_in file node))

      suits : T (alike (file_at file) (arrays_in (variables (node_in file node))) (exprs_at file (level - 1) (get_or file (at + 3) 0) (end_at file (level - 1) (at + 4))))
      suits =
          let es = exprs_at file (level - 1) (get_or file (at + 3) 0) (end_at file (level - 1) (at + 4)) in
          (T_and (alike (file_at file) vars es) (iterable 2 (node_in file (get_or file (at + 2) 0)))
          (T_and (takes_in (file_at file) vars scalars (expr_at file (level - 1) (at + 4))) (alike (file_at file) vars es && iterable 2 (node_in file (get_or file (at + 2) 0))) (plan_suited file p w)).1).0

      go : (n : ℕ) → T (alike (file_at file) (arrays_in (variables (node_in file node))) (exprs_at file (level - 1) n (end_at file (level - 1) (at + 4)))) → Plan file tab rows consts node (level - 1) n (end_at file (level - 1) (at + 4)) → Plan file tab rows consts node (level - 1) 1 (end_at file (level - 1) (at + 4))
      go zero t q = absurd (subst (λ es. T (alike (file_at file) (arrays_in (variables (node_in file node))) es)) (none_read file (level - 1) (end_at file (level - 1) (at + 4))).0 t)
      go (suc n) t q = plan_first file q

  pub first_array : Plan file tab rows consts node (level - 1) 1 (arrays_start file at)
  first_array = go (get_or file (at + 1) 0) refl (iterator_kind file level at (plan_head file p) b)
    where
      go : (j : ℕ) → get_or file (at + 1) 0 ≡ j → j < 2 → Plan file tab rows consts node (level - 1) 1 (arrays_start file at)
      go zero z l = subst (λ (s : ℕ). Plan file tab rows consts node (level - 1) 1 s) (sym (next_map file at b z plan_in)) (map_array file p b z)
      go (suc zero) z l = fold_array z
      go (suc (suc j)) z l = absurd (omega arith)

  pub arrays_few : arrays_count file at ≤ 32
  arrays_few = go (get_or file (at + 1) 0) refl (iterator_kind file level at (plan_head file p) b)
    where
      go : (j : ℕ) → get_or file (at + 1) 0 ≡ j → j < 2 → arrays_count file at ≤ 32
      go zero z l = omega (arith, parts_map file at b z, (map_form file level at (plan_head file p) b z).1)
      go (suc zero) z l = omega (arith, parts_fold file at b z, (fold_form file level at (plan_head file p) b z).1)
      go (suc (suc j)) z l = absurd (omega arith)

  pub arrays_work : work_cells file node level at ≡ arrays_count file at * span_in file node (expr_at file (level - 1) (arrays_start file at))
  arrays_work = ap (λ (c : ℕ). cond (eqb c 11) (callee_cells file (get_or file (at + 1) 0)) (arrays_count file at * span_in file node (expr_at file (level - 1) (arrays_start file at)))) b

  pub arrays_most : (c n : ℕ) → c ≡ arrays_count file at → n ≡ span_in file node (expr_at file (level - 1) (arrays_start file at)) → c * n ≤ 1024
  arrays_most c n cE nE =
      product_most c n (omega (arith, cE, arrays_few)) (few_of (shape_in file node (expr_at file (level - 1) (arrays_start file at))) (span_long file (level - 1) (arrays_start file at) first_array) n nE)

-- a call's cells, by the table
pub callee_told : {file tab rows : List ℕ} (k i o : ℕ) → Program file tab rows → k < nodes_in file → i ≡ count_at tab k 1 → o ≡ count_at tab k 2 → (i ≤ o) × (o - i ≡ output_count (node_in file k)) × (i ≡ Rattle.ol_spec.specs.Step.input_count (node_in file k))
callee_told k i o p b iE oE = let t = p.table.tabs_of k b in (omega (arith, t.input_cells, t.output_cells, iE, oE), omega (arith, t.input_cells, t.output_cells, iE, oE), iE ∙ t.input_cells)

pub call_work : (file : List ℕ) (node level at : ℕ) → get_or file at 0 ≡ 11 → work_cells file node level at ≡ callee_cells file (get_or file (at + 1) 0)
call_work file node level at b = ap (λ (c : ℕ). cond (eqb c 11) (callee_cells file (get_or file (at + 1) 0)) (arrays_count file at * span_in file node (expr_at file (level - 1) (arrays_start file at)))) b

-- ---- an expression has two bytes or more
