-- What the members of the cycle are asked, each member by its name. A call within the cycle is asked first for its measure.
use Rattle.std.proofs.Common.{ℕ, suc, ◌*◌, ◌+◌, ◌-◌, ◌<◌, ◌≤◌, drop, get_or, length, length-drop, take, length-take-le, Bool, true, false, List, ◌∷◌, ap, refl, subst, sym, ◌∙◌, ◌≡◌, arith, [], ◌++◌}
use Rattle.ol_eval.proofs.Evals.{first_not, first_ran, if_stop, if_taken, mapped, remade, rest_old, second_not, second_ran, seq_as, two_done, two_stop, untaken_meets}
use Rattle.ol_eval.proofs.Scalars.{scalar_first, scalars_rest, one_scalar, scalar_shape, not_array, is_long, array_span, unary_scalars, cast_scalars, if_scalars, arrow_scalars, binary_alike, binary_equated, index_scalar}
use Rattle.ol_eval.proofs.Parts.{span_few, span_scalar, part_named, part_called, part_scalar, part_array, span_array, cells_of_span, part_moved}
use Rattle.ol_eval.proofs.Arrays.{on_segment, both_arrays, both_scalars, other_op, two_is, moved_array, passed_behind, both_used, equal_evals, equal_stops, index_evals, index_stops}
use Rattle.ol_eval.proofs.Spans.{name_array, name_span, name_done, before_array, before_span, before_done, literal_ready, literal_several, literal_done, work_given, work_done}
use Rattle.ol_eval.proofs.Singles.{call_one, work_one}
use Rattle.ol_frame.specs.Equations.{arrays_count, arrays_start, EquationIs, rhs_in}
use Rattle.ol_frame.specs.Arrays.{compared_by}
use Rattle.ol_frame.specs.Outcomes.{ended_out}
use Rattle.ol_eval.specs.Calls.{ArrayTo, is_work, work_outputs, callee_cells, callee_at, work_cells, all_cells, MapsTo, passed_all, Iterated, applied_in, scalar_rhs}
use Rattle.ol_frame.specs.Walk.{nodes_in, Passable, SkipsTo, Skips}
use Rattle.ol_frame.proofs.Shaping.{call_below}
use Rattle.ol_spec.specs.Lists.{is_some, maybe}
use mathlib.Core.Bool.{cond, ◌||◌}
use mathlib.Core.Option.{none}
use lib.Dec.{eqb}
use Rattle.ol_tables.specs.Tables.{row_at}
use Rattle.ol_eval.proofs.Readying.{cast_out_is, cast_size, leaf_form, chosen_is, first_is, form_evals, fronted, leaf_evals, moved, moved_choice, moved_skip, moved_untaken, one_evals, ready_deep, ready_first, ready_fits, ready_fits_new, ready_front, ready_inside, ready_parts, ready_pass, ready_rest, ready_seg, ready_tail, skip_one, two_ends, two_segs, unary_out_is, var_evals}
use Rattle.ol_eval.specs.Post.{on, EvalsTo, UntakenTo, array_at, branch_in, choose_in, if_in, two_in, index_in}
use Rattle.ol_spec.specs.Order.{order}
use Rattle.ol_frame.proofs.Planning.{plan_form, plan_head, plan_name, segs_cons, plan_map, plan_fold}
use Rattle.ol_frame.proofs.Tabling.{rows_room}
use Rattle.ol_frame.specs.Plans.{Plan, Leaf, shape_in, span_in, eval_in, globals_in, name_at, scope_in, seg_at, segs_at}
use Rattle.ol_frame.specs.Stores.{groups}
use Rattle.ol_frame.specs.declared.outcomes.Ending.{Ending}
use Rattle.ol_spec.specs.declared.Outcome.TheVariants as Out
use Rattle.std.specs.Prelude.{Some}
use Rattle.ol_spec.specs.Cell.{values_of}
use Rattle.ol_spec.specs.Eval.{choose, condition, eval, map_eval, next, present_of, has_call, map_from, fold_from, then_out, elements_at}
use Rattle.ol_spec.specs.Operators.{unary_of}
use Rattle.ol_spec.specs.Places.{ty_size}
use Rattle.ol_spec.specs.Types.{cast_to}
use Rattle.ol_spec.specs.declared.Value.{Value}
use Rattle.ol_tables.proofs.Forms.{arrow_form, binary_form, call_form, cast_form, if_form, index_form, parted, type_some, unary_form}
use Rattle.ol_tables.proofs.Lending.{length_put, put_tail, tail_all, tail_of}
use Rattle.ol_tables.specs.declared.form.Form.TheVariants as Frm
use Rattle.ol_tables.proofs.FormLaws.{form_is}
use borrow.Author.Tests.{eqb-true, eqb-false, true-eqb}
use Rattle.ol_tables.specs.At.{end_at, expr_at, node_in}
use Rattle.ol_tables.specs.Table.{consts_of, rows_of, tab_of}
use Rattle.ol_value.specs.Codes.{binary_by}
use Rattle.ol_eval.proofs.Stepping.{few, width_is, own_width, inputs_are, outputs_are, narrow, widest, inputs_first, outputs_first, row_room, is_operator_lem, is_function, own_room, own_new, put_length, instance_runnable, function_runnable, framed_runnable, framed_run, entered, instance_finished, instance_failed, instance_overflowed, function_done}
use Rattle.ol_frame.proofs.Copying.{all_copied}
use Rattle.ol_frame.specs.declared.outcomes.Ending.TheVariants as End
use Rattle.ol_frame.proofs.Storing.{values_next, kept_back}
use Rattle.ol_eval.proofs.Arguments.{Goes, cons_all, going_done, going_left, going_length, going_part, going_passable, going_ready, going_start, going_stop, going_turn, going_used, going_cells, left_done, left_none, left_pass, left_suc}
use Rattle.ol_eval.proofs.Calling.{call_all, call_at, call_done, call_fits, call_fits_new, call_lower, call_parts, call_several, call_small, call_steps, call_stop, call_used}
use Rattle.ol_eval.proofs.Iterating.{map_turn, map_start, fold_turn, iterated_few, iterated_small, iterated_steps, iterated_applies, gathered, two_given}
use Rattle.ol_eval.proofs.Iterating
use Rattle.ol_eval.proofs.Working.{call_work, first_array, arrays_few, arrays_work, arrays_most, callee_told, work_most, work_call_room, iterator_code, iterator_far, fold_kind, works_room, work_call, work_iterated, map_ready, map_several, map_first_plan, map_mapped, map_iterated, map_ends, fold_ready, seed_scalar, fold_arrays, fold_several, fold_first_plan, fold_long, fold_iterated, fold_room, fold_bytes, fold_ends}
use Rattle.ol_eval.proofs.Working
use Rattle.ol_eval.proofs.Rights.{Ran, ran_as, array_fits, array_ran, assignable, work_fits, call_ran, equation_ready, few_equation_cells, first_storable, names_inside, one_done, ran_done, ran_stops, right_place, right_scalar, tuple_ran, tuple_ready, tuple_several}
use Rattle.ol_eval.proofs.Turns.{LeftIn, keeps_done, keeps_ready, run_done, run_next, run_start, turn_goes, turn_part, turn_ready, turn_stops}
use Rattle.ol_frame.proofs.Equating.{equation_is}
use Rattle.ol_frame.proofs.Framing.{keeps_all, keeps_on}
use Rattle.ol_frame.proofs.Running.{length_mid, length_put_mid, mid_of}
use Rattle.ol_eval.proofs.eval.+evaluation.Goals.{eval_equal-After-eval_array-r, eval_two-After-compared_length-n, eval_call-After-from-k, eval_call-After-row-outputs, eval_first-After-pass-s, eval_second-After-pass-s, eval_second-After-eval-e, equation-After-is_scalar, equation_in-After-from-n, equation_in-in-Call, equation_in-in-Tuple, equation_in-in_default, run-After-records_at-b}
use Rattle.ol_eval.proofs.eval.+evaluation.Goals as goal

pub eval-is_at-requires : goal.eval-is_at-requires
eval-is_at-requires t c = ready_inside c.requires.0

pub eval-present-requires : goal.eval-present-requires
eval-present-requires t c =
    let p = c.requires.0 in
    let f = c.args.file.now in
    (plan_name f p.plan (true-eqb _ _ c.if-is_at.ensures), p.present)

pub eval-returns-then-is_at : goal.eval-returns-then-is_at
eval-returns-then-is_at t c =
    let p = c.requires.0 in
    let fr = c.args.frame.now in
    let tb = c.args.tab.now in
    let f = c.args.file.now in
    let L = c.args.level in
    let a = c.args.at in
    let h = plan_head f p.plan in
    var_evals f (consts_of tb) L a fr.node fr.first fr.cells.now fr.before.now p.plan.reads h (true-eqb _ _ c.if-is_at.ensures) p.same (c.named_out.ensures (present_of (globals_in f (consts_of tb)) (scope_in f fr.node false fr.cells.now fr.cells.now) (name_at f (a + 1))) c.present.ensures ∙ c.present.ensures)

pub eval_first-eval-t-requires : goal.eval_first-eval-t-requires
eval_first-eval-t-requires t c = (omega arith, (ready_first c.requires.0, scalar_first c.requires.0.plan c.requires.1))

pub eval_first-chosen-to-requires : goal.eval_first-chosen-to-requires
eval_first-chosen-to-requires t c =
    let p = c.requires.0 in
    let h = c.eval-t.ensures in
    let K = c.eval-t.auto.new in
    let r = ready_rest p h K in
    rw h.next_is (r.plan, r.present, omega (arith, r.room, r.small))

pub eval_first-pass-s-requires : goal.eval_first-pass-s-requires
eval_first-pass-s-requires t c =
    let p = c.requires.0 in
    let tb = c.args.tab.now in
    let h = c.eval-t.ensures in
    let K = c.eval-t.auto.new in
    rw h.next_is (ready_pass (ready_rest p h K), rows_room tb _ p.plan.program.table.long)

pub eval_first-slice_bounds-step_untaken-count : goal.eval_first-slice_bounds-step_untaken-count
eval_first-slice_bounds-step_untaken-count t c = omega (arith, ready_fits c.requires.0 c.eval-t.ensures)

pub eval_first-slice_bounds-step_untaken-start : goal.eval_first-slice_bounds-step_untaken-start
eval_first-slice_bounds-step_untaken-start t c = omega (arith, ready_fits c.requires.0 c.eval-t.ensures)

pub eval_first-slice_bounds-step_untaken-count-then-runs : goal.eval_first-slice_bounds-step_untaken-count-then-runs
eval_first-slice_bounds-step_untaken-count-then-runs t c = omega (arith, ready_fits_new c.requires.0 c.eval-t.ensures c.eval-t.auto.new)

pub eval_first-slice_bounds-step_untaken-start-then-runs : goal.eval_first-slice_bounds-step_untaken-start-then-runs
eval_first-slice_bounds-step_untaken-start-then-runs t c = omega (arith, ready_fits_new c.requires.0 c.eval-t.ensures c.eval-t.auto.new)

pub eval_first-step_untaken-other-requires : goal.eval_first-step_untaken-other-requires
eval_first-step_untaken-other-requires t c =
    let p = c.requires.0 in
    let h = c.eval-t.ensures in
    let K = c.eval-t.auto.new in
    (omega arith, (rw h.next_is (ready_rest p h K, scalars_rest p.plan c.requires.1)))

-- the first branch was evaluated, and the second passed over
module _ (t : ℕ) (c : eval_first-After-pass-s t) where
  second_passed : Skips (has_call (expr_at c.args.file.now c.args.level (end_at c.args.file.now c.args.level c.args.at))) (end_at c.args.file.now c.args.level (end_at c.args.file.now c.args.level c.args.at)) (seg_at c.args.file.now c.args.level (end_at c.args.file.now c.args.level c.args.at)) c.pass-s.result
  second_passed =
      let f = c.args.file.now in
      let L = c.args.level in
      skip_one f L (end_at f L c.args.at) (parted f L 1 c.args.at c.requires.0.plan.reads).tail (moved_skip f L 1 c.eval-t.ensures.next_is c.pass-s.ensures)

  two_used : c.eval-t.result.used + c.pass-s.result.used ≤ 32768
  two_used = omega (arith, c.eval-t.ensures.used_is, second_passed.used_is, two_segs c.args.file.now c.args.level c.args.at c.requires.0.plan.reads, c.requires.0.room, c.requires.0.small)

pub eval_first-overflow_add-result : goal.eval_first-overflow_add-result
eval_first-overflow_add-result t c = omega (arith, two_used t (goal.at.eval_first-overflow_add-result t c).After-pass-s)

pub eval_first-overflow_add-result-else-runs : goal.eval_first-overflow_add-result-else-runs
eval_first-overflow_add-result-else-runs t c = omega (arith, two_used t (goal.at.eval_first-overflow_add-result-else-runs t c).After-pass-s)

pub eval_first-returns-then-runs : goal.eval_first-returns-then-runs
eval_first-returns-then-runs t c =
    let p = c.requires.0 in
    let fr = c.args.frame.now in
    let tb = c.args.tab.now in
    let f = c.args.file.now in
    let kk = consts_of tb in
    let L = c.args.level in
    let a = c.args.at in
    let n = fr.node in
    let F = fr.first in
    let cl = fr.cells.now in
    let bb = fr.before.now in
    let o = c.args.old.now in
    let le = ready_seg p in
    let mid = end_at f L a in
    let n1 = seg_at f L a in
    let n2 = seg_at f L (end_at f L a) in
    let h = c.eval-t.ensures in
    let K = c.eval-t.auto.new in
    let h2 = moved_untaken f kk L n F cl bb c.eval-t.ensures.next_is (rest_old c.eval-t.ensures) c.step_untaken-other.ensures in
    let q = second_passed t (goal.at.eval_first-returns-then-runs t c).After-pass-s in
    let to = chosen_is f kk L n F cl bb c.eval-t.result.out c.eval-t.ensures.next_is c.chosen-to.ensures in
    let segs = two_segs f L a p.plan.reads in
    let ends = two_ends f L a p.plan.reads in
    seq_as ((λ (x y : List ℕ). choose true (branch_in f kk L a n F cl bb x) (branch_in f kk L mid n F cl bb y))) n1 n2 segs ends (first_ran ((branch_in f kk L a n F cl bb (take n1 o))) ((branch_in f kk L mid n F cl bb (take n2 (drop n1 o)))) h q (untaken_meets h2) (K ∙ ap length p.same) le to (sym c.if-runs.true ∙ c.runs.ensures) (c.drop_failure.ensures (eval_in f kk n F cl bb (expr_at f L mid) (take n2 (drop n1 o))).out h2.over_is))

pub eval_first-returns-else-runs : goal.eval_first-returns-else-runs
eval_first-returns-else-runs t c =
    let p = c.requires.0 in
    let fr = c.args.frame.now in
    let tb = c.args.tab.now in
    let f = c.args.file.now in
    let kk = consts_of tb in
    let L = c.args.level in
    let a = c.args.at in
    let n = fr.node in
    let F = fr.first in
    let cl = fr.cells.now in
    let bb = fr.before.now in
    let o = c.args.old.now in
    let mid = end_at f L a in
    let n1 = seg_at f L a in
    let n2 = seg_at f L (end_at f L a) in
    let h = c.eval-t.ensures in
    let q = second_passed t (goal.at.eval_first-returns-else-runs t c).After-pass-s in
    let to = chosen_is f kk L n F cl bb c.eval-t.result.out c.eval-t.ensures.next_is c.chosen-to.ensures in
    let segs = two_segs f L a p.plan.reads in
    let ends = two_ends f L a p.plan.reads in
    seq_as ((λ (x y : List ℕ). choose true (branch_in f kk L a n F cl bb x) (branch_in f kk L mid n F cl bb y))) n1 n2 segs ends (first_not ((branch_in f kk L a n F cl bb (take n1 o))) ((branch_in f kk L mid n F cl bb (take n2 (drop n1 o)))) refl h q to (sym c.if-runs.false ∙ c.runs.ensures))

pub eval_form-at-requires : goal.eval_form-at-requires
eval_form-at-requires t c = ready_inside c.requires.0

pub eval_form-overflow_add-p : goal.eval_form-overflow_add-p
eval_form-overflow_add-p t c = omega (arith, ready_inside c.requires.0, c.requires.0.plan.program.sized.small)

pub eval_form-bounds-file-p : goal.eval_form-bounds-file-p
eval_form-bounds-file-p t c =
    let p = c.requires.0 in
    let f = c.args.file.now in
    let L = c.args.level in
    let a = c.args.at in
    let h = plan_head f p.plan in
    omega (arith, (unary_form f L a h (plan_form f p.plan Frm.Unary c.at.ensures c.in-Unary.is)).1.inside)

pub eval_form-overflow_sub-level : goal.eval_form-overflow_sub-level
eval_form-overflow_sub-level t c = ready_deep c.requires.0

pub eval_form-eval_form-r-requires : goal.eval_form-eval_form-r-requires
eval_form-eval_form-r-requires t c =
    let p = c.requires.0 in
    let f = c.args.file.now in
    let L = c.args.level in
    let a = c.args.at in
    let h = plan_head f p.plan in
    let deep = ready_deep p in
    (omega (arith, deep), (let g = (unary_form f L a h (plan_form f p.plan Frm.Unary c.at.ensures c.in-Unary.is)).1 in (ready_parts p g refl, unary_scalars p.plan g)))

pub eval_form-overflow_sub-level-in-Binary : goal.eval_form-overflow_sub-level-in-Binary
eval_form-overflow_sub-level-in-Binary t c = ready_deep c.requires.0

pub eval_form-eval_two-requires : goal.eval_form-eval_two-requires
eval_form-eval_two-requires t c =
    let p = c.requires.0 in
    let f = c.args.file.now in
    let L = c.args.level in
    let a = c.args.at in
    let h = plan_head f p.plan in
    let deep = ready_deep p in
    (omega (arith, deep), (let g = binary_form f L a h (plan_form f p.plan Frm.Binary c.at.ensures c.in-Binary.is) in (ready_parts p g.1 refl, binary_alike p.plan g.1, (λ e. binary_equated p.plan g.1 (other_op (get_or f (a + 1) 0) g.0 g.2 e)))))

pub eval_form-overflow_sub-level-in-If : goal.eval_form-overflow_sub-level-in-If
eval_form-overflow_sub-level-in-If t c = ready_deep c.requires.0

pub eval_form-eval_if-requires : goal.eval_form-eval_if-requires
eval_form-eval_if-requires t c =
    let p = c.requires.0 in
    let f = c.args.file.now in
    let L = c.args.level in
    let a = c.args.at in
    let h = plan_head f p.plan in
    let deep = ready_deep p in
    (omega (arith, deep), (let g = if_form f L a h (plan_form f p.plan Frm.If c.at.ensures c.in-If.is) in (ready_parts p g refl, if_scalars p.plan g)))

pub eval_form-overflow_sub-level-then-frame : goal.eval_form-overflow_sub-level-then-frame
eval_form-overflow_sub-level-then-frame t c = ready_deep c.requires.0

pub eval_form-eval_first-requires : goal.eval_form-eval_first-requires
eval_form-eval_first-requires t c =
    let p = c.requires.0 in
    let f = c.args.file.now in
    let L = c.args.level in
    let a = c.args.at in
    let h = plan_head f p.plan in
    let deep = ready_deep p in
    (omega (arith, deep), (let g = arrow_form f L a h (plan_form f p.plan Frm.Arrow c.at.ensures c.in-Arrow.is) in (ready_parts p g refl, arrow_scalars p.plan g)))

pub eval_form-overflow_sub-level-else-frame : goal.eval_form-overflow_sub-level-else-frame
eval_form-overflow_sub-level-else-frame t c = ready_deep c.requires.0

pub eval_form-eval_second-requires : goal.eval_form-eval_second-requires
eval_form-eval_second-requires t c =
    let p = c.requires.0 in
    let f = c.args.file.now in
    let L = c.args.level in
    let a = c.args.at in
    let h = plan_head f p.plan in
    let deep = ready_deep p in
    (omega (arith, deep), (let g = arrow_form f L a h (plan_form f p.plan Frm.Arrow c.at.ensures c.in-Arrow.is) in (ready_parts p g refl, arrow_scalars p.plan g)))

pub eval_form-bounds-file-p-in-Cast : goal.eval_form-bounds-file-p-in-Cast
eval_form-bounds-file-p-in-Cast t c =
    let p = c.requires.0 in
    let f = c.args.file.now in
    let L = c.args.level in
    let a = c.args.at in
    let h = plan_head f p.plan in
    let read = cast_form f L a h (plan_form f p.plan Frm.Cast c.at.ensures c.in-Cast.is) in
    omega (arith, read.1.inside, type_some read.0)

pub eval_form-overflow_sub-level-in-Cast : goal.eval_form-overflow_sub-level-in-Cast
eval_form-overflow_sub-level-in-Cast t c = ready_deep c.requires.0

pub eval_form-eval_form-r-requires-in-Cast : goal.eval_form-eval_form-r-requires-in-Cast
eval_form-eval_form-r-requires-in-Cast t c =
    let p = c.requires.0 in
    let f = c.args.file.now in
    let L = c.args.level in
    let a = c.args.at in
    let h = plan_head f p.plan in
    let read = cast_form f L a h (plan_form f p.plan Frm.Cast c.at.ensures c.in-Cast.is) in
    let deep = ready_deep p in
    let e : a + 1 + c.ty_size.result ≡ a + (1 + ty_size read.0) = omega (arith, c.ty_size.ensures, cast_size f (a + 1) read.0 read.2 read.3 read.4) in
    (omega (arith, deep), (rw e (ready_parts p read.1 refl, cast_scalars p.plan read.1)))

pub eval_form-pass-s-requires : goal.eval_form-pass-s-requires
eval_form-pass-s-requires t c =
    let p = c.requires.0 in
    let tb = c.args.tab.now in
    (ready_pass p, rows_room tb _ p.plan.program.table.long)

pub eval_form-returns-in-Unary : goal.eval_form-returns-in-Unary
unfolding eval
eval_form-returns-in-Unary t c =
    let p = c.requires.0 in
    let fr = c.args.frame.now in
    let tb = c.args.tab.now in
    let f = c.args.file.now in
    let kk = consts_of tb in
    let L = c.args.level in
    let a = c.args.at in
    let n = fr.node in
    let F = fr.first in
    let cl = fr.cells.now in
    let bb = fr.before.now in
    let h = plan_head f p.plan in
    let read = unary_form f L a h (plan_form f p.plan Frm.Unary c.at.ensures c.in-Unary.is) in
    let R = p.plan.reads in
    one_evals f kk L a n F cl bb (λ (s : List ℕ). map_eval (unary_of read.0) (eval_in f kk n F cl bb (expr_at f (L - 1) (a + 2)) s)) R read.1 refl (λ s. refl) (mapped (unary_of read.0) c.eval_form-r.ensures (unary_out_is (get_or f (a + 1) 0) read.0 c.eval_form-r.result.out read.2 c.unary_out.ensures))

pub eval_form-returns-in-Binary : goal.eval_form-returns-in-Binary
unfolding eval
eval_form-returns-in-Binary t c =
    let p = c.requires.0 in
    let fr = c.args.frame.now in
    let tb = c.args.tab.now in
    let f = c.args.file.now in
    let kk = consts_of tb in
    let L = c.args.level in
    let a = c.args.at in
    let n = fr.node in
    let F = fr.first in
    let cl = fr.cells.now in
    let bb = fr.before.now in
    let h = plan_head f p.plan in
    let read = binary_form f L a h (plan_form f p.plan Frm.Binary c.at.ensures c.in-Binary.is) in
    let R = p.plan.reads in
    form_evals f kk L a n F cl bb (two_in f kk (get_or f (a + 1) 0) (L - 1) (a + 2) n F cl bb) R read.1 refl (two_is f kk (L - 1) (a + 2) n F cl bb (get_or f (a + 1) 0) read.0 read.2 (λ e. binary_equated p.plan read.1 (other_op (get_or f (a + 1) 0) read.0 read.2 e))) c.eval_two.ensures

pub eval_form-returns-in-If : goal.eval_form-returns-in-If
unfolding eval
eval_form-returns-in-If t c =
    let p = c.requires.0 in
    let fr = c.args.frame.now in
    let tb = c.args.tab.now in
    let f = c.args.file.now in
    let kk = consts_of tb in
    let L = c.args.level in
    let a = c.args.at in
    let n = fr.node in
    let F = fr.first in
    let cl = fr.cells.now in
    let bb = fr.before.now in
    let h = plan_head f p.plan in
    let R = p.plan.reads in
    form_evals f kk L a n F cl bb (if_in f kk (L - 1) (a + 1) n F cl bb) R ((if_form f L a h (plan_form f p.plan Frm.If c.at.ensures c.in-If.is))) refl (λ s. refl) c.eval_if.ensures

pub eval_form-returns-then-frame : goal.eval_form-returns-then-frame
unfolding eval
eval_form-returns-then-frame t c =
    let p = c.requires.0 in
    let fr = c.args.frame.now in
    let tb = c.args.tab.now in
    let f = c.args.file.now in
    let kk = consts_of tb in
    let L = c.args.level in
    let a = c.args.at in
    let n = fr.node in
    let F = fr.first in
    let cl = fr.cells.now in
    let bb = fr.before.now in
    let h = plan_head f p.plan in
    let R = p.plan.reads in
    form_evals f kk L a n F cl bb (choose_in f kk true (L - 1) (a + 1) n F cl bb) R ((arrow_form f L a h (plan_form f p.plan Frm.Arrow c.at.ensures c.in-Arrow.is))) refl (λ s. first_is f kk (L - 1) (a + 1) n F true cl bb s (c.if-frame.true)) c.eval_first.ensures

pub eval_form-returns-else-frame : goal.eval_form-returns-else-frame
unfolding eval
eval_form-returns-else-frame t c =
    let p = c.requires.0 in
    let fr = c.args.frame.now in
    let tb = c.args.tab.now in
    let f = c.args.file.now in
    let kk = consts_of tb in
    let L = c.args.level in
    let a = c.args.at in
    let n = fr.node in
    let F = fr.first in
    let cl = fr.cells.now in
    let bb = fr.before.now in
    let h = plan_head f p.plan in
    let R = p.plan.reads in
    form_evals f kk L a n F cl bb (choose_in f kk false (L - 1) (a + 1) n F cl bb) R ((arrow_form f L a h (plan_form f p.plan Frm.Arrow c.at.ensures c.in-Arrow.is))) refl (λ s. first_is f kk (L - 1) (a + 1) n F false cl bb s (c.if-frame.false)) c.eval_second.ensures

pub eval_form-returns-in-Cast : goal.eval_form-returns-in-Cast
unfolding eval
eval_form-returns-in-Cast t c =
    let p = c.requires.0 in
    let fr = c.args.frame.now in
    let tb = c.args.tab.now in
    let f = c.args.file.now in
    let kk = consts_of tb in
    let L = c.args.level in
    let a = c.args.at in
    let n = fr.node in
    let F = fr.first in
    let cl = fr.cells.now in
    let bb = fr.before.now in
    let o = c.args.old.now in
    let h = plan_head f p.plan in
    let read = cast_form f L a h (plan_form f p.plan Frm.Cast c.at.ensures c.in-Cast.is) in
    let R = p.plan.reads in
    let q = a + (1 + ty_size read.0) in
    let e : a + 1 + c.ty_size.result ≡ q = omega (arith, c.ty_size.ensures, cast_size f (a + 1) read.0 read.2 read.3 read.4) in
    one_evals f kk L a n F cl bb (λ (s : List ℕ). map_eval (cast_to read.0) (eval_in f kk n F cl bb (expr_at f (L - 1) q) s)) R read.1 refl (λ s. refl) (mapped (cast_to read.0) (moved f kk (L - 1) n F cl bb e (refl {a = o}) c.eval_form-r-in-Cast.ensures) (cast_out_is (get_or f (a + 1) 0) read.0 c.eval_form-r-in-Cast.result.out read.4 read.2 c.cast_out.ensures))

pub eval_form-returns-in_default : goal.eval_form-returns-in_default
eval_form-returns-in_default t c =
    let p = c.requires.0 in
    let fr = c.args.frame.now in
    let tb = c.args.tab.now in
    let f = c.args.file.now in
    let kk = consts_of tb in
    let L = c.args.level in
    let a = c.args.at in
    let n = fr.node in
    let F = fr.first in
    let cl = fr.cells.now in
    let bb = fr.before.now in
    let h = plan_head f p.plan in
    let R = p.plan.reads in
    let leaf : Leaf (get_or f a 0) = leaf_form c.at.ensures c.in_default.not-Unary c.in_default.not-Binary c.in_default.not-If c.in_default.not-Arrow c.in_default.not-Cast c.in_default.not-Call c.in_default.not-Index c.in_default.not-Iterator in
    leaf_evals f kk L a n F cl bb R h leaf p.same c.pass-s.ensures (λ seg. c.same_out.ensures ∙ c.leaf_out.ensures seg)

pub eval_if-eval-c-requires : goal.eval_if-eval-c-requires
eval_if-eval-c-requires t c = (omega arith, (ready_first c.requires.0, scalar_first c.requires.0.plan c.requires.1))

pub eval_if-slice_bounds-eval_first-count : goal.eval_if-slice_bounds-eval_first-count
eval_if-slice_bounds-eval_first-count t c = omega (arith, ready_fits c.requires.0 c.eval-c.ensures)

pub eval_if-slice_bounds-eval_first-start : goal.eval_if-slice_bounds-eval_first-start
eval_if-slice_bounds-eval_first-start t c = omega (arith, ready_fits c.requires.0 c.eval-c.ensures)

pub eval_if-slice_bounds-eval_first-count-in-Some-true : goal.eval_if-slice_bounds-eval_first-count-in-Some-true
eval_if-slice_bounds-eval_first-count-in-Some-true t c = omega (arith, ready_fits_new c.requires.0 c.eval-c.ensures c.eval-c.auto.new)

pub eval_if-slice_bounds-eval_first-start-in-Some-true : goal.eval_if-slice_bounds-eval_first-start-in-Some-true
eval_if-slice_bounds-eval_first-start-in-Some-true t c = omega (arith, ready_fits_new c.requires.0 c.eval-c.ensures c.eval-c.auto.new)

pub eval_if-eval_first-r-requires : goal.eval_if-eval_first-r-requires
eval_if-eval_first-r-requires t c = (omega arith, rw c.eval-c.ensures.next_is (ready_rest c.requires.0 c.eval-c.ensures c.eval-c.auto.new, scalars_rest c.requires.0.plan c.requires.1))

pub eval_if-overflow_add-result : goal.eval_if-overflow_add-result
eval_if-overflow_add-result t c =
    let p = c.requires.0 in
    let fr = c.args.frame.now in
    let tb = c.args.tab.now in
    let f = c.args.file.now in
    let kk = consts_of tb in
    let L = c.args.level in
    let a = c.args.at in
    let n = fr.node in
    let F = fr.first in
    let cl = fr.cells.now in
    let bb = fr.before.now in
    let h = c.eval-c.ensures in
    let segs = segs_cons f L 2 a p.plan.reads in
    let g1 = moved_choice f kk true L n F cl bb c.eval-c.ensures.next_is (rest_old c.eval-c.ensures) c.eval_first-r.ensures in
    omega (arith, h.used_is, g1.used_is, segs, p.room, p.small)

pub eval_if-slice_bounds-eval_second-count : goal.eval_if-slice_bounds-eval_second-count
eval_if-slice_bounds-eval_second-count t c = omega (arith, ready_fits c.requires.0 c.eval-c.ensures)

pub eval_if-slice_bounds-eval_second-start : goal.eval_if-slice_bounds-eval_second-start
eval_if-slice_bounds-eval_second-start t c = omega (arith, ready_fits c.requires.0 c.eval-c.ensures)

pub eval_if-slice_bounds-eval_second-count-in-Some-false : goal.eval_if-slice_bounds-eval_second-count-in-Some-false
eval_if-slice_bounds-eval_second-count-in-Some-false t c = omega (arith, ready_fits_new c.requires.0 c.eval-c.ensures c.eval-c.auto.new)

pub eval_if-slice_bounds-eval_second-start-in-Some-false : goal.eval_if-slice_bounds-eval_second-start-in-Some-false
eval_if-slice_bounds-eval_second-start-in-Some-false t c = omega (arith, ready_fits_new c.requires.0 c.eval-c.ensures c.eval-c.auto.new)

pub eval_if-eval_second-r-requires : goal.eval_if-eval_second-r-requires
eval_if-eval_second-r-requires t c = (omega arith, rw c.eval-c.ensures.next_is (ready_rest c.requires.0 c.eval-c.ensures c.eval-c.auto.new, scalars_rest c.requires.0.plan c.requires.1))

pub eval_if-overflow_add-result-in-Some-false : goal.eval_if-overflow_add-result-in-Some-false
eval_if-overflow_add-result-in-Some-false t c =
    let p = c.requires.0 in
    let fr = c.args.frame.now in
    let tb = c.args.tab.now in
    let f = c.args.file.now in
    let kk = consts_of tb in
    let L = c.args.level in
    let a = c.args.at in
    let n = fr.node in
    let F = fr.first in
    let cl = fr.cells.now in
    let bb = fr.before.now in
    let h = c.eval-c.ensures in
    let segs = segs_cons f L 2 a p.plan.reads in
    let g2 = moved_choice f kk false L n F cl bb c.eval-c.ensures.next_is (rest_old c.eval-c.ensures) c.eval_second-r.ensures in
    omega (arith, h.used_is, g2.used_is, segs, p.room, p.small)

pub eval_if-pass_all-s-requires : goal.eval_if-pass_all-s-requires
eval_if-pass_all-s-requires t c =
    let p = c.requires.0 in
    let tb = c.args.tab.now in
    let h = c.eval-c.ensures in
    let K = c.eval-c.auto.new in
    rw h.next_is (ready_pass (ready_rest p h K), rows_room tb _ p.plan.program.table.long)

pub eval_if-overflow_add-result-in-None : goal.eval_if-overflow_add-result-in-None
eval_if-overflow_add-result-in-None t c =
    let p = c.requires.0 in
    let f = c.args.file.now in
    let L = c.args.level in
    let a = c.args.at in
    let h = c.eval-c.ensures in
    let segs = segs_cons f L 2 a p.plan.reads in
    let q = (moved_skip f L 2 c.eval-c.ensures.next_is c.pass_all-s.ensures) in
    omega (arith, h.used_is, q.used_is, segs, p.room, p.small)

pub eval_if-returns-in-Some-true : goal.eval_if-returns-in-Some-true
eval_if-returns-in-Some-true t c =
    let p = c.requires.0 in
    let fr = c.args.frame.now in
    let tb = c.args.tab.now in
    let f = c.args.file.now in
    let kk = consts_of tb in
    let L = c.args.level in
    let a = c.args.at in
    let n = fr.node in
    let F = fr.first in
    let cl = fr.cells.now in
    let bb = fr.before.now in
    let le = ready_seg p in
    let mid = end_at f L a in
    let n1 = seg_at f L a in
    let h = c.eval-c.ensures in
    let K = c.eval-c.auto.new in
    let m2 = segs_at f L 2 (end_at f L a) in
    let segs = segs_cons f L 2 a p.plan.reads in
    let ends = (parted f L 2 a p.plan.reads).ends in
    let g1 = moved_choice f kk true L n F cl bb c.eval-c.ensures.next_is (rest_old c.eval-c.ensures) c.eval_first-r.ensures in
    remade c.same_out.ensures (seq_as ((λ (x y : List ℕ). next (eval_in f kk n F cl bb (expr_at f L a) x) (condition (λ (b : Bool) (rest : List ℕ). choose_in f kk b L mid n F cl bb rest)) y)) n1 m2 segs ends (if_taken ((λ (b : Bool) (rest : List ℕ). choose_in f kk b L mid n F cl bb rest)) true h g1 (K ∙ ap length p.same) le (sym c.test_of.ensures ∙ c.in-Some-true.is ∙ ap Some c.in-Some-true.field-0-test)))

pub eval_if-returns-in-Some-false : goal.eval_if-returns-in-Some-false
eval_if-returns-in-Some-false t c =
    let p = c.requires.0 in
    let fr = c.args.frame.now in
    let tb = c.args.tab.now in
    let f = c.args.file.now in
    let kk = consts_of tb in
    let L = c.args.level in
    let a = c.args.at in
    let n = fr.node in
    let F = fr.first in
    let cl = fr.cells.now in
    let bb = fr.before.now in
    let le = ready_seg p in
    let mid = end_at f L a in
    let n1 = seg_at f L a in
    let h = c.eval-c.ensures in
    let K = c.eval-c.auto.new in
    let m2 = segs_at f L 2 (end_at f L a) in
    let segs = segs_cons f L 2 a p.plan.reads in
    let ends = (parted f L 2 a p.plan.reads).ends in
    let g2 = moved_choice f kk false L n F cl bb c.eval-c.ensures.next_is (rest_old c.eval-c.ensures) c.eval_second-r.ensures in
    remade c.same_out-in-Some-false.ensures (seq_as ((λ (x y : List ℕ). next (eval_in f kk n F cl bb (expr_at f L a) x) (condition (λ (b : Bool) (rest : List ℕ). choose_in f kk b L mid n F cl bb rest)) y)) n1 m2 segs ends (if_taken ((λ (b : Bool) (rest : List ℕ). choose_in f kk b L mid n F cl bb rest)) false h g2 (K ∙ ap length p.same) le (sym c.test_of.ensures ∙ c.in-Some-false.is ∙ ap Some c.in-Some-false.field-0-test)))

pub eval_if-returns-in-None : goal.eval_if-returns-in-None
eval_if-returns-in-None t c =
    let p = c.requires.0 in
    let fr = c.args.frame.now in
    let tb = c.args.tab.now in
    let f = c.args.file.now in
    let kk = consts_of tb in
    let L = c.args.level in
    let a = c.args.at in
    let n = fr.node in
    let F = fr.first in
    let cl = fr.cells.now in
    let bb = fr.before.now in
    let mid = end_at f L a in
    let n1 = seg_at f L a in
    let h = c.eval-c.ensures in
    let m2 = segs_at f L 2 (end_at f L a) in
    let segs = segs_cons f L 2 a p.plan.reads in
    let ends = (parted f L 2 a p.plan.reads).ends in
    seq_as ((λ (x y : List ℕ). next (eval_in f kk n F cl bb (expr_at f L a) x) (condition (λ (b : Bool) (rest : List ℕ). choose_in f kk b L mid n F cl bb rest)) y)) n1 m2 segs ends (if_stop ((λ (b : Bool) (rest : List ℕ). choose_in f kk b L mid n F cl bb rest)) h ((moved_skip f L 2 c.eval-c.ensures.next_is c.pass_all-s.ensures)) (sym c.test_of.ensures ∙ c.in-None.is) c.untested.ensures)

pub eval_second-pass-s-requires : goal.eval_second-pass-s-requires
eval_second-pass-s-requires t c =
    let p = c.requires.0 in
    let tb = c.args.tab.now in
    (ready_pass (ready_first p), rows_room tb _ p.plan.program.table.long)

-- the first branch was passed over
module _ (t : ℕ) (c : eval_second-After-pass-s t) where
  first_passed : Skips (has_call (expr_at c.args.file.now c.args.level c.args.at)) (end_at c.args.file.now c.args.level c.args.at) (seg_at c.args.file.now c.args.level c.args.at) c.pass-s.result
  first_passed = skip_one c.args.file.now c.args.level c.args.at (ready_first c.requires.0).plan.reads c.pass-s.ensures

  first_fits : c.pass-s.result.used ≤ length c.args.old.now
  first_fits = omega (arith, first_passed.used_is, ready_seg c.requires.0)

  first_fits_new : c.pass-s.result.used ≤ length c.args.new.now
  first_fits_new = omega (arith, first_fits, ap length c.requires.0.same)

-- the second was evaluated
module _ (t : ℕ) (c : eval_second-After-eval-e t) (q : Skips (has_call (expr_at c.args.file.now c.args.level c.args.at)) (end_at c.args.file.now c.args.level c.args.at) (seg_at c.args.file.now c.args.level c.args.at) c.pass-s.result) where
  second_evals : on (EvalsTo c.args.file.now (consts_of c.args.tab.now) c.args.level (end_at c.args.file.now c.args.level c.args.at)) c.args.frame.now (drop (seg_at c.args.file.now c.args.level c.args.at) c.args.old.now) c.eval-e.result c.eval-e.new.new
  second_evals =
      let fr = c.args.frame.now in
      moved c.args.file.now (consts_of c.args.tab.now) c.args.level fr.node fr.first fr.cells.now fr.before.now q.next_is (tail_all c.pass-s.result.used c.args.old.now ∙ ap (λ (u : ℕ). drop u c.args.old.now) q.used_is) c.eval-e.ensures

  branches_used : c.pass-s.result.used + c.eval-e.result.used ≤ 32768
  branches_used = omega (arith, q.used_is, second_evals.used_is, two_segs c.args.file.now c.args.level c.args.at c.requires.0.plan.reads, c.requires.0.room, c.requires.0.small)

  first_kept : c.pass-s.result.used ≤ length c.args.new.now → c.pass-s.result.used ≤ length (put_tail c.pass-s.result.used c.args.new.now c.eval-e.new.new)
  first_kept le = subst (λ (m : ℕ). c.pass-s.result.used ≤ m) (sym (length_put c.pass-s.result.used c.args.new.now c.eval-e.new.new le c.eval-e.auto.new)) le

pub eval_second-slice_bounds-eval-count : goal.eval_second-slice_bounds-eval-count
eval_second-slice_bounds-eval-count t c = omega (arith, first_fits t (goal.at.eval_second-slice_bounds-eval-count t c).After-pass-s)

pub eval_second-slice_bounds-eval-start : goal.eval_second-slice_bounds-eval-start
eval_second-slice_bounds-eval-start t c = omega (arith, first_fits t (goal.at.eval_second-slice_bounds-eval-start t c).After-pass-s)

pub eval_second-slice_bounds-eval-count-2 : goal.eval_second-slice_bounds-eval-count-2
eval_second-slice_bounds-eval-count-2 t c = omega (arith, first_fits_new t (goal.at.eval_second-slice_bounds-eval-count-2 t c).After-pass-s)

pub eval_second-slice_bounds-eval-start-2 : goal.eval_second-slice_bounds-eval-start-2
eval_second-slice_bounds-eval-start-2 t c = omega (arith, first_fits_new t (goal.at.eval_second-slice_bounds-eval-start-2 t c).After-pass-s)

pub eval_second-eval-e-requires : goal.eval_second-eval-e-requires
eval_second-eval-e-requires t c =
    let q = first_passed t (goal.at.eval_second-eval-e-requires t c).After-pass-s in
    let u = c.pass-s.result.used in
    (omega arith, rw q.next_is (ready_tail u (tail_of u c.args.old.now) (tail_of u c.args.new.now) c.requires.0 q.used_is (tail_all u c.args.old.now) (tail_all u c.args.new.now ∙ ap (drop u) c.requires.0.same), scalars_rest c.requires.0.plan c.requires.1))

pub eval_second-chosen-eo-requires : goal.eval_second-chosen-eo-requires
eval_second-chosen-eo-requires t c =
    let p = c.requires.0 in
    let r = ready_first p in
    (r.plan, r.present, omega (arith, r.room, r.small))

pub eval_second-slice_bounds-step_untaken-end : goal.eval_second-slice_bounds-step_untaken-end
eval_second-slice_bounds-step_untaken-end t c = sym (length-take-le c.pass-s.result.used c.args.old.now (first_fits t (goal.at.eval_second-slice_bounds-step_untaken-end t c).After-pass-s))

pub eval_second-slice_bounds-step_untaken-end-then-runs : goal.eval_second-slice_bounds-step_untaken-end-then-runs
eval_second-slice_bounds-step_untaken-end-then-runs t c =
    let d = goal.at.eval_second-slice_bounds-step_untaken-end-then-runs t c in
    first_kept t d.After-eval-e (first_passed t d.After-pass-s) (first_fits_new t d.After-pass-s)

pub eval_second-slice_bounds-step_untaken-end-then-runs-2 : goal.eval_second-slice_bounds-step_untaken-end-then-runs-2
eval_second-slice_bounds-step_untaken-end-then-runs-2 t c =
    let d = goal.at.eval_second-slice_bounds-step_untaken-end-then-runs-2 t c in
    sym (length-take-le c.pass-s.result.used (put_tail c.pass-s.result.used c.args.new.now c.eval-e.new.new) (first_kept t d.After-eval-e (first_passed t d.After-pass-s) (first_fits_new t d.After-pass-s)))

pub eval_second-step_untaken-other-requires : goal.eval_second-step_untaken-other-requires
eval_second-step_untaken-other-requires t c = (omega arith, (ready_front c.pass-s.result.used c.eval-e.new.new c.requires.0 (first_passed t (goal.at.eval_second-step_untaken-other-requires t c).After-pass-s).used_is, scalar_first c.requires.0.plan c.requires.1))

pub eval_second-overflow_add-result : goal.eval_second-overflow_add-result
eval_second-overflow_add-result t c =
    let d = goal.at.eval_second-overflow_add-result t c in
    omega (arith, branches_used t d.After-eval-e (first_passed t d.After-pass-s))

pub eval_second-overflow_add-result-else-runs : goal.eval_second-overflow_add-result-else-runs
eval_second-overflow_add-result-else-runs t c =
    let d = goal.at.eval_second-overflow_add-result-else-runs t c in
    omega (arith, branches_used t d.After-eval-e (first_passed t d.After-pass-s))

pub eval_second-returns-then-runs : goal.eval_second-returns-then-runs
eval_second-returns-then-runs t c =
    let p = c.requires.0 in
    let fr = c.args.frame.now in
    let tb = c.args.tab.now in
    let f = c.args.file.now in
    let kk = consts_of tb in
    let L = c.args.level in
    let a = c.args.at in
    let n = fr.node in
    let F = fr.first in
    let cl = fr.cells.now in
    let bb = fr.before.now in
    let o = c.args.old.now in
    let le = ready_seg p in
    let mid = end_at f L a in
    let n1 = seg_at f L a in
    let n2 = seg_at f L (end_at f L a) in
    let d = goal.at.eval_second-returns-then-runs t c in
    let q = first_passed t d.After-pass-s in
    let M = c.step_untaken-other.new.new in
    let h = second_evals t d.After-eval-e q in
    let h2 = subst (λ (u : ℕ). UntakenTo f kk L a n F cl bb (take u o) c.step_untaken-other.result M) q.used_is c.step_untaken-other.ensures in
    let to = chosen_is f kk L n F cl bb c.eval-e.result.out (refl {a = a}) c.chosen-eo.ensures in
    let segs = two_segs f L a p.plan.reads in
    let ends = two_ends f L a p.plan.reads in
    seq_as ((λ (x y : List ℕ). choose false (branch_in f kk L a n F cl bb x) (branch_in f kk L mid n F cl bb y))) n1 n2 segs ends (second_ran ((branch_in f kk L a n F cl bb (take n1 o))) ((branch_in f kk L mid n F cl bb (take n2 (drop n1 o)))) q h (untaken_meets (fronted f kk L a n F cl bb o h2)) p.same le to (sym c.if-runs.true ∙ c.runs.ensures) (c.drop_failure.ensures (eval_in f kk n F cl bb (expr_at f L a) (take n1 o)).out (fronted f kk L a n F cl bb o h2).over_is))

pub eval_second-returns-else-runs : goal.eval_second-returns-else-runs
eval_second-returns-else-runs t c =
    let p = c.requires.0 in
    let fr = c.args.frame.now in
    let tb = c.args.tab.now in
    let f = c.args.file.now in
    let kk = consts_of tb in
    let L = c.args.level in
    let a = c.args.at in
    let n = fr.node in
    let F = fr.first in
    let cl = fr.cells.now in
    let bb = fr.before.now in
    let o = c.args.old.now in
    let mid = end_at f L a in
    let n1 = seg_at f L a in
    let n2 = seg_at f L (end_at f L a) in
    let d = goal.at.eval_second-returns-else-runs t c in
    let q = first_passed t d.After-pass-s in
    let h = second_evals t d.After-eval-e q in
    let to = chosen_is f kk L n F cl bb c.eval-e.result.out (refl {a = a}) c.chosen-eo.ensures in
    let segs = two_segs f L a p.plan.reads in
    let ends = two_ends f L a p.plan.reads in
    seq_as ((λ (x y : List ℕ). choose false (branch_in f kk L a n F cl bb x) (branch_in f kk L mid n F cl bb y))) n1 n2 segs ends (second_not ((branch_in f kk L a n F cl bb (take n1 o))) ((branch_in f kk L mid n F cl bb (take n2 (drop n1 o)))) refl q h p.same to (sym c.if-runs.false ∙ c.runs.ensures))

-- the operands are arrays, or scalars
module _ (t : ℕ) (c : eval_two-After-compared_length-n t) where
  left_plan : Plan c.args.file.now (tab_of c.args.tab.now) (rows_of c.args.tab.now) (consts_of c.args.tab.now) c.args.frame.now.node c.args.level 1 (c.args.at + 2)
  left_plan = (ready_first c.requires.0).plan

  left_span : c.compared_length-n.result ≡ span_in c.args.file.now c.args.frame.now.node (expr_at c.args.file.now c.args.level (c.args.at + 2))
  left_span = c.compared_length-n.ensures c.args.frame.now.node left_plan c.requires.2

  two_scalar : c.compared_length-n.result ≡ 0 → shape_in c.args.file.now c.args.frame.now.node (expr_at c.args.file.now c.args.level (c.args.at + 2)) ≡ none
  two_scalar e = span_scalar left_plan c.compared_length-n.result left_span e

  two_array : ¬ (c.compared_length-n.result ≡ 0) → array_at c.args.file.now c.args.frame.now.node c.args.level (c.args.at + 2) ≡ true
  two_array e = is_long (shape_in c.args.file.now c.args.frame.now.node (expr_at c.args.file.now c.args.level (c.args.at + 2))) (omega (arith, left_span, e))

pub eval_two-compared_length-n-requires : goal.eval_two-compared_length-n-requires
eval_two-compared_length-n-requires t c = record { node = c.args.frame.now.node; plan = (ready_first c.requires.0).plan }

pub eval_two-eval_equal-requires : goal.eval_two-eval_equal-requires
eval_two-eval_equal-requires t c =
    let d = (goal.at.eval_two-eval_equal-requires t c).After-compared_length-n in
    (omega arith, (c.requires.0, left_span t d, omega (arith, c.if-n-ne0.true), sym c.requires.1 ∙ two_array t d c.if-n-ne0.true))

pub eval_two-returns-then-n-ne0 : goal.eval_two-returns-then-n-ne0
eval_two-returns-then-n-ne0 t c =
    let fr = c.args.frame.now in
    both_arrays c.args.file.now (consts_of c.args.tab.now) (get_or c.args.file.now (c.args.at + 1) 0) c.args.level (c.args.at + 2) fr.node fr.first fr.cells.now fr.before.now (two_array t (goal.at.eval_two-returns-then-n-ne0 t c).After-compared_length-n c.if-n-ne0.true) c.eval_equal.ensures

pub eval_two-overflow_add-op : goal.eval_two-overflow_add-op
eval_two-overflow_add-op t c = omega (arith, ready_inside c.requires.0, c.requires.0.plan.program.sized.small)

pub eval_two-bounds-file-at : goal.eval_two-bounds-file-at
eval_two-bounds-file-at t c = omega (arith, ready_inside c.requires.0, c.requires.0.plan.program.sized.small)

pub eval_two-overflow_add-at : goal.eval_two-overflow_add-at
eval_two-overflow_add-at t c = omega (arith, ready_inside c.requires.0, c.requires.0.plan.program.sized.small)

pub eval_two-eval-l-requires : goal.eval_two-eval-l-requires
eval_two-eval-l-requires t c =
    let q = ready_first c.requires.0 in
    (omega arith, (q, one_scalar c.args.file.now c.args.frame.now.node c.args.level (c.args.at + 2) q.plan.reads (two_scalar t (goal.at.eval_two-eval-l-requires t c).After-compared_length-n c.if-n-ne0.false)))

pub eval_two-slice_bounds-eval-count : goal.eval_two-slice_bounds-eval-count
eval_two-slice_bounds-eval-count t c = omega (arith, ready_fits c.requires.0 c.eval-l.ensures)

pub eval_two-slice_bounds-eval-start : goal.eval_two-slice_bounds-eval-start
eval_two-slice_bounds-eval-start t c = omega (arith, ready_fits c.requires.0 c.eval-l.ensures)

pub eval_two-slice_bounds-eval-count-then-done : goal.eval_two-slice_bounds-eval-count-then-done
eval_two-slice_bounds-eval-count-then-done t c = omega (arith, ready_fits_new c.requires.0 c.eval-l.ensures c.eval-l.auto.new)

pub eval_two-slice_bounds-eval-start-then-done : goal.eval_two-slice_bounds-eval-start-then-done
eval_two-slice_bounds-eval-start-then-done t c = omega (arith, ready_fits_new c.requires.0 c.eval-l.ensures c.eval-l.auto.new)

pub eval_two-eval-r-requires : goal.eval_two-eval-r-requires
eval_two-eval-r-requires t c =
    let p = c.requires.0 in
    let h = c.eval-l.ensures in
    let K = c.eval-l.auto.new in
    let q = ready_rest p h K in
    let left = two_scalar t (goal.at.eval_two-eval-r-requires t c).After-compared_length-n c.if-n-ne0.false in
    (omega arith, (rw h.next_is (q, one_scalar c.args.file.now c.args.frame.now.node c.args.level (end_at c.args.file.now c.args.level (c.args.at + 2)) q.plan.reads (not_array _ (sym c.requires.1 ∙ ap is_some left)))))

pub eval_two-overflow_add-result : goal.eval_two-overflow_add-result
eval_two-overflow_add-result t c =
    let p = c.requires.0 in
    let fr = c.args.frame.now in
    let tb = c.args.tab.now in
    let f = c.args.file.now in
    let kk = consts_of tb in
    let L = c.args.level in
    let a = c.args.at + 2 in
    let n = fr.node in
    let F = fr.first in
    let cl = fr.cells.now in
    let bb = fr.before.now in
    let h = c.eval-l.ensures in
    let h2 = moved f kk L n F cl bb c.eval-l.ensures.next_is (rest_old c.eval-l.ensures) c.eval-r.ensures in
    let segs = two_segs f L a p.plan.reads in
    omega (arith, h.used_is, h2.used_is, segs, p.room, p.small)

pub eval_two-pass-s-requires : goal.eval_two-pass-s-requires
eval_two-pass-s-requires t c =
    let p = c.requires.0 in
    let tb = c.args.tab.now in
    let h = c.eval-l.ensures in
    let K = c.eval-l.auto.new in
    rw h.next_is (ready_pass (ready_rest p h K), rows_room tb _ p.plan.program.table.long)

pub eval_two-overflow_add-result-else-done : goal.eval_two-overflow_add-result-else-done
eval_two-overflow_add-result-else-done t c =
    let p = c.requires.0 in
    let f = c.args.file.now in
    let L = c.args.level in
    let a = c.args.at + 2 in
    let mid = end_at f L a in
    let h = c.eval-l.ensures in
    let segs = two_segs f L a p.plan.reads in
    let q = (skip_one f L mid (parted f L 1 a p.plan.reads).tail (moved_skip f L 1 c.eval-l.ensures.next_is c.pass-s.ensures)) in
    omega (arith, h.used_is, q.used_is, segs, p.room, p.small)

pub eval_two-returns-then-done : goal.eval_two-returns-then-done
eval_two-returns-then-done t c =
    let p = c.requires.0 in
    let fr = c.args.frame.now in
    let tb = c.args.tab.now in
    let f = c.args.file.now in
    let kk = consts_of tb in
    let L = c.args.level in
    let a = c.args.at + 2 in
    let op = get_or f (c.args.at + 1) 0 in
    let n = fr.node in
    let F = fr.first in
    let cl = fr.cells.now in
    let bb = fr.before.now in
    let le = ready_seg p in
    let mid = end_at f L a in
    let n1 = seg_at f L a in
    let n2 = seg_at f L (end_at f L a) in
    let h = c.eval-l.ensures in
    let K = c.eval-l.auto.new in
    let h2 = moved f kk L n F cl bb c.eval-l.ensures.next_is (rest_old c.eval-l.ensures) c.eval-r.ensures in
    let segs = two_segs f L a p.plan.reads in
    let ends = two_ends f L a p.plan.reads in
    both_scalars f kk op L a n F cl bb (ap is_some (two_scalar t (goal.at.eval_two-returns-then-done t c).After-compared_length-n c.if-n-ne0.false))
    (seq_as ((λ (x y : List ℕ). next (eval_in f kk n F cl bb (expr_at f L a) x) (λ v rest. map_eval (binary_by op v) (eval_in f kk n F cl bb (expr_at f L mid) rest)) y)) n1 n2 segs ends (two_done (eval_in f kk n F cl bb (expr_at f L mid)) op h h2 (K ∙ ap length p.same) le (sym c.if-done.true ∙ c.done.ensures) c.binary_out.ensures))

pub eval_two-returns-else-done : goal.eval_two-returns-else-done
eval_two-returns-else-done t c =
    let p = c.requires.0 in
    let fr = c.args.frame.now in
    let tb = c.args.tab.now in
    let f = c.args.file.now in
    let kk = consts_of tb in
    let L = c.args.level in
    let a = c.args.at + 2 in
    let op = get_or f (c.args.at + 1) 0 in
    let n = fr.node in
    let F = fr.first in
    let cl = fr.cells.now in
    let bb = fr.before.now in
    let mid = end_at f L a in
    let n1 = seg_at f L a in
    let n2 = seg_at f L (end_at f L a) in
    let h = c.eval-l.ensures in
    let segs = two_segs f L a p.plan.reads in
    let ends = two_ends f L a p.plan.reads in
    both_scalars f kk op L a n F cl bb (ap is_some (two_scalar t (goal.at.eval_two-returns-else-done t c).After-compared_length-n c.if-n-ne0.false))
    (remade c.same_out.ensures (seq_as ((λ (x y : List ℕ). next (eval_in f kk n F cl bb (expr_at f L a) x) (λ v rest. map_eval (binary_by op v) (eval_in f kk n F cl bb (expr_at f L mid) rest)) y)) n1 n2 segs ends (two_stop (λ (v : Value) (rest : List ℕ). map_eval (binary_by op v) (eval_in f kk n F cl bb (expr_at f L mid) rest)) h ((skip_one f L mid (parted f L 1 a p.plan.reads).tail (moved_skip f L 1 c.eval-l.ensures.next_is c.pass-s.ensures))) (sym c.if-done.false ∙ c.done.ensures))))

pub eval-eval_form-requires : goal.eval-eval_form-requires
eval-eval_form-requires t c = (omega arith, c.requires)

pub eval_form-eval_call-requires : goal.eval_form-eval_call-requires
eval_form-eval_call-requires t c = (omega arith, (c.requires.0, c.requires.1, plan_form c.args.file.now c.requires.0.plan Frm.Call c.at.ensures c.in-Call.is))

pub eval_form-eval_single-requires : goal.eval_form-eval_single-requires
eval_form-eval_single-requires t c =
    let f = c.args.file.now in
    let e = plan_form f c.requires.0.plan Frm.Iterator c.at.ensures c.in-Iterator.is in
    (omega arith, (c.requires.0, c.requires.1, ap (λ (x : ℕ). eqb x 11 || eqb x 15) e, sym (ap (λ (x : ℕ). cond (eqb x 11) (length (node_in f (get_or f (c.args.at + 1) 0)).outputs) 1) e)))

pub eval_form-overflow_add-at-in-Index : goal.eval_form-overflow_add-at-in-Index
eval_form-overflow_add-at-in-Index t c = omega (arith, ready_inside c.requires.0, c.requires.0.plan.program.sized.small)

pub eval_form-overflow_sub-level-in-Index : goal.eval_form-overflow_sub-level-in-Index
eval_form-overflow_sub-level-in-Index t c = ready_deep c.requires.0

pub eval_form-eval_index-requires : goal.eval_form-eval_index-requires
eval_form-eval_index-requires t c =
    let p = c.requires.0 in
    let f = c.args.file.now in
    let L = c.args.level in
    let a = c.args.at in
    let g = index_form f L a (plan_head f p.plan) (plan_form f p.plan Frm.Index c.at.ensures c.in-Index.is) in
    let deep = ready_deep p in
    (omega (arith, deep), (ready_parts p g refl, one_scalar f c.args.frame.now.node (L - 1) (end_at f (L - 1) (a + 1)) (parted f (L - 1) 1 (a + 1) g.read).tail (index_scalar p.plan g)))

pub eval_form-leaf_out-requires : goal.eval_form-leaf_out-requires
eval_form-leaf_out-requires t c =
    let p = c.requires.0 in
    (p.plan, p.present, p.previous, leaf_form c.at.ensures c.in_default.not-Unary c.in_default.not-Binary c.in_default.not-If c.in_default.not-Arrow c.in_default.not-Cast c.in_default.not-Call c.in_default.not-Index c.in_default.not-Iterator)

pub eval_form-returns-in-Index : goal.eval_form-returns-in-Index
unfolding eval
eval_form-returns-in-Index t c =
    let p = c.requires.0 in
    let fr = c.args.frame.now in
    let f = c.args.file.now in
    let kk = consts_of c.args.tab.now in
    let L = c.args.level in
    let a = c.args.at in
    let g = index_form f L a (plan_head f p.plan) (plan_form f p.plan Frm.Index c.at.ensures c.in-Index.is) in
    form_evals f kk L a fr.node fr.first fr.cells.now fr.before.now (index_in f kk (L - 1) (a + 1) fr.node fr.first fr.cells.now fr.before.now) p.plan.reads g refl (λ s. refl) c.eval_index.ensures

pub eval_equal-overflow_add-op : goal.eval_equal-overflow_add-op
eval_equal-overflow_add-op t c = omega (arith, ready_inside c.requires.0, c.requires.0.plan.program.sized.small)

pub eval_equal-bounds-file-at : goal.eval_equal-bounds-file-at
eval_equal-bounds-file-at t c = omega (arith, ready_inside c.requires.0, c.requires.0.plan.program.sized.small)

pub eval_equal-overflow_add-at : goal.eval_equal-overflow_add-at
eval_equal-overflow_add-at t c = omega (arith, ready_inside c.requires.0, c.requires.0.plan.program.sized.small)

pub eval_equal-eval_array-l-requires : goal.eval_equal-eval_array-l-requires
eval_equal-eval_array-l-requires t c =
    let q = ready_first c.requires.0 in
    (omega arith, (q, omega (arith, c.requires.1, c.requires.2), omega (arith, span_few q.plan _ refl)))

pub eval_equal-pass-s-requires : goal.eval_equal-pass-s-requires
eval_equal-pass-s-requires t c =
    let p = c.requires.0 in
    let h = c.eval_array-l.ensures in
    rw h.next_is (ready_pass (ready_rest p (on_segment h) c.eval_array-l.auto.new), rows_room c.args.tab.now _ p.plan.program.table.long)

pub eval_equal-overflow_add-result : goal.eval_equal-overflow_add-result
eval_equal-overflow_add-result t c =
    let h = c.eval_array-l.ensures in
    omega (arith, both_used c.requires.0 c.args.frame.now.first h.used_is (passed_behind c.requires.0 c.args.frame.now.first h.next_is c.pass-s.ensures).used_is)

pub eval_equal-returns-in_default : goal.eval_equal-returns-in_default
eval_equal-returns-in_default t c = equal_stops c.requires.0 c.args.frame.now.first (get_or c.args.file.now (c.args.at + 1) 0) c.eval_array-l.new.to c.eval_array-l.ensures c.in_default.not-Values c.pass-s.ensures c.stopped.ensures

pub eval_equal-array_length-m-requires : goal.eval_equal-array_length-m-requires
eval_equal-array_length-m-requires t c =
    let p = c.requires.0 in
    let h = c.eval_array-l.ensures in
    rw h.next_is (record { node = c.args.frame.now.node; plan = (ready_rest p (on_segment h) c.eval_array-l.auto.new).plan })

pub eval_equal-slice_bounds-eval_array-count : goal.eval_equal-slice_bounds-eval_array-count
eval_equal-slice_bounds-eval_array-count t c = omega (arith, ready_fits c.requires.0 (on_segment c.eval_array-l.ensures))

pub eval_equal-slice_bounds-eval_array-start : goal.eval_equal-slice_bounds-eval_array-start
eval_equal-slice_bounds-eval_array-start t c = omega (arith, ready_fits c.requires.0 (on_segment c.eval_array-l.ensures))

pub eval_equal-slice_bounds-eval_array-count-2 : goal.eval_equal-slice_bounds-eval_array-count-2
eval_equal-slice_bounds-eval_array-count-2 t c = omega (arith, ready_fits_new c.requires.0 (on_segment c.eval_array-l.ensures) c.eval_array-l.auto.new)

pub eval_equal-slice_bounds-eval_array-start-2 : goal.eval_equal-slice_bounds-eval_array-start-2
eval_equal-slice_bounds-eval_array-start-2 t c = omega (arith, ready_fits_new c.requires.0 (on_segment c.eval_array-l.ensures) c.eval_array-l.auto.new)

pub eval_equal-eval_array-r-requires : goal.eval_equal-eval_array-r-requires
eval_equal-eval_array-r-requires t c =
    let p = c.requires.0 in
    let h = c.eval_array-l.ensures in
    let q = ready_rest p (on_segment h) c.eval_array-l.auto.new in
    (omega arith, rw h.next_is (q, array_span q.plan c.requires.3, omega (arith, span_few q.plan _ refl)))

-- both sides were evaluated
module _ (t : ℕ) (c : eval_equal-After-eval_array-r t) where
  right_plan : Plan c.args.file.now (tab_of c.args.tab.now) (rows_of c.args.tab.now) (consts_of c.args.tab.now) c.args.frame.now.node c.args.level 1 (end_at c.args.file.now c.args.level (c.args.at + 2))
  right_plan = (ready_rest c.requires.0 (on_segment c.eval_array-l.ensures) c.eval_array-l.auto.new).plan

  right_span : c.array_length-m.result ≡ span_in c.args.file.now c.args.frame.now.node (expr_at c.args.file.now c.args.level (end_at c.args.file.now c.args.level (c.args.at + 2)))
  right_span =
      let f = c.args.file.now in
      let e = c.eval_array-l.ensures.next_is in
      let q = subst (λ (x : ℕ). Plan f (tab_of c.args.tab.now) (rows_of c.args.tab.now) (consts_of c.args.tab.now) c.args.frame.now.node c.args.level 1 x) (sym e) right_plan in
      c.array_length-m.ensures c.args.frame.now.node q ∙ ap (λ (x : ℕ). span_in f c.args.frame.now.node (expr_at f c.args.level x)) e

  right_evals : on (ArrayTo c.args.file.now (consts_of c.args.tab.now) c.args.level (end_at c.args.file.now c.args.level (c.args.at + 2))) c.args.frame.now (drop (seg_at c.args.file.now c.args.level (c.args.at + 2)) c.args.old.now) c.eval_array-r.result c.eval_array-r.new.to c.eval_array-r.new.new
  right_evals =
      let fr = c.args.frame.now in
      let h = c.eval_array-l.ensures in
      moved_array c.args.file.now (consts_of c.args.tab.now) c.args.level fr.node fr.first fr.cells.now fr.before.now c.eval_array-r.new.to h.next_is (rest_old (on_segment h)) c.eval_array-r.ensures

pub eval_equal-equal_cells-requires : goal.eval_equal-equal_cells-requires
eval_equal-equal_cells-requires t c =
    let d = (goal.at.eval_equal-equal_cells-requires t c).After-eval_array-r in
    (omega (arith, c.requires.1, span_few (ready_first c.requires.0).plan _ refl, c.eval_array-l.auto.to), omega (arith, right_span t d, span_few (right_plan t d) _ refl, c.eval_array-r.auto.to))

pub eval_equal-overflow_add-result-2 : goal.eval_equal-overflow_add-result-2
eval_equal-overflow_add-result-2 t c =
    omega (arith, both_used c.requires.0 c.args.frame.now.first c.eval_array-l.ensures.used_is (right_evals t (goal.at.eval_equal-overflow_add-result-2 t c).After-eval_array-r).used_is)

pub eval_equal-returns : goal.eval_equal-returns
eval_equal-returns t c =
    let d = (goal.at.eval_equal-returns t c).After-eval_array-r in
    let fr = c.args.frame.now in
    let op = get_or c.args.file.now (c.args.at + 1) 0 in
    equal_evals c.requires.0 fr.first op c.eval_array-l.new.to c.eval_array-r.new.to c.args.n c.array_length-m.result c.eval_array-l.ensures c.eval_array-l.auto.new c.in-Values.is (right_evals t d) c.requires.1 (right_span t d)
    (c.compared.ensures ∙ ap (λ (b : Bool). ended_out c.eval_array-r.result.out (compared_by op b)) c.equal_cells.ensures)

pub eval_index-array_length-n-requires : goal.eval_index-array_length-n-requires
eval_index-array_length-n-requires t c = record { node = c.args.frame.now.node; plan = (ready_first c.requires.0).plan }

pub eval_index-eval_part-b-requires : goal.eval_index-eval_part-b-requires
eval_index-eval_part-b-requires t c =
    let q = ready_first c.requires.0 in
    let e = c.array_length-n.ensures c.args.frame.now.node q.plan in
    let m = span_few q.plan _ refl in
    (omega arith, (q, record { long = e; few = omega arith; short = omega (arith, e, m); given = omega (arith, e, m); small = tt; called = tt }))

pub eval_index-pass-s-requires : goal.eval_index-pass-s-requires
eval_index-pass-s-requires t c =
    let p = c.requires.0 in
    let h = c.eval_part-b.ensures in
    rw h.next_is (ready_pass (ready_rest p (on_segment h) c.eval_part-b.auto.new), rows_room c.args.tab.now _ p.plan.program.table.long)

pub eval_index-overflow_add-result : goal.eval_index-overflow_add-result
eval_index-overflow_add-result t c =
    let h = c.eval_part-b.ensures in
    omega (arith, both_used c.requires.0 c.args.frame.now.first h.used_is (passed_behind c.requires.0 c.args.frame.now.first h.next_is c.pass-s.ensures).used_is)

pub eval_index-returns-in_default : goal.eval_index-returns-in_default
eval_index-returns-in_default t c = index_stops c.requires.0 c.args.frame.now.first c.eval_part-b.new.to c.eval_part-b.ensures c.in_default.not-Values c.pass-s.ensures c.stopped.ensures

pub eval_index-slice_bounds-eval-count : goal.eval_index-slice_bounds-eval-count
eval_index-slice_bounds-eval-count t c = omega (arith, ready_fits c.requires.0 (on_segment c.eval_part-b.ensures))

pub eval_index-slice_bounds-eval-start : goal.eval_index-slice_bounds-eval-start
eval_index-slice_bounds-eval-start t c = omega (arith, ready_fits c.requires.0 (on_segment c.eval_part-b.ensures))

pub eval_index-slice_bounds-eval-count-2 : goal.eval_index-slice_bounds-eval-count-2
eval_index-slice_bounds-eval-count-2 t c = omega (arith, ready_fits_new c.requires.0 (on_segment c.eval_part-b.ensures) c.eval_part-b.auto.new)

pub eval_index-slice_bounds-eval-start-2 : goal.eval_index-slice_bounds-eval-start-2
eval_index-slice_bounds-eval-start-2 t c = omega (arith, ready_fits_new c.requires.0 (on_segment c.eval_part-b.ensures) c.eval_part-b.auto.new)

pub eval_index-eval-r-requires : goal.eval_index-eval-r-requires
eval_index-eval-r-requires t c =
    let p = c.requires.0 in
    let h = c.eval_part-b.ensures in
    (omega arith, (rw h.next_is (ready_rest p (on_segment h) c.eval_part-b.auto.new, c.requires.1)))

pub eval_index-element-requires : goal.eval_index-element-requires
eval_index-element-requires t c =
    let q = ready_first c.requires.0 in
    let e = c.array_length-n.ensures c.args.frame.now.node q.plan in
    let m = span_few q.plan _ refl in
    (omega (arith, e, m), omega (arith, e, m, c.eval_part-b.auto.to))

pub eval_index-overflow_add-result-2 : goal.eval_index-overflow_add-result-2
eval_index-overflow_add-result-2 t c =
    let fr = c.args.frame.now in
    let h = c.eval_part-b.ensures in
    let g = moved c.args.file.now (consts_of c.args.tab.now) c.args.level fr.node fr.first fr.cells.now fr.before.now h.next_is (rest_old (on_segment h)) c.eval-r.ensures in
    omega (arith, both_used c.requires.0 fr.first h.used_is g.used_is)

pub eval_index-returns : goal.eval_index-returns
eval_index-returns t c =
    let p = c.requires.0 in
    let fr = c.args.frame.now in
    let h = c.eval_part-b.ensures in
    let g = moved c.args.file.now (consts_of c.args.tab.now) c.args.level fr.node fr.first fr.cells.now fr.before.now h.next_is (rest_old (on_segment h)) c.eval-r.ensures in
    index_evals p fr.first c.eval_part-b.new.to c.array_length-n.result h c.eval_part-b.auto.new c.in-Values.is g (c.array_length-n.ensures fr.node (ready_first p).plan) c.element.ensures

pub eval_array-at-requires : goal.eval_array-at-requires
eval_array-at-requires t c = ready_inside c.requires.0

pub eval_array-present_cells-requires : goal.eval_array-present_cells-requires
eval_array-present_cells-requires t c =
    let e = plan_form c.args.file.now c.requires.0.plan Frm.Var c.at.ensures c.in-Var.is in
    let s = name_span c.requires.0 c.requires.1 e in
    (name_array c.requires.0 c.requires.1 e, omega (arith, s, c.requires.1), omega (arith, s, c.requires.2))

pub eval_array-previous_cells-requires : goal.eval_array-previous_cells-requires
eval_array-previous_cells-requires t c =
    let e = plan_form c.args.file.now c.requires.0.plan Frm.Pre c.at.ensures c.in-Pre.is in
    let s = before_span c.requires.0 c.requires.1 e in
    (before_array c.requires.0 c.requires.1 e, omega (arith, s, c.requires.1), omega (arith, s, c.requires.2))

pub eval_array-overflow_add-at : goal.eval_array-overflow_add-at
eval_array-overflow_add-at t c = omega (arith, ready_inside c.requires.0, c.requires.0.plan.program.sized.small)

pub eval_array-overflow_add-result : goal.eval_array-overflow_add-result
eval_array-overflow_add-result t c = omega (arith, ready_inside c.requires.0, c.requires.0.plan.program.sized.small)

pub eval_array-overflow_add-result-in-Pre : goal.eval_array-overflow_add-result-in-Pre
eval_array-overflow_add-result-in-Pre t c = omega (arith, ready_inside c.requires.0, c.requires.0.plan.program.sized.small)

pub eval_array-overflow_sub-level : goal.eval_array-overflow_sub-level
eval_array-overflow_sub-level t c = ready_deep c.requires.0

pub eval_array-eval_all-requires : goal.eval_array-eval_all-requires
eval_array-eval_all-requires t c =
    let p = c.requires.0 in
    let e = plan_form c.args.file.now p.plan Frm.Literal c.at.ensures c.in-Literal.is in
    let deep = ready_deep p in
    (omega (arith, deep), (literal_ready p c.requires.1 e, literal_several p c.requires.1 e (length c.args.to.now) c.requires.2))

pub eval_array-eval_work-requires : goal.eval_array-eval_work-requires
eval_array-eval_work-requires t c =
    (omega arith, (c.requires.0, work_given c.requires.0 c.requires.1 (λ e. c.in_default.not-Var (form_is Frm.Var c.at.ensures e)) (λ e. c.in_default.not-Pre (form_is Frm.Pre c.at.ensures e)) (λ e. c.in_default.not-Literal (form_is Frm.Literal c.at.ensures e)) (length c.args.to.now) c.requires.2))

pub eval_array-returns-in-Var : goal.eval_array-returns-in-Var
eval_array-returns-in-Var t c =
    let e = plan_form c.args.file.now c.requires.0.plan Frm.Var c.at.ensures c.in-Var.is in
    name_done c.requires.0 c.requires.1 e c.args.frame.now.first c.args.to.now c.present_cells.new.to c.present_cells.ensures

pub eval_array-returns-in-Pre : goal.eval_array-returns-in-Pre
eval_array-returns-in-Pre t c =
    let e = plan_form c.args.file.now c.requires.0.plan Frm.Pre c.at.ensures c.in-Pre.is in
    before_done c.requires.0 c.requires.1 e c.args.frame.now.first c.previous_cells.result c.args.to.now c.previous_cells.new.to c.previous_cells.ensures.0 c.previous_cells.ensures.1

pub eval_array-returns-in-Literal : goal.eval_array-returns-in-Literal
eval_array-returns-in-Literal t c =
    let e = plan_form c.args.file.now c.requires.0.plan Frm.Literal c.at.ensures c.in-Literal.is in
    literal_done c.requires.0 c.requires.1 e c.args.frame.now.first c.eval_all.new.to c.eval_all.ensures

pub eval_array-returns-in_default : goal.eval_array-returns-in_default
eval_array-returns-in_default t c =
    work_done c.requires.0 c.requires.1 (λ e. c.in_default.not-Var (form_is Frm.Var c.at.ensures e)) (λ e. c.in_default.not-Pre (form_is Frm.Pre c.at.ensures e)) (λ e. c.in_default.not-Literal (form_is Frm.Literal c.at.ensures e)) c.args.frame.now.first c.eval_work.new.to (omega (arith, c.requires.2, c.eval_work.auto.to)) c.eval_work.ensures

pub eval_call-overflow_add-at : goal.eval_call-overflow_add-at
eval_call-overflow_add-at t c = omega (arith, ready_inside c.requires.0, c.requires.0.plan.program.sized.small)

pub eval_call-bounds-file-at : goal.eval_call-bounds-file-at
eval_call-bounds-file-at t c =
    let p = c.requires.0 in
    omega (arith, (call_form c.args.file.now c.args.level c.args.at (plan_head c.args.file.now p.plan) c.requires.2).0.inside)

-- how many cells the work takes, by the code
abbrev work_by : List ℕ → ℕ → ℕ → ℕ → ℕ → ℕ
work_by f node level at code = cond (eqb code 11) (callee_cells f (get_or f (at + 1) 0)) (arrays_count f at * span_in f node (expr_at f (level - 1) (arrays_start f at)))

-- the callee
module _ (t : ℕ) (c : eval_call-After-from-k t) where
  callee_in_file : get_or c.args.file.now (c.args.at + 1) 0 < nodes_in c.args.file.now
  callee_in_file = call_below c.args.file.now c.requires.0.plan c.requires.2

  callee_small : c.from-k.result < 32
  callee_small = omega (arith, c.from-k.ensures, callee_in_file, c.requires.0.plan.program.sized.few)

  call_is_work : is_work c.args.file.now c.args.at ≡ true
  call_is_work = ap (λ (x : ℕ). eqb x 11 || eqb x 15) c.requires.2

pub eval_call-row-outputs-requires : goal.eval_call-row-outputs-requires
eval_call-row-outputs-requires t c =
    (rows_room c.args.tab.now _ c.requires.0.plan.program.table.long, callee_small t (goal.at.eval_call-row-outputs-requires t c).After-from-k, omega arith)

-- its outputs
module _ (t : ℕ) (c : eval_call-After-row-outputs t) (b : get_or c.args.file.now (c.args.at + 1) 0 < nodes_in c.args.file.now) where
  outputs_told : c.row-outputs.result ≡ work_outputs c.args.file.now c.args.at
  outputs_told =
      let f = c.args.file.now in
      let k = get_or f (c.args.at + 1) 0 in
      c.row-outputs.ensures ∙ ap (λ (x : ℕ). row_at (rows_of c.args.tab.now) x 3) c.from-k.ensures ∙ (c.requires.0.plan.program.sized.table.rows_of k b).outputs
      ∙ sym (ap (λ (x : ℕ). cond (eqb x 11) (length (node_in f k).outputs) 1) c.requires.2)

pub eval_call-work_cells-requires : goal.eval_call-work_cells-requires
eval_call-work_cells-requires t c =
    (record { node = c.args.frame.now.node; plan = c.requires.0.plan }, call_is_work t (goal.at.eval_call-work_cells-requires t c).After-from-k)

pub eval_call-enter-r-requires : goal.eval_call-enter-r-requires
eval_call-enter-r-requires t c =
    let f = c.args.file.now in
    let e = c.work_cells.ensures c.args.frame.now.node c.requires.0.plan ∙ ap (λ (x : ℕ). work_by f c.args.frame.now.node c.args.level c.args.at x) c.requires.2 in
    (omega arith, (c.requires.0, c.requires.2, omega (arith, e, c.if-work_cells-le32.true)))

pub eval_call-single_out-requires : goal.eval_call-single_out-requires
eval_call-single_out-requires t c = omega (arith, c.enter-r.auto.args)

pub eval_call-returns-then-work_cells-le32 : goal.eval_call-returns-then-work_cells-le32
eval_call-returns-then-work_cells-le32 t c =
    let d = goal.at.eval_call-returns-then-work_cells-le32 t c in
    let p = c.requires.0 in
    let b = callee_in_file t d.After-from-k in
    call_one p.plan (scalar_shape c.args.file.now c.args.frame.now.node c.args.level c.args.at p.plan.reads c.requires.1) (call_is_work t d.After-from-k) (λ e. b) c.args.frame.now.first c.args.frame.now.cells.now c.args.frame.now.before.now c.args.old.now c.requires.2 c.row-outputs.result c.enter-r.new.args (outputs_told t d.After-row-outputs b) c.enter-r.ensures c.single_out.ensures

pub eval_call-eval_single-requires : goal.eval_call-eval_single-requires
eval_call-eval_single-requires t c =
    let d = goal.at.eval_call-eval_single-requires t c in
    (omega arith, (c.requires.0, c.requires.1, call_is_work t d.After-from-k, outputs_told t d.After-row-outputs (callee_in_file t d.After-from-k)))

pub eval_single-eval_work-r-requires : goal.eval_single-eval_work-r-requires
eval_single-eval_work-r-requires t c =
    let p = c.requires.0 in
    let s = scalar_shape c.args.file.now c.args.frame.now.node c.args.level c.args.at p.plan.reads c.requires.1 in
    (omega arith, (p, record { form = c.requires.2; given = λ e. omega (arith, ap (maybe 1 (λ n. n)) s) }))

pub eval_single-single_out-requires : goal.eval_single-single_out-requires
eval_single-single_out-requires t c = omega (arith, c.eval_work-r.auto.to)

pub eval_single-returns : goal.eval_single-returns
eval_single-returns t c =
    let p = c.requires.0 in
    let s = scalar_shape c.args.file.now c.args.frame.now.node c.args.level c.args.at p.plan.reads c.requires.1 in
    work_one p.plan s c.requires.2 (λ e. call_below c.args.file.now p.plan e) c.args.frame.now.first c.args.frame.now.cells.now c.args.frame.now.before.now c.args.old.now c.args.outputs c.eval_work-r.new.to c.requires.3 (omega (arith, c.eval_work-r.auto.to)) c.eval_work-r.ensures c.single_out.ensures

pub call_function-fresh-frame-requires : goal.call_function-fresh-frame-requires
call_function-fresh-frame-requires t c =
    let h = c.requires.0 in
    let R = h.running in
    let B = h.below in
    let i = c.cells_of-inputs.result in
    let iw = c.cells_of-inputs.ensures.0 in
    let own = own_width R B in
    let first = inputs_first R B _ i refl iw in (
      omega (arith, few R B),
      omega (arith, first, width_is R B _ refl, own),
      omega (arith, first, narrow R B _ refl),
      omega (arith, c.requires.1, own),
      omega (arith, c.requires.2, own),
      omega (arith, h.given, inputs_are R B i iw),
    )

pub call_function-run-r-requires : goal.call_function-run-r-requires
call_function-run-r-requires t c =
    let fp = c.fresh-frame.ensures.freshened in
    let long = c.fresh-frame.ensures.long in
    let fr = c.fresh-frame.result in
    (omega (arith, fp.node), framed_runnable fr fp.node (function_runnable c.requires.0 c.requires.3 fr.cells.now fr.before.now (omega (arith, c.requires.1, long.0)) (omega (arith, c.requires.2, long.1))))

pub call_function-copy_outputs-requires : goal.call_function-copy_outputs-requires
call_function-copy_outputs-requires t c =
    let h = c.requires.0 in
    let R = h.running in
    let B = h.below in
    let i = c.cells_of-inputs.result in
    let iw = c.cells_of-inputs.ensures.0 in
    let o = c.cells_of.result in
    let ow = c.cells_of.ensures.0 in
    let first = outputs_first R B _ o i refl ow iw in (
      omega (arith, first, narrow R B _ refl),
      omega (arith, first, narrow R B _ refl),
      omega (arith, first, width_is R B _ refl, c.requires.1, c.fresh-frame.ensures.long.0, c.run-r.ensures.1.long),
      omega (arith, h.taken, outputs_are R B o i ow iw),
    )

pub call_function-returns : goal.call_function-returns
call_function-returns t c =
    let fp = c.fresh-frame.ensures.freshened in
    let fr = c.fresh-frame.result in
    let cells = c.run-r.new.frame.cells.now in
    let ran = framed_run c.args.file.now (consts_of c.args.tab.now) fr c.args.old.now cells fp.node c.run-r.ensures.0 in
    function_done c.requires.0 c.requires.3 c.cells_of-inputs.result fr c.cells_of-inputs.ensures.0 fp c.run-r.result cells c.run-r.new.new c.cells_of.result c.copy_outputs.new.args ran c.run-r.auto.new c.cells_of.ensures.0 c.copy_outputs.ensures

pub function_3584-call_function-requires : goal.function_3584-call_function-requires
function_3584-call_function-requires t c =
    let h = c.requires.0 in
    (omega arith, (h, c.requires.1, omega (arith, widest h.running c.args.k), c.requires.2))

pub step_in-row-requires : goal.step_in-row-requires
step_in-row-requires t c = row_room c.args.tab.now c.requires.0.running c.requires.0.below _ (omega arith)

pub step_in-step_instance-requires : goal.step_in-step_instance-requires
step_in-step_instance-requires t c =
    let h = c.requires.0 in
    (omega arith, (h, c.requires.1, is_operator_lem h c.row.result c.row.ensures (eqb-true _ 1 (sym c.is.ensures ∙ c.if-is.true))))

pub step_in-function_112-requires : goal.step_in-function_112-requires
step_in-function_112-requires t c =
    let h = c.requires.0 in
    let w = width_is h.running h.below c.cells_of.result c.cells_of.ensures.0 in
    (omega arith, (h, c.requires.1, omega (arith, w, c.if-cells_of-le112.true), is_function h c.row.result c.row.ensures (eqb-false _ 1 (sym c.is.ensures ∙ c.if-is.false))))

pub step_in-function_3584-requires : goal.step_in-function_3584-requires
step_in-function_3584-requires t c =
    let h = c.requires.0 in
    (omega arith, (h, c.requires.1, is_function h c.row.result c.row.ensures (eqb-false _ 1 (sym c.is.ensures ∙ c.if-is.false))))

pub step_instance-open-frame-requires : goal.step_instance-open-frame-requires
step_instance-open-frame-requires t c =
    let h = c.requires.0 in
    let R = h.running in
    let B = h.below in
    let n = c.cells_of-n.result in
    let w = c.cells_of-n.ensures.0 in
    let i = c.cells_of-inputs.result in
    let iw = c.cells_of-inputs.ensures.0 in
    (inputs_first R B n i w iw, narrow R B n w, omega (arith, c.requires.1, width_is R B n w), omega (arith, h.given, inputs_are R B i iw), own_room h n c.requires.2 w)

pub step_instance-slice_bounds-run-count : goal.step_instance-slice_bounds-run-count
step_instance-slice_bounds-run-count t c = omega (arith, own_room c.requires.0 c.cells_of-n.result c.requires.2 c.cells_of-n.ensures.0)

pub step_instance-slice_bounds-run-start : goal.step_instance-slice_bounds-run-start
step_instance-slice_bounds-run-start t c = omega (arith, own_room c.requires.0 c.cells_of-n.result c.requires.2 c.cells_of-n.ensures.0)

pub step_instance-slice_bounds-run-count-2 : goal.step_instance-slice_bounds-run-count-2
step_instance-slice_bounds-run-count-2 t c = omega (arith, own_new c.requires.0 c.cells_of-n.result c.requires.2 c.cells_of-n.ensures.0)

pub step_instance-slice_bounds-run-start-2 : goal.step_instance-slice_bounds-run-start-2
step_instance-slice_bounds-run-start-2 t c = omega (arith, own_new c.requires.0 c.cells_of-n.result c.requires.2 c.cells_of-n.ensures.0)

pub step_instance-run-r-requires : goal.step_instance-run-r-requires
step_instance-run-r-requires t c =
    let h = c.requires.0 in
    let o = c.requires.2 in
    let n = c.cells_of-n.result in
    let w = c.cells_of-n.ensures.0 in
    let op = c.open-frame.ensures.opened in
    let fr = c.open-frame.result in
    let v = width_is h.running h.below n w in
    (omega (arith, op.node), framed_runnable fr op.node (instance_runnable h n fr.cells.now fr.before.now o w (omega (arith, c.requires.1, c.open-frame.ensures.long)) (omega (arith, own_room h n o w, v, ap length op.before, length-drop 1 c.args.old.now))))

pub step_instance-finish-requires : goal.step_instance-finish-requires
step_instance-finish-requires t c =
    let h = c.requires.0 in
    let o = c.requires.2 in
    let R = h.running in
    let B = h.below in
    let n = c.cells_of-n.result in
    let w = c.cells_of-n.ensures.0 in (
      narrow R B n w,
      omega (arith, c.requires.1, width_is R B n w, c.open-frame.ensures.long, c.run-r.ensures.1.long),
      omega (arith, put_length h n c.run-r.new.new o w c.run-r.auto.new, own_new h n o w),
    )

pub step_instance-copy_outputs-requires : goal.step_instance-copy_outputs-requires
step_instance-copy_outputs-requires t c =
    let h = c.requires.0 in
    let R = h.running in
    let B = h.below in
    let n = c.cells_of-n.result in
    let w = c.cells_of-n.ensures.0 in
    let i = c.cells_of-inputs.result in
    let iw = c.cells_of-inputs.ensures.0 in
    let m = c.cells_of.result in
    let mw = c.cells_of.ensures.0 in
    let first = outputs_first R B n m i w mw iw in (
      omega (arith, first, narrow R B n w),
      omega (arith, first, narrow R B n w),
      omega (arith, first, width_is R B n w, c.requires.1, c.open-frame.ensures.long, c.run-r.ensures.1.long),
      omega (arith, h.taken, outputs_are R B m i mw iw),
    )

pub step_instance-returns-in-Values : goal.step_instance-returns-in-Values
step_instance-returns-in-Values t c =
    let n = c.cells_of-n.result in
    let op = c.open-frame.ensures.opened in
    let e = entered c.requires.0 c.requires.2 c.cells_of-n.ensures.0 c.cells_of-inputs.ensures.0 op in
    let cells = c.run-r.new.frame.cells.now in
    let ran = framed_run c.args.file.now (consts_of c.args.tab.now) c.open-frame.result (tail_of (1 + 9 * n) c.args.old.now) cells op.node c.run-r.ensures.0 in
    instance_finished e c.run-r.result cells c.run-r.new.new c.finish.new.to c.cells_of.result c.copy_outputs.new.args ran c.in-Values.is c.finish.ensures c.cells_of.ensures.0 c.copy_outputs.ensures

pub step_instance-returns-in-Failed : goal.step_instance-returns-in-Failed
step_instance-returns-in-Failed t c =
    let n = c.cells_of-n.result in
    let op = c.open-frame.ensures.opened in
    let e = entered c.requires.0 c.requires.2 c.cells_of-n.ensures.0 c.cells_of-inputs.ensures.0 op in
    let cells = c.run-r.new.frame.cells.now in
    let ran = framed_run c.args.file.now (consts_of c.args.tab.now) c.open-frame.result (tail_of (1 + 9 * n) c.args.old.now) cells op.node c.run-r.ensures.0 in
    instance_failed e _ c.run-r.result cells c.run-r.new.new c.write_fresh.new.out c.args.args.now ran c.in-Failed.c-1-own.given.0.1 c.write_fresh.ensures

pub step_instance-returns-in-Overflowed : goal.step_instance-returns-in-Overflowed
step_instance-returns-in-Overflowed t c =
    let h = c.requires.0 in
    let o = c.requires.2 in
    let n = c.cells_of-n.result in
    let w = c.cells_of-n.ensures.0 in
    let op = c.open-frame.ensures.opened in
    let e = entered h o w c.cells_of-inputs.ensures.0 op in
    let cells = c.run-r.new.frame.cells.now in
    let x = c.run-r.new.new in
    let ran = framed_run c.args.file.now (consts_of c.args.tab.now) c.open-frame.result (tail_of (1 + 9 * n) c.args.old.now) cells op.node c.run-r.ensures.0 in
    let copied = all_copied c.args.old.now (put_tail (1 + 9 * n) c.args.new.now x) c.copy.new.to (put_length h n x o w c.run-r.auto.new ∙ ap length h.same) c.copy.ensures in
    instance_overflowed e c.run-r.result cells x c.copy.new.to c.args.args.now ran c.in-Overflowed.is copied

pub step_wide-step_in-requires : goal.step_wide-step_in-requires
step_wide-step_in-requires t c = (omega arith, (c.requires, omega (arith, widest c.requires.running c.args.k)))

pub eval_part-eval-r-requires : goal.eval_part-eval-r-requires
eval_part-eval-r-requires t c =
    let p = c.requires.0 in
    (omega arith, (p, one_scalar c.args.file.now c.args.frame.now.node c.args.level c.args.at p.plan.reads (span_scalar p.plan c.args.m c.requires.1.long c.if-m-eq0.true)))

pub eval_part-returns-then-m-eq0 : goal.eval_part-returns-then-m-eq0
eval_part-returns-then-m-eq0 t c =
    let p = c.requires.0 in
    let fr = c.args.frame.now in
    part_scalar (consts_of c.args.tab.now) p.plan.program c.requires.1 fr.first fr.cells.now fr.before.now (span_scalar p.plan c.args.m c.requires.1.long c.if-m-eq0.true) c.eval-r.ensures c.put_part.ensures.0 c.put_part.ensures.1

pub eval_part-returns-else-m-eq0 : goal.eval_part-returns-else-m-eq0
eval_part-returns-else-m-eq0 t c =
    let p = c.requires.0 in
    let fr = c.args.frame.now in
    part_array (consts_of c.args.tab.now) p.plan.program c.requires.1 fr.first fr.cells.now fr.before.now c.eval_array-r.new.to c.fit_part.new.cells c.args.m (span_array c.args.file.now fr.node c.args.level c.args.at c.args.m c.requires.1.long c.if-m-eq0.false) refl c.eval_array-r.ensures c.fit_part.ensures

pub eval_all-callee_at-callee-requires : goal.eval_all-callee_at-callee-requires
eval_all-callee_at-callee-requires t c =
    c.requires.1.inside

pub eval_all-arrays_of-h-requires : goal.eval_all-arrays_of-h-requires
eval_all-arrays_of-h-requires t c =
    c.requires.1.inside

pub eval_all-loop-i-init : goal.eval_all-loop-i-init
eval_all-loop-i-init t c =
    let n = arrays_count c.args.file.now c.args.at in
    let at = c.args.at in
    (omega arith, refl, refl, subst (λ (m : ℕ). Goes c.args.file.now c.args.tab.now c.args.level at c.args.frame.now c.args.old.now (n - 0) 0 m 0 0 c.args.to.now c.args.new.now) (sym c.arrays_of-h.ensures.1) (going_left (left_none n) (going_start c.args.frame.now.first c.args.to.now c.requires.0 c.requires.1.given c.requires.1.called)))

pub eval_all-array_length-m-requires : goal.eval_all-array_length-m-requires
eval_all-array_length-m-requires t c =
    let n = arrays_count c.args.file.now c.args.at in
    let lt = subst (λ (m : ℕ). c.loop-i.i < m) c.arrays_of-h.ensures.0 c.loop-i-test.true in
    let g = going_left (left_suc n c.loop-i.i lt) c.loop-i.invariant.3 in
    record { node = c.args.frame.now.node; plan = (ready_first g.ready).plan }

pub eval_all-overflow_mul-q : goal.eval_all-overflow_mul-q
eval_all-overflow_mul-q t c =
    let n = arrays_count c.args.file.now c.args.at in
    let lt = subst (λ (m : ℕ). c.loop-i.i < m) c.arrays_of-h.ensures.0 c.loop-i-test.true in
    let g = going_left (left_suc n c.loop-i.i lt) c.loop-i.invariant.3 in
    omega (arith, going_cells g)

pub eval_all-slice_bounds-eval_part-count : goal.eval_all-slice_bounds-eval_part-count
eval_all-slice_bounds-eval_part-count t c =
    let n = arrays_count c.args.file.now c.args.at in
    let lt = subst (λ (m : ℕ). c.loop-i.i < m) c.arrays_of-h.ensures.0 c.loop-i-test.true in
    let g = going_left (left_suc n c.loop-i.i lt) c.loop-i.invariant.3 in
    omega (arith, going_cells g)

pub eval_all-slice_bounds-eval_part-start : goal.eval_all-slice_bounds-eval_part-start
eval_all-slice_bounds-eval_part-start t c =
    let n = arrays_count c.args.file.now c.args.at in
    let lt = subst (λ (m : ℕ). c.loop-i.i < m) c.arrays_of-h.ensures.0 c.loop-i-test.true in
    let g = going_left (left_suc n c.loop-i.i lt) c.loop-i.invariant.3 in
    omega (arith, going_cells g)

pub eval_all-slice_bounds-eval_part-end : goal.eval_all-slice_bounds-eval_part-end
eval_all-slice_bounds-eval_part-end t c =
    let n = arrays_count c.args.file.now c.args.at in
    let lt = subst (λ (m : ℕ). c.loop-i.i < m) c.arrays_of-h.ensures.0 c.loop-i-test.true in
    let g = going_left (left_suc n c.loop-i.i lt) c.loop-i.invariant.3 in
    omega (arith, going_cells g)

pub eval_all-slice_bounds-eval_part-count-in-loop-i : goal.eval_all-slice_bounds-eval_part-count-in-loop-i
eval_all-slice_bounds-eval_part-count-in-loop-i t c =
    let w = c.loop-i.invariant.3.within in
    omega (arith, w)

pub eval_all-slice_bounds-eval_part-start-in-loop-i : goal.eval_all-slice_bounds-eval_part-start-in-loop-i
eval_all-slice_bounds-eval_part-start-in-loop-i t c =
    let w = c.loop-i.invariant.3.within in
    omega (arith, w)

pub eval_all-slice_bounds-eval_part-end-in-loop-i : goal.eval_all-slice_bounds-eval_part-end-in-loop-i
eval_all-slice_bounds-eval_part-end-in-loop-i t c =
    let w = c.loop-i.invariant.3.within in
    omega (arith, w)

pub eval_all-slice_bounds-eval_part-count-in-loop-i-2 : goal.eval_all-slice_bounds-eval_part-count-in-loop-i-2
eval_all-slice_bounds-eval_part-count-in-loop-i-2 t c =
    let w = c.loop-i.invariant.3.within in
    let same = c.loop-i.invariant.1 ∙ ap (λ (l : List ℕ). length l) c.requires.0.same in
    omega (arith, w, same)

pub eval_all-slice_bounds-eval_part-start-in-loop-i-2 : goal.eval_all-slice_bounds-eval_part-start-in-loop-i-2
eval_all-slice_bounds-eval_part-start-in-loop-i-2 t c =
    let w = c.loop-i.invariant.3.within in
    let same = c.loop-i.invariant.1 ∙ ap (λ (l : List ℕ). length l) c.requires.0.same in
    omega (arith, w, same)

pub eval_all-slice_bounds-eval_part-end-in-loop-i-2 : goal.eval_all-slice_bounds-eval_part-end-in-loop-i-2
eval_all-slice_bounds-eval_part-end-in-loop-i-2 t c =
    let w = c.loop-i.invariant.3.within in
    let same = c.loop-i.invariant.1 ∙ ap (λ (l : List ℕ). length l) c.requires.0.same in
    omega (arith, w, same)

pub eval_all-eval_part-r-requires : goal.eval_all-eval_part-r-requires
eval_all-eval_part-r-requires t c =
    let n = arrays_count c.args.file.now c.args.at in
    let lt = subst (λ (m : ℕ). c.loop-i.i < m) c.arrays_of-h.ensures.0 c.loop-i-test.true in
    let g = going_left (left_suc n c.loop-i.i lt) c.loop-i.invariant.3 in
    let pl = (ready_first g.ready).plan in
    let mE = c.array_length-m.ensures c.args.frame.now.node pl in
    let few : c.loop-i.i < 32 = omega (arith, lt, c.requires.1.few) in
    (omega arith, (going_ready g, part_called c.args.file.now c.args.frame.now.node c.args.level c.loop-i.i c.loop-i.pos c.array_length-m.result (length (tail_of (9 * c.loop-i.q) c.loop-i.to)) c.callee_at-callee.ensures (going_part g c.array_length-m.result mE few (span_few pl c.array_length-m.result mE) c.requires.1.small)))

pub eval_all-overflow_add-used : goal.eval_all-overflow_add-used
eval_all-overflow_add-used t c =
    let n = arrays_count c.args.file.now c.args.at in
    let lt = subst (λ (m : ℕ). c.loop-i.i < m) c.arrays_of-h.ensures.0 c.loop-i-test.true in
    let g = going_left (left_suc n c.loop-i.i lt) c.loop-i.invariant.3 in
    let pl = (ready_first g.ready).plan in
    let mE = c.array_length-m.ensures c.args.frame.now.node pl in
    let fr = c.args.frame.now in
    let len = going_length g c.eval_part-r.new.new c.eval_part-r.auto.new (c.loop-i.invariant.1 ∙ ap (λ (l : List ℕ). length l) c.requires.0.same) in
    let h = part_moved c.args.file.now (consts_of c.args.tab.now) (callee_at c.args.file.now c.args.at) c.loop-i.i c.args.level c.loop-i.pos fr.node fr.first fr.cells.now fr.before.now c.eval_part-r.new.to (tail_all c.loop-i.used c.args.old.now) (part_named c.args.file.now (consts_of c.args.tab.now) c.loop-i.i c.args.level c.loop-i.pos fr.node fr.first fr.cells.now fr.before.now c.eval_part-r.new.to c.callee_at-callee.ensures c.eval_part-r.ensures) in
    omega (arith, going_used g c.eval_part-r.new.to h len, c.requires.0.room, c.requires.0.small)

pub eval_all-pass_all-s-requires : goal.eval_all-pass_all-s-requires
eval_all-pass_all-s-requires t c =
    let n = arrays_count c.args.file.now c.args.at in
    let lt = subst (λ (m : ℕ). c.loop-i.i < m) c.arrays_of-h.ensures.0 c.loop-i-test.true in
    let g = going_left (left_suc n c.loop-i.i lt) c.loop-i.invariant.3 in
    let pl = (ready_first g.ready).plan in
    let mE = c.array_length-m.ensures c.args.frame.now.node pl in
    let fr = c.args.frame.now in
    let len = going_length g c.eval_part-r.new.new c.eval_part-r.auto.new (c.loop-i.invariant.1 ∙ ap (λ (l : List ℕ). length l) c.requires.0.same) in
    let h = part_moved c.args.file.now (consts_of c.args.tab.now) (callee_at c.args.file.now c.args.at) c.loop-i.i c.args.level c.loop-i.pos fr.node fr.first fr.cells.now fr.before.now c.eval_part-r.new.to (tail_all c.loop-i.used c.args.old.now) (part_named c.args.file.now (consts_of c.args.tab.now) c.loop-i.i c.args.level c.loop-i.pos fr.node fr.first fr.cells.now fr.before.now c.eval_part-r.new.to c.callee_at-callee.ensures c.eval_part-r.ensures) in
    (subst (λ (m : ℕ). Passable c.args.file.now (rows_of c.args.tab.now) c.args.level m c.eval_part-r.result.next) (sym (ap (λ (m : ℕ). m - c.loop-i.i - 1) c.arrays_of-h.ensures.0 ∙ left_pass n c.loop-i.i)) (going_passable g c.eval_part-r.new.to h len), rows_room c.args.tab.now _ c.requires.0.plan.program.table.long)

pub eval_all-overflow_add-result : goal.eval_all-overflow_add-result
eval_all-overflow_add-result t c =
    let n = arrays_count c.args.file.now c.args.at in
    let lt = subst (λ (m : ℕ). c.loop-i.i < m) c.arrays_of-h.ensures.0 c.loop-i-test.true in
    let g = going_left (left_suc n c.loop-i.i lt) c.loop-i.invariant.3 in
    let pl = (ready_first g.ready).plan in
    let mE = c.array_length-m.ensures c.args.frame.now.node pl in
    let fr = c.args.frame.now in
    let len = going_length g c.eval_part-r.new.new c.eval_part-r.auto.new (c.loop-i.invariant.1 ∙ ap (λ (l : List ℕ). length l) c.requires.0.same) in
    let h = part_moved c.args.file.now (consts_of c.args.tab.now) (callee_at c.args.file.now c.args.at) c.loop-i.i c.args.level c.loop-i.pos fr.node fr.first fr.cells.now fr.before.now c.eval_part-r.new.to (tail_all c.loop-i.used c.args.old.now) (part_named c.args.file.now (consts_of c.args.tab.now) c.loop-i.i c.args.level c.loop-i.pos fr.node fr.first fr.cells.now fr.before.now c.eval_part-r.new.to c.callee_at-callee.ensures c.eval_part-r.ensures) in
    let sk = subst (λ (m : ℕ). SkipsTo c.args.file.now c.args.level m c.eval_part-r.result.next c.pass_all-s.result) (ap (λ (m : ℕ). m - c.loop-i.i - 1) c.arrays_of-h.ensures.0 ∙ left_pass n c.loop-i.i) c.pass_all-s.ensures in
    let w = going_stop g c.eval_part-r.new.to h len (passed_all c.args.file.now (callee_at c.args.file.now c.args.at)) (values_of (all_cells c.args.file.now fr.node c.args.level n (arrays_start c.args.file.now c.args.at)) (put_tail (9 * c.loop-i.q) c.loop-i.to c.eval_part-r.new.to)) c.in_default.not-Values sk in
    omega (arith, w.0.used_is, c.requires.0.room, c.requires.0.small)

pub eval_all-returns-in_default : goal.eval_all-returns-in_default
eval_all-returns-in_default t c =
    let n = arrays_count c.args.file.now c.args.at in
    let lt = subst (λ (m : ℕ). c.loop-i.i < m) c.arrays_of-h.ensures.0 c.loop-i-test.true in
    let g = going_left (left_suc n c.loop-i.i lt) c.loop-i.invariant.3 in
    let pl = (ready_first g.ready).plan in
    let mE = c.array_length-m.ensures c.args.frame.now.node pl in
    let fr = c.args.frame.now in
    let len = going_length g c.eval_part-r.new.new c.eval_part-r.auto.new (c.loop-i.invariant.1 ∙ ap (λ (l : List ℕ). length l) c.requires.0.same) in
    let h = part_moved c.args.file.now (consts_of c.args.tab.now) (callee_at c.args.file.now c.args.at) c.loop-i.i c.args.level c.loop-i.pos fr.node fr.first fr.cells.now fr.before.now c.eval_part-r.new.to (tail_all c.loop-i.used c.args.old.now) (part_named c.args.file.now (consts_of c.args.tab.now) c.loop-i.i c.args.level c.loop-i.pos fr.node fr.first fr.cells.now fr.before.now c.eval_part-r.new.to c.callee_at-callee.ensures c.eval_part-r.ensures) in
    let sk = subst (λ (m : ℕ). SkipsTo c.args.file.now c.args.level m c.eval_part-r.result.next c.pass_all-s.result) (ap (λ (m : ℕ). m - c.loop-i.i - 1) c.arrays_of-h.ensures.0 ∙ left_pass n c.loop-i.i) c.pass_all-s.ensures in
    let w = going_stop g c.eval_part-r.new.to h len (passed_all c.args.file.now (callee_at c.args.file.now c.args.at)) (values_of (all_cells c.args.file.now fr.node c.args.level n (arrays_start c.args.file.now c.args.at)) (put_tail (9 * c.loop-i.q) c.loop-i.to c.eval_part-r.new.to)) c.in_default.not-Values sk in
    w

pub eval_all-overflow_add-q : goal.eval_all-overflow_add-q
eval_all-overflow_add-q t c =
    let n = arrays_count c.args.file.now c.args.at in
    let lt = subst (λ (m : ℕ). c.loop-i.i < m) c.arrays_of-h.ensures.0 c.loop-i-test.true in
    let g = going_left (left_suc n c.loop-i.i lt) c.loop-i.invariant.3 in
    let pl = (ready_first g.ready).plan in
    let mE = c.array_length-m.ensures c.args.frame.now.node pl in
    let fr = c.args.frame.now in
    let len = going_length g c.eval_part-r.new.new c.eval_part-r.auto.new (c.loop-i.invariant.1 ∙ ap (λ (l : List ℕ). length l) c.requires.0.same) in
    let h = part_moved c.args.file.now (consts_of c.args.tab.now) (callee_at c.args.file.now c.args.at) c.loop-i.i c.args.level c.loop-i.pos fr.node fr.first fr.cells.now fr.before.now c.eval_part-r.new.to (tail_all c.loop-i.used c.args.old.now) (part_named c.args.file.now (consts_of c.args.tab.now) c.loop-i.i c.args.level c.loop-i.pos fr.node fr.first fr.cells.now fr.before.now c.eval_part-r.new.to c.callee_at-callee.ensures c.eval_part-r.ensures) in
    let long = c.loop-i.invariant.3.long in
    omega (arith, c.cells_for-q.ensures, cells_of_span pl c.array_length-m.result mE, going_cells g)

pub eval_all-loop-i-preserved : goal.eval_all-loop-i-preserved
eval_all-loop-i-preserved t c =
    let n = arrays_count c.args.file.now c.args.at in
    let lt = subst (λ (m : ℕ). c.loop-i.i < m) c.arrays_of-h.ensures.0 c.loop-i-test.true in
    let g = going_left (left_suc n c.loop-i.i lt) c.loop-i.invariant.3 in
    let pl = (ready_first g.ready).plan in
    let mE = c.array_length-m.ensures c.args.frame.now.node pl in
    let fr = c.args.frame.now in
    let len = going_length g c.eval_part-r.new.new c.eval_part-r.auto.new (c.loop-i.invariant.1 ∙ ap (λ (l : List ℕ). length l) c.requires.0.same) in
    let h = part_moved c.args.file.now (consts_of c.args.tab.now) (callee_at c.args.file.now c.args.at) c.loop-i.i c.args.level c.loop-i.pos fr.node fr.first fr.cells.now fr.before.now c.eval_part-r.new.to (tail_all c.loop-i.used c.args.old.now) (part_named c.args.file.now (consts_of c.args.tab.now) c.loop-i.i c.args.level c.loop-i.pos fr.node fr.first fr.cells.now fr.before.now c.eval_part-r.new.to c.callee_at-callee.ensures c.eval_part-r.ensures) in
    let q = c.loop-i.q in
    let cE = c.cells_for-q.ensures ∙ cells_of_span pl c.array_length-m.result mE in
    let u = c.loop-i.used in
    let within = c.loop-i.invariant.3.within in
    let same = c.loop-i.invariant.1 ∙ ap (λ (l : List ℕ). length l) c.requires.0.same in
    let turned = going_turn g c.eval_part-r.new.to h len c.in-Values.is c.eval_part-r.auto.to in (
      omega (arith, lt),
      length_put u c.loop-i.new c.eval_part-r.new.new (omega (arith, within, same)) c.eval_part-r.auto.new ∙ c.loop-i.invariant.1,
      length_put (9 * q) c.loop-i.to c.eval_part-r.new.to (omega (arith, going_cells g)) c.eval_part-r.auto.to ∙ c.loop-i.invariant.2,
      subst (λ (j : ℕ). Goes c.args.file.now c.args.tab.now c.args.level c.args.at c.args.frame.now c.args.old.now (n - (c.loop-i.i + 1)) (c.loop-i.i + 1) c.eval_part-r.result.next (u + c.eval_part-r.result.used) (q + j) (put_tail (9 * q) c.loop-i.to c.eval_part-r.new.to) (put_tail u c.loop-i.new c.eval_part-r.new.new)) (sym cE) turned,
    )

pub eval_all-returns : goal.eval_all-returns
eval_all-returns t c =
    let n = arrays_count c.args.file.now c.args.at in
    let done : n ≤ c.loop-i.i = omega (arith, c.loop-i-test.false, c.arrays_of-h.ensures.0) in
    going_done (going_left (left_done n c.loop-i.i done) c.loop-i.invariant.3)

pub enter-bounds-file-at : goal.enter-bounds-file-at
enter-bounds-file-at t c = omega (arith, (call_at c.requires.0 c.requires.1 (get_or c.args.file.now (c.args.at + 1) 0) (get_or c.args.file.now (c.args.at + 2) 0) refl refl).inside)

pub enter-row-size-requires : goal.enter-row-size-requires
enter-row-size-requires t c =
    let p = c.requires.0 in
    (rows_room c.args.tab.now _ p.plan.program.table.long, call_small p c.requires.1 c.from-k.result (get_or c.args.file.now (c.args.at + 2) 0) c.from-k.ensures refl, omega arith)

pub enter-overflow_sub-level : goal.enter-overflow_sub-level
enter-overflow_sub-level t c = (call_at c.requires.0 c.requires.1 c.from-k.result (get_or c.args.file.now (c.args.at + 2) 0) c.from-k.ensures refl).deep

pub enter-slice_bounds-eval_all-count : goal.enter-slice_bounds-eval_all-count
enter-slice_bounds-eval_all-count t c = omega (arith, call_fits c.requires.0 c.requires.1 c.from-k.result (get_or c.args.file.now (c.args.at + 2) 0) c.from-k.ensures refl c.row-size.result c.row-size.ensures)

pub enter-slice_bounds-eval_all-start : goal.enter-slice_bounds-eval_all-start
enter-slice_bounds-eval_all-start t c = omega (arith, call_fits c.requires.0 c.requires.1 c.from-k.result (get_or c.args.file.now (c.args.at + 2) 0) c.from-k.ensures refl c.row-size.result c.row-size.ensures)

pub enter-slice_bounds-eval_all-count-2 : goal.enter-slice_bounds-eval_all-count-2
enter-slice_bounds-eval_all-count-2 t c = omega (arith, call_fits_new c.requires.0 c.requires.1 c.from-k.result (get_or c.args.file.now (c.args.at + 2) 0) c.from-k.ensures refl c.row-size.result c.row-size.ensures)

pub enter-slice_bounds-eval_all-start-2 : goal.enter-slice_bounds-eval_all-start-2
enter-slice_bounds-eval_all-start-2 t c = omega (arith, call_fits_new c.requires.0 c.requires.1 c.from-k.result (get_or c.args.file.now (c.args.at + 2) 0) c.from-k.ensures refl c.row-size.result c.row-size.ensures)

pub enter-eval_all-a-requires : goal.enter-eval_all-a-requires
enter-eval_all-a-requires t c =
    let p = c.requires.0 in
    let b = c.requires.1 in
    let k = c.from-k.result in
    let kE = c.from-k.ensures in
    let n = get_or c.args.file.now (c.args.at + 2) 0 in
    let deep = (call_at p b k n kE refl).deep in
    (omega arith, (call_parts p b k n kE refl c.row-size.result c.row-size.ensures, call_several p b k n kE refl (length c.args.args.now) (subst (λ (x : ℕ). 9 * callee_cells c.args.file.now x ≤ length c.args.args.now) (sym kE) c.requires.2)))

pub enter-overflow_add-used : goal.enter-overflow_add-used
enter-overflow_add-used t c =
    let n = get_or c.args.file.now (c.args.at + 2) 0 in
    let first = c.args.frame.now.first in
    omega (arith, call_used c.requires.0 c.requires.1 c.from-k.result n c.from-k.ensures refl first c.row-size.result c.row-size.ensures c.eval_all-a.new.to (call_all c.requires.0 c.requires.1 c.from-k.result n c.from-k.ensures refl first c.eval_all-a.new.to c.eval_all-a.ensures))

pub enter-slice_bounds-step_site-end : goal.enter-slice_bounds-step_site-end
enter-slice_bounds-step_site-end t c =
    let le = call_fits c.requires.0 c.requires.1 c.from-k.result (get_or c.args.file.now (c.args.at + 2) 0) c.from-k.ensures refl c.row-size.result c.row-size.ensures in
    sym (length-take-le c.row-size.result c.args.old.now (omega (arith, le)))

pub enter-slice_bounds-step_site-end-2 : goal.enter-slice_bounds-step_site-end-2
enter-slice_bounds-step_site-end-2 t c =
    let u = c.row-size.result in
    let le = call_fits_new c.requires.0 c.requires.1 c.from-k.result (get_or c.args.file.now (c.args.at + 2) 0) c.from-k.ensures refl u c.row-size.ensures in
    omega (arith, length_put u c.args.new.now c.eval_all-a.new.new le c.eval_all-a.auto.new, le)

pub enter-slice_bounds-step_site-end-3 : goal.enter-slice_bounds-step_site-end-3
enter-slice_bounds-step_site-end-3 t c =
    let u = c.row-size.result in
    let le = call_fits_new c.requires.0 c.requires.1 c.from-k.result (get_or c.args.file.now (c.args.at + 2) 0) c.from-k.ensures refl u c.row-size.ensures in
    sym (length-take-le u (put_tail u c.args.new.now c.eval_all-a.new.new) (omega (arith, length_put u c.args.new.now c.eval_all-a.new.new le c.eval_all-a.auto.new, le)))

pub enter-step_site-end-requires : goal.enter-step_site-end-requires
enter-step_site-end-requires t c =
    let p = c.requires.0 in
    let b = c.requires.1 in
    let k = c.from-k.result in
    let kE = c.from-k.ensures in
    let n = get_or c.args.file.now (c.args.at + 2) 0 in
    let lower = call_lower p b k n kE refl in
    (omega arith, call_steps p b k n kE refl c.row-size.result c.row-size.ensures c.eval_all-a.new.new (length c.eval_all-a.new.to) (subst (λ (x : ℕ). 9 * callee_cells c.args.file.now k ≤ x) (sym c.eval_all-a.auto.to) (subst (λ (x : ℕ). 9 * callee_cells c.args.file.now x ≤ length c.args.args.now) (sym kE) c.requires.2)))

pub enter-returns : goal.enter-returns
enter-returns t c =
    let n = get_or c.args.file.now (c.args.at + 2) 0 in
    let first = c.args.frame.now.first in
    call_done c.requires.0 c.requires.1 c.from-k.result n c.from-k.ensures refl first c.row-size.result c.row-size.ensures c.eval_all-a.new.to c.step_site-end.new.args (call_all c.requires.0 c.requires.1 c.from-k.result n c.from-k.ensures refl first c.eval_all-a.new.to c.eval_all-a.ensures) c.in-Values.is c.step_site-end.ensures

pub enter-returns-in_default : goal.enter-returns-in_default
enter-returns-in_default t c =
    let n = get_or c.args.file.now (c.args.at + 2) 0 in
    let first = c.args.frame.now.first in
    call_stop c.requires.0 c.requires.1 c.from-k.result n c.from-k.ensures refl first c.row-size.result c.row-size.ensures c.eval_all-a.new.to (call_all c.requires.0 c.requires.1 c.from-k.result n c.from-k.ensures refl first c.eval_all-a.new.to c.eval_all-a.ensures) c.in_default.not-Values

pub apply-step_site-end-requires : goal.apply-step_site-end-requires
apply-step_site-end-requires t c = (omega arith, iterated_steps c.requires.0 (length c.args.args.now) c.requires.1)

pub apply-returns : goal.apply-returns
apply-returns t c = iterated_applies c.requires.0 c.args.args.now c.step_site-end.new.args c.step_site-end.ensures c.single_out.ensures

pub map_from-loop-j-init : goal.map_from-loop-j-init
map_from-loop-j-init t c = (omega arith, refl, map_start (applied_in c.args.file.now (consts_of c.args.tab.now) c.args.k) (groups c.args.n c.args.c c.args.arrays.now) c.args.n)

pub map_from-gather-requires : goal.map_from-gather-requires
map_from-gather-requires t c =
    let h = c.requires.0 in
    let m = c.requires.1 in
    (omega (arith, h.running.program.table.long), iterated_small h, omega (arith, m.few), omega (arith, m.inputs, iterated_few h), c.loop-j-test.true, m.given, omega (arith, m.inputs, iterated_few h))

pub map_from-returns-in_default : goal.map_from-returns-in_default
map_from-returns-in_default t c =
    let f = applied_in c.args.file.now (consts_of c.args.tab.now) c.args.k in
    let G = groups c.args.n c.args.c c.args.arrays.now in
    let j = c.loop-j.j in
    let n = c.args.n in
    let w = c.loop-j.invariant.2 ∙ ap (λ (m : ℕ). cons_all (values_of j c.loop-j.to) (map_from f G j m)) (left_suc n j c.loop-j-test.true) in
    let A = c.apply-o.ensures (elements_at j G) (gathered c.requires.0 n c.args.c j c.args.arrays.now c.gather.new.args c.requires.1.inputs c.gather.ensures) in
    subst (λ (e : Ending). MapsTo (map_from f G 0 n) e (values_of n c.loop-j.to)) (sym c.end_of.ensures)
    (Iterating.map_stop f G (map_from f G 0 n) (values_of j c.loop-j.to) j (n - (j + 1)) c.apply-o.result (values_of n c.loop-j.to) w (sym A) c.in_default.not-Value)

pub map_from-loop-j-preserved : goal.map_from-loop-j-preserved
map_from-loop-j-preserved t c =
    let f = applied_in c.args.file.now (consts_of c.args.tab.now) c.args.k in
    let G = groups c.args.n c.args.c c.args.arrays.now in
    let j = c.loop-j.j in
    let n = c.args.n in
    let to = c.loop-j.to in
    let u = c.kept.result in
    let w = c.loop-j.invariant.2 ∙ ap (λ (m : ℕ). cons_all (values_of j to) (map_from f G j m)) (left_suc n j c.loop-j-test.true) in
    let A = c.apply-o.ensures (elements_at j G) (gathered c.requires.0 n c.args.c j c.args.arrays.now c.gather.new.args c.requires.1.inputs c.gather.ensures) in
    let room : 9 * j + 9 ≤ length to = omega (arith, c.loop-j-test.true, c.requires.1.taken, c.loop-j.invariant.1) in
    let V : values_of (j + 1) c.write_cell.new.out ≡ values_of j to ++ u ∷ [] = ap (values_of (j + 1)) c.write_cell.ensures ∙ values_next j to u room (kept_back u c.in-Value.v c.kept.ensures.0 c.kept.ensures.1) in
    let one : suc j ≡ j + 1 = omega arith in (
      omega (arith, c.loop-j-test.true),
      c.write_cell.auto.out ∙ c.loop-j.invariant.1,
      map_turn f G (map_from f G 0 n) (values_of j to) j (n - (j + 1)) u w (sym A ∙ c.in-Value.is ∙ ap Out.Value (sym c.kept.ensures.0)) ∙ (λ i. cons_all (sym V i) (map_from f G (one i) (n - (j + 1)))),
    )

pub map_from-returns : goal.map_from-returns
map_from-returns t c =
    let f = applied_in c.args.file.now (consts_of c.args.tab.now) c.args.k in
    let G = groups c.args.n c.args.c c.args.arrays.now in
    let j = c.loop-j.j in
    let n = c.args.n in
    let e : j ≡ n = omega (arith, c.loop-j-test.false, c.loop-j.invariant.0) in
    subst (λ (m : ℕ). MapsTo (map_from f G 0 n) End.Values (values_of m c.loop-j.to)) e
    (Iterating.map_done f G (map_from f G 0 n) (values_of j c.loop-j.to) j (c.loop-j.invariant.2 ∙ ap (λ (m : ℕ). cons_all (values_of j c.loop-j.to) (map_from f G j m)) (left_done n j c.loop-j-test.false)))

pub fold_from-loop-j-preserved : goal.fold_from-loop-j-preserved
fold_from-loop-j-preserved t c =
    let f = applied_in c.args.file.now (consts_of c.args.tab.now) c.args.k in
    let v = c.in-Value.v in
    let w = c.read_cell.result in
    let E = two_given c.requires.0 v w c.passed.result c.passed-in-loop-j.result _ c.write_cell.new.out c.write_cell-in-loop-j.new.out c.requires.1 (omega (arith, c.write_cell.auto.out)) c.passed.ensures.0 c.passed.ensures.1 c.write_cell.ensures c.passed-in-loop-j.ensures.0 c.passed-in-loop-j.ensures.1 c.write_cell-in-loop-j.ensures in
    let A = c.apply-out.ensures (v ∷ w ∷ []) E in (
      omega (arith, c.loop-j-test.true),
      fold_turn f (then_out (λ r. fold_from f r (values_of c.args.n c.args.array.now)) c.args.seed) c.loop-j.out c.apply-out.result v c.args.n c.loop-j.j c.args.array.now c.loop-j.invariant.1 c.in-Value.is c.loop-j-test.true (A ∙ ap (λ (x : Value). f (v ∷ x ∷ [])) c.read_cell.ensures),
    )

pub fold_from-returns : goal.fold_from-returns
fold_from-returns t c =
    let f = applied_in c.args.file.now (consts_of c.args.tab.now) c.args.k in
    c.same_out-2.ensures ∙ Iterating.fold_done f (then_out (λ r. fold_from f r (values_of c.args.n c.args.array.now)) c.args.seed) c.loop-j.out c.args.n c.loop-j.j c.args.array.now c.loop-j.invariant.1 c.loop-j-test.false

pub eval_map-eval_all-a-requires : goal.eval_map-eval_all-a-requires
eval_map-eval_all-a-requires t c =
    let p = c.requires.0 in
    let b = c.requires.2 in
    let z = eqb-true _ 0 c.requires.3 in
    let deep = ready_deep p in
    (omega arith, (map_ready p b z, map_several p b z (length c.args.work.now) c.requires.4))

pub eval_map-map_from-requires : goal.eval_map-map_from-requires
eval_map-map_from-requires t c =
    let p = c.requires.0 in
    let b = c.requires.2 in
    let z = eqb-true _ 0 c.requires.3 in
    let lower = plan_map c.args.file.now p.plan b z in
    (omega arith, map_mapped p b z c.array_length-n.result c.from-k.result c.from-c.result c.eval_all-a.new.to c.args.to.now (c.array_length-n.ensures c.args.frame.now.node (map_first_plan p b z)) c.from-k.ensures c.from-c.ensures (subst (λ (x : ℕ). 9 * work_cells c.args.file.now c.args.frame.now.node c.args.level c.args.at ≤ x) (sym c.eval_all-a.auto.to) c.requires.4) (works_room c.args.file.now c.args.at _ b c.requires.1.given))

pub eval_map-array_length-n-requires : goal.eval_map-array_length-n-requires
eval_map-array_length-n-requires t c = record { node = c.args.frame.now.node; plan = map_first_plan c.requires.0 c.requires.2 (eqb-true _ 0 c.requires.3) }

pub eval_map-returns : goal.eval_map-returns
eval_map-returns t c =
    let p = c.requires.0 in
    let b = c.requires.2 in
    let z = eqb-true _ 0 c.requires.3 in
    map_ends p b z c.args.frame.now.first c.eval_all-a.new.to c.map_from.new.to c.array_length-n.result c.from-k.result c.from-c.result (c.array_length-n.ensures c.args.frame.now.node (map_first_plan p b z)) c.from-k.ensures c.from-c.ensures c.eval_all-a.ensures c.in-Values.is c.map_from.ensures

pub eval_map-returns-in_default : goal.eval_map-returns-in_default
eval_map-returns-in_default t c =
    Working.map_stop c.requires.0 c.requires.2 (eqb-true _ 0 c.requires.3) c.args.frame.now.first c.eval_all-a.new.to c.args.to.now c.eval_all-a.ensures c.in_default.not-Values

pub eval_map-overflow_sub-level : goal.eval_map-overflow_sub-level
eval_map-overflow_sub-level t c = ready_deep c.requires.0

pub eval_map-bounds-file-at : goal.eval_map-bounds-file-at
eval_map-bounds-file-at t c = omega (arith, iterator_far c.args.file.now c.args.level c.args.at (plan_head c.args.file.now c.requires.0.plan) c.requires.2)

pub eval_map-bounds-file-at-2 : goal.eval_map-bounds-file-at-2
eval_map-bounds-file-at-2 t c = omega (arith, iterator_far c.args.file.now c.args.level c.args.at (plan_head c.args.file.now c.requires.0.plan) c.requires.2)

pub eval_map-overflow_sub-level-2 : goal.eval_map-overflow_sub-level-2
eval_map-overflow_sub-level-2 t c = ready_deep c.requires.0

pub eval_fold-pass-s-requires : goal.eval_fold-pass-s-requires
eval_fold-pass-s-requires t c =
    let p = c.requires.0 in
    let z = fold_kind c.args.file.now c.args.level c.args.at (plan_head c.args.file.now p.plan) c.requires.2 c.requires.3 in
    (ready_pass (ready_first (fold_ready p c.requires.2 z)), rows_room c.args.tab.now _ p.plan.program.table.long)

pub eval_fold-overflow_sub-level : goal.eval_fold-overflow_sub-level
eval_fold-overflow_sub-level t c = ready_deep c.requires.0

pub eval_fold-eval_all-a-requires : goal.eval_fold-eval_all-a-requires
eval_fold-eval_all-a-requires t c =
    let p = c.requires.0 in
    let b = c.requires.2 in
    let z = fold_kind c.args.file.now c.args.level c.args.at (plan_head c.args.file.now p.plan) b c.requires.3 in
    let deep = ready_deep p in
    let s = skip_one c.args.file.now (c.args.level - 1) (c.args.at + 4) (ready_first (fold_ready p b z)).plan.reads c.pass-s.ensures in
    (omega arith, (fold_arrays p b z c.pass-s.result.used s.used_is, fold_several p b z (length c.args.work.now) c.requires.4))

pub eval_fold-eval-seed-requires : goal.eval_fold-eval-seed-requires
eval_fold-eval-seed-requires t c =
    let p = c.requires.0 in
    let b = c.requires.2 in
    let z = fold_kind c.args.file.now c.args.level c.args.at (plan_head c.args.file.now p.plan) b c.requires.3 in
    let deep = ready_deep p in
    let s = skip_one c.args.file.now (c.args.level - 1) (c.args.at + 4) (ready_first (fold_ready p b z)).plan.reads c.pass-s.ensures in
    (omega arith, (ready_front c.pass-s.result.used c.eval_all-a.new.new (fold_ready p b z) s.used_is, seed_scalar p b z))

pub eval_fold-array_length-n-requires : goal.eval_fold-array_length-n-requires
eval_fold-array_length-n-requires t c =
    let p = c.requires.0 in
    let b = c.requires.2 in
    let z = fold_kind c.args.file.now c.args.level c.args.at (plan_head c.args.file.now p.plan) b c.requires.3 in
    let s = skip_one c.args.file.now (c.args.level - 1) (c.args.at + 4) (ready_first (fold_ready p b z)).plan.reads c.pass-s.ensures in
    record { node = c.args.frame.now.node; plan = subst (λ (x : ℕ). Plan c.args.file.now (tab_of c.args.tab.now) (rows_of c.args.tab.now) (consts_of c.args.tab.now) c.args.frame.now.node (c.args.level - 1) 1 x) (sym s.next_is) (fold_first_plan p b z) }

pub eval_fold-fold_from-requires : goal.eval_fold-fold_from-requires
eval_fold-fold_from-requires t c =
    let p = c.requires.0 in
    let b = c.requires.2 in
    let f = c.args.file.now in
    let node = c.args.frame.now.node in
    let z = fold_kind f c.args.level c.args.at (plan_head f p.plan) b c.requires.3 in
    let s = skip_one f (c.args.level - 1) (c.args.at + 4) (ready_first (fold_ready p b z)).plan.reads c.pass-s.ensures in
    let at = subst (λ (x : ℕ). Plan f (tab_of c.args.tab.now) (rows_of c.args.tab.now) (consts_of c.args.tab.now) node (c.args.level - 1) 1 x) (sym s.next_is) (fold_first_plan p b z) in
    let nE = c.array_length-n.ensures node at ∙ ap (λ (x : ℕ). span_in f node (expr_at f (c.args.level - 1) x)) s.next_is in
    let it = fold_iterated p b z in
    let lower = plan_fold f p.plan b z in
    let r = fold_room p b z c.array_length-n.result c.eval_all-a.new.to nE (subst (λ (x : ℕ). 9 * work_cells f node c.args.level c.args.at ≤ x) (sym c.eval_all-a.auto.to) c.requires.4) in
    (omega arith, (subst (λ (x : ℕ). Iterated f (tab_of c.args.tab.now) (rows_of c.args.tab.now) (consts_of c.args.tab.now) x) (sym c.from-k.ensures) it.0, ap (λ (x : ℕ). length (node_in f x).inputs) c.from-k.ensures ∙ sym it.1, r.0, r.1))

pub eval_fold-returns-in_default : goal.eval_fold-returns-in_default
eval_fold-returns-in_default t c =
    let p = c.requires.0 in
    let b = c.requires.2 in
    let z = fold_kind c.args.file.now c.args.level c.args.at (plan_head c.args.file.now p.plan) b c.requires.3 in
    let s = skip_one c.args.file.now (c.args.level - 1) (c.args.at + 4) (ready_first (fold_ready p b z)).plan.reads c.pass-s.ensures in
    Working.fold_stop p b z c.args.frame.now.first c.pass-s.result.used s.used_is c.eval_all-a.new.to c.args.to.now c.eval_all-a.ensures c.in_default.not-Values

pub eval_fold-returns : goal.eval_fold-returns
eval_fold-returns t c =
    let p = c.requires.0 in
    let b = c.requires.2 in
    let f = c.args.file.now in
    let node = c.args.frame.now.node in
    let z = fold_kind f c.args.level c.args.at (plan_head f p.plan) b c.requires.3 in
    let s = skip_one f (c.args.level - 1) (c.args.at + 4) (ready_first (fold_ready p b z)).plan.reads c.pass-s.ensures in
    let at = subst (λ (x : ℕ). Plan f (tab_of c.args.tab.now) (rows_of c.args.tab.now) (consts_of c.args.tab.now) node (c.args.level - 1) 1 x) (sym s.next_is) (fold_first_plan p b z) in
    let nE = c.array_length-n.ensures node at ∙ ap (λ (x : ℕ). span_in f node (expr_at f (c.args.level - 1) x)) s.next_is in
    fold_ends p b z c.args.frame.now.first c.pass-s.result.used c.from-k.result c.array_length-n.result s.used_is c.from-k.ensures nE c.eval_all-a.new.to c.args.to.now c.put_part.new.to c.eval_all-a.ensures c.in-Values.is c.eval-seed.ensures c.fold_from.ensures c.put_part.ensures.0 c.put_part.ensures.1

pub eval_fold-overflow_sub-level-2 : goal.eval_fold-overflow_sub-level-2
eval_fold-overflow_sub-level-2 t c = ready_deep c.requires.0

pub eval_fold-overflow_sub-level-3 : goal.eval_fold-overflow_sub-level-3
eval_fold-overflow_sub-level-3 t c = ready_deep c.requires.0

pub eval_fold-overflow_sub-level-4 : goal.eval_fold-overflow_sub-level-4
eval_fold-overflow_sub-level-4 t c = ready_deep c.requires.0

pub eval_fold-slice_bounds-eval_all-count : goal.eval_fold-slice_bounds-eval_all-count
eval_fold-slice_bounds-eval_all-count t c =
    let p = c.requires.0 in
    let b = c.requires.2 in
    let z = fold_kind c.args.file.now c.args.level c.args.at (plan_head c.args.file.now p.plan) b c.requires.3 in
    let s = skip_one c.args.file.now (c.args.level - 1) (c.args.at + 4) (ready_first (fold_ready p b z)).plan.reads c.pass-s.ensures in
    let u = c.pass-s.result.used in
    let le : u ≤ length c.args.old.now = omega (arith, s.used_is, fold_bytes p b z) in
    omega (arith, le)

pub eval_fold-slice_bounds-eval_all-start : goal.eval_fold-slice_bounds-eval_all-start
eval_fold-slice_bounds-eval_all-start t c =
    let p = c.requires.0 in
    let b = c.requires.2 in
    let z = fold_kind c.args.file.now c.args.level c.args.at (plan_head c.args.file.now p.plan) b c.requires.3 in
    let s = skip_one c.args.file.now (c.args.level - 1) (c.args.at + 4) (ready_first (fold_ready p b z)).plan.reads c.pass-s.ensures in
    let u = c.pass-s.result.used in
    let le : u ≤ length c.args.old.now = omega (arith, s.used_is, fold_bytes p b z) in
    omega (arith, le)

pub eval_fold-slice_bounds-eval_all-count-2 : goal.eval_fold-slice_bounds-eval_all-count-2
eval_fold-slice_bounds-eval_all-count-2 t c =
    let p = c.requires.0 in
    let b = c.requires.2 in
    let z = fold_kind c.args.file.now c.args.level c.args.at (plan_head c.args.file.now p.plan) b c.requires.3 in
    let s = skip_one c.args.file.now (c.args.level - 1) (c.args.at + 4) (ready_first (fold_ready p b z)).plan.reads c.pass-s.ensures in
    let u = c.pass-s.result.used in
    let le : u ≤ length c.args.old.now = omega (arith, s.used_is, fold_bytes p b z) in
    let len : u ≤ length c.args.new.now = omega (arith, le, ap (λ (l : List ℕ). length l) p.same) in
    omega (arith, len)

pub eval_fold-slice_bounds-eval_all-start-2 : goal.eval_fold-slice_bounds-eval_all-start-2
eval_fold-slice_bounds-eval_all-start-2 t c =
    let p = c.requires.0 in
    let b = c.requires.2 in
    let z = fold_kind c.args.file.now c.args.level c.args.at (plan_head c.args.file.now p.plan) b c.requires.3 in
    let s = skip_one c.args.file.now (c.args.level - 1) (c.args.at + 4) (ready_first (fold_ready p b z)).plan.reads c.pass-s.ensures in
    let u = c.pass-s.result.used in
    let le : u ≤ length c.args.old.now = omega (arith, s.used_is, fold_bytes p b z) in
    let len : u ≤ length c.args.new.now = omega (arith, le, ap (λ (l : List ℕ). length l) p.same) in
    omega (arith, len)

pub eval_fold-overflow_add-used : goal.eval_fold-overflow_add-used
eval_fold-overflow_add-used t c =
    let p = c.requires.0 in
    let b = c.requires.2 in
    let z = fold_kind c.args.file.now c.args.level c.args.at (plan_head c.args.file.now p.plan) b c.requires.3 in
    let s = skip_one c.args.file.now (c.args.level - 1) (c.args.at + 4) (ready_first (fold_ready p b z)).plan.reads c.pass-s.ensures in
    let u = c.pass-s.result.used in
    let le : u ≤ length c.args.old.now = omega (arith, s.used_is, fold_bytes p b z) in
    let w = Working.fold_used p b z c.args.frame.now.first u c.eval_all-a.new.to c.eval_all-a.ensures in
    omega (arith, w, s.used_is, fold_bytes p b z, p.small)

pub eval_fold-bounds-file-at : goal.eval_fold-bounds-file-at
eval_fold-bounds-file-at t c =
    omega (arith, iterator_far c.args.file.now c.args.level c.args.at (plan_head c.args.file.now c.requires.0.plan) c.requires.2)

pub eval_fold-slice_bounds-eval-end : goal.eval_fold-slice_bounds-eval-end
eval_fold-slice_bounds-eval-end t c =
    let p = c.requires.0 in
    let b = c.requires.2 in
    let z = fold_kind c.args.file.now c.args.level c.args.at (plan_head c.args.file.now p.plan) b c.requires.3 in
    let s = skip_one c.args.file.now (c.args.level - 1) (c.args.at + 4) (ready_first (fold_ready p b z)).plan.reads c.pass-s.ensures in
    let u = c.pass-s.result.used in
    let le : u ≤ length c.args.old.now = omega (arith, s.used_is, fold_bytes p b z) in
    sym (length-take-le u c.args.old.now le)

pub eval_fold-slice_bounds-eval-end-2 : goal.eval_fold-slice_bounds-eval-end-2
eval_fold-slice_bounds-eval-end-2 t c =
    let p = c.requires.0 in
    let b = c.requires.2 in
    let z = fold_kind c.args.file.now c.args.level c.args.at (plan_head c.args.file.now p.plan) b c.requires.3 in
    let s = skip_one c.args.file.now (c.args.level - 1) (c.args.at + 4) (ready_first (fold_ready p b z)).plan.reads c.pass-s.ensures in
    let u = c.pass-s.result.used in
    let le : u ≤ length c.args.old.now = omega (arith, s.used_is, fold_bytes p b z) in
    let len : u ≤ length c.args.new.now = omega (arith, le, ap (λ (l : List ℕ). length l) p.same) in
    omega (arith, length_put u c.args.new.now c.eval_all-a.new.new len c.eval_all-a.auto.new, len)

pub eval_fold-slice_bounds-eval-end-3 : goal.eval_fold-slice_bounds-eval-end-3
eval_fold-slice_bounds-eval-end-3 t c =
    let p = c.requires.0 in
    let b = c.requires.2 in
    let z = fold_kind c.args.file.now c.args.level c.args.at (plan_head c.args.file.now p.plan) b c.requires.3 in
    let s = skip_one c.args.file.now (c.args.level - 1) (c.args.at + 4) (ready_first (fold_ready p b z)).plan.reads c.pass-s.ensures in
    let u = c.pass-s.result.used in
    let le : u ≤ length c.args.old.now = omega (arith, s.used_is, fold_bytes p b z) in
    let len : u ≤ length c.args.new.now = omega (arith, le, ap (λ (l : List ℕ). length l) p.same) in
    sym (length-take-le u (put_tail u c.args.new.now c.eval_all-a.new.new) (omega (arith, length_put u c.args.new.now c.eval_all-a.new.new len c.eval_all-a.auto.new, len)))

pub eval_fold-put_part-requires : goal.eval_fold-put_part-requires
eval_fold-put_part-requires t c =
    let p = c.requires.0 in
    let b = c.requires.2 in
    let z = fold_kind c.args.file.now c.args.level c.args.at (plan_head c.args.file.now p.plan) b c.requires.3 in
    let s = skip_one c.args.file.now (c.args.level - 1) (c.args.at + 4) (ready_first (fold_ready p b z)).plan.reads c.pass-s.ensures in
    let u = c.pass-s.result.used in
    let le : u ≤ length c.args.old.now = omega (arith, s.used_is, fold_bytes p b z) in
    let r = works_room c.args.file.now c.args.at _ b c.requires.1.given in
    (omega (arith, p.plan.program.table.long), tt, omega arith, omega (arith, r, fold_long p b z))

pub work_in-is_map-requires : goal.work_in-is_map-requires
work_in-is_map-requires t c =
    let p = c.requires.0 in
    let b = iterator_code c.args.file.now c.args.at c.requires.1.form (eqb-false _ 11 (sym c.is_at.ensures ∙ c.if-is_at.false)) in
    omega (arith, iterator_far c.args.file.now c.args.level c.args.at (plan_head c.args.file.now p.plan) b)

pub work_in-enter-r-requires : goal.work_in-enter-r-requires
work_in-enter-r-requires t c =
    let b = eqb-true _ 11 (sym c.is_at.ensures ∙ c.if-is_at.true) in
    (omega arith, (c.requires.0, b, work_call_room c.args.file.now c.args.frame.now.node c.args.level c.args.at (length c.args.work.now) b c.requires.2))

pub work_in-eval_map-requires : goal.work_in-eval_map-requires
work_in-eval_map-requires t c =
    let b = iterator_code c.args.file.now c.args.at c.requires.1.form (eqb-false _ 11 (sym c.is_at.ensures ∙ c.if-is_at.false)) in
    (omega arith, (c.requires.0, c.requires.1, b, sym c.is_map.ensures ∙ c.if-is_map.true, c.requires.2))

pub work_in-eval_fold-requires : goal.work_in-eval_fold-requires
work_in-eval_fold-requires t c =
    let b = iterator_code c.args.file.now c.args.at c.requires.1.form (eqb-false _ 11 (sym c.is_at.ensures ∙ c.if-is_at.false)) in
    (omega arith, (c.requires.0, c.requires.1, b, sym c.is_map.ensures ∙ c.if-is_map.false, c.requires.2))

pub work_in-returns-then-is_at : goal.work_in-returns-then-is_at
work_in-returns-then-is_at t c =
    let fr = c.args.frame.now in
    let b = eqb-true _ 11 (sym c.is_at.ensures ∙ c.if-is_at.true) in
    let room = work_call_room c.args.file.now fr.node c.args.level c.args.at (length c.args.work.now) b c.requires.2 in
    work_call c.args.file.now (consts_of c.args.tab.now) c.args.level c.args.at fr.node fr.first fr.cells.now fr.before.now c.enter-r.new.args c.args.to.now c.copy.new.to b (subst (λ (x : ℕ). 9 * callee_cells c.args.file.now (get_or c.args.file.now (c.args.at + 1) 0) ≤ x) (sym c.enter-r.auto.args) room) c.copy.auto.to c.copy.ensures c.enter-r.ensures

pub work_in-returns-then-is_map : goal.work_in-returns-then-is_map
work_in-returns-then-is_map t c =
    let fr = c.args.frame.now in
    let b = iterator_code c.args.file.now c.args.at c.requires.1.form (eqb-false _ 11 (sym c.is_at.ensures ∙ c.if-is_at.false)) in
    work_iterated c.args.file.now (consts_of c.args.tab.now) c.args.level c.args.at fr.node fr.first fr.cells.now fr.before.now c.eval_map.new.to b (plan_head c.args.file.now c.requires.0.plan) c.eval_map.ensures

pub work_in-returns-else-is_map : goal.work_in-returns-else-is_map
work_in-returns-else-is_map t c =
    let fr = c.args.frame.now in
    let b = iterator_code c.args.file.now c.args.at c.requires.1.form (eqb-false _ 11 (sym c.is_at.ensures ∙ c.if-is_at.false)) in
    work_iterated c.args.file.now (consts_of c.args.tab.now) c.args.level c.args.at fr.node fr.first fr.cells.now fr.before.now c.eval_fold.new.to b (plan_head c.args.file.now c.requires.0.plan) c.eval_fold.ensures

pub eval_work-work_1024-requires : goal.eval_work-work_1024-requires
eval_work-work_1024-requires t c = (omega arith, (c.requires.0, c.requires.1, work_most c.requires.0 c.requires.1.form))

pub equation-bounds-file-at : goal.equation-bounds-file-at
equation-bounds-file-at t c = omega (arith, names_inside c.requires (get_or c.args.file.now c.args.at 0) refl)

pub equation-overflow_add-rhs : goal.equation-overflow_add-rhs
equation-overflow_add-rhs t c = omega (arith, names_inside c.requires c.from-n.result c.from-n.ensures)

pub equation-overflow_add-rhs-2 : goal.equation-overflow_add-rhs-2
equation-overflow_add-rhs-2 t c = omega (arith, names_inside c.requires c.from-n.result c.from-n.ensures)

-- where the right side stands
module _ (t : ℕ) (c : equation-After-is_scalar t) where
  abbrev rhs_at : ℕ
  rhs_at = c.args.at + 1 + 2 * c.from-n.result

  rhs_there : rhs_at ≡ rhs_in c.args.file.now c.args.frame.now.node c.args.i
  rhs_there = right_place c.requires c.from-n.result c.from-n.ensures

  rhs_scalar : c.is_scalar.result ≡ scalar_rhs c.args.file.now c.args.frame.now.node rhs_at
  rhs_scalar = c.is_scalar.ensures c.args.frame.now.node (equation_ready c.requires rhs_at rhs_there).plan

pub equation-eval-r-requires : goal.equation-eval-r-requires
equation-eval-r-requires t c =
    let d = (goal.at.equation-eval-r-requires t c).After-is_scalar in
    (omega arith, (equation_ready c.requires (rhs_at t d) (rhs_there t d), right_scalar c.requires (rhs_at t d) (rhs_there t d) (sym (rhs_scalar t d) ∙ c.if-is_scalar.true)))

pub equation-overflow_add-at : goal.equation-overflow_add-at
equation-overflow_add-at t c = omega (arith, names_inside c.requires c.from-n.result c.from-n.ensures)

pub equation-bind_out-requires : goal.equation-bind_out-requires
equation-bind_out-requires t c = first_storable c.requires

pub equation-equation_1024-requires : goal.equation-equation_1024-requires
equation-equation_1024-requires t c =
    let d = (goal.at.equation-equation_1024-requires t c).After-is_scalar in
    (omega arith, (c.requires, ap (scalar_rhs c.args.file.now c.args.frame.now.node) (sym (rhs_there t d)) ∙ sym (rhs_scalar t d) ∙ c.if-is_scalar.false, few_equation_cells c.requires))

pub equation-returns-then-is_scalar : goal.equation-returns-then-is_scalar
equation-returns-then-is_scalar t c =
    let d = (goal.at.equation-returns-then-is_scalar t c).After-is_scalar in
    (one_done c.requires (rhs_at t d) (rhs_there t d) c.args.frame.now.first c.bind_out.result c.bind_out.new.self.cells.now (sym (rhs_scalar t d) ∙ c.if-is_scalar.true) c.eval-r.ensures c.bind_out.ensures.0 c.bind_out.ensures.1, c.bind_out.ensures.2)

pub equation_in-bounds-file-at : goal.equation_in-bounds-file-at
equation_in-bounds-file-at t c = omega (arith, names_inside c.requires.0 (get_or c.args.file.now c.args.at 0) refl)

pub equation_in-overflow_add-rhs : goal.equation_in-overflow_add-rhs
equation_in-overflow_add-rhs t c = omega (arith, names_inside c.requires.0 c.from-n.result c.from-n.ensures)

pub equation_in-overflow_add-rhs-2 : goal.equation_in-overflow_add-rhs-2
equation_in-overflow_add-rhs-2 t c = omega (arith, names_inside c.requires.0 c.from-n.result c.from-n.ensures)

pub equation_in-at-requires : goal.equation_in-at-requires
equation_in-at-requires t c = (names_inside c.requires.0 c.from-n.result c.from-n.ensures).0

-- where the right side stands, and that it is no scalar
module _ (t : ℕ) (c : equation_in-After-from-n t) where
  abbrev right_at : ℕ
  right_at = c.args.at + 1 + 2 * c.from-n.result

  right_there : right_at ≡ rhs_in c.args.file.now c.args.frame.now.node c.args.i
  right_there = right_place c.requires.0 c.from-n.result c.from-n.ensures

  right_array : scalar_rhs c.args.file.now c.args.frame.now.node right_at ≡ false
  right_array = ap (scalar_rhs c.args.file.now c.args.frame.now.node) right_there ∙ c.requires.1

pub equation_in-enter-r-requires : goal.equation_in-enter-r-requires
equation_in-enter-r-requires t c =
    let d = (goal.at.equation_in-enter-r-requires t c).After-from-n in
    let q = equation_ready c.requires.0 (right_at t d) (right_there t d) in
    let code = plan_form c.args.file.now q.plan Frm.Call c.at.ensures c.in-Call.is in
    (omega arith, (q, code, work_fits c.requires.0 (right_at t d) (right_there t d) (length c.args.work.now) code c.requires.2))

pub equation_in-eval_all-r-requires : goal.equation_in-eval_all-r-requires
equation_in-eval_all-r-requires t c =
    let d = (goal.at.equation_in-eval_all-r-requires t c).After-from-n in
    let code = plan_form c.args.file.now (equation_ready c.requires.0 (right_at t d) (right_there t d)).plan Frm.Tuple c.at.ensures c.in-Tuple.is in
    (omega arith, (tuple_ready c.requires.0 (right_at t d) (right_there t d) code, tuple_several c.requires.0 (right_at t d) (right_there t d) (length c.args.work.now) code c.requires.2))

pub equation_in-eval_array-r-requires : goal.equation_in-eval_array-r-requires
equation_in-eval_array-r-requires t c =
    let d = (goal.at.equation_in-eval_array-r-requires t c).After-from-n in
    let room = array_fits c.requires.0 (right_at t d) (right_there t d) (length c.args.work.now) (right_array t d) (λ e. c.in_default.not-Call (form_is Frm.Call c.at.ensures e)) (λ e. c.in_default.not-Tuple (form_is Frm.Tuple c.at.ensures e)) c.requires.2 in
    (omega arith, (equation_ready c.requires.0 (right_at t d) (right_there t d), room.0, room.1))

pub equation_in-returns-in_default-out : goal.equation_in-returns-in_default-out
equation_in-returns-in_default-out t c =
    let n = c.from-n.result in
    let rhs = c.args.at + 1 + 2 * n in
    let p = c.requires.0 in
    let e = right_place p n c.from-n.ensures in
    let F = c.args.frame.now.first in
    let P = Ran p rhs e F in
    let form = plan_form c.args.file.now (equation_ready p rhs e).plan in
    let ran : Ran p rhs e F c.match-at.r.out c.match-at.work c.match-at.new =
    elim c.match-at.branch [
      | equation_in-in-Call w ↦ ran_as P w.r-is w.work-is w.new-is (call_ran p rhs e F w.enter-r.new.args (form Frm.Call c.at.ensures w.in-Call.is) w.enter-r.ensures)
      | equation_in-in-Tuple w ↦ ran_as P w.r-is w.work-is w.new-is (tuple_ran p rhs e F w.eval_all-r.new.to (form Frm.Tuple c.at.ensures w.in-Tuple.is) w.eval_all-r.ensures)
      | equation_in-in_default w ↦
          ran_as P w.r-is w.work-is w.new-is
          (array_ran p rhs e F w.eval_array-r.new.to (ap (scalar_rhs c.args.file.now c.args.frame.now.node) e ∙ c.requires.1) (λ f. w.in_default.not-Call (form_is Frm.Call c.at.ensures f)) (λ f. w.in_default.not-Tuple (form_is Frm.Tuple c.at.ensures f)) w.eval_array-r.ensures)
    ] in
    (ran_stops p rhs e F c.match-at.r.out c.match-at.work c.args.frame.now.cells.now c.match-at.new ran c.in_default-out.not-Values, keeps_all c.args.frame.now)

pub equation_in-overflow_add-at : goal.equation_in-overflow_add-at
equation_in-overflow_add-at t c = omega (arith, names_inside c.requires.0 c.from-n.result c.from-n.ensures)

pub equation_in-bind-requires : goal.equation_in-bind-requires
equation_in-bind-requires t c = assignable c.requires.0 c.from-n.result c.match-at.work c.from-n.ensures (omega (arith, c.requires.2, c.match-at.auto.work))

pub equation_in-returns : goal.equation_in-returns
equation_in-returns t c =
    let n = c.from-n.result in
    let rhs = c.args.at + 1 + 2 * n in
    let p = c.requires.0 in
    let e = right_place p n c.from-n.ensures in
    let F = c.args.frame.now.first in
    let P = Ran p rhs e F in
    let form = plan_form c.args.file.now (equation_ready p rhs e).plan in
    let ran : Ran p rhs e F c.match-at.r.out c.match-at.work c.match-at.new =
    elim c.match-at.branch [
      | equation_in-in-Call w ↦ ran_as P w.r-is w.work-is w.new-is (call_ran p rhs e F w.enter-r.new.args (form Frm.Call c.at.ensures w.in-Call.is) w.enter-r.ensures)
      | equation_in-in-Tuple w ↦ ran_as P w.r-is w.work-is w.new-is (tuple_ran p rhs e F w.eval_all-r.new.to (form Frm.Tuple c.at.ensures w.in-Tuple.is) w.eval_all-r.ensures)
      | equation_in-in_default w ↦
          ran_as P w.r-is w.work-is w.new-is
          (array_ran p rhs e F w.eval_array-r.new.to (ap (scalar_rhs c.args.file.now c.args.frame.now.node) e ∙ c.requires.1) (λ f. w.in_default.not-Call (form_is Frm.Call c.at.ensures f)) (λ f. w.in_default.not-Tuple (form_is Frm.Tuple c.at.ensures f)) w.eval_array-r.ensures)
    ] in
    (ran_done p rhs e F c.match-at.r.out n c.match-at.work c.bind.new.self.cells.now c.match-at.new c.from-n.ensures ran c.in-Values.is c.bind.ensures.0, c.bind.ensures.1)

pub run-row-n-requires : goal.run-row-n-requires
run-row-n-requires t c =
    let p = c.requires in
    let tb = c.args.tab.now in
    let r = p.running in
    (rows_room tb _ r.program.table.long, omega (arith, p.below, r.program.sized.few), omega arith)

pub run-plan_of-plan-requires : goal.run-plan_of-plan-requires
run-plan_of-plan-requires t c =
    let p = c.requires in
    let tb = c.args.tab.now in
    let r = p.running in
    (omega (arith, length-drop 1394 tb, r.program.table.long), omega (arith, p.below, r.program.sized.few))

pub run-loop-j-init : goal.run-loop-j-init
run-loop-j-init t c =
    let p = c.requires in
    let fr = c.args.frame.now in
    let F = fr.first in
    (omega arith, keeps_all fr, refl, run_start F p)

-- a turn of the loop over the equations: the next one, i, stands at `at`, and its records from a up to b
module _ (t : ℕ) (c : run-After-records_at-b t) where
  turn_left : on (LeftIn c.args.file.now (consts_of c.args.tab.now)) c.args.frame.now c.args.old.now (c.order_at-i.result ∷ drop (c.loop-j.j + 1) (order (node_in c.args.file.now c.args.frame.now.node).equations)) c.loop-j.frame.cells.now c.loop-j.new
  turn_left =
      let p = c.requires in
      let fr = c.args.frame.now in
      let n = c.row-n.ensures ∙ (p.running.program.sized.table.rows_of fr.node p.below).count in
      run_next c.args.file.now (consts_of c.args.tab.now) fr.node fr.first fr.cells.now fr.before.now c.args.old.now c.loop-j.frame.cells.now c.loop-j.new c.order_at-i.result c.loop-j.j c.loop-j.invariant.3
      (omega (arith, c.loop-j-test.true, n, (p.running.nodes fr.node p.below).all))
      (c.order_at-i.ensures.0 ∙ (p.running.program.table.tabs_of fr.node p.below).orders c.loop-j.j (omega (arith, c.loop-j-test.true, n)))

  turn_place : EquationIs c.args.file.now c.args.frame.now.node c.order_at-i.result c.place_at-at.result c.records_at-a.result c.records_at-b.result
  turn_place =
      let p = c.requires in
      equation_is c.args.tab.now p.running p.below c.plan_of-plan.ensures.0 p.sized p.small (c.row-n.ensures ∙ (p.running.program.sized.table.rows_of c.args.frame.now.node p.below).count) turn_left.inside.0 c.place_at-at.ensures c.records_at-a.ensures c.records_at-b.ensures

  turn_bounds : (c.records_at-a.result ≤ c.records_at-b.result) × (c.records_at-b.result ≤ length c.args.old.now) × (length c.loop-j.new ≡ length c.args.old.now)
  turn_bounds = turn_part c.args.frame.now.first c.requires c.loop-j.frame.cells.now turn_left turn_place

pub run-slice_bounds-equation-count : goal.run-slice_bounds-equation-count
run-slice_bounds-equation-count t c = (turn_bounds t (goal.at.run-slice_bounds-equation-count t c).After-records_at-b).0

pub run-slice_bounds-equation-start : goal.run-slice_bounds-equation-start
run-slice_bounds-equation-start t c = omega (arith, turn_bounds t (goal.at.run-slice_bounds-equation-start t c).After-records_at-b)

pub run-slice_bounds-equation-end : goal.run-slice_bounds-equation-end
run-slice_bounds-equation-end t c = omega (arith, turn_bounds t (goal.at.run-slice_bounds-equation-end t c).After-records_at-b)

pub run-slice_bounds-equation-count-in-loop-j : goal.run-slice_bounds-equation-count-in-loop-j
run-slice_bounds-equation-count-in-loop-j t c = (turn_bounds t (goal.at.run-slice_bounds-equation-count-in-loop-j t c).After-records_at-b).0

pub run-slice_bounds-equation-start-in-loop-j : goal.run-slice_bounds-equation-start-in-loop-j
run-slice_bounds-equation-start-in-loop-j t c = omega (arith, turn_bounds t (goal.at.run-slice_bounds-equation-start-in-loop-j t c).After-records_at-b)

pub run-slice_bounds-equation-end-in-loop-j : goal.run-slice_bounds-equation-end-in-loop-j
run-slice_bounds-equation-end-in-loop-j t c = omega (arith, turn_bounds t (goal.at.run-slice_bounds-equation-end-in-loop-j t c).After-records_at-b)

pub run-equation-e-requires : goal.run-equation-e-requires
run-equation-e-requires t c =
    let d = (goal.at.run-equation-e-requires t c).After-records_at-b in
    let lf = c.loop-j.frame in
    (omega (arith, c.loop-j.invariant.1.node), keeps_ready c.loop-j.invariant.1 (turn_ready c.args.frame.now.first c.requires lf.cells.now (turn_left t d) (turn_place t d) c.loop-j.invariant.1.long))

pub run-returns-in_default : goal.run-returns-in_default
run-returns-in_default t c =
    let d = (goal.at.run-returns-in_default t c).After-records_at-b in
    let lf = c.loop-j.frame in (
      turn_stops c.args.frame.now.first c.requires lf.cells.now (turn_left t d) (turn_place t d) c.equation-e.result c.equation-e.new.frame.cells.now c.equation-e.new.new c.in_default.not-Values c.equation-e.auto.new
          (keeps_done c.args.file.now (consts_of c.args.tab.now) c.order_at-i.result lf.cells.now (mid_of c.records_at-a.result c.records_at-b.result c.args.old.now) c.equation-e.new.frame.cells.now c.loop-j.invariant.1 c.equation-e.ensures.0),
      keeps_on c.loop-j.invariant.1 c.equation-e.ensures.1,
    )

pub run-loop-j-preserved : goal.run-loop-j-preserved
run-loop-j-preserved t c =
    let d = (goal.at.run-loop-j-preserved t c).After-records_at-b in
    let a = c.records_at-a.result in
    let b = c.records_at-b.result in
    let lf = c.loop-j.frame in
    let inv = c.loop-j.invariant in
    let z = turn_bounds t d in
    let le : b ≤ length c.loop-j.new = omega (arith, z.1, z.2) in (
      omega (arith, c.loop-j-test.true),
      keeps_on inv.1 c.equation-e.ensures.1,
      length_put_mid a b c.loop-j.new c.equation-e.new.new z.0 le (c.equation-e.auto.new ∙ length_mid a b c.loop-j.new z.0 le) ∙ inv.2,
      turn_goes c.args.frame.now.first c.requires lf.cells.now (turn_left t d) (turn_place t d) c.equation-e.result c.equation-e.new.frame.cells.now c.equation-e.new.new c.in-Values.is c.equation-e.auto.new
          (keeps_done c.args.file.now (consts_of c.args.tab.now) c.order_at-i.result lf.cells.now (mid_of a b c.args.old.now) c.equation-e.new.frame.cells.now inv.1 c.equation-e.ensures.0),
    )

pub run-returns : goal.run-returns
run-returns t c =
    let p = c.requires in
    let fr = c.args.frame.now in (
      run_done c.args.file.now (consts_of c.args.tab.now) fr.node fr.first fr.cells.now fr.before.now c.args.old.now c.loop-j.frame.cells.now c.loop-j.new c.loop-j.j c.loop-j.invariant.3
          (omega (arith, c.loop-j-test.false, c.row-n.ensures, (p.running.program.sized.table.rows_of fr.node p.below).count, (p.running.nodes fr.node p.below).all)),
      c.loop-j.invariant.1,
    )
