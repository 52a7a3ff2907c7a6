-- The array at a place, by its form.
use Prim.Native.Nat.{ℕ, ◌+◌, ◌-◌, ◌*◌, ◌≤◌, ◌<◌}
use mathlib.Core.Bool.{Bool, true, false, cond, ◌||◌}
use mathlib.Core.List.{List, [], ◌∷◌, ◌++◌, append-nil}
use mathlib.Core.Logic.{by_cases}
use mathlib.Core.Option.{Option, none, some}
use mathlib.Core.Path.{◌≡◌, refl, sym, ap, subst, ◌∙◌}
use native.Mathlib.Decide.{ℕ_discrete}
use native.Mathlib.Omega.{arith}
use borrow.Author.Tests.{eq-eqb, ne_eqb}
use lib.Dec.{eqb}
use lib.ListN.{length, take, drop, get_or, take-append-drop}
use lib.Seq.{take_all, length-take-le}
use Rattle.ol_spec.specs.Lists.{maybe}
use Rattle.ol_spec.specs.Syntax.{Expr, Exprs, pre, literal, Variable, variables, variable_cells, cell_types, rhs_of}
use Rattle.ol_spec.specs.Shapes.{arrays_in, constant_arrays, output_shape}
use Rattle.ol_spec.specs.Cell.{values_of}
use Rattle.ol_spec.specs.Eval.{Evals, Outcomes, values, failure, overflow, callees, callees_all, sites_size, cells_of, cells_by, eval_array, eval_rhs}
use Rattle.ol_spec.specs.Step.{output_count, calls}
use Rattle.ol_spec.specs.declared.Value.{Value}
use Rattle.ol_spec.specs.declared.Cause.TheVariants as Why
use Rattle.ol_spec.proofs.Slots.{type_cells_lem}
use Rattle.ol_tables.specs.At.{file_at, node_in, expr_at, end_at, exprs_at, ends_at, ReadsAll}
use Rattle.ol_tables.specs.Heads.{head_size as head_of}
use Rattle.ol_tables.specs.Parts.{own_sites}
use Rattle.ol_tables.proofs.Forms.{Formed, by_form, one_tree, none_read, var_form, pre_form, call_form, literal_form}
use Rattle.ol_frame.specs.Arrays.{Array, var_length, var_bytes, var_values}
use Rattle.ol_frame.specs.Equations.{arrays_count, arrays_start}
use Rattle.ol_frame.specs.Outcomes.{ending_of}
use Rattle.ol_frame.specs.Walk.{sizes_in}
use Rattle.ol_frame.specs.Plans.{Plan, globals_in, width_in, scope_in, shape_in, span_in, segs_at, seg_at, array_in, long_in, name_at}
use Rattle.ol_frame.specs.declared.outcomes.Ending.{Ending}
use Rattle.ol_frame.specs.declared.outcomes.Ending.TheVariants as End
use Rattle.ol_frame.proofs.Arraying.{array_there, array_means}
use Rattle.ol_frame.proofs.Naming.{is_name}
use Rattle.ol_frame.proofs.Planning.{plan_head, plan_name, plan_parts, plan_suited, segs_one, segs_form}
use Rattle.ol_frame.proofs.Shaping.{count_read, span_name, span_before, span_no_name, span_literal, span_other}
use Rattle.ol_frame.proofs.Storing.{values_front}
use Rattle.ol_eval.specs.Post.{Ready}
use Rattle.ol_eval.specs.Calls.{Holds, as_is, RanTo, ArrayTo, AllTo, WorkTo, Works, Several, all_in, all_cells, cells_at, is_work, rhs_eval, work_yields}
use Rattle.ol_eval.specs.declared.eval.Step.{Step}
use Rattle.ol_eval.proofs.Parts.{some_length}
use Rattle.ol_eval.proofs.Listing.{literal_listed, listed_ready, listed_several, listed_all}
use Rattle.ol_eval.proofs.Readying.{ready_parts, ready_inside}
use Rattle.ol_eval.proofs.Scalars.{all_scalars, scalars_count}

-- what was evaluated, as something else that is the same
pub ran_as : {make : List Value → List Value} {w v : Evals} {x y n m : ℕ} {old new : List ℕ} {r : Step Ending} {got vs : List Value} → w ≡ v → x ≡ y → n ≡ m → got ≡ vs → RanTo make w x n old r got new → RanTo make v y m old r vs new
ran_as {make} {w} {v} {x} {y} {n} {m} {old} {new} {r} {got} {vs} e f g h k =
    subst (λ (u : Evals). RanTo make u y m old r vs new) e (subst (λ (a : ℕ). RanTo make w a m old r vs new) f (subst (λ (a : ℕ). RanTo make w x a old r vs new) g (subst (λ (a : List Value). RanTo make w x n old r a new) h k)))

-- the values of cells that were copied to the front
copied_values : (n : ℕ) (s to to' : List ℕ) → 9 * n ≤ length s → to' ≡ take (9 * n) s ++ drop (9 * n) to → values_of n to' ≡ values_of n s
copied_values n s to to' l e =
    let m : 9 * n ≤ length (take (9 * n) s) = omega (arith, length-take-le (9 * n) s l) in
    ap (values_of n) e ∙ values_front n (take (9 * n) s) (drop (9 * n) to) m ∙ sym (ap (values_of n) (sym (take-append-drop (9 * n) s)) ∙ values_front n (take (9 * n) s) (drop (9 * n) s) m)

module _ (f consts : List ℕ) (level at node : ℕ) (first : Bool) (cells before : List ℕ) where
  -- an array by its form, which has no record of its own
  pub form_array : {t : Expr} {n : ℕ} {old new : List ℕ} {r : Step Ending} {got : List Value} (W : List ℕ → Evals) → ReadsAll f level 1 at → Formed f level at t n → own_sites t ≡ [] → ((seg : List ℕ) → array_in f consts node first cells before t seg ≡ W seg)
      → RanTo as_is (W (take (segs_at f (level - 1) n (at + head_of t)) old)) (ends_at f (level - 1) n (at + head_of t)) (segs_at f (level - 1) n (at + head_of t)) old r got new
      → RanTo as_is (array_in f consts node first cells before (expr_at f level at) (take (seg_at f level at) old)) (end_at f level at) (seg_at f level at) old r got new
  form_array {t} {n} {old} {new} {r} {got} W h g o w m =
      let e : segs_at f (level - 1) n (at + head_of t) ≡ seg_at f level at = sym (segs_form f h g o) ∙ segs_one f level at h in
      let v : W (take (segs_at f (level - 1) n (at + head_of t)) old) ≡ array_in f consts node first cells before (expr_at f level at) (take (seg_at f level at) old) =
      (λ j. W (take (e j) old)) ∙ sym (w (take (seg_at f level at) old)) ∙ ap (λ (x : Expr). array_in f consts node first cells before x (take (seg_at f level at) old)) (sym g.tree) in
      ran_as v (sym g.ends) e refl m

module _ {f tab rows consts : List ℕ} {level at node : ℕ} {cells before old new : List ℕ} (p : Ready f tab rows consts level 1 at node cells before old new) (long : 0 < span_in f node (expr_at f level at)) where
  array_shape : shape_in f node (expr_at f level at) ≡ some (span_in f node (expr_at f level at))
  array_shape = some_length (shape_in f node (expr_at f level at)) (λ e. omega (arith, long, e))

  -- ---- a Var

  module _ (c : get_or f at 0 ≡ 4) where
    -- its cells are there
    pub name_array : Array tab consts cells at
    name_array = array_there p.plan.program p.plan.known at (plan_name f p.plan c) cells p.present

    pub name_span : var_length tab at ≡ span_in f node (expr_at f level at)
    name_span = span_name f p.plan c

    pub name_done : (first : Bool) (to to' : List ℕ) → to' ≡ take (9 * var_length tab at) (var_bytes tab consts cells at) ++ drop (9 * var_length tab at) to → ArrayTo f consts level at node first cells before old (record { out = End.Values; next = at + 3; used = 0 }) to' new
    unfolding eval_array sites_size
    name_done first to to' e =
        let z = none_read f (level - 1) (at + 3) in
        let l : long_in f node (name_at f (at + 1)) ≡ some (span_in f node (expr_at f level at)) = sym (ap (shape_in f node) (var_form f level at (plan_head f p.plan) c).tree) ∙ array_shape in
        form_array f consts level at node first cells before (λ (seg : List ℕ). record { out = values (var_values tab consts cells at); seg = seg }) p.plan.reads (var_form f level at (plan_head f p.plan) c) refl
        (λ seg. ap (λ (o : Outcomes). record { out = o; seg = seg }) (array_means p.plan.program p.plan.known at (plan_name f p.plan c) (span_in f node (expr_at f level at)) l cells))
        (record {
          end_is = refl;
          next_is = sym z.1;
          used_is = sym (ap (λ (es : Exprs). sites_size (sizes_in f) (callees_all es)) z.0);
          values_are = ap (λ (m : ℕ). values_of m to') (sym name_span) ∙ copied_values (var_length tab at) (var_bytes tab consts cells at) to to' name_array.room e;
          state = p.same ∙ sym (take-append-drop (segs_at f (level - 1) 0 (at + 3)) old);
        })

  -- ---- Pre of a Var

  module _ (c : get_or f at 0 ≡ 8) where
    pub before_var : get_or f (at + 1) 0 ≡ 4
    before_var = by_cases (ℕ_discrete (get_or f (at + 1) 0) 4) (λ e. e) (λ n. let z = span_no_name f p.plan c n in absurd (omega (arith, long, z)))

    inner : Plan f tab rows consts node (level - 1) 1 (at + 1)
    inner = plan_parts f p.plan (pre_form f level at (plan_head f p.plan) c)

    -- its cells before are there
    pub before_array : Array tab consts before (at + 1)
    before_array = array_there p.plan.program p.plan.known (at + 1) (plan_name f inner before_var) before p.previous

    pub before_span : var_length tab (at + 1) ≡ span_in f node (expr_at f level at)
    before_span = span_before f p.plan c before_var

    inner_long : long_in f node (name_at f (at + 1 + 1)) ≡ some (span_in f node (expr_at f level at))
    inner_long =
        sym (ap (shape_in f node) (pre_form f level at (plan_head f p.plan) c).tree ∙ ap (λ (o : Option ℕ). maybe none (long_in f node) o) (is_name f (level - 1) (at + 1) (plan_head f inner) before_var)) ∙ array_shape

    inner_ends : ends_at f (level - 1) 1 (at + 1) ≡ at + 4
    inner_ends =
        let e = var_form f (level - 1) (at + 1) (plan_head f inner) before_var in
        let z : at + 1 + 3 ≡ at + 4 = omega arith in
        (one_tree f (level - 1) (at + 1) inner.reads).1 ∙ e.ends ∙ (none_read f (level - 1 - 1) (at + 1 + 3)).1 ∙ z

    inner_used : segs_at f (level - 1) 1 (at + 1) ≡ 0
    unfolding sites_size
    inner_used = segs_one f (level - 1) (at + 1) inner.reads ∙ ap (λ (e : Expr). sites_size (sizes_in f) (callees e)) (var_form f (level - 1) (at + 1) (plan_head f inner) before_var).tree

    before_eval : (first : Bool) (seg : List ℕ) → array_in f consts node first cells before (pre (expr_at f (level - 1) (at + 1))) seg ≡ record { out = cond first (failure Why.Cold) (values (var_values tab consts before (at + 1))); seg = seg }
    unfolding eval_array
    before_eval true seg = refl
    before_eval false seg =
        ap (λ (o : Outcomes). record { out = o; seg = seg })
        (ap (λ (o : Option ℕ). maybe (failure Why.Other) (cells_of (globals_in f consts) (scope_in f node false cells before) (values_of (width_in f node) before)) o) (is_name f (level - 1) (at + 1) (plan_head f inner) before_var)
        ∙ array_means p.plan.program p.plan.known (at + 1) (plan_name f inner before_var) (span_in f node (expr_at f level at)) inner_long before)

    pub before_done : (first : Bool) (end : Ending) (to to' : List ℕ) → end ≡ cond first (End.Failed Why.Cold) End.Values
        → to' ≡ cond first to (take (9 * var_length tab (at + 1)) (var_bytes tab consts before (at + 1)) ++ drop (9 * var_length tab (at + 1)) to) → ArrayTo f consts level at node first cells before old (record { out = end; next = at + 4; used = 0 }) to' new
    before_done first end to to' e g =
        form_array f consts level at node first cells before (λ (seg : List ℕ). record { out = cond first (failure Why.Cold) (values (var_values tab consts before (at + 1))); seg = seg }) p.plan.reads (pre_form f level at (plan_head f p.plan) c) refl (before_eval first)
        (record {
          end_is = e ∙ ending first;
          next_is = sym inner_ends;
          used_is = sym inner_used;
          values_are = held first g;
          state = p.same ∙ sym (take-append-drop (segs_at f (level - 1) 1 (at + 1)) old);
        })
      where
        ending : (b : Bool) → cond b (End.Failed Why.Cold) End.Values ≡ ending_of (cond b (failure Why.Cold) (values (var_values tab consts before (at + 1))))
        ending true = refl
        ending false = refl

        held : (b : Bool) → to' ≡ cond b to (take (9 * var_length tab (at + 1)) (var_bytes tab consts before (at + 1)) ++ drop (9 * var_length tab (at + 1)) to) → Holds as_is (cond b (failure Why.Cold) (values (var_values tab consts before (at + 1)))) (values_of (span_in f node (expr_at f level at)) to')
        held true h = tt
        held false h = ap (λ (m : ℕ). values_of m to') (sym before_span) ∙ copied_values (var_length tab (at + 1)) (var_bytes tab consts before (at + 1)) to to' before_array.room h

  -- ---- a literal

  module _ (c : get_or f at 0 ≡ 14) where
    abbrev items : ℕ
    items = get_or f (at + 1) 0

    literal_is : Formed f level at (literal (exprs_at f (level - 1) (get_or f (at + 1) 0) (at + 2))) (get_or f (at + 1) 0) × (1 ≤ get_or f (at + 1) 0) × (get_or f (at + 1) 0 ≤ 32)
    literal_is = literal_form f level at (plan_head f p.plan) c

    pub literal_ready : Ready f tab rows consts (level - 1) (arrays_count f at) (arrays_start f at) node cells before old new
    literal_ready = listed_ready (literal_listed f at c (ready_inside p)) (ready_parts p literal_is.0 refl)

    literal_cells : all_cells f node (level - 1) (get_or f (at + 1) 0) (at + 2) ≡ span_in f node (expr_at f level at)
    literal_cells =
        let es = exprs_at f (level - 1) items (at + 2) in
        scalars_count (file_at f).nodes (arrays_in (variables (node_in f node))) (constant_arrays (file_at f).constants) es (all_scalars (file_at f) (arrays_in (variables (node_in f node))) es (plan_suited f p.plan literal_is.0))
        ∙ count_read f (level - 1) items (at + 2) literal_is.0.read ∙ span_literal f p.plan c

    pub literal_several : (free : ℕ) → 9 * span_in f node (expr_at f level at) ≤ free → Several f node (level - 1) at free
    literal_several free l = listed_several (literal_listed f at c (ready_inside p)) node (level - 1) free literal_is.0.inside literal_is.2 (omega (arith, l, literal_cells))

    pub literal_done : (first : Bool) (to : List ℕ) {new' : List ℕ} {r : Step Ending} → AllTo f consts (level - 1) at node first cells before old r to new' → ArrayTo f consts level at node first cells before old r to new'
    unfolding eval_array
    literal_done first to h =
        form_array f consts level at node first cells before (all_in f consts (level - 1) items (at + 2) node first cells before) p.plan.reads literal_is.0 refl (λ seg. refl)
        (ran_as refl refl refl (ap (λ (m : ℕ). values_of m to) literal_cells) (listed_all (literal_listed f at c (ready_inside p)) consts (level - 1) node first cells before old to h))

  -- ---- a call or a map

  module _ (n4 : ¬ (get_or f at 0 ≡ 4)) (n8 : ¬ (get_or f at 0 ≡ 8)) (n14 : ¬ (get_or f at 0 ≡ 14)) where
    pub work_is : is_work f at ≡ true
    work_is =
        by_cases (ℕ_discrete (get_or f at 0) 11) (λ e. ap (λ (b : Bool). b || eqb (get_or f at 0) 15) (eq-eqb (get_or f at 0) 11 e))
        (λ n11. by_cases (ℕ_discrete (get_or f at 0) 15) (λ e. (λ j. ne_eqb (get_or f at 0) 11 n11 j || eq-eqb (get_or f at 0) 15 e j))
        (λ n15. no_shape (sym (span_other f p.plan n4 n8 n11 n14 n15) ∙ array_shape)))
      where
        no_shape : {A : Type 0} {n : ℕ} → none ≡ some n → A
        no_shape e = let z : ◌≡◌ {A = ℕ} 0 1 = cc in absurd (omega arith)

    pub work_given : (free : ℕ) → 9 * span_in f node (expr_at f level at) ≤ free → Works f node level at free
    work_given free l = record { form = work_is; given = λ e. omega (arith, l, ap (maybe 1 (λ n. n)) array_shape) }

    -- it yields as many values
    yields_are : work_yields f node level at ≡ span_in f node (expr_at f level at)
    yields_are =
        let k = get_or f (at + 1) 0 in
        let other : cells_at f node level at ≡ span_in f node (expr_at f level at) = ap (maybe 1 (λ n. n)) array_shape in
        by_cases (ℕ_discrete (get_or f at 0) 11)
        (λ e.
        let s : output_shape (node_in f k).outputs ≡ some (span_in f node (expr_at f level at)) = sym (ap (shape_in f node) (call_form f level at (plan_head f p.plan) e).0.tree) ∙ array_shape in
        ap (λ (b : Bool). cond b (output_count (node_in f k)) (cells_at f node level at)) (eq-eqb (get_or f at 0) 11 e) ∙ outputs_long (node_in f k).outputs s)
        (λ e. ap (λ (b : Bool). cond b (output_count (node_in f k)) (cells_at f node level at)) (ne_eqb (get_or f at 0) 11 e) ∙ other)
      where
        outputs_long : (vs : List Variable) {n : ℕ} → output_shape vs ≡ some n → length (cell_types vs) ≡ n
        outputs_long [] e = no_shape e
          where
            no_shape : {A : Type 0} {n : ℕ} → none ≡ some n → A
            no_shape e = let z : ◌≡◌ {A = ℕ} 0 1 = cc in absurd (omega arith)
        outputs_long (v ∷ []) e = ap length (append-nil (variable_cells v)) ∙ type_cells_lem v.ty ∙ ap (maybe 1 (λ n. n)) e
        outputs_long (v ∷ w ∷ vs) e = no_shape e
          where
            no_shape : {A : Type 0} {n : ℕ} → none ≡ some n → A
            no_shape e = let z : ◌≡◌ {A = ℕ} 0 1 = cc in absurd (omega arith)

    -- as a right side it is evaluated as an array
    work_eval : (first : Bool) (seg : List ℕ) → rhs_eval f consts level at node first cells before seg ≡ array_in f consts node first cells before (expr_at f level at) seg
    unfolding eval_array cells_by
    work_eval first seg =
        by_form f
        (λ c e. shape_in f node e ≡ some (span_in f node (expr_at f level at)) → (eqb c 11 || eqb c 15) ≡ true → eval_rhs (globals_in f consts) (scope_in f node first cells before) (calls (globals_in f consts)) (rhs_of e) seg ≡ array_in f consts node first cells before e seg)
        (λ b s w. no_work w) (λ i s w. no_work w) (λ b s w. no_work w) (λ d s w. no_work w) (λ x s w. no_work w) (λ op e s w. no_work w) (λ op l r s w. no_work w)
        (λ d t e s w. no_work w) (λ e s w. no_work w) (λ a b s w. no_work w) (λ t e s w. no_work w) (λ k es s w. refl) (λ es s w. no_work w) (λ a i s w. no_work w) (λ es s w. no_work w)
        (λ k es s w. refl) (λ k e es s w. no_shape s) level at (plan_head f p.plan) array_shape work_is
      where
        no_work : {A : Type 0} → false ≡ true → A
        no_work e = let z : ◌≡◌ {A = ℕ} 0 1 = cc in absurd (omega arith)

        no_shape : {A : Type 0} {n : ℕ} → none ≡ some n → A
        no_shape e = let z : ◌≡◌ {A = ℕ} 0 1 = cc in absurd (omega arith)

    pub work_done : (first : Bool) (to : List ℕ) {new' : List ℕ} {r : Step Ending} → 9 * span_in f node (expr_at f level at) ≤ length to → WorkTo f consts level at node first cells before old r to new' → ArrayTo f consts level at node first cells before old r to new'
    work_done first to {new'} {r} l h =
        let n = span_in f node (expr_at f level at) in
        let k = h.0 n (omega (arith, yields_are)) l in
        ran_as (work_eval first (take (seg_at f level at) old)) refl refl refl
        (record { end_is = k.end_is; next_is = k.next_is; used_is = k.used_is; values_are = whole (rhs_eval f consts level at node first cells before (take (seg_at f level at) old)).out (λ vs e. h.1 vs e ∙ yields_are) k.values_are; state = k.state })
      where
        whole : (o : Outcomes) → ((vs : List Value) → o ≡ values vs → length vs ≡ span_in f node (expr_at f level at)) → Holds (take (span_in f node (expr_at f level at))) o (values_of (span_in f node (expr_at f level at)) to) → Holds as_is o (values_of (span_in f node (expr_at f level at)) to)
        whole (values vs) e g = g ∙ take_all (span_in f node (expr_at f level at)) vs (omega (arith, e vs refl))
        whole (failure d) e g = tt
        whole overflow e g = tt
