-- Laws of calls and iterators as one value.
use Prim.Native.Nat.{ℕ, ◌+◌, ◌≤◌, ◌<◌}
use mathlib.Core.Bool.{Bool, true, false, cond, ◌||◌}
use mathlib.Core.List.{List, [], ◌∷◌, ◌++◌, append-nil}
use mathlib.Core.Logic.{by_cases}
use mathlib.Core.Option.{none, some}
use mathlib.Core.Path.{◌≡◌, refl, sym, ap, subst, ◌∙◌}
use native.Mathlib.Decide.{ℕ_discrete}
use native.Mathlib.Omega.{arith}
use borrow.Author.Tests.{eq-eqb, ne_eqb}
use lib.Dec.{eqb}
use lib.ListN.{length, take, get_or, length-append}
use Rattle.ol_spec.specs.Lists.{maybe}
use Rattle.ol_spec.specs.Syntax.{Expr, Variable, Node, variables, variable_cells, cell_types, length_in, rhs_of, name_of}
use Rattle.ol_spec.specs.Shapes.{output_shape}
use Rattle.ol_spec.specs.Cell.{values_of}
use Rattle.ol_spec.specs.Eval.{Eval, Evals, Outcomes, values, failure, overflow, single, several, single_eval, several_eval, cells_by, eval, eval_rhs}
use Rattle.ol_spec.specs.Step.{output_count, calls}
use Rattle.ol_spec.specs.declared.Value.{Value}
use Rattle.ol_spec.specs.declared.Outcome.{Outcome}
use Rattle.ol_spec.specs.declared.Outcome.TheVariants as Out
use Rattle.ol_spec.specs.declared.Cause.TheVariants as Why
use Rattle.ol_spec.proofs.CellLengths.{length_values}
use Rattle.ol_spec.proofs.Slots.{type_cells_lem}
use Rattle.ol_tables.specs.At.{node_in, expr_at}
use Rattle.ol_tables.specs.Tables.{var_ty_of}
use Rattle.ol_tables.proofs.Cells.{Filled}
use Rattle.ol_tables.proofs.Forms.{each_append, by_form, call_form}
use Rattle.ol_frame.specs.Walk.{nodes_in}
use Rattle.ol_frame.specs.Plans.{Plan, Program, globals_in, scope_in, seg_at, eval_in, shape_in}
use Rattle.ol_frame.specs.Outcomes.{ending_of}
use Rattle.ol_frame.specs.Stores.{Leaves}
use Rattle.ol_frame.specs.declared.outcomes.Ending.{Ending}
use Rattle.ol_frame.proofs.Planning.{plan_head}
use Rattle.ol_frame.proofs.Programs.{laid, some_output}
use Rattle.ol_eval.specs.Post.{Meets, EvalsTo}
use Rattle.ol_eval.specs.Calls.{Holds, as_is, RanTo, EntersTo, WorkTo, rhs_eval, cells_at, work_yields, work_outputs, is_work}
use Rattle.ol_eval.specs.declared.eval.Step.{Step}

-- ---- one value of several

single_other : (vs : List Value) → ¬ (length vs ≡ 1) → single (values vs) ≡ Out.Failure Why.Other
single_other [] h = refl
single_other (v ∷ []) h = absurd (h refl)
single_other (v ∷ w ∷ vs) h = refl

-- of a work that ended so, which has n outputs and m cells, the first of which is in `c` where it has one output
pub single_work : (os : Outcomes) (e : Ending) (n m : ℕ) (c : List ℕ) (o : Outcome) → e ≡ ending_of os → (n ≡ 1 → m ≡ 1) → (¬ (n ≡ 1) → ¬ (m ≡ 1))
    → ((vs : List Value) → os ≡ values vs → length vs ≡ m) → (n ≡ 1 → Holds (take 1) os (values_of 1 c)) → ((os' : Outcomes) → Leaves os' e n c → o ≡ single os') → o ≡ single os
single_work (failure d) e n m c o x a b l h s = s (failure d) x
single_work overflow e n m c o x a b l h s = s overflow x
single_work (values vs) e n m c o x a b l h s =
    by_cases (ℕ_discrete n 1)
    (λ z. s (values vs) (x, ap (λ (k : ℕ). values_of k c) z ∙ h z ∙ whole vs (l vs refl ∙ a z)))
    (λ z. s (values (values_of n c)) (x, refl) ∙ single_other (values_of n c) (λ y. z (sym (length_values n c) ∙ y)) ∙ sym (single_other vs (λ y. b z (sym (l vs refl) ∙ y))))
  where
    whole : (vs : List Value) → length vs ≡ 1 → take 1 vs ≡ vs
    whole [] y = refl
    whole (v ∷ []) y = refl
    whole (v ∷ w ∷ vs) y = absurd (omega arith)

-- ---- how many outputs and cells there are

-- variables that have cells have as many or more
some_cells : (vs : List Variable) → Filled name_of var_ty_of vs → length vs ≤ length (cell_types vs)
some_cells [] h = omega arith
some_cells (v ∷ vs) h = omega (arith, h.0, some_cells vs h.1, length-append (variable_cells v) (cell_types vs))

-- the outputs of a call that is no array are one cell, or more than one variable
one_output : (vs : List Variable) → output_shape vs ≡ none → length vs ≡ 1 → length (cell_types vs) ≡ 1
one_output [] s e = absurd (omega arith)
one_output (v ∷ []) s e = ap length (append-nil (variable_cells v)) ∙ type_cells_lem v.ty ∙ ap (maybe 1 (λ n. n)) s
one_output (v ∷ w ∷ vs) s e = absurd (omega arith)

module _ {file tab rows : List ℕ} (P : Program file tab rows) (k : ℕ) (b : k < nodes_in file) where
  outputs_some : length (node_in file k).outputs ≤ output_count (node_in file k)
  outputs_some =
      let n = node_in file k in
      let a = each_append (λ (v : Variable). 1 ≤ length (variable_cells v)) (n.inputs ++ n.outputs) n.locals (laid P k).filled in
      some_cells n.outputs (each_append (λ (v : Variable). 1 ≤ length (variable_cells v)) n.inputs n.outputs a.0).1

  pub other_outputs : ¬ (length (node_in file k).outputs ≡ 1) → ¬ (output_count (node_in file k) ≡ 1)
  other_outputs h e = let z : 1 ≤ length (node_in file k).outputs = some_output P k b in h (omega (arith, z, outputs_some, e))

-- ---- the work at a place

single_again : (w : Eval) → single_eval (several_eval w) ≡ w
single_again w = λ i. record { out = go w.out i; seg = w.seg }
  where
    go : (o : Outcome) → single (several o) ≡ o
    go (Out.Value v) = refl
    go (Out.Failure c) = refl
    go Out.Overflow = refl

module _ {file tab rows consts : List ℕ} {level at node : ℕ} (p : Plan file tab rows consts node level 1 at) (s : shape_in file node (expr_at file level at) ≡ none) where
  -- its one value is that of its right side
  pub work_single : is_work file at ≡ true → (first : Bool) (cells before seg : List ℕ) → eval_in file consts node first cells before (expr_at file level at) seg ≡ single_eval (rhs_eval file consts level at node first cells before seg)
  unfolding eval cells_by
  work_single w first cells before seg =
      by_form file (λ c e. shape_in file node e ≡ none → is_code c ≡ true → eval_in file consts node first cells before e seg ≡ single_eval (of_rhs e))
      (λ b n c. no_work c) (λ i n c. no_work c) (λ b n c. no_work c) (λ d n c. no_work c) (λ x n c. no_work c) (λ op e n c. no_work c) (λ op l r n c. no_work c)
      (λ d t e n c. no_work c) (λ e n c. no_work c) (λ a b n c. no_work c) (λ t e n c. no_work c) (λ k es n c. refl) (λ es n c. no_work c) (λ a i n c. no_work c) (λ es n c. no_work c)
      (λ k es n c. no_some n) (λ k e es n c. sym (single_again (eval_in file consts node first cells before (Rattle.ol_spec.specs.Syntax.fold_over k e es) seg))) level at (plan_head file p) s w
    where
      is_code : ℕ → Bool
      is_code c = eqb c 11 || eqb c 15

      of_rhs : Expr → Evals
      of_rhs e = eval_rhs (globals_in file consts) (scope_in file node first cells before) (calls (globals_in file consts)) (rhs_of e) seg

      no_work : {A : Type 0} → false ≡ true → A
      no_work e = let z : ◌≡◌ {A = ℕ} 0 1 = cc in absurd (omega arith)

      no_some : {A : Type 0} {n : ℕ} → some n ≡ none → A
      no_some e = let z : ◌≡◌ {A = ℕ} 0 1 = cc in absurd (omega arith)

  -- with one output it yields one value, and with another number another number of them
  pub work_counts : is_work file at ≡ true → (get_or file at 0 ≡ 11 → get_or file (at + 1) 0 < nodes_in file) → (work_outputs file at ≡ 1 → work_yields file node level at ≡ 1) × (¬ (work_outputs file at ≡ 1) → ¬ (work_yields file node level at ≡ 1))
  work_counts w b =
      by_cases (ℕ_discrete (get_or file at 0) 11)
      (λ c.
      let k = get_or file (at + 1) 0 in
      let t : output_shape (node_in file k).outputs ≡ none = sym (ap (shape_in file node) (call_form file level at (plan_head file p) c).0.tree) ∙ s in
      let e = eq-eqb (get_or file at 0) 11 c in
      subst (λ (x : Bool). (cond x (length (node_in file k).outputs) 1 ≡ 1 → cond x (output_count (node_in file k)) (cells_at file node level at) ≡ 1) × (¬ (cond x (length (node_in file k).outputs) 1 ≡ 1) → ¬ (cond x (output_count (node_in file k)) (cells_at file node level at) ≡ 1))) (sym e)
      (one_output (node_in file k).outputs t, other_outputs p.program k (b c)))
      (λ c.
      let k = get_or file (at + 1) 0 in
      let e = ne_eqb (get_or file at 0) 11 c in
      subst (λ (x : Bool). (cond x (length (node_in file k).outputs) 1 ≡ 1 → cond x (output_count (node_in file k)) (cells_at file node level at) ≡ 1) × (¬ (cond x (length (node_in file k).outputs) 1 ≡ 1) → ¬ (cond x (output_count (node_in file k)) (cells_at file node level at) ≡ 1))) (sym e)
      ((λ y. ap (maybe 1 (λ n. n)) s), λ y. absurd (y refl)))

-- what was evaluated as several values, as one
pub as_single : {make : List Value → List Value} {w : Evals} {x n : ℕ} {s new : List ℕ} {r : Step Ending} {got : List Value} {v : Eval} {o : Outcome} → v ≡ single_eval w → RanTo make w x n s r got new → o ≡ single w.out → Meets v x n s (record { out = o; next = r.next; used = r.used }) new
as_single {w = w} {x = x} {n = n} {s = s} {new = new} {r = r} {o = o} e h z =
    subst (λ (u : Eval). Meets u x n s (record { out = o; next = r.next; used = r.used }) new) (sym e) (record { out = z; next_is = h.next_is; used_is = h.used_is; state = h.state })

-- ---- a call, and a call or an iterator, as one value

module _ {file tab rows consts : List ℕ} {level at node : ℕ} (p : Plan file tab rows consts node level 1 at) (s : shape_in file node (expr_at file level at) ≡ none) (w : is_work file at ≡ true) (below : get_or file at 0 ≡ 11 → get_or file (at + 1) 0 < nodes_in file) (first : Bool) (cells before old : List ℕ) where
  abbrev W : Evals
  W = rhs_eval file consts level at node first cells before (take (seg_at file level at) old)

  pub call_one : get_or file at 0 ≡ 11 → (outputs : ℕ) (args : List ℕ) {new : List ℕ} {r : Step Ending} {o : Outcome} → outputs ≡ work_outputs file at → EntersTo file consts level at node first cells before old r args new → ((os : Outcomes) → Leaves os r.out outputs args → o ≡ single os)
      → EvalsTo file consts level at node first cells before old (record { out = o; next = r.next; used = r.used }) new
  call_one b outputs args {r = r} {o = o} oE h l =
      let k = get_or file (at + 1) 0 in
      let y : work_yields file node level at ≡ output_count (node_in file k) = ap (λ (c : Bool). cond c (output_count (node_in file k)) (cells_at file node level at)) (eq-eqb (get_or file at 0) 11 b) in
      let n = work_counts p s w below in
      as_single (work_single p s w first cells before (take (seg_at file level at) old)) h
      (single_work W.out r.out outputs (work_yields file node level at) args o h.end_is (λ e. n.0 (sym oE ∙ e)) (λ d. n.1 (λ e. d (oE ∙ e))) (λ vs e. counted W.out h.values_are vs e ∙ sym y)
      (λ e. firsts W.out (subst (λ (m : ℕ). Holds as_is W.out (values_of m args)) (sym y ∙ n.0 (sym oE ∙ e)) h.values_are)) l)
    where
      counted : (os : Outcomes) → Holds as_is os (values_of (output_count (node_in file (get_or file (at + 1) 0))) args) → (vs : List Value) → os ≡ values vs → length vs ≡ output_count (node_in file (get_or file (at + 1) 0))
      counted os h vs e =
          let g : values_of (output_count (node_in file (get_or file (at + 1) 0))) args ≡ vs = subst (λ (x : Outcomes). Holds as_is x (values_of (output_count (node_in file (get_or file (at + 1) 0))) args)) e h in
          sym (ap length g) ∙ length_values (output_count (node_in file (get_or file (at + 1) 0))) args

      firsts : (os : Outcomes) → Holds as_is os (values_of 1 args) → Holds (take 1) os (values_of 1 args)
      firsts (values vs) h = ap (take 1) h
      firsts (failure d) h = tt
      firsts overflow h = tt

  pub work_one : (outputs : ℕ) (out : List ℕ) {new : List ℕ} {r : Step Ending} {o : Outcome} → outputs ≡ work_outputs file at → 9 ≤ length out → WorkTo file consts level at node first cells before old r out new → ((os : Outcomes) → Leaves os r.out outputs out → o ≡ single os)
      → EvalsTo file consts level at node first cells before old (record { out = o; next = r.next; used = r.used }) new
  work_one outputs out {r = r} {o = o} oE room h l =
      let n = work_counts p s w below in
      let z = h.0 0 (omega arith) (omega arith) in
      as_single (work_single p s w first cells before (take (seg_at file level at) old)) z
      (single_work W.out r.out outputs (work_yields file node level at) out o z.end_is (λ e. n.0 (sym oE ∙ e)) (λ d. n.1 (λ e. d (oE ∙ e))) h.1
      (λ e. (h.0 1 (let y = n.0 (sym oE ∙ e) in omega (arith, y)) (omega (arith, room))).values_are) l)
