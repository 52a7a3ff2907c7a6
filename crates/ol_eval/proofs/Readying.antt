-- The parts of what can be evaluated can be evaluated, on their parts of the states.
use mathlib.Core.Path.{◌≡◌, refl, sym, ap, subst, ◌∙◌}
use mathlib.Core.Bool.{Bool, false, not, cond}
use mathlib.Core.List.{List, [], ◌++◌}
use Prim.Native.Nat.{ℕ, suc, ◌+◌, ◌-◌, ◌≤◌, ◌<◌, min}
use Rattle.ol_tables.specs.declared.form.Form.{Form}
use Rattle.ol_tables.specs.declared.form.Form.TheVariants as Frm
use Rattle.ol_tables.specs.FormCodes.{code_of_form}
use Rattle.ol_tables.proofs.FormLaws.{form_is}
use native.Mathlib.Omega.{arith}
use lib.ListN.{length, take, drop, get_or, length-drop, take-append-drop}
use lib.Seq.{length-take-le, take-take}
use Rattle.ol_spec.specs.Lists.{is_empty, maybe}
use Rattle.ol_spec.specs.Syntax.{Expr, Exprs, bool_lit, int_lit, float_lit, char_lit, var, unary, binary, if_then_else, pre, arrow, cast, call, tuple, index, literal, map_over, fold_over}
use Rattle.ol_spec.specs.Eval.{or_failure, present_of, sites_size, Globals, Eval, callees_all, has_call, RealKind, real_kind, is_double?, arithmetic, join, eval, then_out, next, map_eval}
use Rattle.ol_spec.specs.declared.Outcome.{Outcome}
use Rattle.ol_frame.specs.Outcomes.{common_out}
use Rattle.ol_tables.specs.At.{expr_at, end_at, exprs_at, ends_at, Reads, ReadsAll}
use Rattle.ol_tables.specs.Tables.{Each, ty_code, ty_enum}
use Rattle.ol_tables.specs.Heads.{head_size as head_of}
use Rattle.ol_tables.specs.Parts.{own_sites, Proper}
use Rattle.ol_tables.proofs.Forms.{each_append, Formed, one_tree, parted, none_read, by_form, var_form, reads_in, reads_deep}
use Rattle.ol_spec.proofs.Forms.{uses, uses_all}
use Rattle.ol_frame.specs.Walk.{sizes_in, Passable, Skips, SkipsTo}
use Rattle.ol_frame.specs.declared.skip.Passed.{Passed}
use Rattle.ol_frame.specs.Plans.{segs_at, seg_at, eval_in, Leaf, globals_in, scope_in, name_at}
use Rattle.ol_eval.specs.Post.{Ready, Meets, EvalsTo, Untaken, UntakenTo, ChooseTo, choose_in}
use Rattle.ol_frame.specs.Nodes.{Enters}
use Rattle.ol_eval.specs.declared.eval.Step.{Step}
use Rattle.ol_tables.proofs.Lending.{tail_of, put_tail, take_put}
use Rattle.ol_frame.proofs.Passing.{callees_one}
use Rattle.ol_frame.proofs.RealKinds.{proper_type}
use Rattle.ol_spec.specs.Operators.{unary_of, binary_of}
use Rattle.ol_spec.specs.Types.{cast_to}
use Rattle.ol_spec.specs.Read.{unary_ops, bin_ops}
use Rattle.ol_value.specs.Codes.{ty_of, unary_by, binary_by}
use Rattle.ol_spec.specs.Syntax.{Ty, bool, int, float32, float64, char, enum, UnaryOp, BinOp}
use Rattle.ol_spec.specs.Places.{ty_size}
use Rattle.ol_tables.specs.Heads.{ty_size_at, scalar_size_at}
use borrow.Author.Tests.{ne_eqb}
use lib.Dec.{eqb}
use Rattle.ol_spec.specs.declared.Outcome.TheVariants as Out
use Rattle.ol_spec.specs.declared.Cause.TheVariants as Why
use mathlib.Core.Option.{Option, some}
use lib.ListN.{get_elem?}
use Rattle.ol_frame.proofs.Planning.{plan_head, plan_first, plan_rest, plan_parts, plan_passable, segs_one, segs_cons, segs_form, segs_first}
use Rattle.ol_eval.proofs.Evals.{rest_old, rest_new}
use Rattle.ol_eval.proofs.Uses.{own_uses, uses_cons, uses_one, uses_form}

module _ {f tab rows consts : List ℕ} {node : ℕ} {cells before : List ℕ} where
  -- the nodes that the first uses, and the others
  calls_both : {level n at : ℕ} {old new : List ℕ} → Ready f tab rows consts level (suc n) at node cells before old new → Each (Enters f tab rows consts node) (uses (expr_at f level at)) × Each (Enters f tab rows consts node) (uses_all (exprs_at f level n (end_at f level at)))
  calls_both {level} {n} {at} p =
      each_append (Enters f tab rows consts node) (uses (expr_at f level at)) (uses_all (exprs_at f level n (end_at f level at))) (subst (Each (Enters f tab rows consts node)) (uses_cons f level n at p.plan.reads) p.calls)

  -- those that a form uses itself, and its parts
  pub calls_form : {level at n : ℕ} {t : Expr} {old new : List ℕ} → Ready f tab rows consts level 1 at node cells before old new → Formed f level at t n → Each (Enters f tab rows consts node) (own_uses t) × Each (Enters f tab rows consts node) (uses_all (exprs_at f (level - 1) n (at + head_of t)))
  calls_form {level} {at} {n} {t} p g =
      each_append (Enters f tab rows consts node) (own_uses t) (uses_all (exprs_at f (level - 1) n (at + head_of t))) (subst (Each (Enters f tab rows consts node)) (uses_form f level at n p.plan.reads g) p.calls)

  -- the first of several
  pub ready_first : {level n at : ℕ} {old new : List ℕ} → Ready f tab rows consts level (suc n) at node cells before old new → Ready f tab rows consts level 1 at node cells before old new
  ready_first {level} {n} {at} p =
      let q = plan_first f p.plan in
      record {
        plan = q;
        present = p.present;
        previous = p.previous;
        same = p.same;
        room = omega (arith, p.room, segs_first f p.plan);
        small = p.small;
        calls = subst (Each (Enters f tab rows consts node)) (sym (uses_one f level at q.reads)) (calls_both p).0;
      }

  -- the others, on what follows the first's segment
  pub ready_tail : {level n at : ℕ} {old new : List ℕ} (u : ℕ) (old' new' : List ℕ) → Ready f tab rows consts level (suc n) at node cells before old new → u ≡ seg_at f level at → old' ≡ drop u old → new' ≡ drop u old → Ready f tab rows consts level n (end_at f level at) node cells before old' new'
  ready_tail {level} {n} {at} {old} u old' new' p e a b =
      let l : length old' ≡ length old - u = ap length a ∙ length-drop u old in
      record {
        plan = plan_rest f p.plan;
        present = p.present;
        previous = p.previous;
        same = b ∙ sym a;
        room = omega (arith, p.room, segs_cons f level n at p.plan.reads);
        small = omega (arith, p.small);
        calls = (calls_both p).1;
      }

  pub ready_rest : {level n at : ℕ} {old n₀ new : List ℕ} {w : Eval} {x : ℕ} {l : Step Outcome} → Ready f tab rows consts level (suc n) at node cells before old n₀ → Meets w x (seg_at f level at) old l new → length new ≡ length n₀ → Ready f tab rows consts level n (end_at f level at) node cells before (tail_of l.used old) (tail_of l.used new)
  ready_rest {level} {n} {at} {old} {n₀} {new} {w} {x} {l} p h k =
      let r = p.room in
      let c = segs_cons f level n at p.plan.reads in
      let d = rest_old h ∙ ap (λ (m : ℕ). drop m old) (sym h.used_is) in
      ready_tail l.used (tail_of l.used old) (tail_of l.used new) p h.used_is d (rest_new h (k ∙ ap length p.same) (omega arith) ∙ ap (λ (m : ℕ). drop m old) (sym h.used_is))

  -- the first, on its segment alone, once what follows it has changed
  pub ready_front : {level n at : ℕ} {old new : List ℕ} (u : ℕ) (x : List ℕ) → Ready f tab rows consts level (suc n) at node cells before old new → u ≡ seg_at f level at → Ready f tab rows consts level 1 at node cells before (take u old) (take u (put_tail u new x))
  ready_front {level} {n} {at} {old} {new} u x p e =
      let q = ready_first p in
      let c = segs_cons f level n at p.plan.reads in
      let le : u ≤ length old = omega (arith, p.room) in
      let len = length-take-le u old le in
      record {
        plan = q.plan;
        present = p.present;
        previous = p.previous;
        same = take_put u new x (subst (λ (l : List ℕ). u ≤ length l) (sym p.same) le) ∙ ap (take u) p.same;
        room = omega (arith, segs_one f level at q.plan.reads, len);
        small = omega (arith, p.small, len);
        calls = q.calls;
      }

  -- the parts of a form that is no call
  pub ready_parts : {level at n : ℕ} {t : Expr} {old new : List ℕ} → Ready f tab rows consts level 1 at node cells before old new → Formed f level at t n → own_sites t ≡ [] → Ready f tab rows consts (level - 1) n (at + head_of t) node cells before old new
  ready_parts {level} {at} {n} {t} p g o =
      record {
        plan = plan_parts f p.plan g;
        present = p.present;
        previous = p.previous;
        same = p.same;
        room = omega (arith, segs_form f p.plan.reads g o, p.room);
        small = p.small;
        calls = (calls_form p g).1;
      }

  pub ready_pass : {level n at : ℕ} {old new : List ℕ} → Ready f tab rows consts level n at node cells before old new → Passable f rows level n at
  ready_pass p = plan_passable f p.plan (omega (arith, p.room, p.small))

  pub ready_seg : {level n at : ℕ} {old new : List ℕ} → Ready f tab rows consts level (suc n) at node cells before old new → seg_at f level at ≤ length old
  ready_seg {level} {n} {at} p = omega (arith, p.room, segs_cons f level n at p.plan.reads)

  -- the first is in the file, and has a level
  pub ready_inside : {level n at : ℕ} {old new : List ℕ} → Ready f tab rows consts level (suc n) at node cells before old new → at < length f
  ready_inside {level} {n} {at} p = reads_in f level at (plan_head f p.plan)

  pub ready_deep : {level n at : ℕ} {old new : List ℕ} → Ready f tab rows consts level (suc n) at node cells before old new → 0 < level
  ready_deep {level} {n} {at} p = reads_deep f level at (plan_head f p.plan)

  -- what it used is within the two states
  pub ready_fits : {level n at : ℕ} {old n₀ new : List ℕ} {w : Eval} {x : ℕ} {l : Step Outcome} → Ready f tab rows consts level (suc n) at node cells before old n₀ → Meets w x (seg_at f level at) old l new → l.used ≤ length old
  ready_fits p h = omega (arith, h.used_is, ready_seg p)

  pub ready_fits_new : {level n at : ℕ} {old n₀ new : List ℕ} {w : Eval} {x : ℕ} {l : Step Outcome} → Ready f tab rows consts level (suc n) at node cells before old n₀ → Meets w x (seg_at f level at) old l new → length new ≡ length n₀ → l.used ≤ length new
  ready_fits_new p h k = omega (arith, h.used_is, ready_seg p, k, ap length p.same)

-- what was evaluated at a place, and on a part, that are the caller's own by equations
pub moved : (f consts : List ℕ) (level node : ℕ) (first : Bool) (cells before : List ℕ) {p q : ℕ} {s s' : List ℕ} {r : Step Outcome} {new : List ℕ} → p ≡ q → s ≡ s' → EvalsTo f consts level p node first cells before s r new → EvalsTo f consts level q node first cells before s' r new
moved f consts level node first cells before {q = q} {s = s} {r = r} {new = new} e g h =
    subst (λ (y : List ℕ). EvalsTo f consts level q node first cells before y r new) g
    (subst (λ (x : ℕ). EvalsTo f consts level x node first cells before s r new) e h)

pub moved_untaken : (f consts : List ℕ) (level node : ℕ) (first : Bool) (cells before : List ℕ) {p q : ℕ} {s s' : List ℕ} {over : Bool} {new : List ℕ} → p ≡ q → s ≡ s' → UntakenTo f consts level p node first cells before s over new → UntakenTo f consts level q node first cells before s' over new
moved_untaken f consts level node first cells before {q = q} {s = s} {over = over} {new = new} e g h =
    subst (λ (y : List ℕ). UntakenTo f consts level q node first cells before y over new) g
    (subst (λ (x : ℕ). UntakenTo f consts level x node first cells before s over new) e h)

pub moved_choice : (f consts : List ℕ) (test : Bool) (level node : ℕ) (first : Bool) (cells before : List ℕ) {p q : ℕ} {s s' : List ℕ} {r : Step Outcome} {new : List ℕ} → p ≡ q → s ≡ s' → ChooseTo f consts test level p node first cells before s r new → ChooseTo f consts test level q node first cells before s' r new
moved_choice f consts test level node first cells before {q = q} {s = s} {r = r} {new = new} e g h =
    subst (λ (y : List ℕ). ChooseTo f consts test level q node first cells before y r new) g
    (subst (λ (x : ℕ). ChooseTo f consts test level x node first cells before s r new) e h)

-- two in sequence, and three
pub two_segs : (f : List ℕ) (level at : ℕ) → ReadsAll f level 2 at → segs_at f level 2 at ≡ seg_at f level at + seg_at f level (end_at f level at)
two_segs f level at h = segs_cons f level 1 at h ∙ ap (λ (m : ℕ). seg_at f level at + m) (segs_one f level (end_at f level at) (parted f level 1 at h).tail)

pub two_ends : (f : List ℕ) (level at : ℕ) → ReadsAll f level 2 at → ends_at f level 2 at ≡ end_at f level (end_at f level at)
two_ends f level at h = let p = parted f level 1 at h in p.ends ∙ (one_tree f level (end_at f level at) p.tail).1

-- what passing over one expression gives
pub skip_one : (f : List ℕ) (level at : ℕ) {q : Passed} → ReadsAll f level 1 at → SkipsTo f level 1 at q → Skips (has_call (expr_at f level at)) (end_at f level at) (seg_at f level at) q
skip_one f level at h k =
    record {
      next_is = k.next_is ∙ (one_tree f level at h).1;
      used_is = k.used_is ∙ segs_one f level at h;
      has_is = k.has_is ∙ ap (λ (ks : List ℕ). not (is_empty ks)) (callees_one f level at h);
    }

pub moved_skip : (f : List ℕ) (level n : ℕ) {p q : ℕ} {r : Passed} → p ≡ q → SkipsTo f level n p r → SkipsTo f level n q r
moved_skip f level n {r = r} e h = subst (λ (x : ℕ). SkipsTo f level n x r) e h

-- a real kind does not depend on the cells before
pub kind_scope : (g : Globals) (f : List ℕ) (node : ℕ) (a b : Bool) (cells x y : List ℕ) (e : Expr) → real_kind g (scope_in f node a cells x) e ≡ real_kind g (scope_in f node b cells y) e
kind_scope g f node a b cells x y (bool_lit c) = refl
kind_scope g f node a b cells x y (int_lit i) = refl
kind_scope g f node a b cells x y (float_lit c) = refl
kind_scope g f node a b cells x y (char_lit c) = refl
kind_scope g f node a b cells x y (var n) = refl
kind_scope g f node a b cells x y (unary op e) = kind_scope g f node a b cells x y e
kind_scope g f node a b cells x y (binary op l r) = (λ i. arithmetic op (join (kind_scope g f node a b cells x y l i) (kind_scope g f node a b cells x y r i)))
kind_scope g f node a b cells x y (if_then_else c t e) = (λ i. join (kind_scope g f node a b cells x y t i) (kind_scope g f node a b cells x y e i))
kind_scope g f node a b cells x y (pre e) = kind_scope g f node a b cells x y e
kind_scope g f node a b cells x y (arrow l r) = (λ i. join (kind_scope g f node a b cells x y l i) (kind_scope g f node a b cells x y r i))
kind_scope g f node a b cells x y (cast t e) = refl
kind_scope g f node a b cells x y (call k es) = refl
kind_scope g f node a b cells x y (tuple es) = refl
kind_scope g f node a b cells x y (index c i) = refl
kind_scope g f node a b cells x y (literal es) = refl
kind_scope g f node a b cells x y (map_over k es) = refl
kind_scope g f node a b cells x y (fold_over k c es) = refl

-- the outcome of a taken branch, where the other is at `at`
pub chosen_is : (f consts : List ℕ) (level node : ℕ) (first : Bool) (cells before : List ℕ) {p at : ℕ} (taken : Outcome) {r : Outcome} → p ≡ at → r ≡ common_out (is_double? (real_kind (globals_in f consts) (scope_in f node false cells cells) (expr_at f level p))) taken → r ≡ common_out (is_double? (real_kind (globals_in f consts) (scope_in f node first cells before) (expr_at f level at))) taken
chosen_is f consts level node first cells before {p} {at} taken e h =
    h ∙ ap (λ (x : ℕ). common_out (is_double? (real_kind (globals_in f consts) (scope_in f node false cells cells) (expr_at f level x))) taken) e
    ∙ ap (λ (k : RealKind). common_out (is_double? k) taken) (kind_scope (globals_in f consts) f node false first cells cells before (expr_at f level at))

-- ---- the expression at a place, by its form

module _ (f consts : List ℕ) (level at node : ℕ) (first : Bool) (cells before : List ℕ) where
  pub form_evals : {t : Expr} {n : ℕ} {old new : List ℕ} {r : Step Outcome} (W : List ℕ → Eval) → ReadsAll f level 1 at → Formed f level at t n → own_sites t ≡ [] → ((seg : List ℕ) → eval_in f consts node first cells before t seg ≡ W seg) → Meets (W (take (segs_at f (level - 1) n (at + head_of t)) old)) (ends_at f (level - 1) n (at + head_of t)) (segs_at f (level - 1) n (at + head_of t)) old r new → EvalsTo f consts level at node first cells before old r new
  form_evals {t} {n} {old} {new} {r} W h g o w m =
      let e : seg_at f level at ≡ segs_at f (level - 1) n (at + head_of t) = sym (segs_one f level at h) ∙ segs_form f h g o in
      subst (λ (k : ℕ). Meets (eval_in f consts node first cells before (expr_at f level at) (take k old)) (end_at f level at) k old r new) (sym e)
      (subst (λ (y : ℕ). Meets (eval_in f consts node first cells before (expr_at f level at) (take (segs_at f (level - 1) n (at + head_of t)) old)) y (segs_at f (level - 1) n (at + head_of t)) old r new) (sym g.ends)
      (subst (λ (x : Eval). Meets x (ends_at f (level - 1) n (at + head_of t)) (segs_at f (level - 1) n (at + head_of t)) old r new)
      (sym (ap (λ (x : Expr). eval_in f consts node first cells before x (take (segs_at f (level - 1) n (at + head_of t)) old)) g.tree ∙ w (take (segs_at f (level - 1) n (at + head_of t)) old))) m))

  -- a form with one part
  pub one_evals : {t : Expr} {old new : List ℕ} {r : Step Outcome} (W : List ℕ → Eval) → ReadsAll f level 1 at → Formed f level at t 1 → own_sites t ≡ [] → ((seg : List ℕ) → eval_in f consts node first cells before t seg ≡ W seg) → Meets (W (take (seg_at f (level - 1) (at + head_of t)) old)) (end_at f (level - 1) (at + head_of t)) (seg_at f (level - 1) (at + head_of t)) old r new → EvalsTo f consts level at node first cells before old r new
  one_evals {t} {old} {new} {r} W h g o w m =
      let s = at + head_of t in
      form_evals W h g o w
      (subst (λ (k : ℕ). Meets (W (take k old)) (ends_at f (level - 1) 1 s) k old r new) (sym (segs_one f (level - 1) s g.read))
      (subst (λ (y : ℕ). Meets (W (take (seg_at f (level - 1) s) old)) y (seg_at f (level - 1) s) old r new) (sym (one_tree f (level - 1) s g.read).1) m))

  -- a form of which no part is evaluated leaves its segment
  leaf_seg : Reads f level at → Leaf (get_or f at 0) → (seg : List ℕ) → (eval_in f consts node first cells before (expr_at f level at) seg).seg ≡ seg
  unfolding eval
  leaf_seg h =
      by_form f (λ c e. Leaf c → (seg : List ℕ) → (eval_in f consts node first cells before e seg).seg ≡ seg)
      (λ b l seg. refl) (λ i l seg. refl) (λ b l seg. refl) (λ c l seg. refl) (λ x l seg. refl) (λ op e l seg. absurd (l.no_unary refl)) (λ op a b l seg. absurd (l.no_binary refl))
      (λ c t e l seg. absurd (l.no_if refl)) (λ e l seg. refl) (λ a b l seg. absurd (l.no_arrow refl)) (λ t e l seg. absurd (l.no_cast refl)) (λ k es l seg. absurd (l.no_call refl)) (λ es l seg. refl)
      (λ a i l seg. absurd (l.no_index refl)) (λ es l seg. refl) (λ k es l seg. absurd (l.no_iterator refl)) (λ k e es l seg. absurd (l.no_iterator refl)) level at h

  pub leaf_evals : {old new : List ℕ} {q : Passed} {o : Outcome} → ReadsAll f level 1 at → Reads f level at → Leaf (get_or f at 0) → new ≡ old → SkipsTo f level 1 at q → ((seg : List ℕ) → o ≡ (eval_in f consts node first cells before (expr_at f level at) seg).out) → EvalsTo f consts level at node first cells before old (record { out = o; next = q.next; used = q.used }) new
  leaf_evals {old} h r l e q w =
      let k = skip_one f level at h q in
      let n = seg_at f level at in
      record {
        out = w (take n old);
        next_is = k.next_is;
        used_is = k.used_is;
        state = e ∙ sym (take-append-drop n old) ∙ ap (λ (x : List ℕ). x ++ drop n old) (sym (leaf_seg r l (take n old)));
      }

  -- a Var yields its present value
  pub var_evals : {old new : List ℕ} {o : Outcome} → ReadsAll f level 1 at → Reads f level at → get_or f at 0 ≡ 4 → new ≡ old → o ≡ or_failure (present_of (globals_in f consts) (scope_in f node false cells cells) (name_at f (at + 1))) → EvalsTo f consts level at node first cells before old (record { out = o; next = at + 3; used = 0 }) new
  unfolding eval sites_size
  var_evals {old} h r c e w =
      let z = none_read f (level - 1) (at + 3) in
      form_evals {old = old} (λ (seg : List ℕ). record { out = or_failure (present_of (globals_in f consts) (scope_in f node false cells cells) (name_at f (at + 1))); seg = seg }) h (var_form f level at r c) refl (λ seg. refl) (record { out = w; next_is = sym z.1; used_is = sym (ap (λ (es : Exprs). sites_size (sizes_in f) (callees_all es)) z.0); state = e ∙ sym (take-append-drop (segs_at f (level - 1) 0 (at + 3)) old) })

-- what was evaluated on just its segment
pub fronted : (f consts : List ℕ) (level at node : ℕ) (first : Bool) (cells before s : List ℕ) {over : Bool} {new : List ℕ} → UntakenTo f consts level at node first cells before (take (seg_at f level at) s) over new → Untaken (eval_in f consts node first cells before (expr_at f level at) (take (seg_at f level at) s)) (seg_at f level at) (take (seg_at f level at) s) over new
fronted f consts level at node first cells before s {over} {new} h =
    let n = seg_at f level at in
    subst (λ (x : List ℕ). Untaken (eval_in f consts node first cells before (expr_at f level at) x) n (take n s) over new) (take-take n n s (omega arith)) h

-- ---- operators by their codes

pub unary_out_is : (b : ℕ) (op : UnaryOp) (o : Outcome) {r : Outcome} → get_elem? unary_ops b ≡ some op → r ≡ then_out (unary_by b) o → r ≡ then_out (unary_of op) o
unary_out_is b op o e h = h ∙ ap (λ (q : Option UnaryOp). then_out (λ v. maybe (Out.Failure Why.Other) (λ p. unary_of p v) q) o) e

pub cast_out_is : (c : ℕ) (t : Ty) (o : Outcome) {r : Outcome} → Proper t → ty_code t ≡ c → ((e : ℕ) → r ≡ then_out (cast_to (ty_of c e)) o) → r ≡ then_out (cast_to t) o
cast_out_is c t o p e h = h (ty_enum t) ∙ ap (λ (d : ℕ). then_out (cast_to (ty_of d (ty_enum t))) o) (sym e) ∙ ap (λ (u : Ty). then_out (cast_to u) o) (proper_type t p)

pub binary_is : (b : ℕ) (op : BinOp) → get_elem? bin_ops b ≡ some op → (w : Eval) (K : List ℕ → Eval) (rest : List ℕ) → next w (λ v s. map_eval (binary_of op v) (K s)) rest ≡ next w (λ v s. map_eval (binary_by b v) (K s)) rest
binary_is b op e w K rest = ap (λ (q : Option BinOp). next w (λ v s. map_eval (λ x. maybe (Out.Failure Why.Other) (λ p. binary_of p v x) q) (K s)) rest) (sym e)

-- the branch that the test takes
pub first_is : (f consts : List ℕ) (level at node : ℕ) (first test : Bool) (cells before s : List ℕ) → first ≡ test → choose_in f consts first level at node first cells before s ≡ choose_in f consts test level at node first cells before s
first_is f consts level at node first test cells before s e = ap (λ (b : Bool). choose_in f consts b level at node first cells before s) e

-- the bytes of a cast's type
pub cast_size : (s : List ℕ) (p : ℕ) (t : Ty) → ty_code t ≡ get_or s p 0 → ty_size t ≡ cond (eqb (get_or s p 0) 12) 2 1 → Proper t → ty_size_at s p ≡ ty_size t
cast_size s p t e z o = ap (λ (b : Bool). cond b (2 + scalar_size_at s (p + 2)) (scalar_size_at s p)) (ne_eqb (get_or s p 0) 13 (λ x. other t o (e ∙ x))) ∙ sym z
  where
    other : (t : Ty) → Proper t → ¬ (ty_code t ≡ 13)
    other bool o x = omega arith
    other (int c) o x = omega (arith, o.1, x)
    other float32 o x = omega arith
    other float64 o x = omega arith
    other char o x = omega arith
    other (enum e) o x = omega arith

-- a form that is none of those with parts that are evaluated
pub leaf_form : {code : ℕ} {form : Form} → min code 15 ≡ code_of_form form → ¬ (form ≡ Frm.Unary) → ¬ (form ≡ Frm.Binary) → ¬ (form ≡ Frm.If) → ¬ (form ≡ Frm.Arrow) → ¬ (form ≡ Frm.Cast) → ¬ (form ≡ Frm.Call) → ¬ (form ≡ Frm.Index) → ¬ (form ≡ Frm.Iterator) → Leaf code
leaf_form h a b c d e f g i =
    record {
      no_unary = λ x. a (form_is Frm.Unary h x);
      no_binary = λ x. b (form_is Frm.Binary h x);
      no_if = λ x. c (form_is Frm.If h x);
      no_arrow = λ x. d (form_is Frm.Arrow h x);
      no_cast = λ x. e (form_is Frm.Cast h x);
      no_call = λ x. f (form_is Frm.Call h x);
      no_index = λ x. g (form_is Frm.Index h x);
      no_iterator = λ x. i (form_is Frm.Iterator h x);
    }
