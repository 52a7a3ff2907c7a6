-- The numbers that each call answers, and where a cycle can stop: specs/Faults' claim.
use Prim.Native.Nat.{ℕ, zero, suc, ◌+◌, ◌-◌, ◌<◌, ◌≤◌}
use mathlib.Core.Bool.{Bool, true, false, not, ◌&&◌, cond}
use mathlib.Core.List.Memᴰ.{head as here}
use mathlib.Core.List.Memᴰ.{not-nil as in_nil}
use mathlib.Core.List.Memᴰ.{tail as there}
use mathlib.Core.List.{List, [], ◌∷◌, ◌++◌}
use mathlib.Core.Logic.{◌⊎◌, inl, inr, ⊎_elim, by_cases}
use mathlib.Core.Option.{Option, none, some}
use mathlib.Core.Path.{◌≡◌, refl, sym, ap, subst, ◌∙◌}
use native.Mathlib.Omega.{arith}
use native.Mathlib.Decide.{ℕ_discrete}
use lib.ListN.{length, get_or, get_elem?}
use lib.Dec.{T, ltb, leb, eqb}
use Rattle.ol_theory.specs.Member.{◌∈◌}
use Rattle.ol_spec.specs.Lists.{up_to, member}
use Rattle.ol_spec.specs.Syntax.{Expr, Exprs, cons, Node, File, no_node, last_of, main}
use Rattle.ol_spec.specs.Read.{Read, got, fault, Reader, then_read, give, known, many, many_exprs, bools, unary_ops, bin_ops, node_kinds, TyCode, bool_t}
use Rattle.ol_spec.specs.Read.{float32_t, float64_t, char_t, enum_t, int_t, ty_codes, ExprCode, bool_code, int_code, float_code, char_code, var_code, unary_code}
use Rattle.ol_spec.specs.Read.{binary_code, if_code, pre_code, arrow_code, cast_code, call_code, tuple_code, expr_codes, or_end, byte, number, coded, index_code, literal_code, iterator_code, VarTyCode, scalar_t, array_t, var_ty_codes, var_ty_body, var_ty_r, Iterator, maps, folds, iterators, iterator_body}
use Rattle.ol_spec.specs.Read.{within?, count_r, section_r, ty_body, ty_r, expr_body, expr_r, variable_r, constant_r, equation_r, node_r, sections_r}
use Rattle.ol_spec.specs.Read.{at_end, unless_long, read_file}
use Rattle.ol_spec.specs.Limits.{Loader}
use Rattle.ol_spec.specs.declared.Limits.{Limits}
use Rattle.ol_spec.specs.Order.{passes, order, unplaced}
use Rattle.ol_spec.specs.Places.{placed_nodes}
use Rattle.ol_spec.specs.Eval.{Globals, Calls, Outcomes, values, failure, overflow}
use Rattle.ol_spec.specs.Step.{Ended, finished, failed_at, overflowed_at, store, store_on, eval_equation, run_all, run}
use Rattle.ol_spec.specs.Admission.{Judged, refused, admitted, refuse_at, refuse_first, judge_read, judge, verdict, faults, state_size}
use Rattle.ol_spec.specs.State.{good_state, good_inputs}
use Rattle.ol_spec.specs.Cycle.{order_fits, order_unless_ring, order_node, order_read, ordering, start_fits, start_judged, start, end_on, main_run, cycle_unless, fits17, cycle_judged, cycle}
use Rattle.ol_spec.specs.Faults.{From, refusal_numbers, Numbered, Inside, NumbersClaim}
use Rattle.ol_spec.specs.declared.Value.{Value}
use Rattle.ol_spec.specs.declared.Fault.{Fault}
use Rattle.ol_spec.specs.declared.Cause.TheVariants as Why
use Rattle.std.specs.Prelude.{Err, Result}
use Rattle.ol_spec.specs.declared.Cycled.{Cycled}
use Rattle.ol_spec.specs.declared.Cycled.TheVariants as Cyc
use Rattle.ol_spec.proofs.Tests.{T-or, or_left, or_right, eq_eqb}
use Rattle.ol_spec.proofs.Lists.{All}
use Rattle.ol_spec.proofs.Ordering.{Placed}
use Rattle.ol_spec.proofs.Admits.{admits}
use Rattle.ol_spec.proofs.Admitted.{node_placed}
use Rattle.ol_spec.proofs.MainFacts.{main_at_lem}
use Rattle.ol_spec.proofs.States.{same_refused}

-- ---- reading: 1 to 5

abbrev pub Low : {A : Type 0} → Read A → Type 0
Low (got a at) = Unit {0}
Low (fault n p) = (1 ≤ n) × (n ≤ 5)

record Lows {A : Type 0} (r : Reader A) : Type 0 where
  is : (at : ℕ) → Low (r at)

module _ {A B : Type 0} where
  then_low : (r : Read A) (k : A → Reader B) → Low r → ((a : A) → Lows (k a)) → Low (then_read r k)
  unfolding then_read
  then_low (got a at) k h f = (f a).is at
  then_low (fault n p) k h f = h

  bind : {r : Reader A} {k : A → Reader B} → Lows r → ((a : A) → Lows (k a)) → Lows (λ at. then_read (r at) k)
  bind {r} {k} h f = record { is = λ at. then_low (r at) k (h.is at) f }

module _ {A : Type 0} where
  given : (a : A) → Lows (give a)
  given a = record { is = λ at. tt }

  known_low : (place : ℕ) (o : Option A) → Lows (known place o)
  known_low place none = record { is = λ at. (omega arith, omega arith) }
  known_low place (some b) = record { is = λ at. tt }

many_low : {A : Type 0} (k : ℕ) {r : Reader A} → Lows r → Lows (many k r)
unfolding many
many_low zero h = given []
many_low (suc k) h = bind h (λ x. bind (many_low k h) (λ xs. given (x ∷ xs)))

many_exprs_low : (k : ℕ) {r : Reader Expr} → Lows r → Lows (many_exprs k r)
unfolding many_exprs
many_exprs_low zero h = given Exprs.nil
many_exprs_low (suc k) h = bind h (λ x. bind (many_exprs_low k h) (λ xs. given (cons x xs)))

module _ (s : List ℕ) where
  end_low : (o : Option ℕ) (at : ℕ) → Low (or_end s o at)
  end_low none at = (omega arith, omega arith)
  end_low (some b) at = tt

  byte_low : Lows (byte s)
  unfolding byte
  byte_low = record { is = λ at. end_low (get_elem? s at) at }

  number_low : (k n : ℕ) → Lows (number s k n)
  unfolding number
  number_low zero n = given n
  number_low (suc k) n = bind byte_low (λ b. number_low k _)

  coded_low : {A : Type 0} (table : List A) → Lows (coded s table)
  unfolding coded
  coded_low table = record { is = λ at. then_low (byte s at) _ (byte_low.is at) (λ b. known_low at (get_elem? table b)) }

  within_low : (b : Bool) (place n : ℕ) → Lows (within? s b place n)
  within_low true place n = record { is = λ at. tt }
  within_low false place n = record { is = λ at. (omega arith, omega arith) }

  count_low : (lo hi : ℕ) → Lows (count_r s lo hi)
  unfolding count_r
  count_low lo hi = record { is = λ at. then_low (byte s at) _ (byte_low.is at) (λ n. within_low (leb lo n && leb n hi) at n) }

  section_low : {A : Type 0} (lo hi : ℕ) {r : Reader A} → Lows r → Lows (section_r s lo hi r)
  section_low lo hi h = bind (count_low lo hi) (λ n. many_low n h)

  module _ (l : Limits) (enums : ℕ) where
    ty_body_low : (c : TyCode) → Lows (ty_body s l enums c)
    ty_body_low bool_t = given _
    ty_body_low float32_t = given _
    ty_body_low float64_t = given _
    ty_body_low char_t = given _
    ty_body_low enum_t = bind (coded_low (up_to enums)) (λ e. given _)
    ty_body_low (int_t c) = given _

    ty_low : Lows (ty_r s l enums)
    ty_low = bind (coded_low ty_codes) ty_body_low

    var_ty_body_low : (c : VarTyCode) → Lows (var_ty_body s l enums c)
    var_ty_body_low (scalar_t c) = bind (ty_body_low c) (λ t. given _)
    var_ty_body_low array_t = bind (count_low 1 l.elements) (λ n. bind ty_low (λ t. given _))

    var_ty_low : Lows (var_ty_r s l enums)
    var_ty_low = bind (coded_low var_ty_codes) var_ty_body_low

    module _ {r : Reader Expr} (hr : Lows r) where
      iterator_low : (k n : ℕ) (w : Iterator) → Lows (iterator_body s l enums r k n w)
      iterator_low k n maps = bind (many_exprs_low n hr) (λ es. given _)
      iterator_low k n folds = bind hr (λ e. bind (many_exprs_low n hr) (λ es. given _))

      body_low : (c : ExprCode) → Lows (expr_body s l enums r c)
      body_low bool_code = bind (coded_low bools) (λ b. given _)
      body_low int_code = bind (number_low 8 0) (λ n. given _)
      body_low float_code = bind (number_low 8 0) (λ n. given _)
      body_low char_code = bind byte_low (λ c. given _)
      body_low var_code = bind (number_low 2 0) (λ x. given _)
      body_low unary_code = bind (coded_low unary_ops) (λ op. bind hr (λ e. given _))
      body_low binary_code = bind (coded_low bin_ops) (λ op. bind hr (λ a. bind hr (λ b. given _)))
      body_low if_code = bind hr (λ c. bind hr (λ a. bind hr (λ b. given _)))
      body_low pre_code = bind hr (λ e. given _)
      body_low arrow_code = bind hr (λ a. bind hr (λ b. given _))
      body_low cast_code = bind ty_low (λ t. bind hr (λ e. given _))
      body_low call_code = bind byte_low (λ k. bind (count_low 0 l.arguments) (λ n. bind (many_exprs_low n hr) (λ es. given _)))
      body_low tuple_code = bind (count_low 2 l.items) (λ n. bind (many_exprs_low n hr) (λ es. given _))
      body_low index_code = bind hr (λ a. bind hr (λ i. given _))
      body_low literal_code = bind (count_low 1 l.elements) (λ n. bind (many_exprs_low n hr) (λ es. given _))
      body_low iterator_code = bind (coded_low iterators) (λ w. bind byte_low (λ k. bind (count_low 0 l.arrays) (λ n. iterator_low k n w)))

    expr_low : (k : ℕ) → Lows (expr_r s l enums k)
    unfolding expr_r
    expr_low zero = record { is = λ at. then_low (coded s expr_codes at) _ ((coded_low expr_codes).is at) (λ c. record { is = λ next. (omega arith, omega arith) }) }
    expr_low (suc k) = record { is = λ at. then_low (coded s expr_codes at) _ ((coded_low expr_codes).is at) (body_low (expr_low k)) }

    variable_low : Lows (variable_r s l enums)
    variable_low = bind (number_low 2 0) (λ x. bind var_ty_low (λ t. given _))

    constant_low : Lows (constant_r s l enums)
    constant_low = bind (number_low 2 0) (λ x. bind var_ty_low (λ t. bind (expr_low l.nesting) (λ e. given _)))

    equation_low : Lows (equation_r s l enums)
    equation_low = bind (section_low 1 l.names (number_low 2 0)) (λ xs. bind (expr_low l.nesting) (λ e. given _))

    node_low : Lows (node_r s l enums)
    node_low =
        bind (coded_low node_kinds)
        (λ k. bind (section_low 0 l.inputs variable_low)
        (λ is. bind (section_low 1 l.outputs variable_low)
        (λ os. bind (section_low 0 l.locals variable_low) (λ ls. bind (section_low 0 l.equations equation_low) (λ qs. given _)))))

  sections_low : (b : ℕ) (l : Limits) → Lows (sections_r s b l)
  sections_low b l =
      bind (section_low 0 l.enums (section_low 1 l.variants (number_low 2 0)))
      (λ es. bind (section_low 0 l.constants (constant_low l (length es))) (λ cs. bind (section_low 1 l.nodes (node_low l (length es))) (λ ns. given _)))

  at_end_low : (f : File) → Lows (at_end s f)
  at_end_low f = record { is = λ at. go (ltb at (length s)) at }
    where
      go : (b : Bool) (at : ℕ) → Low {A = File} (cond b (fault 2 at) (got f at))
      go true at = (omega arith, omega arith)
      go false at = tt

  pub file_low : (ld : Loader) → Low (read_file s ld)
  unfolding read_file
  file_low ld = go (ltb ld.file_bytes (length s))
    where
      go : (b : Bool) → Low (unless_long s b ld)
      go true = (omega arith, omega arith)
      go false = (bind byte_low (λ b. bind (known_low 0 (ld.limits b)) (λ l. bind (sections_low b l) at_end_low))).is 0

-- ---- admission: 1 to 14, and 22

abbrev Refusing : ℕ → Type 0
Refusing n = ((1 ≤ n) × (n ≤ 14)) ⊎ (n ≡ 22)

abbrev LowJudged : Judged → Type 0
LowJudged (refused n p) = Refusing n
LowJudged (admitted f vs) = Unit {0}

refuse_low : (n : ℕ) (o : Option ℕ) (j : Judged) → Refusing n → LowJudged j → LowJudged (refuse_at n o j)
refuse_low n none j a h = h
refuse_low n (some p) j a h = a

first_low : (xs : List (ℕ × Option ℕ)) (j : Judged) → All (λ x. Refusing x.0) xs → LowJudged j → LowJudged (refuse_first xs j)
first_low [] j a h = h
first_low (x ∷ xs) j a h = refuse_low x.0 x.1 _ a.0 (first_low xs j a.1 h)

numbers_low : (ld : Loader) (f : File) → All (λ x. Refusing x.0) (faults ld f)
numbers_low ld f = (inl (omega arith, omega arith), (inl (omega arith, omega arith), (inl (omega arith, omega arith), (inl (omega arith, omega arith), (inl (omega arith, omega arith), (inr refl, (inl (omega arith, omega arith), (inl (omega arith, omega arith), (inl (omega arith, omega arith), (inl (omega arith, omega arith), tt))))))))))

judge_low : (ld : Loader) (s : List ℕ) → LowJudged (judge ld s)
unfolding judge
judge_low ld s = go (read_file s ld) (file_low s ld)
  where
    go : (r : Read File) → Low r → LowJudged (judge_read ld r)
    go (got f at) h = first_low (faults ld f) _ (numbers_low ld f) tt
    go (fault n p) h = inl (h.0, omega (arith, h.1))

-- ---- where a run ends

abbrev EndIn : List ℕ → Ended → Type 0
EndIn is finished = Unit {0}
EndIn is (failed_at c i) = i ∈ is
EndIn is (overflowed_at i) = i ∈ is

end_later : (i : ℕ) (is : List ℕ) (e : Ended) → EndIn is e → EndIn (i ∷ is) e
end_later i is finished h = tt
end_later i is (failed_at c j) h = there h
end_later i is (overflowed_at j) h = there h

module _ (g : Globals) (calls : Calls) (n : Node) (first : Bool) (before : List Value) where
  run_ends : (is : List ℕ) (cs : List Value) (ss : List (List ℕ)) → EndIn is (run_all g calls n first before is cs ss).end
  unfolding run_all store
  run_ends [] cs ss = tt
  run_ends (i ∷ is) cs ss = go (eval_equation g calls n first before cs i (get_or ss i [])).out (λ cs ss. end_later i is (run_all g calls n first before is cs ss).end (run_ends is cs ss))
    where
      go : (o : Outcomes) → ((cs : List Value) (ss : List (List ℕ)) → EndIn (i ∷ is) (run_all g calls n first before is cs ss).end)
          → EndIn (i ∷ is) (store_on n i o (eval_equation g calls n first before cs i (get_or ss i [])).seg (run_all g calls n first before is) cs ss).end
      go (values vs) h = h _ _
      go (failure c) h = here refl
      go overflow h = here refl

main_ends : (f : File) (vs : List Value) (old ins : List ℕ) → EndIn (order (main f).equations) (main_run f vs old ins).end
unfolding main_run run
main_ends f vs old ins = run_ends _ _ (main f) _ _ (order (main f).equations) _ _

last_placed : (ns : List Node) → ((k : ℕ) → k < length ns → Placed (get_or ns k no_node).equations) → (i : ℕ) → i ∈ order (last_of ns).equations → i < length (last_of ns).equations
unfolding order passes
last_placed [] p i m = absurd (in_nil m)
last_placed (n ∷ ns) p i m =
    subst (λ (x : Node). i ∈ order x.equations → i < length x.equations) (sym (main_at_lem (n ∷ ns) (omega arith))) ((p (length (n ∷ ns) - 1) (omega arith)).valid.inside i) m

-- ---- the claim

same_err : {A : Type 0} {x y : Fault} → ◌≡◌ {A = Result A Fault} (Err x) (Err y) → x ≡ y
same_err e = cc

same_stopped : {x y : Fault} → Cyc.Stopped x ≡ Cyc.Stopped y → x ≡ y
same_stopped e = cc

admission_numbers : (j : Judged) → LowJudged j → (x : Fault) → verdict j ≡ Err x → From 1 14 x ⊎ (x.number ≡ 22)
admission_numbers (refused n p) h x e = subst (λ x. From 1 14 x ⊎ (x.number ≡ 22)) (same_err e) h
admission_numbers (admitted f vs) h x e = let z : ◌≡◌ {A = ℕ} 0 1 = cc in absurd (omega arith)

abbrev Ordered : Fault → Type 0
Ordered x = From 1 5 x ⊎ ((x.number ≡ 11) ⊎ (x.number ≡ 17))

ordering_numbers : (r : Read File) → Low r → (k : ℕ) (buf : List ℕ) (x : Fault) → (order_read r k buf).answer ≡ Err x → Ordered x
ordering_numbers (fault n p) h k buf x e = inl (subst (From 1 5) (same_err e) h)
ordering_numbers (got f at) h k buf x e = node (get_elem? (placed_nodes f) k) e
  where
    fits : (b : Bool) (n : Node) → (order_fits b n buf).answer ≡ Err x → Ordered x
    fits true n e = let z : ◌≡◌ {A = ℕ} 0 1 = cc in absurd (omega arith)
    fits false n e = inr (inr (ap (λ (y : Fault). y.number) (sym (same_err e))))

    ring : (o : Option ℕ) (n : ℕ × Node) → (order_unless_ring o n buf).answer ≡ Err x → Ordered x
    ring (some i) n e = inr (inl (ap (λ (y : Fault). y.number) (sym (same_err e))))
    ring none n e = fits (eqb (length buf) (length n.1.equations)) n.1 e

    node : (o : Option (ℕ × Node)) → (order_node o buf).answer ≡ Err x → Ordered x
    node none e = inl (subst (From 1 5) (same_err e) (omega arith, omega arith))
    node (some n) e = ring (unplaced n.1.equations) n e

start_numbers : (j : Judged) → LowJudged j → (st : List ℕ) (x : Fault) → (start_judged j st).answer ≡ Err x → From 1 14 x ⊎ ((x.number ≡ 17) ⊎ (x.number ≡ 22))
start_numbers (refused n p) h st x e = ⊎_elim (λ h. inl (subst (From 1 14) (same_err e) h)) (λ h. inr (inr (ap (λ (y : Fault). y.number) (sym (same_err e)) ∙ h))) h
start_numbers (admitted f vs) h st x e = fits (eqb (length st) (state_size f)) e
  where
    fits : (b : Bool) → (start_fits b f vs st).answer ≡ Err x → From 1 14 x ⊎ ((x.number ≡ 17) ⊎ (x.number ≡ 22))
    fits true e = let z : ◌≡◌ {A = ℕ} 0 1 = cc in absurd (omega arith)
    fits false e = inr (inl (ap (λ (y : Fault). y.number) (sym (same_err e))))

module _ (f : File) (vs : List Value) (old ins new vals : List ℕ) where
  refused_run : (e : Ended) (cs : List Value) (ss : List (List ℕ)) (x : Fault) → (end_on f old vals e cs ss).answer ≡ Cyc.Refused x → ⊥
  refused_run finished cs ss x e = let z : ◌≡◌ {A = ℕ} 0 1 = cc in omega arith
  refused_run (failed_at c i) cs ss x e = let z : ◌≡◌ {A = ℕ} 0 1 = cc in omega arith
  refused_run (overflowed_at i) cs ss x e = let z : ◌≡◌ {A = ℕ} 0 1 = cc in omega arith

  unless_refused : (a b c : Bool) (x : Fault) → (cycle_unless a b c f vs old ins new vals).answer ≡ Cyc.Refused x → From 1 17 x
  unless_refused true b c x e = subst (From 1 17) (same_refused e) (omega arith, omega arith)
  unless_refused false true c x e = subst (From 1 17) (same_refused e) (omega arith, omega arith)
  unless_refused false false true x e = subst (From 1 17) (same_refused e) (omega arith, omega arith)
  unless_refused false false false x e = absurd (refused_run (main_run f vs old ins).end _ _ x e)

  abbrev Stops : Fault → Type 0
  Stops x = From 18 21 x × (x.place ∈ order (main f).equations)

  stopped_run : (e : Ended) (cs : List Value) (ss : List (List ℕ)) → EndIn (order (main f).equations) e → (x : Fault) → (end_on f old vals e cs ss).answer ≡ Cyc.Stopped x → Stops x
  stopped_run finished cs ss h x e = let z : ◌≡◌ {A = ℕ} 0 1 = cc in absurd (omega arith)
  stopped_run (failed_at Why.Cold i) cs ss h x e = subst Stops (same_stopped e) ((omega arith, omega arith), h)
  stopped_run (failed_at Why.Range i) cs ss h x e = subst Stops (same_stopped e) ((omega arith, omega arith), h)
  stopped_run (failed_at Why.Other i) cs ss h x e = subst Stops (same_stopped e) ((omega arith, omega arith), h)
  stopped_run (overflowed_at i) cs ss h x e = subst Stops (same_stopped e) ((omega arith, omega arith), h)

  unless_stopped : (a b c : Bool) (x : Fault) → (cycle_unless a b c f vs old ins new vals).answer ≡ Cyc.Stopped x → Stops x
  unless_stopped true b c x e = let z : ◌≡◌ {A = ℕ} 0 1 = cc in absurd (omega arith)
  unless_stopped false true c x e = let z : ◌≡◌ {A = ℕ} 0 1 = cc in absurd (omega arith)
  unless_stopped false false true x e = let z : ◌≡◌ {A = ℕ} 0 1 = cc in absurd (omega arith)
  unless_stopped false false false x e = stopped_run (main_run f vs old ins).end _ _ (main_ends f vs old ins) x e

cycle_refused : (j : Judged) → LowJudged j → (old ins new vals : List ℕ) (x : Fault) → (cycle_judged j old ins new vals).answer ≡ Cyc.Refused x → From 1 17 x ⊎ (x.number ≡ 22)
cycle_refused (refused n p) h old ins new vals x e =
    ⊎_elim (λ h. inl (subst (From 1 17) (same_refused e) (h.0, omega (arith, h.1)))) (λ h. inr (ap (λ (y : Fault). y.number) (sym (same_refused e)) ∙ h)) h
cycle_refused (admitted f vs) h old ins new vals x e = inl (unless_refused f vs old ins new vals (not (good_state f vs old)) (not (good_inputs f ins)) (not (fits17 f new vals)) x e)

cycle_stopped : (ld : Loader) (s : List ℕ) (j : Judged) → judge ld s ≡ j → (old ins new vals : List ℕ) (x : Fault) → (cycle_judged j old ins new vals).answer ≡ Cyc.Stopped x
    → From 18 21 x × Inside ld s x.place
cycle_stopped ld s (refused n p) h old ins new vals x e = let z : ◌≡◌ {A = ℕ} 0 1 = cc in absurd (omega arith)
cycle_stopped ld s (admitted f vs) h old ins new vals x e =
    let w = unless_stopped f vs old ins new vals (not (good_state f vs old)) (not (good_inputs f ins)) (not (fits17 f new vals)) x e in
    (w.0, record { file = f; constants = vs; is = h; below = last_placed f.nodes (node_placed f (admits ld s f vs h).no11) x.place w.1 })

-- the numbers from the first to the second are those of the list
abbrev counted : ℕ → ℕ → List ℕ
counted low zero = []
counted low (suc k) = low ∷ counted (suc low) k

among : (low k n : ℕ) → low ≤ n → n < low + k → T (member n (counted low k))
among low zero n l h = absurd (omega arith)
among low (suc k) n l h =
    by_cases (ℕ_discrete n low) (λ e. or_left (eqb n low) _ (eq_eqb n low e)) (λ e. or_right (eqb n low) _ (among (suc low) k n (omega arith) (omega arith)))

among_refused : (n : ℕ) → ((1 ≤ n) × (n ≤ 17)) ⊎ (n ≡ 22) → T (member n refusal_numbers)
among_refused n h = ⊎_elim (λ w. later n (counted 1 17) (among 1 17 n w.0 (omega (arith, w.1)))) (λ e. subst (λ n. T (member n refusal_numbers)) (sym e) tt) h
  where
    later : (n : ℕ) (l : List ℕ) → T (member n l) → T (member n (l ++ 22 ∷ []))
    later n [] t = absurd t
    later n (x ∷ l) t = ⊎_elim (λ a. or_left (eqb n x) _ a) (λ b. or_right (eqb n x) _ (later n l b)) (T-or (eqb n x) _ t)

-- A stopped cycle's number is one of 18 to 21, a refused one's one of 1 to 17 or 22.
pub stop_numbers_lem : (ld : Loader) (s old ins new vals : List ℕ) → Numbered (cycle ld s old ins new vals).answer
unfolding cycle
stop_numbers_lem ld s old ins new vals = go (cycle ld s old ins new vals).answer refl
  where
    go : (a : Cycled) → (cycle ld s old ins new vals).answer ≡ a → Numbered a
    go Cyc.Answered e = tt
    go (Cyc.Stopped x) e = let w = (cycle_stopped ld s (judge ld s) refl old ins new vals x e).0 in among 18 4 x.number w.0 (omega (arith, w.1))
    go (Cyc.Refused x) e = let w = cycle_refused (judge ld s) (judge_low ld s) old ins new vals x e in among_refused x.number w

-- Each call's numbers, and a stopped cycle's place.
pub numbers_claim : (ld : Loader) → NumbersClaim ld
unfolding ordering start cycle
numbers_claim ld =
    record {
      admission = λ s. admission_numbers (judge ld s) (judge_low ld s);
      ordering = λ s k buf. ordering_numbers (read_file s ld) (file_low s ld) k buf;
      start = λ s st. start_numbers (judge ld s) (judge_low ld s) st;
      stopped = λ s old ins new vals x e. (cycle_stopped ld s (judge ld s) refl old ins new vals x e).1;
      numbered = stop_numbers_lem ld;
    }
