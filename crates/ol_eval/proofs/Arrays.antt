-- Laws of arrays in evaluations: what is made of cells, the sides of Eq and Neq, and an index.
use Prim.Native.Nat.{ℕ, zero, suc, ◌+◌, ◌≤◌}
use mathlib.Core.Bool.{Bool, true, false, ◌||◌}
use mathlib.Core.List.{List, ◌++◌}
use mathlib.Core.Logic.{by_cases}
use native.Mathlib.Decide.{ℕ_discrete}
use borrow.Author.Tests.{ne_eqb}
use mathlib.Core.Option.{Option, none, some}
use mathlib.Core.Path.{◌≡◌, refl, sym, ap, subst, ◌∙◌}
use native.Mathlib.Omega.{arith}
use borrow.Author.Tests.{lt-ltb}
use lib.Dec.{ltb}
use lib.ListN.{length, take, drop, get_elem?}
use Rattle.ol_spec.specs.Lists.{maybe, is_some}
use Rattle.ol_spec.specs.Operators.{bool_out, binary_of}
use Rattle.ol_spec.specs.Syntax.{BinOp, And, Or, Xor, Implies, Eq, Neq, Lt, Le, Gt, Ge, Add, Sub, Mul, Div, Mod, BitAnd, BitOr, BitXor, Shl, Shr, binary}
use Rattle.ol_spec.specs.Read.{bin_ops}
use Rattle.ol_spec.specs.Cell.{values_of}
use Rattle.ol_spec.specs.Eval.{Eval, Evals, Outcomes, values, failure, overflow, next_cells, next_cells_on, then_cells, map_cells, map_eval, then_out, next, arrays_or, compare_cells, equality, equal_cells, index_of, eval, has_call}
use Rattle.ol_spec.specs.declared.Value.{Value}
use Rattle.ol_spec.specs.declared.Value.TheVariants as Val
use Rattle.ol_spec.specs.declared.Outcome.{Outcome}
use Rattle.ol_spec.specs.declared.Outcome.TheVariants as Out
use Rattle.ol_spec.specs.declared.Cause.TheVariants as Why
use Rattle.ol_tables.specs.At.{expr_at, end_at, ends_at}
use Rattle.ol_tables.proofs.Lending.{put_tail}
use Rattle.ol_frame.specs.Arrays.{compared_by, element_out}
use Rattle.ol_frame.specs.Outcomes.{ending_of, ended_out}
use Rattle.ol_frame.specs.Walk.{Skips, SkipsTo}
use Rattle.ol_frame.specs.Plans.{segs_at, seg_at, eval_in, array_in, shape_in, span_in}
use Rattle.ol_frame.specs.declared.outcomes.Ending.{Ending}
use Rattle.ol_frame.specs.declared.outcomes.Ending.TheVariants as End
use Rattle.ol_frame.specs.declared.skip.Passed.{Passed}
use Rattle.ol_frame.proofs.Endings.{failed_values, over_values}
use Rattle.ol_frame.proofs.Programs.{Long}
use Rattle.ol_eval.specs.Post.{Ready, Meets, EvalsTo, IndexTo, array_at, equality_code, equal_sides, two_scalars, two_in, EqualTo, TwoTo}
use Rattle.ol_eval.specs.Calls.{Holds, as_is, RanTo, ArrayTo, PartTo, cells_eval}
use Rattle.ol_eval.specs.declared.eval.Step.{Step}
use Rattle.ol_eval.proofs.Evals.{meets_as, seq_state, stop_state, seq_as}
use Rattle.ol_eval.proofs.Readying.{binary_is, ready_seg, two_segs, two_ends, skip_one, moved_skip}
use Rattle.ol_tables.proofs.Forms.{parted}
use Rattle.ol_frame.proofs.Planning.{plan_first}
use Rattle.ol_frame.proofs.Shaping.{span_long}
use Rattle.std.specs.Prelude.{None}

-- several that were evaluated, as an evaluation with the same segment
pub on_segment : {make : List Value → List Value} {w : Evals} {x n : ℕ} {s new : List ℕ} {r : Step Ending} {got : List Value} → RanTo make w x n s r got new → Meets (record { out = Out.Overflow; seg = w.seg }) x n s (record { out = Out.Overflow; next = r.next; used = r.used }) new
on_segment h = record { out = refl; next_is = h.next_is; used_is = h.used_is; state = h.state }

-- they have values where they ended so
pub values_at : (o : Outcomes) → ending_of o ≡ End.Values → (vs : List Value) × (o ≡ values vs)
values_at (values vs) e = (vs, refl)
values_at (failure c) e = failed_values {e = End.Failed c} refl e
values_at overflow e = over_values {e = End.Overflowed} refl e

-- what is made of cells, by how they ended
cells_out : (f : List Value → Outcome) (os : Outcomes) (e : Ending) (got : List Value) → e ≡ ending_of os → Holds as_is os got → ended_out e (f got) ≡ then_cells f os
cells_out f (values vs) e got x h = ap (λ (a : Ending). ended_out a (f got)) x ∙ ap f h
cells_out f (failure c) e got x h = ap (λ (a : Ending). ended_out a (f got)) x
cells_out f overflow e got x h = ap (λ (a : Ending). ended_out a (f got)) x

-- the next evaluation, where the first gave values, and where it did not
next_cells_done : (w : Evals) (K : List Value → List ℕ → Eval) (rest : List ℕ) (vs : List Value) → w.out ≡ values vs → next_cells w K rest ≡ record { out = (K vs rest).out; seg = w.seg ++ (K vs rest).seg }
unfolding next_cells
next_cells_done w K rest vs e = ap (λ (o : Outcomes). next_cells_on o w.seg K rest) e

next_cells_stop : (w : Evals) (K : List Value → List ℕ → Eval) (rest : List ℕ) → ¬ (ending_of w.out ≡ End.Values) → next_cells w K rest ≡ record { out = ended_out (ending_of w.out) (Out.Failure Why.Other); seg = w.seg ++ rest }
unfolding next_cells
next_cells_stop w K rest h = go w.out h
  where
    go : (o : Outcomes) → ¬ (ending_of o ≡ End.Values) → next_cells_on o w.seg K rest ≡ record { out = ended_out (ending_of o) (Out.Failure Why.Other); seg = w.seg ++ rest }
    go (values vs) h = absurd (h refl)
    go (failure c) h = refl
    go overflow h = refl

-- cells that have no values stop an evaluation
pub cells_stop : {make : List Value → List Value} {w : Evals} (K : List Value → List ℕ → Eval) {x y n k : ℕ} {b : Bool} {s new : List ℕ} {l : Step Ending} {got : List Value} {q : Passed} {o : Outcome} → RanTo make w x n s l got new → Skips b y k q → ¬ (l.out ≡ End.Values) → o ≡ ended_out l.out (Out.Failure Why.Other) → Meets (next_cells w K (take k (drop n s))) y (n + k) s (record { out = o; next = q.next; used = l.used + q.used }) new
cells_stop {w = w} K {n = n} {k = k} {s = s} h g d j =
    meets_as (next_cells_stop w K (take k (drop n s)) (λ e. d (h.end_is ∙ e))) (record {
      out = j ∙ ap (λ (a : Ending). ended_out a (Out.Failure Why.Other)) h.end_is;
      next_is = g.next_is;
      used_is = rw (h.used_is, g.used_is);
      state = stop_state k (on_segment h);
    })

-- two arrays are compared
pub equal_done : {w : Evals} (K : List ℕ → Evals) {x y n k : ℕ} {s new new' : List ℕ} {l r : Step Ending} (op : ℕ) {got got' : List Value} {o : Outcome} → RanTo as_is w x n s l got new → RanTo as_is (K (take k (drop n s))) y k (drop n s) r got' new' → length new ≡ length s → n ≤ length s → l.out ≡ End.Values → o ≡ ended_out r.out (compared_by op (equal_cells got got')) → Meets (next_cells w (λ vs rest. map_cells (λ ws. compared_by op (equal_cells vs ws)) (K rest)) (take k (drop n s))) y (n + k) s (record { out = o; next = r.next; used = l.used + r.used }) (put_tail l.used new new')
equal_done {w} K {n = n} {k = k} {s = s} {r = r} op {got} {got'} h g e le d j =
    let v = values_at w.out (sym h.end_is ∙ d) in
    let same : got ≡ v.0 = subst (λ (o : Outcomes). Holds as_is o got) v.1 h.values_are in
    meets_as (next_cells_done w (λ vs rest. map_cells (λ ws. compared_by op (equal_cells vs ws)) (K rest)) (take k (drop n s)) v.0 v.1) (record {
      out = j ∙ ap (λ (vs : List Value). ended_out r.out (compared_by op (equal_cells vs got'))) same ∙ cells_out (λ ws. compared_by op (equal_cells v.0 ws)) (K (take k (drop n s))).out r.out got' g.end_is g.values_are;
      next_is = g.next_is;
      used_is = rw (h.used_is, g.used_is);
      state = seq_state (on_segment h) (on_segment g) e le;
    })

-- an element of an array, or of a scalar
pub index_done : {make : List Value → List Value} {w : Evals} (K : List ℕ → Eval) {x y n k : ℕ} {s new new' : List ℕ} {l : Step Ending} {r : Step Outcome} (array? : Bool) {got : List Value} {o : Outcome} (f : Outcome → Outcome) → RanTo make w x n s l got new → Meets (K (take k (drop n s))) y k (drop n s) r new' → length new ≡ length s → n ≤ length s → l.out ≡ End.Values → ((vs : List Value) → got ≡ make vs → (i : Outcome) → f i ≡ then_out (index_of array? vs) i) → o ≡ f r.out → Meets (next_cells w (λ vs rest. map_eval (index_of array? vs) (K rest)) (take k (drop n s))) y (n + k) s (record { out = o; next = r.next; used = l.used + r.used }) (put_tail l.used new new')
index_done {make} {w} K {n = n} {k = k} {s = s} {r = r} array? {got} f h g e le d m j =
    let v = values_at w.out (sym h.end_is ∙ d) in
    let same : got ≡ make v.0 = subst (λ (o : Outcomes). Holds make o got) v.1 h.values_are in
    meets_as (next_cells_done w (λ vs rest. map_eval (index_of array? vs) (K rest)) (take k (drop n s)) v.0 v.1) (record {
      out = j ∙ m v.0 same r.out ∙ ap (then_out (index_of array? v.0)) g.out;
      next_is = g.next_is;
      used_is = rw (h.used_is, g.used_is);
      state = seq_state (on_segment h) g e le;
    })

-- every index of a scalar fails alike
scalar_element : (vs ws : List Value) (i : Outcome) → then_out (index_of false vs) i ≡ then_out (index_of false ws) i
scalar_element vs ws (Out.Value (Val.Bool b)) = refl
scalar_element vs ws (Out.Value (Val.Int i)) = refl
scalar_element vs ws (Out.Value (Val.Float x)) = refl
scalar_element vs ws (Out.Value (Val.Float32 x)) = refl
scalar_element vs ws (Out.Value (Val.Enum v)) = refl
scalar_element vs ws (Out.Failure c) = refl
scalar_element vs ws Out.Overflow = refl

-- the element that an index asks for of the cells of an expression of this shape
pub shape_element : (o : Option ℕ) → Long o → (room : List ℕ) (vs : List Value) → values_of (maybe 1 (λ n. n) o) room ≡ vs → (i : Outcome) → element_out (maybe 0 (λ n. n) o) (values_of (maybe 0 (λ n. n) o) room) i ≡ then_out (index_of (is_some o) vs) i
shape_element none l room vs e i = scalar_element (values_of 0 room) vs i
shape_element (some n) l room vs e i =
    let t : ltb 0 n ≡ true = lt-ltb 0 n (l n refl).0 in
    ap (λ (b : Bool). then_out (index_of b (values_of n room)) i) t ∙ ap (λ (ws : List Value). then_out (index_of true ws) i) e

-- ---- two operands

module _ (f consts : List ℕ) (op level at node : ℕ) (first : Bool) (cells before : List ℕ) {old new : List ℕ} {r : Step Outcome} where
  pub both_arrays : array_at f node level at ≡ true → EqualTo f consts op level at node first cells before old r new → TwoTo f consts op level at node first cells before old r new
  unfolding arrays_or
  both_arrays t h =
      subst (λ (b : Bool). Meets (arrays_or b (equal_sides f consts op level at node first cells before) (two_scalars f consts op level at node first cells before) (take (segs_at f level 2 at) old)) (ends_at f level 2 at) (segs_at f level 2 at) old r new) (sym t) h

  pub both_scalars : array_at f node level at ≡ false → Meets (two_scalars f consts op level at node first cells before (take (segs_at f level 2 at) old)) (ends_at f level 2 at) (segs_at f level 2 at) old r new → TwoTo f consts op level at node first cells before old r new
  unfolding arrays_or
  both_scalars t h =
      subst (λ (b : Bool). Meets (arrays_or b (equal_sides f consts op level at node first cells before) (two_scalars f consts op level at node first cells before) (take (segs_at f level 2 at) old)) (ends_at f level 2 at) (segs_at f level 2 at) old r new) (sym t) h

some_op : {a b : BinOp} → some a ≡ some b → a ≡ b
some_op e = cc

no_false : {A : Type 0} → true ≡ false → A
no_false e = let z : ◌≡◌ {A = ℕ} 0 1 = cc in absurd (omega arith)

no_op : {A : Type 0} {op : BinOp} → none ≡ some op → A
no_op e = let z : ◌≡◌ {A = ℕ} 0 1 = cc in absurd (omega arith)

-- what an operator makes of two arrays, by its code: only Eq and Neq compare any
pub other_op : (b : ℕ) (op : BinOp) → get_elem? bin_ops b ≡ some op → equality_code b ≡ false → equality op ≡ none
other_op zero op e h = ap equality (sym (some_op {a = And} e))
other_op (suc zero) op e h = ap equality (sym (some_op {a = Or} e))
other_op (suc (suc zero)) op e h = ap equality (sym (some_op {a = Xor} e))
other_op (suc (suc (suc zero))) op e h = ap equality (sym (some_op {a = Implies} e))
other_op (suc (suc (suc (suc zero)))) op e h = no_false h
other_op (suc (suc (suc (suc (suc zero))))) op e h = no_false h
other_op (suc (suc (suc (suc (suc (suc zero)))))) op e h = ap equality (sym (some_op {a = Lt} e))
other_op (suc (suc (suc (suc (suc (suc (suc zero))))))) op e h = ap equality (sym (some_op {a = Le} e))
other_op (suc (suc (suc (suc (suc (suc (suc (suc zero)))))))) op e h = ap equality (sym (some_op {a = Gt} e))
other_op (suc (suc (suc (suc (suc (suc (suc (suc (suc zero))))))))) op e h = ap equality (sym (some_op {a = Ge} e))
other_op (suc (suc (suc (suc (suc (suc (suc (suc (suc (suc zero)))))))))) op e h = ap equality (sym (some_op {a = Add} e))
other_op (suc (suc (suc (suc (suc (suc (suc (suc (suc (suc (suc zero))))))))))) op e h = ap equality (sym (some_op {a = Sub} e))
other_op (suc (suc (suc (suc (suc (suc (suc (suc (suc (suc (suc (suc zero)))))))))))) op e h = ap equality (sym (some_op {a = Mul} e))
other_op (suc (suc (suc (suc (suc (suc (suc (suc (suc (suc (suc (suc (suc zero))))))))))))) op e h = ap equality (sym (some_op {a = Div} e))
other_op (suc (suc (suc (suc (suc (suc (suc (suc (suc (suc (suc (suc (suc (suc zero)))))))))))))) op e h = ap equality (sym (some_op {a = Mod} e))
other_op (suc (suc (suc (suc (suc (suc (suc (suc (suc (suc (suc (suc (suc (suc (suc zero))))))))))))))) op e h = ap equality (sym (some_op {a = BitAnd} e))
other_op (suc (suc (suc (suc (suc (suc (suc (suc (suc (suc (suc (suc (suc (suc (suc (suc zero)))))))))))))))) op e h = ap equality (sym (some_op {a = BitOr} e))
other_op (suc (suc (suc (suc (suc (suc (suc (suc (suc (suc (suc (suc (suc (suc (suc (suc (suc zero))))))))))))))))) op e h = ap equality (sym (some_op {a = BitXor} e))
other_op (suc (suc (suc (suc (suc (suc (suc (suc (suc (suc (suc (suc (suc (suc (suc (suc (suc (suc zero)))))))))))))))))) op e h = ap equality (sym (some_op {a = Shl} e))
other_op (suc (suc (suc (suc (suc (suc (suc (suc (suc (suc (suc (suc (suc (suc (suc (suc (suc (suc (suc zero))))))))))))))))))) op e h = ap equality (sym (some_op {a = Shr} e))
other_op (suc (suc (suc (suc (suc (suc (suc (suc (suc (suc (suc (suc (suc (suc (suc (suc (suc (suc (suc (suc b)))))))))))))))))))) op e h = no_op e

compared_is : (b : ℕ) (op : BinOp) → get_elem? bin_ops b ≡ some op → equality_code b ≡ true → (same : Bool) → maybe (Out.Failure Why.Other) (λ g. bool_out (g same)) (equality op) ≡ compared_by b same
compared_is b op e h same = by_cases (ℕ_discrete b 4) (λ x. at 4 Eq x refl refl) (λ x. by_cases (ℕ_discrete b 5) (λ y. at 5 Neq y refl refl) (λ y. no_false (sym h ∙ neither x y)))
  where
    at : (c : ℕ) (q : BinOp) → b ≡ c → get_elem? bin_ops c ≡ some q → maybe (Out.Failure Why.Other) (λ g. bool_out (g same)) (equality q) ≡ compared_by c same → maybe (Out.Failure Why.Other) (λ g. bool_out (g same)) (equality op) ≡ compared_by b same
    at c q x y z =
        let o : q ≡ op = some_op (sym y ∙ ap (get_elem? bin_ops) (sym x) ∙ e) in
        ap (λ (w : BinOp). maybe (Out.Failure Why.Other) (λ g. bool_out (g same)) (equality w)) (sym o) ∙ z ∙ ap (λ (m : ℕ). compared_by m same) (sym x)

    neither : ¬ (b ≡ 4) → ¬ (b ≡ 5) → equality_code b ≡ false
    neither x y = (λ i. ne_eqb b 4 x i || ne_eqb b 5 y i)

module _ (f consts : List ℕ) (level at node : ℕ) (first : Bool) (cells before : List ℕ) where
  -- the two sides as arrays
  abbrev W : List ℕ → Evals
  W q = array_in f consts node first cells before (expr_at f level at) (take (seg_at f level at) q)

  abbrev R : List ℕ → Evals
  R q = array_in f consts node first cells before (expr_at f level (end_at f level at)) q

  -- a Binary by its operator's code
  pub two_is : (b : ℕ) (op : BinOp) → get_elem? bin_ops b ≡ some op → (equality_code b ≡ false → array_at f node level at ≡ false) → (seg : List ℕ) → eval_in f consts node first cells before (binary op (expr_at f level at) (expr_at f level (end_at f level at))) seg ≡ two_in f consts b level at node first cells before seg
  unfolding eval arrays_or
  two_is b op e n seg = go (equality_code b) refl
    where
      two : (q : List ℕ) → next (eval_in f consts node first cells before (expr_at f level at) (take (seg_at f level at) q)) (λ v rest. map_eval (binary_of op v) (eval_in f consts node first cells before (expr_at f level (end_at f level at)) rest)) (drop (seg_at f level at) q) ≡ two_scalars f consts b level at node first cells before q
      two q = binary_is b op e (eval_in f consts node first cells before (expr_at f level at) (take (seg_at f level at) q)) (eval_in f consts node first cells before (expr_at f level (end_at f level at))) (drop (seg_at f level at) q)

      go : (c : Bool) → equality_code b ≡ c → eval_in f consts node first cells before (binary op (expr_at f level at) (expr_at f level (end_at f level at))) seg ≡ two_in f consts b level at node first cells before seg
      go true h =
          λ i. arrays_or (array_at f node level at)
          (λ q. next_cells (W q) (λ vs rest. map_cells (λ ws. compared_is b op e h (equal_cells vs ws) i) (R rest)) (drop (seg_at f level at) q))
          (λ q. two q i) seg
      go false h =
          let z = n h in
          ap (λ (t : Bool). arrays_or t (λ q. next_cells (W q) (λ vs rest. map_cells (compare_cells op vs) (R rest)) (drop (seg_at f level at) q)) (λ q. next (eval_in f consts node first cells before (expr_at f level at) (take (seg_at f level at) q)) (λ v rest. map_eval (binary_of op v) (eval_in f consts node first cells before (expr_at f level (end_at f level at)) rest)) (drop (seg_at f level at) q)) seg) z
          ∙ two seg
          ∙ sym (ap (λ (t : Bool). arrays_or t (equal_sides f consts b level at node first cells before) (two_scalars f consts b level at node first cells before) seg) z)

-- ---- two sides of Eq or Neq, and an index, where they stand

pub moved_array : (f consts : List ℕ) (level node : ℕ) (first : Bool) (cells before : List ℕ) {p q : ℕ} {s s' : List ℕ} {r : Step Ending} (to : List ℕ) {new : List ℕ} → p ≡ q → s ≡ s' → ArrayTo f consts level p node first cells before s r to new → ArrayTo f consts level q node first cells before s' r to new
moved_array f consts level node first cells before {q = q} {s = s} {r = r} to {new = new} e g h =
    subst (λ (y : List ℕ). ArrayTo f consts level q node first cells before y r to new) g
    (subst (λ (x : ℕ). ArrayTo f consts level x node first cells before s r to new) e h)

module _ {f tab rows consts : List ℕ} {level at node : ℕ} {cells before old new : List ℕ} (p : Ready f tab rows consts level 2 at node cells before old new) (first : Bool) where
  abbrev mid : ℕ
  mid = end_at f level at

  -- what is behind a first part that was evaluated, passed over
  pub passed_behind : {next : ℕ} {q : Passed} → next ≡ end_at f level at → SkipsTo f level 1 next q → Skips (has_call (expr_at f level (end_at f level at))) (end_at f level (end_at f level at)) (seg_at f level (end_at f level at)) q
  passed_behind e k = skip_one f level mid (parted f level 1 at p.plan.reads).tail (moved_skip f level 1 e k)

  -- both parts have their bytes in the two states
  pub both_used : {n k : ℕ} → n ≡ seg_at f level at → k ≡ seg_at f level (end_at f level at) → n + k ≤ 32768
  both_used e g = omega (arith, e, g, two_segs f level at p.plan.reads, p.room, p.small)

  pub equal_evals : (op : ℕ) (left right : List ℕ) (n m : ℕ) {l r : Step Ending} {new₁ new₂ : List ℕ} {o : Outcome} → ArrayTo f consts level at node first cells before old l left new₁ → length new₁ ≡ length new → l.out ≡ End.Values
      → ArrayTo f consts level (end_at f level at) node first cells before (drop (seg_at f level at) old) r right new₂ → n ≡ span_in f node (expr_at f level at) → m ≡ span_in f node (expr_at f level (end_at f level at))
      → o ≡ ended_out r.out (compared_by op (equal_cells (values_of n left) (values_of m right))) → EqualTo f consts op level at node first cells before old (record { out = o; next = r.next; used = l.used + r.used }) (put_tail l.used new₁ new₂)
  equal_evals op left right n m {l} {r} h k d g nE mE j =
      seq_as (λ (x y : List ℕ). next_cells (array_in f consts node first cells before (expr_at f level at) x) (λ vs rest. map_cells (λ ws. compared_by op (equal_cells vs ws)) (array_in f consts node first cells before (expr_at f level mid) rest)) y)
      (seg_at f level at) (seg_at f level mid) (two_segs f level at p.plan.reads) (two_ends f level at p.plan.reads)
      (equal_done (λ (q : List ℕ). array_in f consts node first cells before (expr_at f level mid) q) op h g (k ∙ ap length p.same) (ready_seg p) d
      (j ∙ (λ i. ended_out r.out (compared_by op (equal_cells (values_of (nE i) left) (values_of (mE i) right))))))

  pub equal_stops : (op : ℕ) (left : List ℕ) {l : Step Ending} {q : Passed} {new₁ : List ℕ} {o : Outcome} → ArrayTo f consts level at node first cells before old l left new₁ → ¬ (l.out ≡ End.Values) → SkipsTo f level 1 l.next q
      → o ≡ ended_out l.out (Out.Failure Why.Other) → EqualTo f consts op level at node first cells before old (record { out = o; next = q.next; used = l.used + q.used }) new₁
  equal_stops op left h d q j =
      seq_as (λ (x y : List ℕ). next_cells (array_in f consts node first cells before (expr_at f level at) x) (λ vs rest. map_cells (λ ws. compared_by op (equal_cells vs ws)) (array_in f consts node first cells before (expr_at f level mid) rest)) y)
      (seg_at f level at) (seg_at f level mid) (two_segs f level at p.plan.reads) (two_ends f level at p.plan.reads)
      (cells_stop (λ (vs : List Value) (rest : List ℕ). map_cells (λ ws. compared_by op (equal_cells vs ws)) (array_in f consts node first cells before (expr_at f level mid) rest)) h (passed_behind h.next_is q) d j)

  pub index_evals : (to : List ℕ) (n : ℕ) {b : Step Ending} {r : Step Outcome} {new₁ new₂ : List ℕ} {o : Outcome} → PartTo f consts None 0 level at node first cells before old b to new₁ → length new₁ ≡ length new → b.out ≡ End.Values
      → EvalsTo f consts level (end_at f level at) node first cells before (drop (seg_at f level at) old) r new₂ → n ≡ span_in f node (expr_at f level at)
      → o ≡ element_out n (values_of n to) r.out → IndexTo f consts level at node first cells before old (record { out = o; next = r.next; used = b.used + r.used }) (put_tail b.used new₁ new₂)
  index_evals to n {b} {r} h k d g nE j =
      seq_as (λ (x y : List ℕ). next_cells (cells_eval f consts level at node first cells before x) (λ vs rest. map_eval (index_of (array_at f node level at) vs) (eval_in f consts node first cells before (expr_at f level mid) rest)) y)
      (seg_at f level at) (seg_at f level mid) (two_segs f level at p.plan.reads) (two_ends f level at p.plan.reads)
      (index_done (λ (q : List ℕ). eval_in f consts node first cells before (expr_at f level mid) q) (array_at f node level at) (λ i. element_out n (values_of n to) i) h g (k ∙ ap length p.same) (ready_seg p) d
      (λ vs e i. ap (λ (m : ℕ). element_out m (values_of m to) i) nE ∙ shape_element (shape_in f node (expr_at f level at)) (span_long f level at (plan_first f p.plan)) to vs e i) j)

  pub index_stops : (to : List ℕ) {b : Step Ending} {q : Passed} {new₁ : List ℕ} {o : Outcome} → PartTo f consts None 0 level at node first cells before old b to new₁ → ¬ (b.out ≡ End.Values) → SkipsTo f level 1 b.next q
      → o ≡ ended_out b.out (Out.Failure Why.Other) → IndexTo f consts level at node first cells before old (record { out = o; next = q.next; used = b.used + q.used }) new₁
  index_stops to h d q j =
      seq_as (λ (x y : List ℕ). next_cells (cells_eval f consts level at node first cells before x) (λ vs rest. map_eval (index_of (array_at f node level at) vs) (eval_in f consts node first cells before (expr_at f level mid) rest)) y)
      (seg_at f level at) (seg_at f level mid) (two_segs f level at p.plan.reads) (two_ends f level at p.plan.reads)
      (cells_stop (λ (vs : List Value) (rest : List ℕ). map_eval (index_of (array_at f node level at) vs) (eval_in f consts node first cells before (expr_at f level mid) rest)) h (passed_behind h.next_is q) d j)
