-- What evaluation in the Rust of specs/RustSim does to the states of calls: each is kept, gets one finished step more, or is dropped; and each call is made at most once in a step.
use Prim.Native.Nat.{ℕ, zero, suc, ◌+◌, ◌<◌, ◌≤◌}
use mathlib.Core.Bool.{Bool, true, false}
use mathlib.Core.List.Memᴰ.{append_left as in_left}
use mathlib.Core.List.Memᴰ.{append_right as in_right}
use mathlib.Core.List.Memᴰ.{head as here}
use mathlib.Core.List.Memᴰ.{not-nil as in_nil}
use mathlib.Core.List.Memᴰ.{tail as there}
use mathlib.Core.List.{List, [], ◌∷◌, ◌++◌}
use mathlib.Core.Logic.{by_cases}
use mathlib.Core.Option.{Option, none, some}
use mathlib.Core.Path.{◌≡◌, refl, sym, ap, subst, ◌∙◌}
use native.Mathlib.Omega.{arith}
use native.Mathlib.Decide.{dec_lt, ℕ_discrete}
use lib.ListN.{length, get_or}
use lib.Dec.{T, eqb}
use Rattle.ol_theory.specs.Member.{◌∈◌, Distinct}
use Rattle.ol_theory.proofs.SystemProof.{in_order_distinct}
use Rattle.ol_spec.specs.Lists.{maybe}
use Rattle.ol_spec.specs.Syntax.{NodeKind, Function, Operator, Imported, Equation, Node, File}
use Rattle.ol_spec.specs.Syntax.{count, Expr, bool_lit, int_lit, float_lit, char_lit, var, unary, binary, if_then_else, pre, arrow, cast, call, tuple, index, literal, map_over, fold_over, Exprs, nil, cons}
use Rattle.ol_spec.specs.Eval.{callees, callees_all, node_at}
use Rattle.ol_spec.specs.Step.{equation_sites, sites, no_equation, equation_at}
use Rattle.ol_spec.specs.Order.{order}
use Rattle.ol_spec.specs.State.{globals_of}
use Rattle.ol_spec.specs.RustSim.{Env, width, widths, Key, address, State, state, States, same_key, get_state, remove_state, past, prev, child_calls, default_state, RValue, Result, Ok, Err, Panic, Res, then_on, then_res, push_on, push, if_bool, step_untaken, Branch, choose, StepInstance, LoopEnd, done, err_at, panic_at, Ran, find_node, call_kind, call_arity, eval_call, eval_args, bind_lhs, bound_on, bind_on, bind_next, for_order, reseed, callee_env, function_end, operator_end, end_function, end_operator, step_kind, step_ordered, step_instance, Given, value_in, push_picked, if_bool_on, if_function, equal_lengths, if_equal, CallValues, eval_items, eval_arrays, call_function_values}
use Rattle.ol_spec.specs.RustSim as Rust
use Rattle.ol_spec.specs.RustState.{state_or}
use Rattle.ol_spec.specs.RustLeaves.{bool_in, plain_in, array_in}
use Rattle.ol_spec.specs.declared.Value.{Value}
use Rattle.ol_spec.proofs.Lists.{in_concat}
use Rattle.ol_spec.proofs.RustOrder.{order_is}
use Rattle.ol_spec.proofs.Tests.{true_t, false_t}
use Rattle.ol_spec.proofs.RustMaps.{same_key_lem, key_same, state_hit, state_miss, removed_hit, removed_miss}
use Rattle.ol_spec.proofs.Calls.{lower_site}
use Rattle.ol_spec.proofs.RustCalls.{NodeRust, FileRust}

-- ---- a walk over the expressions of a node, by what it does to the states of the calls between two addresses

pub record Walk (Rel : ℕ → ℕ → States → States → Type 0) : Type 0 where
  pub kept : (a b : ℕ) (c : States) → Rel a b c c
  pub wide : (a a' b b' : ℕ) (c c' : States) → a' ≤ a → b ≤ b' → Rel a b c c' → Rel a' b' c c'
  pub both : (a m b : ℕ) (c c' c'' : States) → a ≤ m → m ≤ b → Rel a m c c' → Rel m b c' c'' → Rel a b c c''
  pub back : (a m b : ℕ) (c c' c'' : States) → a ≤ m → m ≤ b → Rel m b c c' → Rel a m c' c'' → Rel a b c c''

module _ (Rel : ℕ → ℕ → States → States → Type 0) (w : Walk Rel) where
  -- `?` behind a result, the calls of the second part behind those of the first, or before them
  then_both : {A B : Type 0} (a m b : ℕ) → a ≤ m → m ≤ b → (c : States) (r : Res A) (k : A → States → Res B) → Rel a m c r.calls → ((v : A) (c' : States) → Rel m b c' (k v c').calls)
      → Rel a b c (then_res r k).calls
  unfolding then_res
  then_both {A} a m b p q c r k h i = go r.out
    where
      go : (o : Result A) → Rel a b c (then_on o r.calls k).calls
      go (Ok v) = w.both a m b c r.calls _ p q h (i v r.calls)
      go (Err e) = w.wide a a m b c r.calls (omega arith) q h
      go Panic = w.wide a a m b c r.calls (omega arith) q h

  then_back : {A B : Type 0} (a m b : ℕ) → a ≤ m → m ≤ b → (c : States) (r : Res A) (k : A → States → Res B) → Rel m b c r.calls → ((v : A) (c' : States) → Rel a m c' (k v c').calls)
      → Rel a b c (then_res r k).calls
  unfolding then_res
  then_back {A} a m b p q c r k h i = go r.out
    where
      go : (o : Result A) → Rel a b c (then_on o r.calls k).calls
      go (Ok v) = w.back a m b c r.calls _ p q h (i v r.calls)
      go (Err e) = w.wide m a b b c r.calls p (omega arith) h
      go Panic = w.wide m a b b c r.calls p (omega arith) h

  push_both : {A : Type 0} (pick : Given → Option A) (a m b : ℕ) → a ≤ m → m ≤ b → (c : States) (r : Res Given) (k : States → Res (List A)) → Rel a m c r.calls
      → ((c' : States) → Rel m b c' (k c').calls) → Rel a b c (push pick r k).calls
  unfolding push
  push_both {A} pick a m b p q c r k h i = go r.out
    where
      picked : (o : Option A) → Rel a b c (push_picked o r.calls k).calls
      picked none = w.wide a a m b c r.calls (omega arith) q h
      picked (some v) = w.both a m b c r.calls _ p q h (i r.calls)

      go : (o : Result Given) → Rel a b c (push_on pick o r.calls k).calls
      go (Ok v) = picked (pick v)
      go (Err e) = w.wide a a m b c r.calls (omega arith) q h
      go Panic = w.wide a a m b c r.calls (omega arith) q h

  if_bool_lem : (a b : ℕ) (k : Bool → States → Res Given) → ((t : Bool) (c : States) → Rel a b c (k t c).calls) → (v : Given) (c : States) → Rel a b c (if_bool k v c).calls
  unfolding if_bool
  if_bool_lem a b k h v c = go (maybe none bool_in (plain_in v))
    where
      go : (o : Option Bool) → Rel a b c (if_bool_on k o c).calls
      go none = w.kept a b c
      go (some t) = h t c

  iterates : (a b : ℕ) (t : NodeKind) (run : States → Res Given) → ((c : States) → Rel a b c (run c).calls) → (c : States) → Rel a b c (if_function t run c).calls
  unfolding if_function
  iterates a b Function run h c = h c
  iterates a b Operator run h c = w.kept a b c
  iterates a b Imported run h c = w.kept a b c

  equally : (a b : ℕ) (t : Bool) (run : States → Res Given) → ((c : States) → Rel a b c (run c).calls) → (c : States) → Rel a b c (if_equal t run c).calls
  unfolding if_equal
  equally a b true run h c = h c
  equally a b false run h c = w.kept a b c

  untaken : (a b : ℕ) (t : Bool) (run : States → Res Given) → ((c : States) → Rel a b c (run c).calls) → (v : Given) (c : States) → Rel a b c (step_untaken t run v c).calls
  unfolding step_untaken
  untaken a b true run h v c = h c
  untaken a b false run h v c = w.kept a b c

  choice : (a m b : ℕ) → a ≤ m → m ≤ b → (x y : Branch) → ((c : States) → Rel a m c (x.run c).calls) → ((c : States) → Rel m b c (y.run c).calls)
      → (t : Bool) (c : States) → Rel a b c (choose t x y c).calls
  unfolding choose
  choice a m b p q x y h i true c = then_both a m b p q c (x.run c) _ (h c) (λ v c'. untaken m b y.rust_has_call y.run i _ c')
  choice a m b p q x y h i false c = then_back a m b p q c (y.run c) _ (i c) (λ v c'. untaken a m x.rust_has_call x.run h _ c')

  -- an expression of node number N, whose calls do so
  module _ (f : File) (si : StepInstance) (cv : CallValues) (N : ℕ) (env : Env) (st : State) (C : ℕ → Type 0)
      (steps : (at k : ℕ) → C k → (vs : List RValue) (c : States) → Rel at (suc at) c (si (N, at) k vs c env).calls) where
    called : (at b k m : ℕ) → suc at ≤ b → C k → (args : States → Res (List RValue)) → ((c : States) → Rel (suc at) b c (args c).calls) → (c : States)
        → Rel at b c (eval_call f si cv N env st (N, at) k m args c).calls
    unfolding eval_call
    called at b k m q h args i c = by_arity (eqb m (length (find_node f k).inputs))
      where
        by_kind : (t : NodeKind) → Rel at b c (call_kind f si cv N env st t (N, at) k args c).calls
        by_kind Function = then_back at (suc at) b (omega arith) q c (args c) _ (i c) (λ vs c'. steps at k h vs c')
        by_kind Operator = then_back at (suc at) b (omega arith) q c (args c) _ (i c) (λ vs c'. steps at k h vs c')
        by_kind Imported = w.kept at b c

        by_arity : (t : Bool) → Rel at b c (call_arity f si cv N env st t (N, at) k args c).calls
        by_arity true = by_kind (find_node f k).kind
        by_arity false = w.kept at b c

    mutual
      unfolding Rust.eval eval_args eval_items eval_arrays

      pub eval_walks : (e : Expr) (at : ℕ) (c : States) → ((k : ℕ) → k ∈ callees e → C k) → Rel at (at + width e) c (Rust.eval f si cv N env st at e c).calls
      eval_walks (bool_lit b) at c h = w.kept _ _ c
      eval_walks (int_lit i) at c h = w.kept _ _ c
      eval_walks (float_lit b) at c h = w.kept _ _ c
      eval_walks (char_lit x) at c h = w.kept _ _ c
      eval_walks (var x) at c h = w.kept _ _ c
      eval_walks (unary op e) at c h =
          w.wide (suc at) at (suc at + width e) _ c _ (omega arith) (omega arith)
          (then_both (suc at) (suc at + width e) (suc at + width e) (omega arith) (omega arith) c (Rust.eval f si cv N env st (suc at) e c) _ (eval_walks e (suc at) c h) (λ v c'. w.kept _ _ c'))
      eval_walks (binary op l r) at c h =
          let m = suc at + width l in
          w.wide (suc at) at (m + width r) _ c _ (omega arith) (omega arith)
          (then_both (suc at) m (m + width r) (omega arith) (omega arith) c (Rust.eval f si cv N env st (suc at) l c) _ (eval_walks l (suc at) c (λ k i. h k (in_left (callees r) i)))
          (λ v c'. then_both m (m + width r) (m + width r) (omega arith) (omega arith) c' (Rust.eval f si cv N env st m r c') _ (eval_walks r m c' (λ k i. h k (in_right (callees l) i))) (λ u c''. w.kept _ _ c'')))
      eval_walks (if_then_else x t e) at c h =
          let m = suc at + width x in
          let n = m + width t in
          w.wide (suc at) at (n + width e) _ c _ (omega arith) (omega arith)
          (then_both (suc at) m (n + width e) (omega arith) (omega arith) c (Rust.eval f si cv N env st (suc at) x c) _ (eval_walks x (suc at) c (λ k i. h k (in_left (callees t ++ callees e) i)))
          (if_bool_lem m (n + width e) _
          (choice m n (n + width e) (omega arith) (omega arith) _ _ (λ c'. eval_walks t m c' (λ k i. h k (in_right (callees x) (in_left (callees e) i))))
          (λ c'. eval_walks e n c' (λ k i. h k (in_right (callees x) (in_right (callees t) i)))))))
      eval_walks (pre e) at c h = w.kept _ _ c
      eval_walks (arrow a b) at c h =
          let m = suc at + width a in
          w.wide (suc at) at (m + width b) _ c _ (omega arith) (omega arith)
          (choice (suc at) m (m + width b) (omega arith) (omega arith) _ _ (λ c'. eval_walks a (suc at) c' (λ k i. h k (in_left (callees b) i)))
          (λ c'. eval_walks b m c' (λ k i. h k (in_right (callees a) i))) _ c)
      eval_walks (cast t e) at c h =
          w.wide (suc at) at (suc at + width e) _ c _ (omega arith) (omega arith)
          (then_both (suc at) (suc at + width e) (suc at + width e) (omega arith) (omega arith) c (Rust.eval f si cv N env st (suc at) e c) _ (eval_walks e (suc at) c h) (λ v c'. w.kept _ _ c'))
      eval_walks (call k es) at c h =
          w.wide at at (suc at + widths es) _ c _ (omega arith) (omega arith)
          (called at (suc at + widths es) k (count es) (omega arith) (h k (here refl)) _ (λ c'. args_walk es (suc at) c' (λ j i. h j (there i))) c)
      eval_walks (tuple es) at c h =
          w.wide (suc at) at (suc at + widths es) _ c _ (omega arith) (omega arith)
          (then_back (suc at) (suc at) (suc at + widths es) (omega arith) (omega arith) c (eval_args f si cv N env st (suc at) es c) _ (args_walk es (suc at) c h) (λ vs c'. w.kept _ _ c'))
      eval_walks (index a i) at c h =
          let m = suc at + width a in
          w.wide (suc at) at (m + width i) _ c _ (omega arith) (omega arith)
          (then_both (suc at) m (m + width i) (omega arith) (omega arith) c (Rust.eval f si cv N env st (suc at) a c) _ (eval_walks a (suc at) c (λ k j. h k (in_left (callees i) j)))
          (λ v c'. then_both m (m + width i) (m + width i) (omega arith) (omega arith) c' (Rust.eval f si cv N env st m i c') _ (eval_walks i m c' (λ k j. h k (in_right (callees a) j))) (λ u c''. w.kept _ _ c'')))
      eval_walks (literal es) at c h =
          w.wide (suc at) at (suc at + widths es) _ c _ (omega arith) (omega arith)
          (then_back (suc at) (suc at) (suc at + widths es) (omega arith) (omega arith) c (eval_items f si cv N env st (suc at) es c) _ (items_walk es (suc at) c h) (λ vs c'. w.kept _ _ c'))
      eval_walks (map_over k es) at c h =
          w.wide (suc at) at (suc at + widths es) _ c _ (omega arith) (omega arith)
          (iterates (suc at) (suc at + widths es) (find_node f k).kind _
          (λ c. then_back (suc at) (suc at) (suc at + widths es) (omega arith) (omega arith) c (eval_arrays f si cv N env st (suc at) es c) _ (arrays_walk es (suc at) c h)
          (λ vss. equally (suc at) (suc at) (equal_lengths vss) _ (λ c'. w.kept _ _ c'))) c)
      eval_walks (fold_over k e es) at c h =
          let m = suc at + width e in
          w.wide (suc at) at (m + widths es) _ c _ (omega arith) (omega arith)
          (iterates (suc at) (m + widths es) (find_node f k).kind _
          (λ c. then_back (suc at) m (m + widths es) (omega arith) (omega arith) c (eval_arrays f si cv N env st m es c) _ (arrays_walk es m c (λ j i. h j (in_right (callees e) i)))
          (λ vss. equally (suc at) m (equal_lengths vss) _
          (λ c'. then_both (suc at) m m (omega arith) (omega arith) c' (Rust.eval f si cv N env st (suc at) e c') _ (eval_walks e (suc at) c' (λ j i. h j (in_left (callees_all es) i))) (λ v c''. w.kept _ _ c'')))) c)

      pub args_walk : (es : Exprs) (at : ℕ) (c : States) → ((k : ℕ) → k ∈ callees_all es → C k) → Rel at (at + widths es) c (eval_args f si cv N env st at es c).calls
      args_walk nil at c h = w.kept _ _ c
      args_walk (cons e es) at c h =
          let m = at + width e in
          w.wide at at (m + widths es) _ c _ (omega arith) (omega arith)
          (push_both value_in at m (m + widths es) (omega arith) (omega arith) c (Rust.eval f si cv N env st at e c) _ (eval_walks e at c (λ k i. h k (in_left (callees_all es) i)))
          (λ c'. args_walk es m c' (λ k i. h k (in_right (callees e) i))))

      items_walk : (es : Exprs) (at : ℕ) (c : States) → ((k : ℕ) → k ∈ callees_all es → C k) → Rel at (at + widths es) c (eval_items f si cv N env st at es c).calls
      items_walk nil at c h = w.kept _ _ c
      items_walk (cons e es) at c h =
          let m = at + width e in
          w.wide at at (m + widths es) _ c _ (omega arith) (omega arith)
          (push_both plain_in at m (m + widths es) (omega arith) (omega arith) c (Rust.eval f si cv N env st at e c) _ (eval_walks e at c (λ k i. h k (in_left (callees_all es) i)))
          (λ c'. items_walk es m c' (λ k i. h k (in_right (callees e) i))))

      arrays_walk : (es : Exprs) (at : ℕ) (c : States) → ((k : ℕ) → k ∈ callees_all es → C k) → Rel at (at + widths es) c (eval_arrays f si cv N env st at es c).calls
      arrays_walk nil at c h = w.kept _ _ c
      arrays_walk (cons e es) at c h =
          let m = at + width e in
          w.wide at at (m + widths es) _ c _ (omega arith) (omega arith)
          (push_both array_in at m (m + widths es) (omega arith) (omega arith) c (Rust.eval f si cv N env st at e c) _ (eval_walks e at c (λ k i. h k (in_left (callees_all es) i)))
          (λ c'. arrays_walk es m c' (λ k i. h k (in_right (callees e) i))))

-- ---- what becomes of a state

-- kept; one finished step more, with the same of the states inside; or dropped
pub data Moved : Option State → Option State → Type 0 where
  same : (o o' : Option State) → o' ≡ o → Moved o o'
  longer : (o o' : Option State) (env : Env) (calls : States) → o' ≡ some (state (env ∷ past (state_or o)) calls)
      → ((key : Key) → Moved (get_state key (child_calls (state_or o))) (get_state key calls)) → Moved o o'
  dropped : (o o' : Option State) → o' ≡ none → Moved o o'

moved_from : {o p o' : Option State} → p ≡ o → Moved p o' → Moved o o'
moved_from {o' = o'} e m = subst (λ x. Moved x o') e m

pub moved_to : {o o' p : Option State} → o' ≡ p → Moved o o' → Moved o p
moved_to {o = o} e m = subst (Moved o) e m

abbrev pub Within : ℕ → ℕ → ℕ → Key → Type 0
Within N a b key = (key.0 ≡ N) × (a ≤ key.1) × (key.1 < b)

-- the states of the calls of node N between two addresses have moved, and no other
pub record MovedIn (N a b : ℕ) (c c' : States) : Type 0 where
  pub outside : (key : Key) → ¬ Within N a b key → get_state key c' ≡ get_state key c
  pub moved : (key : Key) → Moved (get_state key c) (get_state key c')

moved_walk : (N : ℕ) → Walk (MovedIn N)
moved_walk N =
    record {
      kept = λ a b c. record { outside = λ key h. refl; moved = λ key. same _ _ refl };
      wide = λ a a' b b' c c' p q h. record { outside = λ key o. h.outside key (λ i. o (i.0, omega (arith, i.1), omega (arith, i.2))); moved = h.moved };
      both = λ a m b c c' c'' p q h i.
          record {
            outside = λ key o. i.outside key (λ j. o (j.0, omega (arith, j.1), j.2)) ∙ h.outside key (λ j. o (j.0, j.1, omega (arith, j.2)));
            moved = λ key. by_cases (dec_lt key.1 m)
                (λ l. moved_to (sym (i.outside key (λ j. absurd (omega (arith, j.1))))) (h.moved key))
                (λ l. moved_from (h.outside key (λ j. absurd (omega (arith, j.2)))) (i.moved key));
          };
      back = λ a m b c c' c'' p q h i.
          record {
            outside = λ key o. i.outside key (λ j. o (j.0, j.1, omega (arith, j.2))) ∙ h.outside key (λ j. o (j.0, omega (arith, j.1), j.2));
            moved = λ key. by_cases (dec_lt key.1 m)
                (λ l. moved_from (h.outside key (λ j. absurd (omega (arith, j.1)))) (i.moved key))
                (λ l. moved_to (sym (i.outside key (λ j. absurd (omega (arith, j.2))))) (h.moved key));
          };
    }

-- where no Operator is called, no state moves
abbrev AllSame : ℕ → ℕ → States → States → Type 0
AllSame a b c c' = (key : Key) → get_state key c' ≡ get_state key c

same_walk : Walk AllSame
same_walk =
    record {
      kept = λ a b c key. refl;
      wide = λ a a' b b' c c' p q h. h;
      both = λ a m b c c' c'' p q h i key. i key ∙ h key;
      back = λ a m b c c' c'' p q h i key. i key ∙ h key;
    }

-- ---- the equations of a node, each once

-- the addresses of two equations lie apart
apart : (qs : List Equation) (i j : ℕ) → i < j → i < length qs → address qs i + width (get_or qs i no_equation).rhs ≤ address qs j
apart [] i j h l = absurd (omega arith)
apart (q ∷ qs) i zero h l = absurd (omega arith)
apart (q ∷ qs) zero (suc j) h l = omega arith
apart (q ∷ qs) (suc i) (suc j) h l = omega (arith, apart qs i j (omega arith) (omega arith))

module _ (f : File) (si : StepInstance) (cv : CallValues) (N : ℕ) (n : Node) (st : State) where
  abbrev qs : List Equation
  qs = n.equations

  abbrev low : ℕ → ℕ
  low i = address qs i

  abbrev high : ℕ → ℕ
  high i = address qs i + width (equation_at n i).rhs

  -- by what an equation does, and what all of these do
  module _ (X : ℕ → States → States → Type 0) (Z : List ℕ → States → States → Type 0) (none_left : (c : States) → Z [] c c)
      (stopped : (i : ℕ) (is : List ℕ) (c c' : States) → X i c c' → Z (i ∷ is) c c')
      (goes : (i : ℕ) (is : List ℕ) (c c' c'' : States) → X i c c' → Z is c' c'' → Z (i ∷ is) c c'')
      (each : (i : ℕ) (env : Env) (c : States) → X i c (Rust.eval f si cv N env st (address qs i) (equation_at n i).rhs c).calls) where
    for_walks : (is : List ℕ) (env : Env) (c : States) → Z is c (for_order f si cv N n st is env c).calls
    unfolding for_order bind_next
    for_walks [] env c = none_left c
    for_walks (i ∷ is) env c = by_result (λ env' c'. for_walks is env' c') r.out
      where
        r : Res Given
        r = Rust.eval f si cv N env st (address qs i) (equation_at n i).rhs c

        by_bound : ((env' : Env) (c' : States) → Z is c' (for_order f si cv N n st is env' c').calls) → (o : Option Env) → Z (i ∷ is) c (bound_on f i o (for_order f si cv N n st is) env r.calls).calls
        by_bound more none = stopped i is c r.calls (each i env c)
        by_bound more (some env') = goes i is c r.calls _ (each i env c) (more env' r.calls)

        by_result : ((env' : Env) (c' : States) → Z is c' (for_order f si cv N n st is env' c').calls) → (o : Result Given) → Z (i ∷ is) c (bind_on f n i o r.calls (for_order f si cv N n st is) env).calls
        by_result more (Ok v) = by_bound more (bind_lhs f n (equation_at n i).names v env)
        by_result more (Err e) = stopped i is c r.calls (each i env c)
        by_result more Panic = stopped i is c r.calls (each i env c)

  -- the states that these equations have moved, if each stands once among them
  record MovedAmong (is : List ℕ) (c c' : States) : Type 0 where
    outside : (key : Key) → ((i : ℕ) → i ∈ is → ¬ Within N (low i) (high i) key) → get_state key c' ≡ get_state key c
    moved : (key : Key) → Moved (get_state key c) (get_state key c')

  abbrev Among : List ℕ → States → States → Type 0
  Among is c c' = Distinct is → ((i : ℕ) → i ∈ is → i < length qs) → MovedAmong is c c'

  -- an address belongs to one equation
  one_owner : (i j : ℕ) (key : Key) → ¬ (i ≡ j) → i < length qs → j < length qs → Within N (low i) (high i) key → ¬ Within N (low j) (high j) key
  one_owner i j key h bi bj x y =
      by_cases (dec_lt i j) (λ l. absurd (omega (arith, apart qs i j l bi, x.2, y.1)))
      (λ l. by_cases (dec_lt j i) (λ k. absurd (omega (arith, apart qs j i k bj, y.2, x.1))) (λ k. h (omega arith)))

  by_place : {A : Type 0} (a b : ℕ) (key : Key) → (Within N a b key → A) → (¬ Within N a b key → A) → A
  by_place a b key in-it out =
      by_cases (ℕ_discrete key.0 N)
      (λ e. by_cases (dec_lt key.1 a) (λ l. out (λ w. absurd (omega (arith, w.1)))) (λ l. by_cases (dec_lt key.1 b) (λ h. in-it (e, omega arith, h)) (λ h. out (λ w. h w.2))))
      (λ e. out (λ w. e w.0))

  module _ (each : (i : ℕ) (env : Env) (c : States) → MovedIn N (low i) (high i) c (Rust.eval f si cv N env st (address qs i) (equation_at n i).rhs c).calls) where
    for_moves : (is : List ℕ) (env : Env) (c : States) → Among is c (for_order f si cv N n st is env c).calls
    for_moves is env c =
        for_walks (λ i. MovedIn N (low i) (high i)) Among
        (λ c d b. record { outside = λ key h. refl; moved = λ key. same _ _ refl })
        (λ i is c c' x d b. record { outside = λ key h. x.outside key (h i (here refl)); moved = x.moved })
        (λ i is c c' c'' x z d b.
        let y = z d.1 (λ j m. b j (there m)) in
        record {
          outside = λ key h. y.outside key (λ j m. h j (there m)) ∙ x.outside key (h i (here refl));
          moved = λ key. by_place (low i) (high i) key
              (λ w. moved_to (sym (y.outside key (λ j m. one_owner i j key (λ e. d.0 (subst (λ k. k ∈ is) (sym e) m)) (b i (here refl)) (b j (there m)) w))) (x.moved key))
              (λ w. moved_from (x.outside key w) (y.moved key));
        })
        each is env c

  module _ (each : (i : ℕ) (env : Env) (c : States) → AllSame (low i) (high i) c (Rust.eval f si cv N env st (address qs i) (equation_at n i).rhs c).calls) where
    for_same : (is : List ℕ) (env : Env) (c : States) (key : Key) → get_state key (for_order f si cv N n st is env c).calls ≡ get_state key c
    for_same is env c = for_walks (λ i. AllSame (low i) (high i)) (λ is. AllSame 0 0) (λ c key. refl) (λ i is c c' x. x) (λ i is c c' c'' x z key. z key ∙ x key) each is env c

-- ---- calls, so deep

module _ (f : File) (vs : List Value) (F : FileRust f vs) where
  abbrev pub kind_of : ℕ → NodeKind
  kind_of k = (node_at (globals_of f vs) k).kind

  -- a call of an Operator moves the state at its key, another call none
  pub record StepMoves (key : Key) (k : ℕ) (c c' : States) : Type 0 where
    pub others : (other : Key) → (kind_of k ≡ Operator → ¬ (other ≡ key)) → get_state other c' ≡ get_state other c
    pub own : Moved (get_state key c) (get_state key c')

  abbrev pub Steps : ℕ → Type 0
  Steps d = (key : Key) (k : ℕ) → k < length f.nodes → (ws : List RValue) (c : States) (env : Env) → StepMoves key k c (step_instance f d key k ws c env).calls

  unmoved : (key : Key) (k : ℕ) (c c' : States) → ((other : Key) → get_state other c' ≡ get_state other c) → StepMoves key k c c'
  unmoved key k c c' h = record { others = λ other q. h other; own = same _ _ (h key) }

  callee_in_lem : (n : Node) (i c : ℕ) → c ∈ callees (equation_at n i).rhs → c ∈ sites n
  callee_in_lem n i c m = in_concat equation_sites no_equation (λ w. in_nil w.1) n.equations i c m

  module _ (d : ℕ) (steps : Steps d) (k : ℕ) (b : k < length f.nodes) where
    abbrev n : Node
    n = node_at (globals_of f vs) k

    facts : NodeRust f vs n
    facts = F.nodes k b

    below : (c : ℕ) → c ∈ sites n → c < length f.nodes
    below c m = omega (arith, lower_site F.callable k c m)

    -- the equations of a Function move nothing
    function_same : n.kind ≡ Function → (is : List ℕ) (env : Env) (c : States) (st : State) (key : Key) → get_state key (for_order f (step_instance f d) (call_function_values f d) k n st is env c).calls ≡ get_state key c
    function_same e is env c st =
        for_same f (step_instance f d) (call_function_values f d) k n st
        (λ i env c.
        eval_walks AllSame same_walk f (step_instance f d) (call_function_values f d) k env st (λ x. (x < length f.nodes) × (¬ (kind_of x ≡ Operator)))
        (λ at x h ws c key. (steps (k, at) x h.0 ws c env).others key (λ o. absurd (h.1 o)))
        (equation_at n i).rhs (address n.equations i) c (λ x m. (below x (callee_in_lem n i x m), facts.functional e x (callee_in_lem n i x m))))
        is env c

    -- those of an Operator move the states of its calls
    pub operator_moves : (st : State) (env : Env) (c : States) (key : Key) → Moved (get_state key c) (get_state key (for_order f (step_instance f d) (call_function_values f d) k n st (order n.equations) env c).calls)
    operator_moves st env c =
        (for_moves f (step_instance f d) (call_function_values f d) k n st
        (λ i env c.
        eval_walks (MovedIn k) (moved_walk k) f (step_instance f d) (call_function_values f d) k env st (λ x. x < length f.nodes)
        (λ at x h ws c.
        let s = steps (k, at) x h ws c env in
        record { outside = λ key o. s.others key (λ q e. o (ap (λ (a : Key). a.0) e, omega (arith, ap (λ (a : Key). a.1) e), omega (arith, ap (λ (a : Key). a.1) e))); moved = λ key. by_key at key s })
        (equation_at n i).rhs (address n.equations i) c (λ x m. below x (callee_in_lem n i x m)))
        (order n.equations) env c (in_order_distinct _ [] (order n.equations) facts.ok.placed.valid.in_order) facts.ok.placed.valid.inside).moved
      where
        by_key : {x : ℕ} {c c' : States} (at : ℕ) (key : Key) → StepMoves (k, at) x c c' → Moved (get_state key c) (get_state key c')
        by_key {c = c} {c' = c'} at key s = go (same_key key (k, at)) refl
          where
            go : (t : Bool) → same_key key (k, at) ≡ t → Moved (get_state key c) (get_state key c')
            go true e = subst (λ a. Moved (get_state a c) (get_state a c')) (sym (key_same key (k, at) (true_t (same_key key (k, at)) e))) s.own
            go false e = same _ _ (s.others key (λ q z. false_t (same_key key (k, at)) e (subst (λ a. T (same_key a (k, at))) (sym z) (same_key_lem (k, at)))))

    -- a call, by the callee's kind and its order
    step_kind_lem : (key : Key) (env : Env) (c : States) (t : NodeKind) → n.kind ≡ t
        → StepMoves key k c (step_kind f (step_instance f d) (call_function_values f d) t key k n (order n.equations) env c).calls
    unfolding end_function end_operator
    step_kind_lem key env c Function e = unmoved key k c _ (λ other. by_end r.end other)
      where
        r : Ran
        r = for_order f (step_instance f d) (call_function_values f d) k n default_state (order n.equations) env c

        by_end : (t : LoopEnd) (other : Key) → get_state other (function_end f n t r.env r.calls).calls ≡ get_state other c
        by_end done other = function_same e (order n.equations) env c default_state other
        by_end (err_at x i) other = function_same e (order n.equations) env c default_state other
        by_end (panic_at i) other = function_same e (order n.equations) env c default_state other
    step_kind_lem key env c Operator e = by_end r.end
      where
        sub : State
        sub = state_or (get_state key c)

        env₀ : Env
        env₀ = reseed f (prev sub) (n.outputs ++ n.locals) env

        r : Ran
        r = for_order f (step_instance f d) (call_function_values f d) k n sub (order n.equations) env₀ (child_calls sub)

        gone : StepMoves key k c (remove_state key c)
        gone = record { others = λ other h. removed_miss other key c (h e); own = dropped _ _ (removed_hit key c) }

        by_end : (t : LoopEnd) → StepMoves key k c (operator_end f n key sub t r.env r.calls (remove_state key c)).calls
        by_end done =
            let new = state (r.env ∷ past sub) r.calls in
            record {
              others = λ other h. state_miss other key new (remove_state key c) (h e) ∙ removed_miss other key c (h e);
              own = longer _ _ r.env r.calls (state_hit key new (remove_state key c)) (operator_moves sub env₀ (child_calls sub));
            }
        by_end (err_at x i) = gone
        by_end (panic_at i) = gone
    step_kind_lem key env c Imported e = unmoved key k c _ (λ other. refl)

  pub steps_move : (d : ℕ) → Steps d
  unfolding step_instance
  steps_move zero key k b ws c env = unmoved key k c _ (λ other. refl)
  steps_move (suc d) key k b ws c env =
      let n = node_at (globals_of f vs) k in
      subst (λ o. StepMoves key k c (step_ordered f (step_instance f d) (call_function_values f d) o key k n (callee_env f n ws env) c).calls)
      (sym (order_is n ∙ ap (maybe (some (order n.equations)) (λ i. none)) (F.nodes k b).ok.placed.none_left))
      (step_kind_lem d (steps_move d) k b key (callee_env f n ws env) c n.kind refl)
