-- Whole sequences of outcomes, and that a main start value never comes back: specs/Sequences' claims.
use Prim.Native.Nat.{ℕ, zero, suc, ◌+◌, ◌<◌}
use mathlib.Core.Bool.{Bool, true, false}
use mathlib.Core.List.Memᴰ.{append_cases as in_append}
use mathlib.Core.List.{List, [], ◌∷◌, ◌++◌, map, append_assoc}
use mathlib.Core.Logic.{⊎_elim}
use mathlib.Core.Option.{Option, none, some}
use mathlib.Core.Path.{◌≡◌, refl, sym, ap, ap₂, subst, ◌∙◌}
use native.Mathlib.Omega.{arith}
use lib.ListN.{length, take, drop, get_elem?, length-append, length-map}
use lib.Dec.{T}
use Rattle.ol_theory.specs.Member.{◌∈◌}
use Rattle.ol_spec.specs.Lists.{maybe, or_else, is_some, member, concat, lookup}
use Rattle.ol_spec.specs.Syntax.{Variable, variable_cells, no_node, Node, File, Expr, bool_lit, var, if_then_else, main, variables, variable_names, cell_names, cell_types}
use Rattle.ol_spec.specs.Syntax as S
use Rattle.ol_spec.specs.Limits.{Loader}
use Rattle.ol_spec.specs.Eval.{eval_cells, Globals, Scope, Calls, values, or_failure, or_failures, cells_named, cells_by, length_named, present_of, constant_of, eval, branch, Branch, first_taken, second_taken, branches_on, choose, seg_size, variant_of}
use Rattle.ol_spec.specs.Step.{cell_count, is_fresh, old_cells, scope, calls}
use Rattle.ol_spec.specs.Admission.{constant_names, constant_cell_names, judge, admitted, head_size}
use Rattle.ol_spec.specs.State.{globals_of, fresh_state}
use Rattle.ol_spec.specs.Demand3.{Bytes, Turn, Made, history, given, Answered}
use Rattle.ol_spec.specs.Lustre.{pre, arrow, always, firstly, Entries, add_answer, answers, sequence_of, eval_in, cells_in, AtInstant, or_cold}
use Rattle.ol_spec.specs.RustSim.{RValue, plain, Array}
use Rattle.ol_spec.specs.RustState.{cells_of}
use Rattle.ol_spec.specs.Sequences.{add_instant, instants, beside, or_nil, outcomes, cell_outcomes, sides, left_of, right_of, cells_at, scope_at, outcomes_at, cell_outcomes_at, sides_at, EveryInstance, SequencesClaim, NeverReturns}
use Rattle.ol_spec.specs.Types.{default, defaults}
use Rattle.ol_spec.specs.declared.Value.{Value}
use Rattle.ol_spec.specs.declared.Outcome.{Outcome}
use Rattle.ol_spec.specs.declared.Outcome.TheVariants as Out
use Rattle.ol_spec.specs.declared.Cycled.{Cycled}
use Rattle.ol_spec.specs.declared.Cycled.TheVariants as Cyc
use Rattle.ol_spec.proofs.Tests.{member_in, in_member}
use Rattle.ol_spec.proofs.Lists.{get_elem_inside, get_d_is, or_nothing}
use Rattle.ol_spec.proofs.Admitted.{Facts}
use Rattle.ol_spec.proofs.CellLengths.{length_values}
use Rattle.ol_spec.proofs.RustEval.{name_is}
use Rattle.ol_spec.proofs.RustRun.{variable_name, constant_name_lem}
use Rattle.ol_spec.proofs.RustCalls.{NodeRust}
use Rattle.ol_spec.proofs.PreArrow.{pre_cold, pre_found, answers_append, constant_cells_lem, instants_of}
use Rattle.ol_spec.proofs.RustCalls.{FileRust}
use Rattle.ol_spec.proofs.AsRust.{main_facts, Opened, opened}

-- ---- an arrow's outcome

-- a side beside the other, once the side's outcome is known
taken_first : (a b : Branch) → (choose true a b).out ≡ beside b.calls b.wide (a.run a.seg).out (b.run b.seg).out
unfolding choose
taken_first a b = go (a.run a.seg).out b.calls
  where
    go : (o : Outcome) (c : Bool) → (first_taken (branches_on o (a.run a.seg).seg (record { calls = c; wide = b.wide; run = b.run; seg = b.seg }))).out ≡ beside c b.wide o (b.run b.seg).out
    go (Out.Value v) true = refl
    go (Out.Value v) false = refl
    go (Out.Failure e) c = refl
    go Out.Overflow c = refl

taken_second : (a b : Branch) → (choose false a b).out ≡ beside a.calls a.wide (b.run b.seg).out (a.run a.seg).out
unfolding choose
taken_second a b = go (b.run b.seg).out a.calls
  where
    go : (o : Outcome) (c : Bool) → (second_taken (branches_on o (b.run b.seg).seg (record { calls = c; wide = a.wide; run = a.run; seg = a.seg }))).out ≡ beside c a.wide o (a.run a.seg).out
    go (Out.Value v) true = refl
    go (Out.Value v) false = refl
    go (Out.Failure e) c = refl
    go Out.Overflow c = refl

module _ (g : Globals) (s : Scope) (calls : Calls) (a b : Expr) (seg : List ℕ) where
  abbrev left : List ℕ
  left = take (seg_size g a) seg

  abbrev right : List ℕ
  right = drop (seg_size g a) seg

  arrow_out : (t : Bool) → s.first ≡ t → (eval g s calls (S.arrow a b) seg).out ≡ (choose t (branch g s a (eval g s calls a) left) (branch g s b (eval g s calls b) right)).out
  unfolding eval
  arrow_out t e = ap (λ t. (choose t (branch g s a (eval g s calls a) left) (branch g s b (eval g s calls b) right)).out) e

-- ---- the instants of a list

record InstantAt (f : File) (ms : List Made) (k : ℕ) (m : Made) : Type 0 where
  earlier : List Made
  later : List Made
  is : ms ≡ earlier ++ m ∷ later
  number : length (answers f earlier) ≡ k

instant_at : (f : File) (ms : List Made) (k : ℕ) (m : Made) → get_elem? (instants ms) k ≡ some m → InstantAt f ms k m
instant_at f [] k m e = let z : ◌≡◌ {A = ℕ} 0 1 = cc in absurd (omega arith)
instant_at f (x ∷ ms) k m e = go x.result.answer refl k e (λ k e. instant_at f ms k m e)
  where
    more : (k j : ℕ) (w : InstantAt f ms k m) → length (add_answer x.result.answer (given f x) (answers f w.earlier)) ≡ j → InstantAt f (x ∷ ms) j m
    more k j w q = record { earlier = x ∷ w.earlier; later = w.later; is = ap (λ l. x ∷ l) w.is; number = q }

    go : (c : Cycled) → x.result.answer ≡ c → (k : ℕ) → get_elem? (add_instant c x (instants ms)) k ≡ some m → ((k : ℕ) → get_elem? (instants ms) k ≡ some m → InstantAt f ms k m)
        → InstantAt f (x ∷ ms) k m
    go Cyc.Answered q zero e h = let z : x ≡ m = cc in record { earlier = []; later = ms; is = ap (λ y. y ∷ ms) z; number = refl }
    go Cyc.Answered q (suc k) e h =
        let w = h k e in
        more k (suc k) w (ap (λ c. length (add_answer c (given f x) (answers f w.earlier))) q ∙ ap suc w.number)
    go (Cyc.Stopped y) q k e h = let w = h k e in more k k w (ap (λ c. length (add_answer c (given f x) (answers f w.earlier))) q ∙ w.number)
    go (Cyc.Refused y) q k e h = let w = h k e in more k k w (ap (λ c. length (add_answer c (given f x) (answers f w.earlier))) q ∙ w.number)

-- the answers are what the instants gave
answers_are : (f : File) (ms : List Made) → answers f ms ≡ map (given f) (instants ms)
answers_are f [] = refl
answers_are f (m ∷ ms) = go m.result.answer (answers_are f ms)
  where
    go : (c : Cycled) → answers f ms ≡ map (given f) (instants ms) → add_answer c (given f m) (answers f ms) ≡ map (given f) (add_instant c m (instants ms))
    go Cyc.Answered e = ap (λ l. given f m ∷ l) e
    go (Cyc.Stopped x) e = e
    go (Cyc.Refused x) e = e

get_map : {A B : Type 0} (h : A → B) (l : List A) (k : ℕ) → get_elem? (map h l) k ≡ maybe none (λ a. some (h a)) (get_elem? l k)
get_map h [] k = refl
get_map h (x ∷ l) zero = refl
get_map h (x ∷ l) (suc k) = get_map h l k

inside : (l : List Made) (j : ℕ) → j < length l → (m : Made) × (get_elem? l j ≡ some m)
inside [] j h = absurd (omega arith)
inside (m ∷ l) zero h = (m, refl)
inside (m ∷ l) (suc j) h = inside l j (omega arith)

some_answer : (x : Made) → Answered x → (f : File) (a b : List Made) → firstly (length (answers f (a ++ x ∷ b))) ≡ false
some_answer x q f a b =
    ap (λ l. firstly (length l)) (answers_append f a (x ∷ b) ∙ ap (λ c. answers f a ++ add_answer c (given f x) (answers f b)) q) ∙ go (answers f a)
  where
    go : (l : List (List Value)) → firstly (length (l ++ given f x ∷ answers f b)) ≡ false
    go [] = refl
    go (c ∷ l) = refl

module _ (ld : Loader) (s : List ℕ) (f : File) (vs : List Value) (ts : List Turn) (bytes : Bytes s) (e : judge ld s ≡ admitted f vs) where
  abbrev ms : List Made
  ms = history ld s ts (fresh_state f vs)

  abbrev g : Globals
  g = globals_of f vs

  abbrev n : Node
  n = main f

  abbrev scope_of : Made → Scope
  scope_of m = scope n (is_fresh (drop (head_size f) m.old)) (old_cells n (drop (head_size f) m.old)) (given f m)

  at : (k : ℕ) (m : Made) → get_elem? (instants ms) k ≡ some m → AtInstant f vs m (answers f ms) k
  at k m q =
      let w = instant_at f ms k m q in
      subst (λ l. AtInstant f vs m (answers f l) k) (sym w.is)
      (subst (AtInstant f vs m (answers f (w.earlier ++ m ∷ w.later))) w.number (instants_of ld s f vs ts bytes e w.earlier m w.later w.is))

  abbrev ArrowAt : Expr → Expr → (ℕ → List ℕ) → ℕ → Type 0
  ArrowAt a b segs k =
      outcomes f vs ms (S.arrow a b) segs k
      ≡ arrow (sides f vs ms a (left_of f vs ms a segs) b (right_of f vs ms a segs)) (sides f vs ms b (right_of f vs ms a segs) a (left_of f vs ms a segs)) k

  arrows : (a b : Expr) (segs : ℕ → List ℕ) (k : ℕ) → ArrowAt a b segs k
  arrows a b segs k = go k (get_elem? (instants ms) k) refl
    where
      -- the two sequences at an instant, where there is one
      both : (k : ℕ) (h h' : Made → Outcome) (o : Option Made) → get_elem? (instants ms) k ≡ o → ((m : Made) → o ≡ some m → h m ≡ h' m)
          → maybe none (λ m. some (h m)) (get_elem? (instants ms) k) ≡ maybe none (λ m. some (h' m)) (get_elem? (instants ms) k)
      both k h h' none q p = ap (maybe none (λ m. some (h m))) q ∙ sym (ap (maybe none (λ m. some (h' m))) q)
      both k h h' (some m) q p = ap (maybe none (λ m. some (h m))) q ∙ ap some (p m refl) ∙ sym (ap (maybe none (λ m. some (h' m))) q)

      go : (k : ℕ) (o : Option Made) → get_elem? (instants ms) k ≡ o → ArrowAt a b segs k
      go zero o q = both zero _ _ o q (λ m z. arrow_out g (scope_of m) (calls g) a b (segs 0) true (at 0 m (q ∙ z)).first ∙ taken_first _ _)
      go (suc k) o q = both (suc k) _ _ o q (λ m z. arrow_out g (scope_of m) (calls g) a b (segs (suc k)) false (at (suc k) m (q ∙ z)).first ∙ taken_second _ _)

  -- ---- `pre`

  o : Opened f vs
  o = opened ld s f vs bytes e

  facts : NodeRust f vs n
  facts = main_facts f vs o.facts o.rust

  -- the cells of a name in a cycle
  var_cells : (m : Made) (x : ℕ) (seg : List ℕ) (r : RValue)
      → name_is (length_named g (scope_of m) x) (present_of g (scope_of m) x) (or_else (cells_named x (cell_names (variables n)) (given f m)) (cells_named x (constant_cell_names f) vs)) ≡ some r
      → (cells_in f vs m (given f m) (var x) seg).out ≡ values (cells_of r)
  unfolding eval cells_by
  var_cells m x seg r h = go (length_named g (scope_of m) x) (present_of g (scope_of m) x) (or_else (cells_named x (cell_names (variables n)) (given f m)) (cells_named x (constant_cell_names f) vs)) h
    where
      go : (o : Option ℕ) (v : Option Value) (us : Option (List Value)) → name_is o v us ≡ some r
          → (cells_by (is_some o) (λ q. record { out = or_failures us; seg = q }) (λ q. record { out = or_failure v; seg = q }) seg).out ≡ values (cells_of r)
      go none none us e = let z : ◌≡◌ {A = ℕ} 0 1 = cc in absurd (omega arith)
      go none (some v) us e = let z : plain v ≡ r = cc in ap (λ r. values (cells_of r)) z
      go (some k) v none e = let z : ◌≡◌ {A = ℕ} 0 1 = cc in absurd (omega arith)
      go (some k) v (some us) e = let z : Array us ≡ r = cc in ap (λ r. values (cells_of r)) z

  given_length : (m : Made) → length (given f m) ≡ cell_count n
  given_length m = length_values (cell_count n) _

  -- the cells of a variable are its outcomes
  variable_seq : (x : ℕ) → x ∈ variable_names n → (segs : ℕ → List ℕ) (j : ℕ) → or_cold (sequence_of f (answers f ms) x j) ≡ or_nil (cell_outcomes f vs ms (var x) segs j)
  variable_seq x k segs j =
      ap (λ o. or_cold (maybe none (cells_named x (cell_names (variables n))) o)) (ap (λ l. get_elem? l j) (answers_are f ms) ∙ get_map (given f) (instants ms) j) ∙ go (get_elem? (instants ms) j)
    where
      go : (p : Option Made) → or_cold (maybe none (cells_named x (cell_names (variables n))) (maybe none (λ m. some (given f m)) p))
          ≡ or_nil (maybe none (λ m. some (cells_in f vs m (given f m) (var x) (segs j)).out) p)
      go none = refl
      go (some m) =
          let u = variable_name f vs n facts.sorted o.rust.constant x (given f m) (or_else (constant_of g (scope_of m) x) (variant_of g (scope_of m) x)) (given_length m) k in
          ap or_cold u.2 ∙ sym (var_cells m x (segs j) u.0 u.3)

  constant_seq : (x : ℕ) → x ∈ constant_names f → (segs : ℕ → List ℕ) (j : ℕ) → j < length (instants ms) → or_cold (cells_named x (constant_cell_names f) vs) ≡ or_nil (cell_outcomes f vs ms (var x) segs j)
  constant_seq x c segs j h = go (get_elem? (instants ms) j) (inside (instants ms) j h)
    where
      go : (p : Option Made) → (m : Made) × (p ≡ some m) → or_cold (cells_named x (constant_cell_names f) vs) ≡ or_nil (maybe none (λ m. some (cells_in f vs m (given f m) (var x) (segs j)).out) p)
      go none w = let z = w.1 in let y : ◌≡◌ {A = ℕ} 0 1 = cc in absurd (omega arith)
      go (some m) w =
          let u = constant_name_lem f vs n facts.sorted o.rust.constant x (given f m) (variant_of g (scope_of m) x) (λ k. facts.sorted.no_constant_lem x k c) c in
          ap or_cold (constant_cells_lem f vs o.facts o.rust.constant x c u.0 u.1) ∙ sym (var_cells m x (segs j) u.0 u.2)

  pres : (x : ℕ) → T (member x (variable_names n ++ constant_names f)) → (segs segs' : ℕ → List ℕ) (k : ℕ) → k < length (instants ms)
      → cell_outcomes f vs ms (S.pre (var x)) segs k ≡ some (or_nil (pre (cell_outcomes f vs ms (var x) segs') k))
  pres x t segs segs' k h =
      ap (maybe none (λ m. some (cells_in f vs m (given f m) (S.pre (var x)) (segs k)).out)) w.1
      ∙ ap some (⊎_elim
      (λ v. (at k w.0 w.1).before x (in_member x (variable_names n) v) (given f w.0) (segs k) ∙ by_variable k v)
      (λ c. (at k w.0 w.1).constants x (in_member x (constant_names f) c) (given f w.0) (segs k) ∙ by_constant k h c)
      (in_append (variable_names n) (member_in x (variable_names n ++ constant_names f) t)))
    where
      w : (m : Made) × (get_elem? (instants ms) k ≡ some m)
      w = inside (instants ms) k h

      by_variable : (k : ℕ) → x ∈ variable_names n → or_cold (pre (sequence_of f (answers f ms) x) k) ≡ or_nil (pre (cell_outcomes f vs ms (var x) segs') k)
      by_variable zero v = refl
      by_variable (suc k) v = variable_seq x v segs' k

      by_constant : (k : ℕ) → k < length (instants ms) → x ∈ constant_names f → or_cold (pre (always (cells_named x (constant_cell_names f) vs)) k) ≡ or_nil (pre (cell_outcomes f vs ms (var x) segs') k)
      by_constant zero h c = refl
      by_constant (suc k) h c = constant_seq x c segs' k (omega arith)

-- ---- the instances of a node

-- as many cells as the variables have
entries_length : (ys : List Variable) (h : Variable → List Value) → ((i : ℕ) (v : Variable) → get_elem? ys i ≡ some v → length (h v) ≡ length (variable_cells v)) → length (concat (map h ys)) ≡ length (cell_types ys)
entries_length [] h e = refl
entries_length (y ∷ ys) h e =
    length-append (h y) (concat (map h ys)) ∙ ap₂ {C = ℕ} (λ a b. a + b) (e 0 y refl) (entries_length ys h (λ i v q. e (suc i) v q)) ∙ sym (length-append (variable_cells y) (cell_types ys))

name_cells : (g : Globals) (s : Scope) (calls : Calls) (x : ℕ) (seg : List ℕ) (r : RValue)
    → name_is (length_named g s x) (present_of g s x) (or_else (cells_named x s.names s.present) (cells_named x g.constant_names g.constant_values)) ≡ some r
    → (eval_cells g s calls (var x) seg).out ≡ values (cells_of r)
unfolding eval cells_by
name_cells g s calls x seg r h = go (length_named g s x) (present_of g s x) (or_else (cells_named x s.names s.present) (cells_named x g.constant_names g.constant_values)) h
  where
    go : (o : Option ℕ) (v : Option Value) (us : Option (List Value)) → name_is o v us ≡ some r
        → (cells_by (is_some o) (λ q. record { out = or_failures us; seg = q }) (λ q. record { out = or_failure v; seg = q }) seg).out ≡ values (cells_of r)
    go none none us e = let z : ◌≡◌ {A = ℕ} 0 1 = cc in absurd (omega arith)
    go none (some v) us e = let z : plain v ≡ r = cc in ap (λ r. values (cells_of r)) z
    go (some k) v none e = let z : ◌≡◌ {A = ℕ} 0 1 = cc in absurd (omega arith)
    go (some k) v (some us) e = let z : Array us ≡ r = cc in ap (λ r. values (cells_of r)) z

same_cells : {a b : List Value} {o : Option (List Value)} → o ≡ some a → o ≡ some b → a ≡ b
same_cells p q = let z = sym p ∙ q in cc

module _ (f : File) (vs : List Value) (A : Facts f vs) (F : FileRust f vs) (n : Node) (facts : NodeRust f vs n) (calls : Calls) (xs : ℕ → ℕ → Option (List Value)) (fits : Entries n xs) where
  abbrev G : Globals
  G = globals_of f vs

  abbrev sc : ℕ → Scope
  sc k = scope_at f vs calls n xs k

  arrows_at : (a b : Expr) (segs : ℕ → List ℕ) (k : ℕ)
      → outcomes_at f vs calls n xs (S.arrow a b) segs k
      ≡ arrow (sides_at f vs calls n xs a (λ i. take (seg_size G a) (segs i)) b (λ i. drop (seg_size G a) (segs i)))
      (sides_at f vs calls n xs b (λ i. drop (seg_size G a) (segs i)) a (λ i. take (seg_size G a) (segs i))) k
  arrows_at a b segs zero = arrow_out G (sc 0) calls a b (segs 0) true refl ∙ taken_first _ _
  arrows_at a b segs (suc k) = arrow_out G (sc (suc k)) calls a b (segs (suc k)) false refl ∙ taken_second _ _

  at_length : (k : ℕ) → length (cells_at f.enums n xs k) ≡ cell_count n
  at_length k = entries_length (variables n) _ (λ i v q. go i v q (xs v.name k) refl)
    where
      go : (i : ℕ) (v : Variable) → get_elem? (variables n) i ≡ some v → (o : Option (List Value)) → xs v.name k ≡ o
          → length (maybe (defaults f.enums (variable_cells v)) (λ w. w) o) ≡ length (variable_cells v)
      go i v q none e = length-map (variable_cells v) (default f.enums)
      go i v q (some ws) e = fits i v q k ws e

  pres_at : (x : ℕ) → T (member x (variable_names n ++ constant_names f)) → (segs segs' : ℕ → List ℕ) (k : ℕ)
      → cell_outcomes_at f vs calls n xs (S.pre (var x)) segs k ≡ or_nil (pre (λ i. some (cell_outcomes_at f vs calls n xs (var x) segs' i)) k)
  pres_at x t segs segs' zero = pre_cold G (sc 0) calls (var x) (segs 0) refl
  pres_at x t segs segs' (suc k) =
      ⊎_elim
      (λ m.
      let cs = cells_at f.enums n xs k in
      let a = variable_name f vs n facts.sorted F.constant x cs (lookup x (constant_cell_names f) vs) (at_length k) m in
      let b = variable_name f vs n facts.sorted F.constant x cs (or_else (constant_of G (sc k) x) (variant_of G (sc k) x)) (at_length k) m in
      pre_found G (sc (suc k)) calls x (segs (suc k)) a.0 refl a.3 ∙ ap values (same_cells a.2 b.2) ∙ sym (name_cells G (sc k) calls x (segs' k) b.0 b.3))
      (λ c.
      let cs = cells_at f.enums n xs k in
      let a = constant_name_lem f vs n facts.sorted F.constant x cs none (λ m. facts.sorted.no_constant_lem x m c) c in
      let b = constant_name_lem f vs n facts.sorted F.constant x cs (variant_of G (sc k) x) (λ m. facts.sorted.no_constant_lem x m c) c in
      pre_found G (sc (suc k)) calls x (segs (suc k)) a.0 refl
      (ap (λ z. name_is (length_named G (sc (suc k)) x) (or_else (lookup x (cell_names (variables n)) cs) z) (or_else (cells_named x (cell_names (variables n)) cs) (cells_named x (constant_cell_names f) vs))) (sym (or_nothing (lookup x (constant_cell_names f) vs))) ∙ a.2)
      ∙ ap values (same_cells (constant_cells_lem f vs A F.constant x c a.0 a.1) (constant_cells_lem f vs A F.constant x c b.0 b.1))
      ∙ sym (name_cells G (sc k) calls x (segs' k) b.0 b.2))
      (in_append (variable_names n) (member_in x (variable_names n ++ constant_names f) t))

every_instance : (f : File) (vs : List Value) → Facts f vs → FileRust f vs → EveryInstance f vs
every_instance f vs A F k n q calls xs fits =
    let facts : NodeRust f vs n = subst (NodeRust f vs) (get_d_is f.nodes k no_node n q) (F.nodes k (get_elem_inside f.nodes k n q)) in
    record { arrows = arrows_at f vs A F n facts calls xs fits; pres = pres_at f vs A F n facts calls xs fits }

pub sequences_claim : (ld : Loader) → SequencesClaim ld
unfolding SequencesClaim
sequences_claim ld s f vs ts bytes e =
    (record { arrows = arrows ld s f vs ts bytes e; pres = pres ld s f vs ts bytes e }, every_instance f vs (opened ld s f vs bytes e).facts (opened ld s f vs bytes e).rust)

-- ---- a main start value never comes back

pub never_returns : (ld : Loader) (s : List ℕ) (f : File) (vs : List Value) (ts : List Turn) → Bytes s → judge ld s ≡ admitted f vs → NeverReturns f vs (history ld s ts (fresh_state f vs))
never_returns ld s f vs ts bytes e earlier x between m later q a =
    let w = instants_of ld s f vs ts bytes e (earlier ++ x ∷ between) m later (q ∙ sym (append_assoc earlier (x ∷ between) (m ∷ later))) in
    let z = some_answer x a f earlier between in
    record { started = w.first ∙ z; takes = λ c d cs seg. w.takes c d cs seg ∙ ap (λ t. eval_in f vs m cs (if_then_else (bool_lit t) c d) seg) z }
