-- Map and fold, for any meaning of the iterated function and any length: specs/ArrayClaims' IterateClaim.
use Prim.Native.Nat.{ℕ, zero, suc, ◌+◌, ◌<◌}
use mathlib.Core.Bool.{Bool, true, false, not}
use mathlib.Core.List.{List, [], ◌∷◌, ◌++◌}
use mathlib.Core.Logic.{◌↔◌}
use mathlib.Core.Option.{Option, none, some}
use mathlib.Core.Path.{◌≡◌, refl, sym, subst, ◌∙◌, ap}
use native.Mathlib.Omega.{arith}
use lib.ListN.{length, take, drop, get_or}
use Rattle.ol_spec.specs.Lists.{is_empty}
use Rattle.ol_spec.specs.Syntax.{Expr, fold_over, Exprs}
use Rattle.ol_spec.specs.Eval.{Globals, Scope, Calls, values, failure, overflow, Outcomes, then_results, then_out, cons_out, elements_at, no_value_of, map_next, map_from, fold_from, Eval, callees, has_call, is_double?, real_kind, branch, branches_on, first_taken, second_taken, seg_size, eval, eval_each, enter, choose}
use Rattle.ol_spec.specs.ArrayClaims.{stop_of, stop_out, MapGives, MapStops, Runs, FoldGives, FoldStops, join_out, widened, beside_of, IterateClaim}
use Rattle.ol_spec.specs.declared.Value.{Value}
use Rattle.ol_spec.specs.declared.Cause.{Cause}
use Rattle.ol_spec.specs.declared.Outcome.{Outcome}
use Rattle.ol_spec.specs.declared.Outcome.TheVariants as Out

-- what stops gives no values
no_value : (s : Option Cause) (v : Value) → ¬ (Out.Value v ≡ stop_out s)
no_value none v e = let z : ◌≡◌ {A = ℕ} 0 1 = cc in omega arith
no_value (some c) v e = let z : ◌≡◌ {A = ℕ} 0 1 = cc in omega arith

no_values : {A : Type 0} (s : Option Cause) (a : A) → ¬ (values a ≡ stop_of s)
no_values none a e = let z : ◌≡◌ {A = ℕ} 0 1 = cc in omega arith
no_values (some c) a e = let z : ◌≡◌ {A = ℕ} 0 1 = cc in omega arith

module _ (f : List Value → Outcome) where
  -- ---- map

  module _ (vss : List (List Value)) where
    -- f of the k-th elements, from element j on
    abbrev At : ℕ → ℕ → Outcome
    At j k = f (elements_at (j + k) vss)

    at_zero : (j : ℕ) → At j 0 ≡ f (elements_at j vss)
    at_zero j = ap (λ i. f (elements_at i vss)) (omega arith)

    at_suc : (j k : ℕ) → At (suc j) k ≡ At j (suc k)
    at_suc j k = ap (λ i. f (elements_at i vss)) (omega arith)

    cons_values : (v : Value) (r : Outcomes) (ws : List Value) → cons_out v r ≡ values ws → (us : List Value) × (r ≡ values us) × (ws ≡ v ∷ us)
    cons_values v (values us) ws e = (us, refl, cc)
    cons_values v (failure c) ws e = let z : ◌≡◌ {A = ℕ} 0 1 = cc in absurd (omega arith)
    cons_values v overflow ws e = let z : ◌≡◌ {A = ℕ} 0 1 = cc in absurd (omega arith)

    cons_stops : (s : Option Cause) (v : Value) (r : Outcomes) → cons_out v r ≡ stop_of s → r ≡ stop_of s
    cons_stops s v (values us) e = absurd (no_values s (v ∷ us) e)
    cons_stops s v (failure c) e = e
    cons_stops s v overflow e = e

    stops_cons : (s : Option Cause) (v : Value) (r : Outcomes) → r ≡ stop_of s → cons_out v r ≡ stop_of s
    stops_cons none v r e = rw e refl
    stops_cons (some c) v r e = rw e refl

    stops_next : (s : Option Cause) (k : Unit {0} → Outcomes) → map_next (stop_out s) k ≡ stop_of s
    unfolding map_next
    stops_next none k = refl
    stops_next (some c) k = refl

    -- what the first n elements from j on give
    abbrev Gives : ℕ → ℕ → List Value → Type 0
    Gives j n ws = (length ws ≡ n) × ((k : ℕ) → k < n → At j k ≡ Out.Value (get_or ws k no_value_of))

    gives_cons : (n j k : ℕ) (v : Value) (us : List Value) → k < suc n → f (elements_at j vss) ≡ Out.Value v → ((i : ℕ) → i < n → At (suc j) i ≡ Out.Value (get_or us i no_value_of))
        → At j k ≡ Out.Value (get_or (v ∷ us) k no_value_of)
    gives_cons n j zero v us l q rec = at_zero j ∙ q
    gives_cons n j (suc k) v us l q rec = sym (at_suc j k) ∙ rec k (omega arith)

    values_next : (n j : ℕ) (ws : List Value) (o : Outcome) → f (elements_at j vss) ≡ o → ((us : List Value) → map_from f vss (suc j) n ≡ values us → Gives (suc j) n us)
        → map_next o (λ u. map_from f vss (suc j) n) ≡ values ws → Gives j (suc n) ws
    unfolding map_next
    values_next n j ws (Out.Value v) q rec h =
        let c = cons_values v (map_from f vss (suc j) n) ws h in
        let r = rec c.0 c.1 in
        subst (Gives j (suc n)) (sym c.2) (ap suc r.0, λ k l. gives_cons n j k v c.0 l q r.1)
    values_next n j ws (Out.Failure c) q rec h = let z : ◌≡◌ {A = ℕ} 0 1 = cc in absurd (omega arith)
    values_next n j ws Out.Overflow q rec h = let z : ◌≡◌ {A = ℕ} 0 1 = cc in absurd (omega arith)

    values_from : (n j : ℕ) (ws : List Value) → map_from f vss j n ≡ values ws → Gives j n ws
    unfolding map_from
    values_from zero j ws e = let z : ws ≡ [] = cc in (ap length z, λ k h. absurd (omega arith))
    values_from (suc n) j ws e = values_next n j ws (f (elements_at j vss)) refl (λ us h. values_from n (suc j) us h) e

    from_values : (n j : ℕ) (ws : List Value) → Gives j n ws → map_from f vss j n ≡ values ws
    unfolding map_from map_next
    from_values zero j [] g = refl
    from_values zero j (w ∷ ws) g = let z : suc (length ws) ≡ 0 = g.0 in absurd (omega arith)
    from_values (suc n) j [] g = let z : 0 ≡ suc n = g.0 in absurd (omega arith)
    from_values (suc n) j (w ∷ ws) g =
        let first : f (elements_at j vss) ≡ Out.Value w = sym (at_zero j) ∙ g.1 0 (omega arith) in
        let l : length ws ≡ n = (let z : suc (length ws) ≡ suc n = g.0 in omega arith) in
        let rest : map_from f vss (suc j) n ≡ values ws = from_values n (suc j) ws (l, λ k h. at_suc j k ∙ g.1 (suc k) (omega arith)) in
        rw first (rw rest refl)

    -- the first that stops, of n from j on, is k behind j
    record StopsAt (s : Option Cause) (j n : ℕ) : Type 0 where
      place : ℕ
      inside : place < n
      before : (i : ℕ) → i < place → (v : Value) × (At j i ≡ Out.Value v)
      there : At j place ≡ stop_out s

    later_before : (j p i : ℕ) (v : Value) → f (elements_at j vss) ≡ Out.Value v → ((i : ℕ) → i < p → (w : Value) × (At (suc j) i ≡ Out.Value w)) → i < suc p
        → (w : Value) × (At j i ≡ Out.Value w)
    later_before j p zero v q b l = (v, at_zero j ∙ q)
    later_before j p (suc i) v q b l = let w = b i (omega arith) in (w.0, sym (at_suc j i) ∙ w.1)

    later : (s : Option Cause) (j n : ℕ) (v : Value) → f (elements_at j vss) ≡ Out.Value v → StopsAt s (suc j) n → StopsAt s j (suc n)
    later s j n v q t =
        record {
          place = suc t.place;
          inside = let z : t.place < n = t.inside in omega arith;
          before = λ i l. later_before j t.place i v q t.before l;
          there = sym (at_suc j t.place) ∙ t.there;
        }

    stops_first : (s : Option Cause) (n j : ℕ) (o : Outcome) → f (elements_at j vss) ≡ o → (map_from f vss (suc j) n ≡ stop_of s → StopsAt s (suc j) n)
        → map_next o (λ u. map_from f vss (suc j) n) ≡ stop_of s → StopsAt s j (suc n)
    unfolding map_next
    stops_first s n j (Out.Value v) q rec h = later s j n v q (rec (cons_stops s v (map_from f vss (suc j) n) h))
    stops_first none n j (Out.Failure c) q rec h = let z : ◌≡◌ {A = ℕ} 0 1 = cc in absurd (omega arith)
    stops_first (some d) n j (Out.Failure c) q rec h =
        let z : c ≡ d = cc in
        record { place = 0; inside = omega arith; before = λ i l. absurd (omega arith); there = at_zero j ∙ (q ∙ ap Out.Failure z) }
    stops_first none n j Out.Overflow q rec h = record { place = 0; inside = omega arith; before = λ i l. absurd (omega arith); there = at_zero j ∙ q }
    stops_first (some d) n j Out.Overflow q rec h = let z : ◌≡◌ {A = ℕ} 0 1 = cc in absurd (omega arith)

    stops_from : (s : Option Cause) (n j : ℕ) → map_from f vss j n ≡ stop_of s → StopsAt s j n
    unfolding map_from
    stops_from s zero j e = absurd (no_values s [] e)
    stops_from s (suc n) j e = stops_first s n j (f (elements_at j vss)) refl (λ h. stops_from s n (suc j) h) e

    value_next : (s : Option Cause) (v : Value) (o : Outcome) (r : Outcomes) → o ≡ Out.Value v → r ≡ stop_of s → map_next o (λ u. r) ≡ stop_of s
    unfolding map_next
    value_next s v o r q e = rw q (stops_cons s v r e)

    from_stops : (s : Option Cause) (n j p : ℕ) → p < n → ((i : ℕ) → i < p → (v : Value) × (At j i ≡ Out.Value v)) → At j p ≡ stop_out s → map_from f vss j n ≡ stop_of s
    unfolding map_from
    from_stops s zero j p l b t = absurd (omega arith)
    from_stops s (suc n) j zero l b t = rw (sym (at_zero j) ∙ t) (stops_next s (λ u. map_from f vss (suc j) n))
    from_stops s (suc n) j (suc p) l b t =
        let v = b 0 (omega arith) in
        let q : f (elements_at j vss) ≡ Out.Value v.0 = sym (at_zero j) ∙ v.1 in
        let rest : map_from f vss (suc j) n ≡ stop_of s =
        from_stops s n (suc j) p (omega arith) (λ i h. let w = b (suc i) (omega arith) in (w.0, at_suc j i ∙ w.1)) (at_suc j p ∙ t) in
        value_next s v.0 (f (elements_at j vss)) (map_from f vss (suc j) n) q rest

    at_start : (k : ℕ) → At 0 k ≡ f (elements_at k vss)
    at_start k = ap (λ i. f (elements_at i vss)) (omega arith)

    -- a map of n elements gives ws exactly if ws are n values and f of the k-th elements gives the k-th
    pub map_any : (n : ℕ) (ws : List Value) → (map_from f vss 0 n ≡ values ws) ↔ MapGives f vss n ws
    map_any n ws =
        (λ e. let g = values_from n 0 ws e in (g.0, λ k l. sym (at_start k) ∙ g.1 k l), λ g. from_values n 0 ws (g.0, λ k l. at_start k ∙ g.1 k l))

    -- it stops exactly if f stops so at some element and gives values at all before it
    pub map_any_stops : (s : Option Cause) (n : ℕ) → (map_from f vss 0 n ≡ stop_of s) ↔ MapStops f vss s n
    map_any_stops s n = (
      λ e. let t = stops_from s n 0 e in
          record {
            place = t.place;
            inside = t.inside;
            before = λ i l. let w = t.before i l in (w.0, sym (at_start i) ∙ w.1);
            there = sym (at_start t.place) ∙ t.there;
          },
      λ t. from_stops s n 0 t.place t.inside (λ i l. let w = t.before i l in (w.0, at_start i ∙ w.1)) (at_start t.place ∙ t.there),
    )

    cons_append : (v : Value) (r t : Outcomes)
        → cons_out v (then_results (λ ws. then_results (λ us. values (ws ++ us)) t) r) ≡ then_results (λ ws. then_results (λ us. values (ws ++ us)) t) (cons_out v r)
    cons_append v (values ws) (values us) = refl
    cons_append v (values ws) (failure c) = refl
    cons_append v (values ws) overflow = refl
    cons_append v (failure c) t = refl
    cons_append v overflow t = refl

    same_all : (t : Outcomes) → t ≡ then_results (λ us. values us) t
    same_all (values us) = refl
    same_all (failure c) = refl
    same_all overflow = refl

    join_next : (o : Outcome) (t r q : Outcomes) → r ≡ then_results (λ ws. then_results (λ us. values (ws ++ us)) t) q
        → map_next o (λ u. r) ≡ then_results (λ ws. then_results (λ us. values (ws ++ us)) t) (map_next o (λ u. q))
    unfolding map_next
    join_next (Out.Value v) t r q e = ap (cons_out v) e ∙ cons_append v q t
    join_next (Out.Failure c) t r q e = refl
    join_next Out.Overflow t r q e = refl

    -- a map of m + n elements is that of the first m followed by that of the other n
    pub map_join : (m n j : ℕ) → map_from f vss j (m + n) ≡ join_out (map_from f vss j m) (map_from f vss (j + m) n)
    unfolding map_from
    map_join zero n j =
        let e : 0 + n ≡ n = omega arith in
        let g : j + 0 ≡ j = omega arith in
        rw e (rw g (same_all (map_from f vss j n)))
    map_join (suc m) n j =
        let e : suc m + n ≡ suc (m + n) = omega arith in
        let g : j + suc m ≡ suc j + m = omega arith in
        rw e (rw g (join_next (f (elements_at j vss)) (map_from f vss (suc j + m) n) (map_from f vss (suc j) (m + n)) (map_from f vss (suc j) m) (map_join m n (suc j))))

  -- ---- fold

  -- the running value, and then the others
  abbrev pub behind : Value → (ℕ → Value) → ℕ → Value
  behind r rs zero = r
  behind r rs (suc k) = rs k

  step_behind : (r v : Value) (vs : List Value) (n k : ℕ) (rs : ℕ → Value) → f (r ∷ v ∷ []) ≡ Out.Value (rs 0)
      → ((k : ℕ) → k < n → f (rs k ∷ get_or vs k no_value_of ∷ []) ≡ Out.Value (rs (suc k))) → k < suc n
      → f (behind r rs k ∷ get_or (v ∷ vs) k no_value_of ∷ []) ≡ Out.Value (rs k)
  step_behind r v vs n zero rs q t l = q
  step_behind r v vs n (suc k) rs q t l = t k (omega arith)

  runs_behind : (r w v : Value) (vs : List Value) (n : ℕ) → f (r ∷ v ∷ []) ≡ Out.Value w → Runs f w vs n → Runs f r (v ∷ vs) (suc n)
  runs_behind r w v vs n q t =
      record { running = behind r t.running; seed = refl; steps = λ k l. step_behind r v vs n k t.running (q ∙ ap Out.Value (sym t.seed)) t.steps l }

  fold_next : (r v w : Value) (vs : List Value) (o : Outcome) → f (r ∷ v ∷ []) ≡ o → ((u : Value) → fold_from f u vs ≡ Out.Value w → FoldGives f u vs w)
      → then_out (λ u. fold_from f u vs) o ≡ Out.Value w → FoldGives f r (v ∷ vs) w
  unfolding runs_behind
  fold_next r v w vs (Out.Value u) q rec h = let t = rec u h in (runs_behind r u v vs (length vs) q t.0, t.1)
  fold_next r v w vs (Out.Failure c) q rec h = let z : ◌≡◌ {A = ℕ} 0 1 = cc in absurd (omega arith)
  fold_next r v w vs Out.Overflow q rec h = let z : ◌≡◌ {A = ℕ} 0 1 = cc in absurd (omega arith)

  fold_runs : (vs : List Value) (r w : Value) → fold_from f r vs ≡ Out.Value w → FoldGives f r vs w
  unfolding fold_from
  fold_runs [] r w e = let z : w ≡ r = cc in (record { running = λ k. r; seed = refl; steps = λ k l. absurd (omega arith) }, z)
  fold_runs (v ∷ vs) r w e = fold_next r v w vs (f (r ∷ v ∷ [])) refl (λ u h. fold_runs vs u w h) e

  runs_fold : (vs : List Value) (rs : ℕ → Value) → ((k : ℕ) → k < length vs → f (rs k ∷ get_or vs k no_value_of ∷ []) ≡ Out.Value (rs (suc k))) → fold_from f (rs 0) vs ≡ Out.Value (rs (length vs))
  unfolding fold_from
  runs_fold [] rs t = refl
  runs_fold (v ∷ vs) rs t = rw (t 0 (omega arith)) (runs_fold vs (λ k. rs (suc k)) (λ k l. t (suc k) (omega arith)))

  -- a fold gives w exactly if there are running values from the seed on, each step made by f, the last being w
  pub fold_any : (r : Value) (vs : List Value) (w : Value) → (fold_from f r vs ≡ Out.Value w) ↔ FoldGives f r vs w
  fold_any r vs w =
      (fold_runs vs r w, λ t. subst (λ u. fold_from f u vs ≡ Out.Value w) t.0.seed (runs_fold vs t.0.running t.0.steps ∙ ap Out.Value (sym t.1)))

  stop_next : (s : Option Cause) (r v : Value) (vs : List Value) (o : Outcome) → f (r ∷ v ∷ []) ≡ o → ((u : Value) → fold_from f u vs ≡ stop_out s → FoldStops f s u vs)
      → then_out (λ u. fold_from f u vs) o ≡ stop_out s → FoldStops f s r (v ∷ vs)
  unfolding runs_behind
  stop_next s r v vs (Out.Value u) q rec h =
      let t = rec u h in
      record { place = suc t.place; inside = (let z : t.place < length vs = t.inside in omega arith); runs = runs_behind r u v vs t.place q t.runs; there = t.there }
  stop_next s r v vs (Out.Failure c) q rec h =
      record { place = 0; inside = omega arith; runs = record { running = λ k. r; seed = refl; steps = λ k l. absurd (omega arith) }; there = q ∙ h }
  stop_next s r v vs Out.Overflow q rec h =
      record { place = 0; inside = omega arith; runs = record { running = λ k. r; seed = refl; steps = λ k l. absurd (omega arith) }; there = q ∙ h }

  fold_stops : (s : Option Cause) (vs : List Value) (r : Value) → fold_from f r vs ≡ stop_out s → FoldStops f s r vs
  unfolding fold_from
  fold_stops s [] r e = absurd (no_value s r e)
  fold_stops s (v ∷ vs) r e = stop_next s r v vs (f (r ∷ v ∷ [])) refl (λ u h. fold_stops s vs u h) e

  then_stops : (s : Option Cause) (k : Value → Outcome) → then_out k (stop_out s) ≡ stop_out s
  then_stops none k = refl
  then_stops (some c) k = refl

  stops_fold : (s : Option Cause) (vs : List Value) (p : ℕ) (rs : ℕ → Value) → p < length vs
      → ((k : ℕ) → k < p → f (rs k ∷ get_or vs k no_value_of ∷ []) ≡ Out.Value (rs (suc k))) → f (rs p ∷ get_or vs p no_value_of ∷ []) ≡ stop_out s → fold_from f (rs 0) vs ≡ stop_out s
  unfolding fold_from
  stops_fold s [] p rs l t e = absurd (omega arith)
  stops_fold s (v ∷ vs) zero rs l t e = rw e (then_stops s (λ w. fold_from f w vs))
  stops_fold s (v ∷ vs) (suc p) rs l t e = rw (t 0 (omega arith)) (stops_fold s vs p (λ k. rs (suc k)) (omega arith) (λ k h. t (suc k) (omega arith)) e)

  -- and stops exactly at the first element where f stops so
  pub fold_any_stops : (s : Option Cause) (r : Value) (vs : List Value) → (fold_from f r vs ≡ stop_out s) ↔ FoldStops f s r vs
  fold_any_stops s r vs =
      (fold_stops s vs r, λ t. subst (λ u. fold_from f u vs ≡ stop_out s) t.runs.seed (stops_fold s vs t.place t.runs.running t.inside t.runs.steps t.there))

  then_then : (k m : Value → Outcome) (o : Outcome) → ((v : Value) → k v ≡ m v) → then_out k o ≡ then_out m o
  then_then k m (Out.Value v) h = h v
  then_then k m (Out.Failure c) h = refl
  then_then k m Out.Overflow h = refl

  then_assoc : (k m : Value → Outcome) (o : Outcome) → then_out (λ v. then_out m (k v)) o ≡ then_out m (then_out k o)
  then_assoc k m (Out.Value v) = refl
  then_assoc k m (Out.Failure c) = refl
  then_assoc k m Out.Overflow = refl

  -- a fold over a joined list is the fold over the second from what the first gives
  pub fold_join : (vs us : List Value) (r : Value) → fold_from f r (vs ++ us) ≡ then_out (λ w. fold_from f w us) (fold_from f r vs)
  unfolding fold_from
  fold_join [] us r = refl
  fold_join (v ∷ vs) us r =
      then_then (λ w. fold_from f w (vs ++ us)) (λ w. then_out (λ w. fold_from f w us) (fold_from f w vs)) (f (r ∷ v ∷ [])) (λ w. fold_join vs us w)
      ∙ then_assoc (λ w. fold_from f w vs) (λ w. fold_from f w us) (f (r ∷ v ∷ []))

-- ---- a fold whose arrays stop does not ask for its seed, and an untaken branch without calls is not run

-- the outcome and the moved records are those of the arrays
pub fold_order : (g : Globals) (s : Scope) (calls : Calls) (k : ℕ) (e : Expr) (es : Exprs) (seg : List ℕ) (w : Option Cause)
    → (eval_each g s calls es (drop (seg_size g e) seg)).out ≡ stop_of w
    → eval g s calls (fold_over k e es) seg ≡ record { out = stop_out w; seg = take (seg_size g e) seg ++ (eval_each g s calls es (drop (seg_size g e) seg)).seg }
unfolding eval enter
fold_order g s calls k e es seg none h = rw h refl
fold_order g s calls k e es seg (some c) h = rw h refl

-- a branch that is not taken counts only for widening, where it has no call site
no_call : (c w : Bool) (o : Outcome) (seg q : List ℕ) (other : List ℕ → Eval) → c ≡ false
    → branches_on o seg (record { calls = c; wide = w; run = other; seg = q }) ≡ record { out = widened w o; taken = seg; other = q }
no_call true w o seg q other e = let z : ◌≡◌ {A = ℕ} 0 1 = cc in absurd (omega arith)
no_call false w (Out.Value v) seg q other e = refl
no_call false w (Out.Failure c) seg q other e = refl
no_call false w Out.Overflow seg q other e = refl

no_site : (e : Expr) → callees e ≡ [] → has_call e ≡ false
no_site e h = ap (λ l. not (is_empty l)) h

pub iterator_no_call : (g : Globals) (s : Scope) (a b : Expr) (taken other : List ℕ → Eval) (p q : List ℕ)
    → (callees b ≡ [] → choose true (branch g s a taken p) (branch g s b other q) ≡ record { out = beside_of g s b (taken p).out; seg = (taken p).seg ++ q })
    × (callees a ≡ [] → choose false (branch g s a other p) (branch g s b taken q) ≡ record { out = beside_of g s a (taken q).out; seg = p ++ (taken q).seg })
unfolding choose
iterator_no_call g s a b taken other p q = (
  λ h. ap first_taken (no_call (has_call b) (is_double? (real_kind g s b)) (taken p).out (taken p).seg q other (no_site b h)),
  λ h. ap second_taken (no_call (has_call a) (is_double? (real_kind g s a)) (taken q).out (taken q).seg p other (no_site a h)),
)

-- Map and fold are the iterated function's, element by element.
pub iterate_claim : IterateClaim
iterate_claim =
    record {
      map_any = map_any;
      map_any_stops = map_any_stops;
      fold_any = fold_any;
      fold_any_stops = fold_any_stops;
      map_join = map_join;
      fold_join = fold_join;
      fold_order = fold_order;
      iterator_no_call = iterator_no_call;
    }
