-- The theorems on the order: it is valid, or there is a ring; never both. As many passes as equations suffice.
use mathlib.Core.Path.{◌≡◌, refl, sym, ap, subst, ◌∙◌}
use mathlib.Core.Logic.{◌↔◌, ◌⊎◌, inl, inr, by_cases, ⊎_elim}
use mathlib.Core.List.Memᴰ
use mathlib.Core.List.Memᴰ.{append_cases as in_append}
use mathlib.Core.List.Memᴰ.{cases_cons as in_cons}
use mathlib.Core.List.Memᴰ.{eq_of_singleton as in_one}
use mathlib.Core.List.Memᴰ.{head as here}
use mathlib.Core.List.Memᴰ.{not-nil as in_nil}
use mathlib.Core.List.Memᴰ.{of_map as in_map}
use mathlib.Core.List.Memᴰ.{tail as there}
use mathlib.Core.List.{List, [], ◌∷◌, ◌++◌, map, reverse_aux}
use Prim.Native.Nat.{ℕ, zero, suc, ◌+◌, ◌-◌, ◌≤◌, ◌<◌}
use native.Mathlib.Omega.{arith}
use native.Mathlib.Decide.{dec_le}
use lib.ListN.{length, length-append, length-reverse_aux}
use Rattle.ol_theory.specs.Member.{◌∈◌, upto, Distinct, mem?}
use Rattle.ol_theory.specs.Order.{Ready, ready?, pass, passes, order, InOrder, ValidOrder, Leads, Ring}
use Rattle.ol_theory.proofs.Members.{if_case, if_iff, upto_in, in_upto, length_from, distinct_from, pigeon, in_reverse, reverse_left}

module _ (deps : ℕ → List ℕ) where
  -- ==== a pass

  -- a pass only adds
  pass_grows : (is l : List ℕ) → length l ≤ length (pass deps is l)
  unfolding pass
  pass_grows [] l = omega arith
  pass_grows (i ∷ is) l =
      if_case (λ l'. length l ≤ length (pass deps is l')) (ready? deps l i)
      (λ r. omega (arith, pass_grows is (l ++ (i ∷ [])), length-append l (i ∷ [])))
      (λ r. pass_grows is l)

  -- a pass that adds nothing leaves the list as it is, and found nothing ready
  pub pass_idle : (is l : List ℕ) → length (pass deps is l) ≤ length l → (pass deps is l ≡ l) × ((i : ℕ) → i ∈ is → ¬ Ready deps l i)
  unfolding pass
  pass_idle [] l = λ h. (refl, λ i m. absurd (in_nil m))
  pass_idle (j ∷ is) l =
      if_case (λ l'. length (pass deps is l') ≤ length l → (pass deps is l' ≡ l) × ((i : ℕ) → i ∈ (j ∷ is) → ¬ Ready deps l i)) (ready? deps l j)
      (λ r h. absurd (omega (arith, pass_grows is (l ++ (j ∷ [])), length-append l (j ∷ []))))
      (λ r h. let w = pass_idle is l h in (w.0, λ i m. ⊎_elim (λ e. subst (λ (x : ℕ). ¬ Ready deps l x) (sym e) r) (w.1 i) (in_cons m)))

  -- and so do all further passes
  pub passes_idle : (n k : ℕ) (l : List ℕ) → pass deps (upto n) l ≡ l → passes n deps k l ≡ l
  unfolding passes
  passes_idle n zero l e = refl
  passes_idle n (suc k) l e = ap (passes n deps k) e ∙ passes_idle n k l e

  passes_add : (n m j k : ℕ) (l : List ℕ) → m ≡ j + k → passes n deps m l ≡ passes n deps k (passes n deps j l)
  unfolding passes
  passes_add n m zero k l e = let q : m ≡ k = omega arith in ap (λ i. passes n deps i l) q
  passes_add n zero (suc j) k l e = absurd (omega arith)
  passes_add n (suc m) (suc j) k l e = passes_add n m j k (pass deps (upto n) l) (omega arith)

  -- ==== a list that is in order, newest first: each entry is new and reads only from those behind it

  abbrev Built : List ℕ → Type 0
  Built [] = Unit
  Built (i ∷ s) = (¬ (i ∈ s)) × ((d : ℕ) → d ∈ deps i → d ∈ s) × Built s

  built : (seen l : List ℕ) → Built seen → InOrder deps seen l → Built (reverse_aux l seen)
  built seen [] b o = b
  built seen (i ∷ l) b o = built (i ∷ seen) l (o.0, o.1, b) o.2

  built_distinct : (s : List ℕ) → Built s → Distinct s
  built_distinct [] b = tt
  built_distinct (i ∷ s) b = (b.0, built_distinct s b.2)

  built_closed : (s : List ℕ) → Built s → (i d : ℕ) → i ∈ s → d ∈ deps i → d ∈ s
  built_closed [] b i d m k = absurd (in_nil m)
  built_closed (j ∷ s) b i d m k = there (⊎_elim (λ e. b.1 d (rw e at k)) (λ m'. built_closed s b.2 i d m' k) (in_cons m))

  leads_in : (s : List ℕ) → Built s → (i z : ℕ) (r : List ℕ) → ((d : ℕ) → d ∈ deps i → d ∈ s) → Leads deps i r z → z ∈ s
  leads_in s b i z [] f l = f z l
  leads_in s b i z (j ∷ r) f l = leads_in s b j z r (λ d. built_closed s b j d (f j l.0)) l.1

  no_ring : (s : List ℕ) → Built s → (i : ℕ) (r : List ℕ) → i ∈ s → Leads deps i r i → ⊥
  no_ring [] b i r m l = in_nil m
  no_ring (j ∷ s) b i r m l =
      ⊎_elim
      (λ e. b.0 (Memᴰ.cast (sym e) (leads_in s b.2 i i r (λ d k. b.1 d (rw e at k)) l)))
      (λ m'. no_ring s b.2 i r m' l)
      (in_cons m)

  -- ==== the way to a ring: where nothing is ready, each equation that is not placed reads from another

  leads_snoc : (r : List ℕ) (z j i : ℕ) → Leads deps z r j → i ∈ deps j → Leads deps z (r ++ (j ∷ [])) i
  leads_snoc [] z j i l m = (l, m)
  leads_snoc (x ∷ r) z j i l m = (l.0, leads_snoc r x j i l.1 m)

  -- the way that led to i, newest first: each entry reads from the one before it, and the first from i
  abbrev Trail : ℕ → List ℕ → Type 0
  Trail i [] = Unit
  Trail i (j ∷ t) = (i ∈ deps j) × Trail j t

  back : (t : List ℕ) (z i : ℕ) → Trail i t → z ∈ t → (r : List ℕ) × Leads deps z r i × ((j : ℕ) → j ∈ r → j ∈ t)
  back [] z i tr m = absurd (in_nil m)
  back (j ∷ t) z i tr m =
      ⊎_elim
      (λ e. ([], rw e tr.0, λ x k. absurd (in_nil k)))
      (λ m'.
      let w = back t z j tr.1 m' in
      (w.0 ++ (j ∷ []), leads_snoc w.0 z j i w.1 tr.0, λ x k. ⊎_elim (λ k'. there (w.2 x k')) (λ k'. here (in_one k')) (in_append w.0 k)))
      (in_cons m)

  missing : (ds l : List ℕ) → ¬ ((d : ℕ) → d ∈ ds → d ∈ l) → (d : ℕ) × (d ∈ ds) × (¬ (d ∈ l))
  missing [] l f = absurd (f (λ d m. absurd (in_nil m)))
  missing (x ∷ ds) l f =
      by_cases (mem? x l)
      (λ m. let w = missing ds l (λ g. f (λ d k. ⊎_elim (λ e. Memᴰ.cast e m) (g d) (in_cons k))) in (w.0, there w.1, w.2))
      (λ m. (x, here refl, m))

  in_order_snoc : (seen l : List ℕ) (i : ℕ) → InOrder deps seen l → Ready deps (reverse_aux l seen) i → InOrder deps seen (l ++ (i ∷ []))
  in_order_snoc seen [] i o r = (r.0, r.1, tt)
  in_order_snoc seen (j ∷ l) i o r = (o.0, o.1, in_order_snoc (j ∷ seen) l i o.2 r)

  module _ (n : ℕ) where
    -- ==== what holds of the placed at all times

    record Good (l : List ℕ) : Type 0 where
      inside : (i : ℕ) → i ∈ l → i < n
      in_order : InOrder deps [] l

    none_good : Good []
    none_good = record { inside = λ i m. absurd (in_nil m); in_order = tt }

    pass_good : (is l : List ℕ) → ((i : ℕ) → i ∈ is → i < n) → Good l → Good (pass deps is l)
    unfolding pass
    pass_good [] l b g = g
    pass_good (i ∷ is) l b g = pass_good is _ (λ j m. b j (there m)) (if_case Good (ready? deps l i) (λ r. placed r) (λ r. g))
      where
        placed : Ready deps l i → Good (l ++ (i ∷ []))
        placed r =
            record {
              inside = λ j m. ⊎_elim (g.inside j) (λ k. b j (here (in_one k))) (in_append l m);
              in_order = in_order_snoc [] l i g.in_order (λ m. r.0 (⊎_elim (λ x. x) (λ x. absurd (in_nil x)) (in_reverse l [] m)), λ d m. reverse_left l [] (r.1 d m));
            }

    short : (l : List ℕ) → Distinct l → ((i : ℕ) → i ∈ l → i < n) → length l ≤ n
    short l d b = omega (arith, pigeon l (upto n) d (λ y m. upto_in n y (b y m)), length_from 0 n)

    long : (l : List ℕ) → ((i : ℕ) → i < n → i ∈ l) → n ≤ length l
    long l c = omega (arith, pigeon (upto n) l (distinct_from 0 n) (λ y m. c y (in_upto n y m)), length_from 0 n)

    module _ (l : List ℕ) (g : Good l) where
      good_distinct : Distinct (reverse_aux l [])
      good_distinct = built_distinct (reverse_aux l []) (built [] l tt g.in_order)

      in_reversed : (i : ℕ) → i ∈ reverse_aux l [] → i < n
      in_reversed i m = ⊎_elim (g.inside i) (λ k. absurd (in_nil k)) (in_reverse l [] m)

      good_short : length l ≤ n
      good_short = omega (arith, short (reverse_aux l []) good_distinct in_reversed, length-reverse_aux l [])

      good_complete : n ≤ length l → (i : ℕ) → i < n → i ∈ l
      good_complete h i b =
          by_cases (mem? i (reverse_aux l [])) (λ m. ⊎_elim (λ k. k) (λ k. absurd (in_nil k)) (in_reverse l [] m)) (λ m.
          absurd (omega (arith, short (i ∷ reverse_aux l []) (m, good_distinct) (λ j k. ⊎_elim (λ e. omega arith) (in_reversed j) (in_cons k)), length-reverse_aux l [])))

    -- after enough passes another one adds nothing
    passes_settle : (k : ℕ) (l : List ℕ) → n ≤ k + length l → Good l → let r = passes n deps k l in Good r × (length (pass deps (upto n) r) ≤ length r)
    unfolding passes
    passes_settle zero l h g = (g, omega (arith, good_short (pass deps (upto n) l) (pass_good (upto n) l (in_upto n) g)))
    passes_settle (suc k) l h g =
        let next = pass deps (upto n) l in
        by_cases (dec_le (length next) (length l))
        (λ p. let e = (pass_idle (upto n) l p).0 in rw (e, passes_idle n k l e) (g, p))
        (λ p. passes_settle k next (omega arith) (pass_good (upto n) l (in_upto n) g))

    walk : ((i : ℕ) → i < n → (d : ℕ) → d ∈ deps i → d < n) → (l : List ℕ) → ((i : ℕ) → i < n → ¬ Ready deps l i) → (f i : ℕ) (t : List ℕ) → n < f + length t
        → Distinct t → ((j : ℕ) → j ∈ t → j < n) → i < n → ¬ (i ∈ l) → Trail i t → Ring n deps
    walk closed l none zero i t h d b bi u tr = absurd (omega (arith, short t d b))
    walk closed l none (suc f) i t h d b bi u tr =
        by_cases (mem? i t)
        (λ m.
        let w = back t i i tr m in
        record { first = i; rest = w.0; inside = λ j k. ⊎_elim (λ e. omega arith) (λ k'. b j (w.2 j k')) (in_cons k); around = w.1 })
        (λ m.
        let w = missing (deps i) l (λ a. none i bi (u, a)) in
        walk closed l none f w.0 (i ∷ t) (omega arith) (m, d) (λ j k. ⊎_elim (λ e. omega arith) (b j) (in_cons k)) (closed i bi w.0 w.1) w.2 (w.1, tr))

-- ==== the theorems

module _ (n : ℕ) (deps : ℕ → List ℕ) where
  settled : Good deps n (order n deps) × (length (pass deps (upto n) (order n deps)) ≤ length (order n deps))
  unfolding order
  settled = passes_settle deps n n [] (omega arith) (none_good deps n)

  -- more passes than equations place no more
  pub passes_enough : (k : ℕ) → n ≤ k → passes n deps k [] ≡ order n deps
  unfolding order
  passes_enough k h =
      passes_add deps n k n (k - n) [] (omega arith)
      ∙ passes_idle deps n (k - n) (order n deps) (pass_idle deps (upto n) (order n deps) settled.1).0

  -- who stops at the first pass that adds nothing has the order
  pub passes_stop : (k : ℕ) → k ≤ n → length (pass deps (upto n) (passes n deps k [])) ≤ length (passes n deps k []) → passes n deps k [] ≡ order n deps
  unfolding order
  passes_stop k h p =
      sym (passes_add deps n n k (n - k) [] (omega arith) ∙ passes_idle deps n (n - k) (passes n deps k []) (pass_idle deps (upto n) (passes n deps k []) p).0)

  -- a list with fewer than n entries leaves one of 0 .. n-1 out
  pub left_out : (l : List ℕ) → length l < n → (i : ℕ) × (i < n) × (¬ (i ∈ l))
  left_out l h =
      let w = missing deps (upto n) l (λ f. omega (arith, long deps n l (λ i b. f i (upto_in n i b)))) in
      (w.0, in_upto n w.0 w.1, w.2)

  -- if each equation reads only from equations, the order is valid, or there is a ring and the order leaves one out
  pub order_cases : ((i : ℕ) → i < n → (d : ℕ) → d ∈ deps i → d < n) → ValidOrder n deps (order n deps) ⊎ (Ring n deps × (length (order n deps) < n))
  order_cases closed =
      let l = order n deps in
      let g = settled.0 in
      by_cases (dec_le n (length l))
      (λ h. inl (record { inside = g.inside; complete = good_complete deps n l g h; in_order = g.in_order }))
      (λ h.
      let w = left_out l (omega arith) in
      let unready : (i : ℕ) → i < n → ¬ Ready deps l i = λ i b. (pass_idle deps (upto n) l settled.1).1 i (upto_in n i b) in
      inr (walk deps n closed l unready (suc n) w.0 [] (omega arith) tt (λ j m. absurd (in_nil m)) w.1 w.2 tt, omega arith))

  module _ (l : List ℕ) (v : ValidOrder n deps l) where
    -- a valid order has n entries
    pub valid_length : length l ≡ n
    valid_length = omega (arith, good_short deps n l (record { inside = v.inside; in_order = v.in_order }), long deps n l v.complete)

    -- where there is a valid order, there is no ring
    pub valid_no_ring : ¬ Ring n deps
    valid_no_ring r =
        let m = v.complete r.first (r.inside r.first (here refl)) in
        no_ring deps (reverse_aux l []) (built deps [] l tt v.in_order) r.first r.rest (reverse_left l [] m) r.around

-- only which equations are read from counts, not in what sequence or how often they are listed
module _ (n : ℕ) (deps deps' : ℕ → List ℕ) (same : (i : ℕ) → i < n → (d : ℕ) → d ∈ deps i ↔ d ∈ deps' i) where
  pass_same : (is : List ℕ) → ((i : ℕ) → i ∈ is → i < n) → (l : List ℕ) → pass deps is l ≡ pass deps' is l
  unfolding pass
  pass_same [] b l = refl
  pass_same (i ∷ is) b l =
      let s = same i (b i (here refl)) in
      ap (pass deps is) (if_iff (ready? deps l i) (ready? deps' l i) (λ r. (r.0, λ d m. r.1 d ((s d).1 m))) (λ r. (r.0, λ d m. r.1 d ((s d).0 m))) (l ++ (i ∷ [])) l)
      ∙ pass_same is (λ j m. b j (there m)) _

  passes_same : (k : ℕ) (l : List ℕ) → passes n deps k l ≡ passes n deps' k l
  unfolding passes
  passes_same zero l = refl
  passes_same (suc k) l = ap (passes n deps k) (pass_same (upto n) (in_upto n) l) ∙ passes_same k _

  pub order_same : order n deps ≡ order n deps'
  unfolding order
  order_same = passes_same n []

-- where reads go over into reads, a ring goes over into a ring
module _ (n n' : ℕ) (deps deps' : ℕ → List ℕ) (π : ℕ → ℕ) (inside : (i : ℕ) → i < n → π i < n') (over : (i d : ℕ) → d ∈ deps i → π d ∈ deps' (π i)) where
  leads_map : (i : ℕ) (r : List ℕ) (z : ℕ) → Leads deps i r z → Leads deps' (π i) (map π r) (π z)
  leads_map i [] z l = over i z l
  leads_map i (j ∷ r) z l = (over i j l.0, leads_map j r z l.1)

  pub ring_map : Ring n deps → Ring n' deps'
  ring_map r =
      record {
        first = π r.first;
        rest = map π r.rest;
        inside = λ i m. let w = in_map π (r.first ∷ r.rest) m in rw w.2 at (inside w.0 (r.inside w.0 w.1));
        around = leads_map r.first r.rest r.first r.around;
      }
