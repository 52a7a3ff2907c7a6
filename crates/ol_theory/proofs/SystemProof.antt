-- The theorems on System's solutions.
use mathlib.Core.Path.{◌≡◌, refl, sym, ap, ap₂, subst, ◌∙◌}
use mathlib.Core.Logic.{◌⊎◌, inl, inr, by_cases, ⊎_elim}
use mathlib.Core.List.Memᴰ
use mathlib.Core.List.Memᴰ.{cases_cons as in_cons}
use mathlib.Core.List.Memᴰ.{head as here}
use mathlib.Core.List.Memᴰ.{not-nil as in_nil}
use mathlib.Core.List.Memᴰ.{tail as there}
use mathlib.Core.List.{List, [], ◌∷◌, map, reverse_aux}
use Prim.Native.Nat.{ℕ, ◌<◌}
use native.Mathlib.Omega.{arith}
use native.Mathlib.Decide.{dec_lt, ℕ_discrete}
use lib.ListN.{length, get_or, set, length-set, length-map, get_or-eq_default}
use lib.Seq.{get_or-set_same, get_or-set_other, ext_get_or}
use Rattle.ol_theory.specs.Member.{◌∈◌, upto, Distinct, mem?}
use Rattle.ol_theory.specs.Order.{InOrder, ValidOrder}
use Rattle.ol_theory.specs.System.{Out, values, failed, overflowed, System, at, memory, deps, store, Run, finished, onward, run_eqs, SameKinds, Undefined, Sat, Solution, new_mems, Lawful}
use Rattle.ol_theory.proofs.Members.{upto_in, in_upto, length_from, reverse_left, in_filter, filter_in, in_flat_map, flat_map_in, map_cong, map_agree, map_upto}

-- ==== lists

module _ {A : Type 0} where
  pub length_store : (xs : List ℕ) (vs p : List A) → length (store xs vs p) ≡ length p
  unfolding store
  length_store [] vs p = refl
  length_store (x ∷ xs) [] p = refl
  length_store (x ∷ xs) (v ∷ vs) p = length_store xs vs (set p x v) ∙ length-set p x v

  pub store_other : (xs : List ℕ) (vs p : List A) (d : A) (y : ℕ) → ¬ (y ∈ xs) → get_or (store xs vs p) y d ≡ get_or p y d
  unfolding store
  store_other [] vs p d y h = refl
  store_other (x ∷ xs) [] p d y h = refl
  store_other (x ∷ xs) (v ∷ vs) p d y h = store_other xs vs (set p x v) d y (λ m. h (there m)) ∙ get_or-set_other p x y v d (λ e. h (here e))

  pub store_read : (xs : List ℕ) (vs p : List A) (d : A) → Distinct xs → ((x : ℕ) → x ∈ xs → x < length p) → length vs ≡ length xs
      → map (λ x. get_or (store xs vs p) x d) xs ≡ vs
  unfolding store
  store_read [] [] p d u b e = refl
  store_read [] (v ∷ vs) p d u b e = absurd (omega arith)
  store_read (x ∷ xs) [] p d u b e = absurd (omega arith)
  store_read (x ∷ xs) (v ∷ vs) p d u b e =
      ap₂ {C = List A} (λ a l. a ∷ l)
      (store_other xs vs (set p x v) d x u.0 ∙ get_or-set_same p x v d (b x (here refl)))
      (store_read xs vs (set p x v) d u.1 (λ y m. omega (arith, b y (there m), length-set p x v)) (omega arith))

-- ==== what an equation reads from

pub onward_finished : {Cell Mem : Type 0} (i : ℕ) (ms : List Mem) (next : List Cell → Run Cell Mem) (o : Out Cell) (p : List Cell) (ms' : List Mem)
    → onward i ms next o ≡ finished p ms' → (vs : List Cell) × (o ≡ values vs) × (next vs ≡ finished p ms')
unfolding onward
onward_finished i ms next (values vs) p ms' e = (vs, refl, e)
onward_finished i ms next failed p ms' e = let z : ◌≡◌ {A = ℕ} 0 1 = cc in absurd (omega arith)
onward_finished i ms next overflowed p ms' e = let z : ◌≡◌ {A = ℕ} 0 1 = cc in absurd (omega arith)

pub in_order_new : (deps : ℕ → List ℕ) (seen l : List ℕ) → InOrder deps seen l → (j : ℕ) → j ∈ l → ¬ (j ∈ seen)
in_order_new deps seen [] o j m = absurd (in_nil m)
in_order_new deps seen (i ∷ l) o j m = λ s. ⊎_elim (λ e. o.0 (Memᴰ.cast (sym e) s)) (λ k. in_order_new deps (i ∷ seen) l o.2 j k (there s)) (in_cons m)

pub in_order_distinct : (deps : ℕ → List ℕ) (seen l : List ℕ) → InOrder deps seen l → Distinct l
in_order_distinct deps seen [] h = tt
in_order_distinct deps seen (i ∷ l) h = ((λ m. in_order_new deps (i ∷ seen) l h.2 i m (here refl)), in_order_distinct deps (i ∷ seen) l h.2)

module _ {Cell Mem : Type 0} (sys : System Cell Mem) where
  pub in_deps : (i d : ℕ) → d ∈ deps sys i → (x : ℕ) × (x ∈ sys.reads i) × (d < sys.n) × (x ∈ sys.lhs d)
  unfolding deps
  in_deps i d m =
      let w = in_flat_map _ (sys.reads i) d m in
      let f = in_filter (λ d. mem? w.0 (sys.lhs d)) (upto sys.n) d w.2 in
      (w.0, w.1, in_upto sys.n d f.0, f.1)

  pub deps_in_lem : (i d x : ℕ) → x ∈ sys.reads i → d < sys.n → x ∈ sys.lhs d → d ∈ deps sys i
  unfolding deps
  deps_in_lem i d x m b k = flat_map_in _ (sys.reads i) d x m (filter_in (λ d. mem? x (sys.lhs d)) (upto sys.n) d (upto_in sys.n d b) k)

  pub deps_closed : (i : ℕ) → i < sys.n → (d : ℕ) → d ∈ deps sys i → d < sys.n
  deps_closed i b d m = (in_deps i d m).2

  -- slot x is defined by an equation of the list
  abbrev pub DefBy : List ℕ → ℕ → Type 0
  DefBy l x = (i : ℕ) × (i ∈ l) × (x ∈ sys.lhs i)

  -- a run changes only the slots that its equations define
  pub frame : (l : List ℕ) (c : List Cell) (cm : List Mem) (p : List Cell) (ms' : List Mem) → run_eqs sys l c cm ≡ finished p ms'
      → (length p ≡ length c) × ((x : ℕ) → ¬ DefBy l x → at sys p x ≡ at sys c x)
  unfolding run_eqs
  frame [] c cm p ms' e = let q : p ≡ c = cc in (ap length q, λ x h. ap (λ r. at sys r x) q)
  frame (i ∷ l) c cm p ms' e =
      let w = onward_finished i _ _ _ p ms' e in
      let f = frame l (store (sys.lhs i) w.0 c) _ p ms' w.2 in
      (f.0 ∙ length_store (sys.lhs i) w.0 c, λ x h. f.1 x (λ d. h (d.0, there d.1, d.2)) ∙ store_other (sys.lhs i) w.0 c sys.no_cell x (λ m. h (i, here refl, m)))

  module _ (ok : Lawful sys) (p₀ q : List Cell) (ms : List Mem) (size : length q ≡ sys.m) (kinds : SameKinds sys q p₀)
      (kept : (x : ℕ) → Undefined sys x → at sys q x ≡ at sys p₀ x) where
    abbrev new : ℕ → Mem
    new j = (sys.eval j q (memory sys ms j)).1

    -- In the middle of a run towards q, when the equations `seen` are evaluated: their slots and memories are as they will be, the others as they were.
    record State (seen : List ℕ) (c : List Cell) (cm : List Mem) : Type 0 where
      cells : length c ≡ sys.m
      mems : length cm ≡ sys.n
      cell : (x : ℕ) → (DefBy seen x × (at sys c x ≡ at sys q x)) ⊎ ((¬ DefBy seen x) × (at sys c x ≡ at sys p₀ x))
      mem : (j : ℕ) → ((j ∈ seen) × (memory sys cm j ≡ new j)) ⊎ ((¬ (j ∈ seen)) × (memory sys cm j ≡ memory sys ms j))

    -- an equation whose turn it is gives what it gives on q
    key : (seen : List ℕ) (c : List Cell) (cm : List Mem) → State seen c cm → (i : ℕ) → i < sys.n → ¬ (i ∈ seen) → ((d : ℕ) → d ∈ deps sys i → d ∈ seen)
        → sys.eval i c (memory sys cm i) ≡ sys.eval i q (memory sys ms i)
    key seen c cm st i b u f =
        ap (sys.eval i c) (⊎_elim (λ w. absurd (u w.0)) (λ w. w.1) (st.mem i))
        ∙ ok.local i b c q (memory sys ms i) st.cells size
        (λ x m. ⊎_elim (λ w. w.1) (λ w. w.1 ∙ sym (kept x (λ j bj mj. w.0 (j, f j (deps_in_lem i j x m bj mj), mj)))) (st.cell x))
        (λ x h. ⊎_elim (λ w. ap sys.kind w.1) (λ w. ap sys.kind w.1 ∙ sym (kinds x h)) (st.cell x))

    -- the state after its values are stored, if they are q's
    advance : (seen : List ℕ) (c : List Cell) (cm : List Mem) → State seen c cm → (i : ℕ) → i < sys.n → (vs : List Cell) (s : Mem) → s ≡ new i
        → ((x : ℕ) → x ∈ sys.lhs i → at sys (store (sys.lhs i) vs c) x ≡ at sys q x) → State (i ∷ seen) (store (sys.lhs i) vs c) (set cm i s)
    advance seen c cm st i b vs s e h =
        record {
          cells = length_store (sys.lhs i) vs c ∙ st.cells;
          mems = length-set cm i s ∙ st.mems;
          cell = λ x. by_cases (mem? x (sys.lhs i)) (λ m. inl ((i, here refl, m), h x m)) (λ m.
              let same = store_other (sys.lhs i) vs c sys.no_cell x m in
              ⊎_elim
              (λ w. inl ((w.0.0, there w.0.1, w.0.2), same ∙ w.1))
              (λ w. inr (λ d. ⊎_elim (λ p. m (subst (λ j. x ∈ sys.lhs j) p d.2)) (λ k. w.0 (d.0, k, d.2)) (in_cons d.1), same ∙ w.1))
              (st.cell x));
          mem = λ j. by_cases (ℕ_discrete j i) (λ p. inl (here p, ap (memory sys (set cm i s)) p ∙ get_or-set_same cm i s sys.no_mem (omega (arith, st.mems)) ∙ e ∙ ap new (sym p))) (λ p.
              let same = get_or-set_other cm i j s sys.no_mem p in
              ⊎_elim (λ w. inl (there w.0, same ∙ w.1)) (λ w. inr (λ k. ⊎_elim p w.0 (in_cons k), same ∙ w.1)) (st.mem j));
        }

    start : length p₀ ≡ sys.m → length ms ≡ sys.n → State [] p₀ ms
    start s c = record { cells = s; mems = c; cell = λ x. inr (λ d. in_nil d.1, refl); mem = λ j. inr (λ k. in_nil k, refl) }

    -- the state when all are evaluated
    done : (seen : List ℕ) (c : List Cell) (cm : List Mem) → State seen c cm → ((j : ℕ) → j < sys.n → j ∈ seen) → (c ≡ q) × (cm ≡ new_mems sys q ms)
    unfolding new_mems
    done seen c cm st all = (
      ext_get_or sys.no_cell c q (st.cells ∙ sym size) (λ x h. ⊎_elim (λ w. w.1) (λ w. w.1 ∙ sym (kept x (λ j bj mj. w.0 (j, all j bj, mj)))) (st.cell x)),
      ext_get_or sys.no_mem cm (new_mems sys q ms) (st.mems ∙ sym (length-map (upto sys.n) new ∙ length_from 0 sys.n))
          (λ j h.
          let b : j < sys.n = omega (arith, st.mems) in
          ⊎_elim (λ w. w.1) (λ w. absurd (w.0 (all j b))) (st.mem j) ∙ sym (map_upto new sys.n j sys.no_mem b)),
    )

    -- a run towards a solution arrives there
    run_step : (i : ℕ) (l : List ℕ) (c : List Cell) (cm : List Mem) (r : Out Cell × Mem) (vs : List Cell) → sys.eval i c (memory sys cm i) ≡ r → r.0 ≡ values vs
        → run_eqs sys (i ∷ l) c cm ≡ run_eqs sys l (store (sys.lhs i) vs c) (set cm i r.1)
    unfolding run_eqs onward
    run_step i l c cm r vs e h =
        ap (λ (r : Out Cell × Mem). onward i (set cm i r.1) (λ vs. run_eqs sys l (store (sys.lhs i) vs c) (set cm i r.1)) r.0) e
        ∙ ap (onward i (set cm i r.1) (λ vs. run_eqs sys l (store (sys.lhs i) vs c) (set cm i r.1))) h

    arrives : ((i : ℕ) → i < sys.n → Sat sys q ms i) → (l seen : List ℕ) (c : List Cell) (cm : List Mem) → State seen c cm → InOrder (deps sys) seen l
        → ((j : ℕ) → j ∈ l → j < sys.n) → ((j : ℕ) → j < sys.n → j ∈ reverse_aux l seen) → run_eqs sys l c cm ≡ finished q (new_mems sys q ms)
    unfolding run_eqs
    arrives sat [] seen c cm st o b all = let d = done seen c cm st all in ap₂ finished d.0 d.1
    arrives sat (i ∷ l) seen c cm st o b all =
        let bi = b i (here refl) in
        let xs = sys.lhs i in
        let vs = map (at sys q) xs in
        let read = store_read xs vs c sys.no_cell (ok.once i bi) (λ x m. omega (arith, ok.slots i bi x m, st.cells)) (length-map xs (at sys q)) in
        run_step i l c cm _ vs (key seen c cm st i bi o.0 o.1) (sat i bi)
        ∙ arrives sat l (i ∷ seen) _ _ (advance seen c cm st i bi vs (new i) refl (map_agree _ (at sys q) xs read)) o.2 (λ j m. b j (there m)) all

    -- what a run arrives at satisfies its equations
    satisfied : (ms' : List Mem) (l seen : List ℕ) (c : List Cell) (cm : List Mem) → State seen c cm → InOrder (deps sys) seen l
        → ((j : ℕ) → j ∈ l → j < sys.n) → run_eqs sys l c cm ≡ finished q ms' → (i : ℕ) → i ∈ l → Sat sys q ms i
    unfolding run_eqs
    satisfied ms' [] seen c cm st o b e i m = absurd (in_nil m)
    satisfied ms' (i ∷ l) seen c cm st o b e j m =
        let bi = b i (here refl) in
        let w = onward_finished i _ _ _ q ms' e in
        let vs = w.0 in
        let k = key seen c cm st i bi o.0 o.1 in
        let c' = store (sys.lhs i) vs c in
        let later : (x : ℕ) → x ∈ sys.lhs i → at sys q x ≡ at sys c' x =
        λ x mx. (frame l c' _ q ms' w.2).1 x (λ d. in_order_new (deps sys) (i ∷ seen) l o.2 d.0 d.1 (here (ok.single d.0 i (b d.0 (there d.1)) bi x d.2 mx))) in
        let read : map (at sys c') (sys.lhs i) ≡ vs =
        store_read (sys.lhs i) vs c sys.no_cell (ok.once i bi) (λ x mx. omega (arith, ok.slots i bi x mx, st.cells)) (ok.arity i bi c (memory sys cm i) vs st.cells w.1) in
        ⊎_elim
        (λ p. subst (λ x. Sat sys q ms x) (sym p) (ap (λ (r : Out Cell × Mem). r.0) (sym k) ∙ w.1 ∙ ap values (sym (map_cong (at sys q) (at sys c') (sys.lhs i) later ∙ read))))
        (λ mj.
        let next = advance seen c cm st i bi vs _ (ap (λ (r : Out Cell × Mem). r.1) k) (λ x mx. sym (later x mx)) in
        satisfied ms' l (i ∷ seen) c' _ next o.2 (λ y my. b y (there my)) w.2 j mj)
        (in_cons m)

  -- ==== the theorems

  pub new_memory : (q : List Cell) (ms : List Mem) (i : ℕ) → i < sys.n → memory sys (new_mems sys q ms) i ≡ (sys.eval i q (memory sys ms i)).1
  unfolding new_mems
  new_memory q ms i b = map_upto (λ i. (sys.eval i q (memory sys ms i)).1) sys.n i sys.no_mem b

  -- outside the slots all cells of one length agree
  kept_everywhere : (p₀ q : List Cell) → length p₀ ≡ sys.m → length q ≡ sys.m → ((x : ℕ) → x < sys.m → Undefined sys x → at sys q x ≡ at sys p₀ x)
      → (x : ℕ) → Undefined sys x → at sys q x ≡ at sys p₀ x
  kept_everywhere p₀ q s₀ s k x u =
      by_cases (dec_lt x sys.m) (λ h. k x h u) (λ h. get_or-eq_default q sys.no_cell (omega arith) ∙ sym (get_or-eq_default p₀ sys.no_cell (omega arith)))

  module _ (ok : Lawful sys) (l : List ℕ) (valid : ValidOrder sys.n (deps sys) l) (p₀ : List Cell) (ms : List Mem) (cells : length p₀ ≡ sys.m) (mems : length ms ≡ sys.n) where
    -- E: what a run finishes with, if it has the kinds of what it began with, is a solution
    pub run_solution : (p : List Cell) (ms' : List Mem) → run_eqs sys l p₀ ms ≡ finished p ms' → SameKinds sys p p₀ → Solution sys p₀ ms p
    run_solution p ms' e k =
        let f = frame l p₀ ms p ms' e in
        let size = f.0 ∙ cells in
        let kept : (x : ℕ) → Undefined sys x → at sys p x ≡ at sys p₀ x = λ x u. f.1 x (λ d. u d.0 (valid.inside d.0 d.1) d.2) in
        let first = start ok p₀ p ms size k kept cells mems in
        record {
          size = size;
          kinds = k;
          kept = λ x h. kept x;
          holds = λ i b. satisfied ok p₀ p ms size k kept ms' l [] p₀ ms first valid.in_order valid.inside e i (valid.complete i b);
        }

    -- L: if there is a solution, a run along any valid order finishes with it, and with its memories
    pub solution_run : (q : List Cell) → Solution sys p₀ ms q → run_eqs sys l p₀ ms ≡ finished q (new_mems sys q ms)
    solution_run q s =
        let kept = kept_everywhere p₀ q cells s.size s.kept in
        let first = start ok p₀ q ms s.size s.kinds kept cells mems in
        arrives ok p₀ q ms s.size s.kinds kept s.holds l [] p₀ ms first valid.in_order valid.inside (λ j b. reverse_left l [] (valid.complete j b))

    -- U: there is at most one solution
    pub solution_unique : (q r : List Cell) → Solution sys p₀ ms q → Solution sys p₀ ms r → q ≡ r
    solution_unique q r s t = let a = solution_run q s in let b = solution_run r t in cc
