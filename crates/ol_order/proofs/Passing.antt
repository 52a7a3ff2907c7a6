-- The passes: each turn of the code's loop is a step of the definition's.
use Prim.Native.Nat.{ℕ, zero, suc, ◌+◌, ◌-◌, ◌≤◌, ◌<◌}
use mathlib.Core.Bool.{Bool, true, false, not, ◌&&◌}
use mathlib.Core.List.{List, [], ◌∷◌, ◌++◌, append-nil, append_assoc}
use mathlib.Core.Option.{none, some}
use mathlib.Core.Path.{◌≡◌, refl, sym, ap, subst, ◌∙◌}
use native.Mathlib.Numerals.{add-one}
use native.Mathlib.Omega.{arith}
use lib.ListN.{length, get_or, take, drop, set, length-append, drop_of_length-le}
use lib.Seq.{drop-cons, drop-drop, drop-set-lt, length-take-le}
use Rattle.ol_spec.specs.Lists.{member}
use Rattle.ol_spec.specs.Syntax.{Equation}
use Rattle.ol_spec.specs.Order.{ready, place, pass, passes, order, outside_if, first_outside, unplaced}
use Rattle.ol_order.specs.Tables.{no_equation, waiting}
use Rattle.ol_order.specs.Post.{State}
use Rattle.ol_order.proofs.Flags.{first_waiting, flag_is, place_state}

take_length : {A : Type 0} (l : List A) → take (length l) l ≡ l
take_length [] = refl
take_length (x ∷ l) = ap (λ m. x ∷ m) (take_length l)

-- what lies behind is the same, also further on
drop_further : (a b : List ℕ) (n m : ℕ) → n ≤ m → drop n a ≡ drop n b → drop m a ≡ drop m b
drop_further a b n m h e =
    let z : n + (m - n) ≡ m = omega arith in
    subst (λ k. drop k a ≡ drop k b) z (sym (drop-drop (m - n) n a) ∙ (ap (drop (m - n)) e ∙ drop-drop (m - n) n b))

module _ (qs : List Equation) where
  pass_turn : (k : ℕ) (list : List ℕ) → k < length qs → pass qs k (drop k qs) list ≡ pass qs (suc k) (drop (suc k) qs) (place qs (not (member k list) && ready qs list (get_or qs k no_equation)) k list)
  unfolding pass
  pass_turn k list h = ap (λ rs. pass qs k rs list) (drop-cons qs k no_equation h)

  -- w is what the pass gives, whose turn is at equation i; behind those placed, the entries are as they were before it
  pub record Passing (w : List ℕ) (i : ℕ) (before : List ℕ) (placed : List Bool) (order : List ℕ) (n : ℕ) : Type 0 where
    pub inside : i ≤ length qs
    pub is : w ≡ pass qs i (drop i qs) (take n order)
    pub state : State qs (take n order) placed order n
    pub behind : drop n order ≡ drop n before

  pub passing_start : {placed : List Bool} {order : List ℕ} {n : ℕ} → State qs (take n order) placed order n → Passing (pass qs 0 qs (take n order)) 0 order placed order n
  passing_start st = record { inside = omega arith; is = refl; state = st; behind = refl }

  module _ {w before : List ℕ} {placed : List Bool} {order : List ℕ} {i n : ℕ} (ps : Passing w i before placed order n) where
    pub passing_end : length qs ≤ i → State qs w placed order n × (drop n order ≡ drop n before)
    unfolding pass
    passing_end h =
        let e : w ≡ take n order = ps.is ∙ ap (λ rs. pass qs i rs (take n order)) (drop_of_length-le qs h) in
        (subst (λ v. State qs v placed order n) (sym e) ps.state, ps.behind)

    module _ (h : i < length qs) where
      stays : (b : Bool) → (not (member i (take n order)) && ready qs (take n order) (get_or qs i no_equation)) ≡ b → b ≡ false → Passing w (i + 1) before placed order n
      stays b e f =
          record {
            inside = omega arith;
            is = rw add-one (ps.is ∙ (pass_turn i (take n order) h ∙ ap (λ c. pass qs (suc i) (drop (suc i) qs) (place qs c i (take n order))) (e ∙ f)));
            state = ps.state;
            behind = ps.behind;
          }

      -- it is placed already
      pub passing_placed : get_or placed i false ≡ true → Passing w (i + 1) before placed order n
      passing_placed e =
          let m = flag_is ps.state i (omega (arith, ps.state.flagged)) e in
          stays _ refl (ap (λ b. not b && ready qs (take n order) (get_or qs i no_equation)) m)

      -- it waits
      pub passing_waits : ready qs (take n order) (get_or qs i no_equation) ≡ false → Passing w (i + 1) before placed order n
      passing_waits e = stays _ refl (ap (λ b. not (member i (take n order)) && b) e ∙ and_false (not (member i (take n order))))
        where
          and_false : (b : Bool) → (b && false) ≡ false
          and_false true = refl
          and_false false = refl

      -- it is placed now
      pub passing_ready : get_or placed i false ≡ false → ready qs (take n order) (get_or qs i no_equation) ≡ true → Passing w (i + 1) before (set placed i true) (set order n i) (n + 1)
      passing_ready e f =
          let b : i < length placed = omega (arith, ps.state.flagged) in
          let m = flag_is ps.state i b e in
          let st = place_state ps.state i b e in
          let go : (not (member i (take n order)) && ready qs (take n order) (get_or qs i no_equation)) ≡ true = ap (λ c. not c && ready qs (take n order) (get_or qs i no_equation)) m ∙ f in
          record {
            inside = omega arith;
            is = rw (add-one i) (ps.is ∙ (pass_turn i (take n order) h ∙ (ap (λ c. pass qs (suc i) (drop (suc i) qs) (place qs c i (take n order))) go ∙ ap (pass qs (suc i) (drop (suc i) qs)) (sym st.front))));
            state = subst (λ v. State qs v (set placed i true) (set order n i) (n + 1)) (sym st.front) st;
            behind = drop-set-lt (n + 1) order n i (omega arith) ∙ drop_further order before n (n + 1) (omega arith) ps.behind;
          }

  -- ---- one pass after the other

  -- a pass only adds
  pass_adds : (i : ℕ) (rs : List Equation) (list : List ℕ) → (more : List ℕ) × (pass qs i rs list ≡ list ++ more)
  unfolding pass
  pass_adds i [] list = ([], sym (append-nil list))
  pass_adds i (r ∷ rs) list = go (not (member i list) && ready qs list r) (pass_adds (suc i) rs)
    where
      go : (b : Bool) → ((l : List ℕ) → (more : List ℕ) × (pass qs (suc i) rs l ≡ l ++ more)) → (more : List ℕ) × (pass qs (suc i) rs (place qs b i list) ≡ list ++ more)
      go true f = let w = f (list ++ i ∷ []) in (i ∷ w.0, w.1 ∙ append_assoc list (i ∷ []) w.0)
      go false f = f list

  passes_idle : (k : ℕ) (list : List ℕ) → pass qs 0 qs list ≡ list → passes qs k list ≡ list
  unfolding passes
  passes_idle zero list e = refl
  passes_idle (suc k) list e = ap (passes qs k) e ∙ passes_idle k list e

  passes_step : (k : ℕ) (list : List ℕ) → 0 < k → passes qs k list ≡ passes qs (k - 1) (pass qs 0 qs list)
  unfolding passes
  passes_step zero list h = absurd (omega arith)
  passes_step (suc k) list h = let one : suc k - 1 ≡ k = omega arith in rw one refl

  pub length_list : {list : List ℕ} {placed : List Bool} {order : List ℕ} {n : ℕ} → State qs list placed order n → length list ≡ n
  length_list {list} {placed} {order} {n} st =
      let h : n ≤ length order = omega (arith, st.left, st.room) in
      ap length (sym st.front) ∙ length-take-le n order h

  nothing : (more : List ℕ) → length more ≡ 0 → more ≡ []
  nothing [] e = refl
  nothing (x ∷ more) e = absurd (omega arith)

  -- ---- all are placed

  -- a pass over placed equations places none
  pass_idle : (i : ℕ) (rs : List Equation) (list : List ℕ) → ((j : ℕ) → j < length rs → member (i + j) list ≡ true) → pass qs i rs list ≡ list
  unfolding pass
  pass_idle i [] list h = refl
  pass_idle i (r ∷ rs) list h =
      let z : i + 0 ≡ i = omega arith in
      let m : member i list ≡ true = subst (λ k. member k list ≡ true) z (h 0 (omega arith)) in
      ap (λ b. pass qs (suc i) rs (place qs (not b && ready qs list r) i list)) m ∙ pass_idle (suc i) rs list (λ j g. let y : i + suc j ≡ suc i + j = omega arith in subst (λ k. member k list ≡ true) y (h (suc j) (omega arith)))

  -- each is placed if none waits
  none_waits : (ps : List Bool) (j : ℕ) → waiting ps ≡ 0 → j < length ps → get_or ps j false ≡ true
  unfolding waiting
  none_waits [] zero e h = absurd (omega arith)
  none_waits [] (suc j) e h = absurd (omega arith)
  none_waits (false ∷ ps) zero e h = absurd (omega arith)
  none_waits (false ∷ ps) (suc j) e h = absurd (omega arith)
  none_waits (true ∷ ps) zero e h = refl
  none_waits (true ∷ ps) (suc j) e h = none_waits ps j e (omega arith)

  full_idle : {list : List ℕ} {placed : List Bool} {order : List ℕ} {n : ℕ} → State qs list placed order n → length qs ≤ n → pass qs 0 qs list ≡ list
  full_idle {list} {placed} {order} {n} st h =
      pass_idle 0 qs list (λ j g.
      let b : j < length placed = omega (arith, st.flagged) in
      let z : 0 + j ≡ j = omega arith in
      subst (λ k. member k list ≡ true) (sym z) (flag_is st j b (none_waits placed j (omega (arith, st.left)) b)))

  -- w is what some more passes give, as many as there are equations left or more; behind those placed, the entries are as they were before the first
  pub record Passes (w before : List ℕ) (placed : List Bool) (order : List ℕ) (n : ℕ) : Type 0 where
    pub left : ℕ
    pub enough : length qs ≤ n + left
    pub is : w ≡ passes qs left (take n order)
    pub state : State qs (take n order) placed order n
    pub behind : drop n order ≡ drop n before

  renew : {list : List ℕ} {placed : List Bool} {order : List ℕ} {n : ℕ} → State qs list placed order n → State qs (take n order) placed order n
  renew {placed = placed} {order} {n} st = subst (λ v. State qs v placed order n) (sym st.front) st

  -- as many are placed as the list has
  counted : {w : List ℕ} (before : List ℕ) {placed : List Bool} {order : List ℕ} {n : ℕ} → State qs w placed order n → drop n order ≡ drop n before → State qs w placed order (length w) × (drop (length w) order ≡ drop (length w) before)
  counted {w} before {placed} {order} st e =
      let l = sym (length_list st) in
      (subst (λ v. State qs w placed order v) l st, subst (λ v. drop v order ≡ drop v before) l e)

  module _ {w before : List ℕ} {placed : List Bool} {order : List ℕ} {p : List Bool} {o : List ℕ} {n m : ℕ} (ps : Passes w before placed order n) (u : n < length qs) (st : State qs (pass qs 0 qs (take n order)) p o m × (drop m o ≡ drop m order)) where
    some_left : 0 < ps.left
    some_left = omega (arith, ps.enough)

    no_fewer : n ≤ m
    no_fewer =
        let a = pass_adds 0 qs (take n order) in
        omega (arith, ap length a.1, length-append (take n order) a.0, length_list st.0, length_list ps.state)

    pub more_placed : (m ≡ n → ⊥) → n < m
    more_placed e = omega (arith, no_fewer)

    still_behind : drop m o ≡ drop m before
    still_behind = st.1 ∙ drop_further order before n m no_fewer ps.behind

    pub passes_turn : (m ≡ n → ⊥) → Passes w before p o m
    passes_turn e =
        record {
          left = ps.left - 1;
          enough = omega (arith, ps.enough, more_placed e);
          is = ps.is ∙ (passes_step ps.left (take n order) some_left ∙ ap (passes qs (ps.left - 1)) (sym st.0.front));
          state = renew st.0;
          behind = still_behind;
        }

    -- the pass added none
    pub passes_stop : m ≡ n → State qs w p o (length w) × (drop (length w) o ≡ drop (length w) before)
    passes_stop e =
        let a = pass_adds 0 qs (take n order) in
        let b : length (take n order ++ a.0) ≡ n = ap length (sym a.1) ∙ (length_list st.0 ∙ e) in
        let c : a.0 ≡ [] = nothing a.0 (omega (arith, b, length-append (take n order) a.0, length_list ps.state)) in
        let d : pass qs 0 qs (take n order) ≡ take n order = a.1 ∙ (ap (λ l. take n order ++ l) c ∙ append-nil (take n order)) in
        let f : pass qs 0 qs (take n order) ≡ w = d ∙ sym (ps.is ∙ passes_idle ps.left (take n order) d) in
        counted before (subst (λ v. State qs v p o m) f st.0) still_behind

  -- all are placed
  pub passes_end : {w before : List ℕ} {placed : List Bool} {order : List ℕ} {n : ℕ} → Passes w before placed order n → length qs ≤ n → State qs w placed order (length w) × (drop (length w) order ≡ drop (length w) before)
  passes_end {w} {before} {placed} {order} {n} ps h = counted before (subst (λ v. State qs v placed order n) (sym (ps.is ∙ passes_idle ps.left (take n order) (full_idle ps.state h))) ps.state) ps.behind

  pub passes_start : {placed : List Bool} {ord : List ℕ} → State qs [] placed ord 0 → Passes (order qs) ord placed ord 0
  unfolding order
  passes_start st = record { left = length qs; enough = omega arith; is = refl; state = st; behind = refl }

-- ---- the first that is not placed

module _ (qs : List Equation) (list : List ℕ) where
  -- the flags of the equations from i on
  abbrev FlagsFrom : ℕ → List Bool → Type 0
  FlagsFrom i ps = (j : ℕ) → j < length ps → get_or ps j false ≡ member (i + j) list

  here : (i : ℕ) (x : Bool) (ps : List Bool) → FlagsFrom i (x ∷ ps) → member i list ≡ x
  here i x ps f = let z : i + 0 ≡ i = omega arith in sym (f 0 (omega arith) ∙ ap (λ k. member k list) z)

  there : (i : ℕ) (x : Bool) (ps : List Bool) → FlagsFrom i (x ∷ ps) → FlagsFrom (suc i) ps
  there i x ps f j h = let z : i + suc j ≡ suc i + j = omega arith in f (suc j) (omega arith) ∙ ap (λ k. member k list) z

  first_some_lem : (i : ℕ) (rs : List Equation) (ps : List Bool) → length ps ≡ length rs → FlagsFrom i ps → first_waiting ps < length ps → first_outside qs list i rs ≡ some (i + first_waiting ps)
  first_some_lem i [] [] e f h = absurd (omega arith)
  first_some_lem i [] (x ∷ ps) e f h = absurd (omega arith)
  first_some_lem i (r ∷ rs) [] e f h = absurd (omega arith)
  first_some_lem i (r ∷ rs) (false ∷ ps) e f h =
      let z : i ≡ i + 0 = omega arith in
      ap (λ b. outside_if b i (first_outside qs list (suc i) rs)) (here i false ps f) ∙ ap some z
  first_some_lem i (r ∷ rs) (true ∷ ps) e f h =
      let z : suc i + first_waiting ps ≡ i + (1 + first_waiting ps) = omega arith in
      ap (λ b. outside_if b i (first_outside qs list (suc i) rs)) (here i true ps f)
      ∙ (first_some_lem (suc i) rs ps (omega arith) (there i true ps f) (omega arith) ∙ ap some z)

  first_none : (i : ℕ) (rs : List Equation) (ps : List Bool) → length ps ≡ length rs → FlagsFrom i ps → length ps ≤ first_waiting ps → first_outside qs list i rs ≡ none
  first_none i [] [] e f h = refl
  first_none i [] (x ∷ ps) e f h = absurd (omega arith)
  first_none i (r ∷ rs) [] e f h = absurd (omega arith)
  first_none i (r ∷ rs) (false ∷ ps) e f h = absurd (omega arith)
  first_none i (r ∷ rs) (true ∷ ps) e f h =
      ap (λ b. outside_if b i (first_outside qs list (suc i) rs)) (here i true ps f)
      ∙ first_none (suc i) rs ps (omega arith) (there i true ps f) (omega arith)

all_flagged : (ps : List Bool) → length ps ≤ first_waiting ps → waiting ps ≡ 0
unfolding waiting
all_flagged [] h = refl
all_flagged (false ∷ ps) h = absurd (omega arith)
all_flagged (true ∷ ps) h = all_flagged ps (omega arith)

module _ {qs : List Equation} {placed : List Bool} {ord : List ℕ} {n : ℕ} (st : State qs (order qs) placed ord n) where
  from_zero : FlagsFrom qs (order qs) 0 placed
  from_zero j h = let z : j ≡ 0 + j = omega arith in st.flags j h ∙ ap (λ k. member k (order qs)) z

  pub unplaced_some : first_waiting placed < length placed → unplaced qs ≡ some (first_waiting placed)
  unfolding unplaced
  unplaced_some h = let z : 0 + first_waiting placed ≡ first_waiting placed = omega arith in first_some_lem qs (order qs) 0 qs placed st.flagged from_zero h ∙ ap some z

  pub unplaced_none : length placed ≤ first_waiting placed → unplaced qs ≡ none
  unfolding unplaced
  unplaced_none h = first_none qs (order qs) 0 qs placed st.flagged from_zero h

  -- all are placed: the whole list is the order
  pub all_placed : length placed ≤ first_waiting placed → ord ≡ order qs
  all_placed h =
      let z : n ≡ length ord = omega (arith, all_flagged placed h, st.left, st.room) in
      sym (take_length ord) ∙ (ap (λ k. take k ord) (sym z) ∙ st.front)
