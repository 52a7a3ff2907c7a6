-- The lists of the definers that the equations wait for.
use Prim.Native.Nat.{ℕ, zero, suc, ◌+◌, ◌-◌, ◌≤◌, ◌<◌}
use mathlib.Core.Bool.{Bool, true, false, ◌&&◌}
use mathlib.Core.List.{List, [], ◌∷◌, ◌++◌, append-nil, append_assoc}
use mathlib.Core.Option.{Option, none, some}
use mathlib.Core.Path.{◌≡◌, refl, sym, ap, subst, ◌∙◌}
use native.Mathlib.Numerals.{add-one}
use native.Mathlib.Omega.{arith}
use lib.ListN.{length, get_or, set, take, drop, length-append, drop_of_length-le}
use lib.Seq.{sets, sets-eq, length-sets, drop-cons, drop_at, take_at}
use Rattle.ol_spec.specs.Lists.{maybe, all_of, member}
use Rattle.ol_spec.specs.Syntax.{Equation}
use Rattle.ol_spec.specs.Order.{reads, definer, ready}
use Rattle.ol_spec.proofs.Ordering.{definer_inside}
use Rattle.ol_order.specs.Tables.{no_equation, with_definer, definers_of, waited, waited_all, bounds}
use Rattle.ol_order.specs.Post.{Waits, State}
use Rattle.std.specs.Prelude.{All, IsTrue}
use Rattle.std.proofs.lemmas.List.Elements.{All-nil, All-cons, All-head, All-tail}
use Rattle.ol_order.proofs.Flags.{flag_is}

-- ---- one list

-- each is below n
abbrev Below : ℕ → List ℕ → Type 0
Below n [] = Unit {0}
Below n (x ∷ xs) = (x < n) × Below n xs

module _ (qs : List Equation) (list : List ℕ) where
  abbrev is_placed : ℕ → Bool
  is_placed j = member j list

  all_placed : (xs : List ℕ) → all_of (λ x. maybe true (λ j. member j list) (definer qs x)) xs ≡ all_of is_placed (definers_of qs xs)
  all_placed [] = refl
  all_placed (x ∷ xs) = ap (λ b. maybe true (λ j. member j list) (definer qs x) && b) (all_placed xs) ∙ go (definer qs x)
    where
      go : (o : Option ℕ) → (maybe true (λ j. member j list) o && all_of is_placed (definers_of qs xs)) ≡ all_of is_placed (with_definer o (definers_of qs xs))
      go none = refl
      go (some j) = refl

  -- ready: all that it waits for are placed
  ready_waited : (q : Equation) → ready qs list q ≡ all_of is_placed (waited qs q)
  unfolding ready waited
  ready_waited q = all_placed (reads q.rhs)

definers_below : (qs : List Equation) (xs : List ℕ) → Below (length qs) (definers_of qs xs)
definers_below qs [] = tt
definers_below qs (x ∷ xs) = go (definer qs x) refl (definers_below qs xs)
  where
    go : (o : Option ℕ) → definer qs x ≡ o → Below (length qs) (definers_of qs xs) → Below (length qs) (with_definer o (definers_of qs xs))
    go none e b = b
    go (some j) e b = (omega (arith, (definer_inside 0 qs x j e).1), b)

waited_below : (qs : List Equation) (q : Equation) → Below (length qs) (waited qs q)
unfolding waited
waited_below qs q = definers_below qs (reads q.rhs)

-- the entries from `from` up to `to`
abbrev part : List ℕ → ℕ → ℕ → List ℕ
part l from to = take (to - from) (drop from l)

below_all : (n : ℕ) (xs : List ℕ) → Below n xs → All (λ d. d < n) xs
below_all n [] b = All-nil (λ d. d < n)
below_all n (x ∷ xs) b = All-cons (λ d. d < n) x xs b.0 (below_all n xs b.1)

module _ {qs : List Equation} {lists begins : List ℕ} (w : Waits qs lists begins) (k : ℕ) (h : k < length qs) where
  -- the list of equation k
  abbrev pub its : List ℕ
  its = part lists (get_or begins k 0) (get_or begins (k + 1) 0)

  its_waited : its ≡ waited qs (get_or qs k no_equation)
  its_waited = rw add-one (w.is k h)

  pub its_inside : (get_or begins k 0 ≤ get_or begins (k + 1) 0) × (get_or begins (k + 1) 0 ≤ length lists)
  its_inside = rw add-one (w.rising k h, w.inside k h)

  pub its_below : All (λ d. d < length qs) its
  its_below = below_all (length qs) its (subst (Below (length qs)) (sym its_waited) (waited_below qs (get_or qs k no_equation)))

  module _ {list : List ℕ} {placed : List Bool} {order : List ℕ} {n : ℕ} (st : State qs list placed order n) where
    is_ready : ready qs list (get_or qs k no_equation) ≡ all_of (is_placed qs list) its
    is_ready = ready_waited qs list (get_or qs k no_equation) ∙ ap (all_of (is_placed qs list)) (sym its_waited)

    all_there : (xs : List ℕ) → All (λ d. d < length qs) xs → All (λ d. IsTrue (get_or placed d false)) xs → all_of (is_placed qs list) xs ≡ true
    all_there [] b a = refl
    all_there (x ∷ xs) b a =
        ap (λ c. c && all_of (is_placed qs list) xs) (flag_is st x (omega (arith, All-head (λ d. d < length qs) x xs b, st.flagged)) (All-head (λ d. IsTrue (get_or placed d false)) x xs a))
        ∙ all_there xs (All-tail (λ d. d < length qs) x xs b) (All-tail (λ d. IsTrue (get_or placed d false)) x xs a)

    all_flagged : (xs : List ℕ) → All (λ d. d < length qs) xs → all_of (is_placed qs list) xs ≡ true → All (λ d. IsTrue (get_or placed d false)) xs
    all_flagged [] b e = All-nil (λ d. IsTrue (get_or placed d false))
    all_flagged (x ∷ xs) b e =
        let f = both (member x list) (all_of (is_placed qs list) xs) e in
        All-cons (λ d. IsTrue (get_or placed d false)) x xs (st.flags x (omega (arith, All-head (λ d. d < length qs) x xs b, st.flagged)) ∙ f.0) (all_flagged xs (All-tail (λ d. d < length qs) x xs b) f.1)
      where
        both : (a b : Bool) → (a && b) ≡ true → (a ≡ true) × (b ≡ true)
        both true b e = (refl, e)
        both false b e = let z : ◌≡◌ {A = ℕ} 0 1 = cc in absurd (omega arith)

    -- it is ready if all in its list are placed
    pub ready_all : All (λ d. IsTrue (get_or placed d false)) its → ready qs list (get_or qs k no_equation) ≡ true
    ready_all a = is_ready ∙ all_there its its_below a

    pub ready_not : (All (λ d. IsTrue (get_or placed d false)) its → ⊥) → ready qs list (get_or qs k no_equation) ≡ false
    ready_not a = is_ready ∙ go (all_of (is_placed qs list) its) refl
      where
        go : (b : Bool) → all_of (is_placed qs list) its ≡ b → b ≡ false
        go true e = absurd (a (all_flagged its its_below e))
        go false e = refl

-- equations with these lists are as many as others with them
pub same_many : {qs rs : List Equation} {lists begins : List ℕ} → Waits qs lists begins → Waits rs lists begins → length qs ≡ length rs
same_many v w = omega (arith, v.long, w.long)

-- ---- all lists

-- a run of stores, and then another
sets_append : (l : List ℕ) (i : ℕ) (vs ws : List ℕ) → sets l i (vs ++ ws) ≡ sets (sets l i vs) (i + length vs) ws
sets_append l i [] ws = let z : i ≡ i + 0 = omega arith in ap (λ k. sets l k ws) z
sets_append l i (v ∷ vs) ws = let z : suc i + length vs ≡ i + suc (length vs) = omega arith in sets_append (set l i v) (suc i) vs ws ∙ ap (λ k. sets (sets (set l i v) (suc i) vs) k ws) z

-- w are the lists, m their end and b their bounds, once those of the equations from k on are recorded
pub record Recording (qs : List Equation) (w : List ℕ) (b : List ℕ) (k : ℕ) (lists begins : List ℕ) (n : ℕ) : Type 0 where
  pub lists_are : sets lists n (waited_all qs (drop k qs)) ≡ w
  pub begins_are : sets begins k (bounds qs n (drop k qs)) ≡ b
  pub room : n + length (waited_all qs (drop k qs)) ≤ length lists

module _ (qs : List Equation) where
  pub recording_start : (lists begins : List ℕ) → length (waited_all qs qs) ≤ length lists → Recording qs (sets lists 0 (waited_all qs qs)) (sets begins 0 (bounds qs 0 qs)) 0 lists begins 0
  recording_start lists begins h = record { lists_are = refl; begins_are = refl; room = omega arith }

  module _ {w b lists begins : List ℕ} {k n : ℕ} (rc : Recording qs w b k lists begins n) where
    module _ (h : k < length qs) where
      abbrev q : Equation
      q = get_or qs k no_equation

      here : drop k qs ≡ q ∷ drop (suc k) qs
      here = drop-cons qs k no_equation h

      waited_here : waited_all qs (drop k qs) ≡ waited qs q ++ waited_all qs (drop (suc k) qs)
      unfolding waited_all
      waited_here = ap (waited_all qs) here

      counted_here : length (waited_all qs (drop k qs)) ≡ length (waited qs q) + length (waited_all qs (drop (suc k) qs))
      counted_here = ap length waited_here ∙ length-append (waited qs q) (waited_all qs (drop (suc k) qs))

      pub recording_room : n + length (waited qs q) ≤ length lists
      recording_room = omega (arith, rc.room, counted_here)

      pub recording_turn : {t : List ℕ} {m : ℕ} → t ≡ sets lists n (waited qs q) → m ≡ n + length (waited qs q) → Recording qs w b (k + 1) t (set begins k n) m
      unfolding bounds
      recording_turn {t} {m} e f =
          record {
            lists_are =
                rw (add-one k, e, f) (sym (sets_append lists n (waited qs q) (waited_all qs (drop (suc k) qs))) ∙ (ap (sets lists n) (sym waited_here) ∙ rc.lists_are));
            begins_are = rw (add-one k, f) (sym (ap (λ v. sets begins k (bounds qs n v)) here) ∙ rc.begins_are);
            room = rw (add-one k) (omega (arith, rc.room, counted_here, f, ap length e, length-sets lists n (waited qs q)));
          }

    pub recording_end : length qs ≤ k → (lists ≡ w) × (set begins k n ≡ b)
    unfolding waited_all bounds
    recording_end h =
        (sym (ap (λ v. sets lists n (waited_all qs v)) (drop_of_length-le qs {i = k} h)) ∙ rc.lists_are, sym (ap (λ v. sets begins k (bounds qs n v)) (drop_of_length-le qs {i = k} h)) ∙ rc.begins_are)

-- ---- what is recorded is what the equations wait for

length_bounds : (qs : List Equation) (n : ℕ) (rs : List Equation) → length (bounds qs n rs) ≡ suc (length rs)
unfolding bounds
length_bounds qs n [] = refl
length_bounds qs n (r ∷ rs) = ap suc (length_bounds qs (n + length (waited qs r)) rs)

first_bound : (qs : List Equation) (n : ℕ) (rs : List Equation) → get_or (bounds qs n rs) 0 0 ≡ n
unfolding bounds
first_bound qs n [] = refl
first_bound qs n (r ∷ rs) = refl

rising_lem : (qs : List Equation) (n : ℕ) (rs : List Equation) (k : ℕ) → k < length rs → get_or (bounds qs n rs) k 0 ≤ get_or (bounds qs n rs) (suc k) 0
unfolding bounds
rising_lem qs n [] k h = absurd (omega arith)
rising_lem qs n (r ∷ rs) zero h = omega (arith, first_bound qs (n + length (waited qs r)) rs)
rising_lem qs n (r ∷ rs) (suc k) h = rising_lem qs (n + length (waited qs r)) rs k (omega arith)

-- the lists stand behind p
module _ (qs : List Equation) where
  bounded : (n : ℕ) (rs : List Equation) (k : ℕ) → k < length rs → get_or (bounds qs n rs) (suc k) 0 ≤ n + length (waited_all qs rs)
  unfolding bounds waited_all
  bounded n [] k h = absurd (omega arith)
  bounded n (r ∷ rs) zero h = omega (arith, first_bound qs (n + length (waited qs r)) rs, length-append (waited qs r) (waited_all qs rs))
  bounded n (r ∷ rs) (suc k) h = omega (arith, bounded (n + length (waited qs r)) rs k (omega arith), length-append (waited qs r) (waited_all qs rs))

  listed : (p rest : List ℕ) (n : ℕ) (rs : List Equation) (k : ℕ) → length p ≡ n → k < length rs → part (p ++ (waited_all qs rs ++ rest)) (get_or (bounds qs n rs) k 0) (get_or (bounds qs n rs) (suc k) 0) ≡ waited qs (get_or rs k no_equation)
  unfolding bounds waited_all
  listed p rest n [] k e h = absurd (omega arith)
  listed p rest n (r ∷ rs) zero e h =
      let z : get_or (bounds qs (n + length (waited qs r)) rs) 0 0 - n ≡ length (waited qs r) = omega (arith, first_bound qs (n + length (waited qs r)) rs) in
      ap (λ k. take k (drop n (p ++ ((waited qs r ++ waited_all qs rs) ++ rest)))) z
      ∙ (ap (take (length (waited qs r))) (drop_at p ((waited qs r ++ waited_all qs rs) ++ rest) n e ∙ append_assoc (waited qs r) (waited_all qs rs) rest)
      ∙ take_at (waited qs r) (waited_all qs rs ++ rest) (length (waited qs r)) refl)
  listed p rest n (r ∷ rs) (suc k) e h =
      ap (λ v. part v (get_or (bounds qs (n + length (waited qs r)) rs) k 0) (get_or (bounds qs (n + length (waited qs r)) rs) (suc k) 0)) (ap (λ v. p ++ v) (append_assoc (waited qs r) (waited_all qs rs) rest) ∙ sym (append_assoc p (waited qs r) (waited_all qs rs ++ rest)))
      ∙ listed (p ++ waited qs r) rest (n + length (waited qs r)) rs k (length-append p (waited qs r) ∙ omega arith) (omega arith)

  pub waits_made : {lists begins : List ℕ} (before old : List ℕ) → length (waited_all qs qs) ≤ length before → length old ≡ suc (length qs) → lists ≡ sets before 0 (waited_all qs qs) → begins ≡ sets old 0 (bounds qs 0 qs) → Waits qs lists begins
  waits_made {lists} {begins} before old h g e f =
      let b : begins ≡ bounds qs 0 qs = f ∙ (sets-eq (bounds qs 0 qs) old 0 (omega (arith, length_bounds qs 0 qs)) ∙ (ap (λ v. bounds qs 0 qs ++ v) (drop_of_length-le old {i = 0 + length (bounds qs 0 qs)} (omega (arith, length_bounds qs 0 qs))) ∙ append-nil (bounds qs 0 qs))) in
      let l : lists ≡ [] ++ (waited_all qs qs ++ drop (0 + length (waited_all qs qs)) before) = e ∙ sets-eq (waited_all qs qs) before 0 (omega arith) in
      record {
        long = ap length b ∙ length_bounds qs 0 qs;
        rising = λ k i. rw b (rising_lem qs 0 qs k i);
        inside = λ k i. omega (arith, ap (λ (v : List ℕ). get_or v (suc k) 0) b, bounded 0 qs k i, ap length e, length-sets before 0 (waited_all qs qs));
        is = λ k i.
            ap (λ v. part v (get_or begins k 0) (get_or begins (suc k) 0)) l
            ∙ (ap (λ v. part ([] ++ (waited_all qs qs ++ drop (0 + length (waited_all qs qs)) before)) (get_or v k 0) (get_or v (suc k) 0)) b ∙ listed [] (drop (0 + length (waited_all qs qs)) before) 0 qs k refl i);
      }
