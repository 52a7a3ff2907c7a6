-- Laws of running equations: their segments in the state, and what is left of a run after some of them.
use Prim.Native.Nat.{ℕ, zero, suc, ◌+◌, ◌-◌, ◌<◌, ◌≤◌}
use mathlib.Core.Bool.{Bool}
use mathlib.Core.List.Memᴰ.{head as here}
use mathlib.Core.List.Memᴰ.{tail as there}
use mathlib.Core.List.{List, [], ◌∷◌, ◌++◌, map, append_assoc}
use mathlib.Core.Path.{◌≡◌, refl, sym, ap, ◌∙◌}
use native.Mathlib.Omega.{arith}
use lib.ListN.{length, take, drop, get_or, set, length-append, length-drop, take-append-drop}
use lib.Seq.{length-take-le, take_at, drop_at, drop-drop, take-add, get_or-set_other}
use Rattle.ol_theory.specs.Member.{◌∈◌, Distinct}
use Rattle.ol_spec.specs.Lists.{concat}
use Rattle.ol_spec.specs.Syntax.{Equation, Node}
use Rattle.ol_spec.specs.Eval.{Globals, Calls, Evals, values, failure, overflow, Outcomes, callees, sites_size, seg_size}
use Rattle.ol_spec.specs.Step.{equation_sites, split, assign, no_equation, equation_at, Run, finished, failed_at, overflowed_at, store, store_on, eval_equation, run_all}
use Rattle.ol_spec.specs.declared.Value.{Value}
use Rattle.ol_spec.specs.declared.Cause.{Cause}
use Rattle.ol_spec.proofs.Segments.{sites_append}
use Rattle.ol_tables.specs.Tables.{Each}
use Rattle.ol_frame.specs.Walk.{Below}

-- what holds of the entries
pub each_in : (P : ℕ → Type 0) (xs : List ℕ) → ((x : ℕ) → x ∈ xs → P x) → Each P xs
each_in P [] f = tt
each_in P (x ∷ xs) f = (f x (here refl), each_in P xs (λ y m. f y (there m)))

-- ---- a part of a list

-- what `&s[a..b]` lends, and `s` after `&mut s[a..b]` is back at `x`
abbrev pub mid_of : ℕ → ℕ → List ℕ → List ℕ
mid_of a b s = take (b - a) (drop a s)

abbrev pub put_mid : ℕ → ℕ → List ℕ → List ℕ → List ℕ
put_mid a b s x = take a s ++ (x ++ drop (b - a) (drop a s))

pub length_mid : (a b : ℕ) (s : List ℕ) → a ≤ b → b ≤ length s → length (mid_of a b s) ≡ b - a
length_mid a b s h l = length-take-le (b - a) (drop a s) (omega (arith, length-drop a s))

pub length_put_mid : (a b : ℕ) (s x : List ℕ) → a ≤ b → b ≤ length s → length x ≡ b - a → length (put_mid a b s x) ≡ length s
length_put_mid a b s x h l e =
    length-append (take a s) (x ++ drop (b - a) (drop a s))
    ∙ omega (arith, length-take-le a s (omega arith), length-append x (drop (b - a) (drop a s)), length-drop (b - a) (drop a s), length-drop a s)

-- ---- the segments of equations, one after the other

module _ (g : Globals) where
  -- where equation i's segment starts
  abbrev pub offset_of : List Equation → ℕ → ℕ
  offset_of qs i = sites_size g.sizes (concat (map equation_sites (take i qs)))

  abbrev pub size_of : List Equation → ℕ → ℕ
  size_of qs i = seg_size g (get_or qs i no_equation).rhs

  abbrev pub total_of : List Equation → ℕ
  total_of qs = sites_size g.sizes (concat (map equation_sites qs))

  offset_first : (qs : List Equation) → offset_of qs 0 ≡ 0
  unfolding sites_size
  offset_first qs = refl

  offset_later : (q : Equation) (qs : List Equation) (i : ℕ) → offset_of (q ∷ qs) (suc i) ≡ seg_size g q.rhs + offset_of qs i
  offset_later q qs i = sites_append g.sizes (callees q.rhs) (concat (map equation_sites (take i qs)))

  total_cons : (q : Equation) (qs : List Equation) → total_of (q ∷ qs) ≡ seg_size g q.rhs + total_of qs
  total_cons q qs = sites_append g.sizes (callees q.rhs) (concat (map equation_sites qs))

  pub offset_next : (qs : List Equation) (i : ℕ) → i < length qs → offset_of qs (suc i) ≡ offset_of qs i + size_of qs i
  offset_next [] i h = absurd (omega arith)
  offset_next (q ∷ qs) zero h = omega (arith, offset_later q qs 0, offset_first qs, offset_first (q ∷ qs))
  offset_next (q ∷ qs) (suc i) h = omega (arith, offset_later q qs i, offset_later q qs (suc i), offset_next qs i (omega arith))

  pub offset_total : (qs : List Equation) (i : ℕ) → offset_of qs i ≤ total_of qs
  offset_total [] zero = omega arith
  offset_total [] (suc i) = omega arith
  offset_total (q ∷ qs) zero = omega (arith, offset_first (q ∷ qs))
  offset_total (q ∷ qs) (suc i) = omega (arith, offset_later q qs i, total_cons q qs, offset_total qs i)

  -- equation i's segment in s
  abbrev pub seg_of : List Equation → ℕ → List ℕ → List ℕ
  seg_of qs i s = take (size_of qs i) (drop (offset_of qs i) s)

  -- s with another segment of equation i
  abbrev pub put_seg : List Equation → ℕ → List ℕ → List ℕ → List ℕ
  put_seg qs i s x = take (offset_of qs i) s ++ (x ++ drop (size_of qs i) (drop (offset_of qs i) s))

  pub split_get : (qs : List Equation) (i : ℕ) (s : List ℕ) → i < length qs → get_or (split g qs s) i [] ≡ seg_of qs i s
  unfolding split
  split_get [] i s h = absurd (omega arith)
  split_get (q ∷ qs) zero s h = ap (λ (m : ℕ). take (seg_size g q.rhs) (drop m s)) (sym (offset_first (q ∷ qs)))
  split_get (q ∷ qs) (suc i) s h =
      split_get qs i (drop (seg_size g q.rhs) s) (omega arith)
      ∙ ap (take (size_of qs i)) (drop-drop (offset_of qs i) (seg_size g q.rhs) s ∙ ap (λ (m : ℕ). drop m s) (sym (offset_later q qs i)))

  -- all segments are the whole
  pub split_whole : (qs : List Equation) (s : List ℕ) → length s ≡ total_of qs → concat (split g qs s) ≡ s
  unfolding split sites_size
  split_whole [] [] e = refl
  split_whole [] (x ∷ s) e = absurd (omega arith)
  split_whole (q ∷ qs) s e =
      ap (λ (l : List ℕ). take (seg_size g q.rhs) s ++ l) (split_whole qs (drop (seg_size g q.rhs) s) (length-drop (seg_size g q.rhs) s ∙ omega (arith, e, total_cons q qs)))
      ∙ take-append-drop (seg_size g q.rhs) s

  -- another segment of equation i
  pub split_put : (qs : List Equation) (i : ℕ) (s x : List ℕ) → i < length qs → offset_of qs i + size_of qs i ≤ length s → length x ≡ size_of qs i → set (split g qs s) i x ≡ split g qs (put_seg qs i s x)
  unfolding split
  split_put [] i s x h l e = absurd (omega arith)
  split_put (q ∷ qs) zero s x h l e =
      let z = seg_size g q.rhs in
      let p : put_seg (q ∷ qs) 0 s x ≡ x ++ drop z s = ap (λ (m : ℕ). take m s ++ (x ++ drop z (drop m s))) (offset_first (q ∷ qs)) in
      (λ j. sym (take_at x (drop z s) z e) j ∷ split g qs (sym (drop_at x (drop z s) z e) j)) ∙ ap (split g (q ∷ qs)) (sym p)
  split_put (q ∷ qs) (suc i) s x h l e =
      let z = seg_size g q.rhs in
      let t = drop z s in
      let m = offset_of qs i in
      let o = offset_later q qs i in
      let f = take z s in
      let zl : z ≤ length s = omega (arith, o, l) in
      let lf : length f ≡ z = length-take-le z s zl in
      let p : put_seg (q ∷ qs) (suc i) s x ≡ f ++ put_seg qs i t x = (λ j. take (o j) s ++ (x ++ drop (size_of qs i) (drop (o j) s)))
      ∙ (λ j. take-add z m s j ++ (x ++ drop (size_of qs i) (sym (drop-drop m z s) j)))
      ∙ append_assoc f (take m t) (x ++ drop (size_of qs i) (drop m t)) in
      (λ j. sym (take_at f (put_seg qs i t x) z lf) j ∷ split_put qs i t x (omega arith) (omega (arith, o, l, length-drop z s)) e j)
      ∙ ap (λ (y : List ℕ). take z (f ++ put_seg qs i t x) ∷ split g qs y) (sym (drop_at f (put_seg qs i t x) z lf))
      ∙ ap (split g (q ∷ qs)) (sym p)

  -- the others stay
  pub seg_other : (qs : List Equation) (i j : ℕ) (s x : List ℕ) → i < length qs → j < length qs → ¬ (j ≡ i) → offset_of qs i + size_of qs i ≤ length s → length x ≡ size_of qs i → seg_of qs j (put_seg qs i s x) ≡ seg_of qs j s
  seg_other qs i j s x h k n l e =
      sym (split_get qs j (put_seg qs i s x) k) ∙ ap (λ (ss : List (List ℕ)). get_or ss j []) (sym (split_put qs i s x h l e)) ∙ get_or-set_other (split g qs s) i j x [] n ∙ split_get qs j s k

-- ---- what is left of a run

module _ (g : Globals) (calls : Calls) (n : Node) (first : Bool) (before : List Value) where
  -- the equations of the indices `is` are still to run, on these cells, where `old` is become `new`; W is the whole run
  pub record Left (W : Run) (is : List ℕ) (cs : List Value) (old new : List ℕ) : Type 0 where
    pub want : W ≡ run_all g calls n first before is cs (split g n.equations new)
    pub sized : length new ≡ total_of g n.equations
    pub inside : Each (Below (length n.equations)) is
    pub once : Distinct is
    pub untouched : Each (λ i. seg_of g n.equations i new ≡ seg_of g n.equations i old) is

  abbrev pub right_of : List Value → ℕ → List ℕ → Evals
  right_of cs i old = eval_equation g calls n first before cs i (seg_of g n.equations i old)

each_of : (P : ℕ → Type 0) → ((i : ℕ) → P i) → (is : List ℕ) → Each P is
each_of P f [] = tt
each_of P f (i ∷ is) = (f i, each_of P f is)

module _ {g : Globals} {calls : Calls} {n : Node} {first : Bool} {before : List Value} where
  pub left_start : (is : List ℕ) (cs : List Value) (old : List ℕ) → length old ≡ total_of g n.equations → Each (Below (length n.equations)) is → Distinct is → Left g calls n first before (run_all g calls n first before is cs (split g n.equations old)) is cs old old
  left_start is cs old e h d = record { want = refl; sized = e; inside = h; once = d; untouched = each_of (λ i. seg_of g n.equations i old ≡ seg_of g n.equations i old) (λ i. refl) is }

  module _ {W : Run} {i : ℕ} {is : List ℕ} {cs : List Value} {old new : List ℕ} (l : Left g calls n first before W (i ∷ is) cs old new) where
    abbrev E : Evals
    E = right_of g calls n first before cs i old

    room : offset_of g n.equations i + size_of g n.equations i ≤ length new
    room = omega (arith, l.inside.0, l.sized, offset_next g n.equations i l.inside.0, offset_total g n.equations (suc i))

    -- the next turn is equation i's, on its old segment
    pub left_head : W ≡ store_on n i E.out E.seg (run_all g calls n first before is) cs (split g n.equations new)
    unfolding run_all store
    left_head =
        l.want
        ∙ ap (λ (s : List ℕ). store n i (eval_equation g calls n first before cs i s) (run_all g calls n first before is) cs (split g n.equations new))
        (split_get g n.equations i new l.inside.0 ∙ l.untouched.0)

    put : (x : List ℕ) → x ≡ E.seg → length x ≡ size_of g n.equations i → set (split g n.equations new) i E.seg ≡ split g n.equations (put_seg g n.equations i new x)
    put x e c = ap (set (split g n.equations new) i) (sym e) ∙ split_put g n.equations i new x l.inside.0 room c

    put_length : (x : List ℕ) → length x ≡ size_of g n.equations i → length (put_seg g n.equations i new x) ≡ total_of g n.equations
    put_length x c =
        let a = offset_of g n.equations i in
        let z = size_of g n.equations i in
        length-append (take a new) (x ++ drop z (drop a new))
        ∙ omega (arith, room, l.sized, length-take-le a new (omega (arith, room)), length-append x (drop z (drop a new)), length-drop z (drop a new), length-drop a new)

    others : (js : List ℕ) → ¬ (i ∈ js) → Each (Below (length n.equations)) js → (x : List ℕ) → length x ≡ size_of g n.equations i → Each (λ j. seg_of g n.equations j new ≡ seg_of g n.equations j old) js → Each (λ j. seg_of g n.equations j (put_seg g n.equations i new x) ≡ seg_of g n.equations j old) js
    others [] d h x c u = tt
    others (j ∷ js) d h x c u =
        (seg_other g n.equations i j new x l.inside.0 h.0 (λ e. d (here (sym e))) room c ∙ u.0, others js (λ m. d (there m)) h.1 x c u.1)

    -- its values are stored
    pub left_turn : (vs : List Value) (x : List ℕ) → E.out ≡ values vs → x ≡ E.seg → length x ≡ size_of g n.equations i → Left g calls n first before W is (assign n (equation_at n i).names vs cs) old (put_seg g n.equations i new x)
    left_turn vs x o e c =
        record {
          want = left_head ∙ ap (λ (q : Outcomes). store_on n i q E.seg (run_all g calls n first before is) cs (split g n.equations new)) o
              ∙ ap (run_all g calls n first before is (assign n (equation_at n i).names vs cs)) (put x e c);
          sized = put_length x c;
          inside = l.inside.1;
          once = l.once.1;
          untouched = others is l.once.0 l.inside.1 x c l.untouched.1;
        }

    whole : (x : List ℕ) → x ≡ E.seg → length x ≡ size_of g n.equations i → put_seg g n.equations i new x ≡ concat (set (split g n.equations new) i E.seg)
    whole x e c = sym (split_whole g n.equations (put_seg g n.equations i new x) (put_length x c)) ∙ ap concat (sym (put x e c))

    -- it fails
    pub left_failed : (d : Cause) (x : List ℕ) → E.out ≡ failure d → x ≡ E.seg → length x ≡ size_of g n.equations i → (W.end ≡ failed_at d i) × (put_seg g n.equations i new x ≡ concat W.segs)
    left_failed d x o e c =
        let w = left_head ∙ ap (λ (q : Outcomes). store_on n i q E.seg (run_all g calls n first before is) cs (split g n.equations new)) o in
        (ap (λ (u : Run). u.end) w, whole x e c ∙ ap (λ (u : Run). concat u.segs) (sym w))

    -- it overflows
    pub left_over : (x : List ℕ) → E.out ≡ overflow → x ≡ E.seg → length x ≡ size_of g n.equations i → (W.end ≡ overflowed_at i) × (put_seg g n.equations i new x ≡ concat W.segs)
    left_over x o e c =
        let w = left_head ∙ ap (λ (q : Outcomes). store_on n i q E.seg (run_all g calls n first before is) cs (split g n.equations new)) o in
        (ap (λ (u : Run). u.end) w, whole x e c ∙ ap (λ (u : Run). concat u.segs) (sym w))

  -- all have run
  pub left_done : {W : Run} {cs : List Value} {old new : List ℕ} → Left g calls n first before W [] cs old new → (W.end ≡ finished) × (cs ≡ W.cells) × (new ≡ concat W.segs)
  unfolding run_all
  left_done {new = new} l =
      (ap (λ (u : Run). u.end) l.want, ap (λ (u : Run). u.cells) (sym l.want), sym (split_whole g n.equations new l.sized) ∙ ap (λ (u : Run). concat u.segs) (sym l.want))
