-- Laws of the run of a node's equations, over the bytes of the file and of the state.
use Prim.Native.Nat.{ℕ, suc, ◌+◌, ◌-◌, ◌<◌, ◌≤◌}
use mathlib.Core.Bool.{Bool}
use mathlib.Core.List.{List, ◌∷◌, ◌++◌}
use mathlib.Core.Path.{◌≡◌, refl, sym, subst, ◌∙◌}
use native.Mathlib.Omega.{arith}
use lib.ListN.{length, take, drop, get_or, drop_of_length-le}
use lib.Seq.{drop-cons}
use Rattle.ol_spec.specs.Cell.{values_of}
use Rattle.ol_spec.specs.Order.{order}
use Rattle.ol_spec.specs.Eval.{Evals, Outcomes, values, failure, overflow, callees, sites_size}
use Rattle.ol_spec.specs.Step.{assign, finished, failed_at, overflowed_at, eval_equation, calls}
use Rattle.ol_spec.specs.Step.{Ended as RunEnd}
use Rattle.ol_spec.specs.declared.Value.{Value}
use Rattle.ol_tables.specs.At.{node_in}
use Rattle.ol_frame.specs.Walk.{sizes_in}
use Rattle.ol_frame.specs.Plans.{globals_in, width_in}
use Rattle.ol_frame.specs.Frame.{Keeps}
use Rattle.ol_frame.specs.declared.frame.Frame.{Frame}
use Rattle.ol_frame.specs.Outcomes.{ending_of}
use Rattle.ol_frame.specs.declared.outcomes.Ending.{Ending}
use Rattle.ol_frame.specs.declared.outcomes.Ending.TheVariants as End
use Rattle.ol_eval.specs.Calls.{Holds, Did, Runnable, run_in, EndsAs, RunTo, EquationReady, EquationTo}
use Rattle.ol_frame.specs.Equations.{count_in, equation_in, EquationIs, offset_in}
use Rattle.ol_frame.proofs.Endings.{failed_values, over_values}
use Rattle.ol_frame.proofs.Equating.{offset_suc, offset_upto}
use Rattle.ol_frame.proofs.Running.{mid_of, put_mid, length_mid, seg_of, put_seg, size_of, Left, right_of, left_start, left_turn, left_failed, left_over, left_done}

-- equation i's part of the state, by where it starts and ends
mid_seg : (file consts : List ℕ) (k i a b : ℕ) (s : List ℕ) → i < count_in file k → a ≡ offset_in file k i → b ≡ offset_in file k (suc i) → mid_of a b s ≡ seg_of (globals_in file consts) (node_in file k).equations i s
mid_seg file consts k i a b s h e f =
    let z : b - a ≡ sites_size (sizes_in file) (callees (equation_in file k i).rhs) = omega (arith, e, f, offset_suc file k i h) in
    λ j. take (z j) (drop (e j) s)

put_seg_lem : (file consts : List ℕ) (k i a b : ℕ) (s x : List ℕ) → i < count_in file k → a ≡ offset_in file k i → b ≡ offset_in file k (suc i) → put_mid a b s x ≡ put_seg (globals_in file consts) (node_in file k).equations i s x
put_seg_lem file consts k i a b s x h e f =
    let z : b - a ≡ sites_size (sizes_in file) (callees (equation_in file k i).rhs) = omega (arith, e, f, offset_suc file k i h) in
    λ j. take (e j) s ++ (x ++ drop (z j) (drop (e j) s))

-- what is left of the run of node k
abbrev pub LeftIn : List ℕ → List ℕ → ℕ → Bool → List ℕ → List ℕ → List ℕ → List ℕ → List ℕ → List ℕ → Type 0
LeftIn file consts k first cells₀ before old is cells new =
    Left (globals_in file consts) (calls (globals_in file consts)) (node_in file k) first (values_of (width_in file k) before) (run_in file consts k first cells₀ before old) is (values_of (width_in file k) cells) old new

pub run_start : {file tab rows consts : List ℕ} {k : ℕ} (first : Bool) {cells before old new : List ℕ} → Runnable file tab rows consts k cells before old new → LeftIn file consts k first cells before old (order (node_in file k).equations) cells new
run_start {file} {tab} {rows} {consts} {k} first {cells} {before} {old} p =
    let n = p.running.nodes k p.below in
    subst (λ (s : List ℕ). LeftIn file consts k first cells before old (order (node_in file k).equations) cells s) (sym p.same)
    (left_start (order (node_in file k).equations) (values_of (width_in file k) cells) old p.sized n.inside n.once)

-- the equation whose turn it is
pub run_next : (file consts : List ℕ) (k : ℕ) (first : Bool) (cells₀ before old cells new : List ℕ) (i j : ℕ) → LeftIn file consts k first cells₀ before old (drop j (order (node_in file k).equations)) cells new → j < length (order (node_in file k).equations) → i ≡ get_or (order (node_in file k).equations) j 0 → LeftIn file consts k first cells₀ before old (i ∷ drop (j + 1) (order (node_in file k).equations)) cells new
run_next file consts k first cells₀ before old cells new i j l h e =
    let o = order (node_in file k).equations in
    let s : suc j ≡ j + 1 = omega arith in
    subst (λ (is : List ℕ). LeftIn file consts k first cells₀ before old is cells new) (drop-cons o j 0 h ∙ (λ t. sym e t ∷ drop (s t) o)) l

module _ {file tab rows consts : List ℕ} {k : ℕ} (first : Bool) {cells₀ before old new₀ : List ℕ} (p : Runnable file tab rows consts k cells₀ before old new₀) where
  module _ {i : ℕ} {is : List ℕ} (cells : List ℕ) {new : List ℕ} (l : LeftIn file consts k first cells₀ before old (i ∷ is) cells new) {at a b : ℕ} (q : EquationIs file k i at a b) where
    index : i < count_in file k
    index = l.inside.0

    -- its part lies in the state
    pub turn_part : (a ≤ b) × (b ≤ length old) × (length new ≡ length old)
    turn_part = (omega (arith, q.starts, q.ends, offset_suc file k i index), omega (arith, q.ends, offset_upto file k (suc i), p.sized), l.sized ∙ sym p.sized)

    part_size : b - a ≡ sites_size (sizes_in file) (callees (equation_in file k i).rhs)
    part_size = omega (arith, q.starts, q.ends, offset_suc file k i index)

    -- it can be evaluated on its part
    pub turn_ready : length cells ≡ length cells₀ → EquationReady file tab rows consts k i (at) cells before (mid_of a b old) (mid_of a b new)
    turn_ready c =
        let t = turn_part in
        let m = length_mid a b old t.0 t.1 in
        record {
          running = p.running;
          below = p.below;
          index = index;
          place = q.place;
          present = record { long = omega (arith, c, p.present.long) };
          previous = p.previous;
          sized = m ∙ part_size;
          small = omega (arith, m, t.1, p.small);
          same = mid_seg file consts k i a b new index q.starts q.ends ∙ l.untouched.0 ∙ sym (mid_seg file consts k i a b old index q.starts q.ends);
        }

    abbrev E : Evals
    E = right_of (globals_in file consts) (calls (globals_in file consts)) (node_in file k) first (values_of (width_in file k) before) (values_of (width_in file k) cells) i old

    moved_did : {e : Ending} {got : List Value} {x : List ℕ} → (make : List Value → List Value)
        → Did make (eval_equation (globals_in file consts) (calls (globals_in file consts)) (node_in file k) first (values_of (width_in file k) before) (values_of (width_in file k) cells) i (mid_of a b old)) e got x → Did make E e got x
    moved_did {e} {got} {x} make d =
        subst (λ (s : List ℕ). Did make (eval_equation (globals_in file consts) (calls (globals_in file consts)) (node_in file k) first (values_of (width_in file k) before) (values_of (width_in file k) cells) i s) e got x)
        (mid_seg file consts k i a b old index q.starts q.ends) d

    sized_as : (x : List ℕ) → length x ≡ length (mid_of a b new) → length x ≡ size_of (globals_in file consts) (node_in file k).equations i
    sized_as x c =
        let t = turn_part in
        c ∙ length_mid a b new t.0 (omega (arith, t.1, t.2)) ∙ part_size

    -- its values are stored: the run goes on
    pub turn_goes : (e : Ending) (cells' x : List ℕ) → e ≡ End.Values → length x ≡ length (mid_of a b new)
        → EquationTo file consts k i first cells before (mid_of a b old) e cells' x → LeftIn file consts k first cells₀ before old is cells' (put_mid a b new x)
    turn_goes e cells' x z c d =
        subst (λ (s : List ℕ). LeftIn file consts k first cells₀ before old is cells' s) (sym (put_seg_lem file consts k i a b new x index q.starts q.ends))
        (go E.out refl w.end_is w.values_are)
      where
        w : Did (λ vs. assign (node_in file k) (equation_in file k i).names vs (values_of (width_in file k) cells)) E e (values_of (width_in file k) cells') x
        w = moved_did (λ vs. assign (node_in file k) (equation_in file k i).names vs (values_of (width_in file k) cells)) d

        go : (o : Outcomes) → E.out ≡ o → e ≡ ending_of o → Holds (λ vs. assign (node_in file k) (equation_in file k i).names vs (values_of (width_in file k) cells)) o (values_of (width_in file k) cells')
            → LeftIn file consts k first cells₀ before old is cells' (put_seg (globals_in file consts) (node_in file k).equations i new x)
        go (values vs) f n h =
            subst (λ (cs : List Value). Left (globals_in file consts) (calls (globals_in file consts)) (node_in file k) first (values_of (width_in file k) before) (run_in file consts k first cells₀ before old) is cs old (put_seg (globals_in file consts) (node_in file k).equations i new x)) (sym h)
            (left_turn l vs x f w.state (sized_as x c))
        go (failure d) f n h = failed_values n z
        go overflow f n h = over_values n z

    -- it fails or overflows: the run ends
    pub turn_stops : (e : Ending) (cells' x : List ℕ) → ¬ (e ≡ End.Values) → length x ≡ length (mid_of a b new)
        → EquationTo file consts k i first cells before (mid_of a b old) e cells' x → RunTo file consts k first cells₀ before old (record { end = e; index = i }) cells' (put_mid a b new x)
    turn_stops e cells' x z c d = go E.out refl w.end_is
      where
        w : Did (λ vs. assign (node_in file k) (equation_in file k i).names vs (values_of (width_in file k) cells)) E e (values_of (width_in file k) cells') x
        w = moved_did (λ vs. assign (node_in file k) (equation_in file k i).names vs (values_of (width_in file k) cells)) d

        put : put_mid a b new x ≡ put_seg (globals_in file consts) (node_in file k).equations i new x
        put = put_seg_lem file consts k i a b new x index q.starts q.ends

        go : (o : Outcomes) → E.out ≡ o → e ≡ ending_of o → RunTo file consts k first cells₀ before old (record { end = e; index = i }) cells' (put_mid a b new x)
        go (values vs) f n = absurd (z n)
        go (failure d) f n =
            let r = left_failed l d x f w.state (sized_as x c) in
            record {
              ends = subst (λ (y : RunEnd). EndsAs y (record { end = e; index = i })) (sym r.0) (n, refl);
              cells_are = λ h. absurd (no_end (sym r.0 ∙ h));
              state = put ∙ r.1;
            }
          where
            no_end : failed_at d i ≡ finished → ⊥
            no_end h = let y : ◌≡◌ {A = ℕ} 0 1 = cc in omega arith
        go overflow f n =
            let r = left_over l x f w.state (sized_as x c) in
            record {
              ends = subst (λ (y : RunEnd). EndsAs y (record { end = e; index = i })) (sym r.0) (n, refl);
              cells_are = λ h. absurd (no_end (sym r.0 ∙ h));
              state = put ∙ r.1;
            }
          where
            no_end : overflowed_at i ≡ finished → ⊥
            no_end h = let y : ◌≡◌ {A = ℕ} 0 1 = cc in omega arith

-- all have run
pub run_done : (file consts : List ℕ) (k : ℕ) (first : Bool) (cells₀ before old cells new : List ℕ) (j : ℕ) → LeftIn file consts k first cells₀ before old (drop j (order (node_in file k).equations)) cells new → length (order (node_in file k).equations) ≤ j → RunTo file consts k first cells₀ before old (record { end = End.Values; index = 0 }) cells new
run_done file consts k first cells₀ before old cells new j l h =
    let r = left_done (subst (λ (is : List ℕ). LeftIn file consts k first cells₀ before old is cells new) (drop_of_length-le (order (node_in file k).equations) h) l) in
    record {
      ends = subst (λ (y : RunEnd). EndsAs y (record { end = End.Values; index = 0 })) (sym r.0) refl;
      cells_are = λ _. r.1;
      state = r.2;
    }

-- ---- on a frame whose cells were written

pub keeps_ready : {file tab rows consts : List ℕ} {fr fr' : Frame} {i at : ℕ} {cells old new : List ℕ} → Keeps fr fr' → EquationReady file tab rows consts fr.node i at cells fr.before.now old new → EquationReady file tab rows consts fr'.node i at cells fr'.before.now old new
keeps_ready {file} {tab} {rows} {consts} {fr} {fr'} {i} {at} {cells} {old} {new} h p =
    subst (λ (n : ℕ). EquationReady file tab rows consts n i at cells fr'.before.now old new) (sym h.node)
    (subst (λ (b : List ℕ). EquationReady file tab rows consts fr.node i at cells b old new) (sym h.before) p)

pub keeps_done : (file consts : List ℕ) (i : ℕ) (cells old cells' : List ℕ) {fr fr' : Frame} {new : List ℕ} {e : Ending} → Keeps fr fr' → EquationTo file consts fr'.node i fr'.first cells fr'.before.now old e cells' new → EquationTo file consts fr.node i fr.first cells fr.before.now old e cells' new
keeps_done file consts i cells old cells' {fr} {fr'} {new} {e} h p =
    subst (λ (n : ℕ). EquationTo file consts n i fr.first cells fr.before.now old e cells' new) h.node
    (subst (λ (f : Bool). EquationTo file consts fr'.node i f cells fr.before.now old e cells' new) h.first
    (subst (λ (b : List ℕ). EquationTo file consts fr'.node i fr'.first cells b old e cells' new) h.before p))
