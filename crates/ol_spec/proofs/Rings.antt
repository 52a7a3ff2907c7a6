-- Admission answers 11 exactly if none of 1 to 10 and 22 holds and some node has a ring: specs/Demand3's RingClaim.
use Prim.Native.Nat.{ℕ, suc, ◌+◌}
use mathlib.Core.List.{List, [], ◌∷◌, map}
use mathlib.Core.Logic.{⊎_elim}
use mathlib.Core.Option.{Option, none, some}
use mathlib.Core.Path.{◌≡◌, refl, sym, ap, subst, ◌∙◌}
use native.Mathlib.Omega.{arith}
use lib.ListN.{get_elem?}
use Rattle.ol_spec.specs.Lists.{maybe, or_else}
use Rattle.ol_spec.specs.Syntax.{Equation, Node, File, no_node}
use Rattle.ol_spec.specs.Places.{placed, node_size, nodes_start, placed_equations}
use Rattle.ol_spec.specs.Read.{Read, got, fault, read_file}
use Rattle.ol_spec.specs.Limits.{Loader}
use Rattle.ol_spec.specs.Order.{unplaced, Ring}
use Rattle.ol_spec.specs.Answers.{fault_at}
use Rattle.ol_spec.specs.Admission.{place_at, ring_in, first_some, fault6, fault7, fault8, fault9, fault10, fault22, fault11, fault12, fault13, fault14, constants, constant_values, Judged, refused, admitted, refuse_at, refuse_first, judge_file, judge_read, judge, verdict}
use Rattle.ol_spec.specs.Demand3.{Unfaulted, RingIn, RingClaim}
use Rattle.ol_spec.specs.declared.Fault.{Fault}
use Rattle.std.specs.Prelude.{Err}
use Rattle.ol_spec.proofs.Lists.{get_elem_inside, get_d_is}
use Rattle.ol_spec.proofs.Ordering.{placed_or_stuck}
use Rattle.ol_spec.proofs.Admitted.{node_placed}
use Rattle.ol_spec.proofs.Faults.{Low, file_low}

-- ---- a node whose equations are not all placed has a ring

unplaced_ring : (qs : List Equation) (i : ℕ) → unplaced qs ≡ some i → Ring qs
unplaced_ring qs i e = ⊎_elim (λ p. absurd (never p.none_left e)) (λ s. s.ring) (placed_or_stuck qs)
  where
    never : unplaced qs ≡ none → unplaced qs ≡ some i → ⊥
    never a b = let z : ◌≡◌ {A = ℕ} 0 1 = cc in omega arith

node_ring : (at : ℕ) (n : Node) (p : ℕ) → ring_in (at, n) ≡ some p → Ring n.equations
node_ring at n p e = go (unplaced n.equations) refl e
  where
    go : (o : Option ℕ) → unplaced n.equations ≡ o → maybe none (λ i. some (place_at (placed_equations at n) i)) o ≡ some p → Ring n.equations
    go none h e = let z : ◌≡◌ {A = ℕ} 0 1 = cc in absurd (omega arith)
    go (some i) h e = unplaced_ring n.equations i h

rings_some : (at : ℕ) (ns : List Node) (p : ℕ) → first_some (map ring_in (placed node_size at ns)) ≡ some p → (k : ℕ) × (n : Node) × (get_elem? ns k ≡ some n) × Ring n.equations
rings_some at [] p e = let z : ◌≡◌ {A = ℕ} 0 1 = cc in absurd (omega arith)
rings_some at (n ∷ ns) p e = go (ring_in (at, n)) refl e (rings_some (at + node_size n) ns p)
  where
    go : (o : Option ℕ) → ring_in (at, n) ≡ o → or_else o (first_some (map ring_in (placed node_size (at + node_size n) ns))) ≡ some p
        → (first_some (map ring_in (placed node_size (at + node_size n) ns)) ≡ some p → (k : ℕ) × (m : Node) × (get_elem? ns k ≡ some m) × Ring m.equations)
        → (k : ℕ) × (m : Node) × (get_elem? (n ∷ ns) k ≡ some m) × Ring m.equations
    go none h e r = let w = r e in (suc w.0, w.1, w.2, w.3)
    go (some q) h e r = (0, n, refl, node_ring at n q h)

ring_in_lem : (f : File) (p : ℕ) → fault11 f ≡ some p → RingIn f
unfolding fault11
ring_in_lem f p e = let w = rings_some (nodes_start f) f.nodes p e in record { number = w.0; node = w.1; is = w.2; ring = w.3 }

in_ring : (f : File) → RingIn f → (p : ℕ) × (fault11 f ≡ some p)
in_ring f r = go (fault11 f) refl
  where
    go : (o : Option ℕ) → fault11 f ≡ o → (p : ℕ) × (o ≡ some p)
    go (some p) e = (p, refl)
    go none e =
        absurd ((node_placed f e r.number (get_elem_inside f.nodes r.number r.node r.is)).no_ring
        (subst (λ (n : Node). Ring n.equations) (sym (get_d_is f.nodes r.number no_node r.node r.is)) r.ring))

-- ---- the first fault

-- a fault of another number does not hold
pub refuse_other : (n m p : ℕ) (o : Option ℕ) (j : Judged) → ¬ (n ≡ m) → refuse_at n o j ≡ refused m p → (o ≡ none) × (j ≡ refused m p)
refuse_other n m p none j d e = (refl, e)
refuse_other n m p (some q) j d e = let z : n ≡ m = cc in absurd (d z)

judged_11 : (ld : Loader) (f : File) (p : ℕ) → judge_file ld f ≡ refused 11 p
    → (fault6 f ≡ none) × (fault7 f ≡ none) × (fault8 f ≡ none) × (fault9 f ≡ none) × (fault10 f ≡ none) × (fault22 f ≡ none) × (fault11 f ≡ some p)
judged_11 ld f p e =
    let a6 = refuse_other 6 11 p (fault6 f) _ (λ z. omega arith) e in
    let a7 = refuse_other 7 11 p (fault7 f) _ (λ z. omega arith) a6.1 in
    let a8 = refuse_other 8 11 p (fault8 f) _ (λ z. omega arith) a7.1 in
    let a9 = refuse_other 9 11 p (fault9 f) _ (λ z. omega arith) a8.1 in
    let a10 = refuse_other 10 11 p (fault10 f) _ (λ z. omega arith) a9.1 in
    let a22 = refuse_other 22 11 p (fault22 f) _ (λ z. omega arith) a10.1 in
    (a6.0, a7.0, a8.0, a9.0, a10.0, a22.0, last (fault11 f) a22.1)
  where
    later : refuse_first ((12, fault12 f) ∷ (13, fault13 ld f) ∷ (14, fault14 f) ∷ []) (admitted f (constant_values (constants f))) ≡ refused 11 p → ⊥
    later e =
        let a12 = refuse_other 12 11 p (fault12 f) _ (λ z. omega arith) e in
        let a13 = refuse_other 13 11 p (fault13 ld f) _ (λ z. omega arith) a12.1 in
        let a14 = refuse_other 14 11 p (fault14 f) _ (λ z. omega arith) a13.1 in
        let b = a14.1 in
        let z : ◌≡◌ {A = ℕ} 0 1 = cc in
        omega arith

    last : (o : Option ℕ) → refuse_at 11 o (refuse_first ((12, fault12 f) ∷ (13, fault13 ld f) ∷ (14, fault14 f) ∷ []) (admitted f (constant_values (constants f)))) ≡ refused 11 p → o ≡ some p
    last none e = absurd (later e)
    last (some q) e = let z : q ≡ p = cc in ap some z

judge_11 : (ld : Loader) (f : File) (p : ℕ) → fault6 f ≡ none → fault7 f ≡ none → fault8 f ≡ none → fault9 f ≡ none → fault10 f ≡ none → fault22 f ≡ none → fault11 f ≡ some p → judge_file ld f ≡ refused 11 p
judge_11 ld f p e6 e7 e8 e9 e10 e22 e11 =
    rw (e6, e7, e8, e9, e10, e22, e11) refl

pub same_fault : (n p : ℕ) (j : Judged) → verdict j ≡ Err (fault_at n p) → j ≡ refused n p
same_fault n p (refused m r) e =
    let x : fault_at m r ≡ fault_at n p = cc in
    ap (λ (y : Fault). refused y.number y.place) x
same_fault n p (admitted f vs) e = let z : ◌≡◌ {A = ℕ} 0 1 = cc in absurd (omega arith)

read_11 : (ld : Loader) (s : List ℕ) (r : Read File) → read_file s ld ≡ r → Low r → (p : ℕ) → judge_read ld r ≡ refused 11 p → (f : File) × Unfaulted ld s f × RingIn f
read_11 ld s (fault n q) h l p e = let z : n ≡ 11 = cc in absurd (omega (arith, l.1))
read_11 ld s (got f at) h l p e =
    let w = judged_11 ld f p e in
    (f, record { end = at; read = h; no6 = w.0; no7 = w.1; no8 = w.2; no9 = w.3; no10 = w.4; no22 = w.5 }, ring_in_lem f p w.6)

pub ring_claim : (ld : Loader) → RingClaim ld
unfolding RingClaim judge
ring_claim ld s = (
  λ w. read_11 ld s (read_file s ld) refl (file_low s ld) w.0 (same_fault 11 w.0 (judge ld s) w.1),
  λ w.
      let f = w.0 in
      let u = w.1 in
      let p = in_ring f w.2 in
      (p.0, ap verdict (ap (judge_read ld) u.read ∙ judge_11 ld f p.0 u.no6 u.no7 u.no8 u.no9 u.no10 u.no22 p.1)),
)
