-- The items of a file that reads without fault, where they stand.
use Prim.Native.Nat.{ℕ, zero, suc, ◌+◌, ◌*◌, ◌≤◌, ◌<◌}
use mathlib.Core.List.{List, [], ◌∷◌, map}
use mathlib.Core.Option.{some}
use mathlib.Core.Path.{◌≡◌, refl, sym, ap, subst, ◌∙◌}
use native.Mathlib.Numerals.{add-one}
use native.Mathlib.Omega.{arith}
use lib.ListN.{length, get_elem?, set}
use lib.Seq.{sets}
use Rattle.std.specs.Prelude.{Ok, Err}
use Rattle.ol_spec.specs.Syntax.{Equation, Node}
use Rattle.ol_spec.specs.Places.{placed, section_size, variable_size, equation_size, equations_start, placed_equations, rhs_place}
use Rattle.ol_spec.specs.Read.{Read, got, fault, Reader, many, count_r, coded, node_kinds, name_r, section_r, variable_r, equation_r, expr_r, node_r}
use Rattle.ol_spec.specs.Answers.{fault_at}
use Rattle.ol_spec.specs.declared.Fault.{Fault}
use Rattle.ol_spec.specs.declared.Limits.{Limits}
use Rattle.ol_spec.proofs.Offsets.{steps, same_end, same_item}
use Rattle.ol_ir.specs.Nexts.{Next, counted_at, next_of, counted_of}
use Rattle.ol_ir.specs.Nodes.{interface_r}
use Rattle.ol_ir.specs.Walks.{place_of, on_places, places_of}
use Rattle.ol_ir.proofs.Bytes.{same_count, same_place, counted_is}
use Rattle.ol_ir.proofs.Sizes.{Takes, takes_count, takes_coded, takes_section, takes_names, takes_variable, takes_equation}
use Rattle.ol_ir.proofs.Trees.{then_got}
use Rattle.ol_ir.proofs.Files.{many_long}

-- ---- from what the code answers back to what was read

pub from_next : {A : Type 0} (r : Read A) (q : ℕ) → next_of r ≡ Ok q → (a : A) × (r ≡ got a q)
unfolding next_of
from_next (got a p) q e = let z : p ≡ q = cc in (a, ap (got a) z)
from_next (fault n p) q e = let z : ◌≡◌ {A = ℕ} 0 1 = cc in absurd (omega arith)

pub from_halt : {A : Type 0} (r : Read A) (f : Fault) → next_of r ≡ Err f → r ≡ fault f.number f.place
unfolding next_of
from_halt (got a p) f e = let z : ◌≡◌ {A = ℕ} 0 1 = cc in absurd (omega arith)
from_halt (fault n p) f e = let z : fault_at n p ≡ f = cc in ap (λ (v : Fault). fault v.number v.place) z

pub from_items : (r : Read ℕ) (n q : ℕ) → counted_of r ≡ Ok (counted_at n q) → r ≡ got n q
unfolding counted_of
from_items (got a p) n q e = let y : a ≡ n = same_count e in let z : p ≡ q = same_place e in rw (y, z) refl
from_items (fault a p) n q e = let z : ◌≡◌ {A = ℕ} 0 1 = cc in absurd (omega arith)

pub from_no_items : (r : Read ℕ) (f : Fault) → counted_of r ≡ Err f → r ≡ fault f.number f.place
unfolding counted_of
from_no_items (got a p) f e = let z : ◌≡◌ {A = ℕ} 0 1 = cc in absurd (omega arith)
from_no_items (fault n p) f e = let z : fault_at n p ≡ f = cc in ap (λ (v : Fault). fault v.number v.place) z

-- ---- tables of places

module _ {A : Type 0} (r : Reader A) where
  places_at : (left m at p : ℕ) → left ≡ m + 1 → next_of (r at) ≡ Ok p → places_of left r at ≡ at ∷ places_of m r p
  unfolding places_of on_places
  places_at zero m at p h e = absurd (omega arith)
  places_at (suc n) m at p h e = let one : m ≡ n = omega arith in let w = from_next (r at) p e in rw (one, w.1) refl

  places_halt : (left at : ℕ) (f : Fault) → 0 < left → next_of (r at) ≡ Err f → places_of left r at ≡ at ∷ []
  unfolding places_of on_places
  places_halt zero at f h e = absurd (omega arith)
  places_halt (suc n) at f h e = rw (from_halt (r at) f e) refl

  places_none : (left at : ℕ) → left ≤ 0 → places_of left r at ≡ []
  unfolding places_of
  places_none zero at h = refl
  places_none (suc n) at h = absurd (omega arith)

-- w is the table with the places of `left` items from `at` on put at i
pub record Puts {A : Type 0} (r : Reader A) (w : List ℕ) (i left at : ℕ) (table : List ℕ) : Type 0 where
  pub is : w ≡ sets table i (places_of left r at)

-- the next place is put, and the item answers x
module _ {A : Type 0} {r : Reader A} {w table t : List ℕ} {i left at : ℕ} {x : Next} (p : Puts r w i left at table) where
  pub put_turn : {m q : ℕ} → left ≡ m + 1 → x ≡ next_of (r at) → t ≡ set table i at → x ≡ Ok q → Puts r w (i + 1) m q t
  put_turn {m} {q} u e k g = record { is = p.is ∙ ap (λ l. sets table i l) (places_at r left m at q u (sym e ∙ g)) ∙ rw (add-one, k) refl }

  pub put_halt : {f : Fault} → 0 < left → x ≡ next_of (r at) → t ≡ set table i at → x ≡ Err f → t ≡ w
  put_halt {f} u e k g = k ∙ sym (p.is ∙ ap (λ l. sets table i l) (places_halt r left at f u (sym e ∙ g)))

pub put_end : {A : Type 0} {r : Reader A} {w table : List ℕ} {i left at : ℕ} → Puts r w i left at table → left ≤ 0 → table ≡ w
put_end {r = r} {w} {table} {i} {left} {at} p h = sym (p.is ∙ ap (λ l. sets table i l) (places_none r left at h))

-- ---- lists of items

module _ {A : Type 0} (s : List ℕ) (size : A → ℕ) (r : Reader A) (h : Takes s r (λ a m. m ≡ size a)) where
  -- they start where their sizes say
  pub places_placed : (k at : ℕ) (xs : List A) (n : ℕ) → many k r at ≡ got xs n → places_of k r at ≡ map place_of (placed size at xs)
  unfolding many places_of on_places
  places_placed zero at xs n e = ap (λ l. map place_of (placed size at l)) (same_item e)
  places_placed (suc k) at xs n e =
      let t = steps (r at) _ xs n e in
      let u = steps (many k r t.at) _ xs n t.rest in
      let v = h.is at t.value t.at t.first in
      let q : t.at ≡ at + size t.value = omega (arith, v.ends, v.holds) in
      subst (λ l. places_of (suc k) r at ≡ map place_of (placed size at l)) (same_item u.rest)
      (ap (λ v. at ∷ on_places v (places_of k r)) t.first ∙ ap (λ l. at ∷ l) (places_placed k t.at u.value u.at u.first ∙ ap (λ p. map place_of (placed size p u.value)) q))

  -- and each was read there
  pub placed_read : (k at : ℕ) (xs : List A) (n : ℕ) → many k r at ≡ got xs n → (i p : ℕ) (x : A) → get_elem? (placed size at xs) i ≡ some (p, x) → (m : ℕ) × (r p ≡ got x m)
  unfolding many
  placed_read zero at xs n e i p x f = absurd (nothing i (subst (λ l. get_elem? (placed size at l) i ≡ some (p, x)) (sym (same_item e)) f))
    where
      nothing : (i : ℕ) → get_elem? (placed size at []) i ≡ some (p, x) → ⊥
      nothing zero g = let z : ◌≡◌ {A = ℕ} 0 1 = cc in omega arith
      nothing (suc i) g = let z : ◌≡◌ {A = ℕ} 0 1 = cc in omega arith
  placed_read (suc k) at xs n e i p x f =
      let t = steps (r at) _ xs n e in
      let u = steps (many k r t.at) _ xs n t.rest in
      let v = h.is at t.value t.at t.first in
      let q : at + size t.value ≡ t.at = omega (arith, v.ends, v.holds) in
      let g : get_elem? (placed size at (t.value ∷ u.value)) i ≡ some (p, x) = subst (λ l. get_elem? (placed size at l) i ≡ some (p, x)) (sym (same_item u.rest)) f in
      pick i t.value u.value t.at t.first (λ j m. placed_read k t.at u.value u.at u.first j p x (subst (λ c. get_elem? (placed size c u.value) j ≡ some (p, x)) q m)) g
    where
      pick : (i : ℕ) (y : A) (ys : List A) (m : ℕ) → r at ≡ got y m → ((j : ℕ) → get_elem? (placed size (at + size y) ys) j ≡ some (p, x) → (m : ℕ) × (r p ≡ got x m)) → get_elem? (placed size at (y ∷ ys)) i ≡ some (p, x) → (m : ℕ) × (r p ≡ got x m)
      pick zero y ys m d c g = let w : ◌≡◌ {A = ℕ × A} (at, y) (p, x) = cc in (m, subst (λ v. r v.0 ≡ got v.1 m) w d)
      pick (suc j) y ys m d c g = c j g

-- ---- a section

pub record SectionAt {A : Type 0} (s : List ℕ) (lo hi : ℕ) (r : Reader A) (at : ℕ) (xs : List A) (n : ℕ) : Type 0 where
  pub counted : count_r s lo hi at ≡ got (length xs) (at + 1)
  pub items : many (length xs) r (at + 1) ≡ got xs n

pub section_at : {A : Type 0} (s : List ℕ) (lo hi : ℕ) (r : Reader A) (at : ℕ) (xs : List A) (n : ℕ) → section_r s lo hi r at ≡ got xs n → SectionAt s lo hi r at xs n
section_at s lo hi r at xs n e =
    let t = steps (count_r s lo hi at) _ xs n e in
    let u = (takes_count s lo hi).is at t.value t.at t.first in
    let p : t.at ≡ at + 1 = omega (arith, u.ends, u.holds) in
    let k : length xs ≡ t.value = many_long r t.value t.at xs n t.rest in
    record {
      counted = t.first ∙ (ap (got t.value) p ∙ ap (λ m. got m (at + 1)) (sym k));
      items = subst (λ m. many m r (at + 1) ≡ got xs n) (sym k) (subst (λ q. many t.value r q ≡ got xs n) p t.rest);
    }

-- ---- a node and its equations

module _ (s : List ℕ) (l : Limits) (enums : ℕ) where
  pub record NodeAt (at : ℕ) (n : Node) (end : ℕ) : Type 0 where
    pub front : next_of (interface_r s l enums at) ≡ Ok (equations_start at n)
    pub equations : section_r s 0 l.equations (equation_r s l enums) (equations_start at n) ≡ got n.equations end

  pub node_at_lem : (at : ℕ) (n : Node) (end : ℕ) → node_r s l enums at ≡ got n end → NodeAt at n end
  unfolding next_of
  node_at_lem at n end e =
      let k = steps (coded s node_kinds at) _ n end e in
      let i = steps (section_r s 0 l.inputs (variable_r s l enums) k.at) _ n end k.rest in
      let o = steps (section_r s 1 l.outputs (variable_r s l enums) i.at) _ n end i.rest in
      let c = steps (section_r s 0 l.locals (variable_r s l enums) o.at) _ n end o.rest in
      let q = steps (section_r s 0 l.equations (equation_r s l enums) c.at) _ n end c.rest in
      let a = (takes_coded s node_kinds).is at k.value k.at k.first in
      let b = (takes_section s variable_size (variable_r s l enums) (takes_variable s l enums) 0 l.inputs).is k.at i.value i.at i.first in
      let d = (takes_section s variable_size (variable_r s l enums) (takes_variable s l enums) 1 l.outputs).is i.at o.value o.at o.first in
      let f = (takes_section s variable_size (variable_r s l enums) (takes_variable s l enums) 0 l.locals).is o.at c.value c.at c.first in
      let p : c.at ≡ at + 1 + section_size variable_size i.value + section_size variable_size o.value + section_size variable_size c.value = omega (arith, a.ends, a.holds, b.ends, b.holds, d.ends, d.holds, f.ends, f.holds) in
      subst (λ w. NodeAt at w end) (same_item q.rest) (record {
        front =
            ap next_of (then_got (coded s node_kinds at) _ k.first ∙ then_got (section_r s 0 l.inputs (variable_r s l enums) k.at) _ i.first
            ∙ then_got (section_r s 1 l.outputs (variable_r s l enums) i.at) _ o.first ∙ then_got (section_r s 0 l.locals (variable_r s l enums) o.at) _ c.first)
            ∙ ap Ok p;
        equations = subst (λ m. section_r s 0 l.equations (equation_r s l enums) m ≡ got q.value end) p (q.first ∙ ap (got q.value) (same_end q.rest));
      })

  pub record EquationAt (at : ℕ) (q : Equation) (end : ℕ) : Type 0 where
    pub names : section_r s 1 l.names (name_r s) at ≡ got q.names (rhs_place at q)
    pub right : expr_r s l enums l.nesting (rhs_place at q) ≡ got q.rhs end

  pub equation_at_lem : (at : ℕ) (q : Equation) (end : ℕ) → equation_r s l enums at ≡ got q end → EquationAt at q end
  equation_at_lem at q end e =
      let t = steps (section_r s 1 l.names (name_r s) at) _ q end e in
      let u = (takes_names s 1 l.names).is at t.value t.at t.first in
      let v = steps (expr_r s l enums l.nesting t.at) _ q end t.rest in
      let p : t.at ≡ at + 1 + 2 * length t.value = omega (arith, u.ends, u.holds) in
      subst (λ w. EquationAt at w end) (same_item v.rest) (record {
        names = t.first ∙ ap (got t.value) p;
        right = subst (λ m. expr_r s l enums l.nesting m ≡ got v.value end) p (v.first ∙ ap (got v.value) (same_end v.rest));
      })

-- each equation of a node was read where it stands
pub equation_read : (s : List ℕ) (l : Limits) (enums at : ℕ) (n : Node) (end : ℕ) → node_r s l enums at ≡ got n end → (i p : ℕ) (q : Equation) → get_elem? (placed_equations at n) i ≡ some (p, q) → (m : ℕ) × (equation_r s l enums p ≡ got q m)
equation_read s l enums at n end r i p q e =
    let a = section_at s 0 l.equations (equation_r s l enums) (equations_start at n) n.equations end (node_at_lem s l enums at n end r).equations in
    placed_read s equation_size (equation_r s l enums) (takes_equation s l enums) (length n.equations) (equations_start at n + 1) n.equations end a.items i p q e

-- a count that was read is within its limits
pub within : (s : List ℕ) (lo hi at n p : ℕ) → count_r s lo hi at ≡ got n p → n ≤ hi
unfolding counted_of
within s lo hi at n p e = (counted_is s lo hi at n p (sym (ap counted_of e))).high

pub few_equations_lem : (s : List ℕ) (l : Limits) (enums at : ℕ) (n : Node) (end : ℕ) → node_r s l enums at ≡ got n end → length n.equations ≤ l.equations
few_equations_lem s l enums at n end r =
    within s 0 l.equations (equations_start at n) (length n.equations) (equations_start at n + 1)
    (section_at s 0 l.equations (equation_r s l enums) (equations_start at n) n.equations end (node_at_lem s l enums at n end r).equations).counted
