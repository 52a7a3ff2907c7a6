-- The loop over expressions: each is its head and then its parts, and the last one's parts take its place.
use Prim.Native.Nat.{ℕ, zero, suc, ◌+◌, ◌*◌, ◌-◌, ◌<◌}
use mathlib.Core.List.{List}
use mathlib.Core.Path.{◌≡◌, refl, sym, ap, ◌∙◌}
use native.Mathlib.Nat.{suc-mul}
use native.Mathlib.Omega.{arith}
use Rattle.std.specs.Prelude.{Ok, Err}
use Rattle.ol_spec.specs.Read.{many_exprs, expr_r}
use Rattle.ol_spec.specs.declared.Fault.{Fault}
use Rattle.ol_spec.specs.declared.Limits.{Limits}
use Rattle.ol_ir.specs.Nexts.{Counting, Next, counted_at, next_of, counted_of, repeat}
use Rattle.ol_ir.specs.Heads.{head_r}
use Rattle.ol_ir.proofs.Onward.{on_items, Turns, turn, turn_halt, exprs_next, repeat_one}
use Rattle.ol_ir.proofs.Heads.{expr_head, deep_halts, few_parts}

-- the last one's parts take its place: the levels left fall, by as much as there can be parts
pub falls_deeper : (d most n left : ℕ) → 0 < d → n < most → 0 < left → (d - 1) * most + n < d * most + left
falls_deeper zero most n left h b c = absurd (omega arith)
falls_deeper (suc d) most n left h b c = let one : suc d - 1 ≡ d = omega arith in rw (one, suc-mul) (omega arith)

-- more than an expression can have parts
abbrev pub above_parts : Limits → ℕ
above_parts l = 4 + (l.arguments + l.items + l.elements + l.arrays)

pub few : (s : List ℕ) (l : Limits) (enums at n p : ℕ) {x : Counting} → x ≡ counted_of (head_r s l enums at) → x ≡ Ok (counted_at n p) → n < above_parts l
few s l enums at n p e g = omega (arith, few_parts s l enums at n p (sym g ∙ e))

module _ (s : List ℕ) (l : Limits) (enums : ℕ) where
  abbrev pub expr_at : ℕ → ℕ → Next
  expr_at d p = next_of (expr_r s l enums d p)

  deep_repeat : (n at : ℕ) → 0 < n → repeat n (expr_at 0) at ≡ expr_at 0 at
  unfolding repeat
  deep_repeat zero at h = absurd (omega arith)
  deep_repeat (suc n) at h = deep_halts s l enums at _

  head_on : (d at : ℕ) → 0 < d → expr_at d at ≡ on_items (counted_of (head_r s l enums at)) (λ j q. repeat j (expr_at (d - 1)) q)
  head_on zero at h = absurd (omega arith)
  head_on (suc d) at h = let one : suc d - 1 ≡ d = omega arith in rw one (expr_head s l enums d at)

  module _ {x : Counting} (d at : ℕ) (h : 0 < d) (e : x ≡ counted_of (head_r s l enums at)) where
    head_at_lem : {n p : ℕ} → x ≡ Ok (counted_at n p) → expr_at d at ≡ repeat n (expr_at (d - 1)) p
    unfolding on_items
    head_at_lem g = head_on d at h ∙ ap (λ (v : Counting). on_items v (λ j q. repeat j (expr_at (d - 1)) q)) (sym e ∙ g)

    head_halt : {f : Fault} → x ≡ Err f → expr_at d at ≡ Err f
    unfolding on_items
    head_halt g = head_on d at h ∙ ap (λ (v : Counting). on_items v (λ j q. repeat j (expr_at (d - 1)) q)) (sym e ∙ g)

  -- no level is left
  pub turn_deep : {w z : Next} {left d at : ℕ} → Turns w left (expr_at d) at → 0 < left → d ≡ 0 → z ≡ expr_at 0 at → z ≡ w
  turn_deep {left = left} {d} {at} t u e g = g ∙ sym (t.is ∙ ap (λ (n : ℕ). repeat left (expr_at n) at) e ∙ deep_repeat left at u)

  module _ {w : Next} {x : Counting} {left d at : ℕ} (t : Turns w left (expr_at d) at) (u : 0 < left) (h : 0 < d) (e : x ≡ counted_of (head_r s l enums at)) where
    -- the expression has no parts
    pub turn_leaf : {n p : ℕ} → x ≡ Ok (counted_at n p) → n ≡ 0 → Turns w (left - 1) (expr_at d) p
    unfolding repeat
    turn_leaf {n} {p} g o = turn t (omega arith) refl (head_at_lem d at h e g ∙ ap (λ (k : ℕ). repeat k (expr_at (d - 1)) p) o)

    -- the last expression's parts take its place
    pub turn_last : {n p : ℕ} → x ≡ Ok (counted_at n p) → left - 1 ≡ 0 → Turns w n (expr_at (d - 1)) p
    turn_last {n} {p} g o =
        let one : left ≡ 1 = omega arith in
        record { is = t.is ∙ ap (λ (k : ℕ). repeat k (expr_at d) at) one ∙ repeat_one (expr_at d) at ∙ head_at_lem d at h e g }

    -- its parts were read
    pub turn_parts : {n p q : ℕ} {z : Next} → x ≡ Ok (counted_at n p) → z ≡ next_of (many_exprs n (expr_r s l enums (d - 1)) p) → z ≡ Ok q → Turns w (left - 1) (expr_at d) q
    turn_parts {n} {p} g i j = turn t (omega arith) (i ∙ exprs_next (expr_r s l enums (d - 1)) n p ∙ sym (head_at_lem d at h e g)) j

    pub parts_halt : {n p : ℕ} {z : Next} {f : Fault} → x ≡ Ok (counted_at n p) → z ≡ next_of (many_exprs n (expr_r s l enums (d - 1)) p) → z ≡ Err f → Err f ≡ w
    parts_halt {n} {p} g i j = turn_halt t u (i ∙ exprs_next (expr_r s l enums (d - 1)) n p ∙ sym (head_at_lem d at h e g)) j

    -- its head is a fault
    pub turn_fault : {f : Fault} → x ≡ Err f → Err f ≡ w
    turn_fault g = turn_halt t u refl (head_halt d at h e g)
