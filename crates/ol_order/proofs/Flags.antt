-- The flags of the placed equations, and the list of those placed.
use Prim.Native.Nat.{ℕ, zero, suc, ◌+◌, ◌<◌}
use mathlib.Core.Bool.{Bool, true, false, true≢false, not, ◌||◌}
use mathlib.Core.List.{List, [], ◌∷◌, ◌++◌}
use mathlib.Core.Path.{◌≡◌, refl, sym, ap, subst, ◌∙◌}
use native.Mathlib.Numerals.{add-one}
use native.Mathlib.Omega.{arith}
use lib.ListN.{length, get_or, set, length-set}
use lib.Seq.{get_or-set_same, get_or-set_other, take-suc-set}
use lib.Dec.{eqb}
use borrow.Author.Tests.{eqb-true, eqb-false}
use Rattle.std.specs.List.{position_or_len}
use Rattle.ol_spec.specs.Lists.{member}
use Rattle.ol_spec.specs.Syntax.{Equation}
use Rattle.ol_order.specs.Tables.{waiting}
use Rattle.ol_order.specs.Post.{State}

-- ---- membership

or_true : (b : Bool) → (b || true) ≡ true
or_true true = refl
or_true false = refl

or_false : (b : Bool) → (b || false) ≡ b
or_false true = refl
or_false false = refl

member_last : (j k : ℕ) (l : List ℕ) → member j (l ++ k ∷ []) ≡ (member j l || eqb j k)
member_last j k [] = or_false (eqb j k)
member_last j k (x ∷ l) = ap (λ b. eqb j x || b) (member_last j k l) ∙ or_assoc (eqb j x) (member j l) (eqb j k)
  where
    or_assoc : (a b c : Bool) → (a || (b || c)) ≡ ((a || b) || c)
    or_assoc true b c = refl
    or_assoc false b c = refl

-- ---- how many are not placed

pub waiting_set : (l : List Bool) (k : ℕ) → k < length l → get_or l k false ≡ false → waiting (set l k true) + 1 ≡ waiting l
unfolding waiting
waiting_set [] zero h e = absurd (omega arith)
waiting_set [] (suc k) h e = absurd (omega arith)
waiting_set (false ∷ l) zero h e = omega arith
waiting_set (true ∷ l) zero h e = absurd (true≢false e)
waiting_set (false ∷ l) (suc k) h e = omega (arith, waiting_set l k (omega arith) e)
waiting_set (true ∷ l) (suc k) h e = waiting_set l k (omega arith) e

module _ {qs : List Equation} {list : List ℕ} {placed : List Bool} {order : List ℕ} {n : ℕ} (st : State qs list placed order n) where
  -- the flag tells
  pub flag_is : (k : ℕ) → k < length placed → {b : Bool} → get_or placed k false ≡ b → member k list ≡ b
  flag_is k h e = sym (st.flags k h) ∙ e

  -- there is room for one that is not placed
  pub room_for : (k : ℕ) → k < length placed → get_or placed k false ≡ false → n < length order
  room_for k h e = omega (arith, waiting_set placed k h e, st.left, st.room)

  -- equation k is placed
  pub place_state : (k : ℕ) → k < length placed → get_or placed k false ≡ false → State qs (list ++ k ∷ []) (set placed k true) (set order n k) (n + 1)
  place_state k h e =
      record {
        front = rw add-one (take-suc-set order n k (room_for k h e) ∙ ap (λ l. l ++ k ∷ []) st.front);
        flags = λ j i. (go j (omega (arith, length-set placed k true)) (eqb j k) refl ∙ sym (member_last j k list));
        flagged = length-set placed k true ∙ st.flagged;
        room = length-set order n k ∙ st.room;
        left = omega (arith, waiting_set placed k h e, st.left);
      }
    where
      go : (j : ℕ) → j < length placed → (b : Bool) → eqb j k ≡ b → get_or (set placed k true) j false ≡ (member j list || eqb j k)
      go j i true f = let p : j ≡ k = eqb-true j k f in rw f (subst (λ m. get_or (set placed k true) m false ≡ true) (sym p) (get_or-set_same placed k true false h) ∙ sym (or_true (member j list)))
      go j i false f = rw f (get_or-set_other placed k j true false (eqb-false j k f) ∙ (st.flags j i ∙ sym (or_false (member j list))))

-- ---- the first that is not placed

-- where the code finds it
abbrev pub first_waiting : List Bool → ℕ
first_waiting placed = position_or_len not placed
