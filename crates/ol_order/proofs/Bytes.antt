-- An equation's place in its node's sequence fits a byte.
use Prim.Native.Nat.{ℕ, zero, suc, ◌+◌, ◌≤◌, ◌<◌}
use mathlib.Core.Bool.{Bool, true, false, true≢false}
use mathlib.Core.List.{List, [], ◌∷◌, map}
use mathlib.Core.Path.{refl, sym}
use native.Mathlib.Omega.{arith}
use lib.ListN.{length}
use Rattle.std.specs.List.{All}
use Rattle.std.proofs.lemmas.List.Elements.{All-nil, All-cons, All-append}
use Rattle.ol_spec.specs.Syntax.{Equation}
use Rattle.ol_spec.specs.Order.{place, pass, passes, order}
use Rattle.ol_spec.specs.Places.{placed_nodes}
use Rattle.ol_tables.specs.Tables.{node_of}
use Rattle.ol_ir.specs.Walks.{place_of}
use Rattle.ol_order.specs.Orders.{NodesStand, PlacesAreBytes}
use Rattle.ol_order.proofs.Rows.{as_many, few_here}

module _ (qs : List Equation) where
  -- indices of these equations
  abbrev Inside : List ℕ → Type 0
  Inside l = All (λ i. i < length qs) l

  place_inside : (b : Bool) (i : ℕ) (l : List ℕ) → i < length qs → Inside l → Inside (place qs b i l)
  place_inside true i l h a = All-append (λ i. i < length qs) l (i ∷ []) a (All-cons (λ i. i < length qs) i [] h (All-nil (λ i. i < length qs)))
  place_inside false i l h a = a

  pass_inside : (i : ℕ) (rs : List Equation) (l : List ℕ) → i + length rs ≤ length qs → Inside l → Inside (pass qs i rs l)
  unfolding pass
  pass_inside i [] l h a = a
  pass_inside i (r ∷ rs) l h a = pass_inside (suc i) rs _ (omega arith) (place_inside _ i l (omega arith) a)

  passes_inside : (n : ℕ) (l : List ℕ) → Inside l → Inside (passes qs n l)
  unfolding passes
  passes_inside zero l a = a
  passes_inside (suc n) l a = passes_inside n _ (pass_inside 0 qs l (omega arith) a)

  order_inside : Inside (order qs)
  unfolding order
  order_inside = passes_inside (length qs) [] (All-nil (λ i. i < length qs))

pub places_are_bytes : PlacesAreBytes
places_are_bytes s f end is k h =
    let ns : NodesStand s (length f.enums) (map place_of (placed_nodes f)) false = record { file = f; end = end; is = is; counted = refl; placed = refl; lows = λ e. absurd (true≢false (sym e)) } in
    record { inside = order_inside (node_of f k).equations; within = few_here ns k (omega (arith, as_many ns)); few = omega arith }
