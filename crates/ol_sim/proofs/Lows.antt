-- Where 7 does not hold and every declared name is below a number, so is every name that an equation defines.
use Prim.Native.Nat.{ℕ, suc, ◌≤◌, ◌<◌}
use mathlib.Core.Bool.{Bool, true, false, ◌||◌}
use mathlib.Core.List.{List, [], ◌∷◌, ◌++◌, map}
use mathlib.Core.Option.{none}
use mathlib.Core.Path.{◌≡◌, refl, ap, sym, subst, ◌∙◌}
use native.Mathlib.Omega.{arith}
use lib.Dec.{T, eqb, eqb→eq}
use lib.ListN.{length, get_or}
use Rattle.ol_spec.specs.Lists.{member}
use Rattle.ol_spec.specs.Syntax.{Variable, Constant, Equation, File, no_node, name_of, constant_name, variables, variable_names}
use Rattle.ol_spec.specs.Order.{later, definer_from}
use Rattle.ol_spec.specs.Admission.{fault7, constant_names, variants}
use Rattle.ol_spec.proofs.Lists.{All}
use Rattle.ol_spec.proofs.MainFacts.{seen_by, names_seen}
use Rattle.ol_tables.specs.Tables.{Each}
use Rattle.ol_tables.proofs.Forms.{each_join}
use Rattle.ol_check.specs.FileJudged.{NamesWithin}
use Rattle.ol_order.specs.Orders.{LowNames}

module _ (m : ℕ) where
  abbrev Small : ℕ → Type 0
  Small x = x < m

  small_member : (xs : List ℕ) (x : ℕ) → Each Small xs → T (member x xs) → x < m
  small_member [] x h t = absurd t
  small_member (y ∷ xs) x h t = go (eqb x y) refl t (λ u. small_member xs x h.1 u)
    where
      go : (b : Bool) → eqb x y ≡ b → T (b || member x xs) → (T (member x xs) → x < m) → x < m
      go true e u k = subst (λ z. z < m) (sym (eqb→eq x y (subst T (sym e) tt))) h.0
      go false e u k = k u

  variables_small : (vs : List Variable) → Each (λ v. v.name < m) vs → Each Small (map name_of vs)
  variables_small [] h = tt
  variables_small (v ∷ vs) h = (h.0, variables_small vs h.1)

  constants_small : (cs : List Constant) → Each (λ c. c.name < m) cs → Each Small (map constant_name cs)
  constants_small [] h = tt
  constants_small (c ∷ cs) h = (h.0, constants_small cs h.1)

  seen_small : (f : File) → NamesWithin m f → (k : ℕ) → k < length f.nodes → Each Small (seen_by f (get_or f.nodes k no_node))
  seen_small f w k h =
      let n = get_or f.nodes k no_node in
      each_join Small (variable_names n) (constant_names f ++ variants f) (variables_small (variables n) (w.nodes k h))
      (each_join Small (constant_names f) (variants f) (constants_small f.constants w.constants) w.variants)

  -- a name from m on is none of these
  not_member : (seen xs : List ℕ) (x : ℕ) → Each Small seen → All (λ y. T (member y seen)) xs → m ≤ x → member x xs ≡ false
  not_member seen [] x h a g = refl
  not_member seen (y ∷ xs) x h a g = go (eqb x y) refl (not_member seen xs x h a.1 g)
    where
      go : (b : Bool) → eqb x y ≡ b → member x xs ≡ false → (b || member x xs) ≡ false
      go true e k = absurd (omega (arith, small_member seen y h a.0, eqb→eq x y (subst T (sym e) tt)))
      go false e k = k

  no_definer : (seen : List ℕ) (i : ℕ) (qs : List Equation) (x : ℕ) → Each Small seen → All (λ q. All (λ y. T (member y seen)) q.names) qs → m ≤ x → definer_from i qs x ≡ none
  unfolding definer_from
  no_definer seen i [] x h a g = refl
  no_definer seen i (q ∷ qs) x h a g =
      ap (λ o. later o (member x q.names) i) (no_definer seen (suc i) qs x h a.1 g)
      ∙ ap (λ b. later none b i) (not_member seen q.names x h a.0 g)

pub low_names : (m : ℕ) (f : File) → fault7 f ≡ none → NamesWithin m f → (k : ℕ) → k < length f.nodes → LowNames m (get_or f.nodes k no_node).equations
low_names m f no7 w k h x g =
    let n = get_or f.nodes k no_node in
    no_definer m (seen_by f n) 0 n.equations x (seen_small m f w k h) (names_seen f no7 k h) g
