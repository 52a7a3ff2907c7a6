-- The records at the heads of expressions are those of the callees.
use Prim.Native.Nat.{ℕ, ◌+◌}
use mathlib.Core.List.{List, [], ◌∷◌, ◌++◌, map}
use mathlib.Core.Path.{◌≡◌, refl, sym, ap, ◌∙◌}
use native.Mathlib.Omega.{arith}
use Rattle.ol_spec.specs.Lists.{sum}
use Rattle.ol_spec.specs.Syntax.{Exprs}
use Rattle.ol_spec.specs.Places.{collect_all}
use Rattle.ol_spec.specs.Eval.{callees_all}
use Rattle.ol_tables.specs.Heads.{parts_of, head_size, joined}
use Rattle.ol_tables.specs.Parts.{own_sites}
use Rattle.ol_tables.proofs.HeadLaws.{walk_head}
use Rattle.ol_tables.proofs.Skipping.{own_told, callees_on}
use Rattle.ol_check.specs.Judging.{head_at, heads}
use Rattle.ol_check.specs.Records.{site_b, callee_b}
use Rattle.ol_check.proofs.HeadLaws.{Flat, ended, head_and}

pub sum_append : (g : ℕ → ℕ) (xs ys : List ℕ) → sum (map g (xs ++ ys)) ≡ sum (map g xs) + sum (map g ys)
sum_append g [] ys = omega arith
sum_append g (x ∷ xs) ys = omega (arith, sum_append g xs ys)

module _ (s rows : List ℕ) (nodes : ℕ) where
  -- the records at the heads are those of the callees
  pub sites_callees : {at : ℕ} {es : Exprs} → Flat s at es → sum (map (site_b s rows nodes) (heads at es)) ≡ sum (map (callee_b rows nodes) (callees_all es))
  unfolding collect_all
  sites_callees ended = refl
  sites_callees (head_and {at} {e} {es} w h r) =
      let rest = joined (parts_of e) es in
      let g = callee_b rows nodes in
      ap (λ l. sum (map (site_b s rows nodes) l)) (walk_head head_at at e es)
      ∙ ap (λ l. sum (map g l) + sum (map (site_b s rows nodes) (heads (at + head_size e) rest))) (own_told s at e h)
      ∙ ap (λ n. sum (map g (own_sites e)) + n) (sites_callees r)
      ∙ sym (ap (λ l. sum (map g l)) (callees_on e es) ∙ sum_append g (own_sites e) (callees_all rest))
