use mathlib.Core.Path.{◌≡◌}
use native.Mathlib.Omega.{arith}
use Rattle.std.specs.Prelude.{ℕ, ◌-◌, Some, get_or, take, option_map}
use Rattle.std.specs.Borrow.{Bor}
use Rattle.std.proofs.lemmas.Grind.{common_steps}
use Rattle.ol_order.proofs.Definers.{search_told}
use Rattle.ol_order.proofs.equations.Equations.search.Goals as goal

pub returns : goal.returns
returns c =
    let e = c.args.self in
    search_told e.file.now e.limits e.enums e.starts.now e.readable c.args.x c.args.n c.requires c.rposition.result
    (λ n k h. grind (arith, common_steps, n, h))
    (λ i g. (
      grind (arith, common_steps, g),
      grind (arith, common_steps, g),
      λ k a b.
          let u = c.rposition.ensures.runs.0 in
          let from : u.from.rest.now ≡ take c.args.n e.starts.now = grind (arith, common_steps) in
          let back = c.iter.ensures.runs_back u u.seen in
          let here : option_map (λ (y : Bor ℕ). y.now) (u.at (c.args.n - 1 - k)) ≡ Some (get_or e.starts.now k 0) = grind (arith, common_steps, g, a, b, from) in
          grind (arith, common_steps, g, a, b, here),
    ))
