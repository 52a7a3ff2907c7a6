use Prim.Native.Nat.{◌+◌, ◌*◌}
use mathlib.Core.Path.{refl, ◌∙◌}
use native.Mathlib.Omega.{arith}
use lib.Dec.{eqb}
use borrow.Author.Tests.{tests}
use Rattle.std.proofs.Common.{rules}
use Rattle.std.proofs.lemmas.Iterator.{YieldsList-from_range}
use Rattle.std.proofs.lemmas.Iterator.Search.{any_from_yields_List}
use Rattle.ol_tables.specs.Heads.{name_at}
use Rattle.ol_state.proofs.Enums.{look_start, look_length, looked}
use Rattle.ol_state.proofs.inputs.has_variant.Goals as goal

pub returns : goal.returns
returns c =
    let n = c.byte-n.result in
    let s = c.args.file.now in
    λ vs h t.
    any_from_yields_List (λ j. eqb c.args.v (name_at s (c.args.at + 1 + 2 * j))) c.any.new.self _ _ c.any.ensures.ran (YieldsList-from_range 0 n n refl (omega arith)) (λ y b q k. search (rules, tests))
    ∙ looked c.args.v vs n 0 (omega (arith, c.byte-n.ensures.is, look_length c.args.v vs h)) (look_start c.args.v vs h t)
