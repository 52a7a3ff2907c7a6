use mathlib.Core.Path.{refl, ◌∙◌}
use lib.Dec.{eqb}
use borrow.Author.Tests.{tests}
use Rattle.std.proofs.Common.{rules}
use Rattle.std.proofs.lemmas.Iterator.Consumers.{YieldsList-from_first}
use Rattle.std.proofs.lemmas.Iterator.Search.{any_from_yields_List}
use Rattle.ol_order.specs.Names.{names_of}
use Rattle.ol_order.proofs.Definers.{any_is}
use Rattle.ol_order.proofs.equations.among.Goals as goal

pub returns : goal.returns
returns c =
    any_from_yields_List (eqb c.args.x) c.any.new.self _ _ c.any.ensures.ran (YieldsList-from_first (λ y. y) names_of (names_of c.args.names) refl) (λ y b q k. search (rules, tests))
    ∙ any_is (eqb c.args.x) (names_of c.args.names)
