use mathlib.Core.Path.{◌≡◌, ap, ◌∙◌}
use Prim.Native.Nat.{◌+◌, ◌*◌}
use lib.ListN.{get_or}
use native.Mathlib.Omega.{arith}
use Rattle.std.proofs.lemmas.Grind.{common_steps}
use Rattle.ol_tables.proofs.TableLaws.{length_is}
use Rattle.ol_frame.proofs.tables.length_of.Goals as goal

pub returns : goal.returns
returns c =
    let t = c.args.tab.now in
    let is : c.unwrap_or.result ≡ get_or t (c.types_at.result + 2 * c.args.i + 1) 0 = grind (arith, common_steps) in
    (c.from.ensures ∙ is ∙ length_is t c.args.k c.args.i (ap (λ p. p + 2 * c.args.i + 1) c.types_at.ensures.0), omega arith)
