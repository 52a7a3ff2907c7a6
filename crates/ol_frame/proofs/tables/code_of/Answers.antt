use mathlib.Core.Path.{◌≡◌, ap, ◌∙◌}
use Prim.Native.Nat.{◌+◌, ◌*◌, ◌%◌}
use lib.ListN.{get_or}
use native.Mathlib.Omega.{arith}
use Rattle.std.proofs.lemmas.Grind.{common_steps}
use Rattle.ol_tables.proofs.TableLaws.{code_is}
use Rattle.ol_frame.proofs.tables.code_of.Goals as goal

pub returns : goal.returns
returns c =
    let t = c.args.tab.now in
    let is : c.unwrap_or.result ≡ get_or t (c.types_at.result + 2 * c.args.i) 0 = grind (arith, common_steps) in
    ap (λ b. b % 16) is ∙ code_is t c.args.k c.args.i (ap (λ p. p + 2 * c.args.i) c.types_at.ensures.0)
