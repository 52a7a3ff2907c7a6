use Rattle.ol_tables.specs.Tables.{two_put}
use mathlib.Core.Path.{sym, ap, ◌∙◌}
use lib.ListN.{set}
use lib.Seq.{set_out}
use native.Mathlib.Omega.{arith}
use Prim.Native.Nat.{◌+◌, ◌/◌, ◌%◌}
use Rattle.ol_tables.proofs.bytes.put_two.Goals as goal

pub returns-then-p-tab : goal.returns-then-p-tab
unfolding two_put
returns-then-p-tab c =
    c.put-then-p-tab.ensures ∙ ap (λ l. set l (c.args.p + 1) (c.args.n % 256)) c.put.ensures

pub returns-else-p-tab : goal.returns-else-p-tab
unfolding two_put
returns-else-p-tab c =
    let t = c.args.tab.now in
    let first = set_out t c.args.p (c.args.n / 256 % 256) c.if-p-tab.false in
    sym (ap (λ l. set l (c.args.p + 1) (c.args.n % 256)) first ∙ set_out t (c.args.p + 1) (c.args.n % 256) (omega (arith, c.if-p-tab.false)))
