use mathlib.Core.Path.{sym, ap, ◌∙◌}
use mathlib.Core.Bool.{cond}
use native.Mathlib.Omega.{arith}
use Prim.Native.Nat.{◌+◌, ◌*◌}
use borrow.Author.Tests.{lt-ltb, le-ltb}
use Rattle.ol_tables.specs.Tables.{two_at}
use Rattle.ol_frame.proofs.equations.records_at.Goals as goal

pub returns-then-i-n : goal.returns-then-i-n
returns-then-i-n c =
    c.name.ensures.is ∙ sym (ap (λ b. cond b ((two_at c.args.tab.now (c.args.plan + 2 * c.args.n + 2 * c.args.i))) c.args.total) (lt-ltb _ _ c.if-i-n.true))

pub returns-else-i-n : goal.returns-else-i-n
returns-else-i-n c =
    sym (ap (λ b. cond b ((two_at c.args.tab.now (c.args.plan + 2 * c.args.n + 2 * c.args.i))) c.args.total) (le-ltb c.args.i c.args.n (omega (arith, c.if-i-n.false))))
