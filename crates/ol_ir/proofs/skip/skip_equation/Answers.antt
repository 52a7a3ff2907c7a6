use Prim.Native.Nat.{◌+◌, ◌*◌}
use mathlib.Core.Path.{refl, sym, ap, ◌∙◌}
use lib.ListN.{length}
use borrow.Author.Tests.{lt-ltb, le-ltb}
use Rattle.ol_tables.specs.Walks.{skip_at}
use Rattle.ol_ir.specs.Walks.{skip_equation_at}
use Rattle.ol_ir.proofs.skip.skip_equation.Goals as goal

pub returns-then-at-file : goal.returns-then-at-file
unfolding skip_equation_at
returns-then-at-file c =
    c.skip.ensures ∙ ap (λ n. skip_at c.args.file.now 1 (c.args.at + 1 + 2 * n)) c.from-n.ensures ∙ sym (rw (lt-ltb c.args.at (length c.args.file.now) c.if-at-file.true) refl)

pub returns-else-at-file : goal.returns-else-at-file
unfolding skip_equation_at
returns-else-at-file c = sym (rw (le-ltb c.args.at (length c.args.file.now) c.if-at-file.false) refl)
