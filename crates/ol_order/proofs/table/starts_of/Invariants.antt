use Prim.Native.Nat.{ℕ, ◌+◌, ◌*◌, ◌<◌}
use mathlib.Core.Path.{◌≡◌}
use lib.ListN.{get_or}
use Rattle.ol_tables.specs.Tables.{two_at}
use Rattle.ol_order.proofs.table.starts_of.Given as goal

abbrev pub invariant-loop-i : goal.invariant-loop-i
invariant-loop-i l = (j : ℕ) → j < l.i → get_or l.starts j 0 ≡ two_at l.tab (l.plan + 2 * j)
