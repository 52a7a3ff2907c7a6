use Prim.Native.Nat.{ℕ, ◌+◌, ◌*◌, ◌<◌}
use mathlib.Core.Path.{◌≡◌}
use lib.ListN.{get_or}
use Rattle.ol_tables.specs.Numbers.{numbers}
use Rattle.ol_tables.proofs.tables.FileRows.of.Given as goal

abbrev pub invariant-loop-k : goal.invariant-loop-k
invariant-loop-k l = (i : ℕ) → i < l.k * 8 → get_or (numbers l.rows) i 0 ≡ get_or l.list i 0

abbrev pub invariant-loop-e : goal.invariant-loop-e
invariant-loop-e l = (i : ℕ) → i < 256 + l.e → get_or (numbers l.rows) i 0 ≡ get_or l.list i 0
