use Prim.Native.Nat.{◌-◌}
use mathlib.Core.Path.{◌≡◌}
use lib.ListN.{length}
use Rattle.ol_tables.specs.Walks.{skip_at}
use Rattle.ol_tables.proofs.heads.skip.Given as goal

-- what is left ends where all end
abbrev pub invariant-loop : goal.invariant-loop
invariant-loop l = (l.heads.file.now ≡ l.file) × (skip_at l.file l.heads.left l.heads.at ≡ skip_at l.file l.parts l.at)

abbrev pub decreases-loop : goal.decreases-loop
decreases-loop l = length l.file - l.heads.at
