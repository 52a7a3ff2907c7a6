use Prim.Native.Nat.{◌-◌}
use mathlib.Core.Path.{◌≡◌}
use lib.ListN.{length}
use Rattle.ol_tables.proofs.Skipping.{Looking}
use Rattle.ol_tables.proofs.heads.next_call.Given as goal

abbrev pub invariant-loop-here : goal.invariant-loop-here
invariant-loop-here l = (l.heads.file.now ≡ l.file) × Looking l.file l.parts l.at l.heads.left l.heads.at

abbrev pub decreases-loop-here : goal.decreases-loop-here
decreases-loop-here l = length l.file - l.heads.at
