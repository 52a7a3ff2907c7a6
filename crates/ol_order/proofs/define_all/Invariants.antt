use mathlib.Core.Path.{◌≡◌}
use lib.ListN.{drop}
use Rattle.ol_order.specs.Tables.{put_starts}
use Rattle.ol_order.proofs.define_all.Given as goal

abbrev pub invariant-loop-i : goal.invariant-loop-i
invariant-loop-i g l = put_starts g.row.N l.file l.most l.i (drop l.i l.starts) l.definers ≡ put_starts g.row.N l.file l.most 0 l.starts l.initial.definers
