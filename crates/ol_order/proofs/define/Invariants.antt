use mathlib.Core.Path.{◌≡◌}
use mathlib.Core.List.{map}
use Rattle.ol_order.specs.Tables.{key_of, put}
use Rattle.ol_order.specs.Names.{names_of}
use Rattle.ol_order.proofs.define.Given as goal

abbrev pub invariant-loop-x : goal.invariant-loop-x
invariant-loop-x g l = put (map (key_of g.row.N) (names_of l.x-iterator)) l.index l.definers ≡ put (map (key_of g.row.N) (names_of l.fn.names)) l.index l.initial.definers
