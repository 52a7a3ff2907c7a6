-- How many equations a node of a file has.
use Rattle.std.specs.Prelude.{ℕ, length}
use Rattle.std.proofs.Math.Option.{Option, none, some}
use Rattle.std.proofs.Math.ListN.{get_elem?}
use Rattle.ol_spec.specs.Syntax.{Node, File}
use Rattle.ol_spec.specs.Places.{placed_nodes}
use Rattle.ol_spec.specs.Read.{Read, got, fault}

-- the node's; 0 where there is no node
abbrev pub equations_in : Option (ℕ × Node) → ℕ
equations_in none = 0
equations_in (some n) = length n.1.equations

-- those of node k of a file that was read; 0 where it was not
abbrev pub equations_of : Read File → ℕ → ℕ
equations_of (got f at) k = equations_in (get_elem? (placed_nodes f) k)
equations_of (fault n p) k = 0
