-- The kinds of nodes and their codes.
use Rattle.std.specs.Prelude.{ℕ}
use Rattle.ol_tables.specs.declared.kind.NodeKind.{NodeKind}
use Rattle.ol_tables.specs.declared.kind.NodeKind.TheVariants as Kin

-- the code of a kind
abbrev pub code_of_node_kind : NodeKind → ℕ
code_of_node_kind Kin.Function = 0
code_of_node_kind Kin.Operator = 1
code_of_node_kind Kin.Imported = 2
