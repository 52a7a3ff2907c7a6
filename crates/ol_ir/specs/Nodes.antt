-- A node in two steps: what stands in front of its equations, and the section of its equations.
use Rattle.std.specs.Prelude.{ℕ, List, []}
use Rattle.ol_spec.specs.Syntax.{Node}
use Rattle.ol_spec.specs.Read.{Reader, then_read, ◌>>=◌, give, coded, node_kinds, count_r, section_r, variable_r}
use Rattle.ol_spec.specs.declared.Limits.{Limits}

module _ (s : List ℕ) (l : Limits) (enums : ℕ) where
  -- a node's kind, inputs, outputs and locals: the node with no equations
  abbrev pub interface_r : Reader Node
  interface_r = do
    k ← coded s node_kinds
    is ← section_r s 0 l.inputs (variable_r s l enums)
    os ← section_r s 1 l.outputs (variable_r s l enums)
    ls ← section_r s 0 l.locals (variable_r s l enums)
    give (record { kind = k; inputs = is; outputs = os; locals = ls; equations = [] })

  -- a node up to the first of its equations: how many there are
  unfoldable pub equations_r : Reader ℕ
  equations_r at = then_read (interface_r at) (λ n. count_r s 0 l.equations)
