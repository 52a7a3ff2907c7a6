use native.Mathlib.Omega.{arith}
use Rattle.ol_check.proofs.RowLoops.{types_near, node_stored_lem}
use Rattle.ol_check.proofs.rows.node_row.Goals as goal

pub overflow_add-o : goal.overflow_add-o
overflow_add-o c =
    omega (arith, c.requires.0, c.requires.1, types_near c.variable_types-o.ensures, c.byte-inputs.ensures.small)

pub variable_types-l-requires : goal.variable_types-l-requires
variable_types-l-requires c =
    (omega (arith, c.requires.1, c.requires.2, c.byte-inputs.ensures.small), c.byte-outputs.ensures.small, omega (arith, c.requires.1, types_near c.variable_types-o.ensures, c.byte-inputs.ensures.small))

pub overflow_add-l : goal.overflow_add-l
overflow_add-l c =
    omega (arith, c.requires.0, c.requires.1, types_near c.variable_types-o.ensures, c.byte-inputs.ensures.small, types_near c.variable_types-l.ensures, c.byte-outputs.ensures.small)

pub variable_types-q-requires : goal.variable_types-q-requires
variable_types-q-requires c =
    (omega (arith, c.requires.1, c.requires.2, c.byte-inputs.ensures.small, c.byte-outputs.ensures.small), c.byte-locals.ensures.small, omega (arith, c.requires.1, types_near c.variable_types-o.ensures, c.byte-inputs.ensures.small, types_near c.variable_types-l.ensures, c.byte-outputs.ensures.small))

pub overflow_add-row : goal.overflow_add-row
overflow_add-row c =
    omega (arith, c.requires.0, c.requires.1, types_near c.variable_types-o.ensures, c.byte-inputs.ensures.small, types_near c.variable_types-l.ensures, c.byte-outputs.ensures.small, types_near c.variable_types-q.ensures, c.byte-locals.ensures.small)

pub returns : goal.returns
returns c = node_stored_lem c.byte-inputs.ensures.is c.variable_types-o.ensures c.byte-outputs.ensures.is c.variable_types-l.ensures c.byte-locals.ensures.is c.variable_types-q.ensures c.put_counts.ensures c.byte-2.ensures.is c.byte.ensures.is c.put_node.ensures
