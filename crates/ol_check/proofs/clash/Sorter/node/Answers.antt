use Prim.Native.Nat.{◌+◌}
use native.Mathlib.Omega.{arith}
use Rattle.ol_check.proofs.Standing.{stands}
use Rattle.ol_check.proofs.SpanLaws.{variables_near}
use Rattle.ol_check.proofs.ClashFile.{place_in_lem, node_walks}
use Rattle.ol_check.proofs.clash.Sorter.node.Goals as goal

pub overflow_add-at : goal.overflow_add-at
overflow_add-at c =
    let f = c.args.file.now in
    let here = place_in_lem c.requires (stands c.type_inv.file c.requires.reads) c.node.ensures.place in
    omega (arith, here, (stands c.type_inv.file c.requires.reads).short)

pub overflow_add-at-2 : goal.overflow_add-at-2
overflow_add-at-2 c =
    let f = c.args.file.now in
    let here = place_in_lem c.requires (stands c.type_inv.file c.requires.reads) c.node.ensures.place in
    omega (arith, here, (stands c.type_inv.file c.requires.reads).short)

pub variables-o-requires : goal.variables-o-requires
variables-o-requires c =
    let f = c.args.file.now in
    let here = place_in_lem c.requires (stands c.type_inv.file c.requires.reads) c.node.ensures.place in
    (omega arith, (omega (arith, c.requires.low, c.requires.few)), c.byte-inputs.ensures.small, omega (arith, here, (stands c.type_inv.file c.requires.reads).short))

pub overflow_add-o : goal.overflow_add-o
overflow_add-o c =
    let f = c.args.file.now in
    let here = place_in_lem c.requires (stands c.type_inv.file c.requires.reads) c.node.ensures.place in
    let first = variables_near f c.byte-inputs.result (c.node.result.now.place + 2) in
    (omega (arith, here, (stands c.type_inv.file c.requires.reads).short, first, c.variables-o.ensures.ends, c.byte-inputs.ensures.small))

pub variables-l-requires : goal.variables-l-requires
variables-l-requires c =
    let f = c.args.file.now in
    let here = place_in_lem c.requires (stands c.type_inv.file c.requires.reads) c.node.ensures.place in
    let first = variables_near f c.byte-inputs.result (c.node.result.now.place + 2) in
    (omega arith, (omega (arith, c.requires.low, c.requires.few)), c.byte-outputs.ensures.small, (omega (arith, here, (stands c.type_inv.file c.requires.reads).short, first, c.variables-o.ensures.ends, c.byte-inputs.ensures.small)))

pub overflow_add-l : goal.overflow_add-l
overflow_add-l c =
    let f = c.args.file.now in
    let here = place_in_lem c.requires (stands c.type_inv.file c.requires.reads) c.node.ensures.place in
    let first = variables_near f c.byte-inputs.result (c.node.result.now.place + 2) in
    let second = variables_near f c.byte-outputs.result (c.variables-o.result + 1) in
    (omega (arith, here, (stands c.type_inv.file c.requires.reads).short, first, second, c.variables-o.ensures.ends, c.byte-inputs.ensures.small, c.variables-l.ensures.ends, c.byte-outputs.ensures.small))

pub variables-requires : goal.variables-requires
variables-requires c =
    let f = c.args.file.now in
    let here = place_in_lem c.requires (stands c.type_inv.file c.requires.reads) c.node.ensures.place in
    let first = variables_near f c.byte-inputs.result (c.node.result.now.place + 2) in
    let second = variables_near f c.byte-outputs.result (c.variables-o.result + 1) in
    (omega arith, (omega (arith, c.requires.low, c.requires.few)), c.byte-locals.ensures.small, (omega (arith, here, (stands c.type_inv.file c.requires.reads).short, first, second, c.variables-o.ensures.ends, c.byte-inputs.ensures.small, c.variables-l.ensures.ends, c.byte-outputs.ensures.small)))

pub returns : goal.returns
returns c =
    let f = c.args.file.now in
    node_walks c.requires (stands c.type_inv.file c.requires.reads) c.node.ensures.place c.byte-inputs.ensures c.variables-o.ensures c.byte-outputs.ensures c.variables-l.ensures c.byte-locals.ensures c.variables.ensures
