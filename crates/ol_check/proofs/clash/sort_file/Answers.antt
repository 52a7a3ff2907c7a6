use Rattle.std.proofs.Common.{rules}
use native.Mathlib.Omega.{arith}
use Rattle.ol_check.proofs.Standing.{stands}
use Rattle.ol_check.proofs.ClashFile.{nodes_ready, enums_few, constants_at, file_sorted, marks_are}
use Rattle.ol_check.proofs.clash.sort_file.Goals as goal

pub enums-requires : goal.enums-requires
enums-requires c =
    let f = c.args.file.now in
    (enums_few c.requires (stands c.type_inv.file c.requires.reads) c.byte.ensures, omega arith)

pub constants-requires : goal.constants-requires
constants-requires c =
    let f = c.args.file.now in
    constants_at c.requires (stands c.type_inv.file c.requires.reads) c.byte-2.ensures

pub nodes-requires : goal.nodes-requires
nodes-requires c =
    let f = c.args.file.now in
    nodes_ready c.requires (stands c.type_inv.file c.requires.reads) c.byte-3.ensures

pub returns : goal.returns
returns c =
    let f = c.args.file.now in
    file_sorted c.requires (stands c.type_inv.file c.requires.reads) c.byte.ensures c.enums.ensures c.constants.ensures c.nodes.ensures (marks_are c.default.ensures.0 c.default.ensures.1.0 c.default.ensures.1.1) (search rules)
