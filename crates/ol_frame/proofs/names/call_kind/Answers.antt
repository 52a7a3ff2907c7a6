use mathlib.Core.Path.{sym, ◌∙◌}
use native.Mathlib.Omega.{arith}
use Rattle.ol_frame.specs.Outcomes.{kind_of}
use Rattle.ol_frame.proofs.RealKinds.{call_kind, call_array, input_below}
use Rattle.ol_frame.proofs.Tabling.{rows_room}
use Rattle.ol_frame.proofs.names.call_kind.Goals as goal

pub row-i-requires : goal.row-i-requires
row-i-requires c =
    let p = c.requires.0 in
    (rows_room c.args.tab.now _ p.table.long, omega (arith, c.requires.1, p.sized.few), omega arith)

pub length_of-requires : goal.length_of-requires
length_of-requires c =
    let p = c.requires.0 in
    (omega (arith, p.table.long), omega (arith, c.requires.1, p.sized.few), input_below c.args.k p c.requires.1 c.row-i.result c.row-i.ensures)

pub code_of-requires : goal.code_of-requires
code_of-requires c =
    let p = c.requires.0 in
    (omega (arith, p.table.long), omega (arith, c.requires.1, p.sized.few), input_below c.args.k p c.requires.1 c.row-i.result c.row-i.ensures)

pub returns-then-length_of-eq0 : goal.returns-then-length_of-eq0
returns-then-length_of-eq0 c =
    call_kind c.args.k c.requires.0 c.requires.1 c.row-i.result c.row-i.ensures (kind_of c.kind_of_type.result) c.code_of.result (sym c.length_of.ensures.0 ∙ c.if-length_of-eq0.true) c.code_of.ensures c.kind_of_type.ensures

pub returns-else-length_of-eq0 : goal.returns-else-length_of-eq0
returns-else-length_of-eq0 c = call_array c.args.k c.requires.0 c.requires.1 c.row-i.result c.row-i.ensures (λ e. c.if-length_of-eq0.false (c.length_of.ensures.0 ∙ e))
