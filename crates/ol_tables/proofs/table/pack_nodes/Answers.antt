use Prim.Native.Nat.{◌+◌, ◌*◌, ◌<◌}
use mathlib.Core.Path.{◌≡◌, ap, ◌∙◌}
use native.Mathlib.Omega.{arith}
use lib.ListN.{get_or}
use Rattle.ol_tables.specs.Table.{number_put}
use Rattle.ol_tables.proofs.TableLaws.{packs_turn}
use Rattle.ol_tables.proofs.NumberLaws.{row_entry}
use Rattle.ol_tables.proofs.table.pack_nodes.Goals as goal

pub put_number-requires : goal.put_number-requires
put_number-requires c =
    let j = c.loop-j.j in
    let low : j < 8 = omega (arith, c.loop-j-test.true) in
    let entry = ap (λ l. get_or l j 0) c.numbers-row.ensures ∙ row_entry c.node.ensures j low in
    (omega arith, omega arith, omega (arith, entry, c.requires.2 (c.loop-k.k * 8 + j) (omega arith) (omega arith)))

pub loop-j-preserved : goal.loop-j-preserved
loop-j-preserved c =
    let i = c.loop-k.k * 8 + c.loop-j.j in
    let low : c.loop-j.j < 8 = omega (arith, c.loop-j-test.true) in
    let entry = ap (λ l. get_or l c.loop-j.j 0) c.numbers-row.ensures ∙ row_entry c.node.ensures c.loop-j.j low in
    let next : c.loop-k.k * 8 + (c.loop-j.j + 1) ≡ i + 1 = omega arith in
    rw next (packs_turn c.loop-j.invariant (omega arith) (omega arith) (c.requires.2 i (omega arith) (omega arith)) (omega arith) (c.put_number.ensures ∙ ap (number_put c.loop-j.tab i) entry))
