use Prim.Native.Nat.{◌≤◌}
use lib.ListN.{length}
use mathlib.Core.Path.{◌≡◌, sym, ◌∙◌}
use native.Mathlib.Omega.{arith}
use lib.Seq.{length-take-le, ext_get_or}
use Rattle.ol_order.proofs.Answers.{all_well, sorts_well}
use Rattle.ol_order.proofs.Turns.{as_many}
use Rattle.ol_order.proofs.Rows.{copied_front, equations_done}
use Rattle.ol_order.proofs.table.order_starts.Goals as goal

pub returns-clause-order : goal.returns-clause-order
returns-clause-order g c =
    let e = c.args.equations in
    let so = sorts_well e.starts.now c.args.out.now c.sort.ensures.order (all_well c.map_err.ensures.variant c.in_ok-map_err.was) in
    let many = as_many e.file.now e.limits e.enums e.starts.now in
    let room : length c.sort.new.order ≤ length c.args.out.now = omega (arith, so.long, many, e.readable.few, c.requires.out_len) in
    let inside : length e.starts.now ≤ length c.args.out.now = omega (arith, e.readable.few, c.requires.out_len) in
    let same : length c.loop-i.front ≡ length c.sort.new.order = c.loop-i.auto.front ∙ (length-take-le (length e.starts.now) c.args.out.now inside ∙ sym (so.long ∙ many)) in
    let copied = ext_get_or 0 c.loop-i.front c.sort.new.order same (λ j h. c.loop-i.invariant j (omega (arith, same))) in
    equations_done e.starts.now c.args.out.now so room (copied_front c.args.out.now copied (sym (so.long ∙ many)) room)
