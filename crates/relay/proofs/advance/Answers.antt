use mathlib.Core.Path.{sym, ◌∙◌}
use Rattle.relay.proofs.Lines.{over_part, turned_waits, turned_answered}
use Rattle.relay.proofs.advance.Goals as goal

pub returns-then-is_waiting : goal.returns-then-is_waiting
returns-then-is_waiting c =
    turned_waits c.args.t c.args.i c.take_line-taken.result c.args.line.now c.args.input.now c.take_line-taken.new.line c.args.session.now c.take_line-taken.ensures (sym c.is_waiting.ensures ∙ c.if-is_waiting.true)

pub returns : goal.returns
returns c =
    turned_answered c.args.t c.args.i c.take_line-taken.result c.args.line.now c.args.input.now c.take_line-taken.new.line c.args.session.now _ c.respond-written.result.length c.next.result c.is_last.result c.take_line-taken.ensures c.respond-written.ensures
    (sym c.is_waiting.ensures ∙ c.if-is_waiting.false) c.next.ensures (over_part c.take_line-taken.result.is_end c.respond-written.result.is_taken c.is_last.result c.is_last.ensures)
