use mathlib.Core.Path.{◌≡◌, sym, ◌∙◌}
use native.Mathlib.Omega.{arith}
use lib.ListN.{length}
use Rattle.ol_spec.specs.Order.{unplaced}
use Rattle.ol_order.proofs.Waiting.{same_many}
use Rattle.ol_order.proofs.Answers.{state_start, placed_first, found_error, found_no_error, sorts_made}
use Rattle.ol_order.proofs.place.Goals as goal

pub passes-requires : goal.passes-requires
passes-requires c =
    record { equations = c.requires.equations; waits = c.requires.waits; few = omega (arith, c.requires.few); state = state_start c.requires.equations (length c.args.order.now) c.args.order.now (sym c.requires.room) (omega (arith, c.requires.room, c.requires.few)) c.requires.room }

pub returns-in-Some : goal.returns-in-Some
returns-in-Some c = λ qs w.
    let long : length c.args.order.now ≡ length qs = c.requires.room ∙ same_many c.requires.waits w in
    let start = state_start qs (length c.args.order.now) c.args.order.now (sym long) (omega (arith, c.requires.room, c.requires.few)) long in
    let st = c.passes.ensures.placed qs w start in
    sorts_made st long (c.passes.ensures.behind qs w start) (found_error (unplaced qs) (c.in-Some.ensures ∙ placed_first st))

pub returns-in-None : goal.returns-in-None
returns-in-None c = λ qs w.
    let long : length c.args.order.now ≡ length qs = c.requires.room ∙ same_many c.requires.waits w in
    let start = state_start qs (length c.args.order.now) c.args.order.now (sym long) (omega (arith, c.requires.room, c.requires.few)) long in
    let st = c.passes.ensures.placed qs w start in
    sorts_made st long (c.passes.ensures.behind qs w start) (found_no_error (unplaced qs) (c.in-None.ensures ∙ placed_first st))
