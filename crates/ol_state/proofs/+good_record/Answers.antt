use mathlib.Core.Path.{refl, sym, ap, ◌∙◌}
use native.Mathlib.Omega.{arith}
use borrow.Author.Tests.{eqb-true, eqb-false}
use lib.ListN.{length}
use Rattle.ol_state.proofs.Instances.{few_nodes_lem, cells_counted, own_room, is_operator_lem, part_room, part_sited}
use Rattle.ol_state.proofs.Records.{none_judged, own_bad, judging_start, turn_of, judging_on, judging_stop, judging_done, judging_full}
use Rattle.ol_state.proofs.+good_record.Goals as goal

pub returns-then-not-is : goal.returns-then-not-is
returns-then-not-is t c =
    none_judged c.requires.0 (λ e. eqb-false _ 1 (sym c.is.ensures ∙ c.if-not-is.true) (c.column.ensures ∙ e))

pub good_own-requires : goal.good_own-requires
good_own-requires t c =
    let h = c.requires.0 in
    let few = few_nodes_lem h.known h.below in
    let one = sym c.column.ensures ∙ eqb-true _ 1 (sym c.is.ensures ∙ c.if-not-is.false) in
    let own = own_room h.known h.below (is_operator_lem h.known h.below one) in
    (omega (arith, few), cells_counted h.known h.below, omega (arith, own, h.sized))

pub returns-then-not-good_own : goal.returns-then-not-good_own
returns-then-not-good_own t c =
    let h = c.requires.0 in
    let one = sym c.column.ensures ∙ eqb-true _ 1 (sym c.is.ensures ∙ c.if-not-is.false) in
    own_bad h one (sym c.if-not-good_own.true ∙ c.good_own.ensures _ c.requires.1.tells)

pub overflow_mul-used : goal.overflow_mul-used
overflow_mul-used t c =
    let h = c.requires.0 in
    let one = sym c.column.ensures ∙ eqb-true _ 1 (sym c.is.ensures ∙ c.if-not-is.false) in
    let own = own_room h.known h.below (is_operator_lem h.known h.below one) in
    omega (arith, own, c.cells_of.ensures.0, cells_counted h.known h.below, h.sized, h.small)

pub overflow_add-used : goal.overflow_add-used
overflow_add-used t c =
    let h = c.requires.0 in
    let one = sym c.column.ensures ∙ eqb-true _ 1 (sym c.is.ensures ∙ c.if-not-is.false) in
    let own = own_room h.known h.below (is_operator_lem h.known h.below one) in
    omega (arith, own, c.cells_of.ensures.0, cells_counted h.known h.below, h.sized, h.small)

pub loop-used-init : goal.loop-used-init
loop-used-init t c =
    let one = sym c.column.ensures ∙ eqb-true _ 1 (sym c.is.ensures ∙ c.if-not-is.false) in
    judging_start c.requires.0 one (sym c.if-not-good_own.false ∙ c.good_own.ensures _ c.requires.1.tells) (c.cells_of.ensures.0 ∙ cells_counted c.requires.0.known c.requires.0.below) c.call_sites-sites.ensures

pub returns-in_default : goal.returns-in_default
returns-in_default t c =
    judging_done c.requires.0 c.loop-used.invariant c.in_default.ensures.steps.0

pub overflow_add-end : goal.overflow_add-end
overflow_add-end t c =
    let h = c.requires.0 in
    let u = turn_of h c.loop-used.invariant c.in-Some.ensures.steps in
    let room = part_room h.known h.below u h.small c.column-in-loop-used.ensures c.args.r.now refl in
    omega (arith, room, h.small)

pub slice_bounds-good_record-end : goal.slice_bounds-good_record-end
slice_bounds-good_record-end t c =
    let h = c.requires.0 in
    let u = turn_of h c.loop-used.invariant c.in-Some.ensures.steps in
    let room = part_room h.known h.below u h.small c.column-in-loop-used.ensures c.args.r.now refl in
    omega (arith, room)

pub good_record-requires : goal.good_record-requires
good_record-requires t c =
    let h = c.requires.0 in
    let u = turn_of h c.loop-used.invariant c.in-Some.ensures.steps in
    (omega (arith, u.lower, c.decreases), (part_sited h.known h.below u h.small c.column-in-loop-used.ensures c.args.r.now refl, c.requires.1))

pub loop-used-smaller : goal.loop-used-smaller
loop-used-smaller t c = let e = ap length c.in-Some.ensures.steps in omega arith

pub loop-used-preserved : goal.loop-used-preserved
loop-used-preserved t c =
    judging_on c.requires.0 c.loop-used.invariant c.in-Some.ensures.steps c.column-in-loop-used.ensures (λ vs. sym c.if-not-good_record.false ∙ c.good_record.ensures vs)

pub returns-then-not-good_record : goal.returns-then-not-good_record
returns-then-not-good_record t c =
    judging_stop c.requires.0 c.loop-used.invariant c.in-Some.ensures.steps c.column-in-loop-used.ensures (λ vs. sym c.if-not-good_record.true ∙ c.good_record.ensures vs)

pub returns : goal.returns
returns t c =
    judging_full c.requires.0 c.loop-used.invariant c.loop-used-test.false
