use mathlib.Core.List.{[]}
use mathlib.Core.Path.{sym, ap, ◌∙◌}
use native.Mathlib.Omega.{arith}
use borrow.Author.Tests.{eqb-true, eqb-false}
use Rattle.ol_state.specs.Ahead.{callees_of}
use Rattle.ol_state.proofs.Instances.{few_nodes_lem, cells_counted, own_room, is_operator_lem, part_room, part_sited}
use Rattle.ol_state.proofs.FreshRecords.{going_start, turn_of, going_on, going_done, none_written}
use Rattle.ol_state.proofs.fresh.+write_fresh.Goals as goal

pub write_own-requires : goal.write_own-requires
write_own-requires t c =
    let h = c.requires in
    let few = few_nodes_lem h.known h.below in
    let one = sym c.column.ensures ∙ eqb-true _ 1 (sym c.is.ensures ∙ c.if-is.true) in
    let own = own_room h.known h.below (is_operator_lem h.known h.below one) in
    (omega (arith, few), omega (arith, own, h.sized))

pub overflow_mul-used : goal.overflow_mul-used
overflow_mul-used t c =
    let h = c.requires in
    let one = sym c.column.ensures ∙ eqb-true _ 1 (sym c.is.ensures ∙ c.if-is.true) in
    let own = own_room h.known h.below (is_operator_lem h.known h.below one) in
    omega (arith, own, c.cells_of.ensures.0, cells_counted h.known h.below, h.sized, h.small)

pub overflow_add-used : goal.overflow_add-used
overflow_add-used t c =
    let h = c.requires in
    let one = sym c.column.ensures ∙ eqb-true _ 1 (sym c.is.ensures ∙ c.if-is.true) in
    let own = own_room h.known h.below (is_operator_lem h.known h.below one) in
    omega (arith, own, c.cells_of.ensures.0, cells_counted h.known h.below, h.sized, h.small)

pub loop-c-init : goal.loop-c-init
loop-c-init t c =
    let one = sym c.column.ensures ∙ eqb-true _ 1 (sym c.is.ensures ∙ c.if-is.true) in
    going_start c.requires one (c.cells_of.ensures.0 ∙ cells_counted c.requires.known c.requires.below) (ap callees_of c.into_iter-c-iterator.ensures.into_iter_gives ∙ c.call_sites-c-items.ensures) c.write_own.ensures

pub overflow_add-end : goal.overflow_add-end
overflow_add-end t c =
    let h = c.requires in
    let l = c.loop-c.invariant in
    let u = turn_of h.known h.below l c.in-Some.ensures.steps in
    let room = part_room h.known h.below u l.small c.column-in-loop-c.ensures c.loop-c.out (l.filled []).long in
    omega (arith, room, (l.filled []).long, l.small)

pub slice_bounds-write_fresh-end : goal.slice_bounds-write_fresh-end
slice_bounds-write_fresh-end t c =
    let h = c.requires in
    let l = c.loop-c.invariant in
    let u = turn_of h.known h.below l c.in-Some.ensures.steps in
    let room = part_room h.known h.below u l.small c.column-in-loop-c.ensures c.loop-c.out (l.filled []).long in
    omega (arith, room)

pub write_fresh-requires : goal.write_fresh-requires
write_fresh-requires t c =
    let h = c.requires in
    let l = c.loop-c.invariant in
    let u = turn_of h.known h.below l c.in-Some.ensures.steps in
    (omega (arith, u.lower, c.decreases), part_sited h.known h.below u l.small c.column-in-loop-c.ensures c.loop-c.out (l.filled []).long)

pub loop-c-preserved : goal.loop-c-preserved
loop-c-preserved t c =
    let h = c.requires in
    going_on h.known h.below c.loop-c.invariant c.in-Some.ensures.steps c.column-in-loop-c.ensures c.write_fresh.new.out c.write_fresh.auto.out c.write_fresh.ensures

pub returns-in-None : goal.returns-in-None
returns-in-None t c =
    let h = c.requires in
    going_done h.known h.below c.loop-c.invariant c.in-None.ensures.steps.0

pub returns-else-is : goal.returns-else-is
returns-else-is t c =
    none_written c.requires (λ e. eqb-false _ 1 (sym c.is.ensures ∙ c.if-is.false) (c.column.ensures ∙ e))
