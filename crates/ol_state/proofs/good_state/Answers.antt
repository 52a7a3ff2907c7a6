use Prim.Native.Nat.{◌+◌, ◌-◌, ◌*◌}
use mathlib.Core.Path.{sym, ap, ◌∙◌}
use native.Mathlib.Omega.{arith}
use lib.ListN.{take, drop}
use lib.Seq.{length-take-le}
use Rattle.ol_state.proofs.Judged.{same_is}
use Rattle.ol_state.proofs.Instances.{counted}
use Rattle.ol_state.proofs.Parts.{known_room, known_inside, consts_lent}
use Rattle.ol_state.proofs.States.{main_size, main_sited, other_length, other_constants, main_decides}
use Rattle.ol_state.proofs.good_state.Goals as goal

pub main_node-k-requires : goal.main_node-k-requires
main_node-k-requires c = counted c.requires.known

pub overflow_add-head : goal.overflow_add-head
overflow_add-head c =
    let h = c.requires in
    omega (arith, main_size h c.main_node-k.result c.main_node-k.ensures, c.column.ensures, c.known-head.ensures.0)

pub returns-then-state-head : goal.returns-then-state-head
returns-then-state-head c =
    let h = c.requires in
    let n = ap (λ m. 9 * m) c.known-head.ensures.0 ∙ sym h.full in
    other_length h c.main_node-k.result c.main_node-k.ensures c.args.state.now c.column.ensures n c.if-state-head.true

pub slice_bounds-eq-end : goal.slice_bounds-eq-end
slice_bounds-eq-end c = sym (length-take-le (9 * c.known-head.result) c.args.state.now (omega (arith, c.if-state-head.false)))

pub overflow_add-from : goal.overflow_add-from
overflow_add-from c =
    let t = c.args.tab.now in
    omega (arith, c.known-head.ensures.0, c.consts_from-from.ensures, known_inside t (known_room t c.requires.known.tabled) c.requires.full)

pub slice_bounds-eq-count : goal.slice_bounds-eq-count
slice_bounds-eq-count c =
    let t = c.args.tab.now in
    omega (arith, c.known-head.ensures.0, c.consts_from-from.ensures, known_inside t (known_room t c.requires.known.tabled) c.requires.full)

pub slice_bounds-eq-start : goal.slice_bounds-eq-start
slice_bounds-eq-start c =
    let t = c.args.tab.now in
    omega (arith, c.known-head.ensures.0, c.consts_from-from.ensures, known_inside t (known_room t c.requires.known.tabled) c.requires.full)

pub slice_bounds-eq-end-2 : goal.slice_bounds-eq-end-2
slice_bounds-eq-end-2 c =
    let t = c.args.tab.now in
    omega (arith, c.known-head.ensures.0, c.consts_from-from.ensures, known_inside t (known_room t c.requires.known.tabled) c.requires.full)

pub good_record-requires : goal.good_record-requires
good_record-requires c =
    let h = c.requires in
    let n = ap (λ m. 9 * m) c.known-head.ensures.0 ∙ sym h.full in
    (main_sited h c.main_node-k.result c.main_node-k.ensures c.args.state.now c.column.ensures n c.if-state-head.false, h.names)

pub returns-then-eq : goal.returns-then-eq
returns-then-eq c =
    let h = c.requires in
    let state = c.args.state.now in
    let t = c.args.tab.now in
    let from = c.consts_from-from.result in
    let m = c.known-head.result in
    let n = ap (λ j. 9 * j) c.known-head.ensures.0 ∙ sym h.full in
    let lent = consts_lent t c.consts_from-from.ensures c.known-head.ensures.0 in
    main_decides h c.main_node-k.result c.main_node-k.ensures state c.column.ensures n lent c.if-state-head.false (sym c.if-eq.true ∙ c.eq.ensures ∙ same_is (take (9 * m) state) (take (from + 9 * m - from) (drop from t))) c.good_record.ensures

pub returns-else-eq : goal.returns-else-eq
returns-else-eq c =
    let h = c.requires in
    let state = c.args.state.now in
    let t = c.args.tab.now in
    let from = c.consts_from-from.result in
    let m = c.known-head.result in
    let n = ap (λ j. 9 * j) c.known-head.ensures.0 ∙ sym h.full in
    let lent = consts_lent t c.consts_from-from.ensures c.known-head.ensures.0 in
    λ vs e. c.if-eq.false ∙ other_constants h c.main_node-k.result c.main_node-k.ensures state c.column.ensures n lent c.if-state-head.false (sym c.if-eq.false ∙ c.eq.ensures ∙ same_is (take (9 * m) state) (take (from + 9 * m - from) (drop from t))) vs e
