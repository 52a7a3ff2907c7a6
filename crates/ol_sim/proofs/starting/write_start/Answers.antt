use Rattle.std.proofs.Common.{◌≡◌, ◌*◌, length, take, sym, ap, ◌∙◌, arith}
use Rattle.ol_tables.specs.Table.{consts_of}
use Rattle.ol_state.proofs.Parts.{known_room, known_inside, consts_lent}
use Rattle.ol_frame.proofs.Copying.{all_copied}
use Rattle.ol_sim.proofs.Starts.{consts_fit, front_long, begun_long, rest_sited, fresh_whole}
use Rattle.ol_sim.proofs.starting.write_start.Goals as goal

pub overflow_add-cells : goal.overflow_add-cells
overflow_add-cells c = omega (arith, c.known-n.ensures, c.consts_from-from.ensures, known_inside c.args.tab.now (known_room c.args.tab.now c.requires.known.tabled) c.requires.full)

pub slice_bounds-cells-start : goal.slice_bounds-cells-start
slice_bounds-cells-start c = omega (arith, c.known-n.ensures, c.consts_from-from.ensures, known_inside c.args.tab.now (known_room c.args.tab.now c.requires.known.tabled) c.requires.full)

pub slice_bounds-cells-end : goal.slice_bounds-cells-end
slice_bounds-cells-end c = omega (arith, c.known-n.ensures, c.consts_from-from.ensures, known_inside c.args.tab.now (known_room c.args.tab.now c.requires.known.tabled) c.requires.full)

pub slice_bounds-copy-end : goal.slice_bounds-copy-end
slice_bounds-copy-end c =
    let n = c.known-n in
    consts_fit c.requires (9 * n.result) (ap (λ i. 9 * i) n.ensures.0 ∙ sym c.requires.full)

pub slice_bounds-copy-end-2 : goal.slice_bounds-copy-end-2
slice_bounds-copy-end-2 c =
    let n = c.known-n in
    sym (front_long c.requires (9 * n.result) (ap (λ i. 9 * i) n.ensures.0 ∙ sym c.requires.full))

pub slice_bounds-write_fresh-count : goal.slice_bounds-write_fresh-count
slice_bounds-write_fresh-count c =
    let n = c.known-n in
    let head = ap (λ i. 9 * i) n.ensures.0 ∙ sym c.requires.full in
    let lent = consts_lent c.args.tab.now c.consts_from-from.ensures n.ensures.0 in
    let copied : c.copy.new.to ≡ consts_of c.args.tab.now = all_copied _ (take (9 * n.result) c.args.state.now) c.copy.new.to (front_long c.requires (9 * n.result) head ∙ head ∙ sym (ap length lent)) c.copy.ensures ∙ lent in
    omega (arith, consts_fit c.requires (9 * n.result) head, begun_long c.requires (9 * n.result) head copied)

pub slice_bounds-write_fresh-start : goal.slice_bounds-write_fresh-start
slice_bounds-write_fresh-start c =
    let n = c.known-n in
    let head = ap (λ i. 9 * i) n.ensures.0 ∙ sym c.requires.full in
    let lent = consts_lent c.args.tab.now c.consts_from-from.ensures n.ensures.0 in
    let copied : c.copy.new.to ≡ consts_of c.args.tab.now = all_copied _ (take (9 * n.result) c.args.state.now) c.copy.new.to (front_long c.requires (9 * n.result) head ∙ head ∙ sym (ap length lent)) c.copy.ensures ∙ lent in
    omega (arith, consts_fit c.requires (9 * n.result) head, begun_long c.requires (9 * n.result) head copied)

pub write_fresh-requires : goal.write_fresh-requires
write_fresh-requires c =
    let n = c.known-n in
    let head = ap (λ i. 9 * i) n.ensures.0 ∙ sym c.requires.full in
    let lent = consts_lent c.args.tab.now c.consts_from-from.ensures n.ensures.0 in
    rest_sited c.requires (9 * n.result) head (all_copied _ (take (9 * n.result) c.args.state.now) c.copy.new.to (front_long c.requires (9 * n.result) head ∙ head ∙ sym (ap length lent)) c.copy.ensures ∙ lent)

pub returns : goal.returns
returns c =
    let n = c.known-n in
    let head = ap (λ i. 9 * i) n.ensures.0 ∙ sym c.requires.full in
    let lent = consts_lent c.args.tab.now c.consts_from-from.ensures n.ensures.0 in
    fresh_whole c.requires (9 * n.result) head _ (all_copied _ (take (9 * n.result) c.args.state.now) c.copy.new.to (front_long c.requires (9 * n.result) head ∙ head ∙ sym (ap length lent)) c.copy.ensures ∙ lent) c.write_fresh.ensures
