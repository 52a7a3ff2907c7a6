use Prim.Native.Nat.{◌+◌, ◌<◌}
use mathlib.Core.Path.{◌≡◌, refl, sym, subst}
use native.Mathlib.Omega.{arith}
use lib.ListN.{get_or}
use Rattle.std.specs.Prelude.{Ok, Err}
use Rattle.ol_spec.specs.Syntax.{count}
use Rattle.ol_spec.specs.Admission.{anything}
use Rattle.ol_tables.specs.At.{file_at}
use Rattle.ol_tables.specs.Heads.{parts_of, head_size}
use Rattle.ol_tables.specs.Numbers.{numbers}
use Rattle.ol_shapes.specs.Codes.{place_in}
use Rattle.ol_shapes.specs.Judges.{part_places, PartsJudged, OneJudged}
use Rattle.ol_shapes.proofs.Sitting.{sits_parts}
use Rattle.ol_shapes.proofs.Judging.{erred, head_told, PartsLeft, parts_start, parts_turn, parts_stop, parts_end, parts_deep, one_whole, one_part}
use Rattle.ol_shapes.proofs.shapes.Shapes.+parts.Goals as goal

pub loop-i-init : goal.loop-i-init
loop-i-init t c =
    let j = c.args.self.now in
    let s = j.file.now in
    λ k locals e es h.
    subst (λ n. PartsLeft s (numbers j.rows.now) j.slots.now j.plans.now k locals c.args.level (part_places (file_at s) locals e) (c.args.at + head_size e) (parts_of e) 0 n) (sym (head_told h c.head-h.ensures).1) (parts_start (sits_parts h))

pub returns-then-level-eq0 : goal.returns-then-level-eq0
returns-then-level-eq0 t c =
    record {
      are = λ k locals e es h.
          let more : c.loop-i.i < count (parts_of e) = omega (arith, (head_told h c.head-h.ensures).0, c.loop-i-test.true) in
          absurd (omega (arith, parts_deep (c.loop-i.invariant k locals e es h) more, c.if-level-eq0.true));
    }

pub returns-in_err-end : goal.returns-in_err-end
returns-in_err-end t c =
    let j = c.args.self.now in
    subst (λ r. PartsJudged j.file.now (numbers j.rows.now) j.slots.now j.plans.now c.args.level c.args.at r) (sym (erred c.from_residual.result c.from_residual.ensures.1))
    (record {
      are = λ k locals e es h.
          let more : c.loop-i.i < count (parts_of e) = omega (arith, (head_told h c.head-h.ensures).0, c.loop-i-test.true) in
          parts_stop (c.loop-i.invariant k locals e es h) more (λ e' es' g. one_part e' es' g c.in_err-end.ensures) refl;
    })

pub returns-in_err-next : goal.returns-in_err-next
returns-in_err-next t c =
    let j = c.args.self.now in
    subst (λ r. PartsJudged j.file.now (numbers j.rows.now) j.slots.now j.plans.now c.args.level c.args.at r) (sym (erred c.from_residual-in_err-next.result c.from_residual-in_err-next.ensures.1))
    (record {
      are = λ k locals e es h.
          let more : c.loop-i.i < count (parts_of e) = omega (arith, (head_told h c.head-h.ensures).0, c.loop-i-test.true) in
          let left = c.loop-i.invariant k locals e es h in
          let place : place_in c.part_place-place.result ≡ get_or (part_places (file_at j.file.now) locals e) c.loop-i.i anything = c.part_place-place.ensures.is k locals e es h more left.start in
          parts_stop left more (λ e' es' g. subst (λ p. OneJudged (file_at j.file.now) locals p c.loop-i.next e' (Err c.in_err-next.field-0.0)) place (one_whole e' es' g c.in_ok-end.ensures c.in_err-next.ensures)) refl;
    })

pub loop-i-preserved : goal.loop-i-preserved
loop-i-preserved t c =
    let j = c.args.self.now in
    λ k locals e es h.
    let more : c.loop-i.i < count (parts_of e) = omega (arith, (head_told h c.head-h.ensures).0, c.loop-i-test.true) in
    let left = c.loop-i.invariant k locals e es h in
    let place : place_in c.part_place-place.result ≡ get_or (part_places (file_at j.file.now) locals e) c.loop-i.i anything = c.part_place-place.ensures.is k locals e es h more left.start in
    parts_turn left more (λ e' es' g. subst (λ p. OneJudged (file_at j.file.now) locals p c.loop-i.next e' (Ok c.in_ok-next.next)) place (one_whole e' es' g c.in_ok-end.ensures c.in_ok-next.ensures)) refl

pub returns : goal.returns
returns t c = record { are = λ k locals e es h. parts_end (c.loop-i.invariant k locals e es h) (omega (arith, (head_told h c.head-h.ensures).0, c.loop-i-test.false)) }
