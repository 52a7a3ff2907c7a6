use Prim.Native.Nat.{◌<◌}
use mathlib.Core.Path.{refl, sym, subst}
use native.Mathlib.Omega.{arith}
use Rattle.std.specs.Prelude.{Ok, Err}
use Rattle.ol_spec.specs.Syntax.{count}
use Rattle.ol_tables.specs.At.{file_at}
use Rattle.ol_tables.specs.Numbers.{numbers}
use Rattle.ol_shapes.specs.Judges.{OneJudged}
use Rattle.ol_shapes.specs.Laid.{ItemsJudged}
use Rattle.ol_shapes.proofs.Judging.{erred, parts_start, parts_turn, parts_stop, parts_end}
use Rattle.ol_shapes.proofs.Naming.{locals_of, name_place}
use Rattle.ol_shapes.proofs.shapes.Shapes.items.Goals as goal

pub loop-i-init : goal.loop-i-init
loop-i-init c = λ xs es kl t m g h. parts_start h

pub returns-in_err-next : goal.returns-in_err-next
returns-in_err-next c =
    let j = c.args.self.now in
    let s = j.file.now in
    subst (λ r. ItemsJudged s (numbers j.rows.now) j.slots.now j.plans.now c.args.k c.args.names c.args.at r) (sym (erred c.from_residual.result c.from_residual.ensures.1))
    (record {
      are = λ xs es kl t m g h.
          let more : c.loop-i.i < count es = omega (arith, c.loop-i-test.true, c.byte-i-end.ensures.is, g) in
          let place = name_place c.loop-i.i h.scope kl t (omega (arith, more, m)) c.name_place.ensures in
          (parts_stop (c.loop-i.invariant xs es kl t m g h) more (λ e es' x. subst (λ p. OneJudged (file_at s) (locals_of s c.args.k) p c.loop-i.next e (Err c.in_err-next.field-0.0)) place (c.in_err-next.ensures.is c.args.k (locals_of s c.args.k) e es' x)) refl).found;
    })

pub loop-i-preserved : goal.loop-i-preserved
loop-i-preserved c =
    let s = c.args.self.now.file.now in
    λ xs es kl t m g h.
    let more : c.loop-i.i < count es = omega (arith, c.loop-i-test.true, c.byte-i-end.ensures.is, g) in
    let place = name_place c.loop-i.i h.scope kl t (omega (arith, more, m)) c.name_place.ensures in
    parts_turn (c.loop-i.invariant xs es kl t m g h) more (λ e es' x. subst (λ p. OneJudged (file_at s) (locals_of s c.args.k) p c.loop-i.next e (Ok c.in_ok-next.next)) place (c.in_ok-next.ensures.is c.args.k (locals_of s c.args.k) e es' x)) refl

pub returns : goal.returns
returns c = record { are = λ xs es kl t m g h. (parts_end (c.loop-i.invariant xs es kl t m g h) (omega (arith, c.loop-i-test.false, c.byte-i-end.ensures.is, g))).found }
