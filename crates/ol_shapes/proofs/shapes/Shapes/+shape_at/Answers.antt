use mathlib.Core.Option.{some}
use mathlib.Core.Path.{sym, ap, subst, ◌∙◌}
use native.Mathlib.Omega.{arith}
use Rattle.ol_spec.specs.Lists.{maybe}
use Rattle.ol_shapes.specs.Codes.{option_of}
use Rattle.ol_shapes.specs.Judges.{MapIs}
use Rattle.ol_shapes.proofs.Sitting.{sits_some}
use Rattle.ol_shapes.proofs.Shaping.{map_none, map_first}
use Rattle.ol_shapes.proofs.shapes.Shapes.+shape_at.Goals as goal
use Rattle.ol_shapes.proofs.shapes.Shapes.+shape_at.Goals.{then-byte-eq0-via-then-byte-eq0, then-byte-eq0-via-else-byte-eq0+then-level-eq0}

pub returns-then-not-is_map : goal.returns-then-not-is_map
returns-then-not-is_map t c =
    let m = subst (MapIs c.args.self.now.file.now c.args.at) c.if-not-is_map.true c.is_map.ensures in
    record { is = λ k locals e es h. c.form_shape.ensures.is k locals c.args.level e es h m }

pub returns-then-byte-eq0 : goal.returns-then-byte-eq0
returns-then-byte-eq0 t c =
    let m = subst (MapIs c.args.self.now.file.now c.args.at) c.if-not-is_map.false c.is_map.ensures in
    elim c.then-byte-eq0.branch [
      | then-byte-eq0-via-then-byte-eq0 w ↦ record { is = λ k locals e es h. map_none e es h m (sym c.byte.ensures.is ∙ w.if-byte-eq0.true) }
      | then-byte-eq0-via-else-byte-eq0+then-level-eq0 w ↦ record { is = λ k locals e es h. absurd (omega (arith, sits_some h, w.if-level-eq0.true)) }
    ]

pub returns-in-Some : goal.returns-in-Some
returns-in-Some t c =
    let m = subst (MapIs c.args.self.now.file.now c.args.at) c.if-not-is_map.false c.is_map.ensures in
    record { is = λ k locals e es h. ap (λ o. some (maybe 0 (λ n. n) (option_of o))) (sym c.in-Some.is) ∙ map_first e es h m (λ z. c.if-byte-eq0.false (c.byte.ensures.is ∙ z)) c.shape_at.ensures }

pub returns-in-None : goal.returns-in-None
returns-in-None t c =
    let m = subst (MapIs c.args.self.now.file.now c.args.at) c.if-not-is_map.false c.is_map.ensures in
    record { is = λ k locals e es h. ap (λ o. some (maybe 0 (λ n. n) (option_of o))) (sym c.in-None.is) ∙ map_first e es h m (λ z. c.if-byte-eq0.false (c.byte.ensures.is ∙ z)) c.shape_at.ensures }
