use Prim.Native.Nat.{ℕ, ◌+◌}
use mathlib.Core.Bool.{true, false}
use mathlib.Core.Path.{◌≡◌, sym, ap, subst, ◌∙◌}
use Rattle.ol_tables.specs.Numbers.{numbers}
use Rattle.ol_shapes.specs.Judges.{AlikeIs, IterableIs}
use Rattle.ol_shapes.proofs.Iterating.{map_alike, map_unlike, fold_alike, fold_unlike}
use Rattle.ol_shapes.proofs.shapes.Shapes.iterates.Goals as goal
use Rattle.ol_shapes.proofs.shapes.Shapes.iterates.Goals.{then-byte-eq0, else-byte-eq0}

pub returns-then-alike : goal.returns-then-alike
returns-then-alike c =
    let t = c.args.self.now in
    let p = c.if-byte-eq0.first in
    let n = c.byte-arrays in
    let d = c.byte-then-alike in
    elim c.if-byte-eq0.branch [
      | then-byte-eq0 w ↦
          let first : p.0 ≡ c.args.at + 4 = ap (λ (x : ℕ × ℕ). x.0) w.first-is in
          let many : p.1 ≡ n.result = ap (λ (x : ℕ × ℕ). x.1) w.first-is in
          let like = subst (λ x. AlikeIs t.file.now (numbers t.rows.now) t.slots.now t.plans.now c.args.level x n.result true) first c.if-alike.ensures in
          let node = subst (λ x. IterableIs (numbers t.rows.now) t.plans.now d.result x c.iterable.result) many c.iterable.ensures in
          record { is = λ k locals e es h code. map_alike e es h code (sym c.byte.ensures.is ∙ w.if-byte-eq0.true) n.ensures.is like d.ensures.is node }
      | else-byte-eq0 w ↦
          let first : p.0 ≡ w.skip.result = ap (λ (x : ℕ × ℕ). x.0) w.first-is in
          let many : p.1 ≡ 2 = ap (λ (x : ℕ × ℕ). x.1) w.first-is in
          let node = subst (λ x. IterableIs (numbers t.rows.now) t.plans.now d.result x c.iterable.result) many c.iterable.ensures in
          record { is = λ k locals e es h code. fold_alike e es h code (λ z. w.if-byte-eq0.false (c.byte.ensures.is ∙ z)) n.ensures.is (first ∙ w.skip.ensures) c.if-alike.ensures d.ensures.is node }
    ]

pub returns-else-alike : goal.returns-else-alike
returns-else-alike c =
    let t = c.args.self.now in
    let p = c.if-byte-eq0.first in
    let n = c.byte-arrays in
    elim c.if-byte-eq0.branch [
      | then-byte-eq0 w ↦
          let first : p.0 ≡ c.args.at + 4 = ap (λ (x : ℕ × ℕ). x.0) w.first-is in
          let like = subst (λ x. AlikeIs t.file.now (numbers t.rows.now) t.slots.now t.plans.now c.args.level x n.result false) first c.if-alike.ensures in
          record { is = λ k locals e es h code. c.if-alike.false ∙ map_unlike e es h code (sym c.byte.ensures.is ∙ w.if-byte-eq0.true) n.ensures.is like }
      | else-byte-eq0 w ↦
          let first : p.0 ≡ w.skip.result = ap (λ (x : ℕ × ℕ). x.0) w.first-is in
          record { is = λ k locals e es h code. c.if-alike.false ∙ fold_unlike e es h code (λ z. w.if-byte-eq0.false (c.byte.ensures.is ∙ z)) n.ensures.is (first ∙ w.skip.ensures) c.if-alike.ensures }
    ]
