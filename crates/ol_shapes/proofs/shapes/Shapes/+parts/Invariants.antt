use Prim.Native.Nat.{ℕ, suc, ◌+◌}
use mathlib.Core.List.{List}
use Rattle.ol_spec.specs.Syntax.{Expr, Exprs, cons}
use Rattle.ol_spec.specs.Shapes.{Sized}
use Rattle.ol_tables.specs.At.{file_at}
use Rattle.ol_tables.specs.Heads.{parts_of, head_size}
use Rattle.ol_tables.specs.Numbers.{numbers}
use Rattle.ol_shapes.specs.Sits.{Sits}
use Rattle.ol_shapes.specs.Judges.{part_places}
use Rattle.ol_shapes.proofs.Judging.{PartsLeft}
use Rattle.ol_shapes.proofs.shapes.Shapes.+parts.Given as goal

abbrev pub decreases-parts : goal.decreases-parts
decreases-parts l = l.level

abbrev pub invariant-loop-i : goal.invariant-loop-i
invariant-loop-i l =
    (k : ℕ) (locals : List Sized) (e : Expr) (es : Exprs) → Sits l.self.file.now (numbers l.self.rows.now) l.self.slots.now l.self.plans.now k locals (suc l.level) l.at (cons e es)
    → PartsLeft l.self.file.now (numbers l.self.rows.now) l.self.slots.now l.self.plans.now k locals l.level (part_places (file_at l.self.file.now) locals e) (l.at + head_size e) (parts_of e) l.i l.next
