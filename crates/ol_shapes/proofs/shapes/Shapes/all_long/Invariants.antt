use mathlib.Core.List.{List}
use mathlib.Core.Path.{◌≡◌}
use Prim.Native.Nat.{ℕ}
use Rattle.ol_spec.specs.Syntax.{Exprs, count}
use Rattle.ol_spec.specs.Shapes.{Sized}
use Rattle.ol_tables.specs.Numbers.{numbers}
use Rattle.ol_shapes.specs.Sits.{Sits}
use Rattle.ol_shapes.proofs.Iterating.{LongLeft}
use Rattle.ol_shapes.proofs.shapes.Shapes.all_long.Given as goal

abbrev pub invariant-loop : goal.invariant-loop
invariant-loop l =
    (k : ℕ) (locals : List Sized) (es : Exprs) → Sits l.self.file.now (numbers l.self.rows.now) l.self.slots.now l.self.plans.now k locals l.level l.at es → l.count ≡ count es
    → LongLeft l.self.file.now (numbers l.self.rows.now) l.self.slots.now l.self.plans.now k locals l.level es l.n l.counter l.next
