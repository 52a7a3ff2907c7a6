use Prim.Native.Nat.{ℕ, ◌+◌, ◌<◌}
use mathlib.Core.List.{List}
use mathlib.Core.Path.{◌≡◌}
use lib.ListN.{length, get_or}
use Rattle.ol_spec.specs.Syntax.{Exprs, count}
use Rattle.ol_tables.specs.At.{file_at}
use Rattle.ol_tables.specs.Numbers.{numbers}
use Rattle.ol_shapes.specs.Sits.{Sits}
use Rattle.ol_shapes.specs.Laid.{NamesTold}
use Rattle.ol_shapes.proofs.Judging.{PartsLeft}
use Rattle.ol_shapes.proofs.Naming.{locals_of, places_of}
use Rattle.ol_shapes.proofs.shapes.Shapes.items.Given as goal

abbrev pub invariant-loop-i : goal.invariant-loop-i
invariant-loop-i l =
    let s = l.self.file.now in
    let rows = numbers l.self.rows.now in
    (xs : List ℕ) (es : Exprs) → l.k < length (file_at s).nodes → NamesTold s l.self.slots.now l.k l.names xs → count es ≡ length xs → get_or s (l.at + 1) 0 ≡ count es → Sits s rows l.self.slots.now l.self.plans.now l.k (locals_of s l.k) 23 (l.at + 2) es
    → PartsLeft s rows l.self.slots.now l.self.plans.now l.k (locals_of s l.k) 23 (places_of s l.k xs) (l.at + 2) es l.i l.next
