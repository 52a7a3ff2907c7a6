use Prim.Native.Nat.{ℕ, ◌<◌}
use mathlib.Core.List.{List}
use mathlib.Core.Path.{◌≡◌}
use lib.ListN.{length}
use Rattle.ol_spec.specs.Admission.{callee_in}
use Rattle.ol_tables.specs.At.{file_at}
use Rattle.ol_tables.specs.Numbers.{numbers}
use Rattle.ol_shapes.specs.Sits.{Scoped}
use Rattle.ol_shapes.specs.Laid.{NamesTold}
use Rattle.ol_shapes.proofs.Naming.{locals_of, places_of, SuitLeft}
use Rattle.ol_shapes.proofs.shapes.Shapes.outputs_suit.Given as goal

abbrev pub invariant-loop-i : goal.invariant-loop-i
invariant-loop-i l =
    (s xs : List ℕ) → Scoped s (numbers l.self.rows.now) l.self.slots.now l.self.plans.now l.k (locals_of s l.k) → l.k < length (file_at s).nodes → l.c < length (file_at s).nodes → NamesTold s l.self.slots.now l.k l.names xs → l.many ≡ length xs
    → length (callee_in (file_at s) l.c).outputs ≡ length xs → SuitLeft (places_of s l.k xs) (callee_in (file_at s) l.c).outputs l.i
