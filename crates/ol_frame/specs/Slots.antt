-- What the cell of a name says: it is a variable of its node, a constant of the file, or neither.
use Rattle.std.specs.Prelude.{ℕ, ◌-◌, ◌<◌, ◌≤◌, ◌≡◌}
use Rattle.ol_frame.specs.declared.tables.Slot.{Slot}
use Rattle.ol_frame.specs.declared.tables.Slot.TheVariants as Slt

-- cell n says this
abbrev pub Says : ℕ → Slot → Type 0
Says n (Slt.Variable s) = (s ≡ n) × (n < 3584)
Says n (Slt.Constant i) = (i ≡ n - 3584) × (3584 ≤ n) × (n < 65535)
Says n Slt.Other = 65535 ≤ n
