-- What the code answers for a reading of ol_spec's definitions: a fault with its number and place, and of what was read only where reading goes on.
use Rattle.std.specs.Prelude.{ℕ, zero, suc, ◌≡◌, List, Result, Ok, Err, length, get_or}
use Rattle.ol_spec.specs.Syntax.{File}
use Rattle.ol_spec.specs.Read.{Read, got, fault, then_read, sections_r, at_end}
use Rattle.ol_spec.specs.Answers.{fault_at}
use Rattle.ol_spec.specs.declared.Fault.{Fault}
use Rattle.ol_spec.specs.declared.Limits.{Limits}
use Rattle.ol_ir.specs.declared.Counted.{Counted}

-- where the next item starts, or a fault
abbrev pub Next : Type 0
Next = Result ℕ Fault

-- so many items follow, and where the first starts, or a fault
abbrev pub Counting : Type 0
Counting = Result Counted Fault

-- whether a file reads
abbrev pub Reading : Type 0
Reading = Result (Unit {0}) Fault

abbrev pub counted_at : ℕ → ℕ → Counted
counted_at n p = record { count = n; at = p }

-- where reading goes on
unfoldable pub next_of : {A : Type 0} → Read A → Next
next_of (got a at) = Ok at
next_of (fault n p) = Err (fault_at n p)

-- a number that was read, and where reading goes on
unfoldable pub counted_of : Read ℕ → Counting
counted_of (got n at) = Ok (counted_at n at)
counted_of (fault n p) = Err (fault_at n p)

-- how many items a list has that was read, and where reading goes on
unfoldable pub list_of : {A : Type 0} → Read (List A) → Counting
list_of (got xs at) = Ok (counted_at (length xs) at)
list_of (fault n p) = Err (fault_at n p)

-- whether a file was read
unfoldable pub reading_of : Read File → Reading
reading_of (got f at) = Ok tt
reading_of (fault n p) = Err (fault_at n p)

-- what follows the format byte, to the end of the bytes s
unfoldable pub after_format : List ℕ → Limits → Read File
after_format s l = then_read (sections_r s (get_or s 0 0) l 1) (at_end s)

-- ---- items one after the other

-- what follows from where reading goes on
unfoldable pub onward : Next → (ℕ → Next) → Next
onward (Ok p) k = k p
onward (Err f) k = Err f

-- so many items, each of which answers f
unfoldable pub repeat : ℕ → (ℕ → Next) → ℕ → Next
repeat zero f at = Ok at
repeat (suc n) f at = onward (f at) (repeat n f)

-- so many items behind a count
unfoldable pub section_by : (ℕ → Next) → Read ℕ → Next
section_by f (got n at) = repeat n f at
section_by f (fault n p) = Err (fault_at n p)

-- what a call at a place may return is what f answers
abbrev pub Answers : (ℕ → Next → Type 0) → (ℕ → Next) → Type 0
Answers P f = (p : ℕ) (y : Next) → P p y → y ≡ f p
