-- What the timed operations answer.
use Rattle.std.specs.Prelude.{ℕ, false, cond, List, ltb, length, take}
use Rattle.ol_spec.specs.Cell.{payload, value_of}
use Rattle.ol_spec.specs.declared.Value.{Value}
use Rattle.ol_spec.specs.declared.Value.TheVariants as Val
use Rattle.ol_spec.specs.declared.Outcome.{Outcome}
use Rattle.ol_spec.specs.declared.Outcome.TheVariants as Out

-- the value of the first nine bytes; false where there are fewer
abbrev pub first_value : List ℕ → Value
first_value s = cond (ltb (length s) 9) (Val.Bool false) (value_of (take 9 s))

-- a value's payload; 1 for a failure of any cause, 2 for an overflow
abbrev pub digest_of : Outcome → ℕ
digest_of (Out.Value v) = payload v
digest_of (Out.Failure c) = 1
digest_of Out.Overflow = 2
