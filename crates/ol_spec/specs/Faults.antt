-- Which numbers each call answers, and where a cycle can stop. Types only: proofs/Faults proves the claim.
use Rattle.std.specs.Prelude.{ℕ, ◌<◌, ◌≤◌, List, [], ◌∷◌, ◌⊎◌, ◌≡◌, length, T, Err}
use Rattle.ol_spec.specs.Lists.{member}
use Rattle.ol_spec.specs.Syntax.{File, main}
use Rattle.ol_spec.specs.Limits.{Loader}
use Rattle.ol_spec.specs.Admission.{judge, admitted, admission}
use Rattle.ol_spec.specs.Cycle.{ordering, start, cycle}
use Rattle.ol_spec.specs.declared.Value.{Value}
use Rattle.ol_spec.specs.declared.Fault.{Fault}
use Rattle.ol_spec.specs.declared.Cycled.{Cycled}
use Rattle.ol_spec.specs.declared.Cycled.TheVariants as Cyc

-- the fault's number is one of these
abbrev pub From : ℕ → ℕ → Fault → Type 0
From low high x = (low ≤ x.number) × (x.number ≤ high)

-- the numbers of a stopped cycle, and those of a refused one
abbrev pub stop_numbers : List ℕ
stop_numbers = 18 ∷ 19 ∷ 20 ∷ 21 ∷ []

abbrev pub refusal_numbers : List ℕ
refusal_numbers = 1 ∷ 2 ∷ 3 ∷ 4 ∷ 5 ∷ 6 ∷ 7 ∷ 8 ∷ 9 ∷ 10 ∷ 11 ∷ 12 ∷ 13 ∷ 14 ∷ 15 ∷ 16 ∷ 17 ∷ 22 ∷ []

-- a cycle's answer has a number of its case
abbrev pub Numbered : Cycled → Type 0
Numbered Cyc.Answered = Unit {0}
Numbered (Cyc.Stopped x) = T (member x.number stop_numbers)
Numbered (Cyc.Refused x) = T (member x.number refusal_numbers)

-- the main equations of an admitted file have this index
pub record Inside (ld : Loader) (s : List ℕ) (i : ℕ) : Type 0 where
  pub file : File
  pub constants : List Value
  pub is : judge ld s ≡ admitted file constants
  pub below : i < length (main file).equations

-- Whatever a call is lent: admission refuses with 1 to 14 or 22; the ordering with 1 to 5, 11 or 17; the start with 1 to 14, 17 or 22; the cycle with 1 to 17 or 22. A cycle stops with one of 18 to 21,
-- and only in an admitted file, at one of its main equations.
pub record NumbersClaim (ld : Loader) : Type 0 where
  pub admission : (s : List ℕ) (x : Fault) → admission ld s ≡ Err x → From 1 14 x ⊎ (x.number ≡ 22)
  pub ordering : (s : List ℕ) (k : ℕ) (buf : List ℕ) (x : Fault) → (ordering ld s k buf).answer ≡ Err x → From 1 5 x ⊎ ((x.number ≡ 11) ⊎ (x.number ≡ 17))
  pub start : (s st : List ℕ) (x : Fault) → (start ld s st).answer ≡ Err x → From 1 14 x ⊎ ((x.number ≡ 17) ⊎ (x.number ≡ 22))
  pub stopped : (s old ins new vals : List ℕ) (x : Fault) → (cycle ld s old ins new vals).answer ≡ Cyc.Stopped x → Inside ld s x.place
  pub numbered : (s old ins new vals : List ℕ) → Numbered (cycle ld s old ins new vals).answer
