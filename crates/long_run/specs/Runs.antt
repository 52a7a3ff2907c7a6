-- A run of cycles, each on the state that the one before it left, by `cycle`; what is counted on the way, and where the buffers stand.
use Rattle.std.specs.Prelude.{◌≡◌, ℕ, zero, suc, ◌+◌, ◌/◌, ◌%◌, ◌^◌, Bool, true, false, cond, List, ◌==◌, Ok, Err}
use Rattle.ol_spec.specs.Cycle.{CycleCall, StartCall, start, cycle}
use Rattle.ol_spec.specs.Limits.{relay_loader}
use Rattle.ol_spec.specs.declared.Cycled.{Cycled}
use Rattle.ol_spec.specs.declared.Cycled.TheVariants as Cyc
use Rattle.ol_spec.specs.Answers.{Started}
use Rattle.rows.specs.Rows.{all_agree}
use Rattle.long_run.specs.declared.Tally.{Tally}

abbrev pub is_answered : Cycled → Bool
is_answered Cyc.Answered = true
is_answered (Cyc.Stopped f) = false
is_answered (Cyc.Refused f) = false

abbrev pub is_done : Started → Bool
is_done (Ok tt) = true
is_done (Err f) = false

-- one more, where it is so; a count has 64 bits
abbrev pub more : ℕ → Bool → ℕ
more n so = cond so ((n + 1) % 2 ^ 64) n

-- the counts after a cycle: whether it was answered, and whether it left the fresh state
abbrev pub counted : List ℕ → Tally → CycleCall → Tally
counted fresh t c = record { answered = more t.answered (is_answered c.answer); fresh = more t.fresh (all_agree c.new fresh) }

-- where a run stands: the two states, the values and the counts
pub record Stand : Type 0 where
  pub tally : Tally
  pub a : List ℕ
  pub b : List ℕ
  pub values : List ℕ

abbrev pub stand : Tally → List ℕ → List ℕ → List ℕ → Stand
stand t a b values = record { tally = t; a = a; b = b; values = values }

-- a cycle from a to b, and one from b to a
abbrev pub forth_on : List ℕ → Stand → CycleCall → Stand
forth_on fresh s c = stand (counted fresh s.tally c) s.a c.new c.values

abbrev pub back_on : List ℕ → Stand → CycleCall → Stand
back_on fresh s c = stand (counted fresh s.tally c) c.new s.b c.values

unfoldable pub forth : List ℕ → List ℕ → List ℕ → Stand → Stand
forth file fresh inputs s = forth_on fresh s (cycle relay_loader file s.a inputs s.b s.values)

unfoldable pub back : List ℕ → List ℕ → List ℕ → Stand → Stand
back file fresh inputs s = back_on fresh s (cycle relay_loader file s.b inputs s.a s.values)

abbrev pub both : List ℕ → List ℕ → List ℕ → Stand → Stand
both file fresh inputs s = back file fresh inputs (forth file fresh inputs s)

-- the inputs of pair i: the others after each thousand
abbrev pub inputs_at : ℕ → List ℕ → List ℕ → List ℕ
inputs_at i first second = cond (i / 1000 % 2 == 0) first second

-- after so many pairs
unfoldable pub after : List ℕ → List ℕ → List ℕ → List ℕ → ℕ → Stand → Stand
after file fresh first second zero s = s
after file fresh first second (suc i) s = both file fresh (inputs_at i first second) (after file fresh first second i s)

-- what a cycle leaves
pub record Stepped (file fresh old inputs new values : List ℕ) (t r : Tally) (new' values' : List ℕ) : Type 0 where
  pub counts : r ≡ counted fresh t (cycle relay_loader file old inputs new values)
  pub new_is : new' ≡ (cycle relay_loader file old inputs new values).new
  pub values_is : values' ≡ (cycle relay_loader file old inputs new values).values

-- buffers and counts stand as s says
pub record Stands (s : Stand) (t : Tally) (a b values : List ℕ) : Type 0 where
  pub counts : t ≡ s.tally
  pub a_is : a ≡ s.a
  pub b_is : b ≡ s.b
  pub values_is : values ≡ s.values

-- nothing counted
abbrev pub none : Tally
none = record { answered = 0; fresh = 0 }

-- the counts of a run from the start: both states are started, and then come 500,000 pairs of cycles
abbrev pub run_from : List ℕ → List ℕ → List ℕ → List ℕ → List ℕ → StartCall → StartCall → Tally
run_from file first second b values f a =
    cond (is_done f.answer) (cond (is_done a.answer) (after file f.state first second 500000 (stand none a.state b values)).tally none) none

unfoldable pub run_of : List ℕ → List ℕ → List ℕ → List ℕ → List ℕ → List ℕ → List ℕ → Tally
run_of file first second fresh a b values = run_from file first second b values (start relay_loader file fresh) (start relay_loader file a)

-- a run on a file and inputs that a read gave, which are free
pub record Ran (r : Tally) : Type 0 where
  pub file : List ℕ
  pub first : List ℕ
  pub second : List ℕ
  pub fresh : List ℕ
  pub a : List ℕ
  pub b : List ℕ
  pub values : List ℕ
  pub counts : r ≡ run_of file first second fresh a b values
