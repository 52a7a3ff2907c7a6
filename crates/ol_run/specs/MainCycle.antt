-- What a cycle of the main instance asks and gives.
use Rattle.std.specs.Prelude.{ℕ, suc, ◌*◌, ◌≤◌, List, ◌++◌, ◌≡◌, length, take}
use Rattle.ol_spec.specs.Lists.{concat}
use Rattle.ol_spec.specs.Cell.{cells, values_of}
use Rattle.ol_spec.specs.Step.{Run, finished, failed_at, overflowed_at, input_count, instance_size, started_record, calls, run}
use Rattle.ol_spec.specs.Step.{Ended as RunEnd}
use Rattle.ol_spec.specs.Admission.{constant_cell_names, head_size, state_size}
use Rattle.ol_spec.specs.Cycle.{CycleCall, main_run, end_run}
use Rattle.ol_spec.specs.declared.Value.{Value}
use Rattle.ol_spec.specs.declared.Cycled.{Cycled}
use Rattle.ol_tables.specs.At.{file_at, node_in}
use Rattle.ol_frame.specs.Walk.{nodes_in, sizes_in}
use Rattle.ol_frame.specs.Plans.{globals_in, width_in}
use Rattle.ol_frame.specs.Nodes.{Running}
use Rattle.ol_eval.specs.Calls.{EndsAs, Wide}
use Rattle.ol_eval.specs.declared.eval.Ended.{Ended}

-- an instance's record, and what it is run with: its inputs and a frame of so many bytes; `new` is a copy of the record, and its values go to `vals`
pub record RecordReady (file tab rows consts : List ℕ) (k : ℕ) (inputs old new vals : List ℕ) (frame : ℕ) : Type 0 where
  pub running : Running file tab rows consts
  pub last : suc k ≡ nodes_in file
  pub sized : length old ≡ instance_size (sizes_in file) (node_in file k)
  pub small : length old ≤ 32768
  pub same : new ≡ old
  pub given : length inputs ≡ 9 * input_count (node_in file k)
  pub told : length vals ≡ 9 * width_in file k
  pub wide : Wide file k frame

-- the run of node k on its record
abbrev pub record_run : List ℕ → List ℕ → ℕ → List ℕ → List ℕ → Run
record_run file consts k inputs old = run (globals_in file consts) (calls (globals_in file consts)) (node_in file k) (values_of (input_count (node_in file k)) inputs) old

-- what a run leaves of a record that begins with so many bytes of its own, and of the values: where it finished, both anew; else its own bytes and the values stay
abbrev pub Left : RunEnd → Run → ℕ → List ℕ → List ℕ → List ℕ → List ℕ → Type 0
Left finished want own old vals new vals' = (new ≡ started_record want.cells want.segs) × (vals' ≡ cells want.cells)
Left (failed_at c i) want own old vals new vals' = (new ≡ take own old ++ concat want.segs) × (vals' ≡ vals)
Left (overflowed_at i) want own old vals new vals' = (new ≡ take own old ++ concat want.segs) × (vals' ≡ vals)

pub record RecordRan (want : Run) (own : ℕ) (old vals : List ℕ) (r : Ended) (new vals' : List ℕ) : Type 0 where
  pub ends : EndsAs want.end r
  pub left : Left want.end want own old vals new vals'

-- the main instance of an admitted file, whose constants have their cells, so many, and buffers of their lengths
pub record RunReady (file tab rows : List ℕ) (known : ℕ) (consts : List ℕ) (k : ℕ) (old inputs new vals : List ℕ) : Type 0 where
  pub running : Running file tab rows consts
  pub last : suc k ≡ nodes_in file
  pub head : length consts ≡ head_size (file_at file)
  pub full : length consts ≡ 9 * known
  pub sized : length old ≡ state_size (file_at file)
  pub small : length old ≤ 32768
  pub given : length inputs ≡ 9 * input_count (node_in file k)
  pub renewed : length new ≡ length old
  pub told : length vals ≡ 9 * width_in file k

-- the answer, the new state and the values
pub record Cycles (want : CycleCall) (r : Cycled) (new vals : List ℕ) : Type 0 where
  pub answered : r ≡ want.answer
  pub renewed : new ≡ want.new
  pub valued : vals ≡ want.values

-- where these are the values of the constants' cells
abbrev pub CyclesTo : List ℕ → List ℕ → List Value → List ℕ → List ℕ → List ℕ → Cycled → List ℕ → List ℕ → Type 0
CyclesTo file consts vs old inputs vals r new vals' =
    length vs ≡ length (constant_cell_names (file_at file)) → values_of (length vs) consts ≡ vs → Cycles (end_run (file_at file) old vals (main_run (file_at file) vs old inputs)) r new vals'
