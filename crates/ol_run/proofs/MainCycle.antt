-- The main instance's cycle: its run on the record in the state, and what is left, against the definition of the cycle.
use Prim.Native.Nat.{ℕ, suc, ◌+◌, ◌-◌, ◌*◌, ◌≤◌, ◌<◌}
use mathlib.Core.Bool.{Bool}
use mathlib.Core.List.{List, [], ◌∷◌, ◌++◌, append_assoc, append-nil}
use mathlib.Core.Path.{◌≡◌, refl, sym, ap, subst, ◌∙◌}
use native.Mathlib.Omega.{arith}
use lib.ListN.{length, take, drop, length-append, length-drop, drop_of_length-le}
use lib.Seq.{take_all, take-add}
use Rattle.ol_spec.specs.Lists.{concat}
use Rattle.ol_spec.specs.Syntax.{Node, File, main, cell_types}
use Rattle.ol_spec.specs.Cell.{cells, values_of}
use Rattle.ol_spec.specs.Order.{order}
use Rattle.ol_spec.specs.Eval.{Globals}
use Rattle.ol_spec.specs.Step.{Run, finished, failed_at, overflowed_at, globals, input_count, cell_count, own_size, instance_size, is_fresh, calls, run, run_all, split}
use Rattle.ol_spec.specs.Step.{Ended as RunEnd}
use Rattle.ol_spec.specs.Admission.{constant_cell_names, head_size, state_size}
use Rattle.ol_spec.specs.State.{globals_of}
use Rattle.ol_spec.specs.Cycle.{end_on, end_run, main_run}
use Rattle.ol_spec.specs.Answers.{fault_at, cause_number}
use Rattle.ol_spec.specs.declared.Value.{Value}
use Rattle.ol_spec.specs.declared.Cause.{Cause}
use Rattle.ol_spec.specs.declared.Cycled.{Cycled}
use Rattle.ol_spec.specs.declared.Cycled.TheVariants as Cyc
use Rattle.ol_spec.proofs.CellLengths.{types_append}
use Rattle.ol_spec.proofs.MainFacts.{main_at_lem}
use Rattle.ol_tables.specs.At.{file_at, node_in}
use Rattle.ol_tables.specs.Tables.{count_at}
use Rattle.ol_tables.proofs.Lending.{tail_of, put_tail, tail_all, put_tail_lem, drop_put, length_put}
use Rattle.ol_frame.specs.Walk.{nodes_in, sizes_in}
use Rattle.ol_frame.specs.Plans.{known_in, globals_in, width_in}
use Rattle.ol_frame.specs.Frame.{Opened}
use Rattle.ol_frame.specs.Outcomes.{ending_number}
use Rattle.ol_frame.specs.declared.frame.Frame.{Frame}
use Rattle.ol_frame.specs.declared.outcomes.Ending.TheVariants as End
use Rattle.ol_frame.proofs.Copying.{all_copied}
use Rattle.ol_frame.proofs.Endings.{failed_values, over_values, over_failed, one_cause}
use Rattle.ol_frame.proofs.Programs.{narrow}
use Rattle.ol_eval.specs.Calls.{Runnable, RunMeets, RunTo, run_in, EndsAs}
use Rattle.ol_eval.specs.declared.eval.Ended.{Ended}
use Rattle.ol_run.specs.MainCycle.{record_run, Left, RecordReady, RecordRan, RunReady, Cycles, CyclesTo}

-- the main node is the last
pub main_is : (file : List ℕ) (k : ℕ) → suc k ≡ nodes_in file → main (file_at file) ≡ node_in file k
main_is file k e = let d : nodes_in file - 1 ≡ k = omega arith in main_at_lem (file_at file).nodes (omega arith) ∙ ap (λ (j : ℕ). node_in file j) d

-- where the constants' cells are there, evaluation knows their values
pub globals_same : (file consts : List ℕ) (vs : List Value) → known_in consts ≡ length (constant_cell_names (file_at file)) → length vs ≡ length (constant_cell_names (file_at file)) → values_of (length vs) consts ≡ vs → globals_in file consts ≡ globals_of (file_at file) vs
globals_same file consts vs e l h =
    let names : take (known_in consts) (constant_cell_names (file_at file)) ≡ constant_cell_names (file_at file) = take_all (known_in consts) (constant_cell_names (file_at file)) (omega (arith, e)) in
    let vals : values_of (known_in consts) consts ≡ vs = ap (λ (n : ℕ). values_of n consts) (e ∙ sym l) ∙ h in
    λ i. globals (file_at file) (names i) (vals i)

-- inputs are some of a node's cells
inputs_first : (n : Node) → input_count n ≤ cell_count n
inputs_first n =
    omega (arith, ap length (types_append (n.inputs ++ n.outputs) n.locals), ap length (types_append n.inputs n.outputs), length-append (cell_types (n.inputs ++ n.outputs)) (cell_types n.locals), length-append (cell_types n.inputs) (cell_types n.outputs))

-- ---- the run

-- the run of a node on its record, by the parts of the record
pub record_run_lem : (file consts : List ℕ) (k : ℕ) (inputs old present before segs : List ℕ) (first : Bool) → first ≡ is_fresh old → before ≡ drop 1 old → segs ≡ drop (own_size (node_in file k)) old
    → values_of (width_in file k) present ≡ values_of (input_count (node_in file k)) inputs ++ drop (input_count (node_in file k)) (values_of (width_in file k) (drop 1 old))
    → run_in file consts k first present before segs ≡ record_run file consts k inputs old
unfolding run
record_run_lem file consts k inputs old present before segs first ef eb es ep =
    let g = globals_in file consts in
    let n = node_in file k in
    λ i. run_all g (calls g) n (ef i) (values_of (width_in file k) (eb i)) (order n.equations) (ep i) (split g n.equations (es i))

-- the main instance's run, on the record behind the constants' cells
pub main_run_lem : (file consts : List ℕ) (k : ℕ) (vs : List Value) (inputs old : List ℕ) → suc k ≡ nodes_in file → globals_in file consts ≡ globals_of (file_at file) vs
    → record_run file consts k inputs (drop (head_size (file_at file)) old) ≡ main_run (file_at file) vs old inputs
unfolding main_run
main_run_lem file consts k vs inputs old e g =
    ap (λ (n : Node). run (globals_in file consts) (calls (globals_in file consts)) n (values_of (input_count n) inputs) (drop (head_size (file_at file)) old)) (sym (main_is file k e))
    ∙ ap (λ (h : Globals). run h (calls h) (main (file_at file)) (values_of (input_count (main (file_at file))) inputs) (drop (head_size (file_at file)) old)) g

-- ---- what is left of a record and of the values, by how the run ended

module _ (U : Run) (own : ℕ) (old vals x : List ℕ) (r : Ended) (got : List Value) (m : RunMeets U r got x) where
  -- it finished: both are written anew
  pub finished_ran : (new vals' : List ℕ) → r.end ≡ End.Values → new ≡ 1 ∷ cells got ++ x → vals' ≡ cells got → RecordRan U own old vals r new vals'
  finished_ran new vals' z w v = record { ends = m.ends; left = go U.end m.ends m.cells_are }
    where
      go : (e : RunEnd) → EndsAs e r → (e ≡ finished → got ≡ U.cells) → Left e U own old vals new vals'
      go finished s c = (w ∙ (λ j. 1 ∷ cells (c refl j) ++ m.state j), v ∙ ap cells (c refl))
      go (failed_at d i) s c = failed_values s.0 z
      go (overflowed_at i) s c = over_values s.0 z

  -- it did not: the segments are moved
  pub stopped_ran : (new : List ℕ) → (r.end ≡ End.Values → ⊥) → new ≡ take own old ++ x → RecordRan U own old vals r new vals
  stopped_ran new z w = record { ends = m.ends; left = go U.end m.ends }
    where
      go : (e : RunEnd) → EndsAs e r → Left e U own old vals new vals
      go finished s = absurd (z s)
      go (failed_at d i) s = (w ∙ ap (λ (l : List ℕ). take own old ++ l) m.state, refl)
      go (overflowed_at i) s = (w ∙ ap (λ (l : List ℕ). take own old ++ l) m.state, refl)

-- ---- the run on its record

module _ {file tab rows consts inputs old new vals : List ℕ} {k frame : ℕ} (h : RecordReady file tab rows consts k inputs old new vals frame) where
  inside : k < nodes_in file
  inside = omega (arith, h.last)

  width_is : (n : ℕ) → n ≡ count_at tab k 3 → n ≡ width_in file k
  width_is n e = e ∙ (h.running.program.table.tabs_of k inside).cells

  inputs_are : (i : ℕ) → i ≡ count_at tab k 1 → i ≡ input_count (node_in file k)
  inputs_are i e = e ∙ (h.running.program.table.tabs_of k inside).input_cells

  -- so many cells are its own, and its own bytes are there
  module _ (n : ℕ) (e : n ≡ count_at tab k 3) where
    own : 1 + 9 * n ≡ own_size (node_in file k)
    own = ap (λ (q : ℕ). 1 + 9 * q) (width_is n e)

    pub own_room : (n ≤ 3584) × (1 + 9 * n ≤ length old) × (1 + 9 * n ≤ length new)
    own_room =
        let w = width_is n e in
        (omega (arith, w, narrow h.running.program k), omega (arith, h.sized, w), omega (arith, h.sized, w, ap length h.same))

    pub open_ready : (i : ℕ) → i ≡ count_at tab k 1 → (i ≤ n) × (n ≤ 3584) × (9 * n ≤ frame) × (9 * i ≤ length inputs) × (1 + 9 * n ≤ length old)
    open_ready i f =
        let w = width_is n e in
        let v = inputs_are i f in
        (omega (arith, w, v, inputs_first (node_in file k)), own_room.0, omega (arith, w, h.wide), omega (arith, v, h.given), own_room.1)

    pub written_ready : (f x : List ℕ) → length f ≡ frame → length x ≡ length (tail_of (1 + 9 * n) new) → (n ≤ 3584) × (9 * n ≤ length f) × (1 + 9 * n ≤ length (put_tail (1 + 9 * n) new x))
    written_ready f x l kx =
        let w = width_is n e in
        (own_room.0, omega (arith, l, w, h.wide), omega (arith, length_put (1 + 9 * n) new x own_room.2 kx, own_room.2))

    pub told_ready : (f : List ℕ) → length f ≡ frame → (n ≤ 3584) × (9 * n ≤ length f) × (9 * n ≤ length vals)
    told_ready f l = let w = width_is n e in (own_room.0, omega (arith, l, w, h.wide), omega (arith, w, h.told))

    -- the frame that was opened on the record
    module _ (i : ℕ) (f : i ≡ count_at tab k 1) {opened : Frame} (o : Opened k n i inputs old opened) (l : length opened.cells.now ≡ frame) where
      pub record_runnable : Runnable file tab rows consts opened.node opened.cells.now opened.before.now (tail_of (1 + 9 * n) old) (tail_of (1 + 9 * n) new)
      record_runnable =
          let w = width_is n e in
          let z = ap length (tail_all (1 + 9 * n) old) ∙ length-drop (1 + 9 * n) old in
          let b = ap length o.before ∙ length-drop 1 old in
          subst (λ (q : ℕ). Runnable file tab rows consts q opened.cells.now opened.before.now (tail_of (1 + 9 * n) old) (tail_of (1 + 9 * n) new)) (sym o.node) (record {
            running = h.running;
            below = inside;
            present = record { long = omega (arith, l, h.wide) };
            previous = record { long = omega (arith, b, own_room.1, w) };
            sized = omega (arith, z, h.sized, w);
            small = omega (arith, z, h.small);
            same = ap (tail_of (1 + 9 * n)) h.same;
          })

      -- the run that was made of it
      module _ (cells' x : List ℕ) (r : Ended) (m : RunTo file consts opened.node opened.first opened.cells.now opened.before.now (tail_of (1 + 9 * n) old) r cells' x) where
        abbrev U : Run
        U = record_run file consts k inputs old

        abbrev got : List Value
        got = values_of (width_in file k) cells'

        ran : RunMeets U r got x
        ran =
            let w = width_is n e in
            let v = inputs_are i f in
            let cs : values_of (width_in file k) opened.cells.now ≡ values_of (input_count (node_in file k)) inputs ++ drop (input_count (node_in file k)) (values_of (width_in file k) (drop 1 old)) =
            ap (λ (q : ℕ). values_of q opened.cells.now) (sym w) ∙ o.cells ∙ (λ j. values_of (v j) inputs ++ drop (v j) (values_of (w j) (drop 1 old))) in
            let u : run_in file consts opened.node opened.first opened.cells.now opened.before.now (tail_of (1 + 9 * n) old) ≡ U =
            ap (λ (q : ℕ). run_in file consts q opened.first opened.cells.now opened.before.now (tail_of (1 + 9 * n) old)) o.node
            ∙ record_run_lem file consts k inputs old opened.cells.now opened.before.now (tail_of (1 + 9 * n) old) opened.first o.first o.before (tail_all (1 + 9 * n) old ∙ ap (λ (q : ℕ). drop q old) own) cs in
            subst (λ (y : Run). RunMeets y r got x) u (subst (λ (q : ℕ). RunMeets (run_in file consts opened.node opened.first opened.cells.now opened.before.now (tail_of (1 + 9 * n) old)) r (values_of (width_in file q) cells') x) o.node m)

        pub record_written : (y vals' : List ℕ) → r.end ≡ End.Values → y ≡ 1 ∷ cells (values_of n cells') ++ drop (1 + 9 * n) (put_tail (1 + 9 * n) new x) → vals' ≡ cells (values_of n cells') ++ drop (9 * n) vals → RecordRan U (own_size (node_in file k)) old vals r y vals'
        record_written y vals' z w v =
            let p = width_is n e in
            let d : drop (9 * n) vals ≡ [] = drop_of_length-le vals {i = 9 * n} (omega (arith, h.told, p)) in
            finished_ran U (own_size (node_in file k)) old vals x r got ran y vals' z (w ∙ (λ j. 1 ∷ cells (values_of (p j) cells') ++ drop_put (1 + 9 * n) new x own_room.2 j))
            (v ∙ (λ j. cells (values_of (p j) cells') ++ d j) ∙ append-nil (cells got))

        pub record_stopped : (r.end ≡ End.Values → ⊥) → RecordRan U (own_size (node_in file k)) old vals r (put_tail (1 + 9 * n) new x) vals
        record_stopped z =
            stopped_ran U (own_size (node_in file k)) old vals x r got ran (put_tail (1 + 9 * n) new x) z (put_tail_lem (1 + 9 * n) new x ∙ (λ j. take (own j) (h.same j) ++ x))

-- ---- the cycle

module _ {file tab rows consts old inputs new vals : List ℕ} {known k : ℕ} (h : RunReady file tab rows known consts k old inputs new vals) where
  -- a frame for 3,584 cells is wide enough
  pub main_wide : 9 * width_in file k ≤ 32256
  main_wide = omega (arith, narrow h.running.program k)

  -- the main record is behind so many cells of constants
  module _ (n : ℕ) (is : n ≡ known) where
    abbrev H : ℕ
    H = 9 * n

    head : H ≡ head_size (file_at file)
    head = ap (λ (q : ℕ). 9 * q) is ∙ sym h.full ∙ h.head

    state_is : length old ≡ H + instance_size (sizes_in file) (node_in file k)
    unfolding state_size
    state_is = h.sized ∙ (λ j. sym head j + instance_size (sizes_in file) (main_is file k h.last j))

    module _ (copied : List ℕ) (e : copied ≡ take (length new) old ++ drop (length old) new) where
      same : copied ≡ old
      same = all_copied old new copied h.renewed e

      pub head_room : (9 * n ≤ length old) × (9 * n ≤ length copied)
      head_room = (omega (arith, state_is), omega (arith, state_is, ap length same))

      -- the main record can be run
      pub main_ready : (frame : ℕ) → 9 * width_in file k ≤ frame → RecordReady file tab rows consts k inputs (tail_of (9 * n) old) (tail_of (9 * n) copied) vals frame
      main_ready frame w =
          let z = ap length (tail_all H old) ∙ length-drop H old in
          record { running = h.running; last = h.last; sized = omega (arith, z, state_is); small = omega (arith, z, h.small); same = ap (tail_of H) same; given = h.given; told = h.told; wide = w }

      -- it was
      module _ (x vals' : List ℕ) (r : Ended) (m : RecordRan (record_run file consts k inputs (tail_of (9 * n) old)) (own_size (node_in file k)) (tail_of (9 * n) old) vals r x vals') where
        abbrev f : File
        f = file_at file

        abbrev W : Run
        W = record_run file consts k inputs (tail_of H old)

        ended : (a : Cycled) (new' vals'' : List ℕ) → Cycles (end_run f old vals W) a new' vals'' → (vs : List Value) → CyclesTo file consts vs old inputs vals a new' vals''
        ended a new' vals'' c vs l v =
            let u = ap (λ (s : List ℕ). record_run file consts k inputs s) (tail_all H old ∙ ap (λ (q : ℕ). drop q old) head)
            ∙ main_run_lem file consts k vs inputs old h.last (globals_same file consts vs h.running.constants l v) in
            subst (λ (w : Run). Cycles (end_run f old vals w) a new' vals'') u c

        moved : put_tail H copied x ≡ take (head_size f) old ++ x
        moved = put_tail_lem H copied x ∙ (λ j. take (head j) (same j) ++ x)

        -- its own bytes stayed
        stayed : x ≡ take (own_size (node_in file k)) (tail_of H old) ++ concat W.segs → put_tail H copied x ≡ take (head_size f + own_size (main f)) old ++ concat W.segs
        stayed e =
            let n = own_size (node_in file k) in
            let t : take n (tail_of H old) ≡ take n (drop (head_size f) old) = ap (take n) (tail_all H old ∙ ap (λ (q : ℕ). drop q old) head) in
            moved ∙ ap (λ (l : List ℕ). take (head_size f) old ++ l) (e ∙ ap (λ (l : List ℕ). l ++ concat W.segs) t)
            ∙ sym (append_assoc (take (head_size f) old) (take n (drop (head_size f) old)) (concat W.segs))
            ∙ ap (λ (l : List ℕ). l ++ concat W.segs) (sym (take-add (head_size f) n old))
            ∙ ap (λ (q : Node). take (head_size f + own_size q) old ++ concat W.segs) (sym (main_is file k h.last))

        pub cycle_finished : r.end ≡ End.Values → (vs : List Value) → CyclesTo file consts vs old inputs vals Cyc.Answered (put_tail (9 * n) copied x) vals'
        cycle_finished z = ended Cyc.Answered (put_tail H copied x) vals' (go W.end m.ends m.left)
          where
            go : (e : RunEnd) → EndsAs e r → Left e W (own_size (node_in file k)) (tail_of H old) vals x vals' → Cycles (end_on f old vals e W.cells W.segs) Cyc.Answered (put_tail H copied x) vals'
            go finished s l = record { answered = refl; renewed = moved ∙ ap (λ (y : List ℕ). take (head_size f) old ++ y) l.0; valued = l.1 }
            go (failed_at d i) s l = failed_values s.0 z
            go (overflowed_at i) s l = over_values s.0 z

        pub cycle_failed : (d : Cause) (number : ℕ) → r.end ≡ End.Failed d → number ≡ ending_number (End.Failed d) → (vs : List Value) → CyclesTo file consts vs old inputs vals (Cyc.Stopped (fault_at number r.index)) (put_tail (9 * n) copied x) vals'
        cycle_failed d number z t = ended (Cyc.Stopped (fault_at number r.index)) (put_tail H copied x) vals' (go W.end m.ends m.left)
          where
            go : (e : RunEnd) → EndsAs e r → Left e W (own_size (node_in file k)) (tail_of H old) vals x vals' → Cycles (end_on f old vals e W.cells W.segs) (Cyc.Stopped (fault_at number r.index)) (put_tail H copied x) vals'
            go finished s l = failed_values z s
            go (failed_at c i) s l = record { answered = (λ j. Cyc.Stopped (fault_at ((t ∙ ap cause_number (one_cause z s.0)) j) (s.1 j))); renewed = stayed l.0; valued = l.1 }
            go (overflowed_at i) s l = over_failed s.0 z

        -- the state is copied again
        pub cycle_overflowed : (new' : List ℕ) → length x ≡ length (tail_of (9 * n) copied) → r.end ≡ End.Overflowed → new' ≡ take (length (put_tail (9 * n) copied x)) old ++ drop (length old) (put_tail (9 * n) copied x) → (vs : List Value) → CyclesTo file consts vs old inputs vals (Cyc.Stopped (fault_at (ending_number End.Overflowed) r.index)) new' vals'
        cycle_overflowed new' l z c = ended (Cyc.Stopped (fault_at (ending_number End.Overflowed) r.index)) new' vals' (go W.end m.ends m.left)
          where
            w : new' ≡ old
            w = all_copied old (put_tail H copied x) new' (length_put H copied x head_room.1 l ∙ ap length same) c

            go : (e : RunEnd) → EndsAs e r → Left e W (own_size (node_in file k)) (tail_of H old) vals x vals' → Cycles (end_on f old vals e W.cells W.segs) (Cyc.Stopped (fault_at (ending_number End.Overflowed) r.index)) new' vals'
            go finished s l = over_values z s
            go (failed_at d i) s l = over_failed z s.0
            go (overflowed_at i) s l = record { answered = ap (λ (j : ℕ). Cyc.Stopped (fault_at (ending_number End.Overflowed) j)) s.1; renewed = w; valued = l.1 }
