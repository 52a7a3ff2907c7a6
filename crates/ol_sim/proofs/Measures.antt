-- The lengths: of an admitted file by its tables, and those of node 0, which every admitted file has.
use Prim.Native.Nat.{ℕ, ◌*◌, ◌≤◌}
use mathlib.Core.List.{List}
use mathlib.Core.Option.{some}
use mathlib.Core.Path.{◌≡◌, refl, ap, sym, subst, ◌∙◌}
use native.Mathlib.Omega.{arith}
use lib.ListN.{length}
use Rattle.ol_spec.specs.Limits.{relay_loader}
use Rattle.ol_spec.specs.Syntax.{File, no_node, main}
use Rattle.ol_spec.specs.Answers.{Measured, Verdict, fault_at, measured_fault, verdict_fault, verdict_length}
use Rattle.ol_spec.specs.declared.Fault.{Fault}
use Rattle.ol_spec.specs.Admission as Adm
use Rattle.ol_spec.specs.Step.{cell_count, input_count}
use Rattle.ol_spec.specs.Cycle.{measure_node, measure, lengths}
use Rattle.ol_spec.specs.Demand3.{Bytes}
use Rattle.ol_spec.specs.Read.{got}
use Rattle.ol_spec.specs.declared.Value.{Value}
use Rattle.std.specs.Prelude.{Ok, Err}
use Rattle.ol_spec.proofs.Admits.{admits}
use Rattle.ol_tables.specs.At.{file_at, item_of, no_file}
use Rattle.ol_tables.specs.Tables.{row_at, count_at, node_of}
use Rattle.ol_tables.specs.Table.{tab_of, rows_of}
use Rattle.ol_tables.proofs.HeadsFile.{file_stands}
use Rattle.ol_ir.proofs.Bytes.{get_in, get_out}
use Rattle.ol_sim.specs.Calls.{MeasuresAs, AdmitsAs}
use Rattle.ol_sim.specs.Judging.{whole}
use Rattle.ol_sim.specs.Answering.{AnswerReady}
use Rattle.ol_sim.specs.Serving.{verdict_of}
use Rattle.ol_sim.proofs.Starts.{main_is}

-- ---- by the tables

module _ {s t : List ℕ} {size m : ℕ} (h : AnswerReady s t size m) where
  abbrev f : File
  f = file_at s

  pub few_main : m ≤ 65535
  few_main = omega (arith, h.last, h.tables.stands.few_nodes)

  pub lengths_here : {i v q : ℕ} (k : ℕ) → k ≤ m → i ≡ count_at (tab_of t) m 1 → v ≡ count_at (tab_of t) m 3 → q ≡ row_at (rows_of t) k 5 → Ok (record { state = size; inputs = 9 * i; values = 9 * v; equations = q }) ≡ measure (whole f) k
  lengths_here {i} {v} {q} k le ei ev eq =
      let r = h.tables.tabled.tabs_of m (omega (arith, h.last)) in
      let is : i ≡ input_count (main f) = ei ∙ r.input_cells ∙ ap input_count (sym (main_is f m h.last)) in
      let vs : v ≡ cell_count (main f) = ev ∙ r.cells ∙ ap cell_count (sym (main_is f m h.last)) in
      let qs : q ≡ length (node_of f k).equations = eq ∙ (h.tables.rowed.rows_of k (omega (arith, h.last))).count in
      rw (h.sized, is, vs, qs) (sym (ap (measure_node f) (get_in f.nodes k no_node (omega (arith, h.last)))))

  pub no_node_lem : (k : ℕ) → ¬ (k ≤ m) → Err (fault_at 3 0) ≡ measure (whole f) k
  no_node_lem k gt = sym (ap (measure_node f) (get_out f.nodes k (omega (arith, h.last))))

-- ---- what was judged

module _ (s : List ℕ) (k : ℕ) {r : Measured} where
  measures_as : r ≡ lengths relay_loader s k → MeasuresAs (lengths relay_loader s k) r
  measures_as e = record { answered = e; told = ap measured_fault e }

  pub measures_whole : Adm.judge relay_loader s ≡ whole (file_at s) → r ≡ measure (whole (file_at s)) k → MeasuresAs (lengths relay_loader s k) r
  unfolding lengths
  measures_whole e q = measures_as (q ∙ sym (ap (λ j. measure j k) e))

pub measures_refused : (s : List ℕ) (k : ℕ) {x : Fault} → Adm.judge relay_loader s ≡ Adm.refused x.number x.place → MeasuresAs (lengths relay_loader s k) (Err x)
unfolding lengths
measures_refused s k e = measures_as s k (sym (ap (λ j. measure j k) e))

-- ---- node 0

module _ (s : List ℕ) (b : Bytes s) where
  some_node_lem : (f : File) (vs : List Value) → Adm.judge relay_loader s ≡ Adm.admitted f vs → 1 ≤ length f.nodes
  some_node_lem f vs j =
      let a = admits relay_loader s f vs j in
      let same : file_at s ≡ f = ap (item_of no_file) a.read in
      subst (λ (x : File). 1 ≤ length x.nodes) same (file_stands b (record { end = a.end; is = a.read ∙ ap (λ x. got x a.end) (sym same) })).some_node

  -- it is there
  pub first_lengths : (f : File) (vs : List Value) → Adm.judge relay_loader s ≡ Adm.admitted f vs → lengths relay_loader s 0 ≡ measure_node f (some (node_of f 0))
  unfolding lengths
  first_lengths f vs j = ap (λ x. measure x 0) j ∙ ap (measure_node f) (get_in f.nodes 0 no_node (some_node_lem f vs j))

  -- so the lengths tell what admission tells
  pub first_verdict : verdict_of (lengths relay_loader s 0) ≡ Adm.admission relay_loader s
  unfolding lengths
  first_verdict = go (Adm.judge relay_loader s) refl
    where
      go : (j : Adm.Judged) → Adm.judge relay_loader s ≡ j → verdict_of (lengths relay_loader s 0) ≡ Adm.verdict j
      go (Adm.refused n p) e = ap (λ x. verdict_of (measure x 0)) e
      go (Adm.admitted f vs) e = ap verdict_of (first_lengths f vs e)

  pub admission_answers : {m : Measured} {r : Verdict} → r ≡ verdict_of m → MeasuresAs (lengths relay_loader s 0) m → AdmitsAs (Adm.admission relay_loader s) r
  admission_answers {m} {r} e h =
      let is : r ≡ Adm.admission relay_loader s = e ∙ ap verdict_of h.answered ∙ first_verdict in
      record { answered = is; told = ap verdict_fault is; long = ap verdict_length is }
