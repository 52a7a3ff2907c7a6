-- What a call is told by does not depend on what its buffers held; how long the values and the order of a file are.
use Prim.Native.Nat.{ℕ, zero, suc, ◌+◌, ◌*◌, ◌≤◌, ◌<◌, ◌-◌, min}
use mathlib.Core.Bool.{Bool, true, false, not, ◌&&◌}
use mathlib.Core.List.{List, [], ◌∷◌}
use mathlib.Core.Logic.{by_cases}
use mathlib.Core.Option.{Option, none, some}
use mathlib.Core.Path.{◌≡◌, refl, sym, ap, subst, ◌∙◌}
use native.Mathlib.Omega.{arith}
use native.Mathlib.Decide.{ℕ_discrete}
use lib.ListN.{length, take, get_elem?, get_or, length-take, length-replicate}
use lib.Dec.{T, eqb, ltb, eqb→eq, nltb→le}
use Rattle.ol_spec.specs.Limits.{relay_loader}
use Rattle.ol_spec.specs.Lists.{maybe}
use Rattle.ol_spec.specs.Syntax.{Node, File, main, no_node}
use Rattle.ol_spec.specs.Places.{placed, node_size, nodes_start, placed_nodes}
use Rattle.ol_spec.specs.Read.{Read, got, fault, read_file}
use Rattle.ol_spec.specs.Order.{unplaced}
use Rattle.ol_spec.specs.Step.{Ended, finished, failed_at, overflowed_at, Run, cell_count}
use Rattle.ol_spec.specs.Admission.{Judged, refused, admitted, judge, verdict, admission, state_size, at_main}
use Rattle.ol_spec.specs.State.{good_state, good_inputs}
use Rattle.ol_spec.specs.Answers.{verdict_length}
use Rattle.ol_spec.specs.Cycle.{measure, lengths, ordering, order_read, order_node, order_unless_ring, order_fits, start, start_judged, CycleCall, cycle, cycle_judged, cycle_unless, end_on, fits17, main_run}
use Rattle.ol_spec.specs.Demand3.{Bytes}
use Rattle.ol_spec.specs.declared.Value.{Value}
use Rattle.ol_spec.specs.Answers.{Measured}
use Rattle.std.specs.Prelude.{Ok, Err, MatchResult}
use Rattle.ol_spec.specs.declared.Lengths.{Lengths}
use Rattle.ol_spec.proofs.Admits.{admits}
use Rattle.ol_spec.proofs.MainFacts.{main_at_lem}
use Rattle.ol_spec.proofs.Tests.{T_true, T_false, eq_eqb}
use Rattle.ol_tables.specs.At.{file_at, item_of, no_file}
use Rattle.ol_tables.specs.Stands.{FileStands}
use Rattle.ol_tables.proofs.HeadsFile.{file_stands, node_at_lem}
use Rattle.ol_check.proofs.CellLaws.{cells_limit}
use Rattle.ol_order.specs.Counts.{equations_in, equations_of}
use Rattle.ol_sim.specs.Calls.{MeasuresAs}
use Rattle.ol_sim.proofs.Measures.{first_lengths}
use Rattle.relay.specs.Reply.{zeros, fresh_of, order_text, values_length}
use Rattle.relay.specs.Kept.{Ends}

-- ---- tests

-- a test by a number that is cut off above what it is compared with
eqb_cut : (n most size : ℕ) → size < most → eqb (min n most) size ≡ eqb n size
eqb_cut n most size h =
    by_cases (ℕ_discrete n size)
    (λ e. T_true (eqb (min n most) size) (eq_eqb (min n most) size (omega (arith, e, h))) ∙ sym (T_true (eqb n size) (eq_eqb n size e)))
    (λ ne. T_false (eqb (min n most) size) (λ t. ne (omega (arith, eqb→eq (min n most) size t, h))) ∙ sym (T_false (eqb n size) (λ t. ne (eqb→eq n size t))))

eqb_same : (n m : ℕ) → n ≡ m → eqb n m ≡ true
eqb_same n m e = T_true (eqb n m) (eq_eqb n m e)

-- ---- limits of a file of bytes

the_file : (s : List ℕ) (f : File) (end : ℕ) → read_file s relay_loader ≡ got f end → file_at s ≡ f
the_file s f end e = ap (item_of no_file) e

stands : (s : List ℕ) (f : File) (end : ℕ) → Bytes s → read_file s relay_loader ≡ got f end → FileStands s f
stands s f end b e =
    let same = the_file s f end e in
    subst (FileStands s) same (file_stands b (record { end = end; is = e ∙ ap (λ x. got x end) (sym same) }))

pub few_main : (s : List ℕ) (f : File) (vs : List Value) → Bytes s → judge relay_loader s ≡ admitted f vs → cell_count (main f) ≤ 3584
few_main s f vs b j =
    let a = admits relay_loader s f vs j in
    let st = stands s f a.end b a.read in
    let few = cells_limit (node_at_lem st (length f.nodes - 1) (omega (arith, st.some_node))) in
    subst (λ n. cell_count n ≤ 3584) (sym (main_at_lem f.nodes st.some_node)) few

limit_small : (o : Bool) → maybe 0 (λ l. l.state) (mathlib.Core.Bool.cond o (some Rattle.ol_spec.specs.Limits.base) none) ≤ 32768
limit_small true = omega arith
limit_small false = omega arith

no_fault_lem : (f : File) (b : Bool) → at_main f b ≡ none → b ≡ false
no_fault_lem f true e = let z : ◌≡◌ {A = ℕ} 0 1 = cc in absurd (omega arith)
no_fault_lem f false e = refl

pub small_state : (s : List ℕ) (f : File) (vs : List Value) → judge relay_loader s ≡ admitted f vs → state_size f ≤ 32768
small_state s f vs j =
    let a = admits relay_loader s f vs j in
    let most = maybe 0 (λ l. l.state) (relay_loader.limits f.format) in
    let ok : ltb most (state_size f) ≡ false = no_fault_lem f (ltb most (state_size f)) a.no13 in
    let below : state_size f ≤ most = nltb→le most (state_size f) (subst (λ b. T (not b)) (sym ok) tt) in
    let low : most ≤ 32768 = limit_small (eqb f.format 1) in
    omega (arith, below, low)

-- ---- the cycle

module _ (file old ins new new' vals vals' : List ℕ) where
  abbrev first : CycleCall
  first = cycle relay_loader file old ins new vals

  abbrev second : CycleCall
  second = cycle relay_loader file old ins new' vals'

  module _ (f : File) (vs : List Value) where
    run_ends : (e : Ended) (u : Run) → Ends (end_on f old vals' e u.cells u.segs) old (end_on f old vals e u.cells u.segs).answer (end_on f old vals e u.cells u.segs).new (end_on f old vals e u.cells u.segs).values
    run_ends finished u = record { text_is = refl; next_is = refl }
    run_ends (failed_at c i) u = record { text_is = refl; next_is = refl }
    run_ends (overflowed_at i) u = record { text_is = refl; next_is = refl }

    unless_ends : (a b c : Bool) → let w = cycle_unless a b c f vs old ins new vals in Ends (cycle_unless a b c f vs old ins new' vals') old w.answer w.new w.values
    unless_ends true b c = record { text_is = refl; next_is = refl }
    unless_ends false true c = record { text_is = refl; next_is = refl }
    unless_ends false false true = record { text_is = refl; next_is = refl }
    unless_ends false false false = run_ends (main_run f vs old ins).end (main_run f vs old ins)

  abbrev EndsBy : Judged → Type 0
  EndsBy j = let w = cycle_judged j old ins new vals in Ends (cycle_judged j old ins new' vals') old w.answer w.new w.values

  abbrev FitAlike : Judged → Type 0
  FitAlike j = (f : File) (vs : List Value) → j ≡ admitted f vs → fits17 f new vals ≡ fits17 f new' vals'

  alike_by : (j : Judged) → FitAlike j → EndsBy j
  alike_by (refused n p) h = record { text_is = refl; next_is = refl }
  alike_by (admitted f vs) h =
      let w = cycle_judged (admitted f vs) old ins new vals in
      subst (λ b. Ends (cycle_unless (not (good_state f vs old)) (not (good_inputs f ins)) (not b) f vs old ins new' vals') old w.answer w.new w.values) (h f vs refl)
      (unless_ends f vs (not (good_state f vs old)) (not (good_inputs f ins)) (not (fits17 f new vals)))

  -- buffers that fit alike
  pub alike : FitAlike (judge relay_loader file) → Ends second old first.answer first.new first.values
  unfolding cycle
  alike h = alike_by (judge relay_loader file) h

  pub same_lengths : length new ≡ length new' → length vals ≡ length vals' → Ends second old first.answer first.new first.values
  same_lengths hn hv =
      alike
      (λ f vs j. ap (λ n. eqb n (state_size f) && eqb (length vals) (9 * cell_count (main f))) hn
      ∙ ap (λ n. eqb (length new') (state_size f) && eqb n (9 * cell_count (main f))) hv)

-- ---- the length of the values

abbrev pub values_in : Measured → ℕ
values_in (Ok l) = l.values
values_in (Err x) = 0

module _ (file : List ℕ) (b : Bytes file) where
  pub values_told : {m d : Measured} → MeasuresAs (lengths relay_loader file 0) m → m ≡ d → values_in d ≡ values_length (judge relay_loader file)
  unfolding lengths
  values_told h e = ap values_in (sym e ∙ h.answered) ∙ go (judge relay_loader file) refl
    where
      go : (j : Judged) → judge relay_loader file ≡ j → values_in (lengths relay_loader file 0) ≡ values_length j
      go (refused n p) e = ap (λ x. values_in (measure x 0)) e
      go (admitted f vs) e = ap values_in (first_lengths file b f vs e)

  -- the same, from what a function of both cases tells of v
  pub values_either : {m : Measured} {v : ℕ} (P : Lengths → Type 0) → MeasuresAs (lengths relay_loader file 0) m → MatchResult m P (λ f. v ≡ 0) → ((l : Lengths) → P l → v ≡ l.values) → v ≡ values_length (judge relay_loader file)
  values_either {m = Ok l} P h t w = w l t ∙ values_told h refl
  values_either {m = Err f} P h t w = t ∙ values_told h refl

  pub few_values : values_length (judge relay_loader file) ≤ 32256
  few_values = go (judge relay_loader file) refl
    where
      go : (j : Judged) → judge relay_loader file ≡ j → values_length j ≤ 32256
      go (refused n p) e = omega arith
      go (admitted f vs) e = omega (arith, few_main file f vs b e)

-- buffers that are cut to the program's
pub cut : (file old ins new vals : List ℕ) (n v : ℕ) → Bytes file → length new ≡ 131072 → length vals ≡ 32768 → let w = cycle relay_loader file old ins (take n new) (take v vals) in Ends (cycle relay_loader file old ins (zeros n) (zeros v)) old w.answer w.new w.values
cut file old ins new vals n v b hn hv =
    alike file old ins (take n new) (zeros n) (take v vals) (zeros v)
    (λ f vs j.
    let small = small_state file f vs j in
    let few = few_main file f vs b j in
    let right = 9 * cell_count (main f) in
    let en : eqb (length (take n new)) (state_size f) ≡ eqb (length (zeros n)) (state_size f) = ap (λ k. eqb k (state_size f)) (length-take n new ∙ ap (min n) hn) ∙ eqb_cut n 131072 (state_size f) (omega (arith, small)) ∙ ap (λ k. eqb k (state_size f)) (sym (length-replicate n 0)) in
    let ev : eqb (length (take v vals)) right ≡ eqb (length (zeros v)) right = ap (λ k. eqb k right) (length-take v vals ∙ ap (min v) hv) ∙ eqb_cut v 32768 right (omega (arith, few)) ∙ ap (λ k. eqb k right) (sym (length-replicate v 0)) in
    ap (λ x. x && eqb (length (take v vals)) right) en ∙ ap (λ x. eqb (length (zeros n)) (state_size f) && x) ev)

-- ---- the start

start_by : (j : Judged) (s : List ℕ) (n : ℕ) → length s ≡ n → n ≡ verdict_length (verdict j) → (start_judged j s).state ≡ (start_judged j (zeros n)).state
start_by (refused m p) [] n e h = let z : n ≡ 0 = omega (arith, e) in rw z refl
start_by (refused m p) (x ∷ s) n e h = absurd (omega (arith, e, h))
start_by (admitted f vs) s n e h = rw (eqb_same (length s) (state_size f) (e ∙ h), eqb_same (length (zeros n)) (state_size f) (length-replicate n 0 ∙ h)) refl

pub fresh_of_lem : (file s : List ℕ) → length s ≡ verdict_length (admission relay_loader file) → (start relay_loader file s).state ≡ fresh_of file
unfolding start
fresh_of_lem file s e = start_by (judge relay_loader file) s (verdict_length (admission relay_loader file)) e refl

small_verdict : (j : Judged) (n : ℕ) → ((f : File) (vs : List Value) → j ≡ admitted f vs → state_size f ≤ 32768) → verdict j ≡ Ok n → n ≤ 32768
small_verdict (refused m p) n h e = let z : ◌≡◌ {A = ℕ} 0 1 = cc in absurd (omega arith)
small_verdict (admitted f vs) n h e = let z : state_size f ≡ n = cc in omega (arith, z, h f vs refl)

pub small_admitted : (file : List ℕ) (n : ℕ) → admission relay_loader file ≡ Ok n → n ≤ 32768
small_admitted file n e = small_verdict (judge relay_loader file) n (small_state file) e

-- ---- the ordering

module _ (buf buf' : List ℕ) (same : length buf ≡ length buf') where
  fits_by : (b : Bool) (n : Node) → order_text (order_fits b n buf) ≡ order_text (order_fits b n buf')
  fits_by true n = refl
  fits_by false n = refl

  ring_by : (o : Option ℕ) (n : ℕ × Node) → order_text (order_unless_ring o n buf) ≡ order_text (order_unless_ring o n buf')
  ring_by (some i) n = refl
  ring_by none n = ap (λ k. order_text (order_fits (eqb k (length n.1.equations)) n.1 buf)) same ∙ fits_by (eqb (length buf') (length n.1.equations)) n.1

  node_by : (o : Option (ℕ × Node)) → order_text (order_node o buf) ≡ order_text (order_node o buf')
  node_by none = refl
  node_by (some n) = ring_by (unplaced n.1.equations) n

  read_by : (r : Read File) (k : ℕ) → order_text (order_read r k buf) ≡ order_text (order_read r k buf')
  read_by (got f at) k = node_by (get_elem? (placed_nodes f) k)
  read_by (fault n p) k = refl

-- buffers of one length
pub same_order : (file : List ℕ) (k : ℕ) (buf buf' : List ℕ) → length buf ≡ length buf' → order_text (ordering relay_loader file k buf) ≡ order_text (ordering relay_loader file k buf')
unfolding ordering
same_order file k buf buf' e = read_by buf buf' e (read_file file relay_loader) k

the_node : (ns : List Node) (at k : ℕ) (n : ℕ × Node) → get_elem? (placed node_size at ns) k ≡ some n → (k < length ns) × (get_or ns k no_node ≡ n.1)
the_node [] at zero n e = let z : ◌≡◌ {A = ℕ} 0 1 = cc in absurd (omega arith)
the_node [] at (suc k) n e = let z : ◌≡◌ {A = ℕ} 0 1 = cc in absurd (omega arith)
the_node (x ∷ ns) at zero n e = let z : (at, x) ≡ n = cc in (omega arith, ap (λ (p : ℕ × Node). p.1) z)
the_node (x ∷ ns) at (suc k) n e = let w = the_node ns (at + node_size x) k n e in (omega (arith, w.0), w.1)

pub few_equations_lem : (file : List ℕ) (k : ℕ) → Bytes file → equations_of (read_file file relay_loader) k ≤ 80
few_equations_lem file k b = read (read_file file relay_loader) refl
  where
    node : (f : File) (at : ℕ) (o : Option (ℕ × Node)) → read_file file relay_loader ≡ got f at → get_elem? (placed_nodes f) k ≡ o → equations_in o ≤ 80
    node f at none e g = omega arith
    node f at (some n) e g =
        let w = the_node f.nodes (nodes_start f) k n g in
        subst (λ (x : Node). length x.equations ≤ 80) w.1 (node_at_lem (stands file f at b e) k w.0).few_equations

    read : (r : Read File) → read_file file relay_loader ≡ r → equations_of r k ≤ 80
    read (got f at) e = node f at (get_elem? (placed_nodes f) k) e refl
    read (fault n p) e = omega arith
