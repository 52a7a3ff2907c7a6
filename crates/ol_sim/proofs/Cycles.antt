-- The cycle: its ways out.
use Prim.Native.Nat.{ℕ, ◌*◌}
use mathlib.Core.Bool.{Bool, true, false, not, ◌&&◌}
use mathlib.Core.List.{List}
use mathlib.Core.Path.{◌≡◌, refl, ap, sym, ◌∙◌}
use native.Mathlib.Omega.{arith}
use lib.Dec.{eqb, T, eqb→eq}
use lib.ListN.{length}
use Rattle.ol_spec.specs.Limits.{relay_loader}
use Rattle.ol_spec.specs.Syntax.{File, Node, main}
use Rattle.ol_spec.specs.Answers.{fault_at, cycled_fault}
use Rattle.ol_spec.specs.Step.{cell_count, input_count}
use Rattle.ol_spec.specs.State.{good_state, good_inputs}
use Rattle.ol_spec.specs.Admission as Adm
use Rattle.ol_spec.specs.Cycle.{CycleCall, cycle, cycle_judged, cycle_unless, fits17, no_cycle, end_run, main_run}
use Rattle.ol_spec.specs.declared.Cycled.{Cycled}
use Rattle.ol_spec.specs.declared.Cycled.TheVariants as Cyc
use Rattle.ol_spec.specs.declared.Fault.{Fault}
use Rattle.ol_tables.specs.At.{file_at}
use Rattle.ol_tables.specs.Tables.{Variants, count_at}
use Rattle.ol_tables.specs.Table.{tab_of, rows_of, known_of, consts_of}
use Rattle.ol_state.specs.Ready.{Ready}
use Rattle.ol_run.specs.MainCycle.{RunReady, Cycles}
use Rattle.ol_sim.specs.Calls.{CyclesAs}
use Rattle.ol_sim.specs.Judging.{values_in, whole}
use Rattle.ol_sim.specs.Answering.{AnswerReady}
use Rattle.ol_sim.proofs.Starts.{main_is, consts_full, eqb_same, eqb_other}

as_call : {w : CycleCall} {r : Cycled} {n t : List ℕ} (v : CycleCall) → w ≡ v → CyclesAs v r n t → CyclesAs w r n t
as_call v e h =
    record {
      answered = h.answered ∙ sym (ap (λ (c : CycleCall). c.answer) e);
      told = h.told ∙ sym (ap (λ (c : CycleCall). cycled_fault c.answer) e);
      renewed = h.renewed ∙ sym (ap (λ (c : CycleCall). c.new) e);
      valued = h.valued ∙ sym (ap (λ (c : CycleCall). c.values) e);
    }

-- a refusal writes nothing
refused_as : {r : Cycled} (n p : ℕ) (new vals : List ℕ) → r ≡ Cyc.Refused (fault_at n p) → CyclesAs (no_cycle n p new vals) r new vals
refused_as n p new vals e = record { answered = e; told = ap cycled_fault e; renewed = refl; valued = refl }

-- ---- 15, 16 and 17

module _ (f : File) (old ins new vals : List ℕ) where
  bools : (a b c : Bool) → good_state f (values_in f) old ≡ a → good_inputs f ins ≡ b → fits17 f new vals ≡ c → cycle_judged (whole f) old ins new vals ≡ cycle_unless (not a) (not b) (not c) f (values_in f) old ins new vals
  bools a b c p q t =
      ap (λ x. cycle_unless (not x) (not (good_inputs f ins)) (not (fits17 f new vals)) f (values_in f) old ins new vals) p
      ∙ ap (λ x. cycle_unless (not a) (not x) (not (fits17 f new vals)) f (values_in f) old ins new vals) q
      ∙ ap (λ x. cycle_unless (not a) (not b) (not x) f (values_in f) old ins new vals) t

module _ (f : File) (old ins new vals : List ℕ) {r : Cycled} where
  pub unless_15 : good_state f (values_in f) old ≡ false → r ≡ Cyc.Refused (fault_at 15 0) → CyclesAs (cycle_judged (whole f) old ins new vals) r new vals
  unless_15 p e = as_call (no_cycle 15 0 new vals) (bools f old ins new vals false _ _ p refl refl) (refused_as 15 0 new vals e)

  pub unless_16 : good_state f (values_in f) old ≡ true → good_inputs f ins ≡ false → r ≡ Cyc.Refused (fault_at 16 0) → CyclesAs (cycle_judged (whole f) old ins new vals) r new vals
  unless_16 p q e = as_call (no_cycle 16 0 new vals) (bools f old ins new vals true false _ p q refl) (refused_as 16 0 new vals e)

  pub unless_17 : good_state f (values_in f) old ≡ true → good_inputs f ins ≡ true → fits17 f new vals ≡ false → r ≡ Cyc.Refused (fault_at 17 0) → CyclesAs (cycle_judged (whole f) old ins new vals) r new vals
  unless_17 p q t e = as_call (no_cycle 17 0 new vals) (bools f old ins new vals true true false p q t) (refused_as 17 0 new vals e)

  pub unless_run : {n v : List ℕ} → good_state f (values_in f) old ≡ true → good_inputs f ins ≡ true → fits17 f new vals ≡ true → Cycles (end_run f old vals (main_run f (values_in f) old ins)) r n v → CyclesAs (cycle_judged (whole f) old ins new vals) r n v
  unless_run p q t h =
      as_call (end_run f old vals (main_run f (values_in f) old ins)) (bools f old ins new vals true true true p q t) (record { answered = h.answered; told = ap cycled_fault h.answered; renewed = h.renewed; valued = h.valued })

-- ---- lengths

module _ {s t : List ℕ} {size m : ℕ} (h : AnswerReady s t size m) where
  -- the main node's cells, by its number
  pub cells_width : {n : ℕ} → n ≡ count_at (tab_of t) m 3 → n ≡ cell_count (main (file_at s))
  cells_width e = e ∙ (h.tables.tabled.tabs_of m (omega (arith, h.last))).cells ∙ ap cell_count (sym (main_is (file_at s) m h.last))

  pub fits_yes : {n : ℕ} (new vals : List ℕ) → n ≡ count_at (tab_of t) m 3 → length new ≡ size → length vals ≡ 9 * n → fits17 (file_at s) new vals ≡ true
  fits_yes new vals e a b =
      ap (λ x. x && eqb (length vals) (9 * cell_count (main (file_at s)))) (eqb_same (length new) (Adm.state_size (file_at s)) (a ∙ h.sized))
      ∙ eqb_same (length vals) (9 * cell_count (main (file_at s))) (b ∙ ap (λ n. 9 * n) (cells_width e))

  pub fits_new : (new vals : List ℕ) → (length new ≡ size → ⊥) → fits17 (file_at s) new vals ≡ false
  fits_new new vals a = ap (λ x. x && eqb (length vals) (9 * cell_count (main (file_at s)))) (eqb_other (length new) (Adm.state_size (file_at s)) (λ e. a (e ∙ sym h.sized)))

  pub fits_values : {n : ℕ} (new vals : List ℕ) → n ≡ count_at (tab_of t) m 3 → length new ≡ size → (length vals ≡ 9 * n → ⊥) → fits17 (file_at s) new vals ≡ false
  fits_values new vals e a b =
      ap (λ x. x && eqb (length vals) (9 * cell_count (main (file_at s)))) (eqb_same (length new) (Adm.state_size (file_at s)) (a ∙ h.sized))
      ∙ eqb_other (length vals) (9 * cell_count (main (file_at s))) (λ q. b (q ∙ ap (λ n. 9 * n) (sym (cells_width e))))

-- ---- what was judged

pub cycle_whole : (s old ins new vals : List ℕ) {r : Cycled} {n v : List ℕ} → Adm.judge relay_loader s ≡ whole (file_at s) → CyclesAs (cycle_judged (whole (file_at s)) old ins new vals) r n v → CyclesAs (cycle relay_loader s old ins new vals) r n v
unfolding cycle
cycle_whole s old ins new vals e h = as_call (cycle_judged (whole (file_at s)) old ins new vals) (ap (λ j. cycle_judged j old ins new vals) e) h

pub cycle_refused : (s old ins new vals : List ℕ) {x : Fault} → Adm.judge relay_loader s ≡ Adm.refused x.number x.place → CyclesAs (cycle relay_loader s old ins new vals) (Cyc.Refused x) new vals
unfolding cycle
cycle_refused s old ins new vals {x} e = as_call (no_cycle x.number x.place new vals) (ap (λ j. cycle_judged j old ins new vals) e) (refused_as x.number x.place new vals refl)

-- ---- what 15 and 16 say of lengths

and_left : (a b : Bool) → (a && b) ≡ true → a ≡ true
and_left true b e = refl
and_left false b e = e

true_t : (b : Bool) → b ≡ true → T b
true_t true e = tt
true_t false e = let z : ◌≡◌ {A = ℕ} 0 1 = ap (λ x. mathlib.Core.Bool.cond x 1 0) e in absurd (omega arith)

pub old_long : (f : File) (old : List ℕ) → good_state f (values_in f) old ≡ true → length old ≡ Adm.state_size f
unfolding good_state
old_long f old e = eqb→eq (length old) (Adm.state_size f) (true_t _ (and_left (eqb (length old) (Adm.state_size f)) _ (and_left _ _ e)))

pub inputs_long : (f : File) (ins : List ℕ) → good_inputs f ins ≡ true → length ins ≡ 9 * input_count (main f)
unfolding good_inputs
inputs_long f ins e = eqb→eq (length ins) (9 * input_count (main f)) (true_t _ (and_left (eqb (length ins) (9 * input_count (main f))) _ e))

-- what the main instance's run is told
pub run_ready : {s t : List ℕ} {size m : ℕ} {n : ℕ} (old ins new vals : List ℕ) → AnswerReady s t size m → good_state (file_at s) (values_in (file_at s)) old ≡ true → good_inputs (file_at s) ins ≡ true → n ≡ count_at (tab_of t) m 3 → length new ≡ size → length vals ≡ 9 * n → RunReady s (tab_of t) (rows_of t) (known_of t) (consts_of t) m old ins new vals
run_ready {s} {t} {size} {m} old ins new vals h p q e a b =
    record {
      running = h.running;
      last = h.last;
      head = h.long;
      full = consts_full h;
      sized = old_long (file_at s) old p;
      small = omega (arith, old_long (file_at s) old p, h.sized, h.small);
      given = inputs_long (file_at s) ins q ∙ ap (λ (n : Node). 9 * input_count n) (main_is (file_at s) m h.last);
      renewed = a ∙ h.sized ∙ sym (old_long (file_at s) old p);
      told = b ∙ ap (λ k. 9 * k) (e ∙ (h.tables.tabled.tabs_of m (omega (arith, h.last))).cells);
    }

-- what 15 is told
pub state_ready : {s t names : List ℕ} {size m : ℕ} → AnswerReady s t size m → Variants (file_at s) names → Ready (file_at s) s (tab_of t) (rows_of t) names (known_of t) (consts_of t)
state_ready {s} {m = m} h tells =
    record {
      known = h.running.known;
      names = tells;
      operator = ap (λ (n : Node). n.kind) (main_is (file_at s) m h.last) ∙ h.operator;
      small = omega (arith, h.sized, h.small);
      head = h.long;
      full = consts_full h;
    }
