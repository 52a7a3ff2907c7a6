-- The start: its ways out, and the fresh state put together.
use Prim.Native.Nat.{ℕ, suc, ◌+◌, ◌*◌, ◌<◌, ◌≤◌}
use mathlib.Core.Bool.{Bool, true, false}
use mathlib.Core.List.{List, ◌++◌}
use mathlib.Core.Path.{◌≡◌, refl, ap, sym, subst, ◌∙◌}
use native.Mathlib.Omega.{arith}
use lib.Dec.{T, eqb, eqb→eq, eqb_refl}
use lib.ListN.{length, take, drop, get_or, length-append, length-drop}
use lib.Seq.{take_at, length-take-le}
use Rattle.ol_spec.specs.Limits.{relay_loader}
use Rattle.ol_spec.specs.Syntax.{File, Node, NodeKind, Function, Operator, Imported, no_node, main}
use Rattle.ol_spec.specs.Cell.{cells}
use Rattle.ol_spec.specs.Answers.{Started, fault_at, started_fault}
use Rattle.ol_spec.specs.Step.{instance_size, site_size_by, sizes_at, fresh_at, fresh_record}
use Rattle.ol_spec.specs.State.{globals_of, fresh_state}
use Rattle.ol_spec.specs.Admission as Adm
use Rattle.ol_spec.specs.Cycle.{StartCall, start, start_judged, start_fits}
use Rattle.std.specs.Prelude.{Ok, Err}
use Rattle.ol_spec.specs.declared.Fault.{Fault}
use Rattle.ol_spec.specs.declared.Value.{Value}
use Rattle.ol_spec.proofs.Cells.{length_cells}
use Rattle.ol_spec.proofs.MainFacts.{main_at_lem}
use Rattle.ol_spec.proofs.Calls.{site_size_lem}
use Rattle.ol_tables.specs.At.{file_at}
use Rattle.ol_tables.specs.Stands.{FileReads}
use Rattle.ol_tables.specs.Tables.{node_of, site_bytes}
use Rattle.ol_tables.specs.Table.{tab_of, rows_of, known_of, consts_of}
use Rattle.ol_state.specs.Known.{Sited}
use Rattle.ol_state.proofs.FreshRecords.{fresh_record_lem}
use Rattle.ol_sim.specs.Calls.{StartsAs}
use Rattle.ol_sim.specs.Judging.{Judges, Admits, values_in, from6, whole}
use Rattle.ol_sim.specs.Starting.{StartReady}
use Rattle.ol_sim.specs.Answering.{AnswerReady}
use Rattle.ol_sim.specs.declared.judge.Admitted.{Admitted}
use Rattle.ol_sim.proofs.Begins.{judge_is}
use Rattle.ol_tables.proofs.Lending.{tail_of, put_tail, put_tail_lem, tail_all}

-- ---- equal lengths, decided

T_true : (b : Bool) → T b → b ≡ true
T_true true t = refl
T_true false t = absurd t

pub eqb_same : (m n : ℕ) → m ≡ n → eqb m n ≡ true
eqb_same m n e = subst (λ x. eqb m x ≡ true) e (T_true (eqb m m) (eqb_refl m))

pub eqb_other : (m n : ℕ) → (m ≡ n → ⊥) → eqb m n ≡ false
eqb_other m n h = go (eqb m n) (λ t. h (eqb→eq m n t))
  where
    go : (b : Bool) → (T b → ⊥) → b ≡ false
    go true k = absurd (k tt)
    go false k = refl

-- ---- what was judged

module _ {s t : List ℕ} (r : FileReads s) where
  pub admits_of : {a : Admitted} → Judges s (from6 (file_at s)) (Admits s t) (Ok a) → Admits s t a.size a.main
  admits_of h = h.is.1

  pub judged_whole : {a : Admitted} → Judges s (from6 (file_at s)) (Admits s t) (Ok a) → Adm.judge relay_loader s ≡ whole (file_at s)
  judged_whole h = judge_is s r ∙ h.is.0

  pub judged_refused : {x : Fault} → Judges s (from6 (file_at s)) (Admits s t) (Err x) → Adm.judge relay_loader s ≡ Adm.refused x.number x.place
  judged_refused h = judge_is s r ∙ h.is

-- ---- the ways out

as_call : {w : StartCall} {a : Started} {t : List ℕ} (v : StartCall) → w ≡ v → a ≡ v.answer → t ≡ v.state → StartsAs w a t
as_call v e p q =
    let a = p ∙ sym (ap (λ (c : StartCall). c.answer) e) in
    record { answered = a; told = ap started_fault a; written = q ∙ sym (ap (λ (c : StartCall). c.state) e) }

pub starts_refused : (s : List ℕ) (st : List ℕ) {x : Fault} → Adm.judge relay_loader s ≡ Adm.refused x.number x.place → StartsAs (start relay_loader s st) (Err x) st
unfolding start
starts_refused s st {x} e = as_call (start_judged (Adm.refused x.number x.place) st) (ap (λ j. start_judged j st) e) refl refl

pub starts_whole : (s : List ℕ) (st : List ℕ) {r : Started} {t : List ℕ} → Adm.judge relay_loader s ≡ whole (file_at s) → StartsAs (start_judged (whole (file_at s)) st) r t → StartsAs (start relay_loader s st) r t
unfolding start
starts_whole s st e h = as_call (start_judged (whole (file_at s)) st) (ap (λ j. start_judged j st) e) h.answered h.written

pub starts_done : (f : File) (st : List ℕ) {t : List ℕ} → length st ≡ Adm.state_size f → t ≡ fresh_state f (values_in f) → StartsAs (start_judged (whole f) st) (Ok tt) t
starts_done f st l q =
    as_call (start_fits true f (values_in f) st) (ap (λ b. start_fits b f (values_in f) st) (eqb_same (length st) (Adm.state_size f) l)) refl q

pub starts_unfit : (f : File) (st : List ℕ) → (length st ≡ Adm.state_size f → ⊥) → StartsAs (start_judged (whole f) st) (Err (fault_at 17 0)) st
starts_unfit f st l =
    as_call (start_fits false f (values_in f) st) (ap (λ b. start_fits b f (values_in f) st) (eqb_other (length st) (Adm.state_size f) l)) refl refl

-- ---- the main node

pub main_is : (f : File) (m : ℕ) → suc m ≡ length f.nodes → main f ≡ node_of f m
main_is f m e = main_at_lem f.nodes (omega (arith, e)) ∙ ap (λ i. get_or f.nodes i no_node) (omega (arith, e))

operator_kind : (k : NodeKind) (f : File) → Adm.at_main f (mathlib.Core.Bool.not (Adm.is_operator k)) ≡ mathlib.Core.Option.none → k ≡ Operator
operator_kind Operator f e = refl
operator_kind Function f e = absurd (some_none e)
  where
    some_none : {n : ℕ} → mathlib.Core.Option.some n ≡ mathlib.Core.Option.none → ⊥
    some_none e = let z : ◌≡◌ {A = ℕ} 1 0 = ap (λ o. Rattle.ol_spec.specs.Lists.maybe 0 (λ x. 1) o) e in omega arith
operator_kind Imported f e = absurd (some_none e)
  where
    some_none : {n : ℕ} → mathlib.Core.Option.some n ≡ mathlib.Core.Option.none → ⊥
    some_none e = let z : ◌≡◌ {A = ℕ} 1 0 = ap (λ o. Rattle.ol_spec.specs.Lists.maybe 0 (λ x. 1) o) e in omega arith

pub main_operator : (f : File) (m : ℕ) → suc m ≡ length f.nodes → Adm.fault14 f ≡ mathlib.Core.Option.none → (node_of f m).kind ≡ Operator
main_operator f m e no14 = ap (λ (n : Node). n.kind) (sym (main_is f m e)) ∙ operator_kind (main f).kind f no14

-- as many bytes as the table says
pub consts_full : {s t : List ℕ} {size m : ℕ} → AnswerReady s t size m → length (consts_of t) ≡ 9 * known_of t
consts_full {s} h = ap length h.held.is ∙ length_cells (values_in (file_at s)) ∙ ap (λ i. 9 * i) (sym h.held.counted)

-- what writing the fresh state is told
pub start_ready : {s t : List ℕ} {size m : ℕ} (state : List ℕ) → AnswerReady s t size m → length state ≡ size → StartReady s t m state
start_ready state h e =
    record {
      known = h.running.known;
      held = h.held.is;
      long = h.long;
      full = consts_full h;
      last = h.last;
      operator = h.operator;
      sized = e ∙ h.sized;
      small = omega (arith, e, h.small);
    }

-- ---- lengths

state_is : (f : File) → Adm.state_size f ≡ Adm.head_size f + instance_size (sizes_at (length f.nodes) f.nodes) (main f)
unfolding Adm.state_size
state_is f = refl

-- ---- the fresh state

-- n bytes are before the main record
module _ {s t : List ℕ} {m : ℕ} {state : List ℕ} (h : StartReady s t m state) (n : ℕ) (front : n ≡ length (consts_of t)) where
  main_below : m < length (file_at s).nodes
  main_below = omega (arith, h.last)

  -- the main instance's record is that of a call site
  site_is : site_bytes (file_at s) m ≡ instance_size (sizes_at (length (file_at s).nodes) (file_at s).nodes) (main (file_at s))
  site_is =
      site_size_lem (file_at s).nodes h.known.lower m main_below ∙ ap (λ t. site_size_by t (sizes_at (length (file_at s).nodes) (file_at s).nodes) (node_of (file_at s) m)) h.operator
      ∙ ap (instance_size (sizes_at (length (file_at s).nodes) (file_at s).nodes)) (sym (main_is (file_at s) m h.last))

  pub consts_fit : n ≤ length state
  consts_fit = omega (arith, front, h.long, h.sized, state_is (file_at s))

  pub front_long : length (take n state) ≡ n
  front_long = length-take-le n state consts_fit

  -- the state with the constants' cells in it
  pub begun_long : {x : List ℕ} → x ≡ consts_of t → length (x ++ drop n state) ≡ length state
  begun_long {x} e = length-append x (drop n state) ∙ omega (arith, ap length e, front, length-drop n state, consts_fit)

  pub rest_sited : {x : List ℕ} → x ≡ consts_of t → Sited (file_at s) s (tab_of t) (rows_of t) m (tail_of n (x ++ drop n state))
  rest_sited {x} e =
      let st = x ++ drop n state in
      let long : length (tail_of n st) ≡ site_bytes (file_at s) m =
      ap length (tail_all n st) ∙ length-drop n st ∙ omega (arith, begun_long e, front, h.long, h.sized, state_is (file_at s), site_is) in
      record { known = h.known; below = main_below; sized = long; small = omega (arith, long, site_is, h.sized, h.small, state_is (file_at s)) }

  pub fresh_whole : {x : List ℕ} (y : List ℕ) → x ≡ consts_of t → ((vs : List Value) → y ≡ fresh_at (globals_of (file_at s) vs) (length (file_at s).nodes) m) → put_tail n (x ++ drop n state) y ≡ fresh_state (file_at s) (values_in (file_at s))
  unfolding fresh_state
  fresh_whole {x} y e q =
      let vs = values_in (file_at s) in
      let g = globals_of (file_at s) vs in
      put_tail_lem n (x ++ drop n state) y
      ∙ ap (λ l. l ++ y) (take_at x (drop n state) n (ap length e ∙ sym front) ∙ e ∙ h.held)
      ∙ ap (λ l. cells vs ++ l) (q vs ∙ fresh_record_lem (file_at s) vs h.known.lower m main_below h.operator ∙ ap (fresh_record g) (sym (main_is (file_at s) m h.last)))
