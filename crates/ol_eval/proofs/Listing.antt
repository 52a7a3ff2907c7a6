-- Laws of the items of a literal and of a Tuple, which stand behind their number.
use Prim.Native.Nat.{ℕ, ◌+◌, ◌*◌, ◌≤◌, ◌<◌}
use mathlib.Core.Bool.{Bool, cond}
use mathlib.Core.List.{List}
use mathlib.Core.Path.{◌≡◌, sym, ap, subst, ◌∙◌}
use native.Mathlib.Omega.{arith}
use borrow.Author.Tests.{lt-ltb}
use lib.Dec.{eqb}
use lib.ListN.{length, take, get_or}
use Rattle.std.specs.Prelude.{Option, Some, None, MatchOption}
use Rattle.ol_spec.specs.Cell.{values_of}
use Rattle.ol_spec.specs.Eval.{Outcomes, values, failure, overflow}
use Rattle.ol_tables.specs.At.{ends_at}
use Rattle.ol_frame.specs.Equations.{arrays_count, arrays_start}
use Rattle.ol_frame.specs.Plans.{segs_at}
use Rattle.ol_frame.specs.declared.outcomes.Ending.{Ending}
use Rattle.ol_frame.proofs.Equating.{other_arrays}
use Rattle.ol_eval.specs.Post.{Ready}
use Rattle.ol_eval.specs.Calls.{Holds, as_is, RanTo, callee_at, passed_all, all_cells, all_in, Several, PassedTo, AllTo}
use Rattle.ol_eval.specs.declared.eval.Step.{Step}
use Rattle.ol_eval.proofs.Calling.{parts_by, next_by}

-- so many items stand behind the two bytes at `at`, which is no call
pub record Listed (file : List ℕ) (at : ℕ) : Type 0 where
  pub count : arrays_count file at ≡ get_or file (at + 1) 0
  pub start : arrays_start file at ≡ at + 2
  pub callee : callee_at file at ≡ None

module _ (file : List ℕ) (at : ℕ) where
  -- the callee that a code tells
  abbrev pub callee_by : ℕ → Option ℕ
  callee_by c = cond (eqb c 11) (Some (get_or file (at + 1) 0)) None

  pub literal_listed : get_or file at 0 ≡ 14 → at < length file → Listed file at
  literal_listed b l =
      let o = other_arrays file at (λ e. omega (arith, b, e)) in
      record { count = o.0 ∙ ap (parts_by file at) b; start = o.1 ∙ (λ j. next_by file at (lt-ltb at (length file) l j) (b j)); callee = ap callee_by b }

  pub tuple_listed : get_or file at 0 ≡ 12 → at < length file → Listed file at
  tuple_listed b l =
      let o = other_arrays file at (λ e. omega (arith, b, e)) in
      record { count = o.0 ∙ ap (parts_by file at) b; start = o.1 ∙ (λ j. next_by file at (lt-ltb at (length file) l j) (b j)); callee = ap callee_by b }

module _ {file : List ℕ} {at : ℕ} (h : Listed file at) where
  abbrev items : ℕ
  items = get_or file (at + 1) 0

  -- they can be evaluated
  pub listed_ready : {tab rows consts : List ℕ} {level node : ℕ} {cells before old new : List ℕ} → Ready file tab rows consts level (get_or file (at + 1) 0) (at + 2) node cells before old new → Ready file tab rows consts level (arrays_count file at) (arrays_start file at) node cells before old new
  listed_ready {tab} {rows} {consts} {level} {node} {cells} {before} {old} {new} p =
      subst (λ (m : ℕ). Ready file tab rows consts level m (arrays_start file at) node cells before old new) (sym h.count)
      (subst (λ (a : ℕ). Ready file tab rows consts level items a node cells before old new) (sym h.start) p)

  pub listed_several : (node level free : ℕ) → at + 2 ≤ length file → get_or file (at + 1) 0 ≤ 32 → 9 * all_cells file node level (get_or file (at + 1) 0) (at + 2) ≤ free → Several file node level at free
  listed_several node level free i f g =
      record {
        inside = omega (arith, i);
        few = omega (arith, f, h.count);
        given = subst (λ (m : ℕ). 9 * all_cells file node level m (arrays_start file at) ≤ free) (sym h.count) (subst (λ (a : ℕ). 9 * all_cells file node level items a ≤ free) (sym h.start) g);
        small = subst (λ (o : Option ℕ). MatchOption o (Unit {0}) (λ k. k < 32)) (sym h.callee) tt;
        called = subst
            (λ (o : Option ℕ).
            MatchOption o (Unit {0})
            (λ k. (k < Rattle.ol_frame.specs.Walk.nodes_in file) × Rattle.ol_eval.specs.Calls.SuitAt file node level (arrays_count file at) (arrays_start file at) (Rattle.ol_tables.specs.At.node_in file k).inputs)) (sym h.callee) tt;
      }

  -- and were
  pub listed_all : (consts : List ℕ) (level node : ℕ) (first : Bool) (cells before old : List ℕ) {r : Step Ending} (to : List ℕ) {new : List ℕ} → AllTo file consts level at node first cells before old r to new
      → RanTo as_is (all_in file consts level (get_or file (at + 1) 0) (at + 2) node first cells before (take (segs_at file level (get_or file (at + 1) 0) (at + 2)) old)) (ends_at file level (get_or file (at + 1) 0) (at + 2)) (segs_at file level (get_or file (at + 1) 0) (at + 2)) old r
      (values_of (all_cells file node level (get_or file (at + 1) 0) (at + 2)) to) new
  listed_all consts level node first cells before old {r} to {new} a =
      let c = subst (λ (o : Option ℕ). PassedTo file consts o (arrays_count file at) level (arrays_start file at) node first cells before old r to new) h.callee a.0 in
      let m = subst (λ (n : ℕ). PassedTo file consts None n level (arrays_start file at) node first cells before old r to new) h.count c in
      let b = subst (λ (s : ℕ). PassedTo file consts None items level s node first cells before old r to new) h.start m in
      record { end_is = b.end_is; next_is = b.next_is; used_is = b.used_is; values_are = plain (all_in file consts level items (at + 2) node first cells before (take (segs_at file level items (at + 2)) old)).out b.values_are; state = b.state }
    where
      plain : (o : Outcomes) → Holds (passed_all file None) o (values_of (all_cells file node level (get_or file (at + 1) 0) (at + 2)) to) → Holds as_is o (values_of (all_cells file node level (get_or file (at + 1) 0) (at + 2)) to)
      plain (values vs) h = h
      plain (failure d) h = tt
      plain overflow h = tt
