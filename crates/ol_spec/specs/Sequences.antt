-- The 1991 paper's `pre` and `->` on whole sequences of outcomes, over the instants of a list of cycles; and that the main instance's start values never come back. Types only:
-- proofs/Sequences proves the claims.
use Rattle.std.specs.Prelude.{ℕ, ◌<◌, Bool, false, cond, List, [], ◌∷◌, ◌++◌, map, ◌≡◌, length, take, drop, T}
use Rattle.std.proofs.Math.Option.{Option, none, some}
use Rattle.std.proofs.Math.ListN.{get_elem?}
use Rattle.ol_spec.specs.Lists.{maybe, member, concat}
use Rattle.ol_spec.specs.Syntax.{variable_cells, Node, File, Expr, bool_lit, var, if_then_else, main, variables, variable_names}
use Rattle.ol_spec.specs.Syntax as S
use Rattle.ol_spec.specs.Limits.{Loader}
use Rattle.ol_spec.specs.Eval.{Outcomes, Scope, Calls, failure, has_call, is_double?, real_kind, common_real, drop_failure, seg_size, eval, eval_cells}
use Rattle.ol_spec.specs.Types.{defaults}
use Rattle.ol_spec.specs.Step.{is_fresh, old_cells, scope}
use Rattle.ol_spec.specs.Admission.{constant_names, judge, admitted}
use Rattle.ol_spec.specs.State.{globals_of, fresh_state}
use Rattle.ol_spec.specs.Demand3.{Bytes, Turn, Made, history, given, Answered, main_record}
use Rattle.ol_spec.specs.Lustre.{pre, arrow, firstly, cells_before, Entries, eval_in, cells_in}
use Rattle.ol_spec.specs.declared.Value.{Value}
use Rattle.ol_spec.specs.declared.Outcome.{Outcome}
use Rattle.ol_spec.specs.declared.Outcome.TheVariants as Out
use Rattle.ol_spec.specs.declared.Cause.TheVariants as Why
use Rattle.ol_spec.specs.declared.Cycled.{Cycled}
use Rattle.ol_spec.specs.declared.Cycled.TheVariants as Cyc

-- the instants: the answered cycles, in turn
abbrev pub add_instant : Cycled → Made → List Made → List Made
add_instant Cyc.Answered m ms = m ∷ ms
add_instant (Cyc.Stopped x) m ms = ms
add_instant (Cyc.Refused x) m ms = ms

abbrev pub instants : List Made → List Made
instants [] = []
instants (m ∷ ms) = add_instant m.result.answer m (instants ms)

-- The outcome of a side beside the other one: a Float32 beside a Double is widened, and if the other has a call, its overflow counts. All else is the side's own outcome.
abbrev pub beside : Bool → Bool → Outcome → Outcome → Outcome
beside call double (Out.Value v) o = cond call (drop_failure (common_real double v) o) (Out.Value (common_real double v))
beside call double (Out.Failure c) o = Out.Failure c
beside call double Out.Overflow o = Out.Overflow

-- a nil is cold
abbrev pub or_nil : Option Outcomes → Outcomes
or_nil none = failure Why.Cold
or_nil (some o) = o

module _ (f : File) (vs : List Value) (ms : List Made) where
  -- the outcomes of an expression at the instants, each on the cells that its cycle gave and on a segment
  abbrev pub outcomes : Expr → (ℕ → List ℕ) → ℕ → Option Outcome
  outcomes e segs k = maybe none (λ m. some (eval_in f vs m (given f m) e (segs k)).out) (get_elem? (instants ms) k)

  -- and what its cells come to, be it a scalar or an array
  abbrev pub cell_outcomes : Expr → (ℕ → List ℕ) → ℕ → Option Outcomes
  cell_outcomes e segs k = maybe none (λ m. some (cells_in f vs m (given f m) e (segs k)).out) (get_elem? (instants ms) k)

  -- whether an expression counts as Double in a cycle
  abbrev pub double_in : Made → Expr → Bool
  double_in m e = let r = main_record f vs m.old in is_double? (real_kind (globals_of f vs) (scope (main f) (is_fresh r) (old_cells (main f) r) (given f m)) e)

  -- the outcomes of e beside o, at the instants
  abbrev pub sides : Expr → (ℕ → List ℕ) → Expr → (ℕ → List ℕ) → ℕ → Option Outcome
  sides e es o os k =
      maybe none (λ m. some (beside (has_call o) (double_in m o) (eval_in f vs m (given f m) e (es k)).out (eval_in f vs m (given f m) o (os k)).out)) (get_elem? (instants ms) k)

  -- the parts of the segments that the sides of `a -> b` have
  abbrev pub left_of : Expr → (ℕ → List ℕ) → ℕ → List ℕ
  left_of a segs i = take (seg_size (globals_of f vs) a) (segs i)

  abbrev pub right_of : Expr → (ℕ → List ℕ) → ℕ → List ℕ
  right_of a segs i = drop (seg_size (globals_of f vs) a) (segs i)

  -- The outcomes of `a -> b` are the paper's arrow of the outcomes of a beside b and of b beside a, each side on its part of the segment. Those of `pre x` are the paper's pre of
  -- the outcomes of x, for a main variable or a constant, scalar or array.
  pub record Sequences : Type 0 where
    pub arrows : (a b : Expr) (segs : ℕ → List ℕ) (k : ℕ)
        → outcomes (S.arrow a b) segs k ≡ arrow (sides a (left_of a segs) b (right_of a segs)) (sides b (right_of a segs) a (left_of a segs)) k
    pub pres : (x : ℕ) → T (member x (variable_names (main f) ++ constant_names f)) → (segs segs' : ℕ → List ℕ) (k : ℕ) → k < length (instants ms)
        → cell_outcomes (S.pre (var x)) segs k ≡ some (or_nil (pre (cell_outcomes (var x) segs') k))

-- ---- the instances of a node, over their instants

-- the cells of a node's variables at instant k of these sequences, the defaults where there are none
abbrev pub cells_at : List (List ℕ) → Node → (ℕ → ℕ → Option (List Value)) → ℕ → List Value
cells_at enums n xs k = concat (map (λ v. maybe (defaults enums (variable_cells v)) (λ w. w) (xs v.name k)) (variables n))

module _ (f : File) (vs : List Value) (calls : Calls) (n : Node) (xs : ℕ → ℕ → Option (List Value)) where
  -- what an instance sees at instant k of its sequences (`run_at` runs the equations there), once its step is finished
  abbrev pub scope_at : ℕ → Scope
  scope_at k = scope n (firstly k) (cells_before f.enums n xs k) (cells_at f.enums n xs k)

  -- the outcomes of an expression at the instants, each on a segment; and those of e beside o
  abbrev pub outcomes_at : Expr → (ℕ → List ℕ) → ℕ → Outcome
  outcomes_at e segs k = (eval (globals_of f vs) (scope_at k) calls e (segs k)).out

  abbrev pub cell_outcomes_at : Expr → (ℕ → List ℕ) → ℕ → Outcomes
  cell_outcomes_at e segs k = (eval_cells (globals_of f vs) (scope_at k) calls e (segs k)).out

  abbrev pub sides_at : Expr → (ℕ → List ℕ) → Expr → (ℕ → List ℕ) → ℕ → Outcome
  sides_at e es o os k = beside (has_call o) (is_double? (real_kind (globals_of f vs) (scope_at k) o)) (outcomes_at e es k) (outcomes_at o os k)

  -- as for the main instance
  pub record InstanceSequences : Type 0 where
    pub arrows : (a b : Expr) (segs : ℕ → List ℕ) (k : ℕ)
        → let left : ℕ → List ℕ = λ i. take (seg_size (globals_of f vs) a) (segs i) in
        let right : ℕ → List ℕ = λ i. drop (seg_size (globals_of f vs) a) (segs i) in
        outcomes_at (S.arrow a b) segs k ≡ arrow (sides_at a left b right) (sides_at b right a left) k
    pub pres : (x : ℕ) → T (member x (variable_names n ++ constant_names f)) → (segs segs' : ℕ → List ℕ) (k : ℕ)
        → cell_outcomes_at (S.pre (var x)) segs k ≡ or_nil (pre (λ i. some (cell_outcomes_at (var x) segs' i)) k)

-- in every instance of every node, whatever its sequences are, an entry being as many cells as its variable has (`CallRuns` of specs/Instances says at which instant of which sequences each call runs, and `AtPast` that they are such)
abbrev pub EveryInstance : File → List Value → Type 0
EveryInstance f vs = (k : ℕ) (n : Node) → get_elem? f.nodes k ≡ some n → (calls : Calls) (xs : ℕ → ℕ → Option (List Value)) → Entries n xs → InstanceSequences f vs calls n xs

unfoldable pub SequencesClaim : Loader → Type 0
SequencesClaim ld =
    (s : List ℕ) (f : File) (vs : List Value) (ts : List Turn) → Bytes s → judge ld s ≡ admitted f vs → Sequences f vs (history ld s ts (fresh_state f vs)) × EveryInstance f vs

-- a cycle at no first instant: every main arrow takes its second side
pub record NotFirst (f : File) (vs : List Value) (m : Made) : Type 0 where
  pub started : is_fresh (main_record f vs m.old) ≡ false
  pub takes : (a b : Expr) (cs : List Value) (seg : List ℕ) → eval_in f vs m cs (S.arrow a b) seg ≡ eval_in f vs m cs (if_then_else (bool_lit false) a b) seg

-- behind an answered cycle, whatever lies between, a cycle of the list is at no first instant
abbrev pub NeverReturns : File → List Value → List Made → Type 0
NeverReturns f vs ms =
    (earlier : List Made) (x : Made) (between : List Made) (m : Made) (later : List Made) → ms ≡ earlier ++ x ∷ (between ++ m ∷ later) → Answered x → NotFirst f vs m
