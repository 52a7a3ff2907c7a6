-- Laws of a call: its arguments, then its callee on the call site's record.
use Prim.Native.Nat.{ℕ, ◌+◌, ◌-◌, ◌*◌, ◌≤◌, ◌<◌}
use mathlib.Core.Bool.{Bool, true, false, cond}
use Rattle.std.specs.Prelude.{Option as Callee, Some, None, MatchOption, ◌&&◌}
use mathlib.Core.Option.{none, some}
use mathlib.Core.Option.{Option as Maybe}
use mathlib.Core.List.{List, [], ◌∷◌, ◌++◌, map, append_assoc}
use mathlib.Core.Path.{◌≡◌, refl, sym, ap, subst, ◌∙◌}
use native.Mathlib.Omega.{arith}
use lib.Dec.{T, ltb, eqb, eqb→eq}
use borrow.Author.Tests.{lt-ltb}
use lib.ListN.{length, take, drop, get_or, length-append, length-drop}
use lib.Seq.{take-take, drop-drop, length-take-le}
use Rattle.ol_spec.specs.Syntax.{NodeKind, Function, Operator, Imported, File, Node, Variable, variables, cell_types, variable_cells, length_in, call, Exprs, nil, cons, count, rhs_of}
use Rattle.ol_spec.specs.Lists.{maybe}
use Rattle.ol_spec.specs.Shapes.{Sized, arrays_in, constant_arrays, shape}
use Rattle.ol_spec.proofs.Forms.{uses_all, cells_all}
use Rattle.ol_spec.proofs.Slots.{type_cells_lem}
use Rattle.ol_spec.proofs.Tests.{T_and}
use Rattle.ol_spec.specs.Cell.{values_of}
use Rattle.ol_spec.specs.Eval.{Outcomes, values, failure, overflow, Evals, callees, callees_all, sites_size, enter, enter_on, eval_all, eval_rhs}
use Rattle.ol_spec.specs.Step.{fit_all, input_count, calls}
use Rattle.ol_spec.specs.Admission.{may_call, scalars, takes, under, under_variable}
use Rattle.ol_spec.specs.declared.Value.{Value}
use Rattle.ol_tables.specs.At.{file_at, node_in, expr_at, end_at, exprs_at, ends_at}
use Rattle.ol_tables.specs.Tables.{Each, row_at, site_bytes}
use Rattle.ol_tables.specs.Heads.{parts_table, sizes_table, ty_size_at, iterator_parts_at}
use Rattle.ol_tables.specs.Walks.{skip_at}
use Rattle.ol_frame.specs.Equations.{arrays_count, arrays_start}
use Rattle.ol_frame.specs.Shapes.{takes_in, takes_all_of}
use Rattle.ol_frame.proofs.Shaping.{count_read}
use Rattle.ol_eval.specs.Fitting.{Suit}
use Rattle.ol_eval.proofs.Readying.{calls_form}
use Rattle.ol_tables.proofs.Forms.{Formed, callees_form, call_form}
use Rattle.ol_frame.specs.Walk.{nodes_in, sizes_in}
use Rattle.ol_frame.specs.Plans.{globals_in, scope_in, segs_at, seg_at}
use Rattle.ol_frame.specs.Nodes.{Running, Enters}
use Rattle.ol_eval.specs.Post.{Ready}
use Rattle.ol_frame.specs.Outcomes.{ending_of}
use Rattle.ol_frame.specs.declared.outcomes.Ending.{Ending}
use Rattle.ol_frame.specs.declared.outcomes.Ending.TheVariants as End
use Rattle.ol_eval.specs.Calls.{Holds, as_is, RanTo, Did, all_in, all_cells, SuitAt, PassedTo, Several, AllTo, callee_at, callee_cells, outputs_at, rhs_eval, EntersTo, Steppable, SiteTo}
use Rattle.ol_eval.specs.declared.eval.Step.{Step}
use Rattle.ol_tables.proofs.Lending.{tail_of, put_tail, tail_all, put_tail_lem, take_put, drop_put, drop_take}
use Rattle.ol_frame.proofs.Endings.{failed_values, over_values}
use Rattle.ol_frame.proofs.Passing.{row_size}
use Rattle.ol_frame.proofs.Planning.{Callee as Called, plan_head, plan_parts, plan_suited, plan_call, segs_one}

-- ---- how several values end

with_values : (o : Outcomes) → ending_of o ≡ End.Values → (vs : List Value) × (o ≡ values vs)
with_values (values vs) e = (vs, refl)
with_values (failure c) e = failed_values refl e
with_values overflow e = over_values refl e

no_values : (make : List Value → List Value) (got : List Value) (o : Outcomes) → ¬ (ending_of o ≡ End.Values) → Holds make o got
no_values make got (values vs) h = absurd (h refl)
no_values make got (failure c) h = tt
no_values make got overflow h = tt

enter_ran : (K : List Value → List ℕ → Evals) (own : List ℕ) (A : Evals) (vs : List Value) → A.out ≡ values vs → enter K own A ≡ record { out = (K vs own).out; seg = (K vs own).seg ++ A.seg }
unfolding enter
enter_ran K own A vs e = ap (λ (o : Outcomes). enter_on K own o A.seg) e

enter_not : (K : List Value → List ℕ → Evals) (own : List ℕ) (A : Evals) → ¬ (ending_of A.out ≡ End.Values) → enter K own A ≡ record { out = A.out; seg = own ++ A.seg }
unfolding enter
enter_not K own A h = go A.out h
  where
    go : (o : Outcomes) → ¬ (ending_of o ≡ End.Values) → enter_on K own o A.seg ≡ record { out = o; seg = own ++ A.seg }
    go (values vs) h = absurd (h refl)
    go (failure c) h = refl
    go overflow h = refl

-- the arguments succeeded, and the callee was called
pub enter_done : {make : List Value → List Value} {A : Evals} {x m n : ℕ} {s new new₁ new_s : List ℕ} {a : Step Ending} {got got₂ : List Value} {e : Ending} (K : List Value → List ℕ → Evals) (u : ℕ) → RanTo make A x m (drop n s) a got new₁ → a.out ≡ End.Values → ((vs : List Value) → got ≡ make vs → Did as_is (K vs (take n s)) e got₂ new_s) → new ≡ s → u ≡ n → n ≤ length s → RanTo as_is (enter K (take n s) A) x (n + m) s (record { out = e; next = a.next; used = u + a.used }) got₂ (new_s ++ drop u (put_tail u new new₁))
enter_done {make} {A} {x} {m} {n} {s} {new} {new₁} {new_s} {a} {got} {got₂} {e} K u h z k same ue le =
    let v = with_values A.out (sym h.end_is ∙ z) in
    let vs = v.0 in
    let d : Did as_is (K vs (take n s)) e got₂ new_s = k vs (subst (λ (o : Outcomes). Holds make o got) v.1 h.values_are) in
    let E = enter_ran K (take n s) A vs v.1 in
    let b : drop u (put_tail u new new₁) ≡ A.seg ++ drop (n + m) s = drop_put u new new₁ (omega (arith, ap length same)) ∙ h.state ∙ ap (λ (l : List ℕ). A.seg ++ l) (drop-drop m n s) in
    record {
      end_is = d.end_is ∙ ap (λ (w : Evals). ending_of w.out) (sym E);
      next_is = h.next_is;
      used_is = (λ j. ue j + h.used_is j);
      values_are = subst (λ (w : Evals). Holds as_is w.out got₂) (sym E) d.values_are;
      state = (λ j. d.state j ++ b j) ∙ sym (append_assoc (K vs (take n s)).seg A.seg (drop (n + m) s)) ∙ ap (λ (w : Evals). w.seg ++ drop (n + m) s) (sym E);
    }

-- an argument failed or overflowed
pub enter_stop : {make : List Value → List Value} {A : Evals} {x m n : ℕ} {s new new₁ : List ℕ} {a : Step Ending} {got : List Value} (got₂ : List Value) (K : List Value → List ℕ → Evals) (u : ℕ) → RanTo make A x m (drop n s) a got new₁ → ¬ (a.out ≡ End.Values) → new ≡ s → u ≡ n → RanTo as_is (enter K (take n s) A) x (n + m) s (record { out = a.out; next = a.next; used = u + a.used }) got₂ (put_tail u new new₁)
enter_stop {make} {A} {x} {m} {n} {s} {new} {new₁} {a} {got} got₂ K u h z same ue =
    let no : ¬ (ending_of A.out ≡ End.Values) = λ e. z (h.end_is ∙ e) in
    let E = enter_not K (take n s) A no in
    record {
      end_is = h.end_is ∙ ap (λ (w : Evals). ending_of w.out) (sym E);
      next_is = h.next_is;
      used_is = (λ j. ue j + h.used_is j);
      values_are = subst (λ (w : Evals). Holds as_is w.out got₂) (sym E) (no_values as_is got₂ A.out no);
      state = put_tail_lem u new new₁ ∙ (λ j. take (ue j) (same j) ++ (h.state ∙ ap (λ (l : List ℕ). A.seg ++ l) (drop-drop m n s)) j) ∙ sym (append_assoc (take n s) A.seg (drop (n + m) s)) ∙ ap (λ (w : Evals). w.seg ++ drop (n + m) s) (sym E);
    }

not_imported_lem : (a b : NodeKind) → T (may_call a b) → ¬ (b ≡ Imported)
not_imported_lem Function Function h e = let z : ◌≡◌ {A = ℕ} 0 1 = cc in omega arith
not_imported_lem Function Operator h e = absurd h
not_imported_lem Function Imported h e = absurd h
not_imported_lem Operator Function h e = let z : ◌≡◌ {A = ℕ} 0 1 = cc in omega arith
not_imported_lem Operator Operator h e = let z : ◌≡◌ {A = ℕ} 0 1 = cc in omega arith
not_imported_lem Operator Imported h e = absurd h
not_imported_lem Imported Function h e = let z : ◌≡◌ {A = ℕ} 0 1 = cc in omega arith
not_imported_lem Imported Operator h e = let z : ◌≡◌ {A = ℕ} 0 1 = cc in omega arith
not_imported_lem Imported Imported h e = absurd h

-- ---- arguments that suit their inputs

scalar_of : (o : Maybe ℕ) → T (takes scalars o) → o ≡ none
scalar_of none t = refl
scalar_of (some n) t = absurd t

under_of : (o s : Maybe ℕ) → T (takes (under o) s) → s ≡ o
under_of none s t = scalar_of s t
under_of (some m) none t = absurd t
under_of (some m) (some n) t = ap some (sym (eqb→eq m n t))

all_suit : (f : File) (locals : List Sized) (vs : List Variable) (es : Exprs) → T (takes_all_of f locals (map under_variable vs) es) → count es ≡ length vs → Suit f.nodes locals (constant_arrays f.constants) vs es
all_suit f locals [] nil t e = tt
all_suit f locals [] (cons x es) t e = omega arith
all_suit f locals (v ∷ vs) nil t e = omega arith
all_suit f locals (v ∷ vs) (cons x es) t e =
    let w = T_and (takes_in f locals (under_variable v) x) _ t in
    (under_of (length_in v.ty) (shape f.nodes locals (constant_arrays f.constants) x) w.0, all_suit f locals vs es w.1 (omega arith))

-- they have as many cells
suit_cells : (nodes : List Node) (locals globals : List Sized) (vs : List Variable) (es : Exprs) → Suit nodes locals globals vs es → cells_all nodes locals globals es ≡ length (cell_types vs)
suit_cells nodes locals globals [] nil h = refl
suit_cells nodes locals globals [] (cons e es) h = absurd h
suit_cells nodes locals globals (v ∷ vs) nil h = absurd h
suit_cells nodes locals globals (v ∷ vs) (cons e es) h =
    (λ i. (ap (maybe 1 (λ n. n)) h.0 ∙ sym (type_cells_lem v.ty)) i + suit_cells nodes locals globals vs es h.1 i) ∙ sym (length-append (variable_cells v) (cell_types vs))

-- the parts of a call, and of a Tuple
pub callee_of_call : (file : List ℕ) (at : ℕ) → get_or file at 0 ≡ 11 → callee_at file at ≡ Some (get_or file (at + 1) 0)
callee_of_call file at b = ap (λ (c : ℕ). cond (eqb c 11) (Some (get_or file (at + 1) 0)) None) b

module _ (file : List ℕ) (at : ℕ) where
  -- how many parts a code tells, and where they start
  abbrev pub parts_by : ℕ → ℕ
  parts_by c = cond (ltb c 10) (get_or parts_table c 0) (cond (eqb c 10) 1 (cond (eqb c 11) (get_or file (at + 2) 0) (cond (eqb c 13) 2 (cond (ltb c 15) (get_or file (at + 1) 0) (iterator_parts_at file at)))))

  abbrev pub next_by : Bool → ℕ → ℕ
  next_by inside c = cond inside (cond (ltb c 10) (at + get_or sizes_table c 0) (cond (eqb c 10) (at + 1 + ty_size_at file (at + 1)) (cond (eqb c 11) (at + 3) (cond (eqb c 13) (at + 1) (cond (ltb c 15) (at + 2) (at + 4)))))) at

  -- and how many of them are evaluated in turn, and where these start
  abbrev count_by : Bool → ℕ → ℕ
  count_by fold c = cond fold (get_or file (at + 3) 0) (parts_by c)

  abbrev start_by : Bool → Bool → ℕ → ℕ
  start_by fold inside c = cond fold (skip_at file 1 (next_by inside c)) (next_by inside c)

  -- of a form that is no iterator
  pub count_of : (c : ℕ) → get_or file at 0 ≡ c → eqb c 15 ≡ false → arrays_count file at ≡ count_by false c
  count_of c b n = λ j. count_by ((ap (λ (x : ℕ). eqb x 15 && eqb (get_or file (at + 1) 0) 1) b ∙ ap (λ (x : Bool). x && eqb (get_or file (at + 1) 0) 1) n) j) (b j)

  pub start_of : (c : ℕ) → get_or file at 0 ≡ c → eqb c 15 ≡ false → at < length file → arrays_start file at ≡ start_by false true c
  start_of c b n l = λ j. start_by ((ap (λ (x : ℕ). eqb x 15 && eqb (get_or file (at + 1) 0) 1) b ∙ ap (λ (x : Bool). x && eqb (get_or file (at + 1) 0) 1) n) j) (lt-ltb at (length file) l j) (b j)

  pub parts_call : get_or file at 0 ≡ 11 → arrays_count file at ≡ get_or file (at + 2) 0
  parts_call b = count_of 11 b refl

  pub next_call : get_or file at 0 ≡ 11 → at < length file → arrays_start file at ≡ at + 3
  next_call b l = start_of 11 b refl l

  -- of a map
  pub parts_map : get_or file at 0 ≡ 15 → get_or file (at + 1) 0 ≡ 0 → arrays_count file at ≡ get_or file (at + 3) 0
  parts_map b z =
      let a : arrays_count file at ≡ get_or file (at + 3) 0 + cond {A = ℕ} (eqb (get_or file (at + 1) 0) 1) 1 0 = (λ j. cond (eqb (b j) 15 && eqb (z j) 1) (get_or file (at + 3) 0) (parts_by (b j))) in
      let one : ℕ → ℕ = λ (x : ℕ). cond (eqb x 1) 1 0 in
      let c : one (get_or file (at + 1) 0) ≡ 0 = ap one z in
      omega (arith, a, c)

  pub next_map : get_or file at 0 ≡ 15 → get_or file (at + 1) 0 ≡ 0 → at < length file → arrays_start file at ≡ at + 4
  next_map b z l = λ j. cond (eqb (b j) 15 && eqb (z j) 1) (skip_at file 1 (next_by (lt-ltb at (length file) l j) (b j))) (next_by (lt-ltb at (length file) l j) (b j))

  -- of a fold
  pub parts_fold : get_or file at 0 ≡ 15 → get_or file (at + 1) 0 ≡ 1 → arrays_count file at ≡ get_or file (at + 3) 0
  parts_fold b z = λ j. cond (eqb (b j) 15 && eqb (z j) 1) (get_or file (at + 3) 0) (parts_by (b j))

  pub next_fold : get_or file at 0 ≡ 15 → get_or file (at + 1) 0 ≡ 1 → at < length file → arrays_start file at ≡ skip_at file 1 (at + 4)
  next_fold b z l = λ j. cond (eqb (b j) 15 && eqb (z j) 1) (skip_at file 1 (next_by (lt-ltb at (length file) l j) (b j))) (next_by (lt-ltb at (length file) l j) (b j))

-- ---- the call at a place: its callee k, and n arguments

module _ {file tab rows consts : List ℕ} {level at node : ℕ} {cells before old new : List ℕ} (p : Ready file tab rows consts level 1 at node cells before old new) (b : get_or file at 0 ≡ 11) (k n : ℕ) (kE : k ≡ get_or file (at + 1) 0) (nE : n ≡ get_or file (at + 2) 0) where
  abbrev args : Exprs
  args = exprs_at file (level - 1) n (at + 3)

  -- the bytes of the call site's record, and of those in its arguments
  abbrev own : ℕ
  own = site_bytes (file_at file) k

  abbrev more : ℕ
  more = segs_at file (level - 1) n (at + 3)

  pub call_at : Formed file level at (call k (exprs_at file (level - 1) n (at + 3))) n
  call_at =
      subst (λ (c : ℕ). Formed file level at (call c (exprs_at file (level - 1) n (at + 3))) n) (sym kE)
      (subst (λ (m : ℕ). Formed file level at (call (get_or file (at + 1) 0) (exprs_at file (level - 1) m (at + 3))) m) (sym nE) (call_form file level at (plan_head file p.plan) b).0)

  pub call_few : n ≤ 32
  call_few = omega (arith, (call_form file level at (plan_head file p.plan) b).1)

  call_sites : callees (expr_at file level at) ≡ k ∷ callees_all (exprs_at file (level - 1) n (at + 3))
  call_sites = callees_form file level at (call k args) n call_at

  call_calls : Each (Enters file tab rows consts node) (k ∷ uses_all (exprs_at file (level - 1) n (at + 3)))
  call_calls = let w = calls_form p call_at in (w.0.0, w.1)

  pub call_lower : k < node
  call_lower = call_calls.0.lower

  pub call_running : Running file tab rows consts
  call_running = call_calls.0.running

  pub call_below : k < nodes_in file
  call_below = omega (arith, call_lower, p.plan.node≤)

  pub call_small : k < 32
  call_small = omega (arith, call_below, p.plan.program.sized.few)

  pub call_segs : seg_at file level at ≡ site_bytes (file_at file) k + segs_at file (level - 1) n (at + 3)
  unfolding sites_size
  call_segs = ap (sites_size (sizes_in file)) call_sites

  pub call_room : site_bytes (file_at file) k + segs_at file (level - 1) n (at + 3) ≤ length old
  call_room = omega (arith, call_segs, segs_one file level at p.plan.reads, p.room)

  pub call_size : row_at rows k 6 ≡ site_bytes (file_at file) k
  call_size = row_size file k p.plan.program.sized call_below (omega (arith, call_room, p.small))

  -- its own record is within the two states
  pub call_fits : (u : ℕ) → u ≡ row_at rows k 6 → u + segs_at file (level - 1) n (at + 3) ≤ length old
  call_fits u e = omega (arith, e, call_size, call_room)

  pub call_fits_new : (u : ℕ) → u ≡ row_at rows k 6 → u ≤ length new
  call_fits_new u e = omega (arith, call_fits u e, ap length p.same)

  call_callee : Called (file_at file) node (node_in file node) k n
  call_callee =
      let c = plan_call file p.plan b in
      subst (λ (x : ℕ). Called (file_at file) node (node_in file node) x n) (sym kE)
      (subst (λ (y : ℕ). Called (file_at file) node (node_in file node) (get_or file (at + 1) 0) y)
      (ap (λ (y : ℕ). count (exprs_at file (level - 1) y (at + 3))) (sym nE) ∙ count_read file (level - 1) n (at + 3) call_at.read) c)

  pub call_arity : n ≡ length (node_in file k).inputs
  call_arity = call_callee.arity

  callee_is : callee_at file at ≡ Some k
  callee_is = callee_of_call file at b ∙ ap Some (sym kE)

  -- the parts of the call are its arguments
  parts_are : arrays_count file at ≡ n
  parts_are = parts_call file at b ∙ sym nE

  start_is : arrays_start file at ≡ at + 3
  start_is = next_call file at b (omega (arith, call_at.inside))

  call_suit : SuitAt file node (level - 1) n (at + 3) (node_in file k).inputs
  call_suit =
      all_suit (file_at file) (arrays_in (variables (node_in file node))) (node_in file k).inputs args (plan_suited file p.plan call_at) (count_read file (level - 1) n (at + 3) call_at.read ∙ call_arity)

  call_cells : all_cells file node (level - 1) n (at + 3) ≡ input_count (node_in file k)
  call_cells = suit_cells (file_at file).nodes (arrays_in (variables (node_in file node))) (constant_arrays (file_at file).constants) (node_in file k).inputs args call_suit

  pub call_several : (free : ℕ) → 9 * callee_cells file k ≤ free → Several file node (level - 1) at free
  call_several free room =
      record {
        inside = omega (arith, call_at.inside);
        few = omega (arith, parts_are, call_few);
        given = omega (arith, room, ap (λ (m : ℕ). all_cells file node (level - 1) m (arrays_start file at)) parts_are, ap (λ (a : ℕ). all_cells file node (level - 1) n a) start_is, call_cells);
        small = subst (λ (c : Callee ℕ). MatchOption c (Unit {0}) (λ k. k < 32)) (sym callee_is) call_small;
        called = subst (λ (c : Callee ℕ). MatchOption c (Unit {0}) (λ k. (k < nodes_in file) × SuitAt file node (level - 1) (arrays_count file at) (arrays_start file at) (node_in file k).inputs)) (sym callee_is)
            (call_below, subst (λ (m : ℕ). SuitAt file node (level - 1) m (arrays_start file at) (node_in file k).inputs) (sym parts_are) (subst (λ (a : ℕ). SuitAt file node (level - 1) n a (node_in file k).inputs) (sym start_is) call_suit));
      }

  pub call_all : (first : Bool) {old' : List ℕ} {r : Step Ending} (to : List ℕ) {new' : List ℕ} → AllTo file consts (level - 1) at node first cells before old' r to new' → PassedTo file consts (Some k) n (level - 1) (at + 3) node first cells before old' r to new'
  call_all first {old'} {r} to {new'} h =
      subst (λ (c : Callee ℕ). PassedTo file consts c n (level - 1) (at + 3) node first cells before old' r to new') callee_is
      (subst (λ (m : ℕ). PassedTo file consts (callee_at file at) m (level - 1) (at + 3) node first cells before old' r to new') parts_are
      (subst (λ (p : ℕ). PassedTo file consts (callee_at file at) (arrays_count file at) (level - 1) p node first cells before old' r to new') start_is h.0))

  -- the arguments, on what follows the call site's record
  call_args : (u : ℕ) → u ≡ row_at rows k 6 → Ready file tab rows consts (level - 1) n (at + 3) node cells before (tail_of u old) (tail_of u new)
  call_args u e =
      let l = ap length (tail_all u old) ∙ length-drop u old in
      record {
        plan = plan_parts file p.plan call_at;
        present = p.present;
        previous = p.previous;
        same = ap (tail_of u) p.same;
        room = omega (arith, l, call_room, e ∙ call_size);
        small = omega (arith, l, p.small);
        calls = call_calls.1;
      }

  pub call_parts : (u : ℕ) → u ≡ row_at rows k 6 → Ready file tab rows consts (level - 1) (arrays_count file at) (arrays_start file at) node cells before (tail_of u old) (tail_of u new)
  call_parts u e =
      subst (λ (m : ℕ). Ready file tab rows consts (level - 1) m (arrays_start file at) node cells before (tail_of u old) (tail_of u new)) (sym parts_are)
      (subst (λ (p : ℕ). Ready file tab rows consts (level - 1) n p node cells before (tail_of u old) (tail_of u new)) (sym start_is) (call_args u e))

  -- the callee, on its record
  pub call_steps : (u : ℕ) → u ≡ row_at rows k 6 → (new₁ : List ℕ) (free : ℕ) → 9 * callee_cells file k ≤ free → Steppable file tab rows consts k free (take u old) (take u (put_tail u new new₁))
  call_steps u e new₁ free room =
      let z = e ∙ call_size in
      let le : u ≤ length old = omega (arith, call_room, z) in
      let t = length-take-le u old le in
      record {
        running = call_running;
        below = call_below;
        kind = not_imported_lem (node_in file node).kind (node_in file k).kind call_callee.kinds;
        given = omega (arith, room);
        taken = omega (arith, room);
        sized = t ∙ z;
        small = omega (arith, t, le, p.small);
        same = take_put u new new₁ (omega (arith, le, ap length p.same)) ∙ ap (take u) p.same;
      }

  module _ (first : Bool) where
    -- what the call is, on its segment
    call_is : rhs_eval file consts level at node first cells before (take (seg_at file level at) old) ≡ enter (calls (globals_in file consts) k) (take (site_bytes (file_at file) k) old) (all_in file consts (level - 1) n (at + 3) node first cells before (take (segs_at file (level - 1) n (at + 3)) (drop (site_bytes (file_at file) k) old)))
    call_is =
        let g = globals_in file consts in
        let sc = scope_in file node first cells before in
        let z : own + more - own ≡ more = omega arith in
        let d : drop own (take (own + more) old) ≡ take more (drop own old) = drop_take own (own + more) old ∙ ap (λ (m : ℕ). take m (drop own old)) z in
        (λ j. eval_rhs g sc (calls g) (rhs_of (call_at.tree j)) (take (call_segs j) old))
        ∙ (λ j. enter (calls g k) (take-take own (own + more) old (omega arith) j) (eval_all g sc (calls g) args (d j)))

    enters_as : {r : Step Ending} (callee : List ℕ) {new' : List ℕ} → RanTo as_is (enter (calls (globals_in file consts) k) (take (site_bytes (file_at file) k) old) (all_in file consts (level - 1) n (at + 3) node first cells before (take (segs_at file (level - 1) n (at + 3)) (drop (site_bytes (file_at file) k) old)))) (ends_at file (level - 1) n (at + 3)) (site_bytes (file_at file) k + segs_at file (level - 1) n (at + 3)) old r (outputs_at file k callee) new' → EntersTo file consts level at node first cells before old r callee new'
    enters_as {r} callee {new'} h =
        subst (λ (c : ℕ). RanTo as_is (rhs_eval file consts level at node first cells before (take (seg_at file level at) old)) (end_at file level at) (seg_at file level at) old r (outputs_at file c callee) new') kE
        (subst (λ (m : ℕ). RanTo as_is (rhs_eval file consts level at node first cells before (take (seg_at file level at) old)) (end_at file level at) m old r (outputs_at file k callee) new') (sym call_segs)
        (subst (λ (x : ℕ). RanTo as_is (rhs_eval file consts level at node first cells before (take (seg_at file level at) old)) x (own + more) old r (outputs_at file k callee) new') (sym call_at.ends)
        (subst (λ (w : Evals). RanTo as_is w (ends_at file (level - 1) n (at + 3)) (own + more) old r (outputs_at file k callee) new') (sym call_is) h)))

    -- the arguments, on the caller's own part
    args_moved : (u : ℕ) → u ≡ row_at rows k 6 → {a : Step Ending} (callee : List ℕ) {new₁ : List ℕ} → PassedTo file consts (Some k) n (level - 1) (at + 3) node first cells before (tail_of u old) a callee new₁ → RanTo (fit_all (cell_types (node_in file k).inputs)) (all_in file consts (level - 1) n (at + 3) node first cells before (take (segs_at file (level - 1) n (at + 3)) (drop (site_bytes (file_at file) k) old))) (ends_at file (level - 1) n (at + 3)) (segs_at file (level - 1) n (at + 3)) (drop (site_bytes (file_at file) k) old) a (values_of (input_count (node_in file k)) callee) new₁
    args_moved u e {a} callee {new₁} h =
        subst (λ (m : ℕ). RanTo (fit_all (cell_types (node_in file k).inputs)) (all_in file consts (level - 1) n (at + 3) node first cells before (take more (drop own old))) (ends_at file (level - 1) n (at + 3)) more (drop own old) a (values_of m callee) new₁) call_cells
        (subst (λ (s : List ℕ). RanTo (fit_all (cell_types (node_in file k).inputs)) (all_in file consts (level - 1) n (at + 3) node first cells before (take more s)) (ends_at file (level - 1) n (at + 3)) more s a (values_of (all_cells file node (level - 1) n (at + 3)) callee) new₁) (tail_all u old ∙ ap (λ (m : ℕ). drop m old) (e ∙ call_size)) h)

    pub call_done : (u : ℕ) → u ≡ row_at rows k 6 → {a : Step Ending} (callee₁ callee₂ : List ℕ) {new₁ new_s : List ℕ} {e : Ending} → PassedTo file consts (Some k) n (level - 1) (at + 3) node first cells before (tail_of u old) a callee₁ new₁ → a.out ≡ End.Values → SiteTo file consts k callee₁ (take u old) e callee₂ new_s → EntersTo file consts level at node first cells before old (record { out = e; next = a.next; used = u + a.used }) callee₂ (new_s ++ drop u (put_tail u new new₁))
    call_done u e {a} callee₁ callee₂ {new₁} {new_s} {e = end} h z s =
        let y = e ∙ call_size in
        enters_as callee₂ (enter_done (calls (globals_in file consts) k) u (args_moved u e callee₁ h) z (subst (λ (m : ℕ). SiteTo file consts k callee₁ (take m old) end callee₂ new_s) y s) p.same y (omega (arith, call_room)))

    pub call_stop : (u : ℕ) → u ≡ row_at rows k 6 → {a : Step Ending} (callee₁ : List ℕ) {new₁ : List ℕ} → PassedTo file consts (Some k) n (level - 1) (at + 3) node first cells before (tail_of u old) a callee₁ new₁ → ¬ (a.out ≡ End.Values) → EntersTo file consts level at node first cells before old (record { out = a.out; next = a.next; used = u + a.used }) callee₁ (put_tail u new new₁)
    call_stop u e {a} callee₁ {new₁} h z =
        enters_as callee₁ (enter_stop (outputs_at file k callee₁) (calls (globals_in file consts) k) u (args_moved u e callee₁ h) z p.same (e ∙ call_size))

    pub call_used : (u : ℕ) → u ≡ row_at rows k 6 → {a : Step Ending} (callee : List ℕ) {new₁ : List ℕ} → PassedTo file consts (Some k) n (level - 1) (at + 3) node first cells before (tail_of u old) a callee new₁ → u + a.used ≤ 32768
    call_used u e callee h = omega (arith, h.used_is, e ∙ call_size, call_room, p.small)
