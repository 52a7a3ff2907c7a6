-- Laws of several expressions, evaluated in turn: the loop of `eval_all`.
use Prim.Native.Nat.{ℕ, suc, ◌+◌, ◌-◌, ◌*◌, ◌≤◌, ◌<◌}
use mathlib.Core.Bool.{Bool}
use mathlib.Core.List.{List, [], ◌∷◌, ◌++◌, map, append_assoc, append-nil}
use mathlib.Core.Path.{◌≡◌, refl, sym, ap, subst, ◌∙◌}
use native.Mathlib.Omega.{arith}
use lib.ListN.{length, take, drop, length-append, length-drop, length-map, take-append-drop}
use lib.Seq.{take-take, drop-drop, take_at, drop_at}
use Rattle.std.specs.Prelude.{MatchOption}
use Rattle.std.specs.Prelude.{Option as Callee, Some, None}
use Rattle.ol_spec.specs.Lists.{maybe, concat}
use Rattle.ol_spec.specs.Syntax.{Ty, VarTy, Variable, variables, Exprs, nil, cons, cell_types, variable_cells, type_cells, length_in}
use Rattle.ol_spec.specs.Shapes.{arrays_in, constant_arrays}
use Rattle.ol_spec.specs.Cell.{values_of}
use Rattle.ol_spec.specs.Types.{fit}
use Rattle.ol_spec.specs.Eval.{Outcomes, Results, values, failure, overflow, Evaluated, Evals, callees_all, sites_size, cons_out, next_all, next_all_on, eval, eval_each, flat, then_results, flatten}
use Rattle.ol_spec.specs.Step.{fit_all, calls}
use Rattle.ol_spec.specs.declared.Value.{Value}
use Rattle.ol_spec.specs.declared.Cause.{Cause}
use Rattle.ol_spec.proofs.CellLengths.{length_values, types_append}
use Rattle.ol_spec.proofs.Counts.{EachIs}
use Rattle.ol_spec.proofs.Forms.{cell_counts, cells_all}
use Rattle.ol_spec.proofs.Slots.{type_cells_lem}
use Rattle.ol_tables.specs.At.{file_at, node_in, expr_at, end_at, exprs_at, ends_at, ReadsAll}
use Rattle.ol_tables.specs.Tables.{element_of, var_ty_at}
use Rattle.ol_tables.specs.Table.{tab_of, rows_of, consts_of}
use Rattle.ol_tables.proofs.Forms.{parted, none_read}
use Rattle.ol_tables.proofs.Lending.{tail_of, put_tail, tail_all, put_tail_lem, length_put, drop_take}
use Rattle.ol_frame.specs.declared.frame.Frame.{Frame}
use Rattle.ol_frame.specs.declared.outcomes.Ending.{Ending}
use Rattle.ol_frame.specs.declared.outcomes.Ending.TheVariants as End
use Rattle.ol_frame.specs.declared.skip.Passed.{Passed}
use Rattle.ol_frame.specs.Equations.{arrays_count, arrays_start}
use Rattle.ol_frame.specs.Outcomes.{ending_of}
use Rattle.ol_frame.specs.Plans.{globals_in, scope_in, each_in, shape_in, span_in, segs_at, seg_at}
use Rattle.ol_frame.specs.Walk.{nodes_in, sizes_in, Passable, SkipsTo}
use Rattle.ol_frame.proofs.Endings.{failed_values, over_values}
use Rattle.ol_frame.proofs.Planning.{segs_cons}
use Rattle.ol_eval.specs.Fitting.{Suit}
use Rattle.ol_eval.specs.Post.{Ready}
use Rattle.ol_eval.specs.Calls.{Holds, RanTo, callee_at, cells_at, all_cells, SuitAt, passed_part, passed_all, Part, cells_eval, PartTo}
use Rattle.ol_eval.specs.declared.eval.Step.{Step}
use Rattle.ol_eval.proofs.Parts.{values_behind, fit_append, fit_type, type_behind, cells_of_span}
use Rattle.ol_eval.proofs.Readying.{ready_first, ready_tail, ready_pass, ready_seg, moved_skip}

-- ---- outcomes of several

-- values before what the others come to
abbrev pub cons_all : List Value → Outcomes → Outcomes
cons_all vs (values ws) = values (vs ++ ws)
cons_all vs (failure c) = failure c
cons_all vs overflow = overflow

-- lists before what the others come to
abbrev cons_lists : List (List Value) → Results (List (List Value)) → Results (List (List Value))
cons_lists vss (values wss) = values (vss ++ wss)
cons_lists vss (failure c) = failure c
cons_lists vss overflow = overflow

cons_none : (o : Results (List (List Value))) → cons_lists [] o ≡ o
cons_none (values wss) = refl
cons_none (failure c) = refl
cons_none overflow = refl

cons_next : (vss : List (List Value)) (vs : List Value) (o : Results (List (List Value))) → cons_lists vss (cons_out vs o) ≡ cons_lists (vss ++ vs ∷ []) o
cons_next vss vs (values wss) = ap values (sym (append_assoc vss (vs ∷ []) wss))
cons_next vss vs (failure c) = refl
cons_next vss vs overflow = refl

concat_snoc : (vss : List (List Value)) (vs : List Value) → concat (vss ++ vs ∷ []) ≡ concat vss ++ vs
concat_snoc [] vs = append-nil vs
concat_snoc (ws ∷ vss) vs = ap (λ (l : List Value). ws ++ l) (concat_snoc vss vs) ∙ sym (append_assoc ws (concat vss) vs)

lengths_snoc : (vss : List (List Value)) (vs : List Value) → map (λ (l : List Value). length l) (vss ++ vs ∷ []) ≡ map (λ (l : List Value). length l) vss ++ length vs ∷ []
lengths_snoc [] vs = refl
lengths_snoc (ws ∷ vss) vs = ap (λ (l : List ℕ). length ws ∷ l) (lengths_snoc vss vs)

-- the new segment is as long as the old
pub ran_length : {make : List Value → List Value} {w : Evals} {x n : ℕ} {s new : List ℕ} {r : Step Ending} {got : List Value} → RanTo make w x n s r got new → length new ≡ length s → n ≤ length s → length w.seg ≡ n
ran_length {make} {w} {x} {n} {s} {new} h e le =
    let l : length new ≡ length w.seg + (length s - n) = ap length h.state ∙ simp (length-append, length-drop) in
    omega arith

-- ---- the first expression, and the others

next_values : (E : Evals) (K : List ℕ → Evaluated (List (List Value))) (rest : List ℕ) (v : List Value) → E.out ≡ values v → next_all E K rest ≡ record { out = cons_out v (K rest).out; seg = E.seg ++ (K rest).seg }
unfolding next_all
next_values E K rest v e = ap (λ (o : Outcomes). next_all_on o E.seg K rest) e

next_failure : (E : Evals) (K : List ℕ → Evaluated (List (List Value))) (rest : List ℕ) (c : Cause) → E.out ≡ failure c → next_all E K rest ≡ record { out = failure c; seg = E.seg ++ rest }
unfolding next_all
next_failure E K rest c e = ap (λ (o : Outcomes). next_all_on o E.seg K rest) e

next_overflow : (E : Evals) (K : List ℕ → Evaluated (List (List Value))) (rest : List ℕ) → E.out ≡ overflow → next_all E K rest ≡ record { out = overflow; seg = E.seg ++ rest }
unfolding next_all
next_overflow E K rest e = ap (λ (o : Outcomes). next_all_on o E.seg K rest) e

module _ (file consts : List ℕ) (level node : ℕ) (first : Bool) (cells before : List ℕ) where
  abbrev later : ℕ → ℕ → List ℕ → Evaluated (List (List Value))
  later m at = each_in file consts node first cells before (exprs_at file level m at)

  all_cons : (m at : ℕ) → ReadsAll file level (suc m) at → (seg : List ℕ) → each_in file consts node first cells before (exprs_at file level (suc m) at) seg ≡ next_all (cells_eval file consts level at node first cells before (take (seg_at file level at) seg)) (each_in file consts node first cells before (exprs_at file level m (end_at file level at))) (drop (seg_at file level at) seg)
  unfolding eval
  all_cons m at h seg = ap (λ (es : Exprs). eval_each (globals_in file consts) (scope_in file node first cells before) (calls (globals_in file consts)) es seg) (parted file level m at h).trees

  all_none : (at : ℕ) (seg : List ℕ) → each_in file consts node first cells before (exprs_at file level 0 at) seg ≡ record { out = values []; seg = seg }
  unfolding eval
  all_none at seg = ap (λ (es : Exprs). eval_each (globals_in file consts) (scope_in file node first cells before) (calls (globals_in file consts)) es seg) (none_read file level at).0

  -- on their segment, which starts the list s
  all_open : (m at : ℕ) → ReadsAll file level (suc m) at → (s : List ℕ) → each_in file consts node first cells before (exprs_at file level (suc m) at) (take (segs_at file level (suc m) at) s) ≡ next_all (cells_eval file consts level at node first cells before (take (seg_at file level at) s)) (each_in file consts node first cells before (exprs_at file level m (end_at file level at))) (take (segs_at file level m (end_at file level at)) (drop (seg_at file level at) s))
  all_open m at h s =
      let a = seg_at file level at in
      let b = segs_at file level m (end_at file level at) in
      let e = segs_cons file level m at h in
      let z : a + b - a ≡ b = omega arith in
      let d : drop a (take (a + b) s) ≡ take b (drop a s) = drop_take a (a + b) s ∙ ap (λ (j : ℕ). take j (drop a s)) z in
      all_cons m at h (take (segs_at file level (suc m) at) s)
      ∙ (λ i. next_all (cells_eval file consts level at node first cells before (take a (take (e i) s))) (later m (end_at file level at)) (drop a (take (e i) s)))
      ∙ (λ i. next_all (cells_eval file consts level at node first cells before (take-take a (a + b) s (omega arith) i)) (later m (end_at file level at)) (d i))

-- ---- how many are left

pub left_none : (n : ℕ) → n ≡ n - 0
left_none n = omega arith

pub left_suc : (n i : ℕ) → i < n → n - i ≡ suc (n - (i + 1))
left_suc n i h = omega arith

pub left_pass : (n i : ℕ) → n - i - 1 ≡ n - (i + 1)
left_pass n i = omega arith

pub left_done : (n i : ℕ) → n ≤ i → n - i ≡ 0
left_done n i h = omega arith

-- ---- the loop: `left` expressions from `pos` on are still to be evaluated, and q cells are left

-- the inputs that have their values, and those that are left
pub record Inputs (file : List ℕ) (i node level left pos q : ℕ) (done todo : List Variable) (k : ℕ) : Type 0 where
  pub below : k < nodes_in file
  pub all : (node_in file k).inputs ≡ done ++ todo
  pub index : length done ≡ i
  pub cells : length (cell_types done) ≡ q
  pub suit : SuitAt file node level left pos todo

-- values passed on to the first inputs, or as they are
abbrev pub passed_first : Callee ℕ → List Variable → List Value → List Value
passed_first (Some k) done vs = fit_all (cell_types done) vs
passed_first None done vs = vs

-- how many cells each of n expressions from `at` on has
abbrev counts_at : List ℕ → ℕ → ℕ → ℕ → ℕ → List ℕ
counts_at file node level n at = cell_counts (file_at file).nodes (arrays_in (variables (node_in file node))) (constant_arrays (file_at file).constants) (exprs_at file level n at)

pub record Going (want : Evaluated (List (List Value))) (file tab rows consts : List ℕ) (callee : Callee ℕ) (n at level node : ℕ) (first : Bool) (cells before old : List ℕ) (left i pos used q : ℕ) (to new : List ℕ) : Type 0 where
  pub lists : List (List Value)
  pub head : List ℕ
  pub done : List Variable
  pub todo : List Variable
  pub counted : q ≡ length (concat lists)
  pub whole : i + left ≡ n
  pub sized : length head ≡ used
  pub state : new ≡ head ++ drop used old
  pub ready : Ready file tab rows consts level left pos node cells before (drop used old) (drop used old)
  pub out_is : want.out ≡ cons_lists lists (each_in file consts node first cells before (exprs_at file level left pos) (take (segs_at file level left pos) (drop used old))).out
  pub seg_is : want.seg ≡ head ++ (each_in file consts node first cells before (exprs_at file level left pos) (take (segs_at file level left pos) (drop used old))).seg
  pub counts_are : counts_at file node level n at ≡ map (λ (l : List Value). length l) lists ++ counts_at file node level left pos
  pub total : segs_at file level n at ≡ used + segs_at file level left pos
  pub ends : ends_at file level n at ≡ ends_at file level left pos
  pub cells_are : all_cells file node level n at ≡ q + all_cells file node level left pos
  pub stored : values_of q to ≡ passed_first callee done (concat lists)
  pub inputs : MatchOption callee (Unit {0}) (Inputs file i node level left pos q done todo)
  pub long : 9 * all_cells file node level n at ≤ length to
  pub within : used ≤ length old

-- the parts of the form at `at`, on the frame fr
abbrev pub Goes : List ℕ → List ℕ → ℕ → ℕ → Frame → List ℕ → ℕ → ℕ → ℕ → ℕ → ℕ → List ℕ → List ℕ → Type 0
Goes file tab level at fr old left i pos used q to new =
    Going (each_in file (consts_of tab) fr.node fr.first fr.cells.now fr.before.now (exprs_at file level (arrays_count file at) (arrays_start file at)) (take (segs_at file level (arrays_count file at) (arrays_start file at)) old)) file (tab_of tab) (rows_of tab) (consts_of tab) (callee_at file at) (arrays_count file at) (arrays_start file at) level fr.node fr.first fr.cells.now fr.before.now old left i pos used q to new

none_first : (callee : Callee ℕ) → [] ≡ passed_first callee [] []
unfolding fit_all
none_first (Some k) = refl
none_first None = refl

all_left : (file : List ℕ) (callee : Callee ℕ) (node level n at : ℕ) → MatchOption callee (Unit {0}) (λ k. (k < nodes_in file) × SuitAt file node level n at (node_in file k).inputs)
    → (todo : List Variable) × MatchOption callee (Unit {0}) (Inputs file 0 node level n at 0 [] todo)
all_left file (Some k) node level n at c = ((node_in file k).inputs, record { below = c.0; all = refl; index = refl; cells = refl; suit = c.1 })
all_left file None node level n at c = ([], tt)

pub going_start : {file tab rows consts : List ℕ} {callee : Callee ℕ} {n at level node : ℕ} (first : Bool) {cells before old new : List ℕ} (to : List ℕ) → Ready file tab rows consts level n at node cells before old new → 9 * all_cells file node level n at ≤ length to
    → MatchOption callee (Unit {0}) (λ k. (k < nodes_in file) × SuitAt file node level n at (node_in file k).inputs)
    → Going (each_in file consts node first cells before (exprs_at file level n at) (take (segs_at file level n at) old)) file tab rows consts callee n at level node first cells before old n 0 at 0 0 to new
going_start {file} {tab} {rows} {consts} {callee} {n} {at} {level} {node} first {cells} {before} {old} {new} to p l c =
    let t = all_left file callee node level n at c in
    record {
      lists = [];
      head = [];
      done = [];
      todo = t.0;
      counted = refl;
      whole = omega arith;
      sized = refl;
      state = p.same;
      ready = subst (λ (x : List ℕ). Ready file tab rows consts level n at node cells before old x) p.same p;
      out_is = sym (cons_none _);
      seg_is = refl;
      counts_are = refl;
      total = omega arith;
      ends = refl;
      cells_are = omega arith;
      stored = none_first callee;
      inputs = t.1;
      long = l;
      within = omega arith;
    }

-- with another number of expressions left, by an equation
pub going_left : {want : Evaluated (List (List Value))} {file tab rows consts : List ℕ} {callee : Callee ℕ} {n at level node : ℕ} {first : Bool} {cells before old : List ℕ} {left i pos used q : ℕ} {to new : List ℕ} {left' : ℕ} → left ≡ left' → Going want file tab rows consts callee n at level node first cells before old left i pos used q to new → Going want file tab rows consts callee n at level node first cells before old left' i pos used q to new
going_left {want} {file} {tab} {rows} {consts} {callee} {n} {at} {level} {node} {first} {cells} {before} {old} {left} {i} {pos} {used} {q} {to} {new} e g =
    subst (λ (m : ℕ). Going want file tab rows consts callee n at level node first cells before old m i pos used q to new) e g

-- values passed on, of one more part
passed_more : (file : List ℕ) (callee : Callee ℕ) (i node level left pos q : ℕ) (vs ws : List Value) (done todo : List Variable) → ReadsAll file level (suc left) pos → MatchOption callee (Unit {0}) (Inputs file i node level (suc left) pos q done todo) → q ≡ length vs → length ws ≡ cells_at file node level pos
    → (done' : List Variable) × (todo' : List Variable) × (MatchOption callee (Unit {0}) (Inputs file (i + 1) node level left (end_at file level pos) (q + cells_at file node level pos) done' todo') × (passed_first callee done vs ++ passed_part file callee i ws ≡ passed_first callee done' (vs ++ ws)))
passed_more file None i node level left pos q vs ws done todo h c z l = ([], [], (tt, refl))
passed_more file (Some k) i node level left pos q vs ws done todo h c z l = go todo c.all (subst (λ (es : Exprs). Suit (file_at file).nodes (arrays_in (variables (node_in file node))) (constant_arrays (file_at file).constants) todo es) (parted file level left pos h).trees c.suit)
  where
    go : (ts : List Variable) → (node_in file k).inputs ≡ done ++ ts → Suit (file_at file).nodes (arrays_in (variables (node_in file node))) (constant_arrays (file_at file).constants) ts (cons (expr_at file level pos) (exprs_at file level left (end_at file level pos)))
        → (done' : List Variable) × (todo' : List Variable) × (Inputs file (i + 1) node level left (end_at file level pos) (q + cells_at file node level pos) done' todo' k × (fit_all (cell_types done) vs ++ map (fit (element_of (var_ty_at (node_in file k).inputs i))) ws ≡ fit_all (cell_types done') (vs ++ ws)))
    go [] e s = absurd s
    go (v ∷ ts) e s =
        let d : length (cell_types done) ≡ q = c.cells in
        let t : var_ty_at (node_in file k).inputs i ≡ v.ty = ap (λ (us : List Variable). var_ty_at us i) e ∙ type_behind done v ts i c.index in
        let w : length ws ≡ length (type_cells v.ty) = l ∙ ap (maybe 1 (λ (m : ℕ). m)) s.0 ∙ sym (type_cells_lem v.ty) in
        let b : cell_types (done ++ v ∷ []) ≡ cell_types done ++ variable_cells v = types_append done (v ∷ []) ∙ ap (λ (us : List Ty). cell_types done ++ us) (append-nil (variable_cells v)) in
        let f : fit_all (cell_types done) vs ++ map (fit (element_of (var_ty_at (node_in file k).inputs i))) ws ≡ fit_all (cell_types (done ++ v ∷ [])) (vs ++ ws) =
        ap (λ (us : List Value). fit_all (cell_types done) vs ++ us) (ap (λ (y : VarTy). map (fit (element_of y)) ws) t ∙ sym (fit_type v.ty ws w))
        ∙ sym (fit_append (cell_types done) (variable_cells v) vs ws (sym z ∙ sym d)) ∙ ap (λ (us : List Ty). fit_all us (vs ++ ws)) (sym b) in (
          done ++ v ∷ [],
          ts,
          (
            record {
              below = c.below;
              all = e ∙ sym (append_assoc done (v ∷ []) ts);
              index = omega (arith, length-append done (v ∷ []), c.index);
              cells = ap length b ∙ length-append (cell_types done) (variable_cells v) ∙ (λ j. d j + (sym w ∙ l) j);
              suit = s.1;
            },
            f,
          ),
        )

passed_length : (file : List ℕ) (callee : Callee ℕ) (i : ℕ) (vs : List Value) → length (passed_part file callee i vs) ≡ length vs
passed_length file (Some k) i vs = length-map vs (fit (element_of (var_ty_at (node_in file k).inputs i)))
passed_length file None i vs = refl

-- no input is left where no expression is
all_done : (file : List ℕ) (callee : Callee ℕ) (i node level pos q : ℕ) (done todo : List Variable) (vs : List Value) → MatchOption callee (Unit {0}) (Inputs file i node level 0 pos q done todo) → passed_first callee done vs ≡ passed_all file callee vs
all_done file None i node level pos q done todo vs c = refl
all_done file (Some k) i node level pos q done todo vs c = go todo c.all (subst (λ (es : Exprs). Suit (file_at file).nodes (arrays_in (variables (node_in file node))) (constant_arrays (file_at file).constants) todo es) (none_read file level pos).0 c.suit)
  where
    go : (ts : List Variable) → (node_in file k).inputs ≡ done ++ ts → Suit (file_at file).nodes (arrays_in (variables (node_in file node))) (constant_arrays (file_at file).constants) ts nil → fit_all (cell_types done) vs ≡ fit_all (cell_types (node_in file k).inputs) vs
    go [] e s = ap (λ (us : List Variable). fit_all (cell_types us) vs) (sym (e ∙ append-nil done))
    go (v ∷ ts) e s = absurd s

-- the first part of several is the next input
next_input : (file : List ℕ) (callee : Callee ℕ) (i node level left pos q : ℕ) (done todo : List Variable) → ReadsAll file level (suc left) pos → MatchOption callee (Unit {0}) (Inputs file i node level (suc left) pos q done todo)
    → MatchOption callee (Unit {0}) (λ k. (k < nodes_in file) × (i < length (node_in file k).inputs) × (shape_in file node (expr_at file level pos) ≡ length_in (var_ty_at (node_in file k).inputs i)))
next_input file None i node level left pos q done todo h c = tt
next_input file (Some k) i node level left pos q done todo h c = go todo c.all (subst (λ (es : Exprs). Suit (file_at file).nodes (arrays_in (variables (node_in file node))) (constant_arrays (file_at file).constants) todo es) (parted file level left pos h).trees c.suit)
  where
    go : (ts : List Variable) → (node_in file k).inputs ≡ done ++ ts → Suit (file_at file).nodes (arrays_in (variables (node_in file node))) (constant_arrays (file_at file).constants) ts (cons (expr_at file level pos) (exprs_at file level left (end_at file level pos)))
        → (k < nodes_in file) × (i < length (node_in file k).inputs) × (shape_in file node (expr_at file level pos) ≡ length_in (var_ty_at (node_in file k).inputs i))
    go [] e s = absurd s
    go (v ∷ ts) e s =
        (c.below, omega (arith, c.index, ap length e, length-append done (v ∷ ts)), s.0 ∙ ap length_in (sym (ap (λ (us : List Variable). var_ty_at us i) e ∙ type_behind done v ts i c.index)))

module _ {want : Evaluated (List (List Value))} {file tab rows consts : List ℕ} {callee : Callee ℕ} {n at level node : ℕ} {first : Bool} {cells before old : List ℕ} {left i pos used q : ℕ} {to new : List ℕ} (g : Going want file tab rows consts callee n at level node first cells before old (suc left) i pos used q to new) where
  abbrev seg : ℕ
  seg = seg_at file level pos

  abbrev behind : ℕ
  behind = segs_at file level left (end_at file level pos)

  -- the evaluation of the expression at `pos`
  abbrev here : Evals
  here = cells_eval file consts level pos node first cells before (take seg (drop used old))

  -- what is behind it
  abbrev others : List ℕ → Evaluated (List (List Value))
  others = each_in file consts node first cells before (exprs_at file level left (end_at file level pos))

  pub going_seg : seg_at file level pos ≤ length (drop used old)
  going_seg = ready_seg g.ready

  -- its cells and the others'
  counts_more : counts_at file node level (suc left) pos ≡ cells_at file node level pos ∷ counts_at file node level left (end_at file level pos)
  counts_more = ap (λ (es : Exprs). cell_counts (file_at file).nodes (arrays_in (variables (node_in file node))) (constant_arrays (file_at file).constants) es) (parted file level left pos g.ready.plan.reads).trees

  cells_more : all_cells file node level (suc left) pos ≡ cells_at file node level pos + all_cells file node level left (end_at file level pos)
  cells_more = ap (λ (es : Exprs). cells_all (file_at file).nodes (arrays_in (variables (node_in file node))) (constant_arrays (file_at file).constants) es) (parted file level left pos g.ready.plan.reads).trees

  -- they have room
  pub going_cells : 9 * (q + cells_at file node level pos) ≤ length to
  going_cells = omega (arith, g.long, g.cells_are, cells_more)

  behind_is : take (segs_at file level left (end_at file level pos)) (drop (seg_at file level pos) (drop used old)) ≡ take (segs_at file level left (end_at file level pos)) (drop (used + seg_at file level pos) old)
  behind_is = ap (take behind) (drop-drop seg used old)

  opened : each_in file consts node first cells before (exprs_at file level (suc left) pos) (take (segs_at file level (suc left) pos) (drop used old)) ≡ next_all (cells_eval file consts level pos node first cells before (take (seg_at file level pos) (drop used old))) (each_in file consts node first cells before (exprs_at file level left (end_at file level pos))) (take (segs_at file level left (end_at file level pos)) (drop (used + seg_at file level pos) old))
  opened =
      all_open file consts level node first cells before left pos g.ready.plan.reads (drop used old)
      ∙ (λ j. next_all here (each_in file consts node first cells before (exprs_at file level left (end_at file level pos))) (behind_is j))

  total_is : segs_at file level n at ≡ used + seg_at file level pos + segs_at file level left (end_at file level pos)
  total_is = omega (arith, g.total, segs_cons file level left pos g.ready.plan.reads)

  -- it can be evaluated, on the parts that are lent
  pub going_ready : Ready file tab rows consts level 1 pos node cells before (tail_of used old) (tail_of used new)
  going_ready =
      let a : drop used new ≡ drop used old = ap (drop used) g.state ∙ drop_at g.head (drop used old) used g.sized in
      subst (λ (s : List ℕ). Ready file tab rows consts level 1 pos node cells before (tail_of used old) s) (sym (tail_all used new ∙ a))
      (subst (λ (s : List ℕ). Ready file tab rows consts level 1 pos node cells before s (drop used old)) (sym (tail_all used old)) (ready_first g.ready))

  -- it is the next part
  pub going_part : (m : ℕ) → m ≡ span_in file node (expr_at file level pos) → i < 32 → m ≤ 32 → MatchOption callee (Unit {0}) (λ k. k < 32) → Part file callee i node level pos m (length (tail_of (9 * q) to))
  going_part m e few short small =
      let c = cells_of_span (ready_first g.ready).plan m e in
      let l = ap length (tail_all (9 * q) to) ∙ length-drop (9 * q) to in
      record {
        long = e;
        few = few;
        short = short;
        given = omega (arith, c, l, going_cells);
        small = small;
        called = next_input file callee i node level left pos q g.done g.todo g.ready.plan.reads g.inputs;
      }

  pub going_length : (x : List ℕ) → length x ≡ length (tail_of used new) → length new ≡ length old → length x ≡ length (drop used old)
  going_length x e l = e ∙ ap length (tail_all used new) ∙ length-drop used new ∙ ap (λ (m : ℕ). m - used) l ∙ sym (length-drop used old)

  module _ {r : Step Ending} (y : List ℕ) {x : List ℕ} (h : PartTo file consts callee i level pos node first cells before (drop used old) r y x) (len : length x ≡ length (drop used old)) where
    here_length : length (cells_eval file consts level pos node first cells before (take (seg_at file level pos) (drop used old))).seg ≡ seg_at file level pos
    here_length = ran_length h len going_seg

    -- the state with the expression's new segment
    state_is : put_tail used new x ≡ (g.head ++ (cells_eval file consts level pos node first cells before (take (seg_at file level pos) (drop used old))).seg) ++ drop (used + seg_at file level pos) old
    state_is =
        put_tail_lem used new x
        ∙ (λ j. (ap (take used) g.state ∙ take_at g.head (drop used old) used g.sized) j ++ (h.state ∙ ap (λ (l : List ℕ). here.seg ++ l) (drop-drop seg used old)) j)
        ∙ sym (append_assoc g.head here.seg (drop (used + seg) old))

    ready_next : Ready file tab rows consts level left (end_at file level pos) node cells before (drop (used + seg_at file level pos) old) (drop (used + seg_at file level pos) old)
    ready_next =
        subst (λ (l : List ℕ). Ready file tab rows consts level left (end_at file level pos) node cells before l l) (drop-drop seg used old)
        (ready_tail seg (drop seg (drop used old)) (drop seg (drop used old)) g.ready refl refl refl)

    -- the others can be passed over
    pub going_passable : Passable file rows level left r.next
    going_passable = subst (λ (m : ℕ). Passable file rows level left m) (sym h.next_is) (ready_pass ready_next)

    -- the bytes so far, and of all
    pub going_used : used + r.used ≤ segs_at file level n at
    going_used = omega (arith, h.used_is, total_is)

    -- its values stand behind the others
    pub going_turn : r.out ≡ End.Values → length y ≡ length (tail_of (9 * q) to) → Going want file tab rows consts callee n at level node first cells before old left (i + 1) r.next (used + r.used) (q + cells_at file node level pos) (put_tail (9 * q) to y) (put_tail used new x)
    going_turn z ly = go here.out refl (sym z ∙ h.end_is) h.values_are
      where
        c : ℕ
        c = cells_at file node level pos

        long : length (put_tail (9 * q) to y) ≡ length to
        long = length_put (9 * q) to y (omega (arith, going_cells)) ly

        go : (o : Outcomes) → here.out ≡ o → End.Values ≡ ending_of o → Holds (passed_part file callee i) o (values_of (cells_at file node level pos) y) → Going want file tab rows consts callee n at level node first cells before old left (i + 1) r.next (used + r.used) (q + cells_at file node level pos) (put_tail (9 * q) to y) (put_tail used new x)
        go (values vs) e d s =
            let lv : length vs ≡ c = sym (passed_length file callee i vs) ∙ ap length (sym s) ∙ length_values c y in
            let m = passed_more file callee i node level left pos q (concat g.lists) vs g.done g.todo g.ready.plan.reads g.inputs g.counted lv in
            let R = opened ∙ next_values here (each_in file consts node first cells before (exprs_at file level left (end_at file level pos))) (take behind (drop (used + seg) old)) vs e in
            let t : Going want file tab rows consts callee n at level node first cells before old left (i + 1) (end_at file level pos) (used + seg) (q + c) (put_tail (9 * q) to y) (put_tail used new x) =
            record {
              lists = g.lists ++ vs ∷ [];
              head = g.head ++ here.seg;
              done = m.0;
              todo = m.1;
              counted = (λ j. g.counted j + sym lv j) ∙ sym (length-append (concat g.lists) vs) ∙ ap (λ (l : List Value). length l) (sym (concat_snoc g.lists vs));
              whole = omega (arith, g.whole);
              sized = length-append g.head here.seg ∙ (λ j. g.sized j + here_length j);
              state = state_is;
              ready = ready_next;
              out_is = g.out_is ∙ ap (λ (w : Evaluated (List (List Value))). cons_lists g.lists w.out) R ∙ cons_next g.lists vs (others (take behind (drop (used + seg) old))).out;
              counts_are = g.counts_are ∙ ap (λ (l : List ℕ). map (λ (l : List Value). length l) g.lists ++ l) (counts_more ∙ ap (λ (m : ℕ). m ∷ counts_at file node level left (end_at file level pos)) (sym lv)) ∙ sym (append_assoc (map (λ (l : List Value). length l) g.lists) (length vs ∷ []) (counts_at file node level left (end_at file level pos))) ∙ ap (λ (l : List ℕ). l ++ counts_at file node level left (end_at file level pos)) (sym (lengths_snoc g.lists vs));
              seg_is = g.seg_is ∙ ap (λ (w : Evaluated (List (List Value))). g.head ++ w.seg) R ∙ sym (append_assoc g.head here.seg (others (take behind (drop (used + seg) old))).seg);
              total = total_is;
              ends = g.ends ∙ (parted file level left pos g.ready.plan.reads).ends;
              cells_are = omega (arith, g.cells_are, cells_more);
              stored = values_behind q c to y (omega (arith, going_cells)) ∙ (λ j. g.stored j ++ s j) ∙ m.2.1 ∙ ap (passed_first callee m.0) (sym (concat_snoc g.lists vs));
              inputs = m.2.0;
              long = omega (arith, long, g.long);
              within = omega (arith, going_seg, length-drop used old, g.within);
            } in
            subst (λ (j : ℕ). Going want file tab rows consts callee n at level node first cells before old left (i + 1) r.next (used + j) (q + c) (put_tail (9 * q) to y) (put_tail used new x)) (sym h.used_is)
            (subst (λ (j : ℕ). Going want file tab rows consts callee n at level node first cells before old left (i + 1) j (used + seg) (q + c) (put_tail (9 * q) to y) (put_tail used new x)) (sym h.next_is) t)
        go (failure d) e x s = failed_values refl (sym x)
        go overflow e x s = over_values refl (sym x)

    -- it failed, or overflowed: the others are passed over
    pub going_stop : {p : Passed} (make : List Value → List Value) (got : List Value) → ¬ (r.out ≡ End.Values) → SkipsTo file level left r.next p → RanTo make (flat want) (ends_at file level n at) (segs_at file level n at) old (record { out = r.out; next = p.next; used = used + r.used + p.used }) got (put_tail used new x) × EachIs (counts_at file node level n at) want.out
    going_stop {p} make got z skip = go here.out refl h.end_is
      where
        s : SkipsTo file level left (end_at file level pos) p
        s = moved_skip file level left h.next_is skip

        rest : List ℕ
        rest = take behind (drop (used + seg) old)

        d : drop (used + seg) old ≡ rest ++ drop (segs_at file level n at) old
        d = sym (take-append-drop behind (drop (used + seg) old)) ∙ ap (λ (l : List ℕ). rest ++ l) (drop-drop behind (used + seg) old ∙ ap (λ (m : ℕ). drop m old) (sym total_is))

        ended : (out : Results (List (List Value))) → r.out ≡ ending_of (then_results flatten out) → cons_lists g.lists out ≡ out → Holds make (then_results flatten out) got → each_in file consts node first cells before (exprs_at file level (suc left) pos) (take (segs_at file level (suc left) pos) (drop used old)) ≡ record { out = out; seg = here.seg ++ rest } → want.out ≡ out × RanTo make (flat want) (ends_at file level n at) (segs_at file level n at) old (record { out = r.out; next = p.next; used = used + r.used + p.used }) got (put_tail used new x)
        ended out ee same hold R =
            let W : want.out ≡ out = g.out_is ∙ ap (λ (w : Evaluated (List (List Value))). cons_lists g.lists w.out) R ∙ same in (
              W,
              record {
                end_is = ee ∙ ap (λ (o : Results (List (List Value))). ending_of (then_results flatten o)) (sym W);
                next_is = s.next_is ∙ sym (g.ends ∙ (parted file level left pos g.ready.plan.reads).ends);
                used_is = (λ j. used + h.used_is j + s.used_is j) ∙ sym total_is;
                values_are = subst (λ (o : Results (List (List Value))). Holds make (then_results flatten o) got) (sym W) hold;
                state = state_is ∙ ap (λ (l : List ℕ). (g.head ++ here.seg) ++ l) d ∙ sym (append_assoc (g.head ++ here.seg) rest (drop (segs_at file level n at) old))
                    ∙ ap (λ (l : List ℕ). l ++ drop (segs_at file level n at) old) (append_assoc g.head here.seg rest ∙ sym (g.seg_is ∙ ap (λ (w : Evaluated (List (List Value))). g.head ++ w.seg) R));
              },
            )

        untold : {P : Type 0} (out : Results (List (List Value))) → EachIs (counts_at file node level n at) out → want.out ≡ out × P → P × EachIs (counts_at file node level n at) want.out
        untold out h w = (w.1, subst (EachIs (counts_at file node level n at)) (sym w.0) h)

        go : (o : Outcomes) → here.out ≡ o → r.out ≡ ending_of o → RanTo make (flat want) (ends_at file level n at) (segs_at file level n at) old (record { out = r.out; next = p.next; used = used + r.used + p.used }) got (put_tail used new x) × EachIs (counts_at file node level n at) want.out
        go (values vs) e q = absurd (z q)
        go (failure c) e q = untold (failure c) tt (ended (failure c) q refl tt (opened ∙ next_failure here (each_in file consts node first cells before (exprs_at file level left (end_at file level pos))) rest c e))
        go overflow e q = untold overflow tt (ended overflow q refl tt (opened ∙ next_overflow here (each_in file consts node first cells before (exprs_at file level left (end_at file level pos))) rest e))

none_segs : (file : List ℕ) (level at : ℕ) → segs_at file level 0 at ≡ 0
unfolding sites_size
none_segs file level at = ap (λ (es : Exprs). sites_size (sizes_in file) (callees_all es)) (none_read file level at).0

-- all have their values
pub going_done : {want : Evaluated (List (List Value))} {file tab rows consts : List ℕ} {callee : Callee ℕ} {n at level node : ℕ} {first : Bool} {cells before old : List ℕ} {i pos used q : ℕ} {to new : List ℕ} → Going want file tab rows consts callee n at level node first cells before old 0 i pos used q to new → RanTo (passed_all file callee) (flat want) (ends_at file level n at) (segs_at file level n at) old (record { out = End.Values; next = pos; used = used }) (values_of (all_cells file node level n at) to) new × EachIs (counts_at file node level n at) want.out
going_done {want} {file} {tab} {rows} {consts} {callee} {n} {at} {level} {node} {first} {cells} {before} {old} {i} {pos} {used} {q} {to} {new} g =
    let none = none_read file level pos in
    let z = none_segs file level pos in
    let R = all_none file consts level node first cells before pos (take (segs_at file level 0 pos) (drop used old)) in
    let W : want.out ≡ values g.lists = g.out_is ∙ ap (λ (e : Evaluated (List (List Value))). cons_lists g.lists e.out) R ∙ ap values (append-nil g.lists) in
    let c : all_cells file node level n at ≡ q = omega (arith, g.cells_are, ap (λ (es : Exprs). cells_all (file_at file).nodes (arrays_in (variables (node_in file node))) (constant_arrays (file_at file).constants) es) none.0) in
    let t : segs_at file level n at ≡ used = omega (arith, g.total, z) in
    let seg : want.seg ≡ g.head = g.seg_is ∙ ap (λ (y : Evaluated (List (List Value))). g.head ++ y.seg) R ∙ ap (λ (m : ℕ). g.head ++ take m (drop used old)) z ∙ append-nil g.head in
    let counts : map (λ (l : List Value). length l) g.lists ≡ counts_at file node level n at = sym (append-nil (map (λ (l : List Value). length l) g.lists)) ∙ ap (λ (l : List ℕ). map (λ (l : List Value). length l) g.lists ++ l) (sym (ap (λ (es : Exprs). cell_counts (file_at file).nodes (arrays_in (variables (node_in file node))) (constant_arrays (file_at file).constants) es) none.0)) ∙ sym g.counts_are in (
      record {
        end_is = ap (λ (o : Results (List (List Value))). ending_of (then_results flatten o)) (sym W);
        next_is = sym (g.ends ∙ none.1);
        used_is = sym t;
        values_are = subst (λ (y : Results (List (List Value))). Holds (passed_all file callee) (then_results flatten y) (values_of (all_cells file node level n at) to)) (sym W) (ap (λ (m : ℕ). values_of m to) c ∙ g.stored ∙ all_done file callee i node level pos q g.done g.todo (concat g.lists) g.inputs);
        state = g.state ∙ (λ j. sym seg j ++ drop (sym t j) old);
      },
      subst (EachIs (counts_at file node level n at)) (sym W) counts,
    )
