-- The state through a list of cycles: it is well formed and its main cells have their kinds, so that each answered cycle solves the main equations.
use Prim.Native.Nat.{ℕ, zero, suc, ◌+◌, ◌*◌, ◌-◌, ◌^◌, ◌<◌, ◌≤◌}
use mathlib.Core.Bool.{Bool, true, false, not, ◌&&◌, ◌||◌}
use mathlib.Core.List.Memᴰ.{append_left as in_left}
use mathlib.Core.List.Memᴰ.{append_right as in_right}
use mathlib.Core.List.{List, [], ◌∷◌, ◌++◌, map, map-append, append_assoc}
use mathlib.Core.Path.{◌≡◌, refl, sym, ap, ap₂, subst, ◌∙◌}
use native.Mathlib.Omega.{arith}
use lib.ListN.{length, take, drop, get_or, length-append, length-drop, length-map, take-append-drop}
use lib.Seq.{take_at, drop_at, length-take-le, take-append-le, drop-append-le, take-add}
use lib.Dec.{T, leb, eqb, eqb→eq}
use Rattle.ol_theory.specs.Member.{◌∈◌}
use Rattle.ol_theory.specs.System as Y
use Rattle.ol_spec.specs.Lists.{concat, same, member}
use Rattle.ol_spec.specs.Syntax.{Ty, bool, int, float32, float64, char, enum, Equation, Node, File, no_node, variables, cell_types, main}
use Rattle.ol_spec.specs.Shapes.{arrays_in, constant_arrays}
use Rattle.ol_spec.specs.Cell.{tag, cells, value_of, values_of, good_cell, good_cells}
use Rattle.ol_spec.specs.Types.{IntTy, unsigned_to, int_in, in_type, defaults, kind, default}
use Rattle.ol_spec.specs.Limits.{Loader}
use Rattle.ol_spec.specs.Order.{order}
use Rattle.ol_spec.specs.Eval.{Globals, callees}
use Rattle.ol_spec.specs.Step.{cell_count, input_count, scope, equation_sites, sites, own_size, is_fresh, old_cells, old_segs, split, started_record, Ended, finished, failed_at, overflowed_at, Run, run, calls, fresh_at, fresh_record}
use Rattle.ol_spec.specs.Admission.{admitted, judge, head_size, state_size}
use Rattle.ol_spec.specs.State.{globals_of, fresh_state, good_sites, good_own, good_state, good_each, good_inputs}
use Rattle.ol_spec.specs.Answers.{fault_at}
use Rattle.ol_spec.specs.Cycle.{CycleCall, end_on, main_run, end_run, cycle_unless, fits17, cycle_judged, cycle}
use Rattle.ol_spec.specs.Demand3.{Turn, Made, next_state, history, InKind, lent, given, Answered, KeepsKinds, Solves, AllSolve, SolutionClaim}
use Rattle.ol_spec.specs.declared.Value.{Value}
use Rattle.ol_spec.specs.declared.Value.TheVariants as Val
use Rattle.ol_spec.specs.declared.Fault.{Fault}
use Rattle.ol_spec.specs.declared.Cycled.{Cycled}
use Rattle.ol_spec.specs.declared.Cycled.TheVariants as Cyc
use Rattle.ol_spec.proofs.Tests.{T_and, and_t, T_true, true_t, eq_eqb}
use Rattle.ol_spec.proofs.Values.{Fine}
use Rattle.ol_spec.proofs.Cells.{AllFine, good_fine, cells_back, cells_values, length_cells, same_refl, same_eq}
use Rattle.ol_spec.proofs.Segments.{Rec}
use Rattle.ol_spec.proofs.Runs.{Segs, segs_concat, segs_length, split_segs, split_concat, RunGood, run_meets, Instance, old_fine, inner_good, started_instance}
use Rattle.ol_spec.proofs.Forms.{RunnableEqs}
use Rattle.ol_spec.proofs.CellLengths.{length_values, start_length, types_append}
use Rattle.ol_spec.proofs.Counts.{NamesShaped}
use Rattle.ol_spec.proofs.Calls.{lower_site, is_good, calls_sound, fresh_main, fresh_rec, fresh_sites}
use Rattle.ol_spec.proofs.MainFacts.{main_at_lem}
use Rattle.ol_spec.proofs.Lists.{All, concat_append, map_drop}
use Rattle.ol_spec.proofs.MainSystem.{view_on}
use Rattle.ol_spec.proofs.OneCycle.{sys, begin, run_theory, solves}
use Rattle.ol_spec.proofs.Admitted.{Facts, admitted_facts}

-- ---- inputs

int_in_tag : (t : IntTy) (v : Value) (ens : List (List ℕ)) → T (int_in ens t v) → tag v ≡ 1
int_in_tag t (Val.Bool b) ens h = absurd h
int_in_tag t (Val.Int i) ens h = refl
int_in_tag t (Val.Float x) ens h = absurd h
int_in_tag t (Val.Float32 x) ens h = absurd h
int_in_tag t (Val.Enum w) ens h = absurd h

in_type_tag : (ens : List (List ℕ)) (t : Ty) (v : Value) → T (in_type ens t v) → tag v ≡ kind ens t
in_type_tag ens bool v h = eqb→eq (tag v) 0 h
in_type_tag ens (int c) v h = int_in_tag _ v ens h
in_type_tag ens float32 v h = eqb→eq (tag v) 3 h
in_type_tag ens float64 v h = eqb→eq (tag v) 2 h
in_type_tag ens char v h = int_in_tag (unsigned_to 8) v ens h
in_type_tag ens (enum e) v h = eqb→eq (tag v) 4 (T_and (eqb (tag v) 4) _ h).0

-- ---- answers

pub same_refused : {x y : Fault} → Cyc.Refused x ≡ Cyc.Refused y → x ≡ y
same_refused e = cc

pub refused_not : {x : Fault} → Cyc.Refused x ≡ Cyc.Answered → ⊥
refused_not e = let z : ◌≡◌ {A = ℕ} 0 1 = cc in omega arith

abbrev pub made : Turn → List ℕ → CycleCall → Made
made t old c = record { turn = t; old = old; result = c }

each_tags : (ens : List (List ℕ)) (xs : List Ty) (s : List ℕ) → T (good_each ens xs s) → map tag (values_of (length xs) s) ≡ map (kind ens) xs
each_tags ens [] s h = refl
each_tags ens (x ∷ xs) s h =
    let w = T_and (good_cell (concat ens) (take 9 s) && in_type ens x (value_of (take 9 s))) _ h in
    ap₂ {C = List ℕ} (λ a l. a ∷ l) (in_type_tag ens x (value_of (take 9 s)) (T_and (good_cell (concat ens) (take 9 s)) _ w.0).1) (each_tags ens xs (drop 9 s) w.1)

pub each_fine : (ens : List (List ℕ)) → ((x : ℕ) → T (member x (concat ens)) → x < 2 ^ 16) → (xs : List Ty) (s : List ℕ) → T (good_each ens xs s)
    → AllFine (concat ens) (values_of (length xs) s)
each_fine ens short [] s h = tt
each_fine ens short (x ∷ xs) s h =
    let w = T_and (good_cell (concat ens) (take 9 s) && in_type ens x (value_of (take 9 s))) _ h in
    (good_fine (concat ens) short (take 9 s) (T_and (good_cell (concat ens) (take 9 s)) _ w.0).0, each_fine ens short xs (drop 9 s) w.1)

default_tags : (ens : List (List ℕ)) (xs : List Ty) → map tag (defaults ens xs) ≡ map (kind ens) xs
default_tags ens [] = refl
default_tags ens (x ∷ xs) = ap (λ l. kind ens x ∷ l) (default_tags ens xs)

-- ---- what a record's own part tells does not depend on what follows it

pub cells_part_lem : (vs : List ℕ) (m : ℕ) (a b c : List ℕ) → length a ≡ 9 * m → (good_cells vs m (a ++ b) ≡ good_cells vs m (a ++ c)) × (values_of m (a ++ b) ≡ values_of m (a ++ c))
cells_part_lem vs zero a b c e = (refl, refl)
cells_part_lem vs (suc m) a b c e =
    let h : 9 ≤ length a = omega arith in
    let tb = take-append-le 9 a b h in
    let tc = take-append-le 9 a c h in
    let db = drop-append-le 9 a b h in
    let dc = drop-append-le 9 a c h in
    let w = cells_part_lem vs m (drop 9 a) b c (length-drop 9 a ∙ omega arith) in (
      ap₂ (λ x y. good_cell vs x && good_cells vs m y) tb db
          ∙ ap (λ y. good_cell vs (take 9 a) && y) w.0
          ∙ sym (ap₂ (λ x y. good_cell vs x && good_cells vs m y) tc dc),
      ap₂ {C = List Value} (λ x y. value_of x ∷ values_of m y) tb db
          ∙ ap {B = List Value} (λ y. value_of (take 9 a) ∷ y) w.1
          ∙ sym (ap₂ {C = List Value} (λ x y. value_of x ∷ values_of m y) tc dc),
    )

pub own_part : (g : Globals) (n : Node) (a b c : List ℕ) → length a ≡ own_size n
    → (T (good_own g n (a ++ b)) → T (good_own g n (a ++ c))) × (old_cells n (a ++ b) ≡ old_cells n (a ++ c))
unfolding good_own
own_part g n [] b c e = absurd (omega arith)
own_part g n (x ∷ a) b c e =
    let m = cell_count n in
    let w = cells_part_lem (concat g.enums) m a b c (omega arith) in
    let tb = take_at a b (9 * m) (omega arith) in
    let tc = take_at a c (9 * m) (omega arith) in
    (subst T (ap₂ (λ p q. leb x 1 && p && (not (eqb x 0) || same q (cells (defaults g.enums (cell_types (variables n)))))) w.0 (tb ∙ sym tc)), w.1)

-- the fresh segment of an equation
abbrev pub fresh_seg : Globals → Equation → List ℕ
fresh_seg g q = concat (map (fresh_at g (length g.nodes)) (callees q.rhs))

pub fresh_concat : (g : Globals) (qs : List Equation) → concat (map (fresh_seg g) qs) ≡ concat (map (fresh_at g (length g.nodes)) (concat (map equation_sites qs)))
fresh_concat g [] = refl
fresh_concat g (q ∷ qs) =
    let h = fresh_at g (length g.nodes) in
    ap (λ l. fresh_seg g q ++ l) (fresh_concat g qs)
    ∙ sym (ap concat (map-append h (callees q.rhs) (concat (map equation_sites qs))) ∙ concat_append (map h (callees q.rhs)) (map h (concat (map equation_sites qs))))

-- the cycle's old state is well formed, and it is not refused with 15
abbrev pub Not15 : File → List Value → Made → Type 0
Not15 f vs m = (good_state f vs m.old ≡ true) × ((q : ℕ) → ¬ (m.result.answer ≡ Cyc.Refused (fault_at 15 q)))

module _ (f : File) (vs : List Value) (F : Facts f vs) where
  abbrev pub g : Globals
  g = globals_of f vs

  abbrev pub n : Node
  n = main f

  abbrev pub K : ℕ
  K = length f.nodes - 1

  pub is_main : n ≡ get_or f.nodes K no_node
  is_main = main_at_lem f.nodes F.some_node_lem

  pub plain_main : RunnableEqs f.nodes (arrays_in (variables n)) (constant_arrays f.constants) n.equations
  plain_main = subst (λ x. RunnableEqs f.nodes (arrays_in (variables x)) (constant_arrays f.constants) x.equations) (sym is_main) (F.callable.plain K)

  shaped_main : (first : Bool) (before cs : List Value) → NamesShaped g (scope n first before cs)
  shaped_main = subst (λ x. (first : Bool) (before cs : List Value) → NamesShaped g (scope x first before cs)) (sym is_main) (F.callable.shaped K)

  abbrev pub p : ℕ → List ℕ → Bool
  p = is_good f vs

  abbrev pub Inst : List ℕ → Type 0
  Inst r = Instance g p n r

  -- well formed: what 15 asks
  pub record StateWell (old : List ℕ) : Type 0 where
    pub sized : length old ≡ state_size f
    pub head : take (head_size f) old ≡ cells vs
    pub inst : Inst (drop (head_size f) old)

  -- and with the declared kinds
  pub record StateOk (old : List ℕ) : Type 0 where
    pub well : StateWell old
    pub kinds : InKind f (old_cells n (drop (head_size f) old))

  -- a state is well formed exactly if 15 does not hold of it
  pub well_good : {old : List ℕ} → StateWell old → good_state f vs old ≡ true
  unfolding good_state
  well_good {old} h =
      T_true _ (and_t (eqb (length old) (state_size f) && same (take (head_size f) old) (cells vs)) _
      (and_t (eqb (length old) (state_size f)) _ (eq_eqb _ _ h.sized) (subst (λ l. T (same l (cells vs))) (sym h.head) (same_refl (cells vs))))
      (and_t (good_own g n (drop (head_size f) old)) _ h.inst.own h.inst.inner))

  pub good_well : {old : List ℕ} → good_state f vs old ≡ true → StateWell old
  unfolding good_state state_size
  good_well {old} e =
      let rest = drop (head_size f) old in
      let w = T_and (eqb (length old) (state_size f) && same (take (head_size f) old) (cells vs)) _ (true_t (good_state f vs old) e) in
      let u = T_and (eqb (length old) (state_size f)) _ w.0 in
      let v = T_and (good_own g n rest) _ w.1 in
      let sized : length old ≡ state_size f = eqb→eq (length old) (state_size f) u.0 in
      record {
        sized = sized;
        head = same_eq (take (head_size f) old) (cells vs) u.1;
        inst = record { sized = length-drop (head_size f) old ∙ omega arith; own = v.0; inner = v.1 };
      }

  pub head_length : length (cells vs) ≡ head_size f
  head_length = length_cells vs ∙ ap (λ m. 9 * m) F.constant_count

  -- a state from its parts
  pub well_parts : (r : List ℕ) → Inst r → StateWell (cells vs ++ r)
  unfolding state_size
  well_parts r i =
      record {
        sized = length-append (cells vs) r ∙ ap₂ ◌+◌ head_length i.sized;
        head = take_at (cells vs) r (head_size f) head_length;
        inst = subst Inst (sym (drop_at (cells vs) r (head_size f) head_length)) i;
      }

  -- what stands in a state: the main cells, whether the main instance is fresh, and the main equations' segments
  pub record Parts (st : List ℕ) (cs : List Value) (b : Bool) (ss : List (List ℕ)) : Type 0 where
    pub cells : old_cells n (drop (head_size f) st) ≡ cs
    pub first : is_fresh (drop (head_size f) st) ≡ b
    pub segs : old_segs g n (drop (head_size f) st) ≡ ss

  pub parts_of_lem : (b : ℕ) (cs : List Value) (ss : List (List ℕ)) → AllFine (concat f.enums) cs → length cs ≡ cell_count n → Segs g p n.equations ss
      → Parts (cells vs ++ (b ∷ cells cs ++ concat ss)) cs (eqb b 0) ss
  parts_of_lem b cs ss fine e h =
      let q = drop_at (cells vs) (b ∷ cells cs ++ concat ss) (head_size f) head_length in
      record {
        cells = ap (old_cells n) q ∙ ap (λ m. values_of m (cells cs ++ concat ss)) (sym e) ∙ cells_back (concat f.enums) cs (concat ss) fine;
        first = ap is_fresh q;
        segs = ap (old_segs g n) q ∙ ap (split g n.equations) (drop_at (b ∷ cells cs) (concat ss) (own_size n) (omega (arith, length_cells cs))) ∙ split_concat g p n.equations ss h;
      }

  -- ---- the start

  pub fresh_inst : Inst (fresh_record g n)
  fresh_inst = subst (λ m. Instance g p m (fresh_record g m)) (sym is_main) (fresh_main F.callable K (omega (arith, F.some_node_lem)))

  pub fresh_cells : AllFine (concat f.enums) (defaults f.enums (cell_types (variables n)))
  fresh_cells = subst (λ m. AllFine (concat f.enums) (defaults f.enums (cell_types (variables m)))) (sym is_main) (F.callable.fresh_fine K)

  pub fresh_segs : Segs g p n.equations (map (fresh_seg g) n.equations)
  fresh_segs = go n.equations (λ c m. fresh_rec F.callable (length f.nodes) c (low c m) (low c m))
    where
      low : (c : ℕ) → c ∈ sites n → c < length f.nodes
      low c m = omega (arith, lower_site F.callable K c (subst (λ x. c ∈ sites x) is_main m), F.some_node_lem)

      go : (qs : List Equation) → ((c : ℕ) → c ∈ concat (map equation_sites qs) → Rec g p c (fresh_at g (length f.nodes) c)) → Segs g p qs (map (fresh_seg g) qs)
      go [] h = tt
      go (x ∷ qs) h = (
        fresh_sites F.callable (fresh_at g (length f.nodes)) (callees x.rhs) (λ c m. h c (in_left (concat (map equation_sites qs)) m)),
        go qs (λ c m. h c (in_right (callees x.rhs) m)),
      )

  pub fresh_parts : Parts (fresh_state f vs) (defaults f.enums (cell_types (variables n))) true (map (fresh_seg g) n.equations)
  unfolding fresh_state
  fresh_parts =
      let ds = defaults f.enums (cell_types (variables n)) in
      subst (λ l. Parts (cells vs ++ (0 ∷ cells ds ++ l)) ds true (map (fresh_seg g) n.equations)) (fresh_concat g n.equations)
      (parts_of_lem 0 ds (map (fresh_seg g) n.equations) fresh_cells (length-map (cell_types (variables n)) (default f.enums)) fresh_segs)

  pub start_ok : StateOk (fresh_state f vs)
  unfolding fresh_state
  start_ok = record { well = well_parts (fresh_record g n) fresh_inst; kinds = ap (map tag) fresh_parts.cells ∙ default_tags f.enums (cell_types (variables n)) }

  -- ---- a cycle

  module _ (old ins : List ℕ) (h : StateWell old) (good-ins : T (good_inputs f ins)) where
    abbrev pub rec : List ℕ
    rec = drop (head_size f) old

    abbrev pub ws : List Value
    ws = values_of (input_count n) ins

    abbrev pub u : Run
    u = main_run f vs old ins

    pub each : T (good_each f.enums (cell_types n.inputs) ins)
    unfolding good_inputs
    each = (T_and (eqb (length ins) (9 * input_count n)) _ good-ins).1

    pub ran : RunGood (Fine (concat f.enums)) g p n (cell_count n) u
    unfolding main_run
    ran =
        let fine = each_fine f.enums F.callable.short (cell_types n.inputs) ins each in
        run_meets (calls_sound F.callable (length f.nodes)) n plain_main shaped_main ws rec fine (length_values (input_count n) ins)
        (old_fine F.callable.short h.inst) (inner_good h.inst)

    pub begins : length (begin f vs F.mainly old ws) ≡ cell_count n
    begins = start_length n ws rec (length_values (input_count n) ins)

    pub begin_kinds : InKind f (old_cells n rec) → InKind f (begin f vs F.mainly old ws)
    begin_kinds hk =
        let ks = kind f.enums in
        let is = cell_types n.inputs in
        let rest = cell_types (n.outputs ++ n.locals) in
        let all : map ks (cell_types (variables n)) ≡ map ks is ++ map ks rest =
        ap (λ l. map ks (cell_types l)) (append_assoc n.inputs n.outputs n.locals) ∙ ap (map ks) (types_append n.inputs (n.outputs ++ n.locals)) ∙ map-append ks is rest in
        let others : map tag (drop (length is) (old_cells n rec)) ≡ map ks rest =
        map_drop tag (length is) (old_cells n rec) ∙ ap (drop (length is)) (hk ∙ all) ∙ drop_at (map ks is) (map ks rest) (length is) (length-map is ks) in
        map-append tag ws (drop (length is) (old_cells n rec)) ∙ ap₂ ◌++◌ (each_tags f.enums is ins each) others ∙ sym all

    pub counted : length (old_segs g n rec) ≡ length n.equations
    counted = segs_length g p n.equations _ (split_segs g p n.equations _ (inner_good h.inst))

    -- a finished run, as the theory has it
    pub finishes : u.end ≡ finished → Y.run_eqs (sys f vs F.mainly old) (order n.equations) (begin f vs F.mainly old ws) (old_segs g n rec) ≡ Y.finished u.cells u.segs
    unfolding main_run run
    finishes e = sym (run_theory f vs F.mainly old ws) ∙ ap (λ x. view_on n g (calls g) (is_fresh rec) (old_cells n rec) x u.cells u.segs) e

    new_cells : InKind f (old_cells n rec) → u.end ≡ finished → InKind f u.cells → Solves f vs old ws u.cells (cells u.cells)
    new_cells hk e k = solves f vs F.mainly old ws (length_values (input_count n) ins) begins (begin_kinds hk) counted u.cells u.segs (finishes e) k

    pub given_back : values_of (cell_count n) (cells u.cells) ≡ u.cells
    given_back = ap (λ m. values_of m (cells u.cells)) (sym ran.counted) ∙ cells_values (concat f.enums) u.cells ran.fine

    -- the state that an answered cycle leaves
    abbrev pub answered : List ℕ
    answered = take (head_size f) old ++ started_record u.cells u.segs

    pub answered_well : StateWell answered
    answered_well = subst (λ l. StateWell (l ++ started_record u.cells u.segs)) (sym h.head) (well_parts (started_record u.cells u.segs) (started_instance u ran))

    pub answered_parts : Parts answered u.cells false u.segs
    answered_parts =
        subst (λ l. Parts (l ++ started_record u.cells u.segs) u.cells false u.segs) (sym h.head) (parts_of_lem 1 u.cells u.segs ran.fine ran.counted ran.segs)

    pub answered_ok : InKind f u.cells → StateOk answered
    answered_ok k = record { well = answered_well; kinds = ap (map tag) answered_parts.cells ∙ k }

    -- the state that a cycle leaves where evaluation fails: the record's own part is the old one
    abbrev pub failed : List ℕ
    failed = take (head_size f + own_size n) old ++ concat u.segs

    abbrev pub own : List ℕ
    own = take (own_size n) rec

    pub own_length : length own ≡ own_size n
    own_length = length-take-le (own_size n) rec (omega (arith, h.inst.sized))

    pub own_kept : (T (good_own g n rec) → T (good_own g n (own ++ concat u.segs))) × (old_cells n rec ≡ old_cells n (own ++ concat u.segs))
    own_kept =
        subst (λ l. (T (good_own g n l) → T (good_own g n (own ++ concat u.segs))) × (old_cells n l ≡ old_cells n (own ++ concat u.segs))) (take-append-drop (own_size n) rec)
        (own_part g n own (drop (own_size n) rec) (concat u.segs) own_length)

    pub failed_is : failed ≡ cells vs ++ (own ++ concat u.segs)
    failed_is =
        ap (λ l. l ++ concat u.segs) (take-add (head_size f) (own_size n) old ∙ ap (λ l. l ++ own) h.head) ∙ append_assoc (cells vs) own (concat u.segs)

    pub failed_well : StateWell failed
    failed_well =
        let gs = segs_concat g p n.equations u.segs ran.segs in
        subst StateWell (sym failed_is)
        (well_parts (own ++ concat u.segs)
        (record {
          sized = length-append own (concat u.segs) ∙ ap₂ ◌+◌ own_length gs.sized;
          own = own_kept.0 h.inst.own;
          inner = subst (λ l. T (good_sites g p (sites n) l)) (sym (drop_at own (concat u.segs) (own_size n) own_length)) gs.good;
        }))

    failed_kinds : InKind f (old_cells n rec) → InKind f (old_cells n (drop (head_size f) failed))
    failed_kinds hk =
        ap (λ l. map tag (old_cells n (drop (head_size f) l))) failed_is
        ∙ ap (λ l. map tag (old_cells n l)) (drop_at (cells vs) (own ++ concat u.segs) (head_size f) head_length) ∙ ap (map tag) (sym own_kept.1) ∙ hk

  -- ---- a cycle of a list

  -- on a well-formed state a cycle is refused with 16 or 17, or runs
  pub cycle_is : (ld : Loader) (s : List ℕ) → judge ld s ≡ admitted f vs → (old ins new vals : List ℕ) → StateWell old
      → cycle ld s old ins new vals ≡ cycle_unless false (not (good_inputs f ins)) (not (fits17 f new vals)) f vs old ins new vals
  unfolding cycle
  cycle_is ld s e old ins new vals h =
      ap (λ j. cycle_judged j old ins new vals) e ∙ ap (λ b. cycle_unless (not b) (not (good_inputs f ins)) (not (fits17 f new vals)) f vs old ins new vals) (well_good h)

  -- whatever the kinds, it is not refused with 15, and the state stays well formed
  abbrev pub Well : List ℕ → CycleCall → Type 0
  Well old c = ((q : ℕ) → ¬ (c.answer ≡ Cyc.Refused (fault_at 15 q))) × StateWell (next_state c.answer old c.new)

  pub run_well : (t : Turn) (old : List ℕ) → StateWell old → T (good_inputs f t.inputs) → Well old (end_run f old t.values (main_run f vs old t.inputs))
  run_well t old h gi = go (main_run f vs old t.inputs).end
    where
      go : (e : Ended) → Well old (end_on f old t.values e (main_run f vs old t.inputs).cells (main_run f vs old t.inputs).segs)
      go finished = (λ q e. refused_not (sym e), answered_well old t.inputs h gi)
      go (failed_at c i) = (λ q e. let z : ◌≡◌ {A = ℕ} 0 1 = cc in omega arith, failed_well old t.inputs h gi)
      go (overflowed_at i) = (λ q e. let z : ◌≡◌ {A = ℕ} 0 1 = cc in omega arith, h)

  pub cycle_well : (ld : Loader) (s : List ℕ) → judge ld s ≡ admitted f vs → (t : Turn) (old : List ℕ) → StateWell old
      → Well old (cycle ld s old t.inputs t.new t.values)
  cycle_well ld s e t old h = rw (cycle_is ld s e old t.inputs t.new t.values h) (go (good_inputs f t.inputs) refl (fits17 f t.new t.values))
    where
      go : (b : Bool) → good_inputs f t.inputs ≡ b → (b' : Bool) → Well old (cycle_unless false (not b) (not b') f vs old t.inputs t.new t.values)
      go false q b' = (λ x e. omega (arith, ap (λ (y : Fault). y.number) (same_refused e)), h)
      go true q false = (λ x e. omega (arith, ap (λ (y : Fault). y.number) (same_refused e)), h)
      go true q true = run_well t old h (true_t (good_inputs f t.inputs) q)

  -- where the kinds are kept, an answered cycle's values solve the equations
  abbrev Right : Turn → List ℕ → CycleCall → Type 0
  Right t old c =
      let m = made t old c in
      KeepsKinds f m → (Answered m → Solves f vs old (lent f m) (given f m) c.values) × InKind f (old_cells n (drop (head_size f) (next_state c.answer old c.new)))

  run_right : (t : Turn) (old : List ℕ) → StateOk old → T (good_inputs f t.inputs) → Right t old (end_run f old t.values (main_run f vs old t.inputs))
  run_right t old h gi = go (main_run f vs old t.inputs).end refl
    where
      u : Run
      u = main_run f vs old t.inputs

      go : (e : Ended) → u.end ≡ e → Right t old (end_on f old t.values e u.cells u.segs)
      go finished e k =
          let back = given_back old t.inputs h.well gi in
          let ks = subst (InKind f) back (k refl) in
          let cs = new_cells old t.inputs h.well gi h.kinds e ks in
          (λ a. subst (λ ds. Solves f vs old (values_of (input_count n) t.inputs) ds (cells u.cells)) (sym back) cs, (answered_ok old t.inputs h.well gi ks).kinds)
      go (failed_at c i) e k = (λ a. let z : ◌≡◌ {A = ℕ} 0 1 = cc in absurd (omega arith), failed_kinds old t.inputs h.well gi h.kinds)
      go (overflowed_at i) e k = (λ a. let z : ◌≡◌ {A = ℕ} 0 1 = cc in absurd (omega arith), h.kinds)

  cycle_right : (ld : Loader) (s : List ℕ) → judge ld s ≡ admitted f vs → (t : Turn) (old : List ℕ) → StateOk old
      → Right t old (cycle ld s old t.inputs t.new t.values)
  cycle_right ld s e t old h = rw (cycle_is ld s e old t.inputs t.new t.values h.well) (go (good_inputs f t.inputs) refl (fits17 f t.new t.values))
    where
      go : (b : Bool) → good_inputs f t.inputs ≡ b → (b' : Bool) → Right t old (cycle_unless false (not b) (not b') f vs old t.inputs t.new t.values)
      go false q b' k = (λ a. absurd (refused_not a), h.kinds)
      go true q false k = (λ a. absurd (refused_not a), h.kinds)
      go true q true k = run_right t old h (true_t (good_inputs f t.inputs) q) k

  pub all_solve : (ld : Loader) (s : List ℕ) → judge ld s ≡ admitted f vs → (ts : List Turn) (old : List ℕ) → StateOk old → AllSolve f vs (history ld s ts old)
  all_solve ld s e [] old h = tt
  all_solve ld s e (t ∷ ts) old h = λ k.
      let w = cycle_right ld s e t old h k in
      (w.0, all_solve ld s e ts _ (record { well = (cycle_well ld s e t old h.well).1; kinds = w.1 }))

  -- every old state of a list is well formed, and 15 is never answered
  pub no_15 : (ld : Loader) (s : List ℕ) → judge ld s ≡ admitted f vs → (ts : List Turn) (old : List ℕ) → StateWell old → All (Not15 f vs) (history ld s ts old)
  no_15 ld s e [] old h = tt
  no_15 ld s e (t ∷ ts) old h = let w = cycle_well ld s e t old h in ((well_good h, w.0), no_15 ld s e ts _ w.1)

  -- a cycle that is not refused leaves a well-formed state
  pub not_refused : (ld : Loader) (s : List ℕ) → judge ld s ≡ admitted f vs → (old ins new vals : List ℕ)
      → ((x : Fault) → ¬ ((cycle ld s old ins new vals).answer ≡ Cyc.Refused x)) → StateWell (cycle ld s old ins new vals).new
  unfolding cycle
  not_refused ld s e old ins new vals h = go (good_state f vs old) refl
    where
      left : (a : Cycled) → ((x : Fault) → ¬ (a ≡ Cyc.Refused x)) → StateWell (next_state a old (cycle ld s old ins new vals).new)
          → StateWell (cycle ld s old ins new vals).new
      left Cyc.Answered h w = w
      left (Cyc.Stopped x) h w = w
      left (Cyc.Refused x) h w = absurd (h x refl)

      go : (b : Bool) → good_state f vs old ≡ b → StateWell (cycle ld s old ins new vals).new
      go true q = left (cycle ld s old ins new vals).answer h (cycle_well ld s e (record { inputs = ins; new = new; values = vals }) old (good_well q)).1
      go false q =
          absurd (h (fault_at 15 0)
          (ap (λ j. (cycle_judged j old ins new vals).answer) e ∙ ap (λ b. (cycle_unless (not b) (not (good_inputs f ins)) (not (fits17 f new vals)) f vs old ins new vals).answer) q))

pub solution_claim : (ld : Loader) → SolutionClaim ld
unfolding SolutionClaim
solution_claim ld s f vs ts bytes e = let F = admitted_facts ld s f vs bytes e in all_solve f vs F ld s e ts (fresh_state f vs) (start_ok f vs F)
