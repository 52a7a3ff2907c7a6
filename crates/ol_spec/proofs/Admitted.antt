-- Everything that the proofs of demand 3 use of an admitted file that was read from bytes.
use Prim.Native.Nat.{ℕ, zero, suc, ◌+◌, ◌-◌, ◌^◌, ◌<◌, ◌≤◌}
use mathlib.Core.Bool.{Bool, true, false, cond}
use mathlib.Core.List.Memᴰ
use mathlib.Core.List.Memᴰ.{append_cases as in_append}
use mathlib.Core.List.Memᴰ.{append_left as in_left}
use mathlib.Core.List.Memᴰ.{append_right as in_right}
use mathlib.Core.List.Memᴰ.{head as here}
use mathlib.Core.List.Memᴰ.{not-nil as in_nil}
use mathlib.Core.List.Memᴰ.{tail as there}
use mathlib.Core.List.{List, [], ◌∷◌, ◌++◌, map, map-append, append-nil, append_assoc}
use mathlib.Core.Logic.{⊎_elim, by_cases}
use mathlib.Core.Option.{Option, none, some}
use mathlib.Core.Path.{◌≡◌, refl, sym, ap, ap₂, subst, ◌∙◌}
use native.Mathlib.Omega.{arith}
use native.Mathlib.Decide.{dec_lt}
use lib.ListN.{length, get_or, replicate, length-append, get_or-eq_default}
use lib.Dec.{T, ltb, ltb→lt, eqb, eqb→eq}
use lib.Ieee.{binary32, binary64}
use lib.Ieee.Bits as B
use Rattle.ol_theory.specs.Member.{◌∈◌, Distinct}
use Rattle.ol_spec.specs.Lists.{concat, member, or_else, maybe, sum, positions}
use Rattle.ol_spec.specs.Syntax.{Ty, bool, int, float32, float64, char, enum, VarTy, scalar, array, type_cells, variable_cells, constant_cells, constant_slots, length_in, Expr}
use Rattle.ol_spec.specs.Syntax.{rhs_of, Variable, name_of, Equation, Node, Constant, constant_name, File}
use Rattle.ol_spec.specs.Syntax.{no_node, variables, variable_names, cell_types, cell_names}
use Rattle.ol_spec.specs.Shapes.{add_sized, arrays_in, constant_arrays, length_for, length_of, shape}
use Rattle.ol_spec.specs.Places.{placed, placed_nodes, placed_constants, placed_equations, node_size, constant_size, nodes_start, rhs_place, collect}
use Rattle.ol_spec.specs.Types.{default, defaults}
use Rattle.ol_spec.specs.Limits.{Loader}
use Rattle.ol_spec.specs.Order.{unplaced}
use Rattle.ol_spec.specs.Eval.{Globals, Outcomes, values, failure, overflow, callees, picked, picked_some, or_failures, eval_cells}
use Rattle.ol_spec.specs.Step.{no_equation, equation_at, eval_equation, slots_of, fit_all, scope, calls_at, globals}
use Rattle.ol_spec.specs.State.{globals_of}
use Rattle.ol_spec.specs.Admission.{place_at, arity, in_constant, uses_where, node_calls, numbered, fault9, ring_in, first_some, fault11, constant_names, constant_cell_names, variants, Constants, all, no_calls, no_variables, after_constant, constants_from, constants, admitted, judge, takes, under, misplaced, misplaced_in, constant_misplaced, fault22}
use Rattle.ol_spec.specs.Demand3.{Bytes}
use Rattle.ol_spec.specs.declared.Value.{Value}
use Rattle.ol_spec.proofs.Tests.{T_and, T-dec, member_in, in_member}
use Rattle.ol_spec.proofs.Lists.{All, all_at, all_in_lem, all_join, concat_append, distinct_parts}
use Rattle.ol_spec.proofs.Rights.{by_right}
use Rattle.ol_spec.proofs.Ordering.{Placed, placed_or_stuck}
use Rattle.ol_spec.proofs.Values.{Fine, fine_closed}
use Rattle.ol_spec.proofs.Cells.{AllFine}
use Rattle.ol_spec.proofs.Forms.{Plain, Allowed, may_be, may_iterate, Runnable, RunnableEqs, runnable_at, used_by, callee_used, cells_in, uses}
use Rattle.ol_spec.proofs.CellLengths.{length_fit_all}
use Rattle.ol_spec.proofs.Slots.{positions_get, positions_none, cell_name, type_cells_lem, sized, no_length, in_slotted, count_named}
use Rattle.ol_spec.proofs.Segments.{Good, none_good, any_record, GivesAll, cells_meet}
use Rattle.ol_spec.proofs.Runs.{all_fit_all}
use Rattle.ol_spec.proofs.Calls.{Callable, iterated, function_size}
use Rattle.ol_spec.proofs.Counts.{CountIs, Counts, NamesShaped, cells_kept, rhs_count, calls_count}
use Rattle.ol_spec.proofs.ReadFacts.{TyOk, VarTyOk, VariableRead, TupleOk, NameRead, EnumRead, EquationRead, NodeRead, ConstantRead, FileRead, file_read}
use Rattle.ol_spec.proofs.Admits.{Admits, admits, Clean, first_clean, clean_parts, clean_each, used_clean, or_else_none, first_some_none, takes_cells, misplaced_takes, allowed, rhs_cells, shapes_of_lem, node_runnable, used_lower}
use Rattle.ol_spec.proofs.MainFacts.{main_at_lem, fresh_out, fresh_distinct, distinct_names, distinct_constants, variable_other, names_seen, names_fresh, names_of, seen_by, taken_in, Shaped, shapes, shaped_arity}
use Rattle.ol_spec.proofs.MainSystem.{arity_of, names_in_lem, get_in}
use Rattle.ol_spec.proofs.OneCycle.{NodeOk, MainOk}

-- ---- lists

concat_all : (P : ℕ → Type 0) (ls : List (List ℕ)) (x : ℕ) → All (All P) ls → x ∈ concat ls → P x
concat_all P [] x h m = absurd (in_nil m)
concat_all P (l ∷ ls) x h m = ⊎_elim (all_in_lem P l x h.0) (concat_all P ls x h.1) (in_append l m)

enums_names : (ls : List (List ℕ)) → All EnumRead ls → All (All NameRead) ls
enums_names [] h = tt
enums_names (l ∷ ls) h = (h.0.names, enums_names ls h.1)

first_variant : (ls : List (List ℕ)) (e : ℕ) → All EnumRead ls → e < length ls → get_or (get_or ls e []) 0 0 ∈ concat ls
first_variant [] e h b = absurd (omega arith)
first_variant ([] ∷ ls) zero h b = absurd (omega (arith, h.0.some_variant))
first_variant ((v ∷ vs) ∷ ls) zero h b = here refl
first_variant (l ∷ ls) (suc e) h b = in_right l (first_variant ls e h.1 (omega arith))

pub no_members : (l : List ℕ) → ((c : ℕ) → ¬ (c ∈ l)) → l ≡ []
no_members [] h = refl
no_members (x ∷ l) h = absurd (h x (here refl))

placed_all : {A : Type 0} (size : A → ℕ) (P : A → Type 0) (at : ℕ) (xs : List A) → All P xs → All (λ p. P p.1) (placed size at xs)
placed_all size P at [] h = tt
placed_all size P at (x ∷ xs) h = (h.0, placed_all size P (at + size x) xs h.1)

pub length_placed : {A : Type 0} (size : A → ℕ) (at : ℕ) (xs : List A) → length (placed size at xs) ≡ length xs
length_placed size at [] = refl
length_placed size at (x ∷ xs) = ap suc (length_placed size (at + size x) xs)

or_left_some : (a b : Option ℕ) {m : ℕ} → b ≡ none → or_else a b ≡ some m → a ≡ some m
or_left_some none b e h = sym e ∙ h
or_left_some (some k) b e h = h

-- the items without their places
second_of : ℕ × Constant → Constant
second_of p = p.1

placed_second : (at : ℕ) (cs : List Constant) → map second_of (placed constant_size at cs) ≡ cs
unfolding second_of
placed_second at [] = refl
placed_second at (c ∷ cs) = ap (λ l. c ∷ l) (placed_second (at + constant_size c) cs)

pub one_more : {A : Type 0} (h : Constant → List A) (cs : List Constant) (c : Constant) → concat (map h (cs ++ c ∷ [])) ≡ concat (map h cs) ++ h c
one_more h cs c = ap concat (map-append h cs (c ∷ [])) ∙ concat_append (map h cs) (h c ∷ []) ∙ ap (λ l. concat (map h cs) ++ l) (append-nil (h c))

-- a constant that has its values, fitted, and then the others
after_fine : (ens : List ℕ) (at : ℕ) (o : Outcomes) (c : Constant) (us vs : List Value) (k : List Value → Constants) → AllFine ens us → GivesAll (Fine ens) o → CountIs (length (constant_cells c)) o
    → after_constant at k o ≡ all vs → {R : Type 0}
    → ((ws : List Value) → AllFine ens (us ++ fit_all (constant_cells c) ws) → length (fit_all (constant_cells c) ws) ≡ length (constant_cells c) → k ws ≡ all vs → R) → R
after_fine ens at (values ws) c us vs k h f n e next =
    next ws (all_join (Fine ens) us (fit_all (constant_cells c) ws) h (all_fit_all (fine_closed ens) (constant_cells c) ws f)) (length_fit_all (constant_cells c) ws n) e
after_fine ens at (failure d) c us vs k h f n e next = let z : ◌≡◌ {A = ℕ} 0 1 = cc in absurd (omega arith)
after_fine ens at overflow c us vs k h f n e next = let z : ◌≡◌ {A = ℕ} 0 1 = cc in absurd (omega arith)

-- ---- names and their cells

picked_length : (vs : List Value) (is : List ℕ) → length (picked vs is) ≡ length is
picked_length vs [] = refl
picked_length vs (i ∷ is) = ap suc (picked_length vs is)

some_count : (m : ℕ) (vs : List Value) (is : List ℕ) → length is ≡ m → CountIs m (or_failures (picked_some vs is))
some_count m vs [] e = tt
some_count m vs (i ∷ is) e = picked_length vs (i ∷ is) ∙ e

or_count : (m : ℕ) (vs us : List Value) (is js : List ℕ) → length is ≡ m → js ≡ [] → CountIs m (or_failures (or_else (picked_some vs is) (picked_some us js)))
or_count m vs us [] js e h = rw h tt
or_count m vs us (i ∷ is) js e h = picked_length vs (i ∷ is) ∙ e

some_one : (o : Option ℕ) (m : ℕ) → o ≡ some m → maybe 1 (λ n. n) o ≡ m
some_one o m e = rw e refl

-- a name with a length is one of the names
has_length : {A : Type 0} (name : A → ℕ) (ty : A → VarTy) (as' : List A) (x m : ℕ) → length_for x (sized name ty as') ≡ some m → x ∈ map name as'
has_length name ty as' x m e =
    by_cases (T-dec (member x (map name as'))) (λ t. member_in x (map name as') t)
    (λ h. absurd (never (no_length name ty as' x (λ k. h (in_member x (map name as') k))) e))
  where
    never : {o : Option ℕ} → o ≡ none → o ≡ some m → ⊥
    never a b = let q : none ≡ some m = sym a ∙ b in let z : ◌≡◌ {A = ℕ} 0 1 = cc in omega arith

abbrev ty_of : Variable → VarTy
ty_of v = v.ty

abbrev pub constant_ty : Constant → VarTy
constant_ty c = c.ty

-- the array names of a node's scope have as many cells as their lengths say
names_shaped : (f : File) (vs : List Value) (n : Node) → Distinct (variable_names n) → Distinct (constant_names f) → ((x : ℕ) → x ∈ variable_names n → ¬ (x ∈ constant_names f))
    → (first : Bool) (before cs : List Value) → NamesShaped (globals_of f vs) (scope n first before cs)
names_shaped f vs n d dc other first before cs us x m e = go (length_for x (arrays_in (variables n))) refl e
  where
    go : (o : Option ℕ) → length_for x (arrays_in (variables n)) ≡ o → or_else o (length_for x (constant_arrays f.constants)) ≡ some m
        → CountIs m (or_failures (or_else (picked_some us (positions x (cell_names (variables n)))) (picked_some vs (positions x (constant_cell_names f)))))
    go (some k) h q =
        let z : k ≡ m = cc in
        let in-vars : x ∈ variable_names n = has_length name_of ty_of (variables n) x k h in
        or_count m us vs (positions x (cell_names (variables n))) (positions x (constant_cell_names f))
        (count_named name_of ty_of 0 (variables n) x d in-vars ∙ some_one (length_for x (arrays_in (variables n))) m (h ∙ ap some z))
        (positions_none 0 x (constant_cell_names f) (λ k. other x in-vars (in_slotted constant_name constant_ty f.constants x k)))
    go none h q =
        let in-const : x ∈ constant_names f = has_length constant_name constant_ty f.constants x m q in
        let none_here : positions x (cell_names (variables n)) ≡ [] = positions_none 0 x (cell_names (variables n)) (λ k. other x (cell_name (variables n) x k) in-const) in
        rw none_here (some_count m vs (positions x (constant_cell_names f)) (count_named constant_name constant_ty 0 f.constants x dc in-const ∙ some_one (length_for x (constant_arrays f.constants)) m q))

-- ---- constants

pub length_joined : (a b : List Constant) (x : ℕ) → length_for x (constant_arrays (a ++ b)) ≡ or_else (length_for x (constant_arrays a)) (length_for x (constant_arrays b))
length_joined [] b x = refl
length_joined (c ∷ a) b x = go (length_in c.ty) (length_joined a b x)
  where
    go : (o : Option ℕ) → length_for x (constant_arrays (a ++ b)) ≡ or_else (length_for x (constant_arrays a)) (length_for x (constant_arrays b))
        → length_for x (add_sized c.name o (constant_arrays (a ++ b))) ≡ or_else (length_for x (add_sized c.name o (constant_arrays a))) (length_for x (constant_arrays b))
    go none e = e
    go (some n) e = test (eqb x c.name) e
      where
        test : (b' : Bool) → length_for x (constant_arrays (a ++ b)) ≡ or_else (length_for x (constant_arrays a)) (length_for x (constant_arrays b))
            → cond b' (some n) (length_for x (constant_arrays (a ++ b))) ≡ or_else (cond b' (some n) (length_for x (constant_arrays a))) (length_for x (constant_arrays b))
        test true e = refl
        test false e = e

-- constants that see those before them: the array names among these have as many cells as their lengths say
pub constants_shaped : (f : File) (us : List Value) (done left : List Constant) → f.constants ≡ done ++ left → Distinct (constant_names f)
    → NamesShaped (globals f (concat (map constant_slots done)) us) no_variables
constants_shaped f us done left e d cs x m q = go (positions x (concat (map constant_slots done))) refl
  where
    all_distinct : Distinct (map constant_name done ++ map constant_name left)
    all_distinct = subst Distinct (ap (map constant_name) e ∙ map-append constant_name done left) d

    go : (is : List ℕ) → positions x (concat (map constant_slots done)) ≡ is → CountIs m (or_failures (or_else none (picked_some us is)))
    go [] h = tt
    go (i ∷ is) h =
        let at : i ∈ positions x (concat (map constant_slots done)) = subst (λ l. i ∈ l) (sym h) (here refl) in
        let w = positions_get 0 x (concat (map constant_slots done)) i at in
        let inside : x ∈ concat (map constant_slots done) = Memᴰ.cast (sym w.3) (get_in (concat (map constant_slots done)) w.0 w.2) in
        let mem = in_slotted constant_name constant_ty done x inside in
        let p = distinct_parts (map constant_name done) (map constant_name left) all_distinct in
        let out = no_length constant_name constant_ty left x (p.2 x mem) in
        let len : length_for x (constant_arrays done) ≡ some m = or_left_some (length_for x (constant_arrays done)) (length_for x (constant_arrays left)) out (sym (length_joined done left x) ∙ ap (λ l. length_for x (constant_arrays l)) (sym e) ∙ q) in
        picked_length us (i ∷ is) ∙ ap length (sym h) ∙ count_named constant_name constant_ty 0 done x p.0 mem ∙ some_one (length_for x (constant_arrays done)) m len

pub under_is : (o s : Option ℕ) → T (takes (under o) s) → s ≡ o
under_is none none t = refl
under_is none (some m) t = absurd t
under_is (some n) none t = absurd t
under_is (some n) (some m) t = ap some (sym (eqb→eq n m t))

-- a constant: its literals, shapes, and no call
pub record ConstantOk (f : File) (c : Constant) : Type 0 where
  pub plain : Plain c.value
  pub allows : Allowed f.nodes [] (constant_arrays f.constants) (may_be f.nodes) (may_iterate f.nodes) c.value
  pub no_call : callees c.value ≡ []
  pub shape : shape f.nodes [] (constant_arrays f.constants) c.value ≡ length_in c.ty
  pub no_use : (d : ℕ) → ¬ (d ∈ uses c.value)
  pub cells : cells_in f.nodes [] (constant_arrays f.constants) c.value ≡ length (constant_cells c)

module _ (f : File) (short : (x : ℕ) → T (member x (concat f.enums)) → x < 2 ^ 16) (distinct : Distinct (constant_names f)) where
  abbrev ens : List ℕ
  ens = concat f.enums

  pub no_calls_count : (g : Globals) → Counts g no_calls
  no_calls_count g k ws r t = tt

  abbrev Sees : List ℕ → List Value → Globals
  Sees xs us = globals f xs us

  pub constant_values_lem : (us : List Value) (done left : List Constant) (c : Constant) → f.constants ≡ done ++ c ∷ left → AllFine ens us → ConstantOk f c
      → let r = (eval_cells (globals f (concat (map constant_slots done)) us) no_variables no_calls c.value []).out in GivesAll (Fine ens) r × CountIs (length (constant_cells c)) r
  constant_values_lem us done left c e h o =
      let g = globals f (concat (map constant_slots done)) us in
      let shaped = constants_shaped f us done (c ∷ left) e distinct in (
        (cells_meet {calls = no_calls}
            (record { closed = fine_closed ens; variants = λ x t. (t, short x t); constants = h; keeps = λ k ws r t fs q. record { seg = q; out = tt }; iterates = λ k m t. (record { sized = sym (function_size f k m t); good = tt }, (iterated f k m t).2); counts = no_calls_count g })
            no_variables tt tt shaped c.value [] o.plain o.allows (subst (λ l. Good g any_record l []) (sym o.no_call) none_good)).out,
        subst (λ m. CountIs m (eval_cells g no_variables no_calls c.value []).out) o.cells (cells_kept g no_variables no_calls (no_calls_count g) shaped c.value [] o.allows),
      )

  constants_fine_lem : (ps : List (ℕ × Constant)) (done left : List Constant) (us vs : List Value) → f.constants ≡ done ++ left → map second_of ps ≡ left → AllFine ens us
      → length us ≡ length (concat (map constant_cells done)) → All (λ c. ConstantOk f c.1) ps
      → constants_from f (concat (map constant_slots done)) us ps ≡ all vs → AllFine ens vs × (length vs ≡ length (concat (map constant_cells f.constants)))
  unfolding second_of
  constants_fine_lem [] done left us vs e s h l p q =
      let z : us ≡ vs = cc in
      let w : f.constants ≡ done = e ∙ ap (λ r. done ++ r) (sym s) ∙ append-nil done in
      (subst (AllFine ens) z h, ap length (sym z) ∙ l ∙ ap (λ cs. length (concat (map constant_cells cs))) (sym w))
  constants_fine_lem (c ∷ ps) done left us vs e s h l p q =
      let here_is : f.constants ≡ done ++ c.1 ∷ map second_of ps = e ∙ ap (λ r. done ++ r) (sym s) in
      let next_is : f.constants ≡ (done ++ c.1 ∷ []) ++ map second_of ps = here_is ∙ sym (append_assoc done (c.1 ∷ []) (map second_of ps)) in
      let slots_are : concat (map constant_slots done) ++ constant_slots c.1 ≡ concat (map constant_slots (done ++ c.1 ∷ [])) = sym (one_more constant_slots done c.1) in
      let cells_are : length (concat (map constant_cells (done ++ c.1 ∷ []))) ≡ length (concat (map constant_cells done)) + length (constant_cells c.1) =
      ap length (one_more constant_cells done c.1) ∙ length-append (concat (map constant_cells done)) (constant_cells c.1) in
      let r = constant_values_lem us done (map second_of ps) c.1 here_is h p.0 in
      after_fine ens c.0 (eval_cells (globals f (concat (map constant_slots done)) us) no_variables no_calls c.1.value []).out c.1 us vs
      (λ ws. constants_from f (concat (map constant_slots done) ++ constant_slots c.1) (us ++ fit_all (constant_cells c.1) ws) ps) h r.0 r.1 q
      (λ ws fine size k. constants_fine_lem ps (done ++ c.1 ∷ []) (map second_of ps) (us ++ fit_all (constant_cells c.1) ws) vs next_is refl fine
      (length-append us (fit_all (constant_cells c.1) ws) ∙ omega (arith, size, l, cells_are)) p.1
      (subst (λ xs. constants_from f xs (us ++ fit_all (constant_cells c.1) ws) ps ≡ all vs) slots_are k))

-- names are short
pub short_names : (f : File) → FileRead f → (x : ℕ) → T (member x (concat f.enums)) → x < 2 ^ 16
short_names f read x t = concat_all NameRead f.enums x (enums_names f.enums read.enums_read) (member_in x (concat f.enums) t)

-- ---- no ring

ring_none : (at : ℕ) (n : Node) → ring_in (at, n) ≡ none → unplaced n.equations ≡ none
ring_none at n e = go (unplaced n.equations) e
  where
    go : (o : Option ℕ) → maybe none (λ i. some (place_at (placed_equations at n) i)) o ≡ none → o ≡ none
    go none e = refl
    go (some i) e = let z : ◌≡◌ {A = ℕ} 0 1 = cc in absurd (omega arith)

pub rings_none : (at : ℕ) (ns : List Node) → first_some (map ring_in (placed node_size at ns)) ≡ none → All (λ n. unplaced n.equations ≡ none) ns
rings_none at [] e = tt
rings_none at (n ∷ ns) e = go (ring_in (at, n)) refl e (rings_none (at + node_size n) ns)
  where
    go : (o : Option ℕ) → ring_in (at, n) ≡ o → or_else o (first_some (map ring_in (placed node_size (at + node_size n) ns))) ≡ none
        → (first_some (map ring_in (placed node_size (at + node_size n) ns)) ≡ none → All (λ n. unplaced n.equations ≡ none) ns)
        → All (λ n. unplaced n.equations ≡ none) (n ∷ ns)
    go none h e k = (ring_none at n h, k e)
    go (some p) h e k = let z : ◌≡◌ {A = ℕ} 0 1 = cc in absurd (omega arith)

unplaced_placed : (qs : List Equation) → unplaced qs ≡ none → Placed qs
unplaced_placed qs e = ⊎_elim (λ p. p) (λ s. absurd (never_both s.is_left e)) (placed_or_stuck qs)
  where
    never_both : {k : ℕ} → unplaced qs ≡ some k → unplaced qs ≡ none → ⊥
    never_both a b = let z : ◌≡◌ {A = ℕ} 0 1 = cc in omega arith

-- the equations of each node are ordered
pub node_placed : (f : File) → fault11 f ≡ none → (k : ℕ) → k < length f.nodes → Placed (get_or f.nodes k no_node).equations
unfolding fault11
node_placed f e k b = unplaced_placed (get_or f.nodes k no_node).equations (all_at (λ n. unplaced n.equations ≡ none) f.nodes k no_node (rings_none (nodes_start f) f.nodes e) b)

-- ---- cells of names

or_none_lem : (o : Option ℕ) → maybe 1 (λ n. n) (or_else o none) ≡ maybe 1 (λ n. n) o
or_none_lem none = refl
or_none_lem (some m) = refl

-- the names of a node's variables that are no constants have as many cells as their lengths say
names_cells : (f : File) (n : Node) → Distinct (variable_names n) → (xs : List ℕ) → ((x : ℕ) → x ∈ xs → (x ∈ variable_names n) × (¬ (x ∈ constant_names f)))
    → sum (map (λ x. maybe 1 (λ n. n) (length_of f.nodes (arrays_in (variables n)) (constant_arrays f.constants) x)) xs) ≡ length (slots_of n xs)
names_cells f n d [] h = refl
names_cells f n d (x ∷ xs) h =
    let w = h x (here refl) in
    let own : maybe 1 (λ n. n) (length_of f.nodes (arrays_in (variables n)) (constant_arrays f.constants) x) ≡ length (positions x (cell_names (variables n))) =
    ap (λ o. maybe 1 (λ n. n) (or_else (length_for x (arrays_in (variables n))) o)) (no_length constant_name constant_ty f.constants x w.1) ∙ or_none_lem (length_for x (arrays_in (variables n)))
    ∙ sym (count_named name_of ty_of 0 (variables n) x d w.0) in
    ap₂ ◌+◌ own (names_cells f n d xs (λ y m. h y (there m))) ∙ sym (length-append (positions x (cell_names (variables n))) (slots_of n xs))

-- ---- the facts

pub record Facts (f : File) (vs : List Value) : Type 0 where
  pub callable : Callable f vs
  pub constant_count : length vs ≡ length (concat (map constant_cells f.constants))
  pub some_node_lem : 1 ≤ length f.nodes
  pub mainly : MainOk f vs

constant_ok : (f : File) (at at' : ℕ) (c : Constant) → ConstantRead c → Clean (collect (uses_where (λ c args. true) (λ c. true)) at c.value)
    → misplaced f [] (under (length_in c.ty)) at' c.value ≡ none → ConstantOk f c
constant_ok f at at' c r h m =
    record {
      plain = r.0;
      allows = allowed f [] (λ c args. true) (λ c. true) (λ d j e. absurd (never e)) (λ d e. absurd (never e)) (under (length_in c.ty)) at at' c.value h m;
      no_call = no_members (callees c.value) (λ d k. used_clean (λ c args. true) (λ c. true) (λ d. ⊥) (λ d j e. never e) (λ d e. never e) at c.value h d (callee_used c.value d k));
      shape = under_is (length_in c.ty) (shape f.nodes [] (constant_arrays f.constants) c.value) (misplaced_takes f [] (under (length_in c.ty)) at' c.value m);
      no_use = λ d k. used_clean (λ c args. true) (λ c. true) (λ d. ⊥) (λ d j e. never e) (λ d e. never e) at c.value h d k;
      cells = takes_cells (length_in c.ty) (shape f.nodes [] (constant_arrays f.constants) c.value) (misplaced_takes f [] (under (length_in c.ty)) at' c.value m) ∙ sym (type_cells_lem c.ty);
    }
  where
    never : true ≡ false → ⊥
    never e = let z : ◌≡◌ {A = ℕ} 0 1 = cc in omega arith

pub constants_ok : (f : File) → fault9 f ≡ none → fault22 f ≡ none → All ConstantRead f.constants → All (λ c. ConstantOk f c.1) (placed_constants f)
unfolding fault9 fault22
constants_ok f no9 no22 read =
    let h = in_constant (uses_where (λ c args. true) (λ c. true)) in
    let xs = concat (map h (placed_constants f)) in
    let ys = concat (map (node_calls f) (numbered 0 (placed_nodes f))) in
    let clean = clean_each h (placed_constants f) (clean_parts xs ys (first_clean (xs ++ ys) no9)).0 in
    let shapes = first_some_none (constant_misplaced f) (placed_constants f) (or_else_none (first_some (map (constant_misplaced f) (placed_constants f))) _ no22).0 in
    go (placed_constants f) (placed_all constant_size ConstantRead _ f.constants read) clean shapes
  where
    go : (cs : List (ℕ × Constant)) → All (λ p. ConstantRead p.1) cs → All (λ c. Clean (in_constant (uses_where (λ c args. true) (λ c. true)) c)) cs
        → All (λ c. constant_misplaced f c ≡ none) cs → All (λ c. ConstantOk f c.1) cs
    go [] r c m = tt
    go (p ∷ cs) r c m = (constant_ok f _ _ p.1 r.0 c.0 m.0, go cs r.1 c.1 m.1)

module _ (ld : Loader) (s : List ℕ) (f : File) (vs : List Value) (read : FileRead f) (a : Admits ld s f vs) where
  abbrev g : Globals
  g = globals_of f vs

  is_short : (x : ℕ) → T (member x (concat f.enums)) → x < 2 ^ 16
  is_short = short_names f read

  pub node_read : (k : ℕ) → k < length f.nodes → NodeRead (length f.enums) (get_or f.nodes k no_node)
  node_read k b = all_at (NodeRead (length f.enums)) f.nodes k no_node read.nodes_read b

  beyond : (k : ℕ) → ¬ (k < length f.nodes) → get_or f.nodes k no_node ≡ no_node
  beyond k h = get_or-eq_default f.nodes no_node (omega arith)

  is_lower : (k c : ℕ) → c ∈ used_by (get_or f.nodes k no_node) → c < k
  is_lower k c m =
      by_cases (dec_lt k (length f.nodes)) (λ b. used_lower f a.no9 k b c m) (λ h. absurd (in_nil (subst (λ n. c ∈ used_by n) (beyond k h) m)))

  abbrev Runs : Node → Type 0
  Runs n = RunnableEqs f.nodes (arrays_in (variables n)) (constant_arrays f.constants) n.equations

  pub is_plain : (k : ℕ) → Runs (get_or f.nodes k no_node)
  is_plain k =
      by_cases (dec_lt k (length f.nodes)) (λ b. node_runnable f a.no9 a.no22 k b (node_read k b).eqs) (λ h. subst Runs (sym (beyond k h)) tt)

  is_shaped : (k : ℕ) (first : Bool) (before cs : List Value) → NamesShaped g (scope (get_or f.nodes k no_node) first before cs)
  is_shaped k first before cs =
      by_cases (dec_lt k (length f.nodes))
      (λ b. names_shaped f vs (get_or f.nodes k no_node) (distinct_names f a.no6 k b) (distinct_constants f a.no6) (variable_other f a.no6 k b) first before cs)
      (λ h. subst (λ n. NamesShaped g (scope n first before cs)) (sym (beyond k h)) (names_shaped f vs no_node tt (distinct_constants f a.no6) (λ x m. absurd (in_nil m)) first before cs))

  default_fine : (t : Ty) → TyOk (length f.enums) t → Fine (concat f.enums) (default f.enums t)
  unfolding lib.Ieee.of_bits
  default_fine bool h = tt
  default_fine (int c) h = omega arith
  default_fine float32 h = B.of_bits-fits binary32 0
  default_fine float64 h = B.of_bits-fits binary64 0
  default_fine char h = omega arith
  default_fine (enum e) h = let m = first_variant f.enums e read.enums_read h in let t = in_member _ (concat f.enums) m in (t, is_short _ t)

  cells_fine : (t : VarTy) → VarTyOk (length f.enums) t → AllFine (concat f.enums) (defaults f.enums (type_cells t))
  cells_fine (scalar t) h = (default_fine t h, tt)
  cells_fine (array m t) h = go m
    where
      go : (m : ℕ) → AllFine (concat f.enums) (defaults f.enums (replicate m t))
      go zero = tt
      go (suc m) = (default_fine t h.1, go m)

  defaults_fine : (xs : List Variable) → All (VariableRead (length f.enums)) xs → AllFine (concat f.enums) (defaults f.enums (cell_types xs))
  defaults_fine [] h = tt
  defaults_fine (x ∷ xs) h =
      subst (AllFine (concat f.enums)) (sym (map-append (default f.enums) (variable_cells x) (cell_types xs)))
      (all_join (Fine (concat f.enums)) (defaults f.enums (variable_cells x)) (defaults f.enums (cell_types xs)) (cells_fine x.ty h.0) (defaults_fine xs h.1))

  is_fresh_fine : (k : ℕ) → AllFine (concat f.enums) (defaults f.enums (cell_types (variables (get_or f.nodes k no_node))))
  is_fresh_fine k =
      by_cases (dec_lt k (length f.nodes))
      (λ b.
      let n = get_or f.nodes k no_node in
      let r = node_read k b in
      let join = all_join (VariableRead (length f.enums)) in
      defaults_fine (variables n) (join (n.inputs ++ n.outputs) n.locals (join n.inputs n.outputs r.ins r.outs) r.locs))
      (λ h. subst (λ n. AllFine (concat f.enums) (defaults f.enums (cell_types (variables n)))) (sym (beyond k h)) tt)

  are_constants : AllFine (concat f.enums) vs × (length vs ≡ length (concat (map constant_cells f.constants)))
  unfolding constants
  are_constants = constants_fine_lem f is_short (distinct_constants f a.no6) (placed_constants f) [] f.constants [] vs refl (placed_second _ f.constants) tt refl (constants_ok f a.no9 a.no22 read.constants_read) a.no12

  -- ---- each node

  module _ (k : ℕ) (b : k < length f.nodes) where
    abbrev n : Node
    n = get_or f.nodes k no_node

    pub arity_some : (e : Expr) → TupleOk (rhs_of e) → Allowed f.nodes (arrays_in (variables n)) (constant_arrays f.constants) (may_be f.nodes) (may_iterate f.nodes) e → 1 ≤ arity f (rhs_of e)
    arity_some =
        by_right (λ e r. TupleOk r → Allowed f.nodes (arrays_in (variables n)) (constant_arrays f.constants) (may_be f.nodes) (may_iterate f.nodes) e → 1 ≤ arity f r)
        (λ e r p. omega arith)
        (λ k es r p. (node_read k (ltb→lt k (length f.nodes) (T_and (ltb k (length f.nodes)) _ p.0).0)).some_out)
        (λ es r p. omega arith)

    -- a name that an equation defines is no input, constant or variant
    new_name : (i x : ℕ) → x ∈ (equation_at n i).names → ¬ (x ∈ taken_in f n)
    new_name i x m = fresh_out (taken_in f n) (concat (map names_of n.equations)) (names_fresh f a.no8 k b) x (names_in_lem n.equations i x m)

    pub known_at : (i x : ℕ) → x ∈ (equation_at n i).names → (x ∈ variable_names n) × (¬ (x ∈ constant_names f))
    known_at i x m =
        let seen : ℕ → Type 0 = λ x. T (member x (seen_by f n)) in (
          by_cases (dec_lt i (length n.equations))
              (λ h.
              let s = all_in_lem seen (equation_at n i).names x (all_at (λ q. All seen q.names) n.equations i no_equation (names_seen f a.no7 k b) h) m in
              ⊎_elim (λ v. v) (λ v. absurd (new_name i x m (in_right (map name_of n.inputs) v))) (in_append (variable_names n) (member_in x (seen_by f n) s)))
              (λ h. absurd (in_nil (subst (λ q. x ∈ q.names) (get_or-eq_default n.equations no_equation (omega arith)) m))),
          λ v. new_name i x m (in_right (map name_of n.inputs) (in_left (variants f) v)),
        )

    abbrev pub runs_at : (i : ℕ) → Runnable f.nodes (arrays_in (variables n)) (constant_arrays f.constants) (equation_at n i).rhs
    runs_at i = runnable_at f.nodes (arrays_in (variables n)) (constant_arrays f.constants) n.equations i (is_plain k)

    arity_at : (i : ℕ) → i < length n.equations → arity_of g n (equation_at n i).rhs ≡ length (slots_of n (equation_at n i).names)
    arity_at i h =
        let q = equation_at n i in
        let r = all_at EquationRead n.equations i no_equation (node_read k b).eqs h in
        let shaped = all_at (Shaped f) n.equations i no_equation (shapes f a.no10 k b) h in
        let suits = all_at (λ q. (at : ℕ) × (misplaced_in f (arrays_in (variables n)) (at, q) ≡ none)) n.equations i no_equation (shapes_of_lem f a.no22 k b) h in
        rhs_cells f (arrays_in (variables n)) (length_of f.nodes (arrays_in (variables n)) (constant_arrays f.constants)) q.names (rhs_place suits.0 q) (rhs_of q.rhs) suits.1
        (shaped_arity f q shaped r.named (arity_some q.rhs r.right.1 (runs_at i).1))
        ∙ names_cells f n (distinct_names f a.no6 k b) q.names (known_at i)

    -- a right side gives as many values as its form says, at every depth of calls
    pub right_counts : (d : ℕ) (first : Bool) (before : List Value) (i : ℕ) (p : List Value) (s : List ℕ)
        → CountIs (arity_of g n (equation_at n i).rhs) (eval_equation g (calls_at g d) n first before p i s).out
    right_counts d first before i p s =
        rhs_count g (scope n first before p) (calls_at g d) (calls_count g d) (is_shaped k first before p) (equation_at n i).rhs s (runs_at i).1

    pub node_ok : NodeOk g n
    node_ok =
        record {
          apart = fresh_distinct (taken_in f n) (concat (map names_of n.equations)) (names_fresh f a.no8 k b);
          no_input = λ i x m v. new_name i x m (in_left (constant_names f ++ variants f) v);
          arity = arity_at;
          counts = right_counts (length f.nodes);
          placed = node_placed f a.no11 k b;
        }

  pub facts : Facts f vs
  facts =
      record {
        callable = record { short = is_short; constants_fine = are_constants.0; lower_used = is_lower; plain = is_plain; shaped = is_shaped; fresh_fine = is_fresh_fine };
        constant_count = are_constants.1;
        some_node_lem = read.some_node_lem;
        mainly = subst (NodeOk g) (sym (main_at_lem f.nodes read.some_node_lem)) (node_ok (length f.nodes - 1) (omega (arith, read.some_node_lem)));
      }

-- of a file of bytes that is admitted
pub admitted_facts : (ld : Loader) (s : List ℕ) (f : File) (vs : List Value) → Bytes s → judge ld s ≡ admitted f vs → Facts f vs
admitted_facts ld s f vs bytes e = let a = admits ld s f vs e in facts ld s f vs (file_read s bytes ld f a.end a.read) a
