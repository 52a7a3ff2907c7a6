-- A node's equations over bytes do what the Rust's do, in the same order: the cells hold what the environment holds.
use Prim.Native.Nat.{ℕ, zero, suc, ◌+◌, ◌<◌, ◌≤◌}
use mathlib.Core.Bool.{Bool, true, false, cond}
use mathlib.Core.List.Memᴰ.{append_cases as in_append}
use mathlib.Core.List.Memᴰ.{cases_cons as in_cons}
use mathlib.Core.List.Memᴰ.{head as here}
use mathlib.Core.List.Memᴰ.{not-nil as in_nil}
use mathlib.Core.List.Memᴰ.{tail as there}
use mathlib.Core.List.{List, [], ◌∷◌, ◌++◌, map, append_assoc}
use mathlib.Core.Logic.{⊎_elim, by_cases}
use mathlib.Core.Option.{Option, none, some}
use mathlib.Core.Path.{◌≡◌, refl, sym, ap, ap₂, subst, ◌∙◌}
use native.Mathlib.Omega.{arith}
use native.Mathlib.Decide.{ℕ_discrete}
use lib.ListN.{length, take, drop, get_or, get_elem?, set, replicate, length-append, length-map, length-drop, length-replicate, take-append-drop, get_or-replicate, get_or-append}
use lib.Seq.{length-take-le}
use lib.Dec.{T, eqb, eqb→eq, eqb_refl}
use Rattle.ol_theory.specs.Member.{◌∈◌, Distinct}
use Rattle.ol_spec.specs.Lists.{maybe, or_else, concat, member, put_if, positions_from, positions, position_if, position, lookup}
use Rattle.ol_spec.specs.Syntax.{Ty, bool, VarTy, scalar, array, length_in, type_cells, named_cells, Equation, Node, Variable, Constant, File, variables, variable_names, cell_names, cell_types, name_of, constant_name, rhs_of}
use Rattle.ol_spec.specs.Shapes.{Sized, add_sized, length_for, arrays_in, constant_arrays}
use Rattle.ol_spec.specs.Types.{fit}
use Rattle.ol_spec.specs.Eval.{Globals, Calls, Evals, Outcomes, callees, present_of, before_of, constant_of, variant_of, length_named, no_value_of, cells_named, picked_some}
use Rattle.ol_spec.specs.Step.{equation_sites, sites, split, assign, Ended, finished, failed_at, overflowed_at, Run, no_equation, equation_at, store_on, store, scope, eval_equation, run_all, cell_count, slots_of, put_all}
use Rattle.ol_spec.specs.Admission.{constant_names, variants, constant_cell_names}
use Rattle.ol_spec.specs.State.{globals_of}
use Rattle.ol_spec.specs.RustSim.{Env, get, insert, Key, State, States, get_state, prev, RValue, plain, Array, Given, SimError, Result, LoopEnd, done, err_at, panic_at, tuple_unless_one, Res, first_tick, StepInstance, CallValues, enum_variant_value, constants_among, constants_from_env, declared_type, type_in, store_all, bind_lhs, address, Ran, bound_on, bind_on, bind_next, for_order}
use Rattle.ol_spec.specs.RustSim as Rust
use Rattle.ol_spec.specs.RustLeaves.{fit_to}
use Rattle.ol_spec.specs.RustState.{cells_of}
use Rattle.ol_spec.specs.declared.Value.{Value}
use Rattle.ol_spec.specs.declared.Value.TheVariants as Val
use Rattle.ol_spec.proofs.RustLeaves.{cause_of}
use Rattle.ol_spec.proofs.Tests.{member_in, T_true, T_false, eq_eqb}
use Rattle.ol_spec.proofs.Lists.{All, all_at, get_elem_get_d, length_none, or_nothing}
use Rattle.ol_spec.proofs.ReadFacts.{Filled}
use Rattle.ol_spec.proofs.Slots.{names_length, positions_none, positions_skip, in_named, no_length, count_named, cell_name, type_cells_lem}
use Rattle.ol_spec.proofs.Forms.{Runnable, RunnableEqs, runnable_at}
use Rattle.ol_spec.proofs.CellLengths.{store_length, put_length}
use Rattle.ol_spec.proofs.Counts.{CountIs, NamesShaped, rhs_count}
use Rattle.ol_spec.proofs.Segments.{Sound, GivesAll}
use Rattle.ol_spec.proofs.Runs.{all_assign, equation_meets}
use Rattle.ol_spec.proofs.MainFacts.{seen_by}
use Rattle.ol_spec.proofs.MainSystem.{position_in, position_get}
use Rattle.ol_spec.proofs.OneCycle.{NodeOk}
use Rattle.ol_spec.proofs.Names.{lookup_in, lookup_out}
use Rattle.ol_spec.proofs.RustMaps.{get_hit, get_miss}
use Rattle.ol_spec.proofs.RustShapes.{name_shapes}
use Rattle.ol_spec.proofs.RustEnv.{lookup_set, lookup_other, ty_of, elem_of, cells_rep, head_pack, pack_join, packs_length, fit_pack, held_is, type_at, type_skip}
use Rattle.ol_spec.proofs.RustLeaves.{Single}
use Rattle.ol_spec.proofs.RustPlaces.{Home, home, key_at, lie_at}
use Rattle.ol_spec.proofs.RustEval.{Told, told, told_err, told_panic, bundled, pack_one, pack_all, size_of, shapes_in, plain_or, array_or, name_is, held_in, Going, Outside, Frame, outside_ge, outside_parts, Sites, Follows, FlatRight, keep, keep_before, sites_none, sites_parts, sites_joined, Seen, constant_is, cells_for, Globally, Agrees, Steps, rhs_follows}

-- the ends after which the Rust goes on
abbrev pub GoingEnd : LoopEnd → Type 0
GoingEnd done = Unit {0}
GoingEnd (err_at e i) = Unit {0}
GoingEnd (panic_at i) = ⊥

-- how a run over bytes and the Rust's ended
pub data TellsEnd : Ended → LoopEnd → Type 0 where
  ends : TellsEnd finished done
  errs_at : (e : SimError) (i : ℕ) → TellsEnd (failed_at (cause_of e) i) (err_at e i)
  panics_at : (i : ℕ) → TellsEnd (overflowed_at i) (panic_at i)

-- ---- the segments of equations

-- the call sites of the equations before the i-th
abbrev pub sites_before : List Equation → ℕ → ℕ
sites_before qs i = length (concat (map equation_sites (take i qs)))

module _ (g : Globals) (p : ℕ → List ℕ → Bool) (R : ℕ → List ℕ → Option State → Type 0) (N : Home) where
  abbrev pub Rels : List Equation → ℕ → List (List ℕ) → States → Type 0
  Rels [] j [] calls = Unit {0}
  Rels [] j (s ∷ ss) calls = ⊥
  Rels (q ∷ qs) j [] calls = ⊥
  Rels (q ∷ qs) j (s ∷ ss) calls = Sites g p R N (callees q.rhs) j s calls × Rels qs (j + length (callees q.rhs)) ss calls

  pub rels_split : (qs : List Equation) (j : ℕ) (s : List ℕ) (calls : States) → Sites g p R N (concat (map equation_sites qs)) j s calls → Rels qs j (split g qs s) calls
  unfolding split
  rels_split [] j s calls h = tt
  rels_split (q ∷ qs) j s calls h = let w = sites_parts (callees q.rhs) h in (w.0, rels_split qs _ _ calls w.1)

  pub rels_concat : (qs : List Equation) (j : ℕ) (ss : List (List ℕ)) (calls : States) → Rels qs j ss calls → Sites g p R N (concat (map equation_sites qs)) j (concat ss) calls
  rels_concat [] j [] calls h = sites_none
  rels_concat [] j (s ∷ ss) calls h = absurd h
  rels_concat (q ∷ qs) j [] calls h = absurd h
  rels_concat (q ∷ qs) j (s ∷ ss) calls h = sites_joined (callees q.rhs) h.0 (rels_concat qs _ ss calls h.1)

  rels_keep : (qs : List Equation) (j : ℕ) (ss : List (List ℕ)) (calls calls' : States) → ((m : ℕ) → j ≤ m → get_state (key_at N m) calls' ≡ get_state (key_at N m) calls)
      → Rels qs j ss calls → Rels qs j ss calls'
  rels_keep [] j [] calls calls' f h = tt
  rels_keep [] j (s ∷ ss) calls calls' f h = absurd h
  rels_keep (q ∷ qs) j [] calls calls' f h = absurd h
  rels_keep (q ∷ qs) j (s ∷ ss) calls calls' f h = (keep (λ m a b. f m a) h.0, rels_keep qs _ ss calls calls' (λ m a. f m (omega arith)) h.1)

  pub rels_get : (qs : List Equation) (j : ℕ) (ss : List (List ℕ)) (i : ℕ) (calls : States) → Rels qs j ss calls
      → Sites g p R N (callees (get_or qs i no_equation).rhs) (j + sites_before qs i) (get_or ss i []) calls
  rels_get [] j [] zero calls h = sites_none
  rels_get [] j [] (suc i) calls h = sites_none
  rels_get [] j (s ∷ ss) i calls h = absurd h
  rels_get (q ∷ qs) j [] i calls h = absurd h
  rels_get (q ∷ qs) j (s ∷ ss) zero calls h = subst (λ m. Sites g p R N (callees q.rhs) m s calls) (omega arith) h.0
  rels_get (q ∷ qs) j (s ∷ ss) (suc i) calls h =
      subst (λ m. Sites g p R N (callees (get_or qs i no_equation).rhs) m (get_or ss i []) calls)
      (omega (arith, length-append (callees q.rhs) (concat (map equation_sites (take i qs))))) (rels_get qs _ ss i calls h.1)

  pub rels_set : (qs : List Equation) (j : ℕ) (ss : List (List ℕ)) (i : ℕ) (s' : List ℕ) (calls calls' : States) → Rels qs j ss calls
      → Sites g p R N (callees (get_or qs i no_equation).rhs) (j + sites_before qs i) s' calls'
      → Frame g N (callees (get_or qs i no_equation).rhs) (j + sites_before qs i) calls calls' → Rels qs j (set ss i s') calls'
  rels_set [] j [] zero s' calls calls' h n f = tt
  rels_set [] j [] (suc i) s' calls calls' h n f = tt
  rels_set [] j (s ∷ ss) i s' calls calls' h n f = absurd h
  rels_set (q ∷ qs) j [] i s' calls calls' h n f = absurd h
  rels_set (q ∷ qs) j (s ∷ ss) zero s' calls calls' h n f = (
    subst (λ m. Sites g p R N (callees q.rhs) m s' calls') (omega arith) n,
    rels_keep qs _ ss calls calls' (λ m a. f.same (key_at N m) (outside_ge g N (callees q.rhs) (j + 0) m (omega arith))) h.1,
  )
  rels_set (q ∷ qs) j (s ∷ ss) (suc i) s' calls calls' h n f =
      let e : j + sites_before (q ∷ qs) (suc i) ≡ j + length (callees q.rhs) + sites_before qs i =
      omega (arith, length-append (callees q.rhs) (concat (map equation_sites (take i qs)))) in (
        keep_before (omega (arith, length-append (callees q.rhs) (concat (map equation_sites (take i qs))))) f h.0,
        rels_set qs _ ss i s' calls calls' h.1 (subst (λ m. Sites g p R N (callees (get_or qs i no_equation).rhs) m s' calls') e n)
            (subst (λ m. Frame g N (callees (get_or qs i no_equation).rhs) m calls calls') e f),
      )

outside_equation : (g : Globals) (N : Home) (qs : List Equation) (j i : ℕ) (key : Key) → Outside g N (concat (map equation_sites qs)) j key
    → Outside g N (callees (get_or qs i no_equation).rhs) (j + sites_before qs i) key
outside_equation g N [] j zero key h = tt
outside_equation g N [] j (suc i) key h = tt
outside_equation g N (q ∷ qs) j zero key h = subst (λ m. Outside g N (callees q.rhs) m key) (omega arith) (outside_parts g N (callees q.rhs) _ j key h).0
outside_equation g N (q ∷ qs) j (suc i) key h =
    subst (λ m. Outside g N (callees (get_or qs i no_equation).rhs) m key) (omega (arith, length-append (callees q.rhs) (concat (map equation_sites (take i qs)))))
    (outside_equation g N qs _ i key (outside_parts g N (callees q.rhs) _ j key h).1)

-- ---- storing a value in its cells

set_seam : (pre post : List Value) (o v : Value) (i : ℕ) → length pre ≡ i → set (pre ++ o ∷ post) i v ≡ pre ++ v ∷ post
set_seam [] post o v zero e = refl
set_seam [] post o v (suc i) e = absurd (omega arith)
set_seam (p ∷ pre) post o v zero e = absurd (omega arith)
set_seam (p ∷ pre) post o v (suc i) e = ap (λ l. p ∷ l) (set_seam pre post o v i (omega arith))

put_own : (n : Node) (x m : ℕ) (ns : List ℕ) (pre own post us : List Value) (i : ℕ) (t : Ty) → length pre ≡ i → length own ≡ m → length us ≡ m → ¬ (x ∈ ns)
    → ((j : ℕ) → j < m → get_or (cell_types (variables n)) (i + j) bool ≡ t) → put_all n (positions_from i x (replicate m x ++ ns)) us (pre ++ (own ++ post)) ≡ pre ++ (map (fit t) us ++ post)
unfolding put_all
put_own n x zero ns pre [] post [] i t e l k h q = ap (λ is. put_all n is [] (pre ++ post)) (positions_none i x ns h)
put_own n x zero ns pre [] post (u ∷ us) i t e l k h q = absurd (omega arith)
put_own n x zero ns pre (o ∷ own) post us i t e l k h q = absurd (omega arith)
put_own n x (suc m) ns pre [] post us i t e l k h q = absurd (omega arith)
put_own n x (suc m) ns pre (o ∷ own) post [] i t e l k h q = absurd (omega arith)
put_own n x (suc m) ns pre (o ∷ own) post (u ∷ us) i t e l k h q =
    let at : get_or (cell_types (variables n)) i bool ≡ t = ap (λ j. get_or (cell_types (variables n)) j bool) (let z : i ≡ i + 0 = omega arith in z) ∙ q 0 (omega arith) in
    ap (λ b. put_all n (put_if b i (positions_from (suc i) x (replicate m x ++ ns))) (u ∷ us) (pre ++ (o ∷ (own ++ post)))) (T_true (eqb x x) (eqb_refl x))
    ∙ ap (λ c. put_all n (positions_from (suc i) x (replicate m x ++ ns)) us c)
    (set_seam pre (own ++ post) o (fit (get_or (cell_types (variables n)) i bool) u) i e ∙ ap (λ t. pre ++ fit t u ∷ (own ++ post)) at ∙ sym (append_assoc pre (fit t u ∷ []) (own ++ post)))
    ∙ put_own n x m ns (pre ++ fit t u ∷ []) own post us (suc i) t (length-append pre (fit t u ∷ []) ∙ omega arith) (omega arith) (omega arith) h
    (λ j b. ap (λ j. get_or (cell_types (variables n)) j bool) (let z : suc i + j ≡ i + suc j = omega arith in z) ∙ q (suc j) (omega arith))
    ∙ append_assoc pre (fit t u ∷ []) (map (fit t) us ++ post)

slots_rep : (y : ℕ) (t : VarTy) → named_cells y t ≡ replicate (size_of (length_in t)) y
slots_rep y (scalar t) = refl
slots_rep y (array n t) = refl

get_behind : (a b : List Ty) (j : ℕ) → get_or (a ++ b) (length a + j) bool ≡ get_or b j bool
get_behind [] b j = ap (λ k. get_or b k bool) (let z : 0 + j ≡ j = omega arith in z)
get_behind (x ∷ a) b j = ap (λ k. get_or (x ∷ (a ++ b)) k bool) (let z : suc (length a) + j ≡ suc (length a + j) = omega arith in z) ∙ get_behind a b j

abbrev declared_at : List Variable → ℕ → VarTy
declared_at xs i = get_or (map ty_of xs) i (scalar bool)

-- what storing leaves of the values
record Put (n : Node) (xs : List Variable) (pre cs us : List Value) (off x i : ℕ) : Type 0 where
  cells : List Value
  is : put_all n (positions_from off x (cell_names xs)) us (pre ++ cs) ≡ pre ++ cells
  packs : pack_all (shapes_in xs) cells ≡ set (pack_all (shapes_in xs) cs) i (fit_to (declared_at xs i) (pack_one (length_in (declared_at xs i)) us))

store_pack : (n : Node) (xs : List Variable) (pre cs us : List Value) (off x i : ℕ) → length pre ≡ off
    → ((j : ℕ) → j < length (cell_types xs) → get_or (cell_types (variables n)) (off + j) bool ≡ get_or (cell_types xs) j bool) → Distinct (map name_of xs) → position x (map name_of xs) ≡ some i
    → length cs ≡ length (cell_types xs) → length us ≡ size_of (length_in (declared_at xs i)) → Put n xs pre cs us off x i
store_pack n [] pre cs us off x i e q d p l u = let z : ◌≡◌ {A = ℕ} 0 1 = cc in absurd (omega arith)
store_pack n (a ∷ xs) pre cs us off x i e q d p l u = go (eqb x a.name) refl (position x (map name_of xs)) refl p (λ pre cs off i e q p l u. store_pack n xs pre cs us off x i e q d.1 p l u)
  where
    o : Option ℕ
    o = length_in a.ty

    k : ℕ
    k = size_of (length_in a.ty)

    sized : length (type_cells a.ty) ≡ k
    sized = type_cells_lem a.ty

    total : length cs ≡ k + length (cell_types xs)
    total = l ∙ length-append (type_cells a.ty) (cell_types xs) ∙ ap (λ m. m + length (cell_types xs)) sized

    own : length (take k cs) ≡ k
    own = length-take-le k cs (omega (arith, total))

    more : length (drop k cs) ≡ length (cell_types xs)
    more = omega (arith, length-drop k cs, total)

    go : (b : Bool) → eqb x a.name ≡ b → (w : Option ℕ) → position x (map name_of xs) ≡ w → position_if b w ≡ some i
        → ((pre cs : List Value) (off i : ℕ) → length pre ≡ off → ((j : ℕ) → j < length (cell_types xs) → get_or (cell_types (variables n)) (off + j) bool ≡ get_or (cell_types xs) j bool) → position x (map name_of xs) ≡ some i
        → length cs ≡ length (cell_types xs) → length us ≡ size_of (length_in (declared_at xs i)) → Put n xs pre cs us off x i)
        → Put n (a ∷ xs) pre cs us off x i
    go true b w pw p rec =
        let z : 0 ≡ i = cc in
        let same : x ≡ a.name = eqb→eq x a.name (subst T (sym b) tt) in
        subst (Put n (a ∷ xs) pre cs us off x) z (first same (u ∙ ap (λ i. size_of (length_in (declared_at (a ∷ xs) i))) (sym z)))
      where
        first : x ≡ a.name → length us ≡ k → Put n (a ∷ xs) pre cs us off x 0
        first same u' =
            let out : ¬ (x ∈ cell_names xs) = λ m. d.0 (subst (λ y. y ∈ map name_of xs) same (cell_name xs x m)) in
            record {
              cells = map (fit (elem_of a.ty)) us ++ drop k cs;
              is = ap (λ l. put_all n (positions_from off x (l ++ cell_names xs)) us (pre ++ cs)) (slots_rep a.name a.ty ∙ ap (replicate k) (sym same))
                  ∙ ap (λ c. put_all n (positions_from off x (replicate k x ++ cell_names xs)) us (pre ++ c)) (sym (take-append-drop k cs))
                  ∙ put_own n x k (cell_names xs) pre (take k cs) (drop k cs) us off (elem_of a.ty) e own u' out
                  (λ j h. q j (omega (arith, length-append (type_cells a.ty) (cell_types xs), sized)) ∙ get_or-append (type_cells a.ty) (cell_types xs) bool j (omega (arith, sized))
                  ∙ ap (λ l. get_or l j bool) (cells_rep a.ty) ∙ get_or-replicate k j (elem_of a.ty) bool h);
              packs = pack_join o (shapes_in xs) (map (fit (elem_of a.ty)) us) (drop k cs) (length-map us (fit (elem_of a.ty)) ∙ u')
                  ∙ ap (λ r. r ∷ pack_all (shapes_in xs) (drop k cs)) (sym (fit_pack a.ty us u')) ∙ sym (ap (λ rs. set rs 0 (fit_to a.ty (pack_one o us))) (head_pack o (shapes_in xs) cs));
            }
    go false b none pw p rec = let z : ◌≡◌ {A = ℕ} 0 1 = cc in absurd (omega arith)
    go false b (some i') pw p rec =
        let z : suc i' ≡ i = cc in
        let other : ¬ (x ≡ a.name) = λ h. absurd (subst T b (eq_eqb x a.name h)) in
        subst (Put n (a ∷ xs) pre cs us off x) z (later other (rec (pre ++ take k cs) (drop k cs) (off + k) i' (length-append pre (take k cs) ∙ omega (arith, e, own))
        (λ j h.
        ap (λ j. get_or (cell_types (variables n)) j bool) (let y : off + k + j ≡ off + (length (type_cells a.ty) + j) = omega (arith, sized) in y)
        ∙ q (length (type_cells a.ty) + j) (omega (arith, length-append (type_cells a.ty) (cell_types xs))) ∙ get_behind (type_cells a.ty) (cell_types xs) j)
        pw more (u ∙ ap (λ i. size_of (length_in (declared_at (a ∷ xs) i))) (sym z))))
      where
        later : ¬ (x ≡ a.name) → Put n xs (pre ++ take k cs) (drop k cs) us (off + k) x i' → Put n (a ∷ xs) pre cs us off x (suc i')
        later other w =
            let skips : positions_from off x (named_cells a.name a.ty ++ cell_names xs) ≡ positions_from (off + k) x (cell_names xs) =
            positions_skip off x (named_cells a.name a.ty) (cell_names xs) (λ m. other (in_named a.ty a.name x m))
            ∙ ap (λ m. positions_from (off + m) x (cell_names xs)) (ap length (slots_rep a.name a.ty) ∙ length-replicate k a.name) in
            record {
              cells = take k cs ++ w.cells;
              is = ap (λ is. put_all n is us (pre ++ cs)) skips
                  ∙ ap (put_all n (positions_from (off + k) x (cell_names xs)) us) (ap (λ c. pre ++ c) (sym (take-append-drop k cs)) ∙ sym (append_assoc pre (take k cs) (drop k cs)))
                  ∙ w.is ∙ append_assoc pre (take k cs) w.cells;
              packs = pack_join o (shapes_in xs) (take k cs) w.cells own ∙ ap (λ r. pack_one o (take k cs) ∷ r) w.packs
                  ∙ sym (ap (λ rs. set rs (suc i') (fit_to (declared_at xs i') (pack_one (length_in (declared_at xs i')) us))) (head_pack o (shapes_in xs) cs));
            }

put_append : (n : Node) (is js : List ℕ) (ws cs : List Value) → length is ≤ length ws → put_all n (is ++ js) ws cs ≡ put_all n js (drop (length is) ws) (put_all n is (take (length is) ws) cs)
unfolding put_all
put_append n [] js ws cs h = refl
put_append n (i ∷ is) js [] cs h = absurd (omega arith)
put_append n (i ∷ is) js (w ∷ ws) cs h = put_append n is js ws _ (omega arith)

-- an array's length by its position
length_at : (xs : List Variable) (x i : ℕ) → Distinct (map name_of xs) → position x (map name_of xs) ≡ some i → length_for x (arrays_in xs) ≡ length_in (declared_at xs i)
length_at [] x i d e = let z : ◌≡◌ {A = ℕ} 0 1 = cc in absurd (omega arith)
length_at (a ∷ xs) x i d e = go (eqb x a.name) refl (position x (map name_of xs)) refl e (length_at xs x)
  where
    here_is : (o : Option ℕ) → x ≡ a.name → length_for x (add_sized a.name o (arrays_in xs)) ≡ o
    here_is none q = no_length name_of ty_of xs x (λ m. d.0 (subst (λ y. y ∈ map name_of xs) q m))
    here_is (some n) q = ap (λ b. cond b (some n) (length_for x (arrays_in xs))) (T_true (eqb x a.name) (eq_eqb x a.name q))

    skip : (o : Option ℕ) → eqb x a.name ≡ false → length_for x (add_sized a.name o (arrays_in xs)) ≡ length_for x (arrays_in xs)
    skip none q = refl
    skip (some n) q = ap (λ b. cond b (some n) (length_for x (arrays_in xs))) q

    go : (b : Bool) → eqb x a.name ≡ b → (w : Option ℕ) → position x (map name_of xs) ≡ w → position_if b w ≡ some i
        → ((i : ℕ) → Distinct (map name_of xs) → position x (map name_of xs) ≡ some i → length_for x (arrays_in xs) ≡ length_in (declared_at xs i))
        → length_for x (add_sized a.name (length_in a.ty) (arrays_in xs)) ≡ length_in (declared_at (a ∷ xs) i)
    go true b w pw p rec = let z : 0 ≡ i = cc in here_is (length_in a.ty) (eqb→eq x a.name (subst T (sym b) tt)) ∙ ap (λ i. length_in (declared_at (a ∷ xs) i)) z
    go false b none pw p rec = let z : ◌≡◌ {A = ℕ} 0 1 = cc in absurd (omega arith)
    go false b (some j) pw p rec = let z : suc j ≡ i = cc in skip (length_in a.ty) b ∙ rec j d.1 pw ∙ ap (λ i. length_in (declared_at (a ∷ xs) i)) z

-- ---- cells and environments

-- a node's variables are no constants and no variants
pub record Sorted (f : File) (n : Node) : Type 0 where
  pub no_constant_lem : (x : ℕ) → x ∈ variable_names n → ¬ (x ∈ constant_names f)
  pub no_variant : (x : ℕ) → x ∈ variable_names n → ¬ (x ∈ variants f)
  pub constant_variant : (x : ℕ) → x ∈ constant_names f → ¬ (x ∈ variants f)
  pub distinct : Distinct (variable_names n)
  pub filled : All (λ v. Filled v.ty) (variables n)

-- the constants: each name bears cells, and has a value
pub record Constantly (f : File) (vs : List Value) : Type 0 where
  pub distinct_names : Distinct (constant_names f)
  pub all_filled : All (λ c. Filled c.ty) f.constants
  pub in_cells : (x : ℕ) → x ∈ constant_names f → x ∈ constant_cell_names f
  pub of_cells : (x : ℕ) → x ∈ constant_cell_names f → x ∈ constant_names f
  pub known : (x : ℕ) → x ∈ constant_names f → (r : RValue) × (constant_is f (constant_cell_names f) vs x ≡ some r)

-- the cells of what stands under a name: as many as its shape says
first_position : (x : ℕ) (ns : List ℕ) (i j : ℕ) → position x ns ≡ some j → (more : List ℕ) × (positions_from i x ns ≡ (i + j) ∷ more)
first_position x [] i j e = let z : ◌≡◌ {A = ℕ} 0 1 = cc in absurd (omega arith)
first_position x (n ∷ ns) i j e = go (eqb x n) (position x ns) refl e (first_position x ns (suc i))
  where
    go : (b : Bool) (w : Option ℕ) → position x ns ≡ w → position_if b w ≡ some j → ((j : ℕ) → position x ns ≡ some j → (more : List ℕ) × (positions_from (suc i) x ns ≡ (suc i + j) ∷ more))
        → (more : List ℕ) × (put_if b i (positions_from (suc i) x ns) ≡ (i + j) ∷ more)
    go true w q e rec = let z : 0 ≡ j = cc in (positions_from (suc i) x ns, ap (λ k. k ∷ positions_from (suc i) x ns) (let y : i ≡ i + j = omega arith in y))
    go false none q e rec = let z : ◌≡◌ {A = ℕ} 0 1 = cc in absurd (omega arith)
    go false (some k) q e rec = let z : suc k ≡ j = cc in let w = rec k q in (w.0, w.1 ∙ ap (λ m. m ∷ w.0) (let y : suc i + k ≡ i + j = omega arith in y))

pub held_cells : (o : Option ℕ) (x : ℕ) (ns : List ℕ) (cs : List Value) (r : RValue) → held_in o x ns cs ≡ some r → length (positions x ns) ≡ size_of o → ((j : ℕ) → position x ns ≡ some j → j < length cs)
    → cells_named x ns cs ≡ some (cells_of r)
held_cells (some n) x ns cs r e l b = go (cells_named x ns cs) e
  where
    go : (u : Option (List Value)) → array_or u ≡ some r → u ≡ some (cells_of r)
    go none e = let z : ◌≡◌ {A = ℕ} 0 1 = cc in absurd (omega arith)
    go (some us) e = let z : Array us ≡ r = cc in ap (λ r. some (cells_of r)) z
held_cells none x ns cs r e l b = go (position x ns) refl e
  where
    go : (o : Option ℕ) → position x ns ≡ o → plain_or (maybe none (get_elem? cs) o) ≡ some r → cells_named x ns cs ≡ some (cells_of r)
    go none q e = let z : ◌≡◌ {A = ℕ} 0 1 = cc in absurd (omega arith)
    go (some j) q e =
        let w = first_position x ns 0 j q in
        let only : w.0 ≡ [] = length_none w.0 (omega (arith, ap length w.1, l)) in
        let at : get_elem? cs j ≡ some (get_or cs j no_value_of) = get_elem_get_d cs j no_value_of (b j q) in
        let v : some (plain (get_or cs j no_value_of)) ≡ some r = sym (ap plain_or at) ∙ e in
        let z : plain (get_or cs j no_value_of) ≡ r = cc in
        ap (picked_some cs) (w.1 ∙ ap₂ {C = List ℕ} (λ a l. a ∷ l) (let y : 0 + j ≡ j = omega arith in y) only) ∙ ap (λ r. some (cells_of r)) z

-- what is found first
pub name_or : (o : Option ℕ) (v v' : Option Value) (us : Option (List Value)) (r : RValue) → name_is o v us ≡ some r → name_is o (or_else v v') us ≡ some r
name_or none none v' us r e = let z : ◌≡◌ {A = ℕ} 0 1 = cc in absurd (omega arith)
name_or none (some v) v' us r e = e
name_or (some n) v v' us r e = e

name_cells : (o : Option ℕ) (v : Option Value) (us us' : Option (List Value)) (r : RValue) → name_is o v us ≡ some r → name_is o v (or_else us us') ≡ some r
name_cells none v us us' r e = e
name_cells (some n) v none us' r e = let z : ◌≡◌ {A = ℕ} 0 1 = cc in absurd (omega arith)
name_cells (some n) v (some us) us' r e = e

pub plain_cond : (b : Bool) (v : Value) → cond b (some (plain v)) none ≡ plain_or (cond b (some v) none)
plain_cond true v = refl
plain_cond false v = refl

-- the constants that an iterator's callee sees
pub absent : (f : File) (cs : List Constant) (env : Env) (x : ℕ) → get x env ≡ none → get x (constants_among f cs env) ≡ none
unfolding get
absent f [] env x e = refl
absent f (c ∷ cs) env x e = go (get c.name env) refl (absent f cs env x e)
  where
    go : (o : Option RValue) → get c.name env ≡ o → get x (constants_among f cs env) ≡ none → get x (maybe (constants_among f cs env) (λ v. (c.name, v) ∷ constants_among f cs env) o) ≡ none
    go none q k = k
    go (some v) q k =
        ap (λ b. cond b (some v) (get x (constants_among f cs env)))
        (T_false (eqb x c.name) (λ t. let w : none ≡ some v = sym e ∙ ap (λ y. get y env) (eqb→eq x c.name t) ∙ q in let z : ◌≡◌ {A = ℕ} 0 1 = cc in omega arith)) ∙ k

pub seen_constant : (f : File) (cs : List Constant) (env : Env) (x : ℕ) (v : RValue) → get x env ≡ some v → x ∈ map constant_name cs → get x (constants_among f cs env) ≡ some v
unfolding get
seen_constant f [] env x v e m = absurd (in_nil m)
seen_constant f (c ∷ cs) env x v e m = by_cases (ℕ_discrete x c.name) here_case (λ h. there_case h (⊎_elim (λ p. absurd (h p)) (λ k. seen_constant f cs env x v e k) (in_cons m)))
  where
    here_case : x ≡ c.name → get x (maybe (constants_among f cs env) (λ v. (c.name, v) ∷ constants_among f cs env) (get c.name env)) ≡ some v
    here_case h =
        ap (λ o. get x (maybe (constants_among f cs env) (λ v. (c.name, v) ∷ constants_among f cs env) o)) (ap (λ y. get y env) (sym h) ∙ e)
        ∙ ap (λ b. cond b (some v) (get x (constants_among f cs env))) (T_true (eqb x c.name) (eq_eqb x c.name h))

    there_case : ¬ (x ≡ c.name) → get x (constants_among f cs env) ≡ some v → get x (maybe (constants_among f cs env) (λ v. (c.name, v) ∷ constants_among f cs env) (get c.name env)) ≡ some v
    there_case h k = go (get c.name env)
      where
        go : (o : Option RValue) → get x (maybe (constants_among f cs env) (λ v. (c.name, v) ∷ constants_among f cs env) o) ≡ some v
        go none = k
        go (some w) = ap (λ b. cond b (some w) (get x (constants_among f cs env))) (T_false (eqb x c.name) (λ t. h (eqb→eq x c.name t))) ∙ k

module _ (f : File) (vs : List Value) where
  abbrev xs : List ℕ
  xs = constant_cell_names f

  -- the environment has the variables' values, by their cells, and the constants
  pub record EnvFor (n : Node) (cs : List Value) (env : Env) : Type 0 where
    pub vars : (x : ℕ) → x ∈ variable_names n → get x env ≡ lookup x (variable_names n) (pack_all (shapes_in (variables n)) cs)
    pub shared : Globally f xs vs env

  abbrev g : Globals
  g = globals_of f vs

  -- what a node sees
  abbrev pub Sees : Node → ℕ → Type 0
  Sees n x = T (member x (seen_by f n))

  module _ (constant : Constantly f vs) where
    pub iterated_globally : (env : Env) → Globally f xs vs env → Globally f xs vs (constants_from_env f env)
    iterated_globally env h =
        record {
          consts = λ x m.
              let c = constant.of_cells x m in
              let w = constant.known x c in
              seen_constant f f.constants env x w.0 (h.consts x m ∙ w.1) c ∙ sym w.1;
          variants = λ x m. absent f f.constants env x (h.variants x m);
        }

  module _ (n : Node) (sorted : Sorted f n) (constant : Constantly f vs) where
    abbrev names : List ℕ
    names = cell_names (variables n)

    -- a name of each sort
    by_sort : (P : ℕ → Type 0) → ((x : ℕ) → x ∈ variable_names n → P x) → ((x : ℕ) → ¬ (x ∈ variable_names n) → x ∈ constant_names f → P x)
        → ((x : ℕ) → ¬ (x ∈ variable_names n) → ¬ (x ∈ constant_names f) → x ∈ variants f → P x) → (x : ℕ) → Sees n x → P x
    by_sort P a b c x t =
        ⊎_elim (a x)
        (λ m. ⊎_elim (λ k. b x (λ v. sorted.no_constant_lem x v k) k) (λ k. c x (λ v. sorted.no_variant x v k) (λ l. sorted.constant_variant x l k) k) (in_append (constant_names f) m))
        (in_append (variable_names n) (member_in x (seen_by f n) t))

    abbrev arrays : List Sized
    arrays = arrays_in (variables n)

    abbrev consts : List Sized
    consts = constant_arrays f.constants

    no_cell : (x : ℕ) → ¬ (x ∈ variable_names n) → ¬ (x ∈ names)
    no_cell x h m = h (cell_name (variables n) x m)

    no_constant_length : (x : ℕ) → ¬ (x ∈ constant_names f) → length_for x consts ≡ none
    no_constant_length x h = no_length constant_name (λ c. c.ty) f.constants x h

    no_constant_cells : (x : ℕ) → ¬ (x ∈ constant_names f) → ¬ (x ∈ xs)
    no_constant_cells x h m = h (constant.of_cells x m)

    -- a variable's value: that of its cells
    variable_is : (x : ℕ) (cs : List Value) → length cs ≡ cell_count n → x ∈ variable_names n
        → (r : RValue) × (lookup x (variable_names n) (pack_all (shapes_in (variables n)) cs) ≡ some r) × (held_in (length_for x arrays) x names cs ≡ some r)
    variable_is x cs l m =
        let w = lookup_in x (variable_names n) (pack_all (shapes_in (variables n)) cs) m (packs_length (shapes_in (variables n)) cs ∙ length-map (variables n) _ ∙ sym (length-map (variables n) name_of)) in
        (w.0, w.1, sym (held_is name_of ty_of (variables n) cs x sorted.distinct l sorted.filled m) ∙ w.1)

    -- and so with what stands behind it
    pub variable_name : (x : ℕ) (cs : List Value) (v : Option Value) → length cs ≡ cell_count n → x ∈ variable_names n
        → (r : RValue) × (lookup x (variable_names n) (pack_all (shapes_in (variables n)) cs) ≡ some r) × (cells_named x names cs ≡ some (cells_of r))
        × (name_is (or_else (length_for x arrays) (length_for x consts)) (or_else (lookup x names cs) v) (or_else (cells_named x names cs) (cells_named x xs vs)) ≡ some r)
    variable_name x cs v l m =
        let w = variable_is x cs l m in
        let o : or_else (length_for x arrays) (length_for x consts) ≡ length_for x arrays = ap (or_else (length_for x arrays)) (no_constant_length x (sorted.no_constant_lem x m)) ∙ or_nothing (length_for x arrays) in (
          w.0,
          w.1,
          held_cells (length_for x arrays) x names cs w.0 w.2 (count_named name_of ty_of 0 (variables n) x sorted.distinct m) (λ j e. omega (arith, (position_get x names j e).0, names_length (variables n))),
          ap (λ o. name_is o (or_else (lookup x names cs) v) (or_else (cells_named x names cs) (cells_named x xs vs))) o
              ∙ name_or (length_for x arrays) (lookup x names cs) v (or_else (cells_named x names cs) (cells_named x xs vs)) w.0
              (name_cells (length_for x arrays) (lookup x names cs) (cells_named x names cs) (cells_named x xs vs) w.0 w.2),
        )

    -- a constant's
    pub constant_name_lem : (x : ℕ) (cs : List Value) (v : Option Value) → ¬ (x ∈ variable_names n) → x ∈ constant_names f
        → (r : RValue) × (constant_is f xs vs x ≡ some r)
        × (name_is (or_else (length_for x arrays) (length_for x consts)) (or_else (lookup x names cs) (or_else (lookup x xs vs) v)) (or_else (cells_named x names cs) (cells_named x xs vs)) ≡ some r)
    constant_name_lem x cs v h m =
        let w = constant.known x m in (
          w.0,
          w.1,
          ap₂ (λ o u. name_is (or_else o (length_for x consts)) (or_else u (or_else (lookup x xs vs) v)) (or_else (cells_named x names cs) (cells_named x xs vs))) (no_length name_of ty_of (variables n) x h) (lookup_out x names cs (no_cell x h))
              ∙ ap (λ is. name_is (length_for x consts) (or_else (lookup x xs vs) v) (or_else (picked_some cs is) (cells_named x xs vs))) (positions_none 0 x names (no_cell x h))
              ∙ name_or (length_for x consts) (lookup x xs vs) v (cells_named x xs vs) w.0 w.1,
        )

    -- a variant's
    variant_found : (x : ℕ) (cs : List Value) (v : Option Value) → ¬ (x ∈ variable_names n) → ¬ (x ∈ constant_names f)
        → name_is (or_else (length_for x arrays) (length_for x consts)) (or_else (lookup x names cs) (or_else (lookup x xs vs) v)) (or_else (cells_named x names cs) (cells_named x xs vs)) ≡ plain_or v
    variant_found x cs v h k =
        ap₂ (λ o u. name_is (or_else o u) (or_else (lookup x names cs) (or_else (lookup x xs vs) v)) (or_else (cells_named x names cs) (cells_named x xs vs))) (no_length name_of ty_of (variables n) x h) (no_constant_length x k)
        ∙ ap₂ (λ u w. plain_or (or_else u (or_else w v))) (lookup_out x names cs (no_cell x h)) (lookup_out x xs vs (no_constant_cells x k))

    pub agrees_of : (first : Bool) (before cs : List Value) (env : Env) (st : State) → length cs ≡ cell_count n → length before ≡ cell_count n
        → first_tick st ≡ first → EnvFor n cs env → (first ≡ false → EnvFor n before (prev st)) → Agrees f xs vs (Sees n) (scope n first before cs) env st
    agrees_of first before cs env st lc lb e h k =
        let s = scope n first before cs in
        record {
          present = by_sort (λ x. or_else (get x env) (enum_variant_value f x) ≡ name_is (length_named g s x) (present_of g s x) (cells_for f xs vs s cs x))
              (λ x m.
              let w = variable_name x cs (or_else (constant_of g s x) (variant_of g s x)) lc m in
              ap (λ o. or_else o (enum_variant_value f x)) (h.vars x m ∙ w.1) ∙ sym w.3)
              (λ x n c.
              let w = constant_name_lem x cs (variant_of g s x) n c in
              ap (λ o. or_else o (enum_variant_value f x)) (h.shared.consts x (constant.in_cells x c) ∙ w.1) ∙ sym w.2)
              (λ x n c m.
              ap (λ o. or_else o (enum_variant_value f x)) (h.shared.variants x m) ∙ plain_cond (member x (concat f.enums)) (Val.Enum x) ∙ sym (variant_found x cs (variant_of g s x) n c));
          first = e;
          before = λ x t q.
              let h = k q in
              by_sort (λ x. get x (prev st) ≡ name_is (length_named g s x) (before_of g s x) (cells_for f xs vs s before x))
              (λ x m. let w = variable_name x before (constant_of g s x) lb m in h.vars x m ∙ w.1 ∙ sym w.3)
              (λ x n c.
              let w = constant_name_lem x before none n c in
              h.shared.consts x (constant.in_cells x c) ∙ w.1 ∙ sym w.2 ∙ ap (λ u. name_is (length_named g s x) (or_else (lookup x names before) u) (cells_for f xs vs s before x)) (or_nothing (lookup x xs vs)))
              (λ x n c m.
              h.shared.variants x m ∙ sym (variant_found x before none n c) ∙ ap (λ u. name_is (length_named g s x) (or_else (lookup x names before) u) (cells_for f xs vs s before x)) (or_nothing (lookup x xs vs)))
              x t;
          shared = h.shared;
          iterated = iterated_globally constant env h.shared;
        }

    -- ---- storing

    -- names that an equation defines
    abbrev Defined : List ℕ → Type 0
    Defined ys = (x : ℕ) → x ∈ ys → (x ∈ variable_names n) × (¬ (x ∈ map name_of n.inputs))

    type_is : (x i : ℕ) → ¬ (x ∈ map name_of n.inputs) → position x (variable_names n) ≡ some i → declared_type f n x ≡ some (declared_at (variables n) i)
    type_is x i h e =
        sym (type_skip f n.inputs (n.outputs ++ n.locals) x h) ∙ ap (λ l. type_in f l x) (sym (append_assoc n.inputs n.outputs n.locals)) ∙ type_at f (variables n) x i e

    put_follows : (x i : ℕ) (us cs : List Value) (env : Env) → length cs ≡ cell_count n → x ∈ variable_names n → ¬ (x ∈ map name_of n.inputs)
        → position x (variable_names n) ≡ some i → length us ≡ size_of (length_in (declared_at (variables n) i)) → EnvFor n cs env
        → EnvFor n (put_all n (positions x names) us cs) (Rust.store f n x (pack_one (length_in (declared_at (variables n) i)) us) env)
    put_follows x i us cs env lc m h e l k =
        let ty = declared_at (variables n) i in
        let w = fit_to ty (pack_one (length_in ty) us) in
        let u = store_pack n (variables n) [] cs us 0 x i refl (λ j b. ap (λ j. get_or (cell_types (variables n)) j bool) (let z : 0 + j ≡ j = omega arith in z)) sorted.distinct e lc l in
        let rs = pack_all (shapes_in (variables n)) cs in
        let b : i < length rs = omega (arith, (position_get x (variable_names n) i e).0, length-map (variables n) name_of, packs_length (shapes_in (variables n)) cs, length-map (variables n) (λ (v : Variable). length_in v.ty)) in
        subst (λ c. EnvFor n c (Rust.store f n x (pack_one (length_in ty) us) env)) (sym u.is)
        (subst (λ t. EnvFor n u.cells (insert x (maybe (pack_one (length_in ty) us) (λ t. fit_to t (pack_one (length_in ty) us)) t) env)) (sym (type_is x i h e)) (record {
          vars = λ y q. by_cases (ℕ_discrete y x)
              (λ p. get_hit y x w env p ∙ sym (ap (lookup y (variable_names n)) u.packs ∙ ap (λ z. lookup z (variable_names n) (set rs i w)) p ∙ lookup_set x (variable_names n) i w rs e b))
              (λ p. get_miss y x w env p ∙ k.vars y q ∙ sym (ap (lookup y (variable_names n)) u.packs ∙ lookup_other y x (variable_names n) i w rs e p));
          shared = record {
            consts = λ y c. get_miss y x w env (λ p. sorted.no_constant_lem x m (subst (λ z. z ∈ constant_names f) p (constant.of_cells y c))) ∙ k.shared.consts y c;
            variants = λ y c. get_miss y x w env (λ p. sorted.no_variant x m (subst (λ z. z ∈ variants f) p c)) ∙ k.shared.variants y c;
          };
        }))

    -- the shape of a name that an equation defines
    shape_is : (x i : ℕ) → x ∈ variable_names n → position x (variable_names n) ≡ some i → or_else (length_for x arrays) (length_for x consts) ≡ length_in (declared_at (variables n) i)
    shape_is x i m e = ap (or_else (length_for x arrays)) (no_constant_length x (sorted.no_constant_lem x m)) ∙ or_nothing (length_for x arrays) ∙ length_at (variables n) x i sorted.distinct e

    store_follows : (ys : List ℕ) (ws cs : List Value) (env : Env) → length cs ≡ cell_count n → Defined ys → length ws ≡ length (slots_of n ys) → EnvFor n cs env
        → EnvFor n (put_all n (slots_of n ys) ws cs) (store_all f n ys (pack_all (name_shapes f n ys) ws) env)
    unfolding put_all store_all
    store_follows [] ws cs env lc d lw k = k
    store_follows (x ∷ ys) ws cs env lc d lw k =
        let q = d x (here refl) in
        let e = position_in x (variable_names n) q.0 in
        let ty = declared_at (variables n) e.0 in
        let o = or_else (length_for x arrays) (length_for x consts) in
        let is = positions x names in
        let sh : o ≡ length_in ty = shape_is x e.0 q.0 e.1 in
        let count : length is ≡ size_of o = count_named name_of ty_of 0 (variables n) x sorted.distinct q.0
        ∙ ap size_of (sym (or_nothing (length_for x arrays)) ∙ ap (or_else (length_for x arrays)) (sym (no_constant_length x (sorted.no_constant_lem x q.0)))) in
        let size : length is ≤ length ws = omega (arith, lw, length-append is (slots_of n ys)) in
        let more : length (drop (length is) ws) ≡ length (slots_of n ys) = omega (arith, lw, length-append is (slots_of n ys), length-drop (length is) ws) in
        let one = put_follows x e.0 (take (length is) ws) cs env lc q.0 q.1 e.1 (length-take-le (length is) ws size ∙ count ∙ ap size_of sh) k in
        subst (λ c. EnvFor n c (store_all f n (x ∷ ys) (pack_all (name_shapes f n (x ∷ ys)) ws) env)) (sym (put_append n is (slots_of n ys) ws cs size))
        (subst (λ rs. EnvFor n (put_all n (slots_of n ys) (drop (length is) ws) (put_all n is (take (length is) ws) cs)) (store_all f n (x ∷ ys) rs env))
        (sym (head_pack o (name_shapes f n ys) ws ∙ ap (λ m. pack_one o (take m ws) ∷ pack_all (name_shapes f n ys) (drop m ws)) (sym count)))
        (subst (λ o. EnvFor n (put_all n (slots_of n ys) (drop (length is) ws) (put_all n is (take (length is) ws) cs))
        (store_all f n ys (pack_all (name_shapes f n ys) (drop (length is) ws)) (Rust.store f n x (pack_one o (take (length is) ws)) env))) (sym sh)
        (store_follows ys (drop (length is) ws) _ _ (put_length n is (take (length is) ws) cs ∙ lc) (λ y m. d y (there m)) more one)))

    -- ---- the equations in turn

    bound : (ys : List ℕ) (rs : List RValue) (env : Env) → 1 ≤ length ys → length rs ≡ length ys → bind_lhs f n ys (tuple_unless_one rs) env ≡ some (store_all f n ys rs env)
    unfolding bind_lhs store_all
    bound [] ws env l e = absurd (omega arith)
    bound (x ∷ []) [] env l e = absurd (omega arith)
    bound (x ∷ []) (w ∷ []) env l e = refl
    bound (x ∷ []) (w ∷ u ∷ ws) env l e = absurd (omega arith)
    bound (x ∷ y ∷ ys) [] env l e = absurd (omega arith)
    bound (x ∷ y ∷ ys) (w ∷ []) env l e = absurd (omega arith)
    bound (x ∷ y ∷ ys) (w ∷ u ∷ ws) env l e = refl

    module _ (p : ℕ → List ℕ → Bool) (R : ℕ → List ℕ → Option State → Type 0) (Q : Value → Type 0) (K : ℕ) where
      abbrev N : Home
      N = home K n

      -- a run over bytes, and the Rust's from these call states
      pub record RunFollows (calls : States) (u : Run) (r : Ran) : Type 0 where
        pub end : TellsEnd u.end r.end
        pub env : r.end ≡ done → EnvFor n u.cells r.env
        pub segs : GoingEnd r.end → Rels g p R N n.equations 0 u.segs r.calls
        pub frame : Frame g N (sites n) 0 calls r.calls

      module _ (calls : Calls) (step : StepInstance) (value : CallValues) (steps : Steps f xs vs p R Q calls step value) (sound : Sound Q g p calls) (node : NodeOk g n)
          (known : (i x : ℕ) → x ∈ (equation_at n i).names → x ∈ variable_names n) (plain : RunnableEqs f.nodes (arrays_in (variables n)) (constant_arrays f.constants) n.equations)
          (shaped : (first : Bool) (before cs : List Value) → NamesShaped g (scope n first before cs)) (seen : All (λ q. Seen (Sees n) q.rhs) n.equations)
          (flat : All (λ q. FlatRight f.nodes (arrays_in (variables n)) (constant_arrays f.constants) (name_shapes f n q.names) (rhs_of q.rhs) × (1 ≤ length q.names)) n.equations)
          (first : Bool) (before : List Value) (st : State) (lb : length before ≡ cell_count n) (is-first : first_tick st ≡ first)
          (Fine-before : All Q before) (backs : (v : Value) → Q v → Single v) (old : first ≡ false → EnvFor n before (prev st)) where
        pub for_follows : (is : List ℕ) (cs : List Value) (ss : List (List ℕ)) (env : Env) (states : States) → ((i : ℕ) → i ∈ is → i < length n.equations)
            → length cs ≡ cell_count n → All Q cs → EnvFor n cs env → Rels g p R N n.equations 0 ss states
            → RunFollows states (run_all g calls n first before is cs ss) (for_order f step value K n st is env states)
        unfolding run_all for_order store bind_next
        for_follows [] cs ss env states inside lc fine h rels =
            record { end = ends; env = λ e. h; segs = λ t. rels; frame = record { same = λ key o. refl } }
        for_follows (i ∷ is) cs ss env states inside lc fine h rels =
            go x.out y.out w.out given counted w.sites (λ cs' ss' env' c a b k r. for_follows is cs' ss' env' c (λ i m. inside i (there m)) a b k r)
          where
            x : Evals
            x = eval_equation g calls n first before cs i (get_or ss i [])

            y : Res Given
            y = Rust.eval f step value K env st (address n.equations i) (equation_at n i).rhs states

            b : i < length n.equations
            b = inside i (here refl)

            os : List (Option ℕ)
            os = name_shapes f n (equation_at n i).names

            zero_left : 0 + sites_before n.equations i ≡ sites_before n.equations i
            zero_left = omega arith

            own : Sites g p R N (callees (equation_at n i).rhs) (sites_before n.equations i) (get_or ss i []) states
            own = subst (λ m. Sites g p R N (callees (equation_at n i).rhs) m (get_or ss i []) states) zero_left (rels_get g p R N n.equations 0 ss i states rels)

            shape : FlatRight f.nodes (arrays_in (variables n)) (constant_arrays f.constants) os (rhs_of (equation_at n i).rhs) × (1 ≤ length (equation_at n i).names)
            shape = all_at (λ q. FlatRight f.nodes (arrays_in (variables n)) (constant_arrays f.constants) (name_shapes f n q.names) (rhs_of q.rhs) × (1 ≤ length q.names)) n.equations i no_equation flat b

            runs : Runnable f.nodes (arrays_in (variables n)) (constant_arrays f.constants) (equation_at n i).rhs
            runs = runnable_at f.nodes (arrays_in (variables n)) (constant_arrays f.constants) n.equations i plain

            w : Follows g p R N (Told (bundled os)) (callees (equation_at n i).rhs) (sites_before n.equations i) states x.out x.seg y
            w =
                rhs_follows f xs vs (agrees_of first before cs env st lc lb is-first h old) steps sound fine Fine-before (shaped first before cs) backs N (equation_at n i).rhs os _ _ _ states (lie_at K n i)
                runs.0 runs.1 (all_at (λ q. Seen (Sees n) q.rhs) n.equations i no_equation seen b) shape.0 own

            given : GivesAll Q x.out
            given = (equation_meets sound n plain shaped first before cs i (get_or ss i []) Fine-before fine own.good).out

            counted : CountIs (length (slots_of n (equation_at n i).names)) x.out
            counted =
                subst (λ m. CountIs m x.out) (node.arity i b)
                (rhs_count g (scope n first before cs) calls sound.counts (shaped first before cs) (equation_at n i).rhs (get_or ss i []) runs.1)

            moved : (s : List ℕ) → Sites g p R N (callees (equation_at n i).rhs) (sites_before n.equations i) s y.calls → Rels g p R N n.equations 0 (set ss i s) y.calls
            moved s new =
                rels_set g p R N n.equations 0 ss i s states y.calls rels (subst (λ m. Sites g p R N (callees (equation_at n i).rhs) m s y.calls) (sym zero_left) new)
                (subst (λ m. Frame g N (callees (equation_at n i).rhs) m states y.calls) (sym zero_left) w.frame)

            others : Frame g N (sites n) 0 states y.calls
            others =
                record {
                  same = λ key o.
                      w.frame.same key (subst (λ m. Outside g N (callees (equation_at n i).rhs) m key) zero_left (outside_equation g N n.equations 0 i key o));
                }

            go : (o : Outcomes) (r : Result Given) → Told (bundled os) o r → GivesAll Q o → CountIs (length (slots_of n (equation_at n i).names)) o
                → (Going r → Sites g p R N (callees (equation_at n i).rhs) (sites_before n.equations i) x.seg y.calls)
                → ((cs' : List Value) (ss' : List (List ℕ)) (env' : Env) (c : States) → length cs' ≡ cell_count n → All Q cs' → EnvFor n cs' env'
                → Rels g p R N n.equations 0 ss' c → RunFollows c (run_all g calls n first before is cs' ss') (for_order f step value K n st is env' c))
                → RunFollows states (store_on n i o x.seg (run_all g calls n first before is) cs ss) (bind_on f n i r y.calls (for_order f step value K n st is) env)
            go _ _ (told ws) q l s k =
                let ys = (equation_at n i).names in
                let u = k (assign n ys ws cs) (set ss i x.seg) (store_all f n ys (pack_all os ws) env) y.calls (store_length n ys ws cs ∙ lc)
                (all_assign sound.closed n ys ws cs q fine)
                (store_follows ys ws cs env lc (λ x m. (known i x m, node.no_input i x m)) l h) (moved x.seg (s tt)) in
                subst (λ o. RunFollows states (run_all g calls n first before is (assign n ys ws cs) (set ss i x.seg)) (bound_on f i o (for_order f step value K n st is) env y.calls))
                (sym (bound ys (pack_all os ws) env shape.1 (packs_length os ws ∙ length-map ys _)))
                (record { end = u.end; env = u.env; segs = u.segs; frame = record { same = λ key o. u.frame.same key o ∙ others.same key o } })
            go _ _ (told_err e) q l s k =
                record { end = errs_at e i; env = λ e. let z : ◌≡◌ {A = ℕ} 0 1 = cc in absurd (omega arith); segs = λ t. moved x.seg (s tt); frame = others }
            go _ _ told_panic q l s k = record { end = panics_at i; env = λ e. let z : ◌≡◌ {A = ℕ} 0 1 = cc in absurd (omega arith); segs = λ t. absurd t; frame = others }
