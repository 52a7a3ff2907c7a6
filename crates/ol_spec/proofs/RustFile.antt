-- What an admitted file of bytes has for the Rust, and that `Sim::new` evaluates its constants to the values that admission found.
use Prim.Native.Nat.{ℕ, ◌^◌, zero, suc, ◌+◌, ◌<◌, ◌≤◌}
use mathlib.Core.Bool.{Bool, false, ◌&&◌, cond}
use mathlib.Core.List.Memᴰ.{append_left as in_left}
use mathlib.Core.List.Memᴰ.{append_right as in_right}
use mathlib.Core.List.Memᴰ.{cases_cons as in_cons}
use mathlib.Core.List.Memᴰ.{head as here}
use mathlib.Core.List.Memᴰ.{not-nil as in_nil}
use mathlib.Core.List.{List, [], ◌∷◌, ◌++◌, map, map-append, append_assoc, append-nil}
use mathlib.Core.Logic.{by_cases, ⊎_elim}
use mathlib.Core.Option.{Option, none, some}
use mathlib.Core.Path.{◌≡◌, refl, sym, ap, ap₂, subst, ◌∙◌}
use native.Mathlib.Omega.{arith}
use native.Mathlib.Decide.{ℕ_discrete}
use lib.ListN.{length, take, drop, get_or, length-append, length-map, length-drop, take-append-drop}
use lib.Seq.{length-take-le, take_all}
use lib.Dec.{T, ltb, eqb}
use Rattle.ol_theory.specs.Member.{◌∈◌, Distinct}
use Rattle.ol_spec.specs.Lists.{or_else, concat, member, lookup}
use Rattle.ol_spec.specs.Syntax.{bool_lit, int_lit, float_lit, char_lit, var, unary, binary, if_then_else, pre, arrow, cast, call, tuple, index, literal, map_over, fold_over, Exprs, nil, cons, count, Variable}
use Rattle.ol_spec.specs.Syntax.{VarTy, scalar, array, length_in, type_cells, named_cells, NodeKind, Function, Operator, Imported, Expr, Constant, File, Node, no_node, Equation, rhs_of, constant_name, constant_slots, constant_cells, variables}
use Rattle.ol_spec.specs.Shapes.{length_for, constant_arrays}
use Rattle.ol_spec.specs.Places.{placed, constant_size, placed_constants, expr_size, collect, collect_all}
use Rattle.ol_spec.specs.Types.{fit}
use Rattle.ol_spec.specs.Limits.{Loader}
use Rattle.ol_spec.specs.Eval.{Outcomes, callees, callees_all, eval_cells, cells_named, picked_some, present_of, variant_of, Globals, length_named}
use Rattle.ol_spec.specs.Step.{globals, fit_all, equation_sites, equation_at, no_equation}
use Rattle.ol_spec.specs.Admission.{constant_names, variants, may_call, callee_in, bad_call, bad_iterator, uses_where, in_equation, arity, Constants, all, stuck_at, stuck_place, constant_values, no_calls, no_variables, after_constant, constants_from, constants, fault6, fault7, fault9, fault10, fault22, fault11, fault13, fault14, Judged, refused, refuse_at, refuse_first, admitted, judge, verdict, admission}
use Rattle.ol_spec.specs.Answers.{fault_at}
use Rattle.ol_spec.specs.AsRust.{constant_place, constants_by, ConstantsAsRust}
use Rattle.ol_spec.specs.RustSim.{Env, get, insert, Res, no_states, default_state, RValue, plain, Given, Result, Err, other_error, enum_variant_value, StepInstance, CallValues, constants_from_env, Consts, evaluated, stuck, const_on, eval_consts, all_consts, step, call_values}
use Rattle.ol_spec.specs.RustSim as Rust
use Rattle.ol_spec.specs.RustLeaves.{fit_to}
use Rattle.ol_spec.specs.RustState.{all_cells, constants_in}
use Rattle.ol_spec.specs.declared.Value.{Value}
use Rattle.std.specs.Prelude.{Err}
use Rattle.ol_spec.proofs.RustLeaves.{errs, fine_single}
use Rattle.ol_spec.proofs.Tests.{T_and, T-dec, member_in, in_member, T_false, not_false}
use Rattle.ol_spec.proofs.Lists.{All, all_join, distinct_parts, all_at, or_nothing}
use Rattle.ol_spec.proofs.Values.{Fine, fine_closed}
use Rattle.ol_spec.specs.declared.Value.TheVariants as Val
use Rattle.ol_spec.proofs.Cells.{AllFine}
use Rattle.ol_spec.proofs.Slots.{type_cells_lem, positions_none, in_slotted, no_length}
use Rattle.ol_spec.proofs.Forms.{either}
use Rattle.ol_spec.proofs.CellLengths.{length_fit_all}
use Rattle.ol_spec.proofs.Counts.{CountIs, NamesShaped, cells_kept}
use Rattle.ol_spec.proofs.Segments.{GivesAll, any_record}
use Rattle.ol_spec.proofs.Runs.{all_fit_all}
use Rattle.ol_spec.proofs.Calls.{iterated, function_size}
use Rattle.ol_spec.proofs.ReadFacts.{FileRead, Filled, filled_of, VariableRead, EquationRead, ConstantRead, file_read}
use Rattle.ol_spec.proofs.MainFacts.{Shaped, shapes, shaped_arity, distinct_names}
use Rattle.ol_spec.proofs.Admits.{Admits, Clean, clean_parts, uses_of_lem}
use Rattle.ol_spec.proofs.Admitted.{facts, short_names, constant_values_lem, ConstantOk, constants_ok, constants_shaped, constant_ty, length_joined, one_more, node_read, node_ok, known_at, arity_some, runs_at}
use Rattle.ol_spec.proofs.Names.{lookup_in, lookup_out}
use Rattle.ol_spec.proofs.RustMaps.{get_hit, get_miss}
use Rattle.ol_spec.proofs.RustNames.{not_constant, not_variant, constants_distinct, constant_no_variant, node_seen, ConstantsSeen, constants_seen}
use Rattle.ol_spec.proofs.RustShapes.{node_flat, constants_flat}
use Rattle.ol_spec.proofs.RustEnv.{elem_of, lookup_here, lookup_skip, lookup_left, lookup_right, packs_length, pack_join, fit_pack, fit_split, head_pack, one_back, held_is}
use Rattle.ol_spec.specs.RustState.{rust_calls_in}
use Rattle.ol_spec.proofs.RustPlaces.{callees_are, Home, lie_none}
use Rattle.ol_spec.proofs.Rings.{refuse_other, same_fault}
use Rattle.ol_spec.proofs.RustEval.{shape_of, Told, told, told_err, told_panic, pack_one, pack_all, packed, size_of, plain_or, name_is, held_in, constant_is, cells_for, Globally, Sites, sites_none, Seen, Flat, cells_follows}
use Rattle.ol_spec.proofs.RustRun.{Constantly, name_or, absent, seen_constant, plain_cond}
use Rattle.ol_spec.proofs.RustState.{constants_read_lem}
use Rattle.ol_spec.proofs.RustCalls.{NodeRust, FileRust}
use Rattle.ol_spec.proofs.RustDepth.{eval_same}

-- ---- the constants' values

abbrev pub values_of_constants : List Constant → List Value → List RValue
values_of_constants cs us = pack_all (map (λ c. length_in c.ty) cs) us

-- the environment has these values under these names, and nothing else
abbrev pub Has : List ℕ → List RValue → Env → Type 0
Has ns rs env = (x : ℕ) → get x env ≡ lookup x ns rs

has_more : (ns : List ℕ) (us : List RValue) (env : Env) (y : ℕ) (w : RValue) → length us ≡ length ns → ¬ (y ∈ ns) → Has ns us env → Has (ns ++ y ∷ []) (us ++ w ∷ []) (insert y w env)
has_more ns us env y w e n h x =
    by_cases (ℕ_discrete x y)
    (λ q. get_hit x y w env q ∙ sym (lookup_right x ns (y ∷ []) us (w ∷ []) (λ m. n (subst (λ z. z ∈ ns) q m)) e ∙ lookup_here x y [] w [] q))
    (λ q. get_miss x y w env q ∙ h x ∙ by_cases (T-dec (member x ns))
    (λ t. sym (lookup_left x ns (y ∷ []) us (w ∷ []) (member_in x ns t) e))
    (λ t. lookup_out x ns us (λ m. t (in_member x ns m)) ∙ sym (lookup_right x ns (y ∷ []) us (w ∷ []) (λ m. t (in_member x ns m)) e ∙ lookup_skip x y [] w [] q)))

slot_in : (x : ℕ) (t : VarTy) → Filled t → x ∈ named_cells x t
slot_in x (scalar t) h = here refl
slot_in x (array zero t) h = absurd (omega arith)
slot_in x (array (suc n) t) h = here refl

name_in_cells : (cs : List Constant) (x : ℕ) → All (λ c. Filled c.ty) cs → x ∈ map constant_name cs → x ∈ concat (map constant_slots cs)
name_in_cells [] x h m = m
name_in_cells (c ∷ cs) x h m =
    ⊎_elim (λ e. in_left (concat (map constant_slots cs)) (subst (λ y. x ∈ named_cells y c.ty) e (slot_in x c.ty h.0))) (λ k. in_right (constant_slots c) (name_in_cells cs x h.1 k)) (in_cons m)

-- what stands under a constant's name
known_of : (cs : List Constant) (us : List Value) (x : ℕ) → Distinct (map constant_name cs) → length us ≡ length (concat (map constant_cells cs)) → All (λ c. Filled c.ty) cs → x ∈ map constant_name cs
    → (r : RValue) × (lookup x (map constant_name cs) (values_of_constants cs us) ≡ some r) × (held_in (length_for x (constant_arrays cs)) x (concat (map constant_slots cs)) us ≡ some r)
known_of cs us x d l fill m =
    let w = lookup_in x (map constant_name cs) (values_of_constants cs us) m (packs_length (map (λ c. length_in c.ty) cs) us ∙ length-map cs _ ∙ sym (length-map cs constant_name)) in
    (w.0, w.1, sym (held_is constant_name constant_ty cs us x d l fill m) ∙ w.1)

pub constantly : (f : File) (vs : List Value) → Distinct (constant_names f) → length vs ≡ length (concat (map constant_cells f.constants)) → All (λ c. Filled c.ty) f.constants → Constantly f vs
constantly f vs d l fill =
    record {
      distinct_names = d;
      all_filled = fill;
      in_cells = λ x m. name_in_cells f.constants x fill m;
      of_cells = λ x m. in_slotted constant_name constant_ty f.constants x m;
      known = λ x m. let w = known_of f.constants vs x d l fill m in (w.0, w.2);
    }

filled_constants : (cs : List Constant) → All ConstantRead cs → All (λ c. Filled c.ty) cs
filled_constants [] h = tt
filled_constants (c ∷ cs) h = (h.0.3, filled_constants cs h.1)

-- ---- the nodes

no_operator : (a b : NodeKind) → a ≡ Function → T (may_call a b) → ¬ (b ≡ Operator)
no_operator Function Function e t q = let z : ◌≡◌ {A = ℕ} 0 1 = cc in absurd (omega arith)
no_operator Function Operator e t q = t
no_operator Function Imported e t q = t
no_operator Operator b e t q = let z : ◌≡◌ {A = ℕ} 0 1 = cc in absurd (omega arith)
no_operator Imported b e t q = let z : ◌≡◌ {A = ℕ} 0 1 = cc in absurd (omega arith)

-- what holds of the callee of each call without fault holds of all callees
module _ (p : ℕ → ℕ → Bool) (q : ℕ → Bool) (P : ℕ → Type 0) (from-call : (c m : ℕ) → p c m ≡ false → P c) where
  abbrev W : ℕ → Expr → List (ℕ × Bool)
  W = uses_where p q

  mutual
    unfolding collect

    callee_clean : (at : ℕ) (e : Expr) → Clean (collect W at e) → (c : ℕ) → c ∈ callees e → P c
    callee_clean at (bool_lit b) h c m = absurd (in_nil m)
    callee_clean at (int_lit i) h c m = absurd (in_nil m)
    callee_clean at (float_lit b) h c m = absurd (in_nil m)
    callee_clean at (char_lit b) h c m = absurd (in_nil m)
    callee_clean at (var x) h c m = absurd (in_nil m)
    callee_clean at (unary op e) h c m = callee_clean _ e h c m
    callee_clean at (binary op l r) h c m =
        let w = clean_parts (collect W (at + 2) l) _ h in
        either (P c) (callees l) (callees r) c (λ k. callee_clean _ l w.0 c k) (λ k. callee_clean _ r w.1 c k) m
    callee_clean at (if_then_else x t e) h c m =
        let w = clean_parts (collect W (at + 1) x) _ h in
        let u = clean_parts (collect W (at + 1 + expr_size x) t) _ w.1 in
        either (P c) (callees x) (callees t ++ callees e) c (λ k. callee_clean _ x w.0 c k) (either (P c) (callees t) (callees e) c (λ k. callee_clean _ t u.0 c k) (λ k. callee_clean _ e u.1 c k)) m
    callee_clean at (pre e) h c m = callee_clean _ e h c m
    callee_clean at (arrow l r) h c m =
        let w = clean_parts (collect W (at + 1) l) _ h in
        either (P c) (callees l) (callees r) c (λ k. callee_clean _ l w.0 c k) (λ k. callee_clean _ r w.1 c k) m
    callee_clean at (cast t e) h c m = callee_clean _ e h c m
    callee_clean at (call k es) h c m = ⊎_elim (λ e. subst P (sym e) (from-call k (count es) h.0)) (λ n. callee_all _ es h.1 c n) (in_cons m)
    callee_clean at (tuple es) h c m = callee_all _ es h c m
    callee_clean at (index l r) h c m =
        let w = clean_parts (collect W (at + 1) l) _ h in
        either (P c) (callees l) (callees r) c (λ k. callee_clean _ l w.0 c k) (λ k. callee_clean _ r w.1 c k) m
    callee_clean at (literal es) h c m = callee_all _ es h c m
    callee_clean at (map_over k es) h c m = callee_all _ es h.1 c m
    callee_clean at (fold_over k s es) h c m =
        let w = clean_parts (collect W (at + 4) s) _ h.1 in
        either (P c) (callees s) (callees_all es) c (λ k. callee_clean _ s w.0 c k) (λ k. callee_all _ es w.1 c k) m

    callee_all : (at : ℕ) (es : Exprs) → Clean (collect_all W at es) → (c : ℕ) → c ∈ callees_all es → P c
    callee_all at nil h c m = absurd (in_nil m)
    callee_all at (cons e es) h c m =
        let w = clean_parts (collect W at e) _ h in
        either (P c) (callees e) (callees_all es) c (λ k. callee_clean at e w.0 c k) (λ k. callee_all _ es w.1 c k) m

callees_of : (f : File) (k : ℕ) (n : Node) (P : ℕ → Type 0) → ((c m : ℕ) → bad_call f k n c m ≡ false → P c) → (qs : List Equation)
    → All (λ q. (a : ℕ) × Clean (in_equation (uses_where (bad_call f k n) (bad_iterator k)) (a, q))) qs → (c : ℕ) → c ∈ concat (map equation_sites qs) → P c
callees_of f k n P h [] u c m = absurd (in_nil m)
callees_of f k n P h (q ∷ qs) u c m =
    either (P c) (callees q.rhs) (concat (map equation_sites qs)) c (λ t. callee_clean (bad_call f k n) (bad_iterator k) P h _ q.rhs u.0.1 c t) (callees_of f k n P h qs u.1 c) m

all_of_lem : {A : Type 0} (P : A → Type 0) (d : A) (xs : List A) → ((i : ℕ) → i < length xs → P (get_or xs i d)) → All P xs
all_of_lem P d [] h = tt
all_of_lem P d (x ∷ xs) h = (h 0 (omega arith), all_of_lem P d xs (λ i b. h (suc i) (omega arith)))

module _ (ld : Loader) (s : List ℕ) (f : File) (vs : List Value) (read : FileRead f) (a : Admits ld s f vs) where
  filled_vars : (m : ℕ) (xs : List Variable) → All (VariableRead m) xs → All (λ v. Filled v.ty) xs
  filled_vars m [] h = tt
  filled_vars m (x ∷ xs) h = (filled_of m x.ty h.0, filled_vars m xs h.1)

  pub node_rust : (k : ℕ) → k < length f.nodes → NodeRust f vs (get_or f.nodes k no_node)
  node_rust k b =
      let n = get_or f.nodes k no_node in
      let F = facts ld s f vs read a in
      let r = node_read ld s f vs read a k b in
      let m = length f.enums in
      let join = all_join (VariableRead m) in
      record {
        ok = node_ok ld s f vs read a k b;
        known = λ i x m. (known_at ld s f vs read a k b i x m).0;
        runs = F.callable.plain k;
        names = F.callable.shaped k;
        seen = node_seen f a.no7 k b;
        shaped = node_flat f k b a.no9 a.no10 a.no22 read.nodes_read
            (all_of_lem (λ q. arity f (rhs_of q.rhs) ≡ length q.names) no_equation n.equations
            (λ i h.
            let q = equation_at n i in
            let e = all_at EquationRead n.equations i no_equation r.eqs h in
            shaped_arity f q (all_at (Shaped f) n.equations i no_equation (shapes f a.no10 k b) h) e.named (arity_some ld s f vs read a k b q.rhs e.right.1 (runs_at ld s f vs read a k b i).1)));
        sorted = record {
          no_constant_lem = not_constant f a.no6 k b;
          no_variant = not_variant f a.no6 k b;
          constant_variant = constant_no_variant f a.no6;
          distinct = distinct_names f a.no6 k b;
          filled = filled_vars m (variables n) (join (n.inputs ++ n.outputs) n.locals (join n.inputs n.outputs r.ins r.outs) r.locs);
        };
        functional = λ e c m.
            callees_of f k n (λ d. ¬ ((callee_in f d).kind ≡ Operator))
            (λ d j q. no_operator n.kind (callee_in f d).kind e
            (T_and (ltb d k) _ (T_and (ltb d k && may_call n.kind (callee_in f d).kind) _ (not_false (ltb d k && may_call n.kind (callee_in f d).kind && eqb j (length (callee_in f d).inputs)) q)).0).1)
            n.equations (uses_of_lem f a.no9 k b) c m;
      }

  pub file_rust : FileRust f vs
  file_rust =
      let F = facts ld s f vs read a in
      record { callable = F.callable; constant = constantly f vs (constants_distinct f a.no6) F.constant_count (filled_constants f.constants read.constants_read); nodes = node_rust }

-- ---- the constants

-- calls that there are none of
abbrev no_step : StepInstance
no_step key k ws calls env = record { out = Err other_error; calls = calls }

abbrev no_value_of : CallValues
no_value_of k ws env = Err other_error

module _ (f : File) (distinct : Distinct (constant_names f)) (no_variant : (x : ℕ) → x ∈ constant_names f → ¬ (x ∈ variants f)) where
  abbrev shapes_c : List Constant → List (Option ℕ)
  shapes_c cs = map (λ c. length_in c.ty) cs

  abbrev slots : List Constant → List ℕ
  slots cs = concat (map constant_slots cs)

  -- constants evaluated so far
  module _ (done left : List Constant) (us : List Value) (env : Env) (split : f.constants ≡ done ++ left) (counted : length us ≡ length (concat (map constant_cells done)))
      (fill : All (λ c. Filled c.ty) done) (h : Has (map constant_name done) (values_of_constants done us) env) where
    parts : Distinct (map constant_name done) × Distinct (map constant_name left) × ((x : ℕ) → x ∈ map constant_name done → ¬ (x ∈ map constant_name left))
    parts = distinct_parts (map constant_name done) (map constant_name left) (subst Distinct (ap (map constant_name) split ∙ map-append constant_name done left) distinct)

    in_all : (x : ℕ) → x ∈ map constant_name done → x ∈ constant_names f
    in_all x m = subst (λ l. x ∈ l) (sym (ap (map constant_name) split ∙ map-append constant_name done left)) (in_left (map constant_name left) m)

    all_length : (x : ℕ) → x ∈ map constant_name done → length_for x (constant_arrays f.constants) ≡ length_for x (constant_arrays done)
    all_length x m =
        ap (λ l. length_for x (constant_arrays l)) split ∙ length_joined done left x ∙ ap (or_else (length_for x (constant_arrays done))) (no_length constant_name constant_ty left x (parts.2 x m)) ∙ or_nothing (length_for x (constant_arrays done))

    found : (x : ℕ) → x ∈ map constant_name done → (r : RValue) × (get x env ≡ some r) × (constant_is f (slots done) us x ≡ some r)
    found x m =
        let w = known_of done us x parts.0 counted fill m in
        (w.0, h x ∙ w.1, ap (λ o. held_in o x (slots done) us) (all_length x m) ∙ w.2)

    not_found : (x : ℕ) → ¬ (x ∈ map constant_name done) → get x env ≡ none
    not_found x n = h x ∙ lookup_out x (map constant_name done) (values_of_constants done us) n

    no_slot : (x : ℕ) → ¬ (x ∈ map constant_name done) → ¬ (x ∈ slots done)
    no_slot x n m = n (in_slotted constant_name constant_ty done x m)

    shared : Globally f (slots done) us env
    shared =
        record {
          consts = λ x m. let w = found x (in_slotted constant_name constant_ty done x m) in w.1 ∙ sym w.2;
          variants = λ x m. not_found x (λ k. no_variant x (in_all x k) m);
        }

    iterated_too : Globally f (slots done) us (constants_from_env f env)
    iterated_too =
        record {
          consts = λ x m. let k = in_slotted constant_name constant_ty done x m in let w = found x k in seen_constant f f.constants env x w.0 w.1 (in_all x k) ∙ sym w.2;
          variants = λ x m. absent f f.constants env x (shared.variants x m);
        }

    variant_is : (x : ℕ) → plain_or (cond (member x (concat f.enums)) (some (Val.Enum x)) none) ≡ enum_variant_value f x
    variant_is x = sym (plain_cond (member x (concat f.enums)) (Val.Enum x))

    abbrev G : Globals
    G = globals f (slots done) us

    present : (x : ℕ) → or_else (get x env) (enum_variant_value f x) ≡ name_is (length_named G no_variables x) (present_of G no_variables x) (cells_for f (slots done) us no_variables [] x)
    present x = by_cases (T-dec (member x (map constant_name done))) (λ t. yes (member_in x (map constant_name done) t)) (λ t. no (λ m. t (in_member x (map constant_name done) m)))
      where
        yes : x ∈ map constant_name done → or_else (get x env) (enum_variant_value f x) ≡ name_is (length_named G no_variables x) (present_of G no_variables x) (cells_for f (slots done) us no_variables [] x)
        yes m =
            let w = found x m in
            ap (λ o. or_else o (enum_variant_value f x)) w.1
            ∙ sym (name_or (length_for x (constant_arrays f.constants)) (lookup x (slots done) us) (variant_of G no_variables x) (cells_named x (slots done) us) w.0 w.2)

        no : ¬ (x ∈ map constant_name done) → or_else (get x env) (enum_variant_value f x) ≡ name_is (length_named G no_variables x) (present_of G no_variables x) (cells_for f (slots done) us no_variables [] x)
        no n =
            ap (λ o. or_else o (enum_variant_value f x)) (not_found x n)
            ∙ sym (ap₂ (λ v is. name_is (length_for x (constant_arrays f.constants)) (or_else v (variant_of G no_variables x)) (picked_some us is)) (lookup_out x (slots done) us (no_slot x n)) (positions_none 0 x (slots done) (no_slot x n)) ∙ rest_is)
          where
            rest_is : name_is (length_for x (constant_arrays f.constants)) (variant_of G no_variables x) none ≡ enum_variant_value f x
            rest_is =
                by_cases (T-dec (member x (concat f.enums)))
                (λ t. ap (λ o. name_is o (variant_of G no_variables x) none) (no_length constant_name constant_ty f.constants x (λ m. no_variant x m (member_in x (concat f.enums) t))) ∙ variant_is x)
                (λ t. ap (λ b. name_is (length_for x (constant_arrays f.constants)) (cond b (some (Val.Enum x)) none) none) (T_false (member x (concat f.enums)) t)
                ∙ go (length_for x (constant_arrays f.constants)) ∙ sym (ap (λ b. cond b (some (plain (Val.Enum x))) none) (T_false (member x (concat f.enums)) t)))
              where
                go : (o : Option ℕ) → name_is o none none ≡ none
                go none = refl
                go (some n) = refl

    -- one constant's expression
    constant_follows : (short : (x : ℕ) → T (member x (concat f.enums)) → x < 2 ^ 16) (fine : AllFine (concat f.enums) us) (c : Constant) (visible : List ℕ) → ConstantOk f c → Seen (λ x. T (member x visible)) c.value → Flat f.nodes [] (constant_arrays f.constants) c.value
        → NamesShaped G no_variables
        → Told (packed (shape_of f.nodes [] (constant_arrays f.constants) c.value)) (eval_cells G no_variables no_calls c.value []).out
        (Rust.eval f (step f) (call_values f) (length f.nodes) env default_state 0 c.value no_states).out
    constant_follows short fine c visible ok n l shaped =
        subst (λ (r : Res Given). Told (packed (shape_of f.nodes [] (constant_arrays f.constants) c.value)) (eval_cells G no_variables no_calls c.value []).out r.out)
        (sym (eval_same f 0 (step f) no_step (λ key k ws c env b. absurd (omega arith)) (call_values f) no_value_of (λ k ws env b. absurd (omega arith)) (length f.nodes) env default_state c.value 0 no_states
        (λ d m. absurd (ok.no_use d m))))
        (cells_follows f (slots done) us {S = λ x. T (member x visible)} {s = no_variables}
        (record { present = λ x t. present x; first = refl; before = λ x t q. let z : ◌≡◌ {A = ℕ} 0 1 = cc in absurd (omega arith); shared = shared; iterated = iterated_too })
        {p = any_record} {R = λ k r o. Unit {0}} {Q = Fine (concat f.enums)} {calls = no_calls} {step = no_step} {value = no_value_of}
        (record {
          steps = λ key k ws r states env t im fw rec i sh. record { out = told_err other_error; record_is = λ t. tt; others = λ other h. refl };
          iterates = λ k ws env t fw sh. errs other_error;
        })
        (record {
          closed = fine_closed (concat f.enums);
          variants = λ x t. (t, short x t);
          constants = fine;
          keeps = λ k ws r t fs q. record { seg = q; out = tt };
          iterates = λ k m t. (record { sized = sym (function_size f k m t); good = tt }, (iterated f k m t).2);
          counts = λ k ws r t. tt;
        })
        tt tt shaped (fine_single (concat f.enums)) nowhere c.value 0 0 [] no_states (lie_none (λ j. j) 0 (rust_calls_in 0 c.value) (callees_are c.value 0 ∙ ok.no_call)) ok.plain ok.allows n l
        (subst (λ l. Sites G any_record (λ k r o. Unit {0}) nowhere l 0 [] no_states) (sym ok.no_call) sites_none)).out
      where
        -- a constant stands in no node
        nowhere : Home
        nowhere = record { number = length f.nodes; addr = λ j. j; one = λ i j z. z }

  -- admission's evaluation of the constants ps, the first of them number i, and the Rust's
  abbrev ConstRel : ℕ → List (ℕ × Constant) → Constants → Consts → Type 0
  ConstRel i ps (all vs) (evaluated env) = Has (constant_names f) (values_of_constants f.constants vs) env × (length vs ≡ length (concat (map constant_cells f.constants)))
  ConstRel i ps (all vs) (stuck j) = ⊥
  ConstRel i ps (stuck_at p) (evaluated env) = ⊥
  ConstRel i ps (stuck_at p) (stuck j) = (m : ℕ) × (j ≡ i + m) × (p ≡ get_or (map (λ c. c.0) ps) m 0)

  rel_later : (i : ℕ) (c : ℕ × Constant) (ps : List (ℕ × Constant)) (a : Constants) (b : Consts) → ConstRel (suc i) ps a b → ConstRel i (c ∷ ps) a b
  rel_later i c ps (all vs) (evaluated env) h = h
  rel_later i c ps (all vs) (stuck j) h = h
  rel_later i c ps (stuck_at p) (evaluated env) h = h
  rel_later i c ps (stuck_at p) (stuck j) h = (suc h.0, h.1 ∙ omega arith, h.2)

  -- one value more
  pack_more : (done : List Constant) (c : Constant) (us ws : List Value) → length us ≡ length (concat (map constant_cells done)) → length ws ≡ length (constant_cells c)
      → values_of_constants (done ++ c ∷ []) (us ++ fit_all (constant_cells c) ws) ≡ values_of_constants done us ++ fit_to c.ty (pack_one (length_in c.ty) ws) ∷ []
  pack_more [] c [] ws l k =
      let size : length ws ≡ size_of (length_in c.ty) = k ∙ type_cells_lem c.ty in
      ap (λ ts. pack_all (length_in c.ty ∷ []) (fit_all ts ws)) (sym (append-nil (type_cells c.ty))) ∙ fit_split c.ty [] [] ws (omega (arith, size))
      ∙ ap (λ l. pack_one (length_in c.ty) (map (fit (elem_of c.ty)) l) ∷ []) (take_all (size_of (length_in c.ty)) ws (omega (arith, size)))
      ∙ ap (λ r. r ∷ []) (sym (fit_pack c.ty ws size))
  pack_more [] c (u ∷ us) ws l k = absurd (omega arith)
  pack_more (d ∷ done) c us ws l k =
      let o = length_in d.ty in
      let n = size_of o in
      let size : n ≤ length us = omega (arith, l, length-append (type_cells d.ty) (concat (map constant_cells done)), type_cells_lem d.ty) in
      let more : length (drop n us) ≡ length (concat (map constant_cells done)) = omega (arith, l, length-append (type_cells d.ty) (concat (map constant_cells done)), type_cells_lem d.ty, length-drop n us) in
      ap (λ l. pack_all (o ∷ shapes_c (done ++ c ∷ [])) (l ++ fit_all (constant_cells c) ws)) (sym (take-append-drop n us)) ∙ ap (pack_all (o ∷ shapes_c (done ++ c ∷ []))) (append_assoc (take n us) (drop n us) (fit_all (constant_cells c) ws))
      ∙ pack_join o (shapes_c (done ++ c ∷ [])) (take n us) (drop n us ++ fit_all (constant_cells c) ws) (length-take-le n us size)
      ∙ ap (λ l. pack_one o (take n us) ∷ l) (pack_more done c (drop n us) ws more k) ∙ ap (λ l. l ++ fit_to c.ty (pack_one (length_in c.ty) ws) ∷ []) (sym (head_pack o (shapes_c done) us))

  constants_follow : (short : (x : ℕ) → T (member x (concat f.enums)) → x < 2 ^ 16) (at i : ℕ) (cs done : List Constant) (visible : List ℕ) (us : List Value) (env : Env) → AllFine (concat f.enums) us → f.constants ≡ done ++ cs → Has (map constant_name done) (values_of_constants done us) env
      → length us ≡ length (concat (map constant_cells done)) → All (λ c. Filled c.ty) done → All (λ c. Filled c.ty) cs → All (λ c. ConstantOk f c.1) (placed constant_size at cs) → ConstantsSeen visible cs
      → All (λ c. Flat f.nodes [] (constant_arrays f.constants) c.1.value) (placed constant_size at cs)
      → ConstRel i (placed constant_size at cs) (constants_from f (slots done) us (placed constant_size at cs)) (eval_consts f i cs env)
  constants_follow short at i [] done visible us env fine e h l fd fc ok n w =
      let z : done ≡ f.constants = sym (e ∙ append-nil done) in
      (λ x. h x ∙ ap (λ a. lookup x (map constant_name a) (values_of_constants a us)) z, l ∙ ap (λ a. length (concat (map constant_cells a))) z)
  constants_follow short at i (c ∷ cs) done visible us env fine e h l fd fc ok n w =
      go _ _ (constant_follows done (c ∷ cs) us env e l fd h short fine c visible ok.0 n.0 w.0 (constants_shaped f us done (c ∷ cs) e distinct))
      (constant_values_lem f short distinct us done cs c e fine ok.0).0
      (subst (λ m. CountIs m (eval_cells (globals f (slots done) us) no_variables no_calls c.value []).out) ok.0.cells
      (cells_kept (globals f (slots done) us) no_variables no_calls (λ k ws r t. tt) (constants_shaped f us done (c ∷ cs) e distinct) c.value [] ok.0.allows))
      (λ ws such size.
      let more = pack_more done c us ws l size in
      let out : ¬ (c.name ∈ map constant_name done) = λ m. (distinct_parts (map constant_name done) (map constant_name (c ∷ cs)) (subst Distinct (ap (map constant_name) e ∙ map-append constant_name done (c ∷ cs)) distinct)).2 c.name m (here refl) in
      subst (λ xs. ConstRel (suc i) rest (constants_from f xs (us ++ fit_all (constant_cells c) ws) rest) (eval_consts f (suc i) cs (insert c.name (fit_to c.ty (pack_one (length_in c.ty) ws)) env))) (one_more constant_slots done c)
      (constants_follow short (at + constant_size c) (suc i) cs (done ++ c ∷ []) (c.name ∷ visible) (us ++ fit_all (constant_cells c) ws) (insert c.name (fit_to c.ty (pack_one (length_in c.ty) ws)) env)
      (all_join (Fine (concat f.enums)) us (fit_all (constant_cells c) ws) fine (all_fit_all (fine_closed (concat f.enums)) (constant_cells c) ws such)) (e ∙ sym (append_assoc done (c ∷ []) cs))
      (subst (λ rs. Has (map constant_name (done ++ c ∷ [])) rs (insert c.name (fit_to c.ty (pack_one (length_in c.ty) ws)) env)) (sym more)
      (subst (λ ns. Has ns (values_of_constants done us ++ fit_to c.ty (pack_one (length_in c.ty) ws) ∷ []) (insert c.name (fit_to c.ty (pack_one (length_in c.ty) ws)) env)) (sym (map-append constant_name done (c ∷ [])))
      (has_more (map constant_name done) (values_of_constants done us) env c.name _ (packs_length (shapes_c done) us ∙ length-map done _ ∙ sym (length-map done constant_name)) out h)))
      (length-append us (fit_all (constant_cells c) ws) ∙ omega (arith, l, length_fit_all (constant_cells c) ws size, ap length (one_more constant_cells done c), length-append (concat (map constant_cells done)) (constant_cells c)))
      (all_join (λ c. Filled c.ty) done (c ∷ []) fd (fc.0, tt)) fc.1 ok.1 n.1 w.1))
    where
      rest : List (ℕ × Constant)
      rest = placed constant_size (at + constant_size c) cs

      o : Option ℕ
      o = shape_of f.nodes [] (constant_arrays f.constants) c.value

      go : (out : Outcomes) (r : Result Given) → Told (packed o) out r → GivesAll (Fine (concat f.enums)) out → CountIs (length (constant_cells c)) out
          → ((ws : List Value) → All (Fine (concat f.enums)) ws → length ws ≡ length (constant_cells c) → ConstRel (suc i) rest (constants_from f (slots done ++ constant_slots c) (us ++ fit_all (constant_cells c) ws) rest)
          (eval_consts f (suc i) cs (insert c.name (fit_to c.ty (pack_one (length_in c.ty) ws)) env)))
          → ConstRel i ((at, c) ∷ rest) (after_constant at (λ ws. constants_from f (slots done ++ constant_slots c) (us ++ fit_all (constant_cells c) ws) rest) out)
          (const_on f i (λ v. eval_consts f (suc i) cs (insert c.name (fit_to c.ty v) env)) r)
      go _ _ (told ws) such k next =
          subst (λ o. ConstRel i ((at, c) ∷ rest) (constants_from f (slots done ++ constant_slots c) (us ++ fit_all (constant_cells c) ws) rest) (eval_consts f (suc i) cs (insert c.name (fit_to c.ty (pack_one o ws)) env))) (sym shape_is)
          (rel_later i (at, c) rest (constants_from f (slots done ++ constant_slots c) (us ++ fit_all (constant_cells c) ws) rest) (eval_consts f (suc i) cs (insert c.name (fit_to c.ty (pack_one (length_in c.ty) ws)) env)) (next ws such k))
        where
          shape_is : o ≡ length_in c.ty
          shape_is = ok.0.shape
      go _ _ (told_err d) such k next = (0, omega arith, refl)
      go _ _ told_panic such k next = (0, omega arith, refl)

-- in a file without 6, 7, 9, 10 and 22
pub constants_related : (f : File) → FileRead f → (no6 : fault6 f ≡ none) → fault7 f ≡ none → fault9 f ≡ none → fault10 f ≡ none → fault22 f ≡ none
    → ConstRel f (constants_distinct f no6) (constant_no_variant f no6) 0 (placed_constants f) (constants f) (all_consts f)
unfolding constants get
constants_related f read no6 no7 no9 no10 no22 =
    constants_follow f (constants_distinct f no6) (constant_no_variant f no6) (short_names f read) _ 0 f.constants [] (variants f) [] [] tt refl (λ x. refl) refl tt (filled_constants f.constants read.constants_read)
    (constants_ok f no9 no22 read.constants_read) (constants_seen f no7) (constants_flat f no9 no10 no22 read.constants_read)

pub consts_of : (ld : Loader) (s : List ℕ) (f : File) (vs : List Value) (read : FileRead f) (a : Admits ld s f vs)
    → (env : Env) × (all_consts f ≡ evaluated env) × Has (constant_names f) (values_of_constants f.constants vs) env
consts_of ld s f vs read a =
    go (all_consts f) refl (subst (λ c. ConstRel f (constants_distinct f a.no6) (constant_no_variant f a.no6) 0 (placed_constants f) c (all_consts f)) a.no12 (constants_related f read a.no6 a.no7 a.no9 a.no10 a.no22))
  where
    go : (c : Consts) → all_consts f ≡ c → ConstRel f (constants_distinct f a.no6) (constant_no_variant f a.no6) 0 (placed_constants f) (all vs) c
        → (env : Env) × (all_consts f ≡ evaluated env) × Has (constant_names f) (values_of_constants f.constants vs) env
    go (evaluated env) e h = (env, e, h.0)
    go (stuck j) e h = absurd h

-- the cells of the constants' values
constant_cells_back : (cs : List Constant) (us : List Value) → length us ≡ length (concat (map constant_cells cs)) → all_cells (values_of_constants cs us) ≡ us
constant_cells_back [] [] e = refl
constant_cells_back [] (c ∷ cs) e = absurd (omega arith)
constant_cells_back (x ∷ xs) cs e =
    let o = length_in x.ty in
    let k = size_of o in
    let size : k ≤ length cs = omega (arith, e, length-append (type_cells x.ty) (concat (map constant_cells xs)), type_cells_lem x.ty) in
    let more : length (drop k cs) ≡ length (concat (map constant_cells xs)) = omega (arith, e, length-append (type_cells x.ty) (concat (map constant_cells xs)), type_cells_lem x.ty, length-drop k cs) in
    ap all_cells (head_pack o (map (λ c. length_in c.ty) xs) cs) ∙ ap₂ {C = List Value} (λ a b. a ++ b) (one_back o (take k cs) (length-take-le k cs size)) (constant_cells_back xs (drop k cs) more) ∙ take-append-drop k cs

pub constants_in_lem : (f : File) (vs : List Value) (env : Env) → Distinct (constant_names f) → length vs ≡ length (concat (map constant_cells f.constants)) → Has (constant_names f) (values_of_constants f.constants vs) env
    → constants_in f env ≡ vs
constants_in_lem f vs env d l h =
    ap all_cells (constants_read_lem f f.constants (values_of_constants f.constants vs) env (packs_length (map (λ c. length_in c.ty) f.constants) vs ∙ length-map f.constants _) d (λ y m. h y))
    ∙ constant_cells_back f.constants vs l

-- ---- 12 is the Rust's

pub constants_as_rust : (ld : Loader) → ConstantsAsRust ld
unfolding ConstantsAsRust judge
constants_as_rust ld s f bytes u = (same_constants, λ no11 p. (to no11 p, λ w. refused_12 w.0 no11 (same_constants ∙ ap (constants_by f) w.1) ∙ ap (λ x. Err (fault_at 12 x)) (sym w.2)))
  where
    told_so : (a : Constants) (b : Consts) → ConstRel f (constants_distinct f u.no6) (constant_no_variant f u.no6) 0 (placed_constants f) a b → a ≡ constants_by f b
    told_so (all vs) (evaluated env) h = ap all (sym (constants_in_lem f vs env (constants_distinct f u.no6) h.1 h.0))
    told_so (all vs) (stuck j) h = absurd h
    told_so (stuck_at p) (evaluated env) h = absurd h
    told_so (stuck_at p) (stuck j) h = ap stuck_at (h.2 ∙ ap (λ m. get_or (map (λ c. c.0) (placed_constants f)) m 0) (let z : h.0 ≡ j = omega (arith, h.1) in z))

    same_constants : constants f ≡ constants_by f (all_consts f)
    same_constants = told_so _ _ (constants_related f (file_read s bytes ld f u.end u.read) u.no6 u.no7 u.no9 u.no10 u.no22)

    rest : List (ℕ × Option ℕ)
    rest = (13, fault13 ld f) ∷ (14, fault14 f) ∷ []

    from12 : Constants → Judged
    from12 c = refuse_at 12 (stuck_place c) (refuse_first rest (admitted f (constant_values c)))

    judged : fault11 f ≡ none → judge ld s ≡ from12 (constants f)
    judged no11 = rw (u.read, u.no6, u.no7, u.no8, u.no9, u.no10, u.no22, no11) refl

    refused_12 : (i : ℕ) → fault11 f ≡ none → constants f ≡ stuck_at (constant_place f i) → admission ld s ≡ Err (fault_at 12 (constant_place f i))
    refused_12 i no11 q = ap verdict (judged no11 ∙ ap from12 q)

    later : (p : ℕ) (vs : List Value) → refuse_first rest (admitted f vs) ≡ refused 12 p → ⊥
    later p vs e =
        let a13 = refuse_other 13 12 p (fault13 ld f) _ (λ z. omega arith) e in
        let a14 = refuse_other 14 12 p (fault14 f) _ (λ z. omega arith) a13.1 in
        let b = a14.1 in
        let z : ◌≡◌ {A = ℕ} 0 1 = cc in
        omega arith

    by : (p : ℕ) (c : Consts) → from12 (constants_by f c) ≡ refused 12 p → (i : ℕ) × (c ≡ stuck i) × (p ≡ constant_place f i)
    by p (evaluated env) e = absurd (later p (constants_in f env) e)
    by p (stuck i) e = let z : p ≡ constant_place f i = cc in (i, refl, z)

    to : fault11 f ≡ none → (p : ℕ) → admission ld s ≡ Err (fault_at 12 p) → (i : ℕ) × (all_consts f ≡ stuck i) × (p ≡ constant_place f i)
    to no11 p e = by p (all_consts f) (ap from12 (sym same_constants) ∙ sym (judged no11) ∙ same_fault 12 p (judge ld s) e)
