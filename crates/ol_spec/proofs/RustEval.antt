-- Evaluation over bytes does what the Rust's does: outcomes that tell the same, and segments that hold what the call states hold. What holds of one record is a parameter.
use Prim.Native.Nat.{ℕ, zero, suc, ◌+◌, ◌<◌, ◌≤◌}
use mathlib.Core.Bool.{Bool, true, false, cond}
use mathlib.Core.List.{List, [], ◌∷◌, ◌++◌, map, append_assoc}
use mathlib.Core.Logic.{◌⊎◌, inl, inr, ⊎_elim}
use mathlib.Core.Option.{Option, none, some}
use mathlib.Core.Path.{◌≡◌, refl, sym, ap, ap₂, subst, ◌∙◌}
use native.Mathlib.Omega.{arith}
use lib.ListN.{length, take, drop, get_or, take-append-drop, length-map, length-append}
use lib.Seq.{drop-drop, take-add, drop_at, take_at, take_all}
use lib.Dec.{T, eqb}
use Rattle.ol_theory.specs.Member.{◌∈◌}
use Rattle.ol_spec.specs.Lists.{maybe, or_else, is_some, sum, concat, member, lookup, all_of}
use Rattle.ol_spec.specs.Syntax.{Variable, length_in, type_cells, cell_types, Node, no_node, File, NodeKind, Function, Operator, Imported, Expr, bool_lit, int_lit, float_lit, char_lit, var, unary, binary, if_then_else, pre, arrow, cast, call, tuple, index, literal, map_over, fold_over, Exprs, nil}
use Rattle.ol_spec.specs.Syntax.{cons, count, name_in, Rhs, items, outputs_of, one, rhs_of}
use Rattle.ol_spec.specs.Shapes.{Sized, shape, output_shape, length_for, constant_arrays}
use Rattle.ol_spec.specs.Types.{cast_to}
use Rattle.ol_spec.specs.Operators.{unary_of, binary_of}
use Rattle.ol_spec.specs.Eval.{Globals, Scope, Calls, Results, Evaluated, Eval, Evals, Outcomes, values, failure, overflow, Branch, Branches, callees, callees_all, not_real, kind_of_value, first_type, arithmetic, join, is_double?, node_at, record_size, seg_size, sites_size, eval, eval_array, eval_each, eval_all, eval_cells, eval_rhs, next, next_on, next_all, next_all_on, next_cells, next_cells_on, then_cells, cells_by, arrays_or, length_named, cells_named, cells_of, pre_cells, or_failures, condition, choose, branches_on, untaken, drop_failure, common_real, enter, enter_on, single, single_eval, several, several_eval, cons_out, or_failure, then_out, map_eval, then_results, flatten, elements_at, no_value_of, map_next, map_from, fold_from, applied, map_all, fold_all, compare_cells, index_of, present_of, before_of, pre_of, real_kind}
use Rattle.ol_spec.specs.Step.{globals}
use Rattle.ol_spec.specs.RustSim.{width, Env, get, Key, State, States, get_state, prev, RValue, plain, Array, Given, just, Tuple, SimError, uninitialized_pre, other_error, Result, Ok, Err, Panic, ok_or, value_in, tuple_unless_one, pushed, push_picked, discard, rust_common_real, Res, then_on, then_res, push_on, push, if_bool, first_tick, step_untaken, take_branch, StepInstance, CallValues, if_function, if_equal, equal_lengths, elements, push_element, map_loop, fold_on, fold_loop, fold_arrays, ok_array, enum_variant_value, first_kind, rust_real_kind, pre_value, eval_call, call_arity, call_kind, constants_from_env}
use Rattle.ol_spec.specs.RustSim as Rust
use Rattle.ol_spec.specs.RustState.{rust_calls_in, calls_all}
use Rattle.ol_spec.specs.RustLeaves.{eval_unary, eval_binary, index_value, cast_value, join_kinds, of_value, is_double, widen_beside, unary_value, eval_values, cast_plain, plain_in, array_in}
use Rattle.ol_spec.specs.declared.Value.{Value}
use Rattle.ol_spec.specs.declared.Value.TheVariants as Val
use Rattle.ol_spec.specs.declared.Cause.TheVariants as Why
use Rattle.ol_spec.specs.declared.Outcome.{Outcome}
use Rattle.ol_spec.specs.declared.Outcome.TheVariants as Out
use Rattle.ol_spec.proofs.RustLeaves.{Single, cause_of, Tells, gives, errs, panics, tells_in, unary_is, binary_is, cast_is, join_is, type_is, value_is, double_is, arithmetic_is, widen_is, call_is as calling_is, compare_is, index_is, scalar_index, scalar_is}
use Rattle.ol_spec.proofs.RustPlaces.{Home, key_at, same_site, Lie, lie_next}
use Rattle.ol_spec.proofs.Tests.{T_true, and_t, eq_eqb}
use Rattle.ol_spec.proofs.Lists.{All}
use Rattle.ol_spec.proofs.Rights.{by_right}
use Rattle.ol_spec.proofs.Values.{Gives, cond_t}
use Rattle.ol_spec.proofs.Forms.{Plain, PlainAll, Allowed, AllowedAll, cells_in, cell_counts, cells_all, may_be, may_iterate}
use Rattle.ol_spec.proofs.Slots.{type_cells_lem}
use Rattle.ol_spec.proofs.Counts.{CountIs, EachIs, NamesShaped, concat_length, each_kept, cells_kept, rhs_count}
use Rattle.ol_spec.proofs.Segments.{Rec, Good, none_good, head_good, cons_good, Sound, GivesOf, each_meet, eval_meets, applied_q, nil_good, all_concat, elements_length, elements_q}

-- ---- values and cells

-- the value of these cells, a scalar's one or an array's
abbrev pub pack_one : Option ℕ → List Value → RValue
pack_one none vs = plain (get_or vs 0 no_value_of)
pack_one (some n) vs = Array vs

-- those of each expression's cells
abbrev pub pack_each : List (Option ℕ) → List (List Value) → List RValue
pack_each [] vss = []
pack_each (o ∷ os) [] = []
pack_each (o ∷ os) (vs ∷ vss) = pack_one o vs ∷ pack_each os vss

-- and where the cells follow one another
abbrev pub pack_all : List (Option ℕ) → List Value → List RValue
pack_all [] ws = []
pack_all (none ∷ os) ws = plain (get_or ws 0 no_value_of) ∷ pack_all os (drop 1 ws)
pack_all (some n ∷ os) ws = Array (take n ws) ∷ pack_all os (drop n ws)

abbrev pub size_of : Option ℕ → ℕ
size_of o = maybe 1 (λ n. n) o

one_cell : (vs : List Value) → length vs ≡ 1 → (v : Value) × (vs ≡ v ∷ [])
one_cell [] e = absurd (omega arith)
one_cell (v ∷ []) e = (v, refl)
one_cell (v ∷ w ∷ vs) e = absurd (omega arith)

pub pack_flat : (os : List (Option ℕ)) (vss : List (List Value)) → map length vss ≡ map size_of os → pack_all os (concat vss) ≡ pack_each os vss
pack_flat [] vss e = refl
pack_flat (o ∷ os) [] e = let z : ◌≡◌ {A = ℕ} 0 1 = cc in absurd (omega arith)
pack_flat (none ∷ os) (vs ∷ vss) e =
    let l : length vs ≡ 1 = cc in
    let r : map length vss ≡ map size_of os = cc in
    let w = one_cell vs l in
    ap (λ us. pack_all (none ∷ os) (us ++ concat vss)) w.1 ∙ ap (λ rs. plain w.0 ∷ rs) (pack_flat os vss r) ∙ sym (ap (λ us. plain (get_or us 0 no_value_of) ∷ pack_each os vss) w.1)
pack_flat (some n ∷ os) (vs ∷ vss) e =
    let l : length vs ≡ n = cc in
    let r : map length vss ≡ map size_of os = cc in
    ap₂ {C = List RValue} (λ a b. Array a ∷ pack_all os b) (take_at vs (concat vss) n l) (drop_at vs (concat vss) n l) ∙ ap (λ rs. Array vs ∷ rs) (pack_flat os vss r)

abbrev pub first_cell : List Value → Value
first_cell vs = get_or vs 0 no_value_of

pub pack_length : (os : List (Option ℕ)) (vss : List (List Value)) → map length vss ≡ map size_of os → length (pack_each os vss) ≡ length os
pack_length [] vss e = refl
pack_length (o ∷ os) [] e = let z : ◌≡◌ {A = ℕ} 0 1 = cc in absurd (omega arith)
pack_length (o ∷ os) (vs ∷ vss) e = let r : map length vss ≡ map size_of os = cc in ap suc (pack_length os vss r)

tuple_many : (rs : List RValue) → 2 ≤ length rs → tuple_unless_one rs ≡ Tuple rs
tuple_many [] h = absurd (omega arith)
tuple_many (r ∷ []) h = absurd (omega arith)
tuple_many (r ∷ q ∷ rs) h = refl

some_of : (o : Option ℕ) → is_some o ≡ true → (n : ℕ) × (o ≡ some n)
some_of none e = let z : ◌≡◌ {A = ℕ} 0 1 = cc in absurd (omega arith)
some_of (some n) e = (n, refl)

none_of : (o : Option ℕ) → is_some o ≡ false → o ≡ none
none_of none e = refl
none_of (some n) e = let z : ◌≡◌ {A = ℕ} 0 1 = cc in absurd (omega arith)

-- a call's one output
one_output : (vs : List Variable) (o : Option ℕ) → length vs ≡ 1 → output_shape vs ≡ o → (map (λ v. length_in v.ty) vs ≡ o ∷ []) × (length (cell_types vs) ≡ size_of o)
one_output [] o l e = absurd (omega arith)
one_output (v ∷ []) o l e = (ap (λ x. x ∷ []) e, length-append (type_cells v.ty) [] ∙ omega (arith, type_cells_lem v.ty ∙ ap size_of e))
one_output (v ∷ w ∷ vs) o l e = absurd (omega arith)

-- what an evaluation over bytes and the Rust's give: `F` says which value of the Rust these are
pub data Told {A B : Type 0} (F : A → B) : Results A → Result B → Type 0 where
  told : (a : A) → Told F (values a) (Ok (F a))
  told_err : (e : SimError) → Told F (failure (cause_of e)) (Err e)
  told_panic : Told F overflow Panic

-- an array's cells, those of one expression, and of a right side or a call
abbrev pub arrayed : List Value → Given
arrayed vs = just (Array vs)

abbrev pub packed : Option ℕ → List Value → Given
packed o vs = just (pack_one o vs)

abbrev pub bundled : List (Option ℕ) → List Value → Given
bundled os ws = tuple_unless_one (pack_all os ws)

-- ---- the results after which the Rust goes on, all but a panic

abbrev pub Going : {A : Type 0} → Result A → Type 0
Going (Ok v) = Unit {0}
Going (Err e) = Unit {0}
Going Panic = ⊥

-- a key that is none of an Operator's among these call sites of node number N
module _ (g : Globals) (N : Home) where
  abbrev pub Outside : List ℕ → ℕ → Key → Type 0
  Outside [] j key = Unit {0}
  Outside (k ∷ ks) j key = ((node_at g k).kind ≡ Operator → ¬ (key ≡ (key_at N j))) × Outside ks (suc j) key

  -- the states of such keys stay
  pub record Frame (ks : List ℕ) (j : ℕ) (calls calls' : States) : Type 0 where
    pub same : (key : Key) → Outside ks j key → get_state key calls' ≡ get_state key calls

  pub outside_ge : (ks : List ℕ) (j m : ℕ) → j + length ks ≤ m → Outside ks j (key_at N m)
  outside_ge [] j m h = tt
  outside_ge (k ∷ ks) j m h = (λ o e. let z : m ≡ j = same_site N m j e in absurd (omega arith), outside_ge ks (suc j) m (omega arith))

  pub outside_lt : (ks : List ℕ) (j m : ℕ) → m < j → Outside ks j (key_at N m)
  outside_lt [] j m h = tt
  outside_lt (k ∷ ks) j m h = (λ o e. let z : m ≡ j = same_site N m j e in absurd (omega arith), outside_lt ks (suc j) m (omega arith))

  pub outside_parts : (a b : List ℕ) (j : ℕ) (key : Key) → Outside (a ++ b) j key → Outside a j key × Outside b (j + length a) key
  outside_parts [] b j key h = (tt, subst (λ m. Outside b m key) (omega arith) h)
  outside_parts (k ∷ a) b j key h =
      let w = outside_parts a b (suc j) key h.1 in
      ((h.0, w.0), subst (λ m. Outside b m key) (omega arith) w.1)

  pub wider : (a b : List ℕ) (j : ℕ) (calls calls' : States) → Frame a j calls calls' → Frame (a ++ b) j calls calls'
  wider a b j calls calls' f = record { same = λ key o. f.same key (outside_parts a b j key o).0 }

-- ---- the records of call sites and the states by key: `R` is what holds of a record and the state at its key, `N` the number of the node whose call sites these are

module _ (g : Globals) (p : ℕ → List ℕ → Bool) (R : ℕ → List ℕ → Option State → Type 0) (N : Home) where
  abbrev pub Each : List ℕ → ℕ → List ℕ → States → Type 0
  Each [] j s calls = Unit {0}
  Each (k ∷ ks) j s calls = R k (take (record_size g k) s) (get_state (key_at N j) calls) × Each ks (suc j) (drop (record_size g k) s) calls

  pub record Sites (ks : List ℕ) (j : ℕ) (s : List ℕ) (calls : States) : Type 0 where
    pub good : Good g p ks s
    pub each : Each ks j s calls

  each_keep : (ks : List ℕ) (j : ℕ) (s : List ℕ) (calls calls' : States) → ((m : ℕ) → j ≤ m → m < j + length ks → get_state (key_at N m) calls' ≡ get_state (key_at N m) calls)
      → Each ks j s calls → Each ks j s calls'
  each_keep [] j s calls calls' h e = tt
  each_keep (k ∷ ks) j s calls calls' h e = (
    subst (R k (take (record_size g k) s)) (sym (h j (omega arith) (omega arith))) e.0,
    each_keep ks (suc j) _ calls calls' (λ m a b. h m (omega arith) (omega arith)) e.1,
  )

  -- an evaluation over bytes, by its outcome and its segment, and the Rust's
  pub record Follows {A B : Type 0} (rel : A → Result B → Type 0) (ks : List ℕ) (j : ℕ) (calls : States) (o : A) (s : List ℕ) (r : Res B) : Type 0 where
    pub out : rel o r.out
    pub sites : Going r.out → Sites ks j s r.calls
    pub frame : Frame g N ks j calls r.calls

  -- the taken branch's call sites and the other's
  record Both (ks : List ℕ) (j : ℕ) (ks' : List ℕ) (j' : ℕ) (calls : States) (b : Branches) (r : Res Given) : Type 0 where
    out : Tells b.out r.out
    taken : Going r.out → Sites ks j b.taken r.calls
    other : Going r.out → Sites ks' j' b.other r.calls
    frame : (key : Key) → Outside g N ks j key → Outside g N ks' j' key → get_state key r.calls ≡ get_state key calls

anything : (o : Outcome) → Gives (λ v. Unit {0}) o
anything (Out.Value v) = tt
anything (Out.Failure c) = tt
anything Out.Overflow = tt

module _ {g : Globals} {p : ℕ → List ℕ → Bool} {R : ℕ → List ℕ → Option State → Type 0} {N : Home} where
  pub keep : {ks : List ℕ} {j : ℕ} {s : List ℕ} {calls calls' : States} → ((m : ℕ) → j ≤ m → m < j + length ks → get_state (key_at N m) calls' ≡ get_state (key_at N m) calls)
      → Sites g p R N ks j s calls → Sites g p R N ks j s calls'
  keep {ks} {j} {s} {calls} {calls'} h e = record { good = e.good; each = each_keep g p R N ks j s calls calls' h e.each }

  -- where other call sites were evaluated: those before, and those behind
  pub keep_behind : {a b : List ℕ} {i j : ℕ} {s : List ℕ} {calls calls' : States} → i + length a ≤ j → Frame g N a i calls calls'
      → Sites g p R N b j s calls → Sites g p R N b j s calls'
  keep_behind {a} {b} {i} {j} h f = keep (λ m l u. f.same (key_at N m) (outside_ge g N a i m (omega arith)))

  pub keep_before : {a b : List ℕ} {i j : ℕ} {s : List ℕ} {calls calls' : States} → i + length a ≤ j → Frame g N b j calls calls'
      → Sites g p R N a i s calls → Sites g p R N a i s calls'
  keep_before {a} {b} {i} {j} h f = keep (λ m l u. f.same (key_at N m) (outside_lt g N b j m (omega arith)))

  pub sites_none : {j : ℕ} {calls : States} → Sites g p R N [] j [] calls
  sites_none = record { good = none_good; each = tt }

  pub sites_head : {k : ℕ} {ks s : List ℕ} {j : ℕ} {calls : States} → Sites g p R N (k ∷ ks) j s calls
      → Rec g p k (take (record_size g k) s) × R k (take (record_size g k) s) (get_state (key_at N j) calls) × Sites g p R N ks (suc j) (drop (record_size g k) s) calls
  sites_head h = let w = head_good h.good in (w.0, h.each.0, record { good = w.1; each = h.each.1 })

  pub sites_cons : {k : ℕ} {ks r s : List ℕ} {j : ℕ} {calls : States} → Rec g p k r → R k r (get_state (key_at N j) calls) → Sites g p R N ks (suc j) s calls
      → Sites g p R N (k ∷ ks) j (r ++ s) calls
  sites_cons {k} {ks} {r} {s} {j} {calls} a q b =
      record {
        good = cons_good a b.good;
        each = (
          subst (λ l. R k l (get_state (key_at N j) calls)) (sym (take_at r s (record_size g k) a.sized)) q,
          subst (λ l. Each g p R N ks (suc j) l calls) (sym (drop_at r s (record_size g k) a.sized)) b.each,
        );
      }

  pub sites_parts : (a : List ℕ) {b s : List ℕ} {j : ℕ} {calls : States} → Sites g p R N (a ++ b) j s calls
      → Sites g p R N a j (take (sites_size g.sizes a) s) calls × Sites g p R N b (j + length a) (drop (sites_size g.sizes a) s) calls
  unfolding sites_size
  sites_parts [] {b} {s} {j} {calls} h = (sites_none, subst (λ m. Sites g p R N b m s calls) (omega arith) h)
  sites_parts (k ∷ a) {b} {s} {j} {calls} h =
      let w = sites_head h in
      let z = record_size g k in
      let v = sites_parts a w.2 in (
        subst (λ l. Sites g p R N (k ∷ a) j l calls) (sym (take-add z (sites_size g.sizes a) s)) (sites_cons w.0 w.1 v.0),
        subst (λ l. Sites g p R N b (j + length (k ∷ a)) l calls) (drop-drop (sites_size g.sizes a) z s)
            (subst (λ m. Sites g p R N b m (drop (sites_size g.sizes a) (drop z s)) calls) (omega arith) v.1),
      )

  pub sites_joined : (a : List ℕ) {b s t : List ℕ} {j : ℕ} {calls : States} → Sites g p R N a j s calls → Sites g p R N b (j + length a) t calls
      → Sites g p R N (a ++ b) j (s ++ t) calls
  sites_joined [] {b} {s} {t} {j} {calls} h m =
      subst (λ l. Sites g p R N b j (l ++ t) calls) (sym (nil_good h.good)) (subst (λ i. Sites g p R N b i t calls) (omega arith) m)
  sites_joined (k ∷ a) {b} {s} {t} {j} {calls} h m =
      let w = sites_head h in
      let z = record_size g k in
      subst (λ l. Sites g p R N (k ∷ (a ++ b)) j l calls) (sym (append_assoc (take z s) (drop z s) t) ∙ ap (λ l. l ++ t) (take-append-drop z s))
      (sites_cons w.0 w.1 (sites_joined a w.2 (subst (λ i. Sites g p R N b i t calls) (omega arith) m)))

  -- ---- results one after the other

  -- an evaluation that stays where it is
  pub stays : {A B : Type 0} {rel : A → Result B → Type 0} {ks : List ℕ} {j : ℕ} {calls : States} {o : A} {s : List ℕ} {x : Result B} → rel o x → Sites g p R N ks j s calls
      → Follows g p R N rel ks j calls o s (record { out = x; calls = calls })
  stays t h = record { out = t; sites = λ u. h; frame = record { same = λ key o. refl } }

  -- the first was evaluated, the second follows
  then_second : {A B : Type 0} {rel : A → Result B → Type 0} (a b : List ℕ) (j : ℕ) (calls c : States) (o : A) (s t : List ℕ) (r : Res B) → Frame g N a j calls c → Sites g p R N a j s c
      → Follows g p R N rel b (j + length a) c o t r → Follows g p R N rel (a ++ b) j calls o (s ++ t) r
  then_second a b j calls c o s t r f x w =
      record {
        out = w.out;
        sites = λ u. sites_joined a (keep_before (omega arith) w.frame x) (w.sites u);
        frame = record { same = λ key o. let q = outside_parts g N a b j key o in w.frame.same key q.1 ∙ f.same key q.0 };
      }

  next_such : (a b : List ℕ) (j : ℕ) (calls : States) (x : Eval) (y : Res Given) (k : Value → List ℕ → Eval) (k' : Given → States → Res Given) (rest : List ℕ)
      → Follows g p R N Tells a j calls x.out x.seg y → (Q : Value → Type 0) → Gives Q x.out → Sites g p R N b (j + length a) rest calls
      → ((v : Value) → Q v → (c : States) → Sites g p R N b (j + length a) rest c → Follows g p R N Tells b (j + length a) c (k v rest).out (k v rest).seg (k' (just (plain v)) c))
      → Follows g p R N Tells (a ++ b) j calls (next x k rest).out (next x k rest).seg (then_res y k')
  unfolding next then_res
  next_such a b j calls x y k k' rest h Q given q f = go x.out y.out h.out given h.sites
    where
      later : Sites g p R N b (j + length a) rest y.calls
      later = keep_behind (omega arith) h.frame q

      go : (o : Outcome) (r : Result Given) → Tells o r → Gives Q o → (Going r → Sites g p R N a j x.seg y.calls)
          → Follows g p R N Tells (a ++ b) j calls (next_on o x.seg k rest).out (next_on o x.seg k rest).seg (then_on r y.calls k')
      go _ _ (gives v) m s = then_second a b j calls y.calls _ x.seg _ _ h.frame (s tt) (f v m y.calls later)
      go _ _ (errs e) m s = record { out = errs e; sites = λ t. sites_joined a (s tt) later; frame = wider g N a b j _ _ h.frame }
      go _ _ panics m s = record { out = panics; sites = λ t. absurd t; frame = wider g N a b j _ _ h.frame }

  next_follows : (a b : List ℕ) (j : ℕ) (calls : States) (x : Eval) (y : Res Given) (k : Value → List ℕ → Eval) (k' : Given → States → Res Given) (rest : List ℕ)
      → Follows g p R N Tells a j calls x.out x.seg y → Sites g p R N b (j + length a) rest calls
      → ((v : Value) (c : States) → Sites g p R N b (j + length a) rest c → Follows g p R N Tells b (j + length a) c (k v rest).out (k v rest).seg (k' (just (plain v)) c))
      → Follows g p R N Tells (a ++ b) j calls (next x k rest).out (next x k rest).seg (then_res y k')
  next_follows a b j calls x y k k' rest h q f = next_such a b j calls x y k k' rest h (λ v. Unit {0}) (anything x.out) q (λ v m c u. f v c u)

  -- the cells of an array or of a scalar, then a scalar
  next_cells_follows : (F : List Value → Given) (a b : List ℕ) (j : ℕ) (calls : States) (x : Evals) (y : Res Given) (k : List Value → List ℕ → Eval) (k' : Given → States → Res Given) (rest : List ℕ)
      → Follows g p R N (Told F) a j calls x.out x.seg y → Sites g p R N b (j + length a) rest calls
      → ((vs : List Value) (c : States) → Sites g p R N b (j + length a) rest c → Follows g p R N Tells b (j + length a) c (k vs rest).out (k vs rest).seg (k' (F vs) c))
      → Follows g p R N Tells (a ++ b) j calls (next_cells x k rest).out (next_cells x k rest).seg (then_res y k')
  unfolding next_cells then_res
  next_cells_follows F a b j calls x y k k' rest h q f = go x.out y.out h.out h.sites
    where
      later : Sites g p R N b (j + length a) rest y.calls
      later = keep_behind (omega arith) h.frame q

      go : (o : Outcomes) (r : Result Given) → Told F o r → (Going r → Sites g p R N a j x.seg y.calls)
          → Follows g p R N Tells (a ++ b) j calls (next_cells_on o x.seg k rest).out (next_cells_on o x.seg k rest).seg (then_on r y.calls k')
      go _ _ (told vs) s = then_second a b j calls y.calls _ x.seg _ _ h.frame (s tt) (f vs y.calls later)
      go _ _ (told_err e) s = record { out = errs e; sites = λ t. sites_joined a (s tt) later; frame = wider g N a b j _ _ h.frame }
      go _ _ told_panic s = record { out = panics; sites = λ t. absurd t; frame = wider g N a b j _ _ h.frame }

  -- a leaf on one operand
  map_such : (a : List ℕ) (j : ℕ) (calls : States) (x : Eval) (y : Res Given) (k : Value → Outcome) (k' : Given → Result Given) (Q : Value → Type 0) → ((v : Value) → Q v → Tells (k v) (k' (just (plain v))))
      → Gives Q x.out → Follows g p R N Tells a j calls x.out x.seg y → Follows g p R N Tells a j calls (then_out k x.out) x.seg (then_res y (λ v c. record { out = k' v; calls = c }))
  unfolding then_res
  map_such a j calls x y k k' Q e given h = go x.out y.out h.out given h.sites
    where
      go : (o : Outcome) (r : Result Given) → Tells o r → Gives Q o → (Going r → Sites g p R N a j x.seg y.calls)
          → Follows g p R N Tells a j calls (then_out k o) x.seg (then_on r y.calls (λ v c. record { out = k' v; calls = c }))
      go _ _ (gives v) m s = record { out = e v m; sites = λ t. s tt; frame = h.frame }
      go _ _ (errs e) m s = record { out = errs e; sites = λ t. s tt; frame = h.frame }
      go _ _ panics m s = record { out = panics; sites = λ t. absurd t; frame = h.frame }

  map_follows : (a : List ℕ) (j : ℕ) (calls : States) (x : Eval) (y : Res Given) (k : Value → Outcome) (k' : Given → Result Given) → ((v : Value) → Tells (k v) (k' (just (plain v))))
      → Follows g p R N Tells a j calls x.out x.seg y → Follows g p R N Tells a j calls (then_out k x.out) x.seg (then_res y (λ v c. record { out = k' v; calls = c }))
  map_follows a j calls x y k k' e h = map_such a j calls x y k k' (λ v. Unit {0}) (λ v m. e v) (anything x.out) h

  cells_follow : (F : List Value → Given) (a : List ℕ) (j : ℕ) (calls : States) (x : Evals) (y : Res Given) (k : List Value → Outcome) (k' : Given → Result Given)
      → ((vs : List Value) → Tells (k vs) (k' (F vs))) → Follows g p R N (Told F) a j calls x.out x.seg y
      → Follows g p R N Tells a j calls (then_cells k x.out) x.seg (then_res y (λ v c. record { out = k' v; calls = c }))
  unfolding then_res
  cells_follow F a j calls x y k k' e h = go x.out y.out h.out h.sites
    where
      go : (o : Outcomes) (r : Result Given) → Told F o r → (Going r → Sites g p R N a j x.seg y.calls)
          → Follows g p R N Tells a j calls (then_cells k o) x.seg (then_on r y.calls (λ v c. record { out = k' v; calls = c }))
      go _ _ (told vs) s = record { out = e vs; sites = λ t. s tt; frame = h.frame }
      go _ _ (told_err e) s = record { out = errs e; sites = λ t. s tt; frame = h.frame }
      go _ _ told_panic s = record { out = panics; sites = λ t. absurd t; frame = h.frame }

  -- an expression's cells, then those of the others: `pick` takes the value that the Rust pushes
  push_follows : {A : Type 0} (pick : Given → Option A) (F : List Value → Given) (G : List Value → A) (H K : List (List Value) → List A) → ((vs : List Value) → pick (F vs) ≡ some (G vs))
      → ((vs : List Value) (vss : List (List Value)) → H (vs ∷ vss) ≡ G vs ∷ K vss)
      → (a b : List ℕ) (j : ℕ) (calls : States) (x : Evals) (y : Res Given) (k : List ℕ → Evaluated (List (List Value))) (k' : States → Res (List A)) (rest : List ℕ)
      → Follows g p R N (Told F) a j calls x.out x.seg y → Sites g p R N b (j + length a) rest calls
      → ((c : States) → Sites g p R N b (j + length a) rest c → Follows g p R N (Told K) b (j + length a) c (k rest).out (k rest).seg (k' c))
      → Follows g p R N (Told H) (a ++ b) j calls (next_all x k rest).out (next_all x k rest).seg (push pick y k')
  unfolding next_all push
  push_follows {A} pick F G H K picks splits a b j calls x y k k' rest h q f = go x.out y.out h.out h.sites
    where
      later : Sites g p R N b (j + length a) rest y.calls
      later = keep_behind (omega arith) h.frame q

      going : (v : A) (o : Result (List A)) → Going (pushed v o) → Going o
      going v (Ok vs) t = tt
      going v (Err e) t = tt
      going v Panic t = t

      joined : (vs : List Value) (o : Results (List (List Value))) (r : Result (List A)) → Told K o r → Told H (cons_out vs o) (pushed (G vs) r)
      joined vs _ _ (told vss) = subst (λ l. Told H (values (vs ∷ vss)) (Ok l)) (splits vs vss) (told (vs ∷ vss))
      joined vs _ _ (told_err e) = told_err e
      joined vs _ _ told_panic = told_panic

      go : (o : Outcomes) (r : Result Given) → Told F o r → (Going r → Sites g p R N a j x.seg y.calls)
          → Follows g p R N (Told H) (a ++ b) j calls (next_all_on o x.seg k rest).out (next_all_on o x.seg k rest).seg (push_on pick r y.calls k')
      go _ _ (told vs) s =
          let w = f y.calls later in
          subst (λ o. Follows g p R N (Told H) (a ++ b) j calls (cons_out vs (k rest).out) (x.seg ++ (k rest).seg) (push_picked o y.calls k')) (sym (picks vs))
          (record {
            out = joined vs _ _ w.out;
            sites = λ t. sites_joined a (keep_before (omega arith) w.frame (s tt)) (w.sites (going (G vs) (k' y.calls).out t));
            frame = record { same = λ key o. let q = outside_parts g N a b j key o in w.frame.same key q.1 ∙ h.frame.same key q.0 };
          })
      go _ _ (told_err e) s = record { out = told_err e; sites = λ t. sites_joined a (s tt) later; frame = wider g N a b j _ _ h.frame }
      go _ _ told_panic s = record { out = told_panic; sites = λ t. absurd t; frame = wider g N a b j _ _ h.frame }

  -- what is made of all of them, where that leaves the call states
  done_follows : {A B C D : Type 0} (F : A → B) (H : C → D) (a : List ℕ) (j : ℕ) (calls : States) (o : Results A) (seg : List ℕ) (y : Res B) (k : A → Results C) (k' : B → States → Res D)
      → Follows g p R N (Told F) a j calls o seg y
      → ((v : A) → o ≡ values v → (c : States) → (x : Result D) × (k' (F v) c ≡ record { out = x; calls = c }) × Told H (k v) x)
      → Follows g p R N (Told H) a j calls (then_results k o) seg (then_res y k')
  unfolding then_res
  done_follows {A} {B} {C} {D} F H a j calls o seg y k k' h e = go o y.out h.out h.sites e
    where
      going : (x : Result D) → Going x → Unit {0}
      going x t = tt

      go : (o : Results A) (r : Result B) → Told F o r → (Going r → Sites g p R N a j seg y.calls)
          → ((v : A) → o ≡ values v → (c : States) → (x : Result D) × (k' (F v) c ≡ record { out = x; calls = c }) × Told H (k v) x)
          → Follows g p R N (Told H) a j calls (then_results k o) seg (then_on r y.calls k')
      go _ _ (told v) s e =
          let w = e v refl y.calls in
          subst (λ z. Follows g p R N (Told H) a j calls (k v) seg z) (sym w.1) (record { out = w.2; sites = λ t. s tt; frame = h.frame })
      go _ _ (told_err d) s e = record { out = told_err d; sites = λ t. s tt; frame = h.frame }
      go _ _ told_panic s e = record { out = told_panic; sites = λ t. absurd t; frame = h.frame }

  -- ---- branches: their call sites stand apart

  untaken_follows : (a b : List ℕ) (i j : ℕ) (calls : States) (t : Bool) (v : Value) (seg : List ℕ) (o : Branch) (run : States → Res Given)
      → (i + length a ≤ j) ⊎ (j + length b ≤ i) → Sites g p R N a i seg calls → Sites g p R N b j o.seg calls
      → Follows g p R N Tells b j calls (o.run o.seg).out (o.run o.seg).seg (run calls)
      → Both g p R N a i b j calls (untaken t v seg o) (step_untaken t run (just (plain v)) calls)
  unfolding step_untaken
  untaken_follows a b i j calls true v seg o run far x y f =
      record {
        out = dropped _ _ f.out;
        taken = λ t. ⊎_elim (λ h. keep_before h f.frame x) (λ h. keep_behind h f.frame x) far;
        other = λ t. f.sites (going (run calls).out t);
        frame = λ key m n. f.frame.same key n;
      }
    where
      dropped : (w : Outcome) (r : Result Given) → Tells w r → Tells (drop_failure v w) (discard (just (plain v)) r)
      dropped _ _ (gives u) = gives v
      dropped _ _ (errs e) = gives v
      dropped _ _ panics = panics

      going : (w : Result Given) → Going (discard (just (plain v)) w) → Going w
      going (Ok u) t = tt
      going (Err e) t = tt
      going Panic t = t
  untaken_follows a b i j calls false v seg o run far x y f = record { out = gives v; taken = λ t. x; other = λ t. y; frame = λ key m n. refl }

  -- the branch that is taken, then the other one
  branches_follow : (a b : List ℕ) (i j : ℕ) (calls : States) (x : Eval) (y : Branch) (x' y' : Rust.Branch) → (i + length a ≤ j) ⊎ (j + length b ≤ i)
      → Follows g p R N Tells a i calls x.out x.seg (x'.run calls) → Sites g p R N b j y.seg calls → y.calls ≡ y'.rust_has_call → y.wide ≡ y'.double
      → ((c : States) → Sites g p R N b j y.seg c → Follows g p R N Tells b j c (y.run y.seg).out (y.run y.seg).seg (y'.run c))
      → Both g p R N a i b j calls (branches_on x.out x.seg y) (take_branch x' y' calls)
  unfolding then_res
  branches_follow a b i j calls x y x' y' far h q ec ew f = go x.out (x'.run calls).out h.out h.sites
    where
      after : States
      after = (x'.run calls).calls

      later : Sites g p R N b j y.seg after
      later = ⊎_elim (λ l. keep_behind l h.frame q) (λ l. keep_before l h.frame q) far

      go : (o : Outcome) (r : Result Given) → Tells o r → (Going r → Sites g p R N a i x.seg after)
          → Both g p R N a i b j calls (branches_on o x.seg y) (then_on r after (λ v c. step_untaken y'.rust_has_call y'.run (rust_common_real y'.double v) c))
      go _ _ (gives v) s =
          let w = untaken_follows a b i j after y.calls (common_real y.wide v) x.seg y y'.run far (s tt) later (f after later) in
          let e : step_untaken y.calls y'.run (just (plain (common_real y.wide v))) after ≡ step_untaken y'.rust_has_call y'.run (just (plain (widen_beside y'.double v))) after =
          ap₂ (λ c d. step_untaken c y'.run (just (plain (common_real d v))) after) ec ew ∙ ap (λ v. step_untaken y'.rust_has_call y'.run (just (plain v)) after) (sym (widen_is y'.double v)) in
          let u = subst (Both g p R N a i b j after (untaken y.calls (common_real y.wide v) x.seg y)) e w in
          record { out = u.out; taken = u.taken; other = u.other; frame = λ key m n. u.frame key m n ∙ h.frame.same key m }
      go _ _ (errs e) s = record { out = errs e; taken = λ t. s tt; other = λ t. later; frame = λ key m n. h.frame.same key m }
      go _ _ panics s = record { out = panics; taken = λ t. absurd t; other = λ t. absurd t; frame = λ key m n. h.frame.same key m }

  choose_follows : (a b : List ℕ) (j : ℕ) (calls : States) (t : Bool) (x y : Branch) (x' y' : Rust.Branch)
      → Sites g p R N a j x.seg calls → Sites g p R N b (j + length a) y.seg calls → x.calls ≡ x'.rust_has_call → x.wide ≡ x'.double → y.calls ≡ y'.rust_has_call → y.wide ≡ y'.double
      → ((c : States) → Sites g p R N a j x.seg c → Follows g p R N Tells a j c (x.run x.seg).out (x.run x.seg).seg (x'.run c))
      → ((c : States) → Sites g p R N b (j + length a) y.seg c → Follows g p R N Tells b (j + length a) c (y.run y.seg).out (y.run y.seg).seg (y'.run c))
      → Follows g p R N Tells (a ++ b) j calls (choose t x y).out (choose t x y).seg (Rust.choose t x' y' calls)
  unfolding choose Rust.choose
  choose_follows a b j calls true x y x' y' p q xc xw yc yw h k =
      let r = branches_follow a b j (j + length a) calls (x.run x.seg) y x' y' (inl (omega arith)) (h calls p) q yc yw k in
      record { out = r.out; sites = λ t. sites_joined a (r.taken t) (r.other t); frame = record { same = λ key o. let w = outside_parts g N a b j key o in r.frame key w.0 w.1 } }
  choose_follows a b j calls false x y x' y' p q xc xw yc yw h k =
      let r = branches_follow b a (j + length a) j calls (y.run y.seg) x y' x' (inr (omega arith)) (k calls q) p xc xw h in
      record { out = r.out; sites = λ t. sites_joined a (r.other t) (r.taken t); frame = record { same = λ key o. let w = outside_parts g N a b j key o in r.frame key w.1 w.0 } }

  condition_follows : (b : List ℕ) (j : ℕ) (calls : States) (k : Bool → List ℕ → Eval) (k' : Bool → States → Res Given) (v : Value) (rest : List ℕ) → Sites g p R N b j rest calls
      → ((t : Bool) → Follows g p R N Tells b j calls (k t rest).out (k t rest).seg (k' t calls))
      → Follows g p R N Tells b j calls (condition k v rest).out (condition k v rest).seg (if_bool k' (just (plain v)) calls)
  unfolding condition if_bool
  condition_follows b j calls k k' (Val.Bool t) rest q h = h t
  condition_follows b j calls k k' (Val.Int i) rest q h = stays (errs other_error) q
  condition_follows b j calls k k' (Val.Float x) rest q h = stays (errs other_error) q
  condition_follows b j calls k k' (Val.Float32 x) rest q h = stays (errs other_error) q
  condition_follows b j calls k k' (Val.Enum v) rest q h = stays (errs other_error) q

  -- ---- scalars as cells, and back

  -- by an expression's shape
  by_shape : (o : Option ℕ) (ks : List ℕ) (j : ℕ) (calls : States) (x : List ℕ → Evals) (y : List ℕ → Eval) (seg : List ℕ) (r : Res Given)
      → (o ≡ none → Follows g p R N Tells ks j calls (y seg).out (y seg).seg r) → ((n : ℕ) → o ≡ some n → Follows g p R N (Told arrayed) ks j calls (x seg).out (x seg).seg r)
      → Follows g p R N (Told (packed o)) ks j calls (cells_by (is_some o) x y seg).out (cells_by (is_some o) x y seg).seg r
  unfolding cells_by
  by_shape none ks j calls x y seg r h k = let w = h refl in record { out = go _ _ w.out; sites = w.sites; frame = w.frame }
    where
      go : (o : Outcome) (r : Result Given) → Tells o r → Told (packed none) (several o) r
      go _ _ (gives v) = told (v ∷ [])
      go _ _ (errs e) = told_err e
      go _ _ panics = told_panic
  by_shape (some n) ks j calls x y seg r h k = let w = k n refl in record { out = go _ _ w.out; sites = w.sites; frame = w.frame }
    where
      go : (o : Outcomes) (r : Result Given) → Told arrayed o r → Told (packed (some n)) o r
      go _ _ (told vs) = told vs
      go _ _ (told_err e) = told_err e
      go _ _ told_panic = told_panic

  by_array : (b : Bool) (ks : List ℕ) (j : ℕ) (calls : States) (x y : List ℕ → Eval) (seg : List ℕ) (r : Res Given)
      → (b ≡ true → Follows g p R N Tells ks j calls (x seg).out (x seg).seg r) → (b ≡ false → Follows g p R N Tells ks j calls (y seg).out (y seg).seg r)
      → Follows g p R N Tells ks j calls (arrays_or b x y seg).out (arrays_or b x y seg).seg r
  unfolding arrays_or
  by_array true ks j calls x y seg r h k = h refl
  by_array false ks j calls x y seg r h k = k refl

-- one output, that is a scalar, or an array
pub one_scalar : (os : List (Option ℕ)) (o : Outcomes) (r : Result Given) → os ≡ none ∷ [] → CountIs 1 o → Told (bundled os) o r → Tells (single o) r
one_scalar os o r e c h = go _ _ c (subst (λ os. Told (bundled os) o r) e h)
  where
    go : (o : Outcomes) (r : Result Given) → CountIs 1 o → Told (bundled (none ∷ [])) o r → Tells (single o) r
    go _ _ c (told []) = absurd (omega arith)
    go _ _ c (told (v ∷ [])) = gives v
    go _ _ c (told (v ∷ w ∷ vs)) = absurd (omega arith)
    go _ _ c (told_err e) = errs e
    go _ _ c told_panic = panics

pub one_array : (os : List (Option ℕ)) (n : ℕ) (o : Outcomes) (r : Result Given) → os ≡ some n ∷ [] → CountIs n o → Told (bundled os) o r → Told arrayed o r
one_array os n o r e c h = go _ _ c (subst (λ os. Told (bundled os) o r) e h)
  where
    go : (o : Outcomes) (r : Result Given) → CountIs n o → Told (bundled (some n ∷ [])) o r → Told arrayed o r
    go _ _ c (told vs) = subst (λ us. Told arrayed (values vs) (Ok (just (Array us)))) (sym (take_all n vs (omega arith))) (told vs)
    go _ _ c (told_err e) = told_err e
    go _ _ c told_panic = told_panic

-- ---- names

-- every name that stands in an expression is one of these
abbrev mutual
  pub Seen : (ℕ → Type 0) → Expr → Type 0
  Seen S (bool_lit b) = Unit {0}
  Seen S (int_lit i) = Unit {0}
  Seen S (float_lit b) = Unit {0}
  Seen S (char_lit c) = Unit {0}
  Seen S (var x) = S x
  Seen S (unary op e) = Seen S e
  Seen S (binary op l r) = Seen S l × Seen S r
  Seen S (if_then_else c t e) = Seen S c × Seen S t × Seen S e
  Seen S (pre e) = Seen S e
  Seen S (arrow a b) = Seen S a × Seen S b
  Seen S (cast t e) = Seen S e
  Seen S (call k es) = SeenAll S es
  Seen S (tuple es) = SeenAll S es
  Seen S (index a i) = Seen S a × Seen S i
  Seen S (literal es) = SeenAll S es
  Seen S (map_over k es) = SeenAll S es
  Seen S (fold_over k e es) = Seen S e × SeenAll S es

  pub SeenAll : (ℕ → Type 0) → Exprs → Type 0
  SeenAll S nil = Unit {0}
  SeenAll S (cons e es) = Seen S e × SeenAll S es

-- ---- shapes: an expression inside which no Tuple stands, no call with several outputs, and no array but in its place

abbrev pub shapes_in : List Variable → List (Option ℕ)
shapes_in vs = map (λ v. length_in v.ty) vs

module _ (ns : List Node) (locals constants : List Sized) where
  abbrev pub shape_of : Expr → Option ℕ
  shape_of e = shape ns locals constants e

  abbrev pub shapes_of : Exprs → List (Option ℕ)
  shapes_of nil = []
  shapes_of (cons e es) = shape_of e ∷ shapes_of es

  -- scalars, and arrays of one length
  abbrev pub AllScalar : Exprs → Type 0
  AllScalar nil = Unit {0}
  AllScalar (cons e es) = (shape_of e ≡ none) × AllScalar es

  abbrev pub AllLong : ℕ → Exprs → Type 0
  AllLong n nil = Unit {0}
  AllLong n (cons e es) = (shape_of e ≡ some n) × AllLong n es

  -- what an iterator has: a Function, and arrays of one length
  abbrev pub Iterable : ℕ → Exprs → Type 0
  Iterable k es = ((get_or ns k no_node).kind ≡ Function) × ((n : ℕ) × AllLong n es) × (1 ≤ count es)

  -- a callee that takes such arguments
  abbrev pub Callee : ℕ → Exprs → Type 0
  Callee k es = (shapes_of es ≡ shapes_in (get_or ns k no_node).inputs) × (¬ ((get_or ns k no_node).kind ≡ Imported))

  abbrev mutual
    pub Flat : Expr → Type 0
    Flat (bool_lit b) = Unit {0}
    Flat (int_lit i) = Unit {0}
    Flat (float_lit b) = Unit {0}
    Flat (char_lit c) = Unit {0}
    Flat (var x) = Unit {0}
    Flat (unary op e) = (shape_of e ≡ none) × Flat e
    Flat (binary op l r) = (is_some (shape_of l) ≡ is_some (shape_of r)) × Flat l × Flat r
    Flat (if_then_else c t e) = ((shape_of c ≡ none) × (shape_of t ≡ none) × (shape_of e ≡ none)) × Flat c × Flat t × Flat e
    Flat (pre e) = Unit {0}
    Flat (arrow a b) = ((shape_of a ≡ none) × (shape_of b ≡ none)) × Flat a × Flat b
    Flat (cast t e) = (shape_of e ≡ none) × Flat e
    Flat (call k es) = (length (get_or ns k no_node).outputs ≡ 1) × Callee k es × FlatAll es
    Flat (tuple es) = ⊥
    Flat (index a i) = (shape_of i ≡ none) × Flat a × Flat i
    Flat (literal es) = AllScalar es × FlatAll es
    Flat (map_over k es) = Iterable k es × FlatAll es
    Flat (fold_over k e es) = (shape_of e ≡ none) × Iterable k es × Flat e × FlatAll es

    pub FlatAll : Exprs → Type 0
    FlatAll nil = Unit {0}
    FlatAll (cons e es) = Flat e × FlatAll es

  -- a right side of these shapes
  abbrev pub FlatRight : List (Option ℕ) → Rhs → Type 0
  FlatRight os (items es) = (2 ≤ count es) × (shapes_of es ≡ os) × FlatAll es
  FlatRight os (outputs_of k es) = (shapes_in (get_or ns k no_node).outputs ≡ os) × Callee k es × FlatAll es
  FlatRight os (one e) = (shape_of e ∷ [] ≡ os) × Flat e

abbrev IfName : (ℕ → Type 0) → Option ℕ → Type 0
IfName S none = Unit {0}
IfName S (some x) = S x

seen_name : (S : ℕ → Type 0) (e : Expr) → Seen S e → IfName S (name_in e)
seen_name S (bool_lit b) h = tt
seen_name S (int_lit i) h = tt
seen_name S (float_lit b) h = tt
seen_name S (char_lit c) h = tt
seen_name S (var x) h = h
seen_name S (unary op e) h = tt
seen_name S (binary op l r) h = tt
seen_name S (if_then_else c t e) h = tt
seen_name S (pre e) h = tt
seen_name S (arrow a b) h = tt
seen_name S (cast t e) h = tt
seen_name S (call k es) h = tt
seen_name S (tuple es) h = tt
seen_name S (index a i) h = tt
seen_name S (literal es) h = tt
seen_name S (map_over k es) h = tt
seen_name S (fold_over k e es) h = tt

-- ---- iterations

elements_are : (k : ℕ) (vss : List (List Value)) → elements k vss ≡ map plain (elements_at k vss)
elements_are k [] = refl
elements_are k (vs ∷ vss) = ap (λ l. plain (get_or vs k no_value_of) ∷ l) (elements_are k vss)

-- a map's loop, and a fold's
map_told : (h : List Value → Outcome) (h' : List RValue → Result Given) (vss : List (List Value)) (k n : ℕ) → ((k : ℕ) → Tells (h (elements_at k vss)) (h' (elements k vss)))
    → Told arrayed (map_from h vss k n) (ok_array (map_loop h' vss k n))
unfolding map_from map_loop map_next push_element
map_told h h' vss k zero e = told []
map_told h h' vss k (suc n) e = go _ _ _ _ (e k) (map_told h h' vss (suc k) n e)
  where
    rest : (v : Value) (o : Outcomes) (r : Result (List Value)) → Told arrayed o (ok_array r) → Told arrayed (cons_out v o) (ok_array (pushed v r))
    rest v o (Ok vs) t = ok_case o t
      where
        ok_case : (o : Outcomes) → Told arrayed o (Ok (just (Array vs))) → Told arrayed (cons_out v o) (Ok (just (Array (v ∷ vs))))
        ok_case o t = by o _ t refl
          where
            by : (o : Outcomes) (x : Result Given) → Told arrayed o x → x ≡ Ok (just (Array vs)) → Told arrayed (cons_out v o) (Ok (just (Array (v ∷ vs))))
            by _ _ (told us) q = let z : us ≡ vs = cc in subst (λ l. Told arrayed (values (v ∷ us)) (Ok (just (Array (v ∷ l))))) z (told (v ∷ us))
            by _ _ (told_err d) q = let z : ◌≡◌ {A = ℕ} 0 1 = cc in absurd (omega arith)
            by _ _ told_panic q = let z : ◌≡◌ {A = ℕ} 0 1 = cc in absurd (omega arith)
    rest v o (Err d) t = by o _ t refl
      where
        by : (o : Outcomes) (x : Result Given) → Told arrayed o x → x ≡ Err d → Told arrayed (cons_out v o) (Err d)
        by _ _ (told us) q = let z : ◌≡◌ {A = ℕ} 0 1 = cc in absurd (omega arith)
        by _ _ (told_err d) q = subst (λ x. Told arrayed (failure (cause_of d)) x) q (told_err d)
        by _ _ told_panic q = let z : ◌≡◌ {A = ℕ} 0 1 = cc in absurd (omega arith)
    rest v o Panic t = by o _ t refl
      where
        by : (o : Outcomes) (x : Result Given) → Told arrayed o x → x ≡ Panic → Told arrayed (cons_out v o) Panic
        by _ _ (told us) q = let z : ◌≡◌ {A = ℕ} 0 1 = cc in absurd (omega arith)
        by _ _ (told_err d) q = let z : ◌≡◌ {A = ℕ} 0 1 = cc in absurd (omega arith)
        by _ _ told_panic q = told_panic

    go : (o : Outcome) (x : Result Given) (os : Outcomes) (r : Result (List Value)) → Tells o x → Told arrayed os (ok_array r) → Told arrayed (map_next o (λ u. os)) (ok_array (push_element x r))
    go _ _ os r (gives v) t = rest v os r t
    go _ _ os r (errs d) t = told_err d
    go _ _ os r panics t = told_panic

-- ---- names and their values

abbrev pub plain_or : Option Value → Option RValue
plain_or none = none
plain_or (some v) = some (plain v)

abbrev pub array_or : Option (List Value) → Option RValue
array_or none = none
array_or (some vs) = some (Array vs)

-- a name's value by its shape: its one cell, or its cells
abbrev pub name_is : Option ℕ → Option Value → Option (List Value) → Option RValue
name_is none v vs = plain_or v
name_is (some n) v vs = array_or vs

-- among cells that bear these names
abbrev pub held_in : Option ℕ → ℕ → List ℕ → List Value → Option RValue
held_in o x names cs = name_is o (lookup x names cs) (cells_named x names cs)

module _ (f : File) (xs : List ℕ) (vs : List Value) where
  abbrev pub G : Globals
  G = globals f xs vs

  abbrev pub constant_is : ℕ → Option RValue
  constant_is x = held_in (length_for x (constant_arrays f.constants)) x xs vs

  -- an environment that every callee may be handed: it has the constants, and no variant's name
  pub record Globally (env : Env) : Type 0 where
    pub consts : (x : ℕ) → x ∈ xs → get x env ≡ constant_is x
    pub variants : (x : ℕ) → x ∈ concat f.enums → get x env ≡ none

  -- the cells of an array's name, if any bear it
  abbrev pub cells_for : Scope → List Value → ℕ → Option (List Value)
  cells_for s cs x = or_else (cells_named x s.names cs) (cells_named x xs vs)

  -- a scope says of the names S what the Rust's environment and state say
  pub record Agrees (S : ℕ → Type 0) (s : Scope) (env : Env) (st : State) : Type 0 where
    pub present : (x : ℕ) → S x → or_else (get x env) (enum_variant_value f x) ≡ name_is (length_named G s x) (present_of G s x) (cells_for s s.present x)
    pub first : first_tick st ≡ s.first
    pub before : (x : ℕ) → S x → s.first ≡ false → get x (prev st) ≡ name_is (length_named G s x) (before_of G s x) (cells_for s s.before x)
    pub shared : Globally env
    pub iterated : Globally (constants_from_env f env)

  module _ (p : ℕ → List ℕ → Bool) (R : ℕ → List ℕ → Option State → Type 0) (Q : Value → Type 0) where
    -- a call
    pub record Stepped (key : Key) (k : ℕ) (calls : States) (b : Evals) (r : Res Given) : Type 0 where
      pub out : Told (bundled (shapes_in (node_at G k).outputs)) b.out r.out
      pub record_is : Going r.out → R k b.seg (get_state key r.calls)
      pub others : (other : Key) → ((node_at G k).kind ≡ Operator → ¬ (other ≡ key)) → get_state other r.calls ≡ get_state other calls

    -- calls over bytes and the Rust's, and those of iterators
    pub record Steps (calls : Calls) (step : StepInstance) (value : CallValues) : Type 0 where
      pub steps : (key : Key) (k : ℕ) (ws : List Value) (r : List ℕ) (states : States) (env : Env) → T (may_be f.nodes k (length ws)) → ¬ ((node_at G k).kind ≡ Imported) → All Q ws → Rec G p k r
          → R k r (get_state key states) → Globally env → Stepped key k states (calls k ws r) (step key k (pack_all (shapes_in (node_at G k).inputs) ws) states env)
      pub iterates : (k : ℕ) (ws : List Value) (env : Env) → T (may_iterate f.nodes k (length ws)) → All Q ws → Globally env
          → Tells (single (calls k ws []).out) (value k (map plain ws) env)

  values_are : (o : Option Value) → maybe not_real of_value (plain_or o) ≡ maybe not_real kind_of_value o
  values_are none = refl
  values_are (some v) = value_is v

  first_is : (xs : List Variable) → first_kind f xs ≡ first_type xs
  first_is [] = refl
  first_is (x ∷ xs) = type_is x.ty

  variant_kind : (x : ℕ) → maybe not_real of_value (enum_variant_value f x) ≡ not_real
  variant_kind x = cond_t (λ o. maybe not_real of_value o ≡ not_real) (member x (concat f.enums)) (some (plain (Val.Enum x))) none (λ t. refl) (λ t. refl)

  name_kind : (o : Option ℕ) (v : Option Value) (us : Option (List Value)) → cond (is_some o) not_real (maybe not_real kind_of_value v) ≡ maybe not_real of_value (name_is o v us)
  name_kind none v us = sym (values_are v)
  name_kind (some n) v none = refl
  name_kind (some n) v (some ws) = refl

  module _ {S : ℕ → Type 0} {s : Scope} {env : Env} {st : State} (agrees : Agrees S s env st) where
    kind_of_lem : (x : ℕ) → S x → cond (is_some (length_named G s x)) not_real (maybe not_real kind_of_value (present_of G s x)) ≡ maybe not_real of_value (get x env)
    kind_of_lem x h = name_kind (length_named G s x) (present_of G s x) (cells_for s s.present x) ∙ go (get x env) (agrees.present x h)
      where
        go : (o : Option RValue) → or_else o (enum_variant_value f x) ≡ name_is (length_named G s x) (present_of G s x) (cells_for s s.present x)
            → maybe not_real of_value (name_is (length_named G s x) (present_of G s x) (cells_for s s.present x)) ≡ maybe not_real of_value o
        go none e = ap (maybe not_real of_value) (sym e) ∙ variant_kind x
        go (some v) e = ap (maybe not_real of_value) (sym e)

    pub kinds : (e : Expr) → Seen S e → real_kind G s e ≡ rust_real_kind f e env
    kinds (bool_lit b) h = refl
    kinds (int_lit i) h = refl
    kinds (float_lit b) h = refl
    kinds (char_lit c) h = refl
    kinds (var x) h = kind_of_lem x h
    kinds (unary op e) h = kinds e h
    kinds (binary op l r) h =
        ap₂ (λ a b. arithmetic op (join a b)) (kinds l h.0) (kinds r h.1) ∙ ap (arithmetic op) (sym (join_is (rust_real_kind f l env) (rust_real_kind f r env)))
        ∙ sym (arithmetic_is op (join_kinds (rust_real_kind f l env) (rust_real_kind f r env)))
    kinds (if_then_else c t e) h = ap₂ join (kinds t h.1) (kinds e h.2) ∙ sym (join_is (rust_real_kind f t env) (rust_real_kind f e env))
    kinds (pre e) h = kinds e h
    kinds (arrow a b) h = ap₂ join (kinds a h.0) (kinds b h.1) ∙ sym (join_is (rust_real_kind f a env) (rust_real_kind f b env))
    kinds (cast t e) h = sym (scalar_is t)
    kinds (call k es) h = sym (first_is (node_at G k).outputs)
    kinds (tuple es) h = refl
    kinds (index a i) h = refl
    kinds (literal es) h = refl
    kinds (map_over k es) h = refl
    kinds (fold_over k e es) h = refl

    doubles : (e : Expr) → Seen S e → is_double? (real_kind G s e) ≡ is_double (rust_real_kind f e env)
    doubles e h = ap is_double? (kinds e h) ∙ sym (double_is (rust_real_kind f e env))

    plain_tells : (o : Option Value) → Tells (or_failure o) (ok_or other_error (plain_or o))
    plain_tells none = errs other_error
    plain_tells (some v) = gives v

    array_tells : (o : Option (List Value)) → Told arrayed (or_failures o) (ok_or other_error (array_or o))
    array_tells none = told_err other_error
    array_tells (some vs) = told vs

    var_same : (x : ℕ) → S x → length_named G s x ≡ none → Tells (or_failure (present_of G s x)) (ok_or other_error (or_else (get x env) (enum_variant_value f x)))
    var_same x h e =
        subst (λ o. Tells (or_failure (present_of G s x)) (ok_or other_error o)) (sym (agrees.present x h ∙ ap (λ l. name_is l (present_of G s x) (cells_for s s.present x)) e)) (plain_tells (present_of G s x))

    var_array : (x n : ℕ) → S x → length_named G s x ≡ some n → Told arrayed (cells_of G s s.present x) (ok_or other_error (or_else (get x env) (enum_variant_value f x)))
    var_array x n h e =
        subst (λ o. Told arrayed (cells_of G s s.present x) (ok_or other_error o)) (sym (agrees.present x h ∙ ap (λ l. name_is l (present_of G s x) (cells_for s s.present x)) e))
        (array_tells (cells_for s s.present x))

    pre_same : (e : Expr) → Seen S e → maybe none (length_named G s) (name_in e) ≡ none → Tells (pre_of G s s.first e) (pre_value st (first_tick st) (name_in e))
    pre_same e h l = go (first_tick st) agrees.first (name_in e) refl (seen_name S e h) l
      where
        go : (b : Bool) → b ≡ s.first → (o : Option ℕ) → name_in e ≡ o → IfName S o → maybe none (length_named G s) o ≡ none → Tells (pre_of G s s.first e) (pre_value st b o)
        go true q o n h l = subst (λ b. Tells (pre_of G s b e) (Err uninitialized_pre)) q (errs uninitialized_pre)
        go false q none n h l =
            subst (λ b. Tells (pre_of G s b e) (Err other_error)) q (subst (λ o. Tells (or_failure (maybe none (before_of G s) o)) (Err other_error)) (sym n) (errs other_error))
        go false q (some x) n h l =
            subst (λ b. Tells (pre_of G s b e) (ok_or other_error (get x (prev st)))) q
            (subst (λ o. Tells (or_failure (maybe none (before_of G s) o)) (ok_or other_error (get x (prev st)))) (sym n)
            (subst (λ o. Tells (or_failure (before_of G s x)) (ok_or other_error o)) (sym (agrees.before x h (sym q) ∙ ap (λ l. name_is l (before_of G s x) (cells_for s s.before x)) l)) (plain_tells (before_of G s x))))

    pre_array : (e : Expr) (n : ℕ) → Seen S e → maybe none (length_named G s) (name_in e) ≡ some n → Told arrayed (pre_cells G s s.first e) (pre_value st (first_tick st) (name_in e))
    pre_array e m h l = go (first_tick st) agrees.first (name_in e) refl (seen_name S e h) l
      where
        go : (b : Bool) → b ≡ s.first → (o : Option ℕ) → name_in e ≡ o → IfName S o → maybe none (length_named G s) o ≡ some m → Told arrayed (pre_cells G s s.first e) (pre_value st b o)
        go true q o n h l = subst (λ b. Told arrayed (pre_cells G s b e) (Err uninitialized_pre)) q (told_err uninitialized_pre)
        go false q none n h l = let z : ◌≡◌ {A = ℕ} 0 1 = cc in absurd (omega arith)
        go false q (some x) n h l =
            subst (λ b. Told arrayed (pre_cells G s b e) (ok_or other_error (get x (prev st)))) q
            (subst (λ o. Told arrayed (maybe (failure Why.Other) (cells_of G s s.before) o) (ok_or other_error (get x (prev st)))) (sym n)
            (subst (λ o. Told arrayed (cells_of G s s.before x) (ok_or other_error o)) (sym (agrees.before x h (sym q) ∙ ap (λ l. name_is l (before_of G s x) (cells_for s s.before x)) l)) (array_tells (cells_for s s.before x))))

    module _ {p : ℕ → List ℕ → Bool} {R : ℕ → List ℕ → Option State → Type 0} {Q : Value → Type 0} {calls : Calls} {step : StepInstance} {value : CallValues}
        (steps : Steps p R Q calls step value) (sound : Sound Q G p calls)
        (present : All Q s.present) (before : All Q s.before) (shaped : NamesShaped G s)
        (backs : (v : Value) → Q v → Single v) (N : Home) where
      abbrev OkExpr : Expr → Type 0
      OkExpr e = Allowed f.nodes s.arrays G.arrays (may_be f.nodes) (may_iterate f.nodes) e

      abbrev OkExprs : Exprs → Type 0
      OkExprs es = AllowedAll f.nodes s.arrays G.arrays (may_be f.nodes) (may_iterate f.nodes) es

      abbrev Flatly : Expr → Type 0
      Flatly e = Flat f.nodes s.arrays G.arrays e

      abbrev FlatlyAll : Exprs → Type 0
      FlatlyAll es = FlatAll f.nodes s.arrays G.arrays es

      abbrev shp : Expr → Option ℕ
      shp e = shape_of f.nodes s.arrays G.arrays e

      abbrev shps : Exprs → List (Option ℕ)
      shps es = shapes_of f.nodes s.arrays G.arrays es

      count_of : (es : Exprs) → length (shps es) ≡ count es
      count_of nil = refl
      count_of (cons e es) = ap suc (count_of es)

      counts_are : (es : Exprs) → cell_counts f.nodes s.arrays G.arrays es ≡ map size_of (shps es)
      counts_are nil = refl
      counts_are (cons e es) = ap (λ l. size_of (shp e) ∷ l) (counts_are es)

      -- an admitted call passes what `eval_call` looks at first
      call_is : (key : Key) (k : ℕ) (es : Exprs) (args : States → Res (List RValue)) (c : States) → Callee f.nodes s.arrays G.arrays k es
          → eval_call f step value N.number env st key k (count es) args c ≡ then_res (args c) (λ ws c. step key k ws c env)
      unfolding eval_call
      call_is key k es args c w =
          let n : count es ≡ length (node_at G k).inputs = sym (count_of es) ∙ ap length w.0 ∙ length-map (node_at G k).inputs _ in
          ap (λ b. call_arity f step value N.number env st b key k args c) (T_true (eqb (count es) (length (node_at G k).inputs)) (eq_eqb (count es) (length (node_at G k).inputs) n)) ∙ go (node_at G k).kind w.1
        where
          go : (d : NodeKind) → ¬ (d ≡ Imported) → call_kind f step value N.number env st d key k args c ≡ then_res (args c) (λ ws c. step key k ws c env)
          go Function h = refl
          go Operator h = refl
          go Imported h = absurd (h refl)

      abbrev out_shapes : ℕ → List (Option ℕ)
      out_shapes k = shapes_in (node_at G k).outputs

      -- a call, its arguments following
      call_follows : (k : ℕ) (es : Exprs) (at j : ℕ) (seg : List ℕ) (c : States) → N.addr j ≡ at → T (may_be f.nodes k (cells_all f.nodes s.arrays G.arrays es)) → PlainAll es → OkExprs es
          → Callee f.nodes s.arrays G.arrays k es → Sites G p R N (k ∷ callees_all es) j seg c
          → Follows G p R N (Told (pack_each (shps es))) (callees_all es) (suc j) c (eval_each G s calls es (drop (record_size G k) seg)).out (eval_each G s calls es (drop (record_size G k) seg)).seg (Rust.eval_args f step value N.number env st (suc at) es c)
          → let x = enter (calls k) (take (record_size G k) seg) (eval_all G s calls es (drop (record_size G k) seg)) in
          Follows G p R N (Told (bundled (out_shapes k))) (k ∷ callees_all es) j c x.out x.seg (eval_call f step value N.number env st (N.number, at) k (count es) (λ d. Rust.eval_args f step value N.number env st (suc at) es d) c)
      unfolding enter then_res
      call_follows k es at j seg c z t pl a cal h args =
          let w = sites_head h in
          let x = enter (calls k) own (eval_all G s calls es (drop (record_size G k) seg)) in
          subst (λ i. Follows G p R N (Told (bundled (out_shapes k))) (k ∷ callees_all es) j c x.out x.seg (eval_call f step value N.number env st (N.number, i) k (count es) (λ d. Rust.eval_args f step value N.number env st (suc at) es d) c)) z
          (subst (λ r. Follows G p R N (Told (bundled (out_shapes k))) (k ∷ callees_all es) j c x.out x.seg r) (sym (call_is (key_at N j) k es (λ d. Rust.eval_args f step value N.number env st (suc at) es d) c cal))
          (go w.0 w.1 each.out y.out args.out args.sites (each_kept G s calls sound.counts shaped es (drop (record_size G k) seg) a)
          (each_meet sound s present before shaped es (drop (record_size G k) seg) pl a w.2.good).out))
        where
          own : List ℕ
          own = take (record_size G k) seg

          each : Evaluated (List (List Value))
          each = eval_each G s calls es (drop (record_size G k) seg)

          y : Res (List RValue)
          y = Rust.eval_args f step value N.number env st (suc at) es c

          only : Frame G N (k ∷ callees_all es) j c y.calls
          only = record { same = λ key o. args.frame.same key o.1 }

          go : Rec G p k own → R k own (get_state (key_at N j) c) → (o : Results (List (List Value))) (r : Result (List RValue)) → Told (pack_each (shps es)) o r
              → (Going r → Sites G p R N (callees_all es) (suc j) each.seg y.calls) → EachIs (cell_counts f.nodes s.arrays G.arrays es) o → GivesOf (All (All Q)) o
              → Follows G p R N (Told (bundled (out_shapes k))) (k ∷ callees_all es) j c (enter_on (calls k) own (then_results flatten o) each.seg).out (enter_on (calls k) own (then_results flatten o) each.seg).seg
              (then_on r y.calls (λ ws c. step (key_at N j) k ws c env))
          go rec q _ _ (told vss) u kept fine =
              let lengths : map length vss ≡ map size_of (shps es) = kept ∙ counts_are es in
              let t' : T (may_be f.nodes k (length (concat vss))) = subst (λ m. T (may_be f.nodes k m)) (sym (concat_length vss ∙ ap sum kept)) t in
              let mine : R k own (get_state (key_at N j) y.calls) = subst (R k own) (sym (args.frame.same (key_at N j) (outside_lt G N (callees_all es) (suc j) j (omega arith)))) q in
              let packs : pack_all (shapes_in (node_at G k).inputs) (concat vss) ≡ pack_each (shps es) vss = ap (λ os. pack_all os (concat vss)) (sym cal.0) ∙ pack_flat (shps es) vss lengths in
              let w = subst (λ rs. Stepped p R Q (key_at N j) k y.calls (calls k (concat vss) own) (step (key_at N j) k rs y.calls env)) packs
              (steps.steps (key_at N j) k (concat vss) own y.calls env t' cal.1 (all_concat Q vss fine) rec mine agrees.shared) in
              record {
                out = w.out;
                sites = λ v. sites_cons (sound.keeps k (concat vss) own t' (all_concat Q vss fine) rec).seg (w.record_is v)
                    (keep (λ i a b. w.others (key_at N i) (λ o e. let z : i ≡ j = same_site N i j e in absurd (omega arith))) (u tt));
                frame = record { same = λ key o. w.others key o.0 ∙ only.same key o };
              }
          go rec q _ _ (told_err e) u kept fine =
              let mine : R k own (get_state (key_at N j) y.calls) = subst (R k own) (sym (args.frame.same (key_at N j) (outside_lt G N (callees_all es) (suc j) j (omega arith)))) q in
              record { out = told_err e; sites = λ v. sites_cons rec mine (u tt); frame = only }
          go rec q _ _ told_panic u kept fine = record { out = told_panic; sites = λ v. absurd v; frame = only }

      -- ---- iterators

      heads_flat : (es : Exprs) (vss : List (List Value)) → AllScalar f.nodes s.arrays G.arrays es → map length vss ≡ cell_counts f.nodes s.arrays G.arrays es → map first_cell vss ≡ concat vss
      heads_flat nil [] a e = refl
      heads_flat nil (vs ∷ vss) a e = let z : ◌≡◌ {A = ℕ} 0 1 = cc in absurd (omega arith)
      heads_flat (cons x es) [] a e = let z : ◌≡◌ {A = ℕ} 0 1 = cc in absurd (omega arith)
      heads_flat (cons x es) (vs ∷ vss) a e =
          let l : length vs ≡ cells_in f.nodes s.arrays G.arrays x = cc in
          let r : map length vss ≡ cell_counts f.nodes s.arrays G.arrays es = cc in
          let w = one_cell vs (l ∙ ap size_of a.0) in
          ap₂ {C = List Value} (λ us l. first_cell us ∷ l) w.1 (heads_flat es vss a.1 r) ∙ sym (ap (λ us. us ++ concat vss) w.1)

      -- arrays of one length
      lengths_same : (n : ℕ) (es : Exprs) (vss : List (List Value)) → AllLong f.nodes s.arrays G.arrays n es → map length vss ≡ cell_counts f.nodes s.arrays G.arrays es → T (all_of (λ a. eqb (length a) n) vss)
      lengths_same n nil [] a e = tt
      lengths_same n nil (vs ∷ vss) a e = let z : ◌≡◌ {A = ℕ} 0 1 = cc in absurd (omega arith)
      lengths_same n (cons x es) [] a e = tt
      lengths_same n (cons x es) (vs ∷ vss) a e =
          let l : length vs ≡ cells_in f.nodes s.arrays G.arrays x = cc in
          let r : map length vss ≡ cell_counts f.nodes s.arrays G.arrays es = cc in
          and_t (eqb (length vs) n) _ (eq_eqb (length vs) n (l ∙ ap size_of a.0)) (lengths_same n es vss a.1 r)

      all_equal : (n : ℕ) (es : Exprs) (vss : List (List Value)) → AllLong f.nodes s.arrays G.arrays n es → map length vss ≡ cell_counts f.nodes s.arrays G.arrays es → equal_lengths vss ≡ true
      all_equal n es [] a e = refl
      all_equal n nil (vs ∷ vss) a e = let z : ◌≡◌ {A = ℕ} 0 1 = cc in absurd (omega arith)
      all_equal n (cons x es) (vs ∷ vss) a e =
          let l : length vs ≡ cells_in f.nodes s.arrays G.arrays x = cc in
          let m : length vs ≡ n = l ∙ ap size_of a.0 in
          T_true (equal_lengths (vs ∷ vss)) (subst (λ m. T (all_of (λ a. eqb (length a) m) (vs ∷ vss))) (sym m) (lengths_same n (cons x es) (vs ∷ vss) a e))

      many : (es : Exprs) (vss : List (List Value)) → map length vss ≡ cell_counts f.nodes s.arrays G.arrays es → length vss ≡ count es
      many es vss e = sym (length-map vss length) ∙ ap length e ∙ ap length (counts_are es) ∙ length-map (shps es) size_of ∙ count_of es

      no_q : Q no_value_of
      no_q = sound.closed.bools false

      -- one call of an iterator
      one_call : (k m : ℕ) (ws : List Value) → T (may_iterate f.nodes k m) → length ws ≡ m → All Q ws → Tells (applied G s calls k ws) (value k (map plain ws) (constants_from_env f env))
      one_call k m ws t e q = steps.iterates k ws (constants_from_env f env) (subst (λ m. T (may_iterate f.nodes k m)) (sym e) t) q agrees.iterated

      mapped : (k : ℕ) (es : Exprs) (vss : List (List Value)) → T (may_iterate f.nodes k (count es)) → Iterable f.nodes s.arrays G.arrays k es → map length vss ≡ cell_counts f.nodes s.arrays G.arrays es
          → All (All Q) vss → Told arrayed (map_all G s calls k vss) (ok_array (map_loop (λ ws. value k ws (constants_from_env f env)) vss 0 (length (get_or vss 0 []))))
      mapped k es vss t it e q =
          map_told (applied G s calls k) (λ ws. value k ws (constants_from_env f env)) vss 0 (length (get_or vss 0 []))
          (λ j. subst (λ l. Tells (applied G s calls k (elements_at j vss)) (value k l (constants_from_env f env))) (sym (elements_are j vss))
          (one_call k (count es) (elements_at j vss) t (elements_length j vss ∙ many es vss e) (elements_q Q no_q j vss q)))

      -- each running value is such a value, by what the calls keep
      fold_q : (k : ℕ) (vs : List Value) (v : Value) → T (may_iterate f.nodes k 2) → All Q vs → Q v
          → Tells (fold_from (applied G s calls k) v vs) (fold_loop (λ ws. value k ws (constants_from_env f env)) (just (plain v)) vs)
      unfolding fold_from fold_loop
      fold_q k [] v t q qv = gives v
      fold_q k (w ∷ vs) v t q qv =
          go _ _ (one_call k 2 (v ∷ w ∷ []) t refl (qv, (q.0, tt))) (applied_q sound s present before shaped k 2 (v ∷ w ∷ []) t refl (qv, (q.0, tt))) (λ u qu. fold_q k vs u t q.1 qu)
        where
          go : (o : Outcome) (x : Result Given) → Tells o x → Gives Q o → ((u : Value) → Q u → Tells (fold_from (applied G s calls k) u vs) (fold_loop (λ ws. value k ws (constants_from_env f env)) (just (plain u)) vs))
              → Tells (then_out (λ w. fold_from (applied G s calls k) w vs) o) (fold_on (λ ws. value k ws (constants_from_env f env)) (λ acc. fold_loop (λ ws. value k ws (constants_from_env f env)) acc vs) x)
          go _ _ (gives u) qu h = h u qu
          go _ _ (errs d) qu h = errs d
          go _ _ panics qu h = panics

      folded : (k : ℕ) (vss : List (List Value)) (v : Value) → T (may_iterate f.nodes k 2) → 1 ≤ length vss → All (All Q) vss → Q v
          → Tells (fold_all G s calls k vss v) (fold_arrays (λ ws. value k ws (constants_from_env f env)) (just (plain v)) vss)
      folded k [] v t l q qv = absurd (omega arith)
      folded k (vs ∷ vss) v t l q qv = fold_q k vs v t q.0 qv

      single_several : (o : Outcome) → single (several o) ≡ o
      single_several (Out.Value v) = refl
      single_several (Out.Failure d) = refl
      single_several Out.Overflow = refl

      -- a fold: its arrays, then its seed, whose call sites stand before
      fold_follows : (k : ℕ) (e : Expr) (es : Exprs) (at bt j : ℕ) (seg : List ℕ) (c : States) → T (may_iterate f.nodes k 2) → PlainAll es → OkExprs es → Iterable f.nodes s.arrays G.arrays k es
          → Sites G p R N (callees e) j (take (seg_size G e) seg) c → Sites G p R N (callees_all es) (j + length (callees e)) (drop (seg_size G e) seg) c
          → Follows G p R N (Told (λ (vss : List (List Value)). vss)) (callees_all es) (j + length (callees e)) c (eval_each G s calls es (drop (seg_size G e) seg)).out (eval_each G s calls es (drop (seg_size G e) seg)).seg
          (Rust.eval_arrays f step value N.number env st bt es c)
          → ((d : States) → Sites G p R N (callees e) j (take (seg_size G e) seg) d
          → Follows G p R N Tells (callees e) j d (eval G s calls e (take (seg_size G e) seg)).out (eval G s calls e (take (seg_size G e) seg)).seg (Rust.eval f step value N.number env st at e d))
          → Gives Q (eval G s calls e (take (seg_size G e) seg)).out
          → let x = single_eval (enter (λ vss own. several_eval (map_eval (fold_all G s calls k vss) (eval G s calls e own))) (take (seg_size G e) seg) (eval_each G s calls es (drop (seg_size G e) seg))) in
          Follows G p R N Tells (callees e ++ callees_all es) j c x.out x.seg
          (then_res (Rust.eval_arrays f step value N.number env st bt es c) (λ arrs. if_equal (equal_lengths arrs) (λ d.
          then_res (Rust.eval f step value N.number env st at e d) (λ acc d. record { out = fold_arrays (λ ws. value k ws (constants_from_env f env)) acc arrs; calls = d }))))
      unfolding enter then_res if_equal
      fold_follows k e es at bt j seg c t pl a it mine theirs h sd qv =
          go each.out y.out h.out h.sites (each_kept G s calls sound.counts shaped es (drop (seg_size G e) seg) a) (each_meet sound s present before shaped es (drop (seg_size G e) seg) pl a theirs.good).out
        where
          own : List ℕ
          own = take (seg_size G e) seg

          each : Evaluated (List (List Value))
          each = eval_each G s calls es (drop (seg_size G e) seg)

          y : Res (List (List Value))
          y = Rust.eval_arrays f step value N.number env st bt es c

          mine' : Sites G p R N (callees e) j own y.calls
          mine' = keep_before (omega arith) h.frame mine

          only : Frame G N (callees e ++ callees_all es) j c y.calls
          only = record { same = λ key o. h.frame.same key (outside_parts G N (callees e) (callees_all es) j key o).1 }

          z : Res Given
          z = Rust.eval f step value N.number env st at e y.calls

          inner : (vss : List (List Value)) → Sites G p R N (callees_all es) (j + length (callees e)) each.seg y.calls → 1 ≤ length vss → All (All Q) vss
              → (o : Outcome) (r : Result Given) → Tells o r → Gives Q o → (Going r → Sites G p R N (callees e) j (eval G s calls e own).seg z.calls)
              → Follows G p R N Tells (callees e ++ callees_all es) j c (single (several (then_out (fold_all G s calls k vss) o))) ((eval G s calls e own).seg ++ each.seg)
              (then_on r z.calls (λ acc d. record { out = fold_arrays (λ ws. value k ws (constants_from_env f env)) acc vss; calls = d }))
          inner vss u l q o r tl qo w = go o r tl qo w
            where
              all_frame : Frame G N (callees e ++ callees_all es) j c z.calls
              all_frame = record { same = λ key o. let v = outside_parts G N (callees e) (callees_all es) j key o in (sd y.calls mine').frame.same key v.0 ∙ h.frame.same key v.1 }

              both : Sites G p R N (callees e) j (eval G s calls e own).seg z.calls → Sites G p R N (callees e ++ callees_all es) j ((eval G s calls e own).seg ++ each.seg) z.calls
              both m = sites_joined (callees e) m (keep_behind (omega arith) (sd y.calls mine').frame u)

              go : (o : Outcome) (r : Result Given) → Tells o r → Gives Q o → (Going r → Sites G p R N (callees e) j (eval G s calls e own).seg z.calls)
                  → Follows G p R N Tells (callees e ++ callees_all es) j c (single (several (then_out (fold_all G s calls k vss) o))) ((eval G s calls e own).seg ++ each.seg)
                  (then_on r z.calls (λ acc d. record { out = fold_arrays (λ ws. value k ws (constants_from_env f env)) acc vss; calls = d }))
              go _ _ (gives v) qo w =
                  record { out = subst (λ o. Tells o (fold_arrays (λ ws. value k ws (constants_from_env f env)) (just (plain v)) vss)) (sym (single_several (fold_all G s calls k vss v))) (folded k vss v t l q qo); sites = λ g2. both (w tt); frame = all_frame }
              go _ _ (errs d) qo w = record { out = errs d; sites = λ g2. both (w tt); frame = all_frame }
              go _ _ panics qo w = record { out = panics; sites = λ g2. absurd g2; frame = all_frame }

          go : (o : Results (List (List Value))) (r : Result (List (List Value))) → Told (λ (vss : List (List Value)). vss) o r
              → (Going r → Sites G p R N (callees_all es) (j + length (callees e)) each.seg y.calls) → EachIs (cell_counts f.nodes s.arrays G.arrays es) o → GivesOf (All (All Q)) o
              → Follows G p R N Tells (callees e ++ callees_all es) j c
              (single (enter_on (λ vss own. several_eval (map_eval (fold_all G s calls k vss) (eval G s calls e own))) own o each.seg).out)
              (enter_on (λ vss own. several_eval (map_eval (fold_all G s calls k vss) (eval G s calls e own))) own o each.seg).seg
              (then_on r y.calls (λ arrs. if_equal (equal_lengths arrs) (λ d.
              then_res (Rust.eval f step value N.number env st at e d) (λ acc d. record { out = fold_arrays (λ ws. value k ws (constants_from_env f env)) acc arrs; calls = d }))))
          go _ _ (told vss) u kept fine =
              subst (λ b. Follows G p R N Tells (callees e ++ callees_all es) j c (single (several (then_out (fold_all G s calls k vss) (eval G s calls e own).out))) ((eval G s calls e own).seg ++ each.seg)
              (if_equal b (λ d. then_res (Rust.eval f step value N.number env st at e d) (λ acc d. record { out = fold_arrays (λ ws. value k ws (constants_from_env f env)) acc vss; calls = d })) y.calls))
              (sym (all_equal it.1.0 es vss it.1.1 kept))
              (inner vss (u tt) (omega (arith, many es vss kept, it.2)) fine (eval G s calls e own).out z.out (sd y.calls mine').out qv (sd y.calls mine').sites)
          go _ _ (told_err d) u kept fine = record { out = errs d; sites = λ v. sites_joined (callees e) mine' (u tt); frame = only }
          go _ _ told_panic u kept fine = record { out = panics; sites = λ v. absurd v; frame = only }

      index_tells : (o : Option ℕ) (us : List Value) (v : Value) → Tells (index_of (is_some o) us v) (index_value (packed o us) (just (plain v)))
      index_tells none us v = scalar_index us (get_or us 0 no_value_of) v
      index_tells (some n) us v = index_is us v

      one_packed : (o : Option ℕ) (out : Outcomes) (r : Result Given) → CountIs (size_of o) out → Told (packed o) out r → Told (bundled (o ∷ [])) out r
      one_packed none out r k t = go _ _ t
        where
          go : (out : Outcomes) (r : Result Given) → Told (packed none) out r → Told (bundled (none ∷ [])) out r
          go _ _ (told us) = told us
          go _ _ (told_err d) = told_err d
          go _ _ told_panic = told_panic
      one_packed (some n) out r k t = go _ _ k t
        where
          go : (out : Outcomes) (r : Result Given) → CountIs n out → Told (packed (some n)) out r → Told (bundled (some n ∷ [])) out r
          go _ _ k (told us) = subst (λ l. Told (bundled (some n ∷ [])) (values us) (Ok (just (Array l)))) (take_all n us (omega arith)) (told us)
          go _ _ k (told_err d) = told_err d
          go _ _ k told_panic = told_panic

      abbrev lengths_of : Exprs → List ℕ
      lengths_of es = cell_counts f.nodes s.arrays G.arrays es

      each_lengths : (es : Exprs) (seg : List ℕ) (vss : List (List Value)) → OkExprs es → (eval_each G s calls es seg).out ≡ values vss → map length vss ≡ lengths_of es
      each_lengths es seg vss a e = subst (EachIs (lengths_of es)) e (each_kept G s calls sound.counts shaped es seg a)

      each_such : (es : Exprs) (seg : List ℕ) (vss : List (List Value)) → PlainAll es → OkExprs es → Good G p (callees_all es) seg → (eval_each G s calls es seg).out ≡ values vss → All (All Q) vss
      each_such es seg vss pl a g e = subst (GivesOf (All (All Q))) e (each_meet sound s present before shaped es seg pl a g).out

      mutual
        unfolding eval Rust.eval cast_value if_function if_equal

        -- a scalar expression
        pub eval_follows : (e : Expr) (at j : ℕ) (seg : List ℕ) (c : States) → Lie N.addr j (rust_calls_in at e) → Plain e → OkExpr e → Seen S e → Flatly e → shp e ≡ none → Sites G p R N (callees e) j seg c
            → Follows G p R N Tells (callees e) j c (eval G s calls e seg).out (eval G s calls e seg).seg (Rust.eval f step value N.number env st at e c)
        eval_follows (bool_lit b) at j seg c y q a n l o h = stays (gives (Val.Bool b)) h
        eval_follows (int_lit i) at j seg c y q a n l o h = stays (gives _) h
        eval_follows (float_lit b) at j seg c y q a n l o h = stays (gives _) h
        eval_follows (char_lit x) at j seg c y q a n l o h = stays (gives _) h
        eval_follows (var x) at j seg c y q a n l o h = stays (var_same x n o) h
        eval_follows (unary op e) at j seg c y q a n l o h =
            map_follows (callees e) j c (eval G s calls e seg) _ (unary_of op) (eval_unary op) (λ v. tells_in (unary_of op v) (unary_value op v) (unary_is op v)) (eval_follows e (suc at) j seg c y q a n l.1 l.0 h)
        eval_follows (binary op x r) at j seg c y q a n l o h =
            let w = sites_parts (callees x) h in
            let ys = lie_next N.addr x (suc at) _ j y in
            by_array (is_some (shp x)) (callees x ++ callees r) j c _ _ seg _
            (λ t.
            let u = some_of (shp x) t in
            let v = some_of (shp r) (sym l.0 ∙ t) in
            next_cells_follows arrayed (callees x) (callees r) j c _ _ _ _ _ (array_follows x u.0 (suc at) j _ c ys.0 q.0 a.0 n.0 l.1 u.1 w.0) w.1
            (λ us d k. cells_follow arrayed (callees r) (j + length (callees x)) d (eval_array G s calls r (drop (seg_size G x) seg)) _ (compare_cells op us) (eval_binary op (just (Array us))) (compare_is op us)
            (array_follows r v.0 (suc at + width x) (j + length (callees x)) _ d ys.1 q.1 a.1 n.1 l.2 v.1 k)))
            (λ t.
            next_such (callees x) (callees r) j c _ _ _ _ _ (eval_follows x (suc at) j _ c ys.0 q.0 a.0 n.0 l.1 (none_of (shp x) t) w.0) Q
            (eval_meets sound s present before shaped x (take (seg_size G x) seg) q.0 a.0 w.0.good).out w.1
            (λ v m d k. map_such (callees r) (j + length (callees x)) d (eval G s calls r (drop (seg_size G x) seg)) _ (binary_of op v) (eval_binary op (just (plain v)))
            Q (λ u m'. tells_in (binary_of op v u) (eval_values op v u) (binary_is op v u (backs v m) (backs u m')))
            (eval_meets sound s present before shaped r (drop (seg_size G x) seg) q.1 a.1 k.good).out (eval_follows r (suc at + width x) (j + length (callees x)) _ d ys.1 q.1 a.1 n.1 l.2 (none_of (shp r) (sym l.0 ∙ t)) k)))
        eval_follows (if_then_else x t e) at j seg c y q a n l o h =
            let w = sites_parts (callees x) h in
            let i = j + length (callees x) in
            let ys = lie_next N.addr x (suc at) _ j y in
            let zs = lie_next N.addr t (suc at + width x) _ i ys.1 in
            next_follows (callees x) (callees t ++ callees e) j c _ _ _ _ _ (eval_follows x (suc at) j _ c ys.0 q.0 a.0 n.0 l.1 l.0.0 w.0) w.1
            (λ v d k.
            let u = sites_parts (callees t) k in
            condition_follows (callees t ++ callees e) i d _ _ v _ k
            (λ b. choose_follows (callees t) (callees e) i d b _ _ _ _ u.0 u.1 (sym (calling_is t)) (doubles t n.1) (sym (calling_is e)) (doubles e n.2)
            (λ d h. eval_follows t (suc at + width x) i _ d zs.0 q.1 a.1 n.1 l.2 l.0.1 h) (λ d h. eval_follows e (suc at + width x + width t) (i + length (callees t)) _ d zs.1 q.2 a.2 n.2 l.3 l.0.2 h)))
        eval_follows (pre e) at j seg c y q a n l o h = stays (pre_same e n o) h
        eval_follows (arrow x b) at j seg c y q a n l o h =
            let w = sites_parts (callees x) h in
            let ys = lie_next N.addr x (suc at) _ j y in
            subst (λ t. Follows G p R N Tells (callees x ++ callees b) j c (eval G s calls (arrow x b) seg).out (eval G s calls (arrow x b) seg).seg
            (Rust.choose t (Rust.branch f step value N.number env st x (λ d. Rust.eval f step value N.number env st (suc at) x d)) (Rust.branch f step value N.number env st b (λ d. Rust.eval f step value N.number env st (suc at + width x) b d)) c))
            (sym agrees.first)
            (choose_follows (callees x) (callees b) j c s.first _ _ _ _ w.0 w.1 (sym (calling_is x)) (doubles x n.0) (sym (calling_is b)) (doubles b n.1)
            (λ d h. eval_follows x (suc at) j _ d ys.0 q.0 a.0 n.0 l.1 l.0.0 h) (λ d h. eval_follows b (suc at + width x) (j + length (callees x)) _ d ys.1 q.1 a.1 n.1 l.2 l.0.1 h))
        eval_follows (cast t e) at j seg c y q a n l o h =
            map_follows (callees e) j c (eval G s calls e seg) _ (cast_to t) (cast_value t) (λ v. tells_in (cast_to t v) (cast_plain t v) (cast_is t v)) (eval_follows e (suc at) j seg c y q a n l.1 l.0 h)
        eval_follows (call k es) at j seg c y q a n l o h =
            let u = one_output (node_at G k).outputs none l.0 o in
            let w = call_follows k es at j seg c y.0 a.0 q a.1 l.1 h (args_follow es (suc at) (suc j) _ c y.1 q a.1 n l.2 (sites_head h).2) in
            record {
              out = one_scalar (out_shapes k) _ _ u.0
                  (subst (λ m. CountIs m (enter (calls k) (take (record_size G k) seg) (eval_all G s calls es (drop (record_size G k) seg))).out) u.1 (rhs_count G s calls sound.counts shaped (call k es) seg a)) w.out;
              sites = w.sites;
              frame = w.frame;
            }
        eval_follows (tuple es) at j seg c y q a n l o h = absurd l
        eval_follows (index b i) at j seg c y q a n l o h =
            let w = sites_parts (callees b) h in
            let ys = lie_next N.addr b (suc at) _ j y in
            next_cells_follows (packed (shp b)) (callees b) (callees i) j c _ _ _ _ _
            (by_shape (shp b) (callees b) j c (λ q. eval_array G s calls b q) (λ q. eval G s calls b q) (take (seg_size G b) seg) _
            (λ z. eval_follows b (suc at) j _ c ys.0 q.0 a.0 n.0 l.1 z w.0) (λ m z. array_follows b m (suc at) j _ c ys.0 q.0 a.0 n.0 l.1 z w.0)) w.1
            (λ us d k. map_follows (callees i) (j + length (callees b)) d (eval G s calls i (drop (seg_size G b) seg)) _ (index_of (is_some (shp b)) us) (index_value (packed (shp b) us)) (index_tells (shp b) us)
            (eval_follows i (suc at + width b) (j + length (callees b)) _ d ys.1 q.1 a.1 n.1 l.2 l.0 k))
        eval_follows (literal es) at j seg c y q a n l o h = let z : ◌≡◌ {A = ℕ} 0 1 = cc in absurd (omega arith)
        eval_follows (map_over k es) at j seg c y q a n l o h = let z : ◌≡◌ {A = ℕ} 0 1 = cc in absurd (omega arith)
        eval_follows (fold_over k e es) at j seg c y q a n l o h =
            let w = sites_parts (callees e) h in
            let ys = lie_next N.addr e (suc at) _ j y in
            subst (λ t. Follows G p R N Tells (callees e ++ callees_all es) j c (eval G s calls (fold_over k e es) seg).out (eval G s calls (fold_over k e es) seg).seg
            (if_function t (λ c. then_res (Rust.eval_arrays f step value N.number env st (suc at + width e) es c) (λ arrs. if_equal (equal_lengths arrs) (λ d.
            then_res (Rust.eval f step value N.number env st (suc at) e d) (λ acc d. record { out = fold_arrays (λ ws. value k ws (constants_from_env f env)) acc arrs; calls = d })))) c))
            (sym l.1.0)
            (fold_follows k e es (suc at) (suc at + width e) j seg c a.0 q.1 a.2 l.1 w.0 w.1 (arrays_follow l.1.1.0 es (suc at + width e) (j + length (callees e)) _ c ys.1 q.1 a.2 n.1 l.3 l.1.1.1 w.1)
            (λ d k. eval_follows e (suc at) j _ d ys.0 q.0 a.1 n.0 l.2 l.0 k) (eval_meets sound s present before shaped e (take (seg_size G e) seg) q.0 a.1 w.0.good).out)

        -- an array
        pub array_follows : (e : Expr) (m at j : ℕ) (seg : List ℕ) (c : States) → Lie N.addr j (rust_calls_in at e) → Plain e → OkExpr e → Seen S e → Flatly e → shp e ≡ some m → Sites G p R N (callees e) j seg c
            → Follows G p R N (Told arrayed) (callees e) j c (eval_array G s calls e seg).out (eval_array G s calls e seg).seg (Rust.eval f step value N.number env st at e c)
        array_follows (bool_lit b) m at j seg c y q a n l o h = let z : ◌≡◌ {A = ℕ} 0 1 = cc in absurd (omega arith)
        array_follows (int_lit i) m at j seg c y q a n l o h = let z : ◌≡◌ {A = ℕ} 0 1 = cc in absurd (omega arith)
        array_follows (float_lit b) m at j seg c y q a n l o h = let z : ◌≡◌ {A = ℕ} 0 1 = cc in absurd (omega arith)
        array_follows (char_lit x) m at j seg c y q a n l o h = let z : ◌≡◌ {A = ℕ} 0 1 = cc in absurd (omega arith)
        array_follows (var x) m at j seg c y q a n l o h = stays (var_array x m n o) h
        array_follows (unary op e) m at j seg c y q a n l o h = let z : ◌≡◌ {A = ℕ} 0 1 = cc in absurd (omega arith)
        array_follows (binary op x r) m at j seg c y q a n l o h = let z : ◌≡◌ {A = ℕ} 0 1 = cc in absurd (omega arith)
        array_follows (if_then_else x t e) m at j seg c y q a n l o h = let z : ◌≡◌ {A = ℕ} 0 1 = cc in absurd (omega arith)
        array_follows (pre e) m at j seg c y q a n l o h = stays (pre_array e m n o) h
        array_follows (arrow x b) m at j seg c y q a n l o h = let z : ◌≡◌ {A = ℕ} 0 1 = cc in absurd (omega arith)
        array_follows (cast t e) m at j seg c y q a n l o h = let z : ◌≡◌ {A = ℕ} 0 1 = cc in absurd (omega arith)
        array_follows (call k es) m at j seg c y q a n l o h =
            let u = one_output (node_at G k).outputs (some m) l.0 o in
            let w = call_follows k es at j seg c y.0 a.0 q a.1 l.1 h (args_follow es (suc at) (suc j) _ c y.1 q a.1 n l.2 (sites_head h).2) in
            record {
              out = one_array (out_shapes k) m _ _ u.0
                  (subst (λ m. CountIs m (enter (calls k) (take (record_size G k) seg) (eval_all G s calls es (drop (record_size G k) seg))).out) u.1 (rhs_count G s calls sound.counts shaped (call k es) seg a)) w.out;
              sites = w.sites;
              frame = w.frame;
            }
        array_follows (tuple es) m at j seg c y q a n l o h = absurd l
        array_follows (index b i) m at j seg c y q a n l o h = let z : ◌≡◌ {A = ℕ} 0 1 = cc in absurd (omega arith)
        array_follows (literal es) m at j seg c y q a n l o h =
            done_follows (map first_cell) arrayed (callees_all es) j c _ _ _ flatten (λ us c. record { out = Ok (just (Array us)); calls = c }) (items_follow es (suc at) j seg c y q a.1 n l.1 l.0 h)
            (λ vss e c. (
              Ok (just (Array (map first_cell vss))),
              refl,
              subst (λ us. Told arrayed (values (concat vss)) (Ok (just (Array us)))) (sym (heads_flat es vss l.0 (each_lengths es seg vss a.1 e))) (told (concat vss)),
            ))
        array_follows (map_over k es) m at j seg c y q a n l o h =
            subst (λ t. Follows G p R N (Told arrayed) (callees_all es) j c (eval_array G s calls (map_over k es) seg).out (eval_array G s calls (map_over k es) seg).seg
            (if_function t (λ c. then_res (Rust.eval_arrays f step value N.number env st (suc at) es c) (λ arrs. if_equal (equal_lengths arrs) (λ d.
            record { out = ok_array (map_loop (λ ws. value k ws (constants_from_env f env)) arrs 0 (length (get_or arrs 0 []))); calls = d }))) c))
            (sym l.0.0)
            (done_follows (λ (vss : List (List Value)). vss) arrayed (callees_all es) j c _ _ _ (map_all G s calls k)
            (λ arrs. if_equal (equal_lengths arrs) (λ d. record { out = ok_array (map_loop (λ ws. value k ws (constants_from_env f env)) arrs 0 (length (get_or arrs 0 []))); calls = d }))
            (arrays_follow l.0.1.0 es (suc at) j seg c y q a.2 n l.1 l.0.1.1 h)
            (λ vss e c.
            let lens = each_lengths es seg vss a.2 e in (
              ok_array (map_loop (λ ws. value k ws (constants_from_env f env)) vss 0 (length (get_or vss 0 []))),
              ap (λ b. if_equal b (λ d. record { out = ok_array (map_loop (λ ws. value k ws (constants_from_env f env)) vss 0 (length (get_or vss 0 []))); calls = d }) c) (all_equal l.0.1.0 es vss l.0.1.1 lens),
              mapped k es vss a.0 l.0 lens (each_such es seg vss q a.2 h.good e),
            )))
        array_follows (fold_over k e es) m at j seg c y q a n l o h = let z : ◌≡◌ {A = ℕ} 0 1 = cc in absurd (omega arith)

        pub args_follow : (es : Exprs) (at j : ℕ) (seg : List ℕ) (c : States) → Lie N.addr j (calls_all at es) → PlainAll es → OkExprs es → SeenAll S es → FlatlyAll es → Sites G p R N (callees_all es) j seg c
            → Follows G p R N (Told (pack_each (shps es))) (callees_all es) j c (eval_each G s calls es seg).out (eval_each G s calls es seg).seg (Rust.eval_args f step value N.number env st at es c)
        args_follow nil at j seg c y q a n l h = stays (told []) h
        args_follow (cons e es) at j seg c y q a n l h =
            let w = sites_parts (callees e) h in
            let ys = lie_next N.addr e at _ j y in
            push_follows value_in (packed (shp e)) (pack_one (shp e)) (pack_each (shp e ∷ shps es)) (pack_each (shps es)) (λ vs. refl) (λ vs vss. refl) (callees e) (callees_all es) j c _ _ _ _ _
            (by_shape (shp e) (callees e) j c (λ q. eval_array G s calls e q) (λ q. eval G s calls e q) (take (seg_size G e) seg) _
            (λ z. eval_follows e at j _ c ys.0 q.0 a.0 n.0 l.0 z w.0) (λ m z. array_follows e m at j _ c ys.0 q.0 a.0 n.0 l.0 z w.0)) w.1
            (λ d k. args_follow es (at + width e) (j + length (callees e)) _ d ys.1 q.1 a.1 n.1 l.1 k)

        items_follow : (es : Exprs) (at j : ℕ) (seg : List ℕ) (c : States) → Lie N.addr j (calls_all at es) → PlainAll es → OkExprs es → SeenAll S es → FlatlyAll es → AllScalar f.nodes s.arrays G.arrays es → Sites G p R N (callees_all es) j seg c
            → Follows G p R N (Told (map first_cell)) (callees_all es) j c (eval_each G s calls es seg).out (eval_each G s calls es seg).seg (Rust.eval_items f step value N.number env st at es c)
        items_follow nil at j seg c y q a n l o h = stays (told []) h
        items_follow (cons e es) at j seg c y q a n l o h =
            let w = sites_parts (callees e) h in
            let ys = lie_next N.addr e at _ j y in
            push_follows plain_in (packed (shp e)) first_cell (map first_cell) (map first_cell) (λ vs. ap (λ x. plain_in (packed x vs)) o.0) (λ vs vss. refl) (callees e) (callees_all es) j c _ _ _ _ _
            (by_shape (shp e) (callees e) j c (λ q. eval_array G s calls e q) (λ q. eval G s calls e q) (take (seg_size G e) seg) _
            (λ z. eval_follows e at j _ c ys.0 q.0 a.0 n.0 l.0 z w.0) (λ m z. array_follows e m at j _ c ys.0 q.0 a.0 n.0 l.0 z w.0)) w.1
            (λ d k. items_follow es (at + width e) (j + length (callees e)) _ d ys.1 q.1 a.1 n.1 l.1 o.1 k)

        arrays_follow : (m : ℕ) (es : Exprs) (at j : ℕ) (seg : List ℕ) (c : States) → Lie N.addr j (calls_all at es) → PlainAll es → OkExprs es → SeenAll S es → FlatlyAll es → AllLong f.nodes s.arrays G.arrays m es → Sites G p R N (callees_all es) j seg c
            → Follows G p R N (Told (λ (vss : List (List Value)). vss)) (callees_all es) j c (eval_each G s calls es seg).out (eval_each G s calls es seg).seg (Rust.eval_arrays f step value N.number env st at es c)
        arrays_follow m nil at j seg c y q a n l o h = stays (told []) h
        arrays_follow m (cons e es) at j seg c y q a n l o h =
            let w = sites_parts (callees e) h in
            let ys = lie_next N.addr e at _ j y in
            push_follows array_in (packed (shp e)) (λ vs. vs) (λ vss. vss) (λ vss. vss) (λ vs. ap (λ x. array_in (packed x vs)) o.0) (λ vs vss. refl) (callees e) (callees_all es) j c _ _ _ _ _
            (by_shape (shp e) (callees e) j c (λ q. eval_array G s calls e q) (λ q. eval G s calls e q) (take (seg_size G e) seg) _
            (λ z. eval_follows e at j _ c ys.0 q.0 a.0 n.0 l.0 z w.0) (λ m z. array_follows e m at j _ c ys.0 q.0 a.0 n.0 l.0 z w.0)) w.1
            (λ d k. arrays_follow m es (at + width e) (j + length (callees e)) _ d ys.1 q.1 a.1 n.1 l.1 o.1 k)

      -- an expression, scalar or array
      pub cells_follows : (e : Expr) (at j : ℕ) (seg : List ℕ) (c : States) → Lie N.addr j (rust_calls_in at e) → Plain e → OkExpr e → Seen S e → Flatly e → Sites G p R N (callees e) j seg c
          → Follows G p R N (Told (packed (shp e))) (callees e) j c (eval_cells G s calls e seg).out (eval_cells G s calls e seg).seg (Rust.eval f step value N.number env st at e c)
      cells_follows e at j seg c y q a n l h =
          by_shape (shp e) (callees e) j c (λ q. eval_array G s calls e q) (λ q. eval G s calls e q) seg _ (λ z. eval_follows e at j seg c y q a n l z h) (λ m z. array_follows e m at j seg c y q a n l z h)

      -- a right side of these shapes
      pub rhs_follows : (e : Expr) (os : List (Option ℕ)) (at j : ℕ) (seg : List ℕ) (c : States) → Lie N.addr j (rust_calls_in at e) → Plain e → OkExpr e → Seen S e → FlatRight f.nodes s.arrays G.arrays os (rhs_of e) → Sites G p R N (callees e) j seg c
          → Follows G p R N (Told (bundled os)) (callees e) j c (eval_rhs G s calls (rhs_of e) seg).out (eval_rhs G s calls (rhs_of e) seg).seg (Rust.eval f step value N.number env st at e c)
      unfolding Rust.eval
      rhs_follows =
          by_right (λ e r. (os : List (Option ℕ)) (at j : ℕ) (seg : List ℕ) (c : States) → Lie N.addr j (rust_calls_in at e) → Plain e → OkExpr e → Seen S e → FlatRight f.nodes s.arrays G.arrays os r → Sites G p R N (callees e) j seg c
          → Follows G p R N (Told (bundled os)) (callees e) j c (eval_rhs G s calls r seg).out (eval_rhs G s calls r seg).seg (Rust.eval f step value N.number env st at e c))
          (λ e os at j seg c y q a n l h.
          let w = cells_follows e at j seg c y q a n l.1 h in
          subst (λ os. Follows G p R N (Told (bundled os)) (callees e) j c (eval_cells G s calls e seg).out (eval_cells G s calls e seg).seg (Rust.eval f step value N.number env st at e c)) l.0
          (record { out = one_packed (shp e) _ _ (cells_kept G s calls sound.counts shaped e seg a) w.out; sites = w.sites; frame = w.frame }))
          (λ k es os at j seg c y q a n l h.
          subst (λ os. Follows G p R N (Told (bundled os)) (k ∷ callees_all es) j c (eval_rhs G s calls (outputs_of k es) seg).out (eval_rhs G s calls (outputs_of k es) seg).seg (Rust.eval f step value N.number env st at (call k es) c)) l.0
          (call_follows k es at j seg c y.0 a.0 q a.1 l.1 h (args_follow es (suc at) (suc j) _ c y.1 q a.1 n l.2 (sites_head h).2)))
          (λ es os at j seg c y q a n l h.
          done_follows (pack_each (shps es)) (bundled os) (callees_all es) j c _ _ _ flatten (λ us c. record { out = Ok (Tuple us); calls = c }) (args_follow es (suc at) j seg c y q a n l.2 h)
          (λ vss e c.
          let lens = each_lengths es seg vss a e ∙ counts_are es in (
            Ok (Tuple (pack_each (shps es) vss)),
            refl,
            subst (λ g. Told (bundled os) (values (concat vss)) (Ok g))
                (ap tuple_unless_one (ap (λ os. pack_all os (concat vss)) (sym l.1) ∙ pack_flat (shps es) vss lens) ∙ tuple_many (pack_each (shps es) vss) (omega (arith, pack_length (shps es) vss lens, count_of es, l.0)))
                (told (concat vss)),
          )))
