-- How deep the Rust's calls may go does not matter, once it suffices: specs/AsRust's claim.
use Prim.Native.Nat.{ℕ, zero, suc, ◌<◌}
use mathlib.Core.Bool.{Bool, true, false}
use mathlib.Core.List.Memᴰ.{append_left as in_left}
use mathlib.Core.List.Memᴰ.{append_right as in_right}
use mathlib.Core.List.Memᴰ.{head as here}
use mathlib.Core.List.Memᴰ.{tail as there}
use mathlib.Core.List.{List, [], ◌∷◌, ◌++◌}
use mathlib.Core.Option.{Option, none, some}
use mathlib.Core.Path.{◌≡◌, refl, ap, ap₂, ◌∙◌}
use native.Mathlib.Omega.{arith}
use lib.ListN.{length, get_or}
use lib.Dec.{eqb}
use Rattle.ol_theory.specs.Member.{◌∈◌}
use Rattle.ol_spec.specs.Lists.{maybe}
use Rattle.ol_spec.specs.Syntax.{NodeKind, Function, Operator, Imported, Node, File, no_node, Expr, bool_lit, int_lit, float_lit, char_lit, var, unary, binary, if_then_else, pre, arrow, cast, call, tuple, index, literal, map_over, fold_over, Exprs, nil, cons, count}
use Rattle.ol_spec.specs.Limits.{Loader}
use Rattle.ol_spec.specs.Step.{equation_at}
use Rattle.ol_spec.specs.RustOrder.{evaluation_order}
use Rattle.ol_spec.specs.RustSim.{Env, Key, State, States, no_states, get_state, remove_state, child_calls, prev, default_state, RValue, plain, Given, other_error, Result, Ok, Err, Panic, value_in, Res, then_on, then_res, push_picked, push_on, push, if_bool_on, if_bool, step_untaken, Branch, choose, StepInstance, CallValues, if_function, if_equal, equal_lengths, elements, push_element, map_loop, fold_on, fold_loop, fold_arrays, ok_array, constants_from_env, find_node, call_kind, call_arity, eval_call, eval, eval_args, eval_items, eval_arrays, bound_on, bind_on, bind_next, bind_lhs, Ran, for_order, reseed, callee_env, end_function, end_operator, step_kind, step_ordered, call_ordered, values_arity, step_instance, call_function_values}
use Rattle.ol_spec.specs.RustSim as Rust
use Rattle.ol_spec.specs.RustLeaves.{bool_in, plain_in, array_in}
use Rattle.ol_spec.specs.AsRust.{DepthClaim}
use Rattle.ol_spec.specs.declared.Value.{Value}
use Rattle.ol_spec.proofs.Forms.{uses, uses_all, used_by, use_in}
use Rattle.ol_spec.proofs.Admitted.{admitted_facts}

-- ---- results one after the other

then_same : {A B : Type 0} (x x' : Res A) (k k' : A → States → Res B) → x ≡ x' → ((v : A) (c : States) → k v c ≡ k' v c) → then_res x k ≡ then_res x' k'
unfolding then_res
then_same {A} {B} x x' k k' e h = go x.out x.calls ∙ ap (λ (y : Res A). then_on y.out y.calls k') e
  where
    go : (o : Result A) (c : States) → then_on o c k ≡ then_on o c k'
    go (Ok v) c = h v c
    go (Err e) c = refl
    go Panic c = refl

push_same : {A : Type 0} (pick : Given → Option A) (x x' : Res Given) (k k' : States → Res (List A)) → x ≡ x' → ((c : States) → k c ≡ k' c) → push pick x k ≡ push pick x' k'
unfolding push
push_same {A} pick x x' k k' e h = go x.out x.calls ∙ ap (λ (y : Res Given). push_on pick y.out y.calls k') e
  where
    picked : (o : Option A) (c : States) → push_picked o c k ≡ push_picked o c k'
    picked none c = refl
    picked (some v) c = ap (λ r. push_picked (some v) c (λ d. r)) (h c)

    go : (o : Result Given) (c : States) → push_on pick o c k ≡ push_on pick o c k'
    go (Ok v) c = picked (pick v) c
    go (Err e) c = refl
    go Panic c = refl

if_same : (k k' : Bool → States → Res Given) (v : Given) (c : States) → ((b : Bool) → k b c ≡ k' b c) → if_bool k v c ≡ if_bool k' v c
unfolding if_bool
if_same k k' v c h = go (maybe none bool_in (plain_in v))
  where
    go : (o : Option Bool) → if_bool_on k o c ≡ if_bool_on k' o c
    go none = refl
    go (some b) = h b

function_same : (t : NodeKind) (r r' : States → Res Given) (c : States) → ((c : States) → r c ≡ r' c) → if_function t r c ≡ if_function t r' c
unfolding if_function
function_same Function r r' c h = h c
function_same Operator r r' c h = refl
function_same Imported r r' c h = refl

equal_same : (b : Bool) (r r' : States → Res Given) (c : States) → ((c : States) → r c ≡ r' c) → if_equal b r c ≡ if_equal b r' c
unfolding if_equal
equal_same true r r' c h = h c
equal_same false r r' c h = refl

map_same : (h h' : List RValue → Result Given) (arrs : List (List Value)) (k n : ℕ) → ((ws : List RValue) → h ws ≡ h' ws) → map_loop h arrs k n ≡ map_loop h' arrs k n
unfolding map_loop
map_same h h' arrs k zero e = refl
map_same h h' arrs k (suc n) e = ap₂ push_element (e (elements k arrs)) (map_same h h' arrs (suc k) n e)

fold_same : (h h' : List RValue → Result Given) (acc : Given) (vs : List Value) → ((ws : List RValue) → h ws ≡ h' ws) → fold_loop h acc vs ≡ fold_loop h' acc vs
unfolding fold_loop
fold_same h h' acc [] e = refl
fold_same h h' acc (v ∷ vs) e = ap (fold_on h (λ acc. fold_loop h acc vs)) (once (value_in acc)) ∙ go (maybe (Err other_error) (λ a. h' (a ∷ plain v ∷ [])) (value_in acc)) (λ a. fold_same h h' a vs e)
  where
    once : (o : Option RValue) → maybe (Err other_error) (λ a. h (a ∷ plain v ∷ [])) o ≡ maybe (Err other_error) (λ a. h' (a ∷ plain v ∷ [])) o
    once none = refl
    once (some a) = e (a ∷ plain v ∷ [])

    go : (x : Result Given) → ((a : Given) → fold_loop h a vs ≡ fold_loop h' a vs) → fold_on h (λ acc. fold_loop h acc vs) x ≡ fold_on h' (λ acc. fold_loop h' acc vs) x
    go (Ok a) k = k a
    go (Err d) k = refl
    go Panic k = refl

arrays_same : (h h' : List RValue → Result Given) (acc : Given) (arrs : List (List Value)) → ((ws : List RValue) → h ws ≡ h' ws) → fold_arrays h acc arrs ≡ fold_arrays h' acc arrs
arrays_same h h' acc [] e = refl
arrays_same h h' acc (a ∷ as') e = fold_same h h' acc a e

abbrev with_run : Branch → (States → Res Given) → Branch
with_run b run = record { rust_has_call = b.rust_has_call; double = b.double; run = run }

untaken_same : (t : Bool) (r r' : States → Res Given) (v : Given) (c : States) → ((c : States) → r c ≡ r' c) → step_untaken t r v c ≡ step_untaken t r' v c
unfolding step_untaken
untaken_same true r r' v c h = ap (λ (x : Res Given). step_untaken true (λ d. x) v c) (h c)
untaken_same false r r' v c h = refl

choose_same : (t : Bool) (a b : Branch) (r r' q q' : States → Res Given) (c : States) → ((c : States) → r c ≡ r' c) → ((c : States) → q c ≡ q' c)
    → choose t (with_run a r) (with_run b q) c ≡ choose t (with_run a r') (with_run b q') c
unfolding choose
choose_same true a b r r' q q' c h k = then_same (r c) (r' c) _ _ (h c) (λ v c. untaken_same b.rust_has_call q q' _ c k)
choose_same false a b r r' q q' c h k = then_same (q c) (q' c) _ _ (k c) (λ v c. untaken_same a.rust_has_call r r' _ c h)

-- ---- two meanings of calls that agree on the nodes below b

module _ (f : File) (b : ℕ) (s s' : StepInstance) (same : (key : Key) (k : ℕ) (ws : List RValue) (c : States) (env : Env) → k < b → s key k ws c env ≡ s' key k ws c env)
    (v v' : CallValues) (same-v : (k : ℕ) (ws : List RValue) (env : Env) → k < b → v k ws env ≡ v' k ws env) (N : ℕ) (env : Env) (st : State) where
  abbrev Below : List ℕ → Type 0
  Below l = (c : ℕ) → c ∈ l → c < b

  call_same : (key : Key) (k m : ℕ) (x x' : States → Res (List RValue)) (c : States) → k < b → ((c : States) → x c ≡ x' c) → eval_call f s v N env st key k m x c ≡ eval_call f s' v' N env st key k m x' c
  unfolding eval_call
  call_same key k m x x' c l h = go (eqb m (length (find_node f k).inputs)) (find_node f k).kind
    where
      entered : then_res (x c) (λ vs c. s key k vs c env) ≡ then_res (x' c) (λ vs c. s' key k vs c env)
      entered = then_same (x c) (x' c) _ _ (h c) (λ vs d. same key k vs d env l)

      kinds : (t : NodeKind) → call_kind f s v N env st t key k x c ≡ call_kind f s' v' N env st t key k x' c
      kinds Function = entered
      kinds Operator = entered
      kinds Imported = refl

      go : (e : Bool) (t : NodeKind) → call_arity f s v N env st e key k x c ≡ call_arity f s' v' N env st e key k x' c
      go true t = kinds (find_node f k).kind
      go false t = refl

  mutual
    unfolding eval

    pub eval_same : (e : Expr) (j : ℕ) (c : States) → Below (uses e) → eval f s v N env st j e c ≡ eval f s' v' N env st j e c
    eval_same (bool_lit x) j c l = refl
    eval_same (int_lit i) j c l = refl
    eval_same (float_lit x) j c l = refl
    eval_same (char_lit x) j c l = refl
    eval_same (var x) j c l = refl
    eval_same (unary op e) j c l = then_same _ _ _ _ (eval_same e _ c l) (λ w d. refl)
    eval_same (binary op a r) j c l =
        then_same _ _ _ _ (eval_same a _ c (λ x m. l x (in_left (uses r) m)))
        (λ w d. then_same _ _ _ _ (eval_same r _ d (λ x m. l x (in_right (uses a) m))) (λ u d. refl))
    eval_same (if_then_else x t e) j c l =
        then_same _ _ _ _ (eval_same x _ c (λ y m. l y (in_left (uses t ++ uses e) m)))
        (λ w d. if_same _ _ w d
        (λ u. choose_same u (Rust.branch f s v N env st t (λ d. eval f s v N env st j t d)) (Rust.branch f s v N env st e (λ d. eval f s v N env st j e d)) _ _ _ _ d
        (λ d. eval_same t _ d (λ y m. l y (in_right (uses x) (in_left (uses e) m)))) (λ d. eval_same e _ d (λ y m. l y (in_right (uses x) (in_right (uses t) m))))))
    eval_same (pre e) j c l = refl
    eval_same (arrow a r) j c l =
        choose_same (Rust.first_tick st) (Rust.branch f s v N env st a (λ d. eval f s v N env st j a d)) (Rust.branch f s v N env st r (λ d. eval f s v N env st j r d)) _ _ _ _ c
        (λ d. eval_same a _ d (λ x m. l x (in_left (uses r) m))) (λ d. eval_same r _ d (λ x m. l x (in_right (uses a) m)))
    eval_same (cast t e) j c l = then_same _ _ _ _ (eval_same e _ c l) (λ w d. refl)
    eval_same (call k es) j c l = call_same (N, j) k (count es) _ _ c (l k (here refl)) (λ d. args_same es (suc j) d (λ x m. l x (there m)))
    eval_same (tuple es) j c l = then_same _ _ _ _ (args_same es _ c l) (λ vs d. refl)
    eval_same (index a r) j c l =
        then_same _ _ _ _ (eval_same a _ c (λ x m. l x (in_left (uses r) m)))
        (λ w d. then_same _ _ _ _ (eval_same r _ d (λ x m. l x (in_right (uses a) m))) (λ u d. refl))
    eval_same (literal es) j c l = then_same _ _ _ _ (items_same es _ c l) (λ vs d. refl)
    eval_same (map_over k es) j c l =
        function_same (find_node f k).kind _ _ c (λ c. then_same _ _ _ _ (arrs_same es _ c (λ x m. l x (there m)))
        (λ arrs d. equal_same (equal_lengths arrs) _ _ d
        (λ d. ap (λ r. record { out = ok_array r; calls = d }) (map_same _ _ arrs 0 (length (get_or arrs 0 [])) (λ ws. same-v k ws (constants_from_env f env) (l k (here refl)))))))
    eval_same (fold_over k e es) j c l =
        function_same (find_node f k).kind _ _ c (λ c. then_same _ _ _ _ (arrs_same es _ c (λ x m. l x (there (in_right (uses e) m))))
        (λ arrs d. equal_same (equal_lengths arrs) _ _ d (λ d. then_same _ _ _ _ (eval_same e _ d (λ x m. l x (there (in_left (uses_all es) m))))
        (λ acc d. ap (λ r. record { out = r; calls = d }) (arrays_same _ _ acc arrs (λ ws. same-v k ws (constants_from_env f env) (l k (here refl))))))))

    args_same : (es : Exprs) (j : ℕ) (c : States) → Below (uses_all es) → eval_args f s v N env st j es c ≡ eval_args f s' v' N env st j es c
    args_same nil j c l = refl
    args_same (cons e es) j c l = push_same value_in _ _ _ _ (eval_same e _ c (λ x m. l x (in_left (uses_all es) m))) (λ d. args_same es _ d (λ x m. l x (in_right (uses e) m)))

    items_same : (es : Exprs) (j : ℕ) (c : States) → Below (uses_all es) → eval_items f s v N env st j es c ≡ eval_items f s' v' N env st j es c
    items_same nil j c l = refl
    items_same (cons e es) j c l = push_same plain_in _ _ _ _ (eval_same e _ c (λ x m. l x (in_left (uses_all es) m))) (λ d. items_same es _ d (λ x m. l x (in_right (uses e) m)))

    arrs_same : (es : Exprs) (j : ℕ) (c : States) → Below (uses_all es) → eval_arrays f s v N env st j es c ≡ eval_arrays f s' v' N env st j es c
    arrs_same nil j c l = refl
    arrs_same (cons e es) j c l = push_same array_in _ _ _ _ (eval_same e _ c (λ x m. l x (in_left (uses_all es) m))) (λ d. arrs_same es _ d (λ x m. l x (in_right (uses e) m)))

-- ---- equations and instances

bind_same : (f : File) (n : Node) (i : ℕ) (r r' : Res Given) (k k' : Env → States → Ran) (env : Env) → r ≡ r' → ((e : Env) (c : States) → k e c ≡ k' e c)
    → bind_next f n i r k env ≡ bind_next f n i r' k' env
unfolding bind_next
bind_same f n i r r' k k' env e h = go r.out ∙ ap (λ (y : Res Given). bind_on f n i y.out y.calls k' env) e
  where
    stored : (o : Option Env) → bound_on f i o k env r.calls ≡ bound_on f i o k' env r.calls
    stored none = refl
    stored (some e) = h e r.calls

    go : (o : Result Given) → bind_on f n i o r.calls k env ≡ bind_on f n i o r.calls k' env
    go (Ok v) = stored (bind_lhs f n (equation_at n i).names v env)
    go (Err e) = refl
    go Panic = refl

module _ (f : File) (lower : (k c : ℕ) → c ∈ used_by (get_or f.nodes k no_node) → c < k) where
  for_same : (k : ℕ) (s s' : StepInstance) → ((key : Key) (c : ℕ) (ws : List RValue) (calls : States) (env : Env) → c < k → s key c ws calls env ≡ s' key c ws calls env)
      → (v v' : CallValues) → ((c : ℕ) (ws : List RValue) (env : Env) → c < k → v c ws env ≡ v' c ws env)
      → (st : State) (is : List ℕ) (env : Env) (calls : States)
      → for_order f s v k (find_node f k) st is env calls ≡ for_order f s' v' k (find_node f k) st is env calls
  unfolding for_order
  for_same k s s' same v v' same-v st [] env calls = refl
  for_same k s s' same v v' same-v st (i ∷ is) env calls =
      bind_same f (find_node f k) i _ _ _ _ env
      (eval_same f k s s' same v v' same-v k env st (equation_at (find_node f k) i).rhs _ calls (λ c m. lower k c (use_in (find_node f k).equations i c m)))
      (λ e c. for_same k s s' same v v' same-v st is e c)

  abbrev Same : ℕ → ℕ → ℕ → Type 0
  Same d d' k =
      ((key : Key) (ws : List RValue) (calls : States) (env : Env) → step_instance f d key k ws calls env ≡ step_instance f d' key k ws calls env)
      × ((ws : List RValue) (env : Env) → call_function_values f d k ws env ≡ call_function_values f d' k ws env)

  pub depth_same : (d d' k : ℕ) → k < d → k < d' → Same d d' k
  unfolding step_instance
  depth_same zero d' k h h' = absurd (omega arith)
  depth_same (suc d) zero k h h' = absurd (omega arith)
  depth_same (suc d) (suc d') k h h' =
      let loops : (st : State) (is : List ℕ) (env : Env) (calls : States)
      → for_order f (step_instance f d) (call_function_values f d) k (find_node f k) st is env calls ≡ for_order f (step_instance f d') (call_function_values f d') k (find_node f k) st is env calls =
      λ st is env calls. for_same k (step_instance f d) (step_instance f d') (λ key c ws calls env l. (depth_same d d' c (omega arith) (omega arith)).0 key ws calls env)
      (call_function_values f d) (call_function_values f d') (λ c ws env l. (depth_same d d' c (omega arith) (omega arith)).1 ws env) st is env calls in
      (λ key ws calls env. go key ws calls env (evaluation_order (find_node f k)) loops, λ ws env. values ws env (evaluation_order (find_node f k)) loops)
    where
      n : Node
      n = find_node f k

      go : (key : Key) (ws : List RValue) (calls : States) (env : Env) (o : Option (List ℕ))
          → ((st : State) (is : List ℕ) (env : Env) (calls : States)
          → for_order f (step_instance f d) (call_function_values f d) k n st is env calls ≡ for_order f (step_instance f d') (call_function_values f d') k n st is env calls)
          → step_ordered f (step_instance f d) (call_function_values f d) o key k n (callee_env f n ws env) calls ≡ step_ordered f (step_instance f d') (call_function_values f d') o key k n (callee_env f n ws env) calls
      go key ws calls env none q = refl
      go key ws calls env (some is) q = kinds n.kind
        where
          kinds : (t : NodeKind) → step_kind f (step_instance f d) (call_function_values f d) t key k n is (callee_env f n ws env) calls ≡ step_kind f (step_instance f d') (call_function_values f d') t key k n is (callee_env f n ws env) calls
          kinds Function = ap (end_function f n) (q default_state is (callee_env f n ws env) calls)
          kinds Operator =
              let sub = maybe default_state (λ s. s) (get_state key calls) in
              ap (λ r. end_operator f n key sub r (remove_state key calls)) (q sub is (reseed f (prev sub) (n.outputs ++ n.locals) (callee_env f n ws env)) (child_calls sub))
          kinds Imported = refl

      values : (ws : List RValue) (env : Env) (o : Option (List ℕ))
          → ((st : State) (is : List ℕ) (env : Env) (calls : States)
          → for_order f (step_instance f d) (call_function_values f d) k n st is env calls ≡ for_order f (step_instance f d') (call_function_values f d') k n st is env calls)
          → values_arity f (eqb (length ws) (length n.inputs)) (call_ordered f (step_instance f d) (call_function_values f d) o k n (callee_env f n ws env))
          ≡ values_arity f (eqb (length ws) (length n.inputs)) (call_ordered f (step_instance f d') (call_function_values f d') o k n (callee_env f n ws env))
      values ws env none q = refl
      values ws env (some is) q = ap (λ r. values_arity f (eqb (length ws) (length n.inputs)) (end_function f n r).out) (q default_state is (callee_env f n ws env) no_states)

pub depth_claim : (ld : Loader) → DepthClaim ld
unfolding DepthClaim
depth_claim ld s f vs bytes e d h key k args calls env b =
    let w = depth_same f (admitted_facts ld s f vs bytes e).callable.lower_used d (length f.nodes) k (omega arith) b in
    (w.0 key args calls env, w.1 args env)
