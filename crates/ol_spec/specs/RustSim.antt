-- The Rust of docs/src/crates/ol_sim/src/lib.rs, function by function and under its names (with `rust_` before where evaluation has the same), for what document 01 keeps of it. The tree of a
-- file stands for the `Project`.
-- `&mut` is a result: an evaluation gives the `call_states` that it leaves, also with an `Err`. `state` is read only.
use Rattle.std.specs.Prelude.{ℕ, zero, suc, ◌+◌, ◌-◌, Bool, true, false, ◌&&◌, cond, List, [], ◌∷◌, ◌++◌, map, length, get_or, eqb, pos}
use Rattle.std.proofs.Math.Option.{Option, none, some}
use Rattle.ol_spec.specs.Lists.{maybe, or_else, concat, is_empty, member, all_of}
use Rattle.ol_spec.specs.Real as R
use Rattle.ol_spec.specs.Syntax.{VarTy, NodeKind, Function, Operator, Imported, Variable, Equation, Node, Constant, File, no_node, main, variables, name_in}
use Rattle.ol_spec.specs.Syntax.{count, Expr, bool_lit, int_lit, float_lit, char_lit, var, unary, binary, if_then_else, pre, arrow, cast, call, tuple, index, literal, map_over, fold_over, Exprs, nil, cons}
use Rattle.ol_spec.specs.RustLeaves.{bool_in, plain_in, array_in, eval_binary, eval_unary, index_value, cast_value, fit_to, rust_default_of, join_kinds, of_scalar, of_type, of_value, is_arithmetic, is_double, widen_beside, rust_has_call}
pub use Rattle.ol_spec.specs.RustLeaves.{RValue, plain, Array, Given, just, Tuple, SimError, uninitialized_pre, other_error, Result, Ok, Err, Panic}
use Rattle.ol_spec.specs.RustOrder.{evaluation_order}
use Rattle.ol_spec.specs.Eval.{RealKind, not_real, is_double_kind}
use Rattle.ol_spec.specs.Step.{equation_at}
use Rattle.ol_spec.specs.declared.Value.{Value}
use Rattle.ol_spec.specs.declared.Value.TheVariants as Val

-- ---- maps: what was inserted last stands first, and hides what was inserted under the same name before

abbrev pub Env : Type 0
Env = List (ℕ × RValue)

unfoldable pub get : ℕ → Env → Option RValue
get x [] = none
get x (p ∷ env) = cond (eqb x p.0) (some p.1) (get x env)

abbrev pub insert : ℕ → RValue → Env → Env
insert x v env = (x, v) ∷ env

-- how many expressions an expression is made of, itself among them
abbrev mutual
  pub width : Expr → ℕ
  width (bool_lit b) = 1
  width (int_lit i) = 1
  width (float_lit b) = 1
  width (char_lit c) = 1
  width (var x) = 1
  width (unary op e) = suc (width e)
  width (binary op l r) = suc (width l + width r)
  width (if_then_else c t e) = suc (width c + width t + width e)
  width (pre e) = suc (width e)
  width (arrow a b) = suc (width a + width b)
  width (cast t e) = suc (width e)
  width (call k es) = suc (widths es)
  width (tuple es) = suc (widths es)
  width (index a i) = suc (width a + width i)
  width (literal es) = suc (widths es)
  width (map_over k es) = suc (widths es)
  width (fold_over k s es) = suc (width s + widths es)

  pub widths : Exprs → ℕ
  widths nil = 0
  widths (cons e es) = width e + widths es

-- The address of a call expression: its node's number, and its number among all the expressions of the node's equations, counted as they are read. So no two expressions have the
-- same, whatever calls there are.
abbrev pub Key : Type 0
Key = ℕ × ℕ

-- the address of the right side of equation i
abbrev pub address : List Equation → ℕ → ℕ
address [] i = 0
address (q ∷ qs) zero = 0
address (q ∷ qs) (suc i) = width q.rhs + address qs i

-- An instance's state: the environments of the steps that it finished, the last one first, and the states of its child calls by key. The Rust keeps their number and one map
-- with all that they inserted, `cycle` and `prev` below: `cycle += 1` with `for (k, v) in &env { prev.insert(k, v) }` is one environment more.
mutual
  pub data State : Type 0 where
    state : List Env → States → State

  pub data States : Type 0 where
    no_states : States
    state_at : Key → State → States → States

-- the fields: `cycle` counts the finished steps (a `usize` in the Rust: one of the two differences on admitted files, the other is the NaN of RustLeaves), `prev` has what they
-- inserted
abbrev pub past : State → List Env
past (state es calls) = es

abbrev pub child_calls : State → States
child_calls (state es calls) = calls

abbrev pub cycle : State → ℕ
cycle s = length (past s)

abbrev pub prev : State → Env
prev s = concat (past s)

-- `State::default()`
abbrev pub default_state : State
default_state = state [] no_states

-- `call_states`: get, remove, insert
abbrev pub same_key : Key → Key → Bool
same_key a b = eqb a.0 b.0 && eqb a.1 b.1

unfoldable pub get_state : Key → States → Option State
get_state key no_states = none
get_state key (state_at k s calls) = cond (same_key key k) (some s) (get_state key calls)

unfoldable pub remove_state : Key → States → States
remove_state key no_states = no_states
remove_state key (state_at k s calls) = cond (same_key key k) (remove_state key calls) (state_at k s (remove_state key calls))

abbrev pub insert_state : Key → State → States → States
insert_state key s calls = state_at key s calls

-- ---- results and `?`

-- `ok_or_else(|| EvalError(..))`
abbrev pub ok_or : SimError → Option RValue → Result Given
ok_or e none = Err e
ok_or e (some v) = Ok (just v)

abbrev pub tuple_unless_one : List RValue → Given
tuple_unless_one [] = Tuple []
tuple_unless_one (v ∷ []) = just v
tuple_unless_one (v ∷ w ∷ vs) = Tuple (v ∷ w ∷ vs)

abbrev pub value_in : Given → Option RValue
value_in (just v) = some v
value_in (Tuple vs) = none

-- a result, and the call states that are left
pub record Res (A : Type 0) : Type 0 where
  pub out : Result A
  pub calls : States

module _ {A B : Type 0} where
  abbrev pub then_on : Result A → States → (A → States → Res B) → Res B
  then_on (Ok v) calls k = k v calls
  then_on (Err e) calls k = record { out = Err e; calls = calls }
  then_on Panic calls k = record { out = Panic; calls = calls }

  -- `let v = r?; k`
  unfoldable pub then_res : Res A → (A → States → Res B) → Res B
  then_res r k = then_on r.out r.calls k

module _ {A : Type 0} where
  abbrev pub pushed : A → Result (List A) → Result (List A)
  pushed v (Ok vs) = Ok (v ∷ vs)
  pushed v (Err e) = Err e
  pushed v Panic = Panic

  abbrev pub push_picked : Option A → States → (States → Res (List A)) → Res (List A)
  push_picked none calls k = record { out = Err other_error; calls = calls }
  push_picked (some v) calls k = let r = k calls in record { out = pushed v r.out; calls = r.calls }

  abbrev pub push_on : (Given → Option A) → Result Given → States → (States → Res (List A)) → Res (List A)
  push_on pick (Ok v) calls k = push_picked (pick v) calls k
  push_on pick (Err e) calls k = record { out = Err e; calls = calls }
  push_on pick Panic calls k = record { out = Panic; calls = calls }

  -- `vs.push(r?)`, and the others; a value of another form than is wanted is an error
  unfoldable pub push : (Given → Option A) → Res Given → (States → Res (List A)) → Res (List A)
  push pick r k = push_on pick r.out r.calls k

-- an if-condition
abbrev pub if_bool_on : (Bool → States → Res Given) → Option Bool → States → Res Given
if_bool_on k none calls = record { out = Err other_error; calls = calls }
if_bool_on k (some b) calls = k b calls

unfoldable pub if_bool : (Bool → States → Res Given) → Given → States → Res Given
if_bool k v calls = if_bool_on k (maybe none bool_in (plain_in v)) calls

-- ---- expressions

abbrev pub first_tick : State → Bool
first_tick s = is_empty (past s)

-- `pre`: an error of its own on a first tick, whatever the operand; later another one, on anything but a name that `prev` has
abbrev pub pre_value : State → Bool → Option ℕ → Result Given
pre_value s true x = Err uninitialized_pre
pre_value s false none = Err other_error
pre_value s false (some x) = ok_or other_error (get x (prev s))

abbrev pub discard : Given → Result Given → Result Given
discard v (Ok w) = Ok v
discard v (Err e) = Ok v
discard v Panic = Panic

-- a float32 beside a double is widened
abbrev pub rust_common_real : Bool → Given → Given
rust_common_real double (just (plain v)) = just (plain (widen_beside double v))
rust_common_real double (just (Array vs)) = just (Array vs)
rust_common_real double (Tuple vs) = Tuple vs

-- `step_untaken` of the other branch, which is evaluated by `run` if it has a call, then `Ok(v)`: an error of it is discarded, a panic is not
unfoldable pub step_untaken : Bool → (States → Res Given) → Given → States → Res Given
step_untaken true run v calls = let r = run calls in record { out = discard v r.out; calls = r.calls }
step_untaken false run v calls = record { out = Ok v; calls = calls }

-- a branch: whether it has a call, whether its `real_kind` is Double, and its evaluation
pub record Branch : Type 0 where
  pub rust_has_call : Bool
  pub double : Bool
  pub run : States → Res Given

-- `let v = eval(taken)?; step_untaken(other); Ok(common_real(v, other))`
abbrev pub take_branch : Branch → Branch → States → Res Given
take_branch taken other calls = then_res (taken.run calls) (λ v calls. step_untaken other.rust_has_call other.run (rust_common_real other.double v) calls)

unfoldable pub choose : Bool → Branch → Branch → States → Res Given
choose true a b calls = take_branch a b calls
choose false a b calls = take_branch b a calls

-- `step_instance`: the key of the call, the callee, the arguments, `call_states`, and the caller's environment for the constants
abbrev pub StepInstance : Type 0
StepInstance = Key → ℕ → List RValue → States → Env → Res Given

-- `call_function_values`: the callee, the arguments, and the constants
abbrev pub CallValues : Type 0
CallValues = ℕ → List RValue → Env → Result Given

-- ---- `Iterate`

-- the callee must be a Function
unfoldable pub if_function : NodeKind → (States → Res Given) → States → Res Given
if_function Function run calls = run calls
if_function Operator run calls = record { out = Err other_error; calls = calls }
if_function Imported run calls = record { out = Err other_error; calls = calls }

-- `arrs.iter().any(|a| a.len() != n)` is an error, n being the first one's length
abbrev pub equal_lengths : List (List Value) → Bool
equal_lengths arrs = all_of (λ a. eqb (length a) (length (get_or arrs 0 []))) arrs

unfoldable pub if_equal : Bool → (States → Res Given) → States → Res Given
if_equal true run calls = run calls
if_equal false run calls = record { out = Err other_error; calls = calls }

-- `arrs.iter().map(|a| a[k].clone())`
abbrev pub elements : ℕ → List (List Value) → List RValue
elements k [] = []
elements k (a ∷ as') = plain (get_or a k (Val.Bool false)) ∷ elements k as'

-- `out.push(call?)`, and the others
unfoldable pub push_element : Result Given → Result (List Value) → Result (List Value)
push_element (Ok v) rest = maybe (Err other_error) (λ w. pushed w rest) (plain_in v)
push_element (Err e) rest = Err e
push_element Panic rest = Panic

module _ (one_call : List RValue → Result Given) where
  -- `for k in 0..n { .. }` of a map, from k on, so many
  unfoldable pub map_loop : List (List Value) → ℕ → ℕ → Result (List Value)
  map_loop arrs k zero = Ok []
  map_loop arrs k (suc n) = push_element (one_call (elements k arrs)) (map_loop arrs (suc k) n)

  -- `for elem in &arrs[0] { acc = call(acc, elem)?; }`
  abbrev pub fold_on : (Given → Result Given) → Result Given → Result Given
  fold_on k (Ok acc) = k acc
  fold_on k (Err e) = Err e
  fold_on k Panic = Panic

  unfoldable pub fold_loop : Given → List Value → Result Given
  fold_loop acc [] = Ok acc
  fold_loop acc (x ∷ xs) = fold_on (λ acc. fold_loop acc xs) (maybe (Err other_error) (λ a. one_call (a ∷ plain x ∷ [])) (value_in acc))

  -- without an array `arrs[0]` panics
  abbrev pub fold_arrays : Given → List (List Value) → Result Given
  fold_arrays acc [] = Panic
  fold_arrays acc (a ∷ as') = fold_loop acc a

abbrev pub ok_array : Result (List Value) → Result Given
ok_array (Ok vs) = Ok (just (Array vs))
ok_array (Err e) = Err e
ok_array Panic = Panic

-- how a loop over the equations ended: an error or a panic with the equation that it came from
pub data LoopEnd : Type 0 where
  done : LoopEnd
  err_at : SimError → ℕ → LoopEnd
  panic_at : ℕ → LoopEnd

-- that, the environment, and the call states
pub record Ran : Type 0 where
  pub end : LoopEnd
  pub env : Env
  pub calls : States

-- `Sim`, without what document 01 leaves out
pub record Sim : Type 0 where
  pub consts : Env
  pub eq_order : List ℕ
  pub state : State
  pub call_states : States

-- the constants' environment, or the number of the constant that is an error or a panic
pub data Consts : Type 0 where
  evaluated : Env → Consts
  stuck : ℕ → Consts

-- what a step gives: the values of inputs, outputs and locals, an error, or a panic, each with the equation that ended it
pub data Report : Type 0 where
  ok : List RValue → Report
  err : SimError → ℕ → Report
  panic : ℕ → Report

pub record Stepped : Type 0 where
  pub report : Report
  pub sim : Sim

module _ (f : File) where
  -- a number that names no node gives one that is Imported, and so an error
  abbrev pub find_node : ℕ → Node
  find_node k = get_or f.nodes k no_node

  abbrev pub enum_variant_value : ℕ → Option RValue
  enum_variant_value x = cond (member x (concat f.enums)) (some (plain (Val.Enum x))) none

  -- `outputs.first()`
  abbrev pub first_kind : List Variable → RealKind
  first_kind [] = not_real
  first_kind (v ∷ vs) = of_type v.ty

  abbrev pub rust_real_kind : Expr → Env → RealKind
  rust_real_kind (bool_lit b) env = not_real
  rust_real_kind (int_lit i) env = not_real
  rust_real_kind (float_lit b) env = is_double_kind
  rust_real_kind (char_lit c) env = not_real
  rust_real_kind (var x) env = maybe not_real of_value (get x env)
  rust_real_kind (unary op e) env = rust_real_kind e env
  rust_real_kind (binary op l r) env = cond (is_arithmetic op) (join_kinds (rust_real_kind l env) (rust_real_kind r env)) not_real
  rust_real_kind (if_then_else c t e) env = join_kinds (rust_real_kind t env) (rust_real_kind e env)
  rust_real_kind (pre e) env = rust_real_kind e env
  rust_real_kind (arrow a b) env = join_kinds (rust_real_kind a env) (rust_real_kind b env)
  rust_real_kind (cast t e) env = of_scalar t
  rust_real_kind (call k es) env = first_kind (find_node k).outputs
  rust_real_kind (tuple es) env = not_real
  rust_real_kind (index a i) env = not_real
  rust_real_kind (literal es) env = not_real
  rust_real_kind (map_over k es) env = not_real
  rust_real_kind (fold_over k s es) env = not_real

  -- the constants that a callee of an iterator sees
  abbrev pub constants_among : List Constant → Env → Env
  constants_among [] env = []
  constants_among (c ∷ cs) env = maybe (constants_among cs env) (λ v. (c.name, v) ∷ constants_among cs env) (get c.name env)

  abbrev pub constants_from_env : Env → Env
  constants_from_env env = constants_among f.constants env

  -- node number `node` is running, with this environment and state
  module _ (step_instance : StepInstance) (call_values : CallValues) (node : ℕ) (env : Env) (st : State) where
    abbrev pub branch : Expr → (States → Res Given) → Branch
    branch e run = record { rust_has_call = rust_has_call e; double = is_double (rust_real_kind e env); run = run }

    -- the arity and the callee's kind are looked at first; `args` evaluates the arguments
    abbrev pub call_kind : NodeKind → Key → ℕ → (States → Res (List RValue)) → States → Res Given
    call_kind Function key k args calls = then_res (args calls) (λ vs calls. step_instance key k vs calls env)
    call_kind Operator key k args calls = then_res (args calls) (λ vs calls. step_instance key k vs calls env)
    call_kind Imported key k args calls = record { out = Err other_error; calls = calls }

    abbrev pub call_arity : Bool → Key → ℕ → (States → Res (List RValue)) → States → Res Given
    call_arity true key k args calls = call_kind (find_node k).kind key k args calls
    call_arity false key k args calls = record { out = Err other_error; calls = calls }

    unfoldable pub eval_call : Key → ℕ → ℕ → (States → Res (List RValue)) → States → Res Given
    eval_call key k m args calls = call_arity (eqb m (length (find_node k).inputs)) key k args calls

    -- one call of an iterator
    abbrev pub iterated : ℕ → List RValue → Result Given
    iterated k vs = call_values k vs (constants_from_env env)

    unfoldable mutual
      -- an expression at this address
      pub eval : ℕ → Expr → States → Res Given
      eval at (bool_lit b) calls = record { out = Ok (just (plain (Val.Bool b))); calls = calls }
      eval at (int_lit i) calls = record { out = Ok (just (plain (Val.Int i))); calls = calls }
      eval at (float_lit b) calls = record { out = Ok (just (plain (Val.Float (R.from_bits R.double b)))); calls = calls }
      eval at (char_lit c) calls = record { out = Ok (just (plain (Val.Int (pos c)))); calls = calls }
      eval at (var x) calls = record { out = ok_or other_error (or_else (get x env) (enum_variant_value x)); calls = calls }
      eval at (unary op e) calls = then_res (eval (suc at) e calls) (λ v calls. record { out = eval_unary op v; calls = calls })
      eval at (binary op l r) calls =
          then_res (eval (suc at) l calls) (λ v calls.
          then_res (eval (suc at + width l) r calls) (λ w calls. record { out = eval_binary op v w; calls = calls }))
      eval at (if_then_else c t e) calls =
          then_res (eval (suc at) c calls) (if_bool (λ b.
          choose b (branch t (eval (suc at + width c) t)) (branch e (eval (suc at + width c + width t) e))))
      eval at (pre e) calls = record { out = pre_value st (first_tick st) (name_in e); calls = calls }
      eval at (arrow a b) calls = choose (first_tick st) (branch a (eval (suc at) a)) (branch b (eval (suc at + width a) b)) calls
      eval at (cast t e) calls = then_res (eval (suc at) e calls) (λ v calls. record { out = cast_value t v; calls = calls })
      eval at (call k es) calls = eval_call (node, at) k (count es) (λ calls. eval_args (suc at) es calls) calls
      eval at (tuple es) calls = then_res (eval_args (suc at) es calls) (λ vs calls. record { out = Ok (Tuple vs); calls = calls })
      eval at (index a i) calls =
          then_res (eval (suc at) a calls) (λ bv calls.
          then_res (eval (suc at + width a) i calls) (λ iv calls. record { out = index_value bv iv; calls = calls }))
      eval at (literal es) calls = then_res (eval_items (suc at) es calls) (λ vs calls. record { out = Ok (just (Array vs)); calls = calls })
      eval at (map_over k es) calls =
          if_function (find_node k).kind (λ calls.
          then_res (eval_arrays (suc at) es calls) (λ arrs.
          if_equal (equal_lengths arrs) (λ calls. record { out = ok_array (map_loop (iterated k) arrs 0 (length (get_or arrs 0 []))); calls = calls }))) calls
      eval at (fold_over k e es) calls =
          if_function (find_node k).kind (λ calls.
          then_res (eval_arrays (suc at + width e) es calls) (λ arrs.
          if_equal (equal_lengths arrs) (λ calls.
          then_res (eval (suc at) e calls) (λ acc calls. record { out = fold_arrays (iterated k) acc arrs; calls = calls })))) calls

      -- the arguments of a call, the items of a tuple
      pub eval_args : ℕ → Exprs → States → Res (List RValue)
      eval_args at nil calls = record { out = Ok []; calls = calls }
      eval_args at (cons e es) calls = push value_in (eval at e calls) (eval_args (at + width e) es)

      -- the items of an array
      pub eval_items : ℕ → Exprs → States → Res (List Value)
      eval_items at nil calls = record { out = Ok []; calls = calls }
      eval_items at (cons e es) calls = push plain_in (eval at e calls) (eval_items (at + width e) es)

      -- the operands of an iterator, each an Array
      pub eval_arrays : ℕ → Exprs → States → Res (List (List Value))
      eval_arrays at nil calls = record { out = Ok []; calls = calls }
      eval_arrays at (cons e es) calls = push array_in (eval at e calls) (eval_arrays (at + width e) es)

  -- ---- the equations of a node

  -- the declared type of an output or local
  abbrev pub type_in : List Variable → ℕ → Option VarTy
  type_in [] x = none
  type_in (v ∷ vs) x = cond (eqb x v.name) (some v.ty) (type_in vs x)

  abbrev pub declared_type : Node → ℕ → Option VarTy
  declared_type n x = type_in (n.outputs ++ n.locals) x

  -- the value as the variable's type holds it
  abbrev pub store : Node → ℕ → RValue → Env → Env
  store n x v env = insert x (maybe v (λ t. fit_to t v) (declared_type n x)) env

  -- the names and the values, as far as both go
  unfoldable pub store_all : Node → List ℕ → List RValue → Env → Env
  store_all n [] vs env = env
  store_all n (x ∷ xs) [] env = env
  store_all n (x ∷ xs) (v ∷ vs) env = store_all n xs vs (store n x v env)

  -- one name gets the value, another number of names get the values of a tuple
  unfoldable pub bind_lhs : Node → List ℕ → Given → Env → Option Env
  bind_lhs n (x ∷ []) (just v) env = some (store n x v env)
  bind_lhs n (x ∷ []) (Tuple vs) env = none
  bind_lhs n [] (just v) env = none
  bind_lhs n [] (Tuple vs) env = some (store_all n [] vs env)
  bind_lhs n (x ∷ y ∷ xs) (just v) env = none
  bind_lhs n (x ∷ y ∷ xs) (Tuple vs) env = some (store_all n (x ∷ y ∷ xs) vs env)

  abbrev pub bound_on : ℕ → Option Env → (Env → States → Ran) → Env → States → Ran
  bound_on i none k env calls = record { end = err_at other_error i; env = env; calls = calls }
  bound_on i (some env') k env calls = k env' calls

  abbrev pub bind_on : Node → ℕ → Result Given → States → (Env → States → Ran) → Env → Ran
  bind_on n i (Ok v) calls k env = bound_on i (bind_lhs n (equation_at n i).names v env) k env calls
  bind_on n i (Err e) calls k env = record { end = err_at e i; env = env; calls = calls }
  bind_on n i Panic calls k env = record { end = panic_at i; env = env; calls = calls }

  -- `let v = eval_eq_rhs(..)?; bind_lhs(.., v, ..)?`, and the others. Without coverage `eval_eq_rhs` is `eval`
  unfoldable pub bind_next : Node → ℕ → Res Given → (Env → States → Ran) → Env → Ran
  bind_next n i r k env = bind_on n i r.out r.calls k env

  module _ (step_instance : StepInstance) (call_values : CallValues) (k : ℕ) (n : Node) (st : State) where
    -- `for &i in &order { .. }` over the equations of n, which is node number k
    unfoldable pub for_order : List ℕ → Env → States → Ran
    for_order [] env calls = record { end = done; env = env; calls = calls }
    for_order (i ∷ is) env calls =
        bind_next n i (eval step_instance call_values k env st (address n.equations i) (equation_at n i).rhs calls) (for_order is) env

  -- ---- calls

  -- `for (p, v) in inputs.iter().zip(args) { env.insert(p.name, fit_to(p.ty, v)) }`
  unfoldable pub insert_fitted : List Variable → List RValue → Env → Env
  insert_fitted [] vs env = env
  insert_fitted (x ∷ xs) [] env = env
  insert_fitted (x ∷ xs) (v ∷ vs) env = insert_fitted xs vs (insert x.name (fit_to x.ty v) env)

  abbrev pub default_value : VarTy → RValue
  default_value t = rust_default_of f.enums t

  -- `for p in vars { env.insert(p.name, default_value(p.ty)) }`
  unfoldable pub insert_defaults : List Variable → Env → Env
  insert_defaults [] env = env
  insert_defaults (x ∷ xs) env = insert_defaults xs (insert x.name (default_value x.ty) env)

  -- `if let Some(v) = prev.get(p) { env.insert(p, v) }`
  unfoldable pub reseed : Env → List Variable → Env → Env
  reseed before [] env = env
  reseed before (x ∷ xs) env = reseed before xs (maybe env (λ v. insert x.name v env) (get x.name before))

  -- the environment that a callee starts with: all of its caller's, its inputs, and the defaults of its outputs and locals
  abbrev pub callee_env : Node → List RValue → Env → Env
  callee_env n vs consts = insert_defaults n.locals (insert_defaults n.outputs (insert_fitted n.inputs vs consts))

  -- the value of one output, or a tuple of several
  abbrev pub extract_output : Node → Env → Given
  extract_output n env = tuple_unless_one (map (λ v. maybe (plain (Val.Bool false)) (λ w. w) (get v.name env)) n.outputs)

  -- what a Function gives, after its equations: the call states are its caller's
  abbrev pub function_end : Node → LoopEnd → Env → States → Res Given
  function_end n done env calls = record { out = Ok (extract_output n env); calls = calls }
  function_end n (err_at e i) env calls = record { out = Err e; calls = calls }
  function_end n (panic_at i) env calls = record { out = Panic; calls = calls }

  -- What an Operator gives, after its equations, which left it the child calls. Its state was taken out of the call states, and only a finished step puts it back.
  abbrev pub operator_end : Node → Key → State → LoopEnd → Env → States → States → Res Given
  operator_end n key sub done env children calls =
      record { out = Ok (extract_output n env); calls = insert_state key (state (env ∷ past sub) children) calls }
  operator_end n key sub (err_at e i) env children calls = record { out = Err e; calls = calls }
  operator_end n key sub (panic_at i) env children calls = record { out = Panic; calls = calls }

  unfoldable pub end_function : Node → Ran → Res Given
  end_function n r = function_end n r.end r.env r.calls

  unfoldable pub end_operator : Node → Key → State → Ran → States → Res Given
  end_operator n key sub r calls = operator_end n key sub r.end r.env r.calls calls

  -- the body of `step_instance` by the callee's kind, in its order; `inner` steps the calls in it, `values` those of its iterators
  abbrev pub step_kind : StepInstance → CallValues → NodeKind → Key → ℕ → Node → List ℕ → Env → States → Res Given
  step_kind inner values Function key k n is env calls = end_function n (for_order inner values k n default_state is env calls)
  step_kind inner values Operator key k n is env calls =
      let sub = maybe default_state (λ s. s) (get_state key calls) in
      end_operator n key sub (for_order inner values k n sub is (reseed (prev sub) (n.outputs ++ n.locals) env) (child_calls sub)) (remove_state key calls)
  step_kind inner values Imported key k n is env calls = record { out = Err other_error; calls = calls }

  abbrev pub step_ordered : StepInstance → CallValues → Option (List ℕ) → Key → ℕ → Node → Env → States → Res Given
  step_ordered inner values none key k n env calls = record { out = Err other_error; calls = calls }
  step_ordered inner values (some is) key k n env calls = step_kind inner values n.kind key k n is env calls

  -- the body of `call_function_values`: a throwaway state and fresh call states
  abbrev pub call_ordered : StepInstance → CallValues → Option (List ℕ) → ℕ → Node → Env → Result Given
  call_ordered inner values none k n env = Err other_error
  call_ordered inner values (some is) k n env = (end_function n (for_order inner values k n default_state is env no_states)).out

  abbrev pub values_arity : Bool → Result Given → Result Given
  values_arity true r = r
  values_arity false r = Err other_error

  -- calls at most so deep: by 9 a callee's number is lower than its caller's, so as deep as there are nodes suffices
  unfoldable mutual
    pub step_instance : ℕ → StepInstance
    step_instance zero key k vs calls consts = record { out = Err other_error; calls = calls }
    step_instance (suc d) key k vs calls consts =
        step_ordered (λ key c ws calls env. step_instance d key c ws calls env) (λ c ws env. call_function_values d c ws env) (evaluation_order (find_node k)) key k (find_node k) (callee_env (find_node k) vs consts) calls

    pub call_function_values : ℕ → CallValues
    call_function_values zero k vs consts = Err other_error
    call_function_values (suc d) k vs consts =
        values_arity (eqb (length vs) (length (find_node k).inputs))
        (call_ordered (λ key c ws calls env. step_instance d key c ws calls env) (λ c ws env. call_function_values d c ws env) (evaluation_order (find_node k)) k (find_node k) (callee_env (find_node k) vs consts))

  -- ---- `Sim`

  abbrev pub step : StepInstance
  step = step_instance (length f.nodes)

  abbrev pub call_values : CallValues
  call_values = call_function_values (length f.nodes)

  abbrev pub const_on : ℕ → (RValue → Consts) → Result Given → Consts
  const_on i k (Ok (just v)) = k v
  const_on i k (Ok (Tuple vs)) = stuck i
  const_on i k (Err e) = stuck i
  const_on i k Panic = stuck i

  -- the constants in declaration order from number i on, each with those before it. Calls in them would stand in no node
  abbrev pub eval_consts : ℕ → List Constant → Env → Consts
  eval_consts i [] env = evaluated env
  eval_consts i (c ∷ cs) env =
      const_on i (λ v. eval_consts (suc i) cs (insert c.name (fit_to c.ty v) env)) (eval step call_values (length f.nodes) env default_state 0 c.value no_states).out

  abbrev pub all_consts : Consts
  all_consts = eval_consts 0 f.constants []

  -- `Sim::new`: none where a constant fails or overflows, or the main node has a ring
  abbrev pub new_on : Consts → Option (List ℕ) → Option Sim
  new_on (stuck i) o = none
  new_on (evaluated env) none = none
  new_on (evaluated env) (some is) = some (record { consts = env; eq_order = is; state = default_state; call_states = no_states })

  unfoldable pub new : Option Sim
  new = new_on all_consts (evaluation_order (main f))

  -- `env.entry(p.name).or_insert_with(|| prev.get(p.name) or default_value(p.ty))`
  abbrev pub or_insert : Option RValue → ℕ → RValue → Env → Env
  or_insert none x v env = insert x v env
  or_insert (some w) x v env = env

  unfoldable pub seed : Env → List Variable → Env → Env
  seed before [] env = env
  seed before (x ∷ xs) env = seed before xs (or_insert (get x.name env) x.name (maybe (default_value x.ty) (λ v. v) (get x.name before)) env)

  -- the equations of the main node, the last one, on this input map
  unfoldable pub step_env : Sim → Env → Ran
  step_env sim ins =
      let n = main f in
      for_order step call_values (length f.nodes - 1) n sim.state sim.eq_order (seed (prev sim.state) (n.outputs ++ n.locals) (ins ++ sim.consts)) sim.call_states

  -- what `step_full` reports, variable by variable
  abbrev pub report : Node → Env → List RValue
  report n env = map (λ v. maybe (default_value v.ty) (λ w. w) (get v.name env)) (variables n)

  -- A finished step counts and is remembered. An error leaves `state`, but not `call_states`, as it was. After a panic there is no `Sim` left to step; here it is the old one,
  -- which is what the relay goes on with.
  abbrev pub step_end : Sim → LoopEnd → Env → States → Stepped
  step_end sim done env calls =
      record { report = ok (report (main f) env); sim = record { consts = sim.consts; eq_order = sim.eq_order; state = state (env ∷ past sim.state) no_states; call_states = calls } }
  step_end sim (err_at e i) env calls = record { report = err e i; sim = record { consts = sim.consts; eq_order = sim.eq_order; state = sim.state; call_states = calls } }
  step_end sim (panic_at i) env calls = record { report = panic i; sim = sim }

  unfoldable pub step_full : Sim → Env → Stepped
  step_full sim ins = let r = step_env sim ins in step_end sim r.end r.env r.calls
