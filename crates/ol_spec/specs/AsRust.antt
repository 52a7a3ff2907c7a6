-- What a list of cycles has to do with the Rust of specs/RustSim. Types only: proofs/AsRust proves the claim.
use Rattle.std.specs.Prelude.{ℕ, ◌<◌, ◌≤◌, Bool, true, false, ◌&&◌, ◌||◌, cond, List, [], ◌∷◌, map, ◌↔◌, ◌≡◌, length, get_or, Ok, Err, take, drop}
use Rattle.std.proofs.Math.Option.{Option, none, some}
use Rattle.ol_spec.specs.Lists.{maybe}
use Rattle.std.proofs.Math.ListN.{get_elem?}
use Rattle.ol_spec.specs.Syntax.{VarTy, scalar, array, Variable, variable_cells, Node, File, main, BinOp, And, Or, Xor, Implies, Eq, Neq, Lt, Le, Gt, Ge, Add, Sub, Mul, Div, Mod, BitAnd, BitOr, BitXor, Shl, Shr}
use Rattle.ol_spec.specs.Places.{placed_nodes, placed_equations, placed_constants}
use Rattle.ol_spec.specs.Read.{got, read_file}
use Rattle.ol_spec.specs.Limits.{Loader}
use Rattle.ol_spec.specs.Cell.{cells, values_of}
use Rattle.ol_spec.specs.Admission.{place_at, fault11, Constants, all, stuck_at, constants, judge, admitted, admission, state_size}
use Rattle.ol_spec.specs.State.{good_inputs}
use Rattle.ol_spec.specs.Answers.{fault_at}
use Rattle.ol_spec.specs.Eval.{no_value_of}
use Rattle.ol_spec.specs.Step.{input_count}
use Rattle.ol_spec.specs.Cycle.{CycleCall, ordering, start, fits17}
use Rattle.ol_spec.specs.Demand3.{Unfaulted, Bytes, Turn, Made, history}
use Rattle.ol_spec.specs.RustOrder.{ordered, among, evaluation_result}
use Rattle.ol_spec.specs.RustLeaves.{RValue, plain, Array, Given, SimError, uninitialized_pre, binary_not_supported, unary_not_supported, out_of_bounds, other_error, both, rust_int_in, real_in, plain_in}
use Rattle.ol_spec.specs.RustSim.{Env, Key, States, Sim, Consts, evaluated, stuck, all_consts, Report, ok, err, panic, Stepped, step_instance, call_function_values, step_full, new}
use Rattle.ol_spec.specs.RustState.{all_cells, constants_in, state_bytes}
use Rattle.ol_spec.specs.declared.Value.{Value}
use Rattle.ol_spec.specs.declared.Cycled.{Cycled}
use Rattle.ol_spec.specs.declared.Cycled.TheVariants as Cyc

-- a turn whose inputs fit (16) and whose buffers have the right lengths (17)
abbrev pub fitting : File → Turn → Bool
fitting f t = good_inputs f t.inputs && fits17 f t.new t.values

-- the value whose cells these are, by its type: as many as that has
abbrev pub of_cells : VarTy → List Value → RValue
of_cells (scalar t) vs = plain (get_or vs 0 no_value_of)
of_cells (array n t) vs = Array (take n vs)

-- a value under each variable's name, from the cells that follow one another
unfoldable pub named : List Variable → List Value → Env
named [] vs = []
named (x ∷ xs) vs = (x.name, of_cells x.ty vs) ∷ named xs (drop (length (variable_cells x)) vs)

-- the input map that a turn's inputs are
abbrev pub input_map : File → Turn → Env
input_map f t = named (main f).inputs (values_of (input_count (main f)) t.inputs)

-- `matches!(o, Some(_))`
abbrev pub matches : {A : Type 0} → Option A → Bool
matches none = false
matches (some a) = true

-- The operations that take operands of these kinds, and so fail on them only by the second one's value: Div and Mod on two Ints, Div on two reals, Shl and Shr on two Ints
abbrev pub takes : BinOp → Value → Value → Bool
takes And l r = false
takes Or l r = false
takes Xor l r = false
takes Implies l r = false
takes Eq l r = false
takes Neq l r = false
takes Lt l r = false
takes Le l r = false
takes Gt l r = false
takes Ge l r = false
takes Add l r = false
takes Sub l r = false
takes Mul l r = false
takes Div l r = matches (both (rust_int_in l) (rust_int_in r)) || matches (both (real_in l) (real_in r))
takes Mod l r = matches (both (rust_int_in l) (rust_int_in r))
takes BitAnd l r = false
takes BitOr l r = false
takes BitXor l r = false
takes Shl l r = matches (both (rust_int_in l) (rust_int_in r))
takes Shr l r = matches (both (rust_int_in l) (rust_int_in r))

abbrev pub takes_both : BinOp → Given → Given → Bool
takes_both op l r = maybe false (λ p. takes op p.0 p.1) (both (plain_in l) (plain_in r))

-- the number that an error gives: an uninitialized `pre`; a zero divisor, a shift count outside 0..63 or an index outside its array; anything else
abbrev pub error_number : SimError → ℕ
error_number uninitialized_pre = 18
error_number (binary_not_supported op l r) = cond (takes_both op l r) 20 21
error_number (unary_not_supported op v) = 21
error_number (out_of_bounds i n) = 20
error_number other_error = 21

-- the answer that tells what a step of the Rust gives
abbrev pub answer_of : Report → Cycled
answer_of (ok rs) = Cyc.Answered
answer_of (err e i) = Cyc.Stopped (fault_at (error_number e) i)
answer_of (panic i) = Cyc.Stopped (fault_at 19 i)

-- the values that it writes: the cells of all inputs, outputs and locals, or none
abbrev pub written : Report → List ℕ → List ℕ
written (ok rs) buf = cells (all_cells rs)
written (err e i) buf = buf
written (panic i) buf = buf

-- what the cycle's call gives, by the Rust's step: it answers exactly if that is `Ok`, stops with the error's number exactly if it is an error and with 19 exactly if it
-- panics, and its new state is that of the `Sim` that the step left
abbrev pub told : File → Turn → Stepped → CycleCall
told f t r = record { answer = answer_of r.report; new = state_bytes f r.sim; values = written r.report t.values }

-- what it gives where the inputs (16) or the buffers (17) do not fit: nothing is written
abbrev pub refusal : File → Turn → CycleCall
refusal f t = record { answer = Cyc.Refused (fault_at (cond (good_inputs f t.inputs) 17 16) 0); new = t.new; values = t.values }

abbrev pub step_on : File → Sim → Turn → Stepped
step_on f sim t = step_full f sim (input_map f t)

-- a turn that does not fit makes no step
abbrev pub call_on : File → Sim → Turn → CycleCall
call_on f sim t = cond (fitting f t) (told f t (step_on f sim t)) (refusal f t)

abbrev pub sim_after : File → Sim → Turn → Sim
sim_after f sim t = cond (fitting f t) (step_on f sim t).sim sim

-- Each cycle stands on the bytes of the `Sim`, and gives what the Rust's step on that `Sim` gives; the next is made on the `Sim` that is left. After a panic there is none
-- left: what follows one is stepped on the `Sim` before it.
abbrev pub AsRust : File → Sim → List Made → Type 0
AsRust f sim [] = Unit {0}
AsRust f sim (m ∷ ms) = (m.old ≡ state_bytes f sim) × (m.result ≡ call_on f sim m.turn) × AsRust f (sim_after f sim m.turn) ms

-- for any admitted file of bytes and any list of turns, from the call of the start: `Sim::new` succeeds, the start writes its bytes, and each cycle gives what its step gives
unfoldable pub RunsAsRust : Loader → Type 0
RunsAsRust ld =
    (s : List ℕ) (f : File) (vs : List Value) (buf : List ℕ) (ts : List Turn) → Bytes s → judge ld s ≡ admitted f vs → length buf ≡ state_size f
    → (sim : Sim) × (new f ≡ some sim) × (start ld s buf ≡ record { answer = (Ok tt); state = state_bytes f sim }) × AsRust f sim (history ld s ts (start ld s buf).state)

-- ---- the constants

-- the place of a constant, by its number
abbrev pub constant_place : File → ℕ → ℕ
constant_place f i = get_or (map (λ c. c.0) (placed_constants f)) i 0

-- what admission finds of the constants, by the Rust's evaluation of them
abbrev pub constants_by : File → Consts → Constants
constants_by f (evaluated env) = all (constants_in f env)
constants_by f (stuck i) = stuck_at (constant_place f i)

-- In a file with none of the faults 1 to 10 and 22: 12 holds exactly if the Rust's evaluation of the constants fails or panics, at that constant; else their values are the Rust's. And
-- so admission answers 12, if there is no ring.
unfoldable pub ConstantsAsRust : Loader → Type 0
ConstantsAsRust ld =
    (s : List ℕ) (f : File) → Bytes s → Unfaulted ld s f
    → (constants f ≡ constants_by f (all_consts f))
    × (fault11 f ≡ none → (p : ℕ) → (admission ld s ≡ Err (fault_at 12 p)) ↔ ((i : ℕ) × (all_consts f ≡ stuck i) × (p ≡ constant_place f i)))

-- ---- the order

-- the place of equation i of node k
abbrev pub equation_place : File → ℕ → ℕ → ℕ
equation_place f k i = maybe 0 (λ n. place_at (placed_equations n.0 n.1) i) (get_elem? (placed_nodes f) k)

-- In a file with none of the faults 1 to 5, the ordering of a node gives the Rust's evaluation order, into a buffer with one entry per equation. Where that is an error it gives 11
-- at the first of the equations that the error names, and it names one.
unfoldable pub OrdersAsRust : Loader → Type 0
OrdersAsRust ld =
    (s : List ℕ) (f : File) (at k : ℕ) (n : Node) (buf : List ℕ) → read_file s ld ≡ got f at → get_elem? f.nodes k ≡ some n
    → ((is : List ℕ) → evaluation_result n ≡ ordered is → length buf ≡ length n.equations → ordering ld s k buf ≡ record { answer = (Ok tt); buffer = is })
    × ((i : ℕ) (is : List ℕ) → evaluation_result n ≡ among (i ∷ is) → (ordering ld s k buf).answer ≡ Err (fault_at 11 (equation_place f k i)))
    × (¬ (evaluation_result n ≡ among []))

-- specs/RustSim bounds how deep calls go. More than there are nodes changes nothing: in an admitted file a callee's number is lower than its caller's.
unfoldable pub DepthClaim : Loader → Type 0
DepthClaim ld =
    (s : List ℕ) (f : File) (vs : List Value) → Bytes s → judge ld s ≡ admitted f vs
    → (d : ℕ) → length f.nodes ≤ d → (key : Key) (k : ℕ) (args : List RValue) (calls : States) (env : Env) → k < length f.nodes
    → (step_instance f d key k args calls env ≡ step_instance f (length f.nodes) key k args calls env)
    × (call_function_values f d k args env ≡ call_function_values f (length f.nodes) k args env)
