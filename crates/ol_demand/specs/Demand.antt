-- The mission's third demand, and the second, of the public functions themselves: of what they answered and wrote, over any list of cycles from the start. Types only: proofs/Demand
-- proves them.
-- A call of a function is given by what it was lent and what it answered and wrote; that it was a call of this function is said by the function's own contract.
use Rattle.std.specs.Prelude.{ℕ, List, [], ◌∷◌, ◌++◌, map, ◌↔◌, ◌≡◌, length, Ok, Err}
use Rattle.std.proofs.Math.Option.{none, some}
use Rattle.std.proofs.Math.ListN.{get_elem?}
use Rattle.ol_spec.specs.Syntax.{Node, File}
use Rattle.ol_spec.specs.Read.{got, read_file}
use Rattle.ol_spec.specs.Limits.{relay_loader}
use Rattle.ol_spec.specs.Order.{Ring}
use Rattle.ol_spec.specs.Answers.{Verdict, Sorted, fault_at}
use Rattle.ol_spec.specs.Admission.{fault11, judge, admitted, admission}
use Rattle.ol_spec.specs.Cycle.{ordering, start, cycle}
use Rattle.ol_spec.specs.Demand3.{Orders, Unfaulted, RingIn, Bytes, Turn, Made, next_state, AllSolve, Relisted, AllAlike, AgreeUntil}
use Rattle.ol_spec.specs.declared.Value.{Value}
use Rattle.ol_spec.specs.RustOrder.{ordered, among, evaluation_result}
use Rattle.ol_spec.specs.RustSim.{Sim, stuck, all_consts, new}
use Rattle.ol_spec.specs.RustState.{state_bytes}
use Rattle.ol_spec.specs.AsRust.{AsRust, constant_place, equation_place}
use Rattle.ol_spec.specs.Lustre.{AtInstant, answers}
use Rattle.ol_spec.specs.Instances.{AllAtPast}
use Rattle.ol_spec.specs.Sequences.{Sequences, EveryInstance, NeverReturns}
use Rattle.ol_spec.specs.Instants.{AllPass, InstancesNeverReturn}
use Rattle.ol_spec.specs.Faults.{NumbersClaim}
use Rattle.ol_spec.specs.Causes.{CausesClaim}
use Rattle.ol_real.specs.Holds.{Ieee754Holds}
use Rattle.ol_real.specs.Operators.{OperatorsHold, FormatsKept}
use Rattle.ol_sim.specs.Calls.{AdmitsAs, OrdersAs, StartsAs, CyclesAs}

-- ---- (a) what `evaluation_order` answered and wrote

unfoldable pub OrderingHolds : Type 0
OrderingHolds =
    (s : List ℕ) (f : File) (at k : ℕ) (n : Node) (buf : List ℕ) (r : Sorted) (buf' : List ℕ) → read_file s relay_loader ≡ got f at → get_elem? f.nodes k ≡ some n
    → OrdersAs (ordering relay_loader s k buf) r buf'
    → (((p : ℕ) × (r ≡ Err (fault_at 11 p))) ↔ Ring n.equations)
    × (¬ Ring n.equations → length buf ≡ length n.equations → (r ≡ Ok tt) × Orders n.equations buf')

-- what `admission` answered: 11 exactly if the file has none of the faults 1 to 10 and 22 and some node has a ring
unfoldable pub RingHolds : Type 0
RingHolds =
    (s : List ℕ) (r : Verdict) → AdmitsAs (admission relay_loader s) r
    → ((p : ℕ) × (r ≡ Err (fault_at 11 p))) ↔ ((f : File) × Unfaulted relay_loader s f × RingIn f)

-- ---- a list of cycles

-- the calls of `cycle` from the state `old` on, one after the other, each on the state that the one before it left
abbrev pub Cycles : List ℕ → List ℕ → List Made → Type 0
Cycles s old [] = Unit {0}
Cycles s old (m ∷ ms) =
    (m.old ≡ old)
    × CyclesAs (cycle relay_loader s m.old m.turn.inputs m.turn.new m.turn.values) m.result.answer m.result.new m.result.values
    × Cycles s (next_state m.result.answer old m.result.new) ms

-- A file that `admission` admitted, with a state of so many bytes; a call of `start` that wrote it; and the calls of `cycle` from there on
pub record Service (s : List ℕ) (ms : List Made) : Type 0 where
  pub verdict : Verdict
  pub judged : verdict ≡ admission relay_loader s
  pub size : ℕ
  pub admits : verdict ≡ Ok size
  pub lent : List ℕ
  pub long : length lent ≡ size
  pub state : List ℕ
  pub started : StartsAs (start relay_loader s lent) (Ok tt) state
  pub cycles : Cycles s state ms

-- the file's tree and its constants' values
pub record Tree (s : List ℕ) : Type 0 where
  pub file : File
  pub constants : List Value
  pub is : judge relay_loader s ≡ admitted file constants

-- ---- (b) every answered cycle of a service gave the one and only solution, while kinds are kept

unfoldable pub SolutionHolds : Type 0
SolutionHolds = (s : List ℕ) (ms : List Made) → Bytes s → Service s ms → (t : Tree s) × AllSolve t.file t.constants ms

-- ---- (c) a service of a relisted file gave the same answers and the same values

abbrev pub turns : List Made → List Turn
turns ms = map (λ m. m.turn) ms

-- such a file exists for every sequence of the main equations, of as many bytes
unfoldable pub RelistedHolds : Type 0
RelistedHolds =
    (s : List ℕ) (t : Tree s) (f' : File) → Bytes s → Relisted t.file f'
    → (s' : List ℕ) × Bytes s' × (length s' ≡ length s) × (read_file s' relay_loader ≡ got f' (length s))

unfoldable pub RelistingHolds : Type 0
RelistingHolds =
    (s s' : List ℕ) (ms ms' : List Made) (t : Tree s) (f' : File) (at : ℕ) → Bytes s → Service s ms → read_file s' relay_loader ≡ got f' at → Relisted t.file f'
    → (admission relay_loader s' ≡ admission relay_loader s) × (Bytes s' → Service s' ms' → AllAlike (turns ms) (turns ms') → AgreeUntil t.file ms ms')

-- ---- the demand

pub record Demand3Holds : Type 0 where
  pub ordering : OrderingHolds
  pub rings : RingHolds
  pub solution : SolutionHolds
  pub relisted : RelistedHolds
  pub relisting : RelistingHolds

-- ---- the second demand

-- the Rust's `Sim::new` succeeds, `start` wrote its bytes, and each cycle gave what the Rust's step on the `Sim` gives that the one before it left
unfoldable pub RunsAsRustHolds : Type 0
RunsAsRustHolds =
    (s : List ℕ) (ms : List Made) → Bytes s → (h : Service s ms) (t : Tree s)
    → (sim : Sim) × (new t.file ≡ some sim) × (h.state ≡ state_bytes t.file sim) × AsRust t.file sim ms

-- of a file with none of the faults 1 to 10 and 22 and no ring `admission` answered 12 exactly if the Rust's evaluation of the constants fails or panics, at that constant
unfoldable pub ConstantsAsRustHolds : Type 0
ConstantsAsRustHolds =
    (s : List ℕ) (f : File) (r : Verdict) → Bytes s → Unfaulted relay_loader s f → fault11 f ≡ none → AdmitsAs (admission relay_loader s) r
    → (p : ℕ) → (r ≡ Err (fault_at 12 p)) ↔ ((i : ℕ) × (all_consts f ≡ stuck i) × (p ≡ constant_place f i))

-- `evaluation_order` answered and wrote the Rust's order, or 11 at the first of the equations that the Rust's error names
unfoldable pub OrdersAsRustHolds : Type 0
OrdersAsRustHolds =
    (s : List ℕ) (f : File) (at k : ℕ) (n : Node) (buf : List ℕ) (r : Sorted) (buf' : List ℕ) → read_file s relay_loader ≡ got f at → get_elem? f.nodes k ≡ some n
    → OrdersAs (ordering relay_loader s k buf) r buf'
    → ((is : List ℕ) → evaluation_result n ≡ ordered is → length buf ≡ length n.equations → (r ≡ Ok tt) × (buf' ≡ is))
    × ((i : ℕ) (is : List ℕ) → evaluation_result n ≡ among (i ∷ is) → r ≡ Err (fault_at 11 (equation_place f k i)))
    × (¬ (evaluation_result n ≡ among []))

-- each cycle of a service was at the instant of which the answered ones before it are the number, with the 1991 paper's `pre` and `->` there
unfoldable pub PreArrowHolds : Type 0
PreArrowHolds =
    (s : List ℕ) (ms : List Made) → Bytes s → Service s ms → (t : Tree s) (earlier : List Made) (m : Made) (later : List Made) → ms ≡ earlier ++ m ∷ later
    → AtInstant t.file t.constants m (answers t.file (earlier ++ m ∷ later)) (length (answers t.file earlier))

-- and so in every instance at every depth
unfoldable pub InstancesHolds : Type 0
InstancesHolds =
    (s : List ℕ) (ms : List Made) → Bytes s → Service s ms → (t : Tree s) → (sim : Sim) × (new t.file ≡ some sim) × AllAtPast t.file t.constants [] sim ms

-- the outcomes of `pre x` and `a -> b` over the instants of a service, and over those of any instance, are the paper's pre and arrow of outcomes
unfoldable pub SequencesHolds : Type 0
SequencesHolds =
    (s : List ℕ) (ms : List Made) → Bytes s → Service s ms → (t : Tree s) → Sequences t.file t.constants ms × EveryInstance t.file t.constants

-- each cycle of a service left the finished steps of each instance, added one, or made it fresh, with the cells of a finished step as the next entries of its sequences
unfoldable pub InstantsHolds : Type 0
InstantsHolds =
    (s : List ℕ) (ms : List Made) → Bytes s → Service s ms → (t : Tree s) → (sim : Sim) × (new t.file ≡ some sim) × AllPass t.file t.constants sim ms

-- behind an answered cycle of a service no cycle was at a first instant, nor was an instance behind a step that it finished, until its record went back to fresh
unfoldable pub StartNeverReturnsHolds : Type 0
StartNeverReturnsHolds =
    (s : List ℕ) (ms : List Made) → Bytes s → Service s ms → (t : Tree s)
    → NeverReturns t.file t.constants ms × ((sim : Sim) × (new t.file ≡ some sim) × InstancesNeverReturn t.file t.constants sim ms)

-- with what it says of reals, of numbers and of why a cycle stops
pub record Demand2Holds : Type 0 where
  pub reals : Ieee754Holds
  pub operators : OperatorsHold
  pub formats : FormatsKept
  pub numbers : NumbersClaim relay_loader
  pub causes : CausesClaim relay_loader
  pub runs_as_rust : RunsAsRustHolds
  pub constants_as_rust : ConstantsAsRustHolds
  pub orders_as_rust : OrdersAsRustHolds
  pub pre_arrow_claim : PreArrowHolds
  pub instances_claim : InstancesHolds
  pub sequences_claim : SequencesHolds
  pub instants_claim : InstantsHolds
  pub start_never_returns : StartNeverReturnsHolds
