-- The 1991 paper's `pre` and `->`, executed on document 01's counter and K.
use Rattle.std.specs.Prelude.{ℕ, ◌*◌, true, false, List, [], ◌∷◌, map, ◌≡◌, refl, length, replicate, get_or}
use Rattle.std.proofs.Math.Option.{Option, none, some}
use Rattle.ol_spec.specs.Lists.{maybe}
use Rattle.ol_spec.specs.Syntax.{int, Add, File, main}
use Rattle.ol_spec.specs.Step.{cell_count}
use Rattle.ol_spec.specs.Encode.{encode}
use Rattle.ol_spec.specs.Cell.{cells}
use Rattle.ol_spec.specs.Operators.{binary_of}
use Rattle.ol_spec.specs.Limits.{relay_loader}
use Rattle.ol_spec.specs.Admission.{state_size}
use Rattle.ol_spec.specs.State.{fresh_state}
use Rattle.ol_spec.specs.Demand3.{Turn, Made, history}
use Rattle.ol_spec.specs.Lustre.{pre, arrow, always, answers, sequence_of}
use Rattle.ol_spec.specs.RustSim.{Sim, new}
use Rattle.ol_spec.specs.AsRust.{sim_after}
use Rattle.ol_spec.specs.Instants.{past_at}
use Rattle.ol_spec.specs.Build.{counting, i}
use Rattle.ol_spec.specs.Examples.{with_k, bd}
use Rattle.ol_spec.specs.RustRuns.{all_of_rust}
use Rattle.ol_spec.specs.declared.Value.{Value}
use Rattle.ol_spec.specs.declared.Outcome.{Outcome}
use Rattle.ol_spec.specs.declared.Outcome.TheVariants as Out

-- the cycles of a file on these inputs, from its start
abbrev turn : File → List Value → Turn
turn f vs = record { inputs = cells vs; new = replicate (state_size f) 0; values = replicate (9 * cell_count (main f)) 0 }

abbrev cycles : File → List (List Value) → List Made
cycles f vss = history relay_loader (encode f) (map (turn f) vss) (fresh_state f [])

-- ---- the counter, v1 = 0 -> pre v1 + 1

abbrev counter : File
counter = counting (int 4)

abbrev v1 : ℕ → Option (List Value)
v1 n = sequence_of counter (answers counter (cycles counter ([] ∷ [] ∷ [] ∷ []))) 1 n

abbrev one : ℕ → Option (List Value)
one n = some (i n ∷ [])

-- its values, and what the paper's pre makes of them
counter_values : v1 0 ∷ v1 1 ∷ v1 2 ∷ [] ≡ one 0 ∷ one 1 ∷ one 2 ∷ []
unfolding all_of_rust
counter_values = refl

counter_pre : pre v1 0 ∷ pre v1 1 ∷ pre v1 2 ∷ [] ≡ none ∷ one 0 ∷ one 1 ∷ []
unfolding all_of_rust
counter_pre = refl

abbrev value_in : Outcome → Option Value
value_in (Out.Value v) = some v
value_in (Out.Failure c) = none
value_in Out.Overflow = none

abbrev one_of : Option Value → Option (List Value)
one_of none = none
one_of (some v) = some (v ∷ [])

-- its equation, read as the paper reads it
abbrev right : ℕ → Option (List Value)
right n = arrow (always (one 0)) (λ n. maybe none (λ vs. one_of (value_in (binary_of Add (get_or vs 0 (i 0)) (i 1)))) (pre v1 n)) n

counter_equation : right 0 ∷ right 1 ∷ right 2 ∷ [] ≡ v1 0 ∷ v1 1 ∷ v1 2 ∷ []
unfolding all_of_rust
counter_equation = refl

-- ---- K: the instants of its instance, at the one call site of main. It is called in each cycle; in the third one, untaken, it fails and is fresh again

abbrev instants : Sim → List Made → List ℕ
instants sim [] = []
instants sim (m ∷ ms) = length (past_at with_k [] 0 [] m.old sim) ∷ instants (sim_after with_k sim m.turn) ms

abbrev from_new : Option Sim → List Made → List ℕ
from_new none ms = []
from_new (some sim) ms = instants sim ms

K-instants : from_new (new with_k) (cycles with_k (bd false 1 ∷ bd false 1 ∷ bd true 0 ∷ bd false 1 ∷ bd false 1 ∷ [])) ≡ 0 ∷ 1 ∷ 2 ∷ 0 ∷ 1 ∷ []
unfolding all_of_rust
K-instants = refl
