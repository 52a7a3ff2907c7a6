-- The definitions at work, on numbers.
use Rattle.std.specs.Prelude.{◌≡◌, refl, ℕ, zero, suc, ◌+◌, get_or}
use Rattle.std.proofs.Math.Logic.Dec as Dec
use mathlib.Core.List.{List, [], ◌∷◌, flat_map}
use Rattle.std.proofs.Math.Decide.{ℕ_discrete}
use Rattle.ol_theory.specs.Member.{from, upto, mem?, all?}
use Rattle.ol_theory.specs.Order.{ready?, pass, passes, order}
use Rattle.ol_theory.specs.System.{Out, values, System, deps, store, finished, onward, run_eqs}

-- 0 reads from 1, 1 from 2: three passes, from the last to the first
backward : ℕ → List ℕ
backward zero = 1 ∷ []
backward (suc zero) = 2 ∷ []
backward (suc (suc i)) = []

backward_order : order 3 backward ≡ 2 ∷ 1 ∷ 0 ∷ []
unfolding order passes pass ready? mem? all? from ℕ_discrete Dec.and Dec.not backward
backward_order = refl

-- 1 reads from 0, 2 from 1: one pass places all
forward : ℕ → List ℕ
forward zero = []
forward (suc i) = i ∷ []

forward_order : order 3 forward ≡ 0 ∷ 1 ∷ 2 ∷ []
unfolding order passes pass ready? mem? all? from ℕ_discrete Dec.and Dec.not forward
forward_order = refl

forward_40 : order 40 forward ≡ upto 40
unfolding order passes pass ready? mem? all? from ℕ_discrete Dec.and Dec.not forward
forward_40 = refl

-- 1 and 2 read from one another: 0 and 3 are placed
ring : ℕ → List ℕ
ring zero = []
ring (suc zero) = 0 ∷ 2 ∷ []
ring (suc (suc zero)) = 1 ∷ []
ring (suc (suc (suc i))) = 0 ∷ []

ring_order : order 4 ring ≡ 0 ∷ 3 ∷ []
unfolding order passes pass ready? mem? all? from ℕ_discrete Dec.and Dec.not ring
ring_order = refl

-- Two equations over four slots; 2 and 3 are inputs. Equation 0: slot 0 is slot 1 plus its memory, and the memory becomes slot 1.
-- Equation 1: slot 1 is slot 2; its memory counts.
unfoldable pub eval : ℕ → List ℕ → ℕ → Out ℕ × ℕ
eval zero p s = (values ((get_or p 1 0 + s) ∷ []), get_or p 1 0)
eval (suc i) p s = (values (get_or p 2 0 ∷ []), suc s)

abbrev pub sum : System ℕ ℕ
sum = record { n = 2; m = 4; lhs = λ i. i ∷ []; reads = λ i. suc i ∷ []; eval = eval; kind = λ v. 0; no_cell = 0; no_mem = 0 }

sum_order : order 2 (deps sum) ≡ 1 ∷ 0 ∷ []
unfolding order passes pass ready? mem? all? from ℕ_discrete Dec.and Dec.not deps flat_map
sum_order = refl

pub sum_run : run_eqs sum (1 ∷ 0 ∷ []) (0 ∷ 0 ∷ 7 ∷ 5 ∷ []) (30 ∷ 2 ∷ []) ≡ finished (37 ∷ 7 ∷ 7 ∷ 5 ∷ []) (7 ∷ 3 ∷ [])
unfolding run_eqs onward store eval
sum_run = refl
