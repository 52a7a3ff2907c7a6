-- The theorems applied to Examples' system: it is lawful, and its equations the other way round give the same cells.
use mathlib.Core.Path.{◌≡◌, refl, sym, ap, ◌∙◌}
use mathlib.Core.Logic.Dec
use mathlib.Core.Logic.{⊎_elim}
use mathlib.Core.List.Memᴰ.{eq_of_singleton as in_one}
use mathlib.Core.List.Memᴰ.{head as here}
use mathlib.Core.List.Memᴰ.{not-nil as in_nil}
use mathlib.Core.List.{List, [], ◌∷◌, flat_map}
use Prim.Native.Nat.{ℕ, zero, suc, ◌+◌, ◌<◌}
use native.Mathlib.Omega.{arith}
use native.Mathlib.Decide.{ℕ_discrete}
use lib.ListN.{length, get_or}
use Rattle.ol_theory.specs.Member.{◌∈◌, from, mem?, all?}
use Rattle.ol_theory.specs.Order.{ready?, pass, passes, order, ValidOrder}
use Rattle.ol_theory.specs.System.{values, System, deps, finished, run_eqs, Lawful}
use Rattle.ol_theory.specs.Relist.{Permutation, relisted}
use Rattle.ol_theory.specs.Examples.{eval, sum, sum_run}
use Rattle.ol_theory.proofs.OrderProof.{order_cases}
use Rattle.ol_theory.proofs.SystemProof.{deps_closed}
use Rattle.ol_theory.proofs.RelistProof.{relisted_run}

sum_lawful : Lawful sum
unfolding eval
sum_lawful =
    record {
      slots = λ i b x m. let e = in_one m in omega arith;
      once = λ i b. (in_nil, tt);
      single = λ i j bi bj x mi mj. sym (in_one mi) ∙ in_one mj;
      arity = arity;
      local = local;
    }
  where
    arity : (i : ℕ) → i < 2 → (p : List ℕ) (s : ℕ) (vs : List ℕ) → length p ≡ 4 → (eval i p s).0 ≡ values vs → length vs ≡ 1
    arity zero b p s vs e h = let r : vs ≡ (get_or p 1 0 + s) ∷ [] = cc in ap length r
    arity (suc i) b p s vs e h = let r : vs ≡ get_or p 2 0 ∷ [] = cc in ap length r

    local : (i : ℕ) → i < 2 → (p q : List ℕ) (s : ℕ) → length p ≡ 4 → length q ≡ 4 → ((x : ℕ) → x ∈ (suc i ∷ []) → get_or p x 0 ≡ get_or q x 0)
        → ((x : ℕ) → x < 4 → ◌≡◌ {A = ℕ} 0 0) → eval i p s ≡ eval i q s
    local zero b p q s lp lq h k = ap (λ (v : ℕ). (values ((v + s) ∷ []), v)) (h 1 (here refl))
    local (suc zero) b p q s lp lq h k = ap (λ (v : ℕ). (values (v ∷ []), suc s)) (h 2 (here refl))
    local (suc (suc i)) b p q s lp lq h k = absurd (omega arith)

swap : ℕ → ℕ
swap zero = 1
swap (suc zero) = 0
swap (suc (suc i)) = suc (suc i)

swap_permutes : Permutation 2 swap
unfolding swap
swap_permutes = record { inside = inside; back = swap; back_inside = inside; back_there = λ i b. twice i; there_back = λ i b. twice i }
  where
    inside : (i : ℕ) → i < 2 → swap i < 2
    inside zero b = omega arith
    inside (suc zero) b = omega arith
    inside (suc (suc i)) b = absurd (omega arith)

    twice : (i : ℕ) → swap (swap i) ≡ i
    twice zero = refl
    twice (suc zero) = refl
    twice (suc (suc i)) = refl

-- an order with all n entries is valid
full_valid : (sys : System ℕ ℕ) → length (order sys.n (deps sys)) ≡ sys.n → ValidOrder sys.n (deps sys) (order sys.n (deps sys))
full_valid sys e = ⊎_elim (λ v. v) (λ w. absurd (omega (arith, w.1))) (order_cases sys.n (deps sys) (deps_closed sys))

swapped_run : run_eqs (relisted sum swap) (0 ∷ 1 ∷ []) (0 ∷ 0 ∷ 7 ∷ 5 ∷ []) (2 ∷ 30 ∷ []) ≡ finished (37 ∷ 7 ∷ 7 ∷ 5 ∷ []) (3 ∷ 7 ∷ [])
unfolding from swap order passes pass ready? mem? all? ℕ_discrete Dec.and Dec.not deps flat_map
swapped_run =
    relisted_run sum swap swap_permutes sum_lawful (1 ∷ 0 ∷ []) (0 ∷ 1 ∷ []) (full_valid sum refl) (full_valid (relisted sum swap) refl)
    (0 ∷ 0 ∷ 7 ∷ 5 ∷ []) (30 ∷ 2 ∷ []) refl refl (37 ∷ 7 ∷ 7 ∷ 5 ∷ []) (7 ∷ 3 ∷ []) sum_run (λ x h. refl)
