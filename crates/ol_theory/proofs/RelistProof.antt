-- A system that is listed in another sequence has the same solution.
use mathlib.Core.Path.{◌≡◌, sym, ap, subst, ◌∙◌}
use mathlib.Core.List.{List}
use Prim.Native.Nat.{ℕ, ◌<◌}
use native.Mathlib.Omega.{arith}
use lib.ListN.{length, length-map}
use lib.Seq.{ext_get_or}
use Rattle.ol_theory.specs.Member.{◌∈◌, upto}
use Rattle.ol_theory.specs.Order.{ValidOrder}
use Rattle.ol_theory.specs.System.{System, memory, deps, finished, run_eqs, SameKinds, Solution, new_mems, Lawful}
use Rattle.ol_theory.specs.Relist.{Permutation, relisted, relisted_mems}
use Rattle.ol_theory.proofs.Members.{in_upto, length_from, map_upto, map_cong}
use Rattle.ol_theory.proofs.SystemProof.{new_memory, run_solution, solution_run}

module _ {Cell Mem : Type 0} (sys : System Cell Mem) (π : ℕ → ℕ) where
  relisted_memory : (ms : List Mem) (i : ℕ) → i < sys.n → memory sys (relisted_mems sys π ms) i ≡ memory sys ms (π i)
  relisted_memory ms i b = map_upto (λ i. memory sys ms (π i)) sys.n i sys.no_mem b

  relisted_length : (ms : List Mem) → length (relisted_mems sys π ms) ≡ sys.n
  relisted_length ms = length-map (upto sys.n) (λ i. memory sys ms (π i)) ∙ length_from 0 sys.n

  -- memories are relisted, if each is
  pub relisted_each : (ms ms' : List Mem) → length ms' ≡ sys.n → ((i : ℕ) → i < sys.n → memory sys ms' i ≡ memory sys ms (π i)) → ms' ≡ relisted_mems sys π ms
  relisted_each ms ms' e h =
      ext_get_or sys.no_mem ms' (relisted_mems sys π ms) (e ∙ sym (relisted_length ms)) (λ i b. let b' : i < sys.n = omega arith in h i b' ∙ sym (relisted_memory ms i b'))

  module _ (perm : Permutation sys.n π) where
    relisted_lawful : Lawful sys → Lawful (relisted sys π)
    relisted_lawful ok =
        record {
          slots = λ i b. ok.slots (π i) (perm.inside i b);
          once = λ i b. ok.once (π i) (perm.inside i b);
          single = λ i j bi bj x mi mj.
              sym (perm.back_there i bi) ∙ ap perm.back (ok.single (π i) (π j) (perm.inside i bi) (perm.inside j bj) x mi mj) ∙ perm.back_there j bj;
          arity = λ i b. ok.arity (π i) (perm.inside i b);
          local = λ i b. ok.local (π i) (perm.inside i b);
        }

    relisted_new : (p : List Cell) (ms : List Mem) → new_mems (relisted sys π) p (relisted_mems sys π ms) ≡ relisted_mems sys π (new_mems sys p ms)
    unfolding new_mems
    relisted_new p ms =
        map_cong _ _ (upto sys.n) (λ i m.
        let b = in_upto sys.n i m in
        ap (λ s. (sys.eval (π i) p s).1) (relisted_memory ms i b) ∙ sym (new_memory sys p ms (π i) (perm.inside i b)))

    relisted_solution : (p₀ : List Cell) (ms : List Mem) (p : List Cell) → Solution sys p₀ ms p → Solution (relisted sys π) p₀ (relisted_mems sys π ms) p
    relisted_solution p₀ ms p s =
        record {
          size = s.size;
          kinds = s.kinds;
          kept = λ x h u. s.kept x h (λ j b m. u (perm.back j) (perm.back_inside j b) (subst (λ k. x ∈ sys.lhs k) (sym (perm.there_back j b)) m));
          holds = λ i b. rw (relisted_memory ms i b) (s.holds (π i) (perm.inside i b));
        }

    -- P: along any valid orders of both, if the run of the first system finishes with cells of p₀'s kinds, then that of the relisted one
    -- finishes with the same cells, and with the same memories in its sequence
    pub relisted_run : Lawful sys → (l l' : List ℕ) → ValidOrder sys.n (deps sys) l → ValidOrder sys.n (deps (relisted sys π)) l'
        → (p₀ : List Cell) (ms : List Mem) → length p₀ ≡ sys.m → length ms ≡ sys.n
        → (p : List Cell) (ms' : List Mem) → run_eqs sys l p₀ ms ≡ finished p ms' → SameKinds sys p p₀
        → run_eqs (relisted sys π) l' p₀ (relisted_mems sys π ms) ≡ finished p (relisted_mems sys π ms')
    relisted_run ok l l' v v' p₀ ms cells mems p ms' run kinds =
        let s = run_solution sys ok l v p₀ ms cells mems p ms' run kinds in
        let first = solution_run sys ok l v p₀ ms cells mems p s in
        let e : new_mems sys p ms ≡ ms' = cc in
        solution_run (relisted sys π) (relisted_lawful ok) l' v' p₀ (relisted_mems sys π ms) cells (relisted_length ms) p (relisted_solution p₀ ms p s)
        ∙ ap (finished p) (relisted_new p ms ∙ ap (relisted_mems sys π) e)
