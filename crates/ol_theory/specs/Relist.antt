-- The same equations listed in another sequence: the definitions. proofs/RelistProof has the theorem.
use Rattle.std.specs.Prelude.{◌≡◌, List, map, ℕ, ◌<◌}
use Rattle.ol_theory.specs.Member.{upto}
use Rattle.ol_theory.specs.System.{System, memory}

-- π is a permutation of 0 .. n-1, and `back` undoes it
pub record Permutation (n : ℕ) (π : ℕ → ℕ) : Type 0 where
  pub inside : (i : ℕ) → i < n → π i < n
  pub back : ℕ → ℕ
  pub back_inside : (j : ℕ) → j < n → back j < n
  pub back_there : (i : ℕ) → i < n → back (π i) ≡ i
  pub there_back : (j : ℕ) → j < n → π (back j) ≡ j

module _ {Cell Mem : Type 0} (sys : System Cell Mem) (π : ℕ → ℕ) where
  -- the system whose equation i is equation π i of the first
  abbrev pub relisted : System Cell Mem
  relisted =
      record {
        n = sys.n;
        m = sys.m;
        lhs = λ i. sys.lhs (π i);
        reads = λ i. sys.reads (π i);
        eval = λ i. sys.eval (π i);
        kind = sys.kind;
        no_cell = sys.no_cell;
        no_mem = sys.no_mem;
      }

  -- the memories in its sequence
  abbrev pub relisted_mems : List Mem → List Mem
  relisted_mems ms = map (λ i. memory sys ms (π i)) (upto sys.n)
