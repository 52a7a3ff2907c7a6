-- The call sites of a node, met head by head: which callees are left at a place of the file, as its bytes tell them.
use Rattle.std.specs.Prelude.{ℕ, zero, suc, ◌+◌, ◌*◌, cond, List, [], ◌++◌, ltb, length, get_or}
use Rattle.ol_tables.specs.Walks.{skip_at, sites_at}
use Rattle.ol_state.specs.declared.sites.CallSites.{CallSites}

module _ (s : List ℕ) where
  -- where the right side of the equation at `at` stands, behind its names
  abbrev pub right_at : ℕ → ℕ
  right_at at = at + 1 + 2 * get_or s at 0

  -- the callees of so many equations from `at` on, one entry for each call site; none where the file ends
  unfoldable pub equations_ahead : ℕ → ℕ → List ℕ
  equations_ahead zero at = []
  equations_ahead (suc n) at = cond (ltb at (length s)) (sites_at s 1 (right_at at) ++ equations_ahead n (skip_at s 1 (right_at at))) []

  -- those of `pending` expressions at `at`, then those of `eqs` equations behind them
  unfoldable pub ahead : ℕ → ℕ → ℕ → List ℕ
  ahead at eqs pending = sites_at s pending at ++ equations_ahead eqs (skip_at s pending at)

-- the callees of the call sites that are left
abbrev pub callees_of : CallSites → List ℕ
callees_of c = ahead c.file.now c.at c.eqs c.pending
