-- What passing over expressions asks and gives.
use Rattle.std.specs.Prelude.{ℕ, ◌<◌, ◌≤◌, Bool, not, List, ◌≡◌, length}
use Rattle.ol_spec.specs.Lists.{is_empty}
use Rattle.ol_spec.specs.Eval.{callees_all, sites_size}
use Rattle.ol_spec.specs.Step.{sizes_at}
use Rattle.ol_tables.specs.At.{file_at, exprs_at, ends_at, ReadsAll}
use Rattle.ol_tables.specs.Tables.{Each, Rows}
use Rattle.ol_frame.specs.declared.skip.Passed.{Passed}

-- how many nodes the file has
abbrev pub nodes_in : List ℕ → ℕ
nodes_in file = length (file_at file).nodes

-- the bytes of a record at a call site of each node
abbrev pub sizes_in : List ℕ → List ℕ
sizes_in file = sizes_at (length (file_at file).nodes) (file_at file).nodes

-- the callees are of lower numbers than n
abbrev pub Below : ℕ → ℕ → Type 0
Below n c = c < n

-- the file's rows
pub record Sized (file rows : List ℕ) : Type 0 where
  pub small : length file ≤ 32768
  pub few : nodes_in file ≤ 32
  pub table : Rows (file_at file) rows

-- n expressions from `at` on can be passed over
pub record Passable (file rows : List ℕ) (level n at : ℕ) : Type 0 where
  pub sized : Sized file rows
  pub reads : ReadsAll file level n at
  pub below : Each (Below (nodes_in file)) (callees_all (exprs_at file level n at))
  pub room : sites_size (sizes_in file) (callees_all (exprs_at file level n at)) ≤ 32768

pub record Skips (has : Bool) (next used : ℕ) (r : Passed) : Type 0 where
  pub next_is : r.next ≡ next
  pub used_is : r.used ≡ used
  pub has_is : r.has ≡ has

-- what passing over them gives
abbrev pub SkipsTo : List ℕ → ℕ → ℕ → ℕ → Passed → Type 0
SkipsTo file level n at r =
    Skips (not (is_empty (callees_all (exprs_at file level n at)))) (ends_at file level n at) (sites_size (sizes_in file) (callees_all (exprs_at file level n at))) r
