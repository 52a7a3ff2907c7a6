-- What the walks over a file's call sites are told: the file is the encoding of its tree, every call is of a lower number, and the tables are right.
use Rattle.std.specs.Prelude.{ℕ, ◌<◌, ◌≤◌, List, ◌≡◌, T, length}
use Rattle.ol_theory.specs.Member.{◌∈◌}
use Rattle.ol_spec.specs.Syntax.{File}
use Rattle.ol_spec.specs.Encode.{encode}
use Rattle.ol_spec.specs.Limits.{relay_loader}
use Rattle.ol_spec.specs.Within.{within}
use Rattle.ol_spec.specs.Step.{sites}
use Rattle.ol_tables.specs.Tables.{Rows, Tab, node_of, site_bytes, size_cap}

-- the file is the encoding of its tree, and `rows` is right
pub record Counted (f : File) (s rows : List ℕ) : Type 0 where
  pub encoded : encode f ≡ s
  pub within : T (within relay_loader f)
  pub rowed : Rows f rows

-- besides, every call is of a node of a lower number, and `tab` is right
pub record Known (f : File) (s tab rows : List ℕ) : Type 0 where
  pub encoded : encode f ≡ s
  pub within : T (within relay_loader f)
  pub lower : (k c : ℕ) → c ∈ sites (node_of f k) → c < k
  pub rowed : Rows f rows
  pub tabled : Tab f (length s) tab

-- a list as long as the record at a call site of node k
pub record Sited (f : File) (s tab rows : List ℕ) (k : ℕ) (r : List ℕ) : Type 0 where
  pub known : Known f s tab rows
  pub below : k < length f.nodes
  pub sized : length r ≡ site_bytes f k
  pub small : length r ≤ size_cap
