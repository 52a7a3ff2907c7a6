-- Expressions that stand in a file, with what the tables tell of their names and callees.
use Rattle.std.specs.Prelude.{ℕ, ◌+◌, ◌*◌, ◌≤◌, ◌<◌, List, ◌≡◌, length, get_or}
use Rattle.std.proofs.Math.Option.{Option}
use Rattle.ol_spec.specs.Lists.{maybe}
use Rattle.ol_spec.specs.Syntax.{Exprs, File, variables}
use Rattle.ol_spec.specs.Places.{placed_nodes, collect_all}
use Rattle.ol_spec.specs.Encode.{kind_code}
use Rattle.ol_spec.specs.Shapes.{Sized, constant_arrays, length_of}
use Rattle.ol_spec.specs.Within.{deepest}
use Rattle.ol_spec.specs.Admission.{used_at, uses_where, bad_call, bad_iterator}
use Rattle.ol_tables.specs.At.{file_at}
use Rattle.ol_tables.specs.Heads.{Standing}
use Rattle.ol_tables.specs.Stands.{FileStands}
use Rattle.ol_tables.specs.Tables.{Each, Sound, Told, row_at, node_of, place_of, var_ty_at}
use Rattle.ol_shapes.specs.Codes.{ArrayFits}

-- node k's row, but for its first equation's place and the length of its record
pub record RowTold (f : File) (rows : List ℕ) (k : ℕ) : Type 0 where
  pub kind : row_at rows k 0 ≡ kind_code (node_of f k).kind
  pub inputs : row_at rows k 2 ≡ length (node_of f k).inputs
  pub outputs : row_at rows k 3 ≡ length (node_of f k).outputs
  pub variables : row_at rows k 4 ≡ length (variables (node_of f k))
  pub count : row_at rows k 5 ≡ length (node_of f k).equations
  pub place : row_at rows k 7 ≡ place_of (placed_nodes f) k

-- the rows, and the types of the nodes' variables among the plans
pub record Typed (s rows plans : List ℕ) : Type 0 where
  pub row : (k : ℕ) → k < length (file_at s).nodes → RowTold (file_at s) rows k
  pub types : (k : ℕ) → k < length (file_at s).nodes → (i : ℕ) → i < length (variables (node_of (file_at s) k))
      → Told plans (place_of (placed_nodes (file_at s)) k + 2 * i) (var_ty_at (variables (node_of (file_at s) k)) i)

-- the slot before the name of a Var, which stands at p.0, has its array's length, if it is in the file
pub record HasLength (s slots : List ℕ) (long : ℕ → Option ℕ) (p : ℕ × ℕ) : Type 0 where
  pub length : (at : ℕ) → p.0 ≡ at + 1 → at < length s → get_or slots at 0 ≡ maybe 0 (λ n. n) (long p.1)

-- the array's length of a name, in a scope with these arrays
abbrev pub long_in : List ℕ → List Sized → ℕ → Option ℕ
long_in s locals x = length_of (file_at s).nodes locals (constant_arrays (file_at s).constants) x

-- node k's scope, with these arrays among its variables; a constant's has number 0 and none
pub record Scoped (s rows slots plans : List ℕ) (k : ℕ) (locals : List Sized) : Type 0 where
  pub typed : Typed s rows plans
  pub stands : FileStands s (file_at s)
  pub low : k ≤ length (file_at s).nodes
  pub sized : (x : ℕ) → ArrayFits (long_in s locals x)

-- these expressions of at most `level` levels stand at `at` in node k's scope, one after the other: their names' lengths are told, and none of their calls and iterators is faulted
pub record Sits (s rows slots plans : List ℕ) (k : ℕ) (locals : List Sized) (level at : ℕ) (es : Exprs) : Type 0 where
  pub scope : Scoped s rows slots plans k locals
  pub stands : Standing s (length (file_at s).enums) at es
  pub deep : deepest es ≤ level
  pub lengths : Each (HasLength s slots (long_in s locals)) (collect_all used_at at es)
  pub sound : Each Sound (collect_all (uses_where (bad_call (file_at s) k (node_of (file_at s) k)) (bad_iterator k)) at es)
