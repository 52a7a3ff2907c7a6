-- The rows of a file as one list of numbers.
use Rattle.std.specs.Prelude.{ℕ, List, [], ◌∷◌, ◌++◌, map, ◌≡◌}
use Rattle.ol_spec.specs.Lists.{concat}
use Rattle.ol_tables.specs.Tables.{row_at}
use Rattle.ol_tables.specs.declared.tables.Row.{Row}
use Rattle.ol_tables.specs.declared.tables.FileRows.{FileRows}

-- the numbers of a node's row, in the order of the columns
abbrev pub row_numbers : Row → List ℕ
row_numbers r = r.kind ∷ r.equations ∷ r.inputs ∷ r.outputs ∷ r.variables ∷ r.count ∷ r.size ∷ r.place ∷ []

-- eight numbers for each node, then one for each enum
unfoldable pub numbers : FileRows → List ℕ
numbers rows = concat (map row_numbers rows.nodes) ++ rows.firsts

-- r is node k's row
pub record RowIs (rows : List ℕ) (k : ℕ) (r : Row) : Type 0 where
  pub kind : r.kind ≡ row_at rows k 0
  pub equations : r.equations ≡ row_at rows k 1
  pub inputs : r.inputs ≡ row_at rows k 2
  pub outputs : r.outputs ≡ row_at rows k 3
  pub variables : r.variables ≡ row_at rows k 4
  pub count : r.count ≡ row_at rows k 5
  pub size : r.size ≡ row_at rows k 6
  pub place : r.place ≡ row_at rows k 7
