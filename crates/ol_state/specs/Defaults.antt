-- The cells of a fresh record, as the tables tell them.
use Rattle.std.specs.Prelude.{ℕ, zero, suc, ◌+◌, ◌%◌, max, List, [], ◌∷◌, ◌++◌}
use Rattle.ol_spec.specs.Cell.{cell}
use Rattle.ol_spec.specs.Types.{default}
use Rattle.ol_value.specs.Codes.{ty_of}
use Rattle.ol_tables.specs.Tables.{row_at, code_at, enum_at, length_at, first_at}
use Rattle.ol_tables.specs.Table.{tab_of, rows_of}

-- the cell of the default of the type with this code; `first` is an enum's first variant, a name
unfoldable pub default_cell : ℕ → ℕ → List ℕ
default_cell code first = cell (default ((first % 65536 ∷ []) ∷ []) (ty_of code 0))

-- so many of them
unfoldable pub default_cells : ℕ → ℕ → ℕ → List ℕ
default_cells code first zero = []
default_cells code first (suc n) = default_cell code first ++ default_cells code first n

module _ (tab : List ℕ) (k : ℕ) where
  -- how many cells variable i of node k has: as many as its array is long, and one if it is a scalar
  abbrev pub width_of : ℕ → ℕ
  width_of i = max (length_at tab k i) 1

  -- how many so many variables have, from number i on
  unfoldable pub widths_at : ℕ → ℕ → ℕ
  widths_at i zero = 0
  widths_at i (suc n) = width_of i + widths_at (i + 1) n

module _ (tab rows : List ℕ) (k : ℕ) where
  -- the default cells of variable i of node k
  abbrev pub cell_at : ℕ → List ℕ
  cell_at i = default_cells (code_at tab k i) (first_at rows (enum_at tab k i)) (width_of tab k i)

  -- those of so many variables, from number i on
  unfoldable pub cells_at : ℕ → ℕ → List ℕ
  cells_at i zero = []
  cells_at i (suc n) = cell_at i ++ cells_at (i + 1) n

  -- how many cells all its variables have, and their default cells
  abbrev pub own_count : ℕ
  own_count = widths_at tab k 0 (row_at rows k 4)

  abbrev pub own_cells : List ℕ
  own_cells = cells_at 0 (row_at rows k 4)

-- the same by the table of a file
abbrev pub width_at : List ℕ → ℕ → ℕ
width_at t k = own_count (tab_of t) (rows_of t) k

abbrev pub defaults_at : List ℕ → ℕ → List ℕ
defaults_at t k = own_cells (tab_of t) (rows_of t) k
