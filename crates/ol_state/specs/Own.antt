-- What 15 asks of a record's own bytes, by the default cells.
use Rattle.std.specs.Prelude.{ℕ, ◌*◌, Bool, not, ◌&&◌, ◌||◌, List, leb, eqb, take, drop, get_or}
use Rattle.ol_spec.specs.Lists.{same}
use Rattle.ol_spec.specs.Cell.{good_cells}

-- a started byte of 0 or 1, no bad cell among so many, and these defaults where it is not started
abbrev pub good_bytes : List ℕ → List ℕ → ℕ → List ℕ → Bool
good_bytes names defaults n r =
    leb (get_or r 0 0) 1 && good_cells names n (drop 1 r) && (not (eqb (get_or r 0 0) 0) || same (take (9 * n) (drop 1 r)) defaults)
