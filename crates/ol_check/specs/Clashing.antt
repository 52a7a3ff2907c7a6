-- Fault 6, by a table that says of each name which sort declared it last; the highest declared name; and whether an array is declared.
use Rattle.std.specs.Prelude.{ℕ, zero, suc, max, ◌+◌, ◌-◌, ◌<◌, Bool, ◌&&◌, ◌||◌, cond, List, [], ◌∷◌, ◌++◌, map, ◌≡◌, length, get_or, set, ltb, leb, eqb}
use Rattle.std.proofs.Math.Option.{Option, none}
use Rattle.ol_spec.specs.Lists.{or_else}
use Rattle.ol_spec.specs.Syntax.{File}
use Rattle.ol_spec.specs.Places.{constants_start}
use Rattle.ol_spec.specs.Admission.{Sort, variant, constant, variable, Declared, first_if, declared_as, declared, fault6}
use Rattle.ol_tables.specs.At.{file_at}
use Rattle.ol_tables.specs.Stands.{FileReads}
use Rattle.ol_tables.specs.Tables.{Each, node_of}
use Rattle.ol_check.specs.Founds.{place_of}
use Rattle.ol_check.specs.Arrays.{or_all, declares_arrays}
use Rattle.ol_check.specs.Spans.{starts_from, end_from, behind_variable, behind_enum, names_from, variables_from}
use Rattle.ol_check.specs.RowsDone.{NodeRow, SectionsAre}
use Rattle.ol_check.specs.NodesJudged.{place_in}
use Rattle.ol_check.specs.declared.rows.Sections.{Sections}
use Rattle.ol_check.specs.declared.clash.Sorting.{Sorting}
use Rattle.ol_check.specs.declared.clash.Sorter.{Sorter}

-- the byte of a sort: an enum's number and 1, 17 for a constant, a node's number and 18
abbrev pub sort_code : Sort → ℕ
sort_code (variant i) = i + 1
sort_code constant = 17
sort_code (variable k) = k + 18

-- the sort of a byte that is not 0
abbrev pub sort_of : ℕ → Sort
sort_of c = cond (ltb c 17) (variant (c - 1)) (cond (eqb c 17) constant (variable (c - 18)))

-- whether a declaration clashes with the last one of its name, whose byte is `last` and no higher; 0 is none
abbrev pub meets : ℕ → ℕ → Bool
meets last sort = ltb 0 last && (eqb last sort || (leb last 17 && leb 17 sort))

-- the table after so many declarations, and the first clash that it shows
unfoldable pub sort_all : List ℕ → List Declared → List ℕ
sort_all sorts [] = sorts
sort_all sorts (d ∷ ds) = sort_all (set sorts d.name (sort_code d.sort)) ds

unfoldable pub clash_in : List ℕ → List Declared → Option ℕ
clash_in sorts [] = none
clash_in sorts (d ∷ ds) = first_if (meets (get_or sorts d.name 0) (sort_code d.sort)) d.place (clash_in (set sorts d.name (sort_code d.sort)) ds)

-- the highest of `most` and these names
unfoldable pub over_all : ℕ → List Declared → ℕ
over_all most [] = most
over_all most (d ∷ ds) = over_all (max most d.name) ds

-- what a walk over these declarations, which say of some types whether they are an array's, makes of a sorter: its table, of which it keeps the reference, the first clash so far, the highest name so far and
-- whether an array was declared so far
pub record Walks (ds : List Declared) (bs : List Bool) (v v' : Sorter) : Type 0 where
  pub same_reference : v'.sorts.ghost_name ≡ v.sorts.ghost_name
  pub finds : place_of v'.marks.found ≡ or_else (place_of v.marks.found) (clash_in v.sorts.now ds)
  pub above : v'.marks.highest ≡ over_all v.marks.highest ds
  pub arrays : v'.marks.arrays ≡ or_all v.marks.arrays bs
  pub enters : v'.sorts.now ≡ sort_all v.sorts.now ds

-- whether the variable or constant at p is an array, and those of so many variables from `at` on
abbrev pub typed_array : List ℕ → ℕ → Bool
typed_array s p = eqb (get_or s (p + 2) 0) 13

abbrev pub arrays_from : List ℕ → ℕ → ℕ → List Bool
arrays_from s n at = map (typed_array s) (starts_from (behind_variable s) n at)

-- so many variables from `at` on, and where they end
pub record VariablesSorted (s : List ℕ) (sort count at : ℕ) (v v' : Sorter) (r : ℕ) : Type 0 where
  pub walks : Walks (declared_as (sort_of sort) (variables_from s count at)) (arrays_from s count at) v v'
  pub ends : r ≡ end_from (behind_variable s) count at

-- the variants of so many enums from `at` on, the first being number e
unfoldable pub enums_from : List ℕ → ℕ → ℕ → ℕ → List Declared
enums_from s e zero at = []
enums_from s e (suc n) at = declared_as (sort_of (e + 1)) (names_from s (get_or s at 0) (at + 1)) ++ enums_from s (e + 1) n (behind_enum s at)

-- the constants of a file that reads without fault stand from `at` on, so many
pub record ConstantsAt (s : List ℕ) (count at : ℕ) : Type 0 where
  pub reads : FileReads s
  pub many : count ≡ length (file_at s).constants
  pub place : at ≡ constants_start (file_at s)

-- the file reads without fault, with the rows of its nodes and its sections
pub record DeclaredReady (s rows : List ℕ) (at : Sections) : Type 0 where
  pub reads : FileReads s
  pub row : (j : ℕ) → j < length (file_at s).nodes → NodeRow (node_of (file_at s) j) (place_in (file_at s) j) j rows
  pub sections : SectionsAre (file_at s) at

-- every entry is 0, and every declared name has one
pub record Blank (f : File) (names : List ℕ) : Type 0 where
  pub zero : (x : ℕ) → get_or names x 0 ≡ 0
  pub below : Each (λ d. d.name < length names) (declared f)

-- Every declared name was met, also behind a clash: the table has each name's last sort over what it had before, and the first clash is the one that it shows; where the table was blank, it is the
-- file's.
pub record FileSorted (s sorts sorts' : List ℕ) (r : Sorting) : Type 0 where
  pub enters : sorts' ≡ sort_all sorts (declared (file_at s))
  pub clash : place_of r.found ≡ clash_in sorts (declared (file_at s))
  pub finds : Blank (file_at s) sorts → place_of r.found ≡ fault6 (file_at s)
  pub highest : r.highest ≡ over_all 0 (declared (file_at s))
  pub arrays : r.arrays ≡ declares_arrays (file_at s)
