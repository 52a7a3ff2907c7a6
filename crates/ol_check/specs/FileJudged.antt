-- Faults 7 to 10 of a whole file, the slots of its names, and the lengths of its records.
use Rattle.std.specs.Prelude.{ℕ, ◌<◌, List, map, ◌≡◌, length, get_or}
use Rattle.std.proofs.Math.Option.{none}
use Rattle.ol_spec.specs.Syntax.{File}
use Rattle.ol_spec.specs.Places.{placed_constants, placed_nodes}
use Rattle.ol_spec.specs.Lists.{concat}
use Rattle.ol_spec.specs.Admission.{first, variants, fault7, fault8, fault9, fault10}
use Rattle.ol_tables.specs.At.{file_at}
use Rattle.ol_tables.specs.Tables.{node_of, Each}
use Rattle.ol_tables.specs.Stands.{FileReads}
use Rattle.ol_check.specs.Founds.{place_of}
use Rattle.ol_check.specs.Arrays.{about_arrays}
use Rattle.ol_check.specs.RowsDone.{NodeRow, SectionsAre}
use Rattle.ol_check.specs.Entries.{declare_all, variant_entry, constant_entries}
use Rattle.ol_check.specs.NodesJudged.{place_in, AllCovered, node_again, slot_nodes}
use Rattle.ol_check.specs.ConstantsJudged.{slot_constants}
use Rattle.ol_check.specs.Sizes.{SizesDone, MainSized, size_nodes, last_size}
use Rattle.ol_check.specs.declared.Faults.{Faults}
use Rattle.ol_check.specs.declared.rows.Sections.{Sections}

-- the file reads without fault, with the rows of its nodes and its sections; the table by name is empty
pub record FileReady (s rows names : List ℕ) (at : Sections) : Type 0 where
  pub reads : FileReads s
  pub row : (j : ℕ) → j < length (file_at s).nodes → NodeRow (node_of (file_at s) j) (place_in (file_at s) j) j rows
  pub sections : SectionsAre (file_at s) at
  pub empty : (x : ℕ) → get_or names x 0 ≡ 0

-- every declared name is within the table
pub record NamesWithin (room : ℕ) (f : File) : Type 0 where
  pub variants : Each (λ x. x < room) (variants f)
  pub constants : Each (λ c. c.name < room) f.constants
  pub nodes : AllCovered room f

-- the table by name with the variants, and with the constants
abbrev pub variant_table : List ℕ → File → List ℕ
variant_table names f = declare_all names (map variant_entry (variants f))

abbrev pub global_table : List ℕ → File → List ℕ
global_table names f = declare_all (variant_table names f) (constant_entries 0 f.constants)

-- 8 as the table by name tells it, which is fault 8 where 7 does not hold; and the records' lengths as the rows tell them, which are the file's where 9 does not hold
pub record FileJudged (s : List ℕ) (f : File) (names names' slots slots' rows rows' : List ℕ) (r : Faults) : Type 0 where
  pub unseen : place_of r.unseen ≡ fault7 f
  pub taken : place_of r.again ≡ first (concat (map (node_again (global_table names f)) (placed_nodes f)))
  pub again : fault7 f ≡ none → place_of r.again ≡ fault8 f
  pub called : place_of r.called ≡ fault9 f
  pub shaped : place_of r.shaped ≡ fault10 f
  pub arrays : r.arrays ≡ about_arrays f
  pub entered : names' ≡ global_table names f
  pub slotted : slots' ≡ slot_nodes s (global_table names f) (slot_constants s (variant_table names f) slots 0 (placed_constants f)) 0 (placed_nodes f)
  pub stored : rows' ≡ size_nodes rows (length f.nodes) 0 f.nodes
  pub last : r.size ≡ last_size 0 rows (length f.nodes) 0 f.nodes
  pub sized : SizesDone f rows rows'
  pub main : fault9 f ≡ none → MainSized f r.size
