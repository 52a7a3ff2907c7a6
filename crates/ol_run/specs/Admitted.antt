-- A file without the faults 6 to 11 and 22, and its tables: what the public entry has when it evaluates.
use Rattle.std.specs.Prelude.{List, ◌≡◌, ℕ, length}
use Rattle.std.proofs.Math.Option.{none}
use Rattle.ol_spec.specs.Syntax.{File}
use Rattle.ol_spec.specs.Admission.{fault6, fault7, fault8, fault9, fault10, fault11, fault22}
use Rattle.ol_tables.specs.At.{file_at}
use Rattle.ol_tables.specs.Stands.{FileReads, FileStands}
use Rattle.ol_tables.specs.Tables.{Rows, Tab}

-- 6 to 10 do not hold
pub record Sound (f : File) : Type 0 where
  pub no6 : fault6 f ≡ none
  pub no7 : fault7 f ≡ none
  pub no8 : fault8 f ≡ none
  pub no9 : fault9 f ≡ none
  pub no10 : fault10 f ≡ none

-- neither does 22
pub record Shaped (f : File) : Type 0 where
  pub sound : Sound f
  pub no22 : fault22 f ≡ none

-- neither does 11
pub record Ordered (f : File) : Type 0 where
  pub shaped : Shaped f
  pub no11 : fault11 f ≡ none

pub record Admitted (s rows tab : List ℕ) : Type 0 where
  pub reads : FileReads s
  pub stands : FileStands s (file_at s)
  pub ordered : Ordered (file_at s)
  pub rowed : Rows (file_at s) rows
  pub tabled : Tab (file_at s) (length s) tab
