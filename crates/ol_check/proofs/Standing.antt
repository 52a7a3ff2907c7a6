-- A file that reads without fault, whose bytes are bytes, stands.
use Prim.Native.Nat.{ℕ}
use mathlib.Core.List.{List}
use native.Mathlib.Omega.{arith}
use mir.Syntax.{w8}
use mir.Val.{Fits}
use lib.ListN.{get_or}
use Rattle.ol_tables.specs.At.{file_at}
use Rattle.ol_tables.specs.Stands.{FileReads, FileStands}
use Rattle.ol_tables.proofs.HeadsFile.{file_stands, bytes_of_lem}

pub stands : {s : List ℕ} → ((i : ℕ) → Fits w8 (get_or s i 0)) → FileReads s → FileStands s (file_at s)
stands {s} fits reads = file_stands (bytes_of_lem s (λ i. omega (arith, fits i))) reads
