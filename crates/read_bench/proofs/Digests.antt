-- The digest of what was loaded is that of the file as it reads.
use mathlib.Core.Path.{◌≡◌, refl}
use Rattle.ol_spec.specs.Syntax.{File}
use Rattle.ol_spec.specs.Read.{Read, got, fault}
use Rattle.ol_ir.specs.Walks.{loaded_of}
use Rattle.read_bench.specs.Digests.{loaded_digest, read_digest}

pub digest_read : (r : Read File) → loaded_digest (loaded_of r) ≡ read_digest r
unfolding loaded_of
digest_read (got f end) = refl
digest_read (fault n p) = refl
