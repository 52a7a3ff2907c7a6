-- What the timed reading answers.
use Rattle.std.specs.Prelude.{ℕ, ◌+◌, Ok, Err, length}
use Rattle.ol_spec.specs.Syntax.{File}
use Rattle.ol_spec.specs.Read.{Read, got, fault}
use Rattle.ol_ir.specs.Walks.{Loading}

-- how many nodes a loaded file has; of a refused one the fault's number, above 256
abbrev pub loaded_digest : Loading → ℕ
loaded_digest (Ok l) = l.nodes
loaded_digest (Err f) = 256 + f.number

-- the same of a file as it reads
abbrev pub read_digest : Read File → ℕ
read_digest (got f end) = length f.nodes
read_digest (fault n p) = 256 + n
