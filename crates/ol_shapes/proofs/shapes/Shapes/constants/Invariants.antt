use lib.ListN.{length}
use Rattle.ol_spec.specs.Limits.{base}
use Rattle.ol_spec.specs.Places.{constant_size, constants_start, placed_constants}
use Rattle.ol_spec.specs.Encode.{constant_bytes}
use Rattle.ol_spec.specs.Within.{constant_fits}
use Rattle.ol_spec.specs.Admission.{constant_misplaced}
use Rattle.ol_tables.specs.At.{file_at}
use Rattle.ol_tables.proofs.HeadsFile.{Passing}
use Rattle.ol_shapes.proofs.Laying.{no_constant}
use Rattle.ol_shapes.proofs.Firsts.{FirstLeft}
use Rattle.ol_shapes.proofs.shapes.Shapes.constants.Given as goal

abbrev pub invariant-loop : goal.invariant-loop
invariant-loop l =
    let s = l.self.file.now in
    Passing constant_bytes (constant_fits base (length (file_at s).enums)) constant_size s (constants_start (file_at s)) (file_at s).constants l.counter l.next
    × FirstLeft (constant_misplaced (file_at s)) (0, no_constant) (placed_constants (file_at s)) l.counter
