use mathlib.Core.List.{map}
use mathlib.Core.Path.{sym, ap, ◌∙◌}
use Rattle.ol_spec.specs.Places.{placed_nodes}
use Rattle.ol_spec.specs.Admission.{first_some, node_misplaced, fault22}
use Rattle.ol_tables.specs.At.{file_at}
use Rattle.ol_shapes.specs.Codes.{fault_of}
use Rattle.ol_shapes.proofs.Judging.{erred, or_none_lem, or_some}
use Rattle.ol_shapes.proofs.Walking.{counted_constants, counted_nodes}
use Rattle.ol_shapes.proofs.shapes.Shapes.all.Goals as goal

pub constants-requires : goal.constants-requires
constants-requires c = (c.requires.0, c.requires.1, counted_constants c.requires.0 c.requires.1 c.args.constants c.requires.2 c.byte.ensures.is, c.requires.2)

pub returns-in_err-constants : goal.returns-in_err-constants
unfolding fault22
returns-in_err-constants c =
    let f = file_at c.args.self.now.file.now in
    ap fault_of (erred c.from_residual.result c.from_residual.ensures.1) ∙ sym (or_some (first_some (map (node_misplaced f) (placed_nodes f))) (sym c.in_err-constants.ensures))

pub nodes-requires : goal.nodes-requires
nodes-requires c = (c.requires.0, c.requires.1, counted_nodes c.requires.0 c.requires.1 c.args.nodes c.requires.3 c.byte-2.ensures.is)

pub returns : goal.returns
unfolding fault22
returns c =
    let f = file_at c.args.self.now.file.now in
    c.nodes.ensures ∙ sym (or_none_lem (first_some (map (node_misplaced f) (placed_nodes f))) (sym c.in_ok-constants.ensures))
