use mathlib.Core.Path.{ap, ◌∙◌}
use lib.ListN.{get_or}
use Rattle.ol_spec.specs.Cell.{value_by}
use Rattle.ol_value.proofs.Digits.{cell_value}
use Rattle.ol_value.proofs.cell.read_cell.Goals as goal

pub returns : goal.returns
returns c =
    let s = c.args.bytes.now in
    c.value_by.ensures ∙ ap (value_by (get_or s c.args.at 0)) c.read_number-p.ensures ∙ cell_value s c.args.at c.requires
