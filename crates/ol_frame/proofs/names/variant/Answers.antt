use mathlib.Core.Path.{ap, ◌∙◌}
use Rattle.ol_spec.specs.declared.Value.TheVariants as Val
use Rattle.ol_frame.proofs.Naming.{name_bytes_lem}
use Rattle.ol_frame.proofs.names.variant.Goals as goal

pub returns : goal.returns
returns c =
    ap Val.Enum (c.from_be_bytes.ensures ∙ name_bytes_lem c.args.file.now c.args.at c.requires)
