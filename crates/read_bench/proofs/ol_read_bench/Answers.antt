use mathlib.Core.Path.{ap, ◌∙◌}
use Rattle.ol_spec.specs.Limits.{relay_loader}
use Rattle.ol_spec.specs.Read.{read_file}
use Rattle.read_bench.specs.Digests.{loaded_digest}
use Rattle.read_bench.proofs.Digests.{digest_read}
use Rattle.read_bench.proofs.ol_read_bench.Goals as goal

pub returns : goal.returns
returns c =
    c.digest.ensures ∙ ap loaded_digest c.load_file.ensures.read
    ∙ digest_read (read_file c.args.file.now relay_loader)
