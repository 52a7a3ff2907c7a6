use mathlib.Core.Path.{◌∙◌}
use Rattle.std.proofs.Common.{rules}
use Rattle.ol_spec.specs.Read.{constant_r}
use Rattle.ol_ir.specs.Nexts.{next_of}
use Rattle.ol_ir.proofs.Onward.{section_next}
use Rattle.ol_ir.proofs.Reader.constants.Goals as goal

pub returns : goal.returns
returns c =
    let r = constant_r c.args.self.now.file.now c.args.self.now.limits.now c.args.self.now.enums in
    c.section.ensures (λ p. next_of (r p)) (λ p y e. search rules) ∙ section_next c.args.self.now.file.now 0 c.args.self.now.limits.now.constants r c.args.at
