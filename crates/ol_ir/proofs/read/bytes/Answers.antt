use Prim.Native.Nat.{◌+◌, ◌<◌}
use mathlib.Core.Path.{refl, ◌∙◌}
use native.Mathlib.Omega.{arith}
use lib.ListN.{length}
use Rattle.ol_spec.specs.Read.{number}
use Rattle.ol_ir.specs.Nexts.{next_of}
use Rattle.ol_ir.proofs.Forms.{number_in, number_out}
use Rattle.ol_ir.proofs.read.bytes.Goals as goal
use Rattle.ol_ir.proofs.read.bytes.Goals.{else-at-end-via-then-at-end+else-count-end, else-at-end-via-else-at-end}

pub returns-then-count-eq0 : goal.returns-then-count-eq0
unfolding number next_of
returns-then-count-eq0 c = rw c.if-count-eq0.true refl

pub returns-then-count-end : goal.returns-then-count-end
returns-then-count-end c = number_in _ c.args.count c.args.at (omega arith)

pub returns-else-at-end : goal.returns-else-at-end
returns-else-at-end c =
    let out : length c.args.file.now < c.args.at + c.args.count =
    elim c.else-at-end.branch [ else-at-end-via-then-at-end+else-count-end w ↦ omega arith | else-at-end-via-else-at-end w ↦ omega arith ] in
    c.refused.ensures ∙ number_out _ c.args.count c.args.at (omega arith) out
