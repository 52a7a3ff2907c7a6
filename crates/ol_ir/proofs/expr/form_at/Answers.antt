use Rattle.ol_spec.specs.Read.{expr_codes}
use Rattle.ol_ir.proofs.Bytes.{coded_none, coded_end, get_out}
use Rattle.ol_ir.proofs.expr.form_at.Goals as goal

pub returns-then-file-at : goal.returns-then-file-at
returns-then-file-at c = rw c.refused.ensures (coded_end c.args.file.now c.args.at expr_codes c.if-file-at.true)

pub returns-in-Err : goal.returns-in-Err
returns-in-Err c = rw c.refused-in-Err.ensures (coded_none c.args.file.now c.args.at expr_codes c.if-file-at.false (get_out expr_codes _ c.in-Err.ensures))
