use Rattle.ol_eval.proofs.Rights.{length_scalar}
use Rattle.ol_frame.proofs.Planning.{plan_head}
use Rattle.ol_tables.proofs.FormLaws.{form_is}
use Rattle.ol_tables.proofs.Forms.{reads_in}
use Rattle.ol_tables.specs.declared.form.Form.TheVariants as Frm
use Rattle.ol_eval.proofs.eval.is_scalar.Goals as goal

pub at-requires : goal.at-requires
at-requires c = reads_in c.args.file.now 24 c.args.rhs (plan_head c.args.file.now c.requires.plan)

pub returns-in_default : goal.returns-in_default
returns-in_default c =
    λ node p. length_scalar c.args.file.now node c.args.rhs p c.array_length.result (c.array_length.ensures node p) (λ e. c.in_default.not-Call (form_is Frm.Call c.at.ensures e)) (λ e. c.in_default.not-Tuple (form_is Frm.Tuple c.at.ensures e))
