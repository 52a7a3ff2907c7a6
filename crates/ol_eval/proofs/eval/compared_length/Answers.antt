-- What `compared_length` is asked.
use Rattle.std.proofs.Common.{◌+◌, ◌≡◌, false, get_or, arith, ap, sym, ◌∙◌}
use mathlib.Core.Bool.{◌||◌}
use borrow.Author.Tests.{ne_eqb}
use Rattle.ol_spec.specs.Lists.{maybe}
use Rattle.ol_tables.proofs.Forms.{reads_in}
use Rattle.ol_tables.specs.At.{expr_at}
use Rattle.ol_frame.specs.Plans.{shape_in}
use Rattle.ol_frame.proofs.Planning.{plan_head}
use Rattle.ol_eval.specs.Post.{equality_code}
use Rattle.ol_eval.proofs.Scalars.{not_array}
use Rattle.ol_eval.proofs.eval.compared_length.Goals.{then-op-eq4, else-op-eq4}
use Rattle.ol_eval.proofs.eval.compared_length.Goals as goal

pub overflow_add-op : goal.overflow_add-op
overflow_add-op c = omega (arith, reads_in c.args.file.now c.args.level (c.args.at + 2) (plan_head c.args.file.now c.requires.plan), c.requires.plan.program.sized.small)

pub bounds-file-at : goal.bounds-file-at
bounds-file-at c = omega (arith, reads_in c.args.file.now c.args.level (c.args.at + 2) (plan_head c.args.file.now c.requires.plan))

pub returns-else-compares : goal.returns-else-compares
returns-else-compares c = λ node p equated.
    let code : equality_code (get_or c.args.file.now (c.args.at + 1) 0) ≡ false = elim c.if-op-eq4.branch [ then-op-eq4 w ↦ cc | else-op-eq4 w ↦ (λ i. ne_eqb (get_or c.args.file.now (c.args.at + 1) 0) 4 w.if-op-eq4.false i || (sym w.compares-is ∙ c.if-compares.false) i) ] in
    sym (ap (maybe 0 (λ n. n)) (not_array (shape_in c.args.file.now node (expr_at c.args.file.now c.args.level (c.args.at + 2))) (equated code)))
