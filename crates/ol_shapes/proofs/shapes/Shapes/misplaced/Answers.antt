use mathlib.Core.Path.{sym, subst}
use Rattle.ol_tables.specs.Numbers.{numbers}
use Rattle.ol_shapes.specs.Codes.{place_in}
use Rattle.ol_shapes.specs.Judges.{ExprJudged}
use Rattle.ol_shapes.proofs.Judging.{erred, one_whole, one_part}
use Rattle.ol_shapes.proofs.shapes.Shapes.misplaced.Goals as goal

pub returns-in_err-end : goal.returns-in_err-end
returns-in_err-end c =
    let j = c.args.self.now in
    subst (λ r. ExprJudged j.file.now (numbers j.rows.now) j.slots.now j.plans.now c.args.level c.args.at (place_in c.args.place) r) (sym (erred c.from_residual.result c.from_residual.ensures.1))
    (record { is = λ k locals e es h. one_part e es h c.in_err-end.ensures })

pub returns : goal.returns
returns c = record { is = λ k locals e es h. one_whole e es h c.in_ok-end.ensures c.whole.ensures }
