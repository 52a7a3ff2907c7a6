use Rattle.ol_check.proofs.EquationLaws.{equation_walked}
use Rattle.ol_check.proofs.judge.Judge.equation.Goals as goal

pub returns : goal.returns
returns c = equation_walked c.byte-many.ensures c.define.ensures c.root.ensures
