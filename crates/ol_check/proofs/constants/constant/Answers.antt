use Rattle.ol_check.proofs.ConstantLaws.{constant_walked}
use Rattle.ol_check.proofs.constants.constant.Goals as goal

pub returns : goal.returns
returns c = constant_walked c.args.names.now c.put_type.ensures c.variable_end-g.ensures c.name.ensures.is c.walk.ensures c.declare.ensures
