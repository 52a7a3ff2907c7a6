use Rattle.std.proofs.Common.{of_calls}
use Rattle.ol_order.proofs.Definers.{defines_told}
use Rattle.ol_order.proofs.equations.defines.Goals as goal

pub returns : goal.returns
returns c = defines_told c.args.file.now c.args.most c.args.at c.args.x _ c.count.ensures.is c.is_ok_and.ensures (λ n p h. search (of_calls, h))
