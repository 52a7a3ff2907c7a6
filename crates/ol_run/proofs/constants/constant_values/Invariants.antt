use mathlib.Core.Path.{◌≡◌}
use lib.ListN.{length}
use Rattle.ol_run.proofs.Constant.{Going}
use Rattle.ol_run.proofs.constants.constant_values.Given as goal

abbrev pub invariant-loop : goal.invariant-loop
invariant-loop l = (length l.cells ≡ 288) × Going l.file l.fn.tab l.tab l.count l.pos l.known l.counter
