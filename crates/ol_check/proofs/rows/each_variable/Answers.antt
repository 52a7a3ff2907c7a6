use Prim.Native.Nat.{◌+◌}
use mathlib.Core.Path.{refl}
use native.Mathlib.Omega.{arith}
use Rattle.ol_tables.proofs.Walking.{ty_small}
use Rattle.ol_check.proofs.SpanLaws.{each_start, each_turn, each_done, each_end}
use Rattle.ol_check.proofs.rows.each_variable.Goals as goal

pub loop-i-init : goal.loop-i-init
loop-i-init g c = (omega arith, each_start)

pub visit-requires : goal.visit-requires
visit-requires g c = c.requires.taken _ _ _ c.loop-i-test.true c.loop-i.invariant.0

pub loop-i-preserved : goal.loop-i-preserved
loop-i-preserved g c =
    (omega (arith, c.loop-i.invariant.0, ty_small c.args.file.now (c.loop-i.next + 2), c.variable_end-next.ensures), each_turn c.loop-i.invariant.1 c.loop-i-test.true (record { shown = _; left = _; met = c.visit.ensures; shows = refl; leaves = refl }) c.variable_end-next.ensures)

pub returns : goal.returns
returns g c = record { ends = each_end c.loop-i.invariant.1 c.loop-i-test.false; visited = each_done c.loop-i.invariant.1 c.loop-i-test.false }
