use native.Mathlib.Omega.{arith}
use Rattle.ol_tables.specs.Table.{tab_of, rows_of}
use Rattle.ol_frame.proofs.Elements.{inside_arrays, gathered_none, gathered_turn, gathered_all}
use Rattle.ol_frame.proofs.arrays.gather.Goals as goal

pub loop-i-init : goal.loop-i-init
loop-i-init c = gathered_none (tab_of c.args.tab.now) (rows_of c.args.tab.now) c.args.k c.args.n c.args.c c.args.j c.args.arrays.now c.args.args.now

pub read_cell-v-requires : goal.read_cell-v-requires
read_cell-v-requires c = omega (arith, inside_arrays c.args.n c.args.c c.loop-i.i c.args.j c.loop-i-test.true c.requires.4, c.requires.5)

pub loop-i-preserved : goal.loop-i-preserved
loop-i-preserved c =
    gathered_turn c.loop-i.invariant _ c.read_cell-v.result c.passed.result c.loop-i-test.true c.requires.4 c.requires.6 c.read_cell-v.ensures c.passed.ensures.0 c.passed.ensures.1 c.write_cell.ensures

pub returns : goal.returns
returns c = gathered_all c.loop-i.invariant (omega arith) (omega arith)
