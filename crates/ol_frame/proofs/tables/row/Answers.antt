use native.Mathlib.Omega.{arith}
use Prim.Native.Nat.{◌+◌, ◌*◌}
use Rattle.ol_tables.proofs.TableLaws.{rows_get}
use Rattle.ol_frame.proofs.tables.row.Goals as goal

pub returns : goal.returns
returns c =
    omega (arith, rows_get c.args.tab.now (c.args.k * 8 + c.args.j) (omega (arith, c.requires.1, c.requires.2)), c.from.ensures, c.from-2.ensures, c.from-3.ensures)
