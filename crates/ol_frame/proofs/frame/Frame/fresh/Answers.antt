use mathlib.Core.Path.{refl}
use native.Mathlib.Omega.{arith}
use Rattle.ol_tables.specs.Table.{tab_of, rows_of}
use Rattle.ol_frame.proofs.Framing.{fresh_before, fresh_cells}
use Rattle.ol_frame.proofs.frame.Frame.fresh.Goals as goal

pub returns-clause-freshened : goal.returns-clause-freshened
returns-clause-freshened c =
    let t = tab_of c.args.tab.now in
    let r = rows_of c.args.tab.now in
    record {
      node = refl;
      first = refl;
      cells = fresh_cells t r c.args.k c.args.inputs c.args.args.now c.write_defaults-2.new.out _ _ c.requires.1 c.requires.5 (omega (arith, c.requires.3, c.write_defaults-2.auto.out)) c.write_defaults-2.ensures c.copy_cells.ensures;
      before = fresh_before t r c.args.k _ _ c.write_defaults.ensures;
    }
