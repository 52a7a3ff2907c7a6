use Rattle.ol_tables.specs.At.{file_at}
use native.Mathlib.Omega.{arith}
use Rattle.ol_check.proofs.KnownLaws.{put_none, put_variable, put_constant}
use Rattle.ol_check.proofs.judge.Judge.put_entry.Goals as goal

pub returns-then-e-eq-VARIANT : goal.returns-then-e-eq-VARIANT
returns-then-e-eq-VARIANT c = put_none (file_at c.args.self.now.file.now) c.args.self.now.node c.args.slots.now c.args.at c.args.e c.if-e-eq-VARIANT.either c.put_cell.ensures

pub returns-then-e-le-LAST_VARIABLE : goal.returns-then-e-le-LAST_VARIABLE
returns-then-e-le-LAST_VARIABLE c =
    put_variable (file_at c.args.self.now.file.now) c.args.self.now.node c.args.slots.now c.args.at c.args.e c.requires.known c.args.self.now.scalars c.if-e-eq-VARIANT.false.0 c.if-e-eq-VARIANT.false.1 c.if-e-le-LAST_VARIABLE.true c.put_name.ensures

pub returns-else-e-le-LAST_VARIABLE : goal.returns-else-e-le-LAST_VARIABLE
returns-else-e-le-LAST_VARIABLE c =
    put_constant (file_at c.args.self.now.file.now) c.args.self.now.node c.args.slots.now c.args.at c.args.e c.requires.known c.args.self.now.scalars c.if-e-eq-VARIANT.false.0 c.if-e-eq-VARIANT.false.1 c.requires.small.1 (omega (arith, c.if-e-le-LAST_VARIABLE.false)) c.put_name-else-e-le-LAST_VARIABLE.ensures
