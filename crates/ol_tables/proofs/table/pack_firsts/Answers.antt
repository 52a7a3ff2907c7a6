use Prim.Native.Nat.{◌+◌}
use mathlib.Core.Path.{◌≡◌, ap, ◌∙◌}
use native.Mathlib.Omega.{arith}
use Rattle.ol_tables.specs.Table.{number_put}
use Rattle.ol_tables.proofs.TableLaws.{packs_turn}
use Rattle.ol_tables.proofs.table.pack_firsts.Goals as goal

pub loop-e-preserved : goal.loop-e-preserved
loop-e-preserved c =
    let l = c.loop-e in
    let next : 256 + (l.e + 1) ≡ 256 + l.e + 1 = omega arith in
    rw next (packs_turn l.invariant (omega arith) (omega arith) (c.requires.2 (256 + l.e) (omega arith) (omega arith)) (omega arith) (c.put_number.ensures ∙ ap (number_put l.tab (256 + l.e)) c.first.ensures))
