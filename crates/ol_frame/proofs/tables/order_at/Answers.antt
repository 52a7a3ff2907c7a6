use mathlib.Core.Path.{◌≡◌, ap, ◌∙◌}
use native.Mathlib.Omega.{arith}
use Prim.Native.Nat.{◌+◌, ◌*◌}
use lib.ListN.{get_or}
use Rattle.ol_frame.proofs.Tabling.{tab_byte, tab_long}
use Rattle.ol_frame.proofs.tables.order_at.Goals as goal

pub bounds-tab-k : goal.bounds-tab-k
bounds-tab-k c = omega (arith, tab_long c.args.tab.now, c.requires.0, c.requires.1, c.requires.2)

pub returns : goal.returns
returns c =
    let t = c.args.tab.now in
    let i = c.args.k * 80 + c.args.j in
    let e : 1394 + c.args.k * 80 + c.args.j ≡ 1394 + i = omega arith in
    (c.from.ensures ∙ ap (λ n. get_or t n 0) e ∙ tab_byte t i, omega arith)
