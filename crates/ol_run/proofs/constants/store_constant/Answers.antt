use mathlib.Core.Path.{refl, ap}
use Prim.Native.Nat.{ℕ, ◌+◌, ◌*◌}
use Rattle.ol_run.proofs.Constant.{stored}
use Rattle.ol_run.proofs.constants.store_constant.Goals as goal

pub returns : goal.returns
returns c =
    (refl, stored c.args.code c.args.count c.args.n (c.consts_from.result + 9 * c.args.n) c.args.from.now c.args.tab.now c.keep_cells.new.to c.put_two.new.tab (ap (λ (k : ℕ). k + 9 * c.args.n) c.consts_from.ensures) c.keep_cells.ensures c.put_two.ensures)
