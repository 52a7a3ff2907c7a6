use mathlib.Core.Path.{◌≡◌}
use Prim.Native.Nat.{◌-◌, ◌*◌}
use native.Mathlib.Omega.{arith}
use lib.ListN.{length, take, drop, length-drop}
use lib.Seq.{take_all}
use Rattle.ol_frame.proofs.Storing.{values_copied}
use Rattle.ol_frame.proofs.frame.Frame.copy_outputs.Goals as goal

pub returns : goal.returns
returns c =
    let cells = c.args.self.now.cells.now in
    let behind = drop (9 * c.args.inputs) cells in
    let n = length-drop (9 * c.args.inputs) cells in
    let e : take (length cells - 9 * c.args.inputs) behind ≡ behind = take_all (length cells - 9 * c.args.inputs) behind (omega (arith, n)) in
    values_copied 0 c.args.outputs behind c.args.args.now _ (omega arith) (omega (arith, c.requires.0, c.requires.2, n)) c.requires.3 (rw e at c.copy_cells.ensures)
