use mathlib.Core.Path.{subst}
use Prim.Native.Nat.{ℕ}
use Rattle.ol_frame.specs.Stores.{Leaves}
use Rattle.ol_frame.proofs.Storing.{one_output, other_outputs, failed_call, overflowed_call}
use Rattle.ol_frame.proofs.copies.single_out.Goals as goal

pub read_cell-requires : goal.read_cell-requires
read_cell-requires c =
    c.requires

pub returns-in-Values : goal.returns-in-Values
returns-in-Values c =
    let cells = c.args.cells.now in
    λ os h. one_output os c.args.end c.read_cell.result cells c.in-Values.is c.read_cell.ensures (subst (λ (n : ℕ). Leaves os c.args.end n cells) c.if-outputs-eq1.true h)

pub returns-in-Values-2 : goal.returns-in-Values-2
returns-in-Values-2 c =
    let cells = c.args.cells.now in
    λ os h. other_outputs os c.args.end c.args.outputs cells c.in-Values-2.is c.if-outputs-eq1.false h

pub returns-in-Failed : goal.returns-in-Failed
returns-in-Failed c =
    let cells = c.args.cells.now in
    λ os h. failed_call os c.args.end _ c.args.outputs cells c.in-Failed.is h

pub returns-in-Overflowed : goal.returns-in-Overflowed
returns-in-Overflowed c =
    let cells = c.args.cells.now in
    λ os h. overflowed_call os c.args.end c.args.outputs cells c.in-Overflowed.is h
