use native.Mathlib.Omega.{arith}
use Rattle.ol_frame.proofs.Passing.{rest_start, met_below, met_room, met_on, rest_done}
use Rattle.ol_frame.proofs.skip.pass_all.Goals as goal

pub loop-c-init : goal.loop-c-init
loop-c-init c =
    let f = c.args.file.now in
    let p = c.requires.0 in
    rest_start f p

pub row-used-requires : goal.row-used-requires
row-used-requires c =
    let f = c.args.file.now in
    let p = c.requires.0 in
    (c.requires.1, omega (arith, met_below f c.loop-c.invariant c.in-Found.ensures, p.sized.few), omega arith)

pub overflow_add-used : goal.overflow_add-used
overflow_add-used c =
    let f = c.args.file.now in
    let p = c.requires.0 in
    omega (arith, met_room f c.loop-c.invariant c.in-Found.ensures p.sized p.room, c.row-used.ensures)

pub loop-c-smaller : goal.loop-c-smaller
loop-c-smaller c =
    let f = c.args.file.now in
    omega (arith, c.in-Found.ensures.onward, c.in-Found.ensures.inside)

pub loop-c-preserved : goal.loop-c-preserved
loop-c-preserved c =
    let f = c.args.file.now in
    let p = c.requires.0 in
    met_on f c.loop-c.invariant c.in-Found.ensures p.sized p.room c.row-used.ensures

pub returns-in-End : goal.returns-in-End
returns-in-End c =
    let f = c.args.file.now in
    rest_done f c.loop-c.invariant c.in-End.ensures
