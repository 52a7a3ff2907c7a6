use Rattle.ol_sim.proofs.Chain.{no_place}
use Rattle.ol_sim.proofs.Steps.{arrays_ready}
use Rattle.ol_sim.proofs.judge.Judging.shapes.Goals as goal

pub arrays-requires-clause-arrays_ready : goal.arrays-requires-clause-arrays_ready
arrays-requires-clause-arrays_ready c =
    let h = c.requires.shapes_ready in
    let no7 = no_place 7 c.args.found.unseen c.in_ok-refuse_at.ensures h.are.unseen in
    let no8 = no_place 8 c.args.found.again c.in_ok-refuse_at-2.ensures (h.are.again no7) in
    let no9 = no_place 9 c.args.found.called c.in_ok-refuse_at-3.ensures h.are.called in
    let no10 = no_place 10 c.args.found.shaped c.in_ok-refuse_at-4.ensures h.are.shaped in
    arrays_ready h no7 no8 no9 no10
