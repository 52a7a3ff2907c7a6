use Prim.Native.Nat.{◌+◌}
use mathlib.Core.Path.{◌≡◌, sym, ap, ◌∙◌}
use native.Mathlib.Omega.{arith}
use lib.ListN.{length, set}
use lib.Seq.{sets}
use Rattle.ol_order.specs.Tables.{waited}
use Rattle.ol_order.specs.Equations.{those}
use Rattle.ol_order.proofs.Turns.{as_many, equation_here}
use Rattle.ol_order.proofs.Waiting.{recording_room, recording_turn, recording_end}
use Rattle.ol_order.proofs.lookup.Lookup.record_all.Goals as goal

pub record_one-n-requires : goal.record_one-n-requires
record_one-n-requires g c =
    let e = c.args.self.equations in
    let here = equation_here e.file.now e.limits e.enums e.starts.now c.loop-k.k c.loop-k-test.true in
    (omega arith, (c.loop-k-test.true, omega (arith, recording_room (those e) c.loop-k.invariant (omega (arith, c.loop-k-test.true, as_many e.file.now e.limits e.enums e.starts.now)), ap (λ q. length (waited (those e) q)) here)))

pub loop-k-preserved : goal.loop-k-preserved
loop-k-preserved g c =
    let e = c.args.self.equations in
    let here = equation_here e.file.now e.limits e.enums e.starts.now c.loop-k.k c.loop-k-test.true in
    recording_turn (those e) c.loop-k.invariant (omega (arith, c.loop-k-test.true, as_many e.file.now e.limits e.enums e.starts.now))
    (c.record_one-n.ensures.written ∙ ap (λ q. sets c.loop-k.lists c.loop-k.n (waited (those e) q)) (sym here))
    (c.record_one-n.ensures.end ∙ ap (λ q. c.loop-k.n + length (waited (those e) q)) (sym here))

pub returns : goal.returns
returns g c =
    let e = c.args.self.equations in
    let d = recording_end (those e) c.loop-k.invariant (omega (arith, as_many e.file.now e.limits e.enums e.starts.now)) in
    let z : c.loop-k.k ≡ length e.starts.now = omega arith in
    record { lists = d.0; begins = ap (λ i. set c.loop-k.begins i c.loop-k.n) (sym z) ∙ d.1 }
