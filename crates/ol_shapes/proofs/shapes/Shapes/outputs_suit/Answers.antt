use Prim.Native.Nat.{◌<◌}
use mathlib.Core.Path.{refl, ap₂, ◌∙◌}
use native.Mathlib.Omega.{arith}
use lib.ListN.{length}
use Rattle.ol_spec.specs.Admission.{takes, callee_in}
use Rattle.ol_tables.specs.At.{file_at}
use Rattle.ol_shapes.proofs.Naming.{places_of, name_place, suit_turn, suit_stop, suit_end, places_many, output_told}
use Rattle.ol_shapes.proofs.shapes.Shapes.outputs_suit.Goals as goal

pub loop-i-init : goal.loop-i-init
loop-i-init c = λ s xs sc kl cl t m o. refl

pub returns-then-not-takes : goal.returns-then-not-takes
returns-then-not-takes c =
    record {
      is = λ s xs sc kl cl t m o.
          let outs = (callee_in (file_at s) c.args.c).outputs in
          let a : c.loop-i.i < length xs = omega (arith, c.loop-i-test.true, m) in
          let b : c.loop-i.i < length outs = omega (arith, o, a) in
          let name = name_place c.loop-i.i sc kl t a c.name_place.ensures in
          let out = output_told sc c.args.c cl b c.output_shape.ensures in
          suit_stop (places_of s c.args.k xs) outs c.loop-i.i (c.loop-i.invariant s xs sc kl cl t m o) (omega (arith, a, places_many s c.args.k xs)) b (c.takes.ensures ∙ ap₂ takes name out) c.if-not-takes.true;
    }

pub loop-i-preserved : goal.loop-i-preserved
loop-i-preserved c =
    λ s xs sc kl cl t m o.
    let outs = (callee_in (file_at s) c.args.c).outputs in
    let a : c.loop-i.i < length xs = omega (arith, c.loop-i-test.true, m) in
    let b : c.loop-i.i < length outs = omega (arith, o, a) in
    let name = name_place c.loop-i.i sc kl t a c.name_place.ensures in
    let out = output_told sc c.args.c cl b c.output_shape.ensures in
    suit_turn (places_of s c.args.k xs) outs c.loop-i.i (c.loop-i.invariant s xs sc kl cl t m o) (omega (arith, a, places_many s c.args.k xs)) b (c.takes.ensures ∙ ap₂ takes name out) c.if-not-takes.false

pub returns : goal.returns
returns c =
    record {
      is = λ s xs sc kl cl t m o.
          suit_end (places_of s c.args.k xs) (callee_in (file_at s) c.args.c).outputs c.loop-i.i (c.loop-i.invariant s xs sc kl cl t m o) (omega (arith, c.loop-i-test.false, m, places_many s c.args.k xs));
    }
