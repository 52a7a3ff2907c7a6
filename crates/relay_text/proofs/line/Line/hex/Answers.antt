use Rattle.std.proofs.Common.{take, refl, sym, ◌∙◌, arith}
use Rattle.std.proofs.Common.{length-take}
use Rattle.relay_text.proofs.Laws.{appends_none, appends_both, appends_as, hexed_none, hexed_more, hexed_length, hexed_all}
use Rattle.relay_text.proofs.line.Line.hex.Goals as goal

pub loop-b-init : goal.loop-b-init
loop-b-init c = record { same_reference = refl; appends = appends_as _ _ _ _ (sym hexed_none) (appends_none c.args.self.now) }

pub piece-requires-in-loop-b : goal.piece-requires-in-loop-b
piece-requires-in-loop-b c =
    omega (arith, c.loop-b.invariant.appends.is, c.loop-b.invariant.appends.long, hexed_length (take c.loop-b.b-index c.args.bytes.now), length-take c.loop-b.b-index c.args.bytes.now)

pub loop-b-preserved : goal.loop-b-preserved
loop-b-preserved c =
    let loop = c.loop-b in
    record {
      same_reference = c.piece-in-loop-b.ensures.same_reference ∙ loop.invariant.same_reference;
      appends = appends_as _ _ _ _ (rw (c.glyph.ensures, c.glyph-in-loop-b.ensures) (sym (hexed_more c.args.bytes.now loop.b-index c.loop-b-test.true))) (appends_both _ _ _ _ _ loop.invariant.appends c.piece-in-loop-b.ensures.appends);
    }

pub returns-clause-appends : goal.returns-clause-appends
returns-clause-appends c = appends_as _ _ _ _ (rw (sym c.is_empty.ensures ∙ c.if-is_empty.false) (hexed_all c.args.bytes.now c.loop-b.b-index c.loop-b-test.false)) c.loop-b.invariant.appends

pub returns-clause-short : goal.returns-clause-short
returns-clause-short c =
    omega (arith, c.loop-b.invariant.appends.is, hexed_length (take c.loop-b.b-index c.args.bytes.now), length-take c.loop-b.b-index c.args.bytes.now)
