use Rattle.std.proofs.Common.{rules, List, ℕ, ◌+◌, ◌++◌, get_or, take, drop, refl, sym, ap, ◌∙◌, arith}
use Rattle.relay_text.specs.Text.{decimal_word}
use Rattle.relay_text.specs.Lines.{with_indexes}
use Rattle.relay_text.proofs.Laws.{indexes_more, indexes_end, puts_on}
use Rattle.relay_text.proofs.answers.say_order.Goals as goal

pub loop-index-init : goal.loop-index-init
loop-index-init c =
    let piece = c.piece.ensures.appends in
    record { same_reference = refl; long = refl; room = omega (arith, piece.is); text = ap (λ (l : List ℕ). with_indexes l c.args.entries.now) piece.text; behind = λ n h. refl; on = omega arith }

pub loop-index-preserved : goal.loop-index-preserved
loop-index-preserved c =
    let loop = c.loop-index in
    let piece = c.piece-in-loop-index.ensures.appends in
    let number = c.number.ensures.appends in
    record {
      same_reference = c.number.ensures.same_reference ∙ c.piece-in-loop-index.ensures.same_reference ∙ loop.invariant.same_reference;
      long = number.long ∙ piece.long ∙ loop.invariant.long;
      room = omega (arith, piece.is, c.number.ensures.short, loop.invariant.room);
      text = ap (λ (l : List ℕ). with_indexes l (drop (loop.index-index + 1) c.args.entries.now)) (number.text ∙ ap (λ (l : List ℕ). l ++ decimal_word (get_or c.args.entries.now loop.index-index 0)) piece.text)
          ∙ sym (indexes_more (take loop.answer.length loop.answer.out.now) c.args.entries.now loop.index-index c.loop-index-test.true) ∙ loop.invariant.text;
      behind = λ n h. number.behind n h ∙ piece.behind n (omega (arith, number.is, h)) ∙ loop.invariant.behind n (omega (arith, number.is, piece.is, h));
      on = omega (arith, number.is, piece.is, loop.invariant.on);
    }

pub returns : goal.returns
returns c =
    let loop = c.loop-index in
    let text = indexes_end (take loop.answer.length loop.answer.out.now) c.args.entries.now loop.index-index c.loop-index-test.false ∙ loop.invariant.text in
    puts_on _ _ _ _ _ _ _ _ _ c.piece.ensures.appends loop.invariant.on loop.invariant.behind c.end.ensures.appends text c.end.ensures.is (omega (arith, c.end.ensures.appends.is, c.end.ensures.appends.long, loop.invariant.room, loop.invariant.long, c.piece.ensures.appends.long)) (search rules)
